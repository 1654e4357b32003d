use Rattle.std.proofs.Common.{◌≡◌, ◌<◌, length, option_map, sym, ◌∙◌, ap}
use Rattle.hl_media.specs.Racks.{volume_at, volume_in}
use Rattle.hl_media.proofs.RackLaws.{volume_at_place}
use Rattle.hl_media.proofs.rack.Rack.take.Goals as goal

pub returns-clause-taken : goal.returns-clause-taken
returns-clause-taken g c =
    let r = c.index_mut.result.now in
    let there : c.args.n < length c.self.inside.bays.items = rw c.self.view_is c.requires in
    let at = volume_at_place c.self.inside.bays.items c.args.n r there c.index_mut.ensures.value in
    let of : volume_at c.args.self.now c.args.n ≡ volume_in c.replace-bay.result = rw (← c.self.view_is) (at ∙ ap volume_in (sym c.replace-bay.ensures.value)) in
    c.loaded_from.ensures ∙ sym (ap (option_map (λ volume. record { number = c.args.n; volume = volume })) of)
