use Rattle.std.proofs.Common.{◌≡◌, ◌<◌, length, None, Some, sym, ◌∙◌, ap}
use Rattle.hl_media.specs.Racks.{volume_at, volume_in}
use Rattle.hl_media.specs.declared.bay.Bay.TheVariants.{Holds}
use Rattle.hl_media.proofs.RackLaws.{volume_at_place}
use Rattle.hl_media.proofs.rack.Rack.give.Goals as goal

pub unreachable-requires : goal.unreachable-requires
unreachable-requires g c =
    let r = c.index_mut.result.now in
    let there : c.args.loaded.number < length c.self.inside.bays.items = rw c.self.view_is c.requires.there in
    let at = volume_at_place c.self.inside.bays.items c.args.loaded.number r there c.index_mut.ensures.value in
    let held : r ≡ Holds c.in-Holds.field-0 = sym c.replace.ensures.value ∙ c.in-Holds.is in
    let out : volume_at c.self.inside.bays.items c.args.loaded.number ≡ None = rw c.self.view_is c.requires.out in
    let no : None ≡ Some c.in-Holds.field-0 = sym out ∙ at ∙ ap volume_in held in
    cc
