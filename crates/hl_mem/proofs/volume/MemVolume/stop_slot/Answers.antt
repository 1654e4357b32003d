use Rattle.std.proofs.Common.{◌≡◌, ◌<◌, ℕ, List, [], length, get_or, sym, ◌∙◌, ap, subst}
use Rattle.hl_media.specs.Volumes.{volume_at_moment}
use Rattle.hl_mem.specs.Transfers.{ToldVolume, TriedCall, torn_slot, volume_history}
use Rattle.hl_mem.proofs.SlotStops.{torn_slot_may}
use Rattle.hl_mem.proofs.VolumeKept.{get_or_there, may_be_left}
use Rattle.hl_mem.proofs.volume.MemVolume.stop_slot.Goals as goal

pub returns-clause-may : goal.returns-clause-may
returns-clause-may c =
    let told = c.args.self.now in
    let m = c.args.moment in
    let slot = c.args.slot in
    let opening : c.self.inside.opening.items ≡ told.opening = ap (λ (t : ToldVolume). t.opening) c.self.view_is in
    let there : slot < length c.self.inside.opening.items = subst (λ (l : List (List ℕ)). slot < length l) (sym opening) c.requires.there in
    let first = get_or_there c.self.inside.opening.items slot c.index.result.now there c.index.ensures in
    let is : torn_slot c.args.tear slot c.index.result.now c.self.inside.transfers m ≡ torn_slot c.args.tear slot (get_or told.opening slot []) told.calls m =
    ap (λ (l : List ℕ). torn_slot c.args.tear slot l c.self.inside.transfers m) (sym first ∙ ap (λ (l : List (List ℕ)). get_or l slot []) opening)
    ∙ ap (λ (l : List TriedCall). torn_slot c.args.tear slot (get_or told.opening slot []) l m) (ap (λ (t : ToldVolume). t.calls) c.self.view_is) in
    may_be_left c.stop_slot.result (volume_at_moment (volume_history told) m) slot _ _ c.stop_slot.ensures is
    (torn_slot_may c.args.tear slot (λ n. get_or told.opening n []) told.calls m)
