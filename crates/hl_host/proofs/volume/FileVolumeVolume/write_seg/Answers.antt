use Rattle.std.proofs.Common.{◌≡◌, ◌*◌, ℕ, List, Option, length, subst}
use Rattle.hl_host.specs.Places.{ChangesAt}
use Rattle.hl_host.specs.Devices.{told_of}
use Rattle.hl_host.proofs.PlaceLaws.{changes_none}
use Rattle.hl_host.proofs.volume.FileVolumeVolume.write_seg.Goals as goal

pub returns-then-blocks-self-clause-some : goal.returns-then-blocks-self-clause-some
returns-then-blocks-self-clause-some g c =
    let told = told_of g.F.PositionalFile.content c.args.self.now.file in
    let from = 4096 * c.args.self.now.slot_blocks * c.args.slot in
    let n = length c.args.from.now in
    let same : told ≡ told_of g.F.PositionalFile.content c.self.inside.file = cc in
    subst (λ (o : Option (List ℕ)). ChangesAt told o from n) same (changes_none told from n)
