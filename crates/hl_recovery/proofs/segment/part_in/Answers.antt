use Rattle.std.proofs.Common.{◌≡◌, ℕ, ◌-◌, ap, ◌∙◌}
use Rattle.hl_bytes.specs.Buffers.{part_of}
use Rattle.hl_addr.specs.Layout.{Layout}
use Rattle.hl_recovery.proofs.SegmentReads.{part_found}
use Rattle.hl_recovery.proofs.segment.part_in.Goals as goal

pub returns-clause-found : goal.returns-clause-found
returns-clause-found c =
    let k : c.geometry.inside.k ≡ c.args.geometry.now.k = ap (λ (l : Layout). l.k) c.geometry.view_is in
    part_found c.args.geometry.now c.args.bytes.now c.requires.size c.args.at c.args.serial c.part-part.result.now
    (c.part-part.ensures.value ∙ ap (λ (n : ℕ). part_of c.args.bytes.now c.args.at.block (n - c.args.at.block)) k) c.check.result c.check.ensures.found
