use Rattle.std.proofs.Common.{arith}
use Rattle.hl_summary.proofs.ReadingLemmas.{tested, tests}
use Rattle.hl_summary.proofs.reading.is_part.Goals as goal

pub returns : goal.returns
returns c =
    let g = c.args.geometry.now in
    let part = c.args.part.now in (
      λ t. tested g c.args.seg c.args.block c.args.serial part c.requires (λ i. omega (arith, c.type_inv.part i)) (c.is_tested.ensures.0 t),
      λ p. c.is_tested.ensures.1 (tests g c.args.seg c.args.block c.args.serial part p),
    )
