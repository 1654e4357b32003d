use Rattle.std.proofs.Common.{refl}
use Rattle.hl_bytes.proofs.Places.{part_zero}
use Rattle.hl_bytes.proofs.fields.is_zero.Goals as goal

pub returns : goal.returns
returns c =
    let p = part_zero c.args.bytes.now c.args.at c.args.end _ c.requires.order c.requires.within refl in
    (λ t. p.0 (c.all_zero.ensures.0 t), λ e. c.all_zero.ensures.1 (p.1 e))
