use Rattle.std.proofs.Common.{◌≤◌, length, arith}
use Rattle.hl_bytes.proofs.PageLemmas.{is_page_over_by, page_over_zero}
use Rattle.hl_bytes.proofs.pages.is_page_over.Goals as goal

pub returns-then-is_zero : goal.returns-then-is_zero
returns-then-is_zero c =
    let le : c.args.end ≤ length c.args.bytes.now = omega arith in
    (λ t. is_page_over_by c.args.bytes.now c.args.end le (c.is_zero.ensures.0 c.if-is_zero.true) (c.is_sealed_over.ensures.0 t), λ e. c.is_sealed_over.ensures.1 (page_over_zero c.args.bytes.now c.args.end le c.requires.within e).1)

pub returns-else-is_zero : goal.returns-else-is_zero
returns-else-is_zero c =
    let le : c.args.end ≤ length c.args.bytes.now = omega arith in
    (λ f. absurd cc, λ e. let t = c.is_zero.ensures.1 (page_over_zero c.args.bytes.now c.args.end le c.requires.within e).0 in absurd cc)
