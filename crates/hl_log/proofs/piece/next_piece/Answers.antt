use Rattle.std.proofs.Common.{◌≡◌, ℕ, drop, subst, sym, ◌∙◌}
use Rattle.hl_log.specs.Cut.{Goes}
use Rattle.hl_log.proofs.piece.next_piece.Goals as goal

pub returns-in-None : goal.returns-in-None
returns-in-None c = λ p more t.
    let same : p.blocks ≡ c.blocks_taken-blocks.result = t.blocks_are ∙ sym c.blocks_taken-blocks.ensures in
    c.in-None.ensures p.next more (subst (λ (n : ℕ). Goes c.args.geometry.now c.args.left.at n (drop c.args.left.used c.args.clean.now) p.next more) same t.goes)
