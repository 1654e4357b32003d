use Rattle.std.proofs.Common.{◌≡◌, length, sym, ◌∙◌, arith}
use Rattle.std.proofs.lemmas.List.Sums.{position_or_len_is}
use Rattle.hl_lines.specs.Lines.{is_empty}
use Rattle.hl_lines.specs.declared.state.LineState.TheVariants.{Empty}
use Rattle.hl_lines.proofs.table.next_empty.Goals as goal

pub returns : goal.returns
returns c =
    let end : c.lines.line ≡ length c.args.states.now = omega (arith, c.lines-test.false, c.requires.within) in
    sym (position_or_len_is is_empty c.args.states.now (length c.args.states.now) Empty (omega arith) (λ k lt. c.lines.invariant k (omega (arith, lt, end))) (λ lt. absurd (omega (arith, lt))))

pub returns-then-is_empty : goal.returns-then-is_empty
returns-then-is_empty c = sym (position_or_len_is is_empty c.args.states.now c.lines.line Empty (omega arith) c.lines.invariant (λ lt. sym c.is_empty.ensures ∙ c.if-is_empty.true))
