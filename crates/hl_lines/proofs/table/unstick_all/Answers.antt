use Rattle.std.proofs.Common.{◌∙◌, ◌<◌, length, set, get_or, ap, arith}
use Rattle.std.proofs.lemmas.List.{get_or_default}
use Rattle.std.proofs.lemmas.List.Edits.{map_over_more}
use Rattle.hl_lines.specs.Lines.{unstuck}
use Rattle.hl_lines.specs.declared.state.LineState.{LineState}
use Rattle.hl_lines.specs.declared.state.LineState.TheVariants.{Empty}
use Rattle.hl_lines.proofs.table.unstick_all.Goals as goal

pub lines-preserved : goal.lines-preserved
lines-preserved c =
    let old = c.args.states.now in
    let ys = c.lines.states in
    let i = c.lines.state-index in
    let x : LineState = get_or ys i Empty in
    let within : i < length ys = omega (arith, c.lines-test.true, c.lines.auto.states) in
    ap (set ys i) c.unstuck.ensures ∙ map_over_more unstuck old ys i x c.lines-test.true c.lines.invariant (get_or_default ys i Empty x within)
