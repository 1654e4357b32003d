use Rattle.std.proofs.Common.{◌≡◌, ◌++◌, map, take, drop}
use Rattle.hl_lines.specs.Lines.{unstuck}
use Rattle.hl_lines.proofs.table.unstick_all.Given as goal

abbrev pub invariant-lines : goal.invariant-lines
invariant-lines l = l.states ≡ map unstuck (take l.state-index l.fn.states) ++ drop l.state-index l.fn.states
