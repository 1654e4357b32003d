use Rattle.std.proofs.Common.{◌≡◌, ◌++◌, take}
use Rattle.hl_script.specs.Answer.{printed_name}
use Rattle.hl_script.proofs.print.push_name.Given as goal

abbrev pub invariant-loop-b : goal.invariant-loop-b
invariant-loop-b l = l.out.items ≡ l.fn.out.items ++ printed_name (take l.b-index l.name)
