use Rattle.std.proofs.Common.{drop}
use Rattle.hl_walk.proofs.WalkSteps.{Walked}
use Rattle.hl_walk.proofs.walk.find_number.Given as goal

-- the names passed lead to the number
abbrev pub invariant-names : goal.invariant-names
invariant-names g l =
    Walked {M = g.row.M.Denot} g.M.Machine.history g.M.Machine.blocks g.M.Machine.faults g.M.Machine.write_faults g.M.Machine.say_faults
    l.fn.store l.store l.path (drop l.name-index l.path) l.number
