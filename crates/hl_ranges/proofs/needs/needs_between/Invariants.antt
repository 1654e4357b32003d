use Rattle.hl_placed.specs.Changes.{meets}
use Rattle.hl_ranges.proofs.NeedRuns.{NeedsSoFar}
use Rattle.hl_ranges.proofs.needs.needs_between.Given as goal

-- the blocks before this one
abbrev pub invariant-each : goal.invariant-each
invariant-each g l = NeedsSoFar g.M.Machine.history g.M.Machine.blocks g.M.Machine.faults g.M.Machine.write_faults g.M.Machine.say_faults
    l.fn.store l.store l.ino (λ file. meets l.at l.end) l.fn.tsegs.items l.tsegs.items l.i
