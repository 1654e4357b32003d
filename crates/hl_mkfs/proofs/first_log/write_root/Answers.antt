use Rattle.std.proofs.Common.{⊎_elim}
use Rattle.hl_mkfs.proofs.Rooting.{root_ends, root_enough, root_position, root_runs}
use Rattle.hl_mkfs.proofs.first_log.write_root.Goals as goal

pub unreachable-requires : goal.unreachable-requires
unreachable-requires g c =
    let log = c.args.log.now in
    ⊎_elim
    (λ full. (let ends = rw full at c.write_unit.ensures.ends in ends.0 (root_enough log.geometry c.requires.limits (g.M.Machine.history log.machine) (g.M.Machine.history c.write_unit.new.self.machine) log.at _ c.requires.at c.requires.unit)))
    (λ memory. rw memory at c.write_unit.ensures.ends)
    c.in-LogFull.is

pub returns-in-Written-clause-rooted : goal.returns-in-Written-clause-rooted
returns-in-Written-clause-rooted g c =
    let log = c.args.log.now in
    let w = c.in-Written.ensures.ends.1 in
    root_ends log.geometry c.requires.limits _ _ log.at _ c.requires.at c.requires.unit c.write_unit.new.self.at c.in-Written.used
    (root_position log.geometry c.requires.limits (g.M.Machine.history log.machine) (g.M.Machine.history c.write_unit.new.self.machine) log.at _ c.requires.at c.requires.unit c.write_unit.new.self.at c.in-Written.used w.at w.goes_on) w.written w.succeeded.synced

pub returns-in-Written-clause-at : goal.returns-in-Written-clause-at
returns-in-Written-clause-at g c =
    let log = c.args.log.now in
    let w = c.in-Written.ensures.ends.1 in
    root_position log.geometry c.requires.limits (g.M.Machine.history log.machine) (g.M.Machine.history c.write_unit.new.self.machine) log.at _ c.requires.at c.requires.unit c.write_unit.new.self.at c.in-Written.used w.at w.goes_on

pub returns-in-Written-clause-crash : goal.returns-in-Written-clause-crash
returns-in-Written-clause-crash g c =
    let log = c.args.log.now in
    root_runs log.geometry c.requires.limits _ _ log.at _ c.requires.at c.requires.unit _ c.in-Written.ensures.crash

pub returns-in-DiskFault-clause-crash : goal.returns-in-DiskFault-clause-crash
returns-in-DiskFault-clause-crash g c =
    let log = c.args.log.now in
    root_runs log.geometry c.requires.limits _ _ log.at _ c.requires.at c.requires.unit _ c.in-DiskFault.ensures.crash
