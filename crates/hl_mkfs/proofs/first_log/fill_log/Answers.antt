use Rattle.hl_log.proofs.Silence.{silent_then}
use Rattle.hl_mkfs.proofs.Joining.{fill_founds, fill_stops}
use Rattle.hl_mkfs.proofs.first_log.fill_log.Goals as goal

pub returns-in-Ok-clause-founded : goal.returns-in-Ok-clause-founded
returns-in-Ok-clause-founded g c =
    fill_founds c.args.log.now.geometry c.write_root.new.log.geometry c.write_root.ensures.geometry (g.M.Machine.history c.args.log.now.machine) (g.M.Machine.history c.write_root.new.log.machine)
    (g.M.Machine.history c.write_tables.new.log.machine) (c.in-Ok.ensures {u = tt}).rooted _ c.write_tables.result c.write_tables.ensures.crash c.write_tables.ensures.founded

pub returns-in-Ok-clause-crash : goal.returns-in-Ok-clause-crash
returns-in-Ok-clause-crash g c =
    fill_stops c.args.log.now.geometry c.write_root.new.log.geometry c.write_root.ensures.geometry (g.M.Machine.history c.args.log.now.machine) (g.M.Machine.history c.write_root.new.log.machine)
    (g.M.Machine.history c.write_tables.new.log.machine) (c.in-Ok.ensures {u = tt}).rooted (g.M.Machine.blocks c.args.log.now.machine) (g.M.Machine.blocks c.write_root.new.log.machine) c.write_root.ensures.blocks c.write_root.ensures.crash c.write_tables.ensures.crash

pub returns-in-Ok-clause-silent : goal.returns-in-Ok-clause-silent
returns-in-Ok-clause-silent g c =
    silent_then (g.M.Machine.history c.args.log.now.machine) (g.M.Machine.history c.write_root.new.log.machine) (g.M.Machine.history c.write_tables.new.log.machine) c.write_root.ensures.silent c.write_tables.ensures.silent
