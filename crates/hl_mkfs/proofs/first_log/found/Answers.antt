use Rattle.std.proofs.Common.{ap}
use Rattle.hl_mkfs.specs.Parts.{log_start}
use Rattle.hl_mkfs.proofs.FirstCuts.{start_place}
use Rattle.hl_mkfs.proofs.Joining.{blank_stops, opened_founds}
use Rattle.hl_mkfs.proofs.first_log.found.Goals as goal

pub open-requires-clause-head : goal.open-requires-clause-head
open-requires-clause-head g c = start_place c.args.geometry.now c.requires.supplies.limits

pub returns-in-Err-clause-crash : goal.returns-in-Err-clause-crash
returns-in-Err-clause-crash g c = blank_stops c.args.geometry.now (g.M.Machine.blocks c.args.machine) (g.M.Machine.history c.args.machine) (g.M.Machine.history c.in-Err.machine) (ap g.M.Machine.history c.in-Err.ensures.back)

pub returns-in-Ok-fill_log-clause-founded : goal.returns-in-Ok-fill_log-clause-founded
returns-in-Ok-fill_log-clause-founded g c =
    opened_founds g.M.Machine.history c.args.machine c.args.geometry.now c.args.supplies.start log_start 1 c.in-Ok.log c.in-Ok.ensures.opened c.fill_log.new.log.machine c.into_machine.result c.into_machine.ensures
    (c.in-Ok-fill_log.ensures {u = tt}).founded
