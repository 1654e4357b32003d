use Rattle.std.proofs.Common.{◌∙◌}
use Rattle.hl_log.proofs.Silence.{silent_then}
use Rattle.hl_mkfs.specs.Answers.{machine_of}
use Rattle.hl_mkfs.specs.Stages.{IsBare}
use Rattle.hl_mkfs.proofs.Building.{founds_runs, label_ends_on, label_runs_on}
use Rattle.hl_mkfs.proofs.Joining.{none_weaker}
use Rattle.hl_mkfs.proofs.making.build.Goals as goal

pub returns-in-Err-clause-crash : goal.returns-in-Err-clause-crash
returns-in-Err-clause-crash g c = none_weaker IsBare (g.M.Machine.blocks c.args.machine) c.args.geometry.now (g.M.Machine.history c.args.machine) (g.M.Machine.history c.clear_log.new.machine) c.clear_log.ensures.crash

pub returns-in-Ok-clause-made : goal.returns-in-Ok-clause-made
returns-in-Ok-clause-made g c =
    label_ends_on c.args.geometry.now (g.M.Machine.blocks c.args.machine) (g.M.Machine.history c.args.machine) (g.M.Machine.history c.clear_log.new.machine) c.clear_log.ensures.crash (c.in_default.ensures {u = tt}).blank
    (g.M.Machine.blocks c.clear_log.new.machine) c.clear_log.ensures.blocks (g.M.Machine.history c.in-Ok.machine) (c.in-Ok.ensures {u = tt}).crash (c.in-Ok.ensures {u = tt}).founded
    g.M.Machine.history (g.M.Machine.blocks c.in-Ok.machine) ((c.in-Ok.ensures {u = tt}).blocks ∙ c.clear_log.ensures.blocks) c.finish.result c.finish.ensures.crash c.finish.ensures.made

pub returns-in-Ok-clause-crash : goal.returns-in-Ok-clause-crash
returns-in-Ok-clause-crash g c =
    label_runs_on c.args.geometry.now (g.M.Machine.blocks c.args.machine) (g.M.Machine.history c.args.machine) (g.M.Machine.history c.clear_log.new.machine) c.clear_log.ensures.crash (c.in_default.ensures {u = tt}).blank
    (g.M.Machine.blocks c.clear_log.new.machine) c.clear_log.ensures.blocks (g.M.Machine.history c.in-Ok.machine) (c.in-Ok.ensures {u = tt}).crash (c.in-Ok.ensures {u = tt}).founded
    (g.M.Machine.blocks c.in-Ok.machine) ((c.in-Ok.ensures {u = tt}).blocks ∙ c.clear_log.ensures.blocks) (g.M.Machine.history (machine_of c.finish.result)) c.finish.ensures.crash

pub returns-in-Ok-clause-silent : goal.returns-in-Ok-clause-silent
returns-in-Ok-clause-silent g c =
    silent_then (g.M.Machine.history c.args.machine) (g.M.Machine.history c.in-Ok.machine) (g.M.Machine.history (machine_of c.finish.result))
    (silent_then (g.M.Machine.history c.args.machine) (g.M.Machine.history c.clear_log.new.machine) (g.M.Machine.history c.in-Ok.machine) c.clear_log.ensures.silent (c.in-Ok.ensures {u = tt}).silent) c.finish.ensures.silent

pub returns-in-Err-found-clause-crash : goal.returns-in-Err-found-clause-crash
returns-in-Err-found-clause-crash g c =
    founds_runs c.args.geometry.now (g.M.Machine.blocks c.args.machine) (g.M.Machine.history c.args.machine) (g.M.Machine.history c.clear_log.new.machine) c.clear_log.ensures.crash (c.in_default.ensures {u = tt}).blank
    (g.M.Machine.blocks c.clear_log.new.machine) c.clear_log.ensures.blocks (g.M.Machine.history c.in-Err-found.refused.1) (c.in-Err-found.ensures {u = tt}).crash

pub returns-in-Err-found-clause-silent : goal.returns-in-Err-found-clause-silent
returns-in-Err-found-clause-silent g c =
    silent_then (g.M.Machine.history c.args.machine) (g.M.Machine.history c.clear_log.new.machine) (g.M.Machine.history c.in-Err-found.refused.1) c.clear_log.ensures.silent (c.in-Err-found.ensures {u = tt}).silent
