use Rattle.hl_files.proofs.ReleasedCalls.{released_call}
use Rattle.hl_files.proofs.TreeCalls.{does_on_files}
use Rattle.hl_files.proofs.calling.call.Goals as goal

pub returns-clause-made : goal.returns-clause-made
returns-clause-made g c = released_call g.M.Machine.history g.M.Machine.faults c.args.store.now c.make-step.new.store c.release.new.self
    c.make-step.ensures.machine.unchanged c.release.ensures c.args.now c.args.call.now c.make-step.result c.make-step.ensures.made

pub returns-clause-files : goal.returns-clause-files
returns-clause-files g c = does_on_files g.M.Machine.history g.M.Machine.faults c.args.store.now c.release.new.self
    c.know_site.ensures c.args.now c.args.call.now c.know_names.ensures c.make-step.result (returns-clause-made g c)
