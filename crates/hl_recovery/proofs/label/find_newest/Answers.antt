use Rattle.hl_media.specs.History.{MachineState, content}
use Rattle.hl_recovery.specs.Finding.{FindsRecord}
use Rattle.hl_recovery.proofs.ReadRuns.{both_read, seen_before}
use Rattle.hl_recovery.proofs.SiteReads.{newest_named}
use Rattle.hl_recovery.proofs.label.find_newest.Goals as goal

pub returns-in_err-second-clause-machine : goal.returns-in_err-second-clause-machine
returns-in_err-second-clause-machine g c =
    both_read c.args.machine.now c.find_record.new.machine c.find_record-2.new.machine c.in_ok-first.ensures.machine c.in_err-second.ensures.machine

pub returns-clause-found : goal.returns-clause-found
returns-clause-found g c = λ h e.
    newest_named c.args.label.now (content h) c.in_ok-first.first c.in_ok-second.second c.newest.result c.newest.ensures.value (c.in_ok-first.ensures.found h e)
    (seen_before (g.M.Machine.history c.args.machine.now) (g.M.Machine.history c.find_record.new.machine) (λ (s : MachineState). FindsRecord 2 c.args.label.now s.content c.in_ok-second.second)
    c.in_ok-first.ensures.machine.unchanged c.in_ok-second.ensures.found h e)

pub returns-clause-machine : goal.returns-clause-machine
returns-clause-machine g c =
    both_read c.args.machine.now c.find_record.new.machine c.find_record-2.new.machine c.in_ok-first.ensures.machine c.in_ok-second.ensures.machine
