use Rattle.std.proofs.Common.{◌≤◌, ◌<◌, ap, ◌∙◌, subst, arith}
use Rattle.std.specs.Prelude.{None, Some}
use Rattle.std.specs.List.{slice_index_or}
use Rattle.hl_addr.specs.Layout.{IsWithinLimits, Layout}
use Rattle.hl_media.specs.History.{content}
use Rattle.hl_media.specs.Moments.{Now}
use Rattle.hl_tseg.specs.SlotTable.{SlotTable}
use Rattle.hl_survey.proofs.Unchanged.{reads_then}
use Rattle.hl_staged.specs.Ends.{TellsNumber}
use Rattle.hl_staged.proofs.EndsTold.{end_more, ends_broken, ends_kept, told_before}
use Rattle.hl_staged.proofs.ends.check_ends.Goals as goal

pub returns-in_err-block-clause-machine : goal.returns-in_err-block-clause-machine
returns-in_err-block-clause-machine g c = reads_then c.numbers.invariant.reads c.off_number.ensures.machine

pub returns-in-Some-clause-machine : goal.returns-in-Some-clause-machine
returns-in-Some-clause-machine g c = reads_then c.numbers.invariant.reads c.off_number.ensures.machine

pub returns-in-Some-clause-told : goal.returns-in-Some-clause-told
returns-in-Some-clause-told g c = λ h e are rec parts.
    let geometry = c.args.geometry.now in
    let found = c.args.found.now in
    let before = g.M.Machine.history c.args.machine.now in
    let lt : c.numbers.ino < geometry.inodes = omega (arith, c.numbers-test.true, ap (λ (l : Layout). l.inodes) c.geometry.view_is) in
    let told = subst (λ (x : SlotTable). Now (g.M.Machine.history c.numbers.machine) (λ s. TellsNumber geometry x s.content (slice_index_or found c.numbers.ino None) c.in_ok-block.field-0)) c.slots.ensures c.in_ok-block.ensures.told in
    ends_broken geometry c.args.tables.now (content h) rec parts found are c.numbers.ino c.in-Some.block lt
    (told_before geometry c.args.tables.now.slots found before (g.M.Machine.history c.numbers.machine) c.numbers.invariant.reads.unchanged c.in_ok-block.field-0 c.numbers.ino told (Some c.in-Some.block) c.in-Some.is h e)

pub numbers-preserved : goal.numbers-preserved
numbers-preserved g c =
    let geometry = c.args.geometry.now in
    let found = c.args.found.now in
    let before = g.M.Machine.history c.args.machine.now in
    let told = subst (λ (x : SlotTable). Now (g.M.Machine.history c.numbers.machine) (λ s. TellsNumber geometry x s.content (slice_index_or found c.numbers.ino None) c.in_ok-block.field-0)) c.slots.ensures c.in_ok-block.ensures.told in
    record {
      reads = reads_then c.numbers.invariant.reads c.off_number.ensures.machine;
      faults = c.in_ok-block.ensures.fault.kept ∙ c.numbers.invariant.faults;
      end = end_more geometry c.args.tables.now.slots found before (g.M.Machine.history c.numbers.machine) c.numbers.invariant.reads.unchanged c.in_ok-block.field-0 c.numbers.ino told c.in_default.is c.numbers.invariant.end;
    }

pub returns-clause-told : goal.returns-clause-told
returns-clause-told g c = λ h e are rec parts.
    let geometry = c.args.geometry.now in
    let all : geometry.inodes ≤ c.numbers.ino = omega (arith, c.numbers-test.false, ap (λ (l : Layout). l.inodes) c.geometry.view_is) in
    let limits : IsWithinLimits geometry = subst IsWithinLimits c.geometry.view_is c.geometry.invariant in
    ends_kept geometry c.args.tables.now (content h) rec parts c.args.found.now are limits (λ ino lt. c.numbers.invariant.end ino (omega arith) h e)
