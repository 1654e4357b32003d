use Rattle.std.proofs.Common.{List, length, ◌≤◌, get_or, refl, sym, ap, ◌∙◌, arith}
use Rattle.hl_media.specs.History.{content}
use Rattle.hl_tseg.specs.declared.slot.Slot.{Slot}
use Rattle.hl_tseg.specs.declared.slot.Slot.TheVariants.{Free}
use Rattle.hl_tseg.specs.SlotTable.{SlotTable}
use Rattle.hl_survey.proofs.Unchanged.{reads_then}
use Rattle.hl_staged.proofs.LinesOff.{hold_more, line_broken, lines_kept, off_before}
use Rattle.hl_staged.proofs.lines.check_lines.Goals as goal

pub off_line-requires-clause-room : goal.off_line-requires-clause-room
off_line-requires-clause-room g c = omega (arith, c.requires.room, c.slots.invariant.reads.blocks_same)

pub off_line-requires-clause-size : goal.off_line-requires-clause-size
off_line-requires-clause-size g c = c.slots.invariant.size

pub returns-in_err-block-clause-machine : goal.returns-in_err-block-clause-machine
returns-in_err-block-clause-machine g c = reads_then c.slots.invariant.reads c.off_line.ensures.machine

pub returns-in-Some-clause-machine : goal.returns-in-Some-clause-machine
returns-in-Some-clause-machine g c = reads_then c.slots.invariant.reads c.off_line.ensures.machine

pub returns-in-Some-clause-stops : goal.returns-in-Some-clause-stops
returns-in-Some-clause-stops g c = λ h e. (
  refl,
  λ rec parts.
      let slots = c.items-slots.ensures.value ∙ ap (λ (x : SlotTable). x.slots) c.slots-2.ensures in
      line_broken c.args.geometry.now c.args.tables.now (content h) rec parts c.slots.i c.in-Some.block
      (off_before c.args.geometry.now c.args.tables.now.slots.slots (g.M.Machine.history c.args.machine.now) (g.M.Machine.history c.slots.machine) c.slots.invariant.reads.unchanged c.in_ok-block.field-0 c.slots.i
      (get_or c.items-slots.result.now c.slots.i Free) (ap (λ (l : List Slot). get_or l c.slots.i Free) (sym slots)) c.in_ok-block.ensures.told c.in-Some.block c.in-Some.is h e),
)

pub slots-preserved : goal.slots-preserved
slots-preserved g c =
    let slots = c.items-slots.ensures.value ∙ ap (λ (x : SlotTable). x.slots) c.slots-2.ensures in
    record {
      size = c.in_ok-block.ensures.size ∙ c.slots.invariant.size;
      reads = reads_then c.slots.invariant.reads c.off_line.ensures.machine;
      faults = c.in_ok-block.ensures.fault.kept ∙ c.slots.invariant.faults;
      hold = hold_more c.args.geometry.now c.args.tables.now.slots.slots (g.M.Machine.history c.args.machine.now) (g.M.Machine.history c.slots.machine) c.slots.invariant.reads.unchanged c.in_ok-block.field-0 c.slots.i
          (get_or c.items-slots.result.now c.slots.i Free) (ap (λ (l : List Slot). get_or l c.slots.i Free) (sym slots)) c.in_ok-block.ensures.told c.in_default.is c.slots.invariant.hold;
    }

pub returns-clause-kept : goal.returns-clause-kept
returns-clause-kept g c = λ h e rec parts.
    let slots = c.items-slots.ensures.value ∙ ap (λ (x : SlotTable). x.slots) c.slots-2.ensures in
    let all : length c.args.tables.now.slots.slots ≤ c.slots.i = omega (arith, ap length slots, c.slots-test.false) in
    lines_kept c.args.geometry.now c.args.tables.now (content h) rec parts c.slots.i all (λ m block lt. c.slots.invariant.hold m block lt h e)
