use Rattle.hl_staged.proofs.EndsOff.{log_on_disk, none_on_disk, staged_on_disk}
use Rattle.hl_staged.proofs.ends.place_on_disk.Goals as goal

pub returns-in-Log-clause-place : goal.returns-in-Log-clause-place
returns-in-Log-clause-place c = log_on_disk c.args.geometry.now c.args.slots.now c.args.pointer c.class.result c.class.ensures.only c.in-Log.seg c.in-Log.block c.in-Log.is c.in-Log.ensures.at

pub returns-in-Tertiary-clause-place : goal.returns-in-Tertiary-clause-place
returns-in-Tertiary-clause-place c =
    staged_on_disk c.args.geometry.now c.args.slots.now c.args.pointer c.class.result c.class.ensures.only c.in-Tertiary.volume c.in-Tertiary.slot c.in-Tertiary.block c.in-Tertiary.is c.in-Tertiary.ensures.at
    c.held_slot.result c.held_slot.ensures c.staged_block.result c.staged_block.ensures.place

pub returns-in_default : goal.returns-in_default
returns-in_default c = record {
  place = λ block. (
    λ e. absurd (cc),
    λ lies. absurd (none_on_disk c.args.geometry.now c.args.slots.now c.args.pointer c.class.result c.class.ensures.only c.in_default.not-Log c.in_default.not-Tertiary block lies),
  );
  within = tt;
}
