use Rattle.std.proofs.Common.{◌≤◌, length, get_or, refl, arith}
use Rattle.std.proofs.lemmas.List.{take_more}
use Rattle.hl_bytes.proofs.RunLemmas.{put_init, put_step, put_run_front}
use Rattle.hl_tseg.specs.declared.slot.Slot.TheVariants.{Free}
use Rattle.hl_tables.specs.Entries.{slot_bytes}
use Rattle.hl_tables.proofs.EntryLemmas.{length-slot_bytes}
use Rattle.hl_tables.proofs.entries.put_slots.Goals as goal

pub put-init : goal.put-init
put-init c = record { so_far = put_init slot_bytes c.args.bytes.now c.args.at; size = refl }

pub put-preserved : goal.put-preserved
put-preserved c =
    let low : c.args.at ≤ length c.args.bytes.now = omega (arith, c.requires) in
    record {
      so_far = put_step slot_bytes 16 length-slot_bytes c.args.bytes.now c.put.bytes c.put_slot.new.bytes c.args.slots.now (get_or c.args.slots.now c.put.i Free) c.args.at c.put.i c.put.auto.i-end low (take_more c.args.slots.now c.put.i Free c.put-test.true) c.put.invariant.so_far c.put_slot.ensures;
      size = omega arith;
    }

pub returns : goal.returns
returns c = put_run_front slot_bytes 16 length-slot_bytes c.args.bytes.now c.put.bytes c.args.slots.now c.args.at c.put.i c.requires c.put-test.false c.put.invariant.so_far
