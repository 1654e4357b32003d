use Rattle.std.proofs.Common.{◌≡◌, ◌*◌, ◌∙◌, List, length, refl, sym, ap, arith}
use Rattle.hl_addr.proofs.SlotLemmas.{slots_few}
use Rattle.hl_bytes.specs.Runs.{run_bytes, run_at}
use Rattle.hl_bytes.specs.Pages.{plain_page}
use Rattle.hl_bytes.proofs.RunLemmas.{length-run_at}
use Rattle.hl_tseg.specs.SlotTable.{SlotTable}
use Rattle.hl_tseg.specs.declared.slot.Slot.{Slot}
use Rattle.hl_tables.specs.Entries.{slot_bytes, slot_entry_at}
use Rattle.hl_tables.specs.TableBlocks.{in_blocks}
use Rattle.hl_tables.proofs.EntryLemmas.{length-slot_bytes}
use Rattle.hl_tables.proofs.ReadBlocks.{block_read, block_again, slot_again}
use Rattle.hl_tables.proofs.reading.read_slots.Goals as goal

pub overflow_mul-from : goal.overflow_mul-from
overflow_mul-from c =
    let s = c.items-all.ensures.limits in
    omega (arith, c.requires.exists, slots_few c.args.slots.now.volumes s.volume_count.1 s.slot_counts, s.each_slot)

pub returns-then-spelled-clause-read : goal.returns-then-spelled-clause-read
returns-then-spelled-clause-read c = λ t.
    let xs = c.args.slots.now.slots in
    let ys = c.slots_in-spelled.new.out in
    let from = 256 * c.args.block in
    let count = c.min-count.result in
    let few = c.min-count.ensures in
    let items = ap length c.items-all.ensures.value in
    let within = c.requires.exists in
    let size : length ys ≡ count = ap length c.slots_in-spelled.ensures.candidate ∙ length-run_at slot_entry_at 16 0 count c.args.bytes.now in
    ap (λ (s : SlotTable). in_blocks (run_bytes slot_bytes s.slots)) c.set_run.ensures
    ∙ block_read slot_bytes 16 length-slot_bytes xs ys c.args.bytes.now 256 from c.args.block count size (omega arith) refl (omega arith) (omega arith) within (c.slots_in-spelled.ensures.spelled.0 t)

pub returns-else-spelled-clause-grammar : goal.returns-else-spelled-clause-grammar
returns-else-spelled-clause-grammar c = λ xs size is.
    let from = 256 * c.args.block in
    let count = c.min-count.result in
    let few = c.min-count.ensures in
    let items = ap length c.items-all.ensures.value in
    let within = c.requires.exists in
    let page = block_again slot_bytes slot_entry_at 16 length-slot_bytes slot_again xs c.args.bytes.now 256 from c.args.block count (λ i. omega (arith, c.type_inv.bytes i)) c.requires.size (omega arith) refl (omega arith) (omega arith) (omega arith) (omega arith) is in
    let read : c.slots_in-spelled.new.out ≡ run_at slot_entry_at 16 0 count c.args.bytes.now = c.slots_in-spelled.ensures.candidate in
    c.slots_in-spelled.ensures.spelled.1 (page ∙ ap (λ (l : List Slot). plain_page (run_bytes slot_bytes l)) (sym read))
