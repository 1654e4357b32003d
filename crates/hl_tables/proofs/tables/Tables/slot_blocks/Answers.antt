use Rattle.std.proofs.Common.{length, ap, arith}
use Rattle.hl_addr.proofs.SlotLemmas.{slots_few}
use Rattle.hl_tables.proofs.tables.Tables.slot_blocks.Goals as goal

pub overflow_cast-items : goal.overflow_cast-items
overflow_cast-items c =
    let s = c.items.ensures.limits in
    omega (arith, slots_few c.self.inside.slots.volumes s.volume_count.1 s.slot_counts, s.each_slot, ap length c.items.ensures.value)

pub overflow_mul-items : goal.overflow_mul-items
overflow_mul-items c =
    let s = c.items.ensures.limits in
    omega (arith, slots_few c.self.inside.slots.volumes s.volume_count.1 s.slot_counts, s.each_slot, ap length c.items.ensures.value)

pub returns-clause-few : goal.returns-clause-few
returns-clause-few c =
    let s = c.items.ensures.limits in
    omega (arith, c.div_ceil.ensures, slots_few c.self.inside.slots.volumes s.volume_count.1 s.slot_counts, s.each_slot, ap length c.items.ensures.value)
