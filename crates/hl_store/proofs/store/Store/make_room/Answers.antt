use Rattle.std.proofs.Common.{rules, ◌≡◌, ◌+◌, length, refl, arith}
use Rattle.std.specs.Vec.{vec_capacity}
use Rattle.hl_store.proofs.MemoryLemmas.{notes_kept, reserves}
use Rattle.hl_store.proofs.store.Store.make_room.Goals as goal

pub returns-in_err-take_memory-clause-err : goal.returns-in_err-take_memory-clause-err
returns-in_err-take_memory-clause-err g c =
    let kept = notes_kept {M = g.row.M.Denot} c.args.self.now _ c.self.view_is (record { plan = vec_capacity c.take_memory.new.plan; changes = vec_capacity c.take_memory.new.changes; notes = vec_capacity c.take_memory.new.notes })
    (record { plan = c.in_err-take_memory.ensures.much_plan; changes = c.in_err-take_memory.ensures.much_changes; notes = c.in_err-take_memory.ensures.much_notes }) c.take_memory.new.notes.items c.in_err-take_memory.ensures.same_notes c.self.inside.overlay refl in
    search rules

pub returns-in_err-reserve-clause-err : goal.returns-in_err-reserve-clause-err
returns-in_err-reserve-clause-err g c =
    let kept = notes_kept {M = g.row.M.Denot} c.args.self.now _ c.self.view_is (record { plan = vec_capacity c.take_memory.new.plan; changes = vec_capacity c.take_memory.new.changes; notes = vec_capacity c.take_memory.new.notes })
    (record { plan = c.in_ok-take_memory.ensures.much_plan; changes = c.in_ok-take_memory.ensures.much_changes; notes = c.in_ok-take_memory.ensures.much_notes }) c.take_memory.new.notes.items c.in_ok-take_memory.ensures.same_notes c.reserve.new.self c.in_err-reserve.ensures.err in
    search rules

pub returns-clause-ok : goal.returns-clause-ok
returns-clause-ok g c =
    let held = c.held-held.ensures in
    let fresh = c.new_blocks-fresh.ensures.value in
    let room = c.room.ensures in
    let notes = c.len.ensures in
    let a = c.in_ok-others.ensures.value in
    let b = c.in_ok-blocks.ensures.value in
    let d = c.in_ok-count.ensures.value in
    let others_are : c.in_ok-others.others ≡ length c.self.inside.overlay.drafts.items + length c.self.inside.overlay.drafts.items + 0 = omega arith in
    let blocks_are : c.in_ok-blocks.blocks ≡ length c.self.inside.overlay.blocks + c.self.inside.overlay.room + c.in_ok-others.others = omega arith in
    let count_are : c.in_ok-count.count ≡ length c.self.inside.overlay.drafts.items + length c.self.inside.notes.items + c.args.tables = omega arith in
    reserves {M = g.row.M.Denot} _ (record { plan = vec_capacity c.take_memory.new.plan; changes = vec_capacity c.take_memory.new.changes; notes = vec_capacity c.take_memory.new.notes }) c.args.tables c.args.self.now c.self.view_is (record { plan = c.in_ok-take_memory.ensures.much_plan; changes = c.in_ok-take_memory.ensures.much_changes; notes = c.in_ok-take_memory.ensures.much_notes }) _ _ _ others_are blocks_are count_are
    c.in_ok-take_memory.ensures.plan c.in_ok-take_memory.ensures.changes c.in_ok-count.ensures.small c.in_ok-take_memory.ensures.notes c.take_memory.new.notes.items c.in_ok-take_memory.ensures.same_notes c.reserve.new.self c.in_ok-reserve.ensures.ok
