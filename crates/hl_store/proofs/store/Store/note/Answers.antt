use Rattle.std.proofs.Common.{◌≤◌, length, rules, sym, subst, arith}
use Rattle.std.specs.Vec.{vec_capacity}
use Rattle.hl_store.specs.Values.{StoreValue, layout}
use Rattle.hl_store.specs.Shapes.{IsNoteOf}
use Rattle.hl_store.proofs.MemoryLemmas.{note_refused}
use Rattle.hl_store.proofs.NoteSteps.{noted_shaped, notes_change}
use Rattle.hl_store.proofs.store.Store.note.Goals as goal

pub invariant_of-self-2 : goal.invariant_of-self-2
invariant_of-self-2 g c =
    let of = subst (λ (v : StoreValue g.row.M.Denot). IsNoteOf (layout v) c.args.change) (sym c.self.view_is) c.requires in
    record {
      shape = noted_shaped {M = g.row.M.Denot} _ c.args.change c.lay.new.self c.push.new.self.items c.raised-self-inside.result (record { plan = vec_capacity c.self.inside.plan; changes = vec_capacity c.self.inside.changes; notes = vec_capacity c.push.new.self }) c.self.invariant.shape of c.in_ok-push.ensures.items c.lay.ensures.shape;
      spare = c.self.invariant.spare;
      taken = c.self.invariant.taken;
    }

pub returns-clause-noted : goal.returns-clause-noted
returns-clause-noted g c =
    let of = subst (λ (v : StoreValue g.row.M.Denot). IsNoteOf (layout v) c.args.change) (sym c.self.view_is) c.requires in
    notes_change {M = g.row.M.Denot} _ c.args.change c.lay.new.self c.push.new.self.items c.raised-self-inside.result (record { plan = vec_capacity c.self.inside.plan; changes = vec_capacity c.self.inside.changes; notes = vec_capacity c.push.new.self }) c.self.invariant.shape of c.in_ok-push.ensures.items
    c.tell_whole.ensures c.lay.ensures.value c.raised-self-inside.ensures (record { plan = omega arith; changes = omega arith; notes = c.in_ok-push.ensures.capacity }) c.args.self.now c.self.view_is

pub returns-in_err-push-clause-err : goal.returns-in_err-push-clause-err
returns-in_err-push-clause-err g c =
    let full : vec_capacity c.self.inside.notes ≤ length c.self.inside.notes.items = (let f = c.in_err-push.ensures.full in omega arith) in
    let refused = note_refused {M = g.row.M.Denot} c.args.self.now _ c.self.view_is full (record { plan = vec_capacity c.self.inside.plan; changes = vec_capacity c.self.inside.changes; notes = vec_capacity c.push.new.self })
    (record { plan = omega arith; changes = omega arith; notes = c.in_err-push.ensures.capacity }) c.push.new.self.items c.in_err-push.ensures.items in
    search rules
