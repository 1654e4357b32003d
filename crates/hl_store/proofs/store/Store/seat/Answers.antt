use Rattle.std.proofs.Common.{refl, sym}
use Rattle.hl_store.proofs.ReadRuns.{reads_from, reads_none}
use Rattle.hl_store.proofs.SeatLemmas.{admitted_seats, found_none, found_some, roomed_seats}
use Rattle.hl_store.proofs.store.Store.seat.Goals as goal

pub returns-in_err-reserve-clause-machine : goal.returns-in_err-reserve-clause-machine
returns-in_err-reserve-clause-machine g c = reads_from c.self.view_is reads_none

pub returns-in_ok-reserve-clause-ok : goal.returns-in_ok-reserve-clause-ok
returns-in_ok-reserve-clause-ok g c = roomed_seats {M = g.row.M.Denot} g.M.Machine.history _ _ _ c.args.ino c.args.count c.reserve.new.self c.self.view_is refl c.in_ok-reserve.ensures.ok c.self.invariant.shape c.draft.ensures.whole (found_some c.draft.result _ (sym c.if-is_some.ensures) c.draft.ensures.value)

pub returns-in_ok-reserve-clause-machine : goal.returns-in_ok-reserve-clause-machine
returns-in_ok-reserve-clause-machine g c = reads_from c.self.view_is reads_none

pub returns-in_ok-admit-clause-ok : goal.returns-in_ok-admit-clause-ok
returns-in_ok-admit-clause-ok g c = admitted_seats {M = g.row.M.Denot} g.M.Machine.history _ _ _ c.args.ino c.args.count c.read_draft.new.log c.admit.new.self c.in_ok-draft.draft c.self.view_is refl c.in_ok-draft.ensures.same
    c.self.invariant.shape c.draft.ensures.whole c.tell_whole.ensures c.in_ok-draft.ensures.number (found_none c.draft.result _ (sym c.if-is_some.ensures) c.draft.ensures.value) c.in_ok-draft.ensures.unchanged c.in_ok-draft.ensures.draft
    c.in_ok-admit.ensures.ok c.in_ok-admit.ensures.last c.admit.ensures.blocks c.in_ok-admit.ensures.room
