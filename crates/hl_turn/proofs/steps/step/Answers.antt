use Rattle.std.proofs.Common.{rules, sym, subst}
use Rattle.hl_turn.specs.Jobs.{held_after}
use Rattle.hl_turn.specs.Jobs.{held_after}
use Rattle.hl_turn.specs.Kinds.{counts_step}
use Rattle.hl_turn.specs.Calls.{MayCount}
use Rattle.hl_turn.proofs.SeatSteps.{draws_turn}
use Rattle.hl_turn.proofs.OneCall.{ready_after, after_work, may_count, after_count, may_give, after_give, empty_hand}
use Rattle.hl_turn.proofs.steps.step.Goals as goal

pub fetch_add-ticket-requires : goal.fetch_add-ticket-requires
fetch_add-ticket-requires g c = (search rules, search rules, draws_turn g.T.Object.entries g.T.Object.seat_of g.T.Object.legal_over g.T.Object.jobs_out g.T.Object.meets _ _ _ _ _ c.requires.idle.0)

pub work-answer-requires-clause-ready : goal.work-answer-requires-clause-ready
work-answer-requires-clause-ready g c = let o = g.T.Object in
    ready_after o.entries o.legal_over o.jobs_out o.meets o.asks o.brings o.returns c.args.event c.args.seat.now.me c.fetch_add-ticket.new.seat.me c.await_turn.new.seat.me c.fetch_add-ticket.result c.requires.idle.1 c.requires.may c.fetch_add-ticket.ensures.2 c.await_turn.ensures.taken

pub count-requires-clause-may : goal.count-requires-clause-may
count-requires-clause-may g c = let o = g.T.Object in
    let a = after_work o.entries o.seat_of o.legal_over o.jobs_out o.meets o.does o.brings o.takes c.args.words.now.key.opening.value c.args.event c.work-answer.result c.args.seat.now.me c.fetch_add-ticket.new.seat.me c.await_turn.new.seat.me c.work-answer.new.seat.me c.fetch_add-ticket.result c.requires.opening c.fetch_add-ticket.ensures.2 c.await_turn.ensures.taken c.work-answer.ensures.work in
    subst (λ e. MayCount o.entries o.seat_of o.jobs_out o.meets (held_after o.brings o.takes c.work-answer.new.seat.me.0.holds e c.work-answer.result) c.work-answer.new.seat.me) (sym c.of-asked.ensures)
    (may_count o.entries o.seat_of o.legal_over o.jobs_out o.meets o.does o.brings o.takes _ _ _ _ _ a)

pub fetch_add-requires : goal.fetch_add-requires
fetch_add-requires g c = let o = g.T.Object in
    let a = after_work o.entries o.seat_of o.legal_over o.jobs_out o.meets o.does o.brings o.takes c.args.words.now.key.opening.value c.args.event c.work-answer.result c.args.seat.now.me c.fetch_add-ticket.new.seat.me c.await_turn.new.seat.me c.work-answer.new.seat.me c.fetch_add-ticket.result c.requires.opening c.fetch_add-ticket.ensures.2 c.await_turn.ensures.taken c.work-answer.ensures.work in
    let k = after_count o.entries o.seat_of o.legal_over o.jobs_out o.meets o.does o.brings o.takes _ _ _ _ _ _ a (subst (λ e. counts_step o.entries o.jobs_out (held_after o.brings o.takes c.work-answer.new.seat.me.0.holds e c.work-answer.result) c.work-answer.new.seat.me c.count.new.seat.me) c.of-asked.ensures c.count.ensures.counts) in
    (search rules, search rules, may_give o.entries o.seat_of o.legal_over o.jobs_out o.meets o.does o.brings o.takes _ _ _ _ _ _ _ _ (search rules) k)

pub returns-clause-returned : goal.returns-clause-returned
returns-clause-returned g c = let o = g.T.Object in
    let a = after_work o.entries o.seat_of o.legal_over o.jobs_out o.meets o.does o.brings o.takes c.args.words.now.key.opening.value c.args.event c.work-answer.result c.args.seat.now.me c.fetch_add-ticket.new.seat.me c.await_turn.new.seat.me c.work-answer.new.seat.me c.fetch_add-ticket.result c.requires.opening c.fetch_add-ticket.ensures.2 c.await_turn.ensures.taken c.work-answer.ensures.work in
    let k = after_count o.entries o.seat_of o.legal_over o.jobs_out o.meets o.does o.brings o.takes _ _ _ _ _ _ a (subst (λ e. counts_step o.entries o.jobs_out (held_after o.brings o.takes c.work-answer.new.seat.me.0.holds e c.work-answer.result) c.work-answer.new.seat.me c.count.new.seat.me) c.of-asked.ensures c.count.ensures.counts) in
    after_give o.entries o.seat_of o.legal_over o.jobs_out o.meets o.does o.brings o.takes _ _ _ _ _ _ k c.fetch_add.ensures.2

pub returns-clause-fits : goal.returns-clause-fits
returns-clause-fits g c = let o = g.T.Object in
    let a = after_work o.entries o.seat_of o.legal_over o.jobs_out o.meets o.does o.brings o.takes c.args.words.now.key.opening.value c.args.event c.work-answer.result c.args.seat.now.me c.fetch_add-ticket.new.seat.me c.await_turn.new.seat.me c.work-answer.new.seat.me c.fetch_add-ticket.result c.requires.opening c.fetch_add-ticket.ensures.2 c.await_turn.ensures.taken c.work-answer.ensures.work in
    let k = after_count o.entries o.seat_of o.legal_over o.jobs_out o.meets o.does o.brings o.takes _ _ _ _ _ _ a (subst (λ e. counts_step o.entries o.jobs_out (held_after o.brings o.takes c.work-answer.new.seat.me.0.holds e c.work-answer.result) c.work-answer.new.seat.me c.count.new.seat.me) c.of-asked.ensures c.count.ensures.counts) in
    (search rules, search rules, empty_hand o.entries o.seat_of o.legal_over o.jobs_out o.meets o.does o.brings o.takes _ _ _ _ _ _ k c.fetch_add.ensures.2)
