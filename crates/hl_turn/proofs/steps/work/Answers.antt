use Rattle.std.proofs.Common.{ap, subst, ◌∙◌, ◌≡◌, [], ◌∷◌}
use Rattle.atomic_table.specs.Table.{rest}
use Rattle.hl_turn.specs.Asking.{IsReady}
use Rattle.hl_turn.proofs.Lists.{same_held}
use Rattle.hl_turn.proofs.steps.work.Goals as goal

pub step-requires : goal.step-requires
step-requires g c = let o = g.T.Object in let h = c.requires.ready in let m = c.args.seat.now.me in
    let e : h.0 ≡ c.slot_mut-object.result.now = same_held m.1 h.0 c.slot_mut-object.result.now [] (rest m.1) h.2 c.slot_mut-object.ensures.value in
    record { ready = (h.1, m.0.number, m.0.holds, subst (λ z. IsReady o.legal_over o.jobs_out o.meets o.asks o.brings o.returns h.1 z m.0.number m.0.holds c.args.event) e h.3) }

pub returns-clause-work : goal.returns-clause-work
returns-clause-work g c = let h = c.requires.ready in let m = c.args.seat.now.me in
    let x = c.slot_mut-object.result.now in let y = c.step.new.self in
    let e : h.0 ≡ x = same_held m.1 h.0 x [] (rest m.1) h.2 c.slot_mut-object.ensures.value in
    let o = g.T.Object in let own = c.step.ensures.entry m.0.number h.3.may.named in (
      x,
      y,
      own.0,
      h.2 ∙ ap (λ z. (0, z) ∷ []) e,
      ap (λ l. (m.0, (0, y) ∷ rest l)) h.2,
      record {
        made = c.step.ensures.does;
        grows = own.1;
        owned = own.2;
        jobs = λ p f met apart once. let r : IsReady o.legal_over o.jobs_out o.meets o.asks o.brings o.returns p x m.0.number m.0.holds c.args.event = record { legal = f; may = h.3.may; met = met; apart = apart; once = once } in (c.step.ensures.legal p m.0.number m.0.holds r, c.step.ensures.jobs p m.0.number m.0.holds r);
      },
    )
