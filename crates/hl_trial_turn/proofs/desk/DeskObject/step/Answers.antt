use Rattle.std.proofs.Common.{rules, ◌≡◌, sym, subst, refl, Some, None}
use Rattle.hl_trial_turn.specs.declared.desk.Page.{Page}
use Rattle.hl_trial_turn.specs.declared.desk.Said.TheVariants.{Lent, Taken, Out}
use Rattle.hl_trial_turn.specs.Pages.{Lends}
use Rattle.hl_trial_turn.proofs.Numbers.{CountsUp-snoc}
use Rattle.hl_trial_turn.proofs.Shares.{desk_shifts}
use Rattle.hl_trial_turn.proofs.desk.DeskObject.step.Goals as goal

pub returns-then-is_some-clause-jobs : goal.returns-then-is_some-clause-jobs
returns-then-is_some-clause-jobs c = let x = c.args.self.now in
    let l : Lends x.loans.items x.out c.args.event Out x.loans.items x.out = subst (λ e. Lends x.loans.items x.out e Out x.loans.items x.out) (sym c.in-Lend.is) (search (rules, c.if-is_some.true, c.if-is_some.ensures), refl, refl) in
    λ o n h r. desk_shifts n x.loans.items x.loans.items x.out c.args.event Out x.out h l r.may r.met r.apart

pub returns-in-Ok-clause-legal : goal.returns-in-Ok-clause-legal
returns-in-Ok-clause-legal c = λ o n h r. CountsUp-snoc c.args.self.now.loans.items c.push.new.self.items c.in-Lend.wish.seat c.len-number.result c.in-Ok.ensures.items (search rules) r.legal

pub returns-in-Ok-clause-jobs : goal.returns-in-Ok-clause-jobs
returns-in-Ok-clause-jobs c = let x = c.args.self.now in let p : Page = record { number = c.len-number.result; text = c.in-Lend.wish.text } in let empty : x.out ≡ None = search (rules, c.if-is_some.false, c.if-is_some.ensures) in
    let l : Lends x.loans.items x.out c.args.event (Lent p) c.push.new.self.items (Some p) = subst (λ e. Lends x.loans.items x.out e (Lent p) c.push.new.self.items (Some p)) (sym c.in-Lend.is) (empty, refl, search rules, refl, c.in-Ok.ensures.items) in
    λ o n h r. desk_shifts n x.loans.items c.push.new.self.items x.out c.args.event (Lent p) (Some p) h l r.may r.met r.apart

pub returns-in-Back-clause-jobs : goal.returns-in-Back-clause-jobs
returns-in-Back-clause-jobs c = let x = c.args.self.now in
    let l : Lends x.loans.items x.out c.args.event Taken x.loans.items None = subst (λ e. Lends x.loans.items x.out e Taken x.loans.items None) (sym c.in-Back.is) (refl, refl) in
    λ o n h r. desk_shifts n x.loans.items x.loans.items x.out c.args.event Taken None h l r.may r.met r.apart
