use Rattle.std.proofs.Common.{◌≡◌, ◌≢◌, ◌↔◌, ◌∙◌, ℕ, Option, Some, refl, sym, subst}
use Rattle.std.specs.Prelude.{IsNone}
use Rattle.hl_lines.specs.Lines.{line_with, segment_of}
use Rattle.hl_lines.specs.LineTable.{Lines, state_at}
use Rattle.hl_lines.specs.Indexes.{order_of}
use Rattle.hl_lines.proofs.Lookups.{of_clean, of_held, none_holds}
use Rattle.hl_lines.proofs.table.LineTable.of.Goals as goal

Answer : ℕ → Option ℕ → Lines → Type 0
Answer tseg r t = (r ≡ line_with t.states tseg) × (IsNone r ↔ ((line : ℕ) → segment_of (state_at t line) ≢ Some tseg))

pub returns-in-Some : goal.returns-in-Some
unfolding Answer
returns-in-Some c =
    let x = c.self.inside in
    let t : Lines = record { states = x.states.items; order = order_of x.clean.entries } in
    let value : Some c.in-Some.line.now ≡ line_with x.states.items c.args.tseg = sym (of_clean x.states.items x.clean x.held x.lowest c.args.tseg c.in-Some.line.now c.self.invariant (sym c.in-Some.ensures)) in
    let own : Answer c.args.tseg (line_with x.states.items c.args.tseg) t = (refl, none_holds x.states.items c.args.tseg c.self.invariant.single) in
    let done = subst (Answer c.args.tseg (Some c.in-Some.line.now)) c.self.view_is (subst (λ r. Answer c.args.tseg r t) (sym value) own) in
    record { value = done.0; none = done.1 }

pub returns-in-None : goal.returns-in-None
unfolding Answer
returns-in-None c =
    let x = c.self.inside in
    let t : Lines = record { states = x.states.items; order = order_of x.clean.entries } in
    let value : c.get.result ≡ line_with x.states.items c.args.tseg = c.get.ensures ∙ sym (of_held x.states.items x.clean x.held x.lowest c.args.tseg c.self.invariant (sym c.in-None.ensures)) in
    let own : Answer c.args.tseg (line_with x.states.items c.args.tseg) t = (refl, none_holds x.states.items c.args.tseg c.self.invariant.single) in
    let done = subst (Answer c.args.tseg c.get.result) c.self.view_is (subst (λ r. Answer c.args.tseg r t) (sym value) own) in
    record { value = done.0; none = done.1 }
