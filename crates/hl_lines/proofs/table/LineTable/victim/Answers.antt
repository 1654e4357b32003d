use Rattle.std.proofs.Common.{◌≡◌, ◌↔◌, ◌<◌, ◌≤◌, ℕ, List, Option, Some, length, sym, subst, arith}
use Rattle.std.specs.Prelude.{IsNone, IfSome}
use Rattle.hl_lines.specs.Lines.{victim}
use Rattle.hl_lines.specs.LineTable.{Lines, IsTaken, MayBeTaken, state_at}
use Rattle.hl_lines.specs.Indexes.{least_used, order_of}
use Rattle.hl_lines.proofs.Lookups.{victim_used, none_empty, none_used, may_empty, may_used}
use Rattle.hl_lines.proofs.table.LineTable.victim.Goals as goal

Answer : List ℕ → Option ℕ → Lines → Type 0
Answer keep r t = (r ≡ victim t.states t.order keep) × (IsNone r ↔ ((line : ℕ) → line < length t.states → IsTaken keep (state_at t line))) × IfSome r (λ line. (line < length t.states) × MayBeTaken (state_at t line))

pub returns : goal.returns
unfolding Answer
returns c =
    let x = c.self.inside in
    let keep = c.args.keep.now in
    let ge : length x.states.items ≤ x.lowest = omega (arith, c.if-self-len.false, c.len.ensures, x.states.ok) in
    let own : Answer keep (least_used keep x.clean.entries) (record { states = x.states.items; order = order_of x.clean.entries }) =
    (victim_used x.states.items x.clean x.held x.lowest keep c.self.invariant ge, none_used x.states.items x.clean x.held x.lowest keep c.self.invariant ge, may_used x.states.items x.clean x.held x.lowest keep c.self.invariant) in
    let done = subst (Answer keep c.least_used.result) c.self.view_is (subst (λ r. Answer keep r (record { states = x.states.items; order = order_of x.clean.entries })) (sym c.least_used.ensures) own) in
    record { value = done.0; none = done.1; may = done.2 }

pub returns-then-self-len-clause-none : goal.returns-then-self-len-clause-none
returns-then-self-len-clause-none c =
    let x = c.self.inside in
    let keep = c.args.keep.now in
    let lt : x.lowest < length x.states.items = omega (arith, c.if-self-len.true, c.len.ensures, x.states.ok) in
    let Found : Lines → Type 0 = λ t. IsNone (Some x.lowest) ↔ ((line : ℕ) → line < length t.states → IsTaken keep (state_at t line)) in
    subst Found c.self.view_is (none_empty x.states.items x.clean x.held x.lowest keep c.self.invariant lt)

pub returns-then-self-len-clause-may : goal.returns-then-self-len-clause-may
returns-then-self-len-clause-may c =
    let x = c.self.inside in
    let lt : x.lowest < length x.states.items = omega (arith, c.if-self-len.true, c.len.ensures, x.states.ok) in
    let May : Lines → Type 0 = λ t. (x.lowest < length t.states) × MayBeTaken (state_at t x.lowest) in
    subst May c.self.view_is (may_empty x.states.items x.clean x.held x.lowest c.self.invariant lt)
