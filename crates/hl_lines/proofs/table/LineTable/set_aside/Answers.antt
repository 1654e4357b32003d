use Rattle.std.proofs.Common.{◌≡◌, ◌<◌, ◌∙◌, ℕ, List, length, set, sym, ap, subst, refl, length-set, arith}
use Rattle.hl_lines.specs.LineTable.{Lines, with_aside}
use Rattle.hl_lines.specs.Indexes.{Forgets, IsFound}
use Rattle.hl_lines.specs.declared.state.LineState.{LineState}
use Rattle.hl_lines.specs.declared.state.LineState.TheVariants.{Aside}
use Rattle.hl_lines.proofs.Changes.{at, first_within, none_below}
use Rattle.hl_lines.proofs.Tables.{aside, aside_indexed, is_found}
use Rattle.hl_lines.proofs.table.LineTable.set_aside.Goals as goal

pub forget-requires : goal.forget-requires
forget-requires c =
    let state : c.state_of-state.result ≡ at c.self.inside.states.items c.args.line = c.state_of-state.ensures ∙ ap (λ l. at l c.args.line) c.deref.ensures.value in
    subst (λ (s : LineState). IsFound s c.self.inside.held) (sym state) (is_found c.self.inside.states.items c.args.line c.self.inside.held c.self.invariant.kept)

pub next_empty-self-inside-requires-clause-within : goal.next_empty-self-inside-requires-clause-within
next_empty-self-inside-requires-clause-within c =
    omega (arith, ap length c.deref-2.ensures.value, length-set c.self.inside.states.items c.args.line Aside, c.self.invariant.first, first_within c.self.inside.states.items)

pub next_empty-self-inside-requires-clause-none_before : goal.next_empty-self-inside-requires-clause-none_before
next_empty-self-inside-requires-clause-none_before c = λ k lt.
    let near : c.args.line < length c.self.inside.states.items = subst (λ (x : Lines). c.args.line < length x.states) (sym c.self.view_is) c.requires in
    rw c.deref-2.ensures.value (none_below c.self.inside.states.items c.args.line Aside c.self.inside.lowest near c.self.invariant.first refl k lt)

pub invariant_of-self : goal.invariant_of-self
invariant_of-self c =
    let S = c.self.inside.states.items in
    let near : c.args.line < length S = subst (λ (x : Lines). c.args.line < length x.states) (sym c.self.view_is) c.requires in
    let state : c.state_of-state.result ≡ at S c.args.line = c.state_of-state.ensures ∙ ap (λ l. at l c.args.line) c.deref.ensures.value in
    let forgets = subst (λ (s : LineState). Forgets s c.self.inside.clean c.self.inside.held c.forget.new.clean c.forget.new.held) state c.forget.ensures in
    aside_indexed S c.args.line c.self.inside.clean c.self.inside.held c.self.inside.lowest c.forget.new.clean c.forget.new.held c.next_empty-self-inside.result c.self.invariant near forgets (rw c.deref-2.ensures.value at c.next_empty-self-inside.ensures)

pub returns : goal.returns
returns c =
    let S = c.self.inside.states.items in
    let near : c.args.line < length S = subst (λ (x : Lines). c.args.line < length x.states) (sym c.self.view_is) c.requires in
    let state : c.state_of-state.result ≡ at S c.args.line = c.state_of-state.ensures ∙ ap (λ l. at l c.args.line) c.deref.ensures.value in
    let forgets = subst (λ (s : LineState). Forgets s c.self.inside.clean c.self.inside.held c.forget.new.clean c.forget.new.held) state c.forget.ensures in
    let a = aside S c.args.line c.self.inside.clean c.self.inside.held c.forget.new.clean c.forget.new.held near c.self.invariant.uses c.self.invariant.kept forgets in
    ap (λ (order : List ℕ). record { states = set S c.args.line Aside; order = order }) a.order ∙ ap (λ (x : Lines). with_aside x c.args.line) c.self.view_is
