use Rattle.std.proofs.Common.{◌≡◌, ◌∙◌, ◌++◌, List, map, take, drop, length, sym, ap, subst, arith}
use Rattle.std.proofs.lemmas.List.{take_at, length-map}
use Rattle.hl_lines.specs.Lines.{unstuck}
use Rattle.hl_lines.specs.LineTable.{Lines, with_unstuck}
use Rattle.hl_lines.specs.Indexes.{AreIndexed, order_of}
use Rattle.hl_lines.specs.declared.state.LineState.{LineState}
use Rattle.hl_lines.proofs.Lookups.{unstuck_indexed}
use Rattle.hl_lines.proofs.table.LineTable.unstick.Goals as goal

pub invariant_of-self : goal.invariant_of-self
invariant_of-self c =
    let x = c.self.inside in
    let ns : List LineState = c.unstick_all.new.states in
    let are : ns ≡ map unstuck x.states.items = c.unstick_all.ensures ∙ ap (map unstuck) c.deref_mut.ensures.value in
    let size : length ns ≡ x.states.len = omega (arith, ap length are, length-map x.states.items unstuck, x.states.ok) in
    let same : take x.states.len (ns ++ drop (length ns) x.states.items) ≡ map unstuck x.states.items = take_at ns (drop (length ns) x.states.items) x.states.len size ∙ are in
    subst (λ (l : List LineState). AreIndexed l x.clean x.held x.lowest) (sym same) (unstuck_indexed x.states.items x.clean x.held x.lowest c.self.invariant)

pub returns : goal.returns
returns c =
    let x = c.self.inside in
    let ns : List LineState = c.unstick_all.new.states in
    let are : ns ≡ map unstuck x.states.items = c.unstick_all.ensures ∙ ap (map unstuck) c.deref_mut.ensures.value in
    let size : length ns ≡ x.states.len = omega (arith, ap length are, length-map x.states.items unstuck, x.states.ok) in
    let same : take x.states.len (ns ++ drop (length ns) x.states.items) ≡ map unstuck x.states.items = take_at ns (drop (length ns) x.states.items) x.states.len size ∙ are in
    ap (λ (l : List LineState). record { states = l; order = order_of x.clean.entries }) same ∙ ap (λ (t : Lines). with_unstuck t) c.self.view_is
