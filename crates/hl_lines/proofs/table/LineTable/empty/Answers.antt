use Rattle.std.proofs.Common.{◌≡◌, ◌<◌, true, length, set, sym, ap, subst, arith}
use Rattle.hl_lines.specs.Lines.{is_aside}
use Rattle.hl_lines.specs.LineTable.{Lines, state_at}
use Rattle.hl_lines.specs.Indexes.{AreIndexed}
use Rattle.hl_lines.specs.declared.state.LineState.TheVariants.{Empty, Aside}
use Rattle.hl_lines.proofs.Changes.{at}
use Rattle.hl_lines.proofs.Tables.{empty_indexed, is_aside_state, there_by}
use Rattle.hl_lines.proofs.table.LineTable.empty.Goals as goal

pub index_mut-requires : goal.index_mut-requires
index_mut-requires c =
    let S = c.self.inside.states.items in
    let line = c.args.line in
    let was : at S line ≡ Aside = is_aside_state (at S line) (subst (λ (x : Lines). is_aside (state_at x line) ≡ true) (sym c.self.view_is) c.requires) in
    let near : line < length S = there_by S line Aside was (λ e. cc) in
    omega (arith, near, c.self.inside.states.ok)

pub invariant_of-self : goal.invariant_of-self
invariant_of-self c =
    let S = c.self.inside.states.items in
    let line = c.args.line in
    let was : at S line ≡ Aside = is_aside_state (at S line) (subst (λ (x : Lines). is_aside (state_at x line) ≡ true) (sym c.self.view_is) c.requires) in
    let near : line < length S = there_by S line Aside was (λ e. cc) in
    subst (AreIndexed (set S line Empty) c.self.inside.clean c.self.inside.held) (sym c.min-self-inside.ensures) (empty_indexed S line c.self.inside.clean c.self.inside.held c.self.inside.lowest c.self.invariant near was)

pub returns : goal.returns
returns c = ap (λ (x : Lines). record x { states = set x.states c.args.line Empty }) c.self.view_is
