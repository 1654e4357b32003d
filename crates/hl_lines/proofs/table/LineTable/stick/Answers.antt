use Rattle.std.proofs.Common.{◌≡◌, ◌<◌, ◌∙◌, length, sym, ap, arith}
use Rattle.hl_lines.specs.declared.state.LineState.TheVariants.{Staging}
use Rattle.hl_lines.proofs.Changes.{at}
use Rattle.hl_lines.proofs.Tables.{stuck_indexed, there_by}
use Rattle.hl_lines.proofs.table.LineTable.stick.Goals as goal

pub index_mut-requires : goal.index_mut-requires
index_mut-requires c =
    let S = c.self.inside.states.items in
    let line = c.args.line in
    let tseg = c.in-Staging.tseg in
    let was : at S line ≡ Staging tseg = sym (ap (λ l. at l line) c.deref.ensures.value) ∙ sym c.state_of.ensures ∙ c.in-Staging.is in
    let near : line < length S = there_by S line (Staging tseg) was (λ e. cc) in
    omega (arith, near, c.self.inside.states.ok)

pub invariant_of-self : goal.invariant_of-self
invariant_of-self c =
    let S = c.self.inside.states.items in
    let line = c.args.line in
    let tseg = c.in-Staging.tseg in
    let was : at S line ≡ Staging tseg = sym (ap (λ l. at l line) c.deref.ensures.value) ∙ sym c.state_of.ensures ∙ c.in-Staging.is in
    let near : line < length S = there_by S line (Staging tseg) was (λ e. cc) in
    stuck_indexed S line tseg c.self.inside.clean c.self.inside.held c.self.inside.lowest c.self.invariant near was
