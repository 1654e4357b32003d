use Rattle.std.proofs.Common.{◌∙◌, List, set, ap}
use Rattle.std.proofs.lemmas.List.{set-set}
use Rattle.hl_lines.specs.Lines.{all_but}
use Rattle.hl_lines.specs.LineTable.{Lines}
use Rattle.hl_lines.specs.declared.state.LineState.{LineState}
use Rattle.hl_lines.specs.declared.state.LineState.TheVariants.{Staging, Aside}
use Rattle.hl_lines.proofs.table.LineTable.stage.Goals as goal

pub returns : goal.returns
returns c =
    let old : Lines = c.args.self.now in
    let line = c.args.line in
    c.hold.ensures ∙ ap (λ (x : Lines). record x { states = set x.states line (Staging c.args.tseg) }) c.set_aside.ensures
    ∙ ap (λ (l : List LineState). record { states = l; order = all_but line old.order }) (set-set old.states line Aside (Staging c.args.tseg))
