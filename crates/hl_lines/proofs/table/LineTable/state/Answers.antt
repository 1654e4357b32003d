use Rattle.std.proofs.Common.{subst}
use Rattle.hl_lines.specs.LineTable.{AreLines}
use Rattle.hl_lines.proofs.Lookups.{are_lines}
use Rattle.hl_lines.proofs.table.LineTable.state.Goals as goal

pub returns-clause-whole : goal.returns-clause-whole
returns-clause-whole c = subst AreLines c.self.view_is (are_lines c.self.inside.states.items c.self.inside.clean c.self.inside.held c.self.inside.lowest c.self.invariant)
