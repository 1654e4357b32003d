use Rattle.std.proofs.Common.{◌*◌, ◌≤◌, length, sym, subst}
use Rattle.hl_overlay.specs.DraftTables.{DraftTable}
use Rattle.hl_overlay.proofs.CountLemmas.{others_most}
use Rattle.hl_overlay.proofs.drafts.Drafts.others.Goals as goal

pub returns-clause-most : goal.returns-clause-most
returns-clause-most c = subst (λ (t : DraftTable). c.self.inside.others ≤ 2 * length t.places) c.self.view_is (subst (λ n. n ≤ 2 * length c.self.inside.places.items) (sym c.self.invariant.others_are) (others_most _ c.self.invariant.table))
