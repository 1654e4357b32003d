use Rattle.std.proofs.Common.{◌≤◌, length, sym, ◌∙◌, ap, subst}
use Rattle.hl_overlay.specs.DraftTables.{DraftTable, freed_of}
use Rattle.hl_overlay.proofs.CountLemmas.{freed_length, freed_most}
use Rattle.hl_overlay.proofs.drafts.Drafts.freed.Goals as goal

pub returns-clause-value : goal.returns-clause-value
returns-clause-value c = c.self.invariant.freed_are ∙ freed_length c.self.inside.items.items ∙ ap (λ (t : DraftTable). length (freed_of t.items)) c.self.view_is

pub returns-clause-most : goal.returns-clause-most
returns-clause-most c = subst (λ (t : DraftTable). c.self.inside.freed ≤ length t.places) c.self.view_is (subst (λ n. n ≤ length c.self.inside.places.items) (sym c.self.invariant.freed_are) (freed_most _ c.self.invariant.table))
