use Rattle.std.proofs.Common.{true}
use Rattle.hl_found.specs.Reach.{AreReached, Goes, HasEntriesOf, LeadTo, OfUses}
use Rattle.hl_found.proofs.reach.reach_entries.Given as goal

abbrev pub invariant-each : goal.invariant-each
invariant-each l = OfUses l.uses (λ numbered. AreReached numbered l.fn.reached.items → LeadTo numbered l.path l.entries → Goes numbered l.fn.reached.items l.reached.items (HasEntriesOf l.path l.entries l.k l.reached.items) true)
