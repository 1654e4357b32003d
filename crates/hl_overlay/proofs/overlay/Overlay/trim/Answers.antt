use Rattle.hl_overlay.proofs.OverlayLemmas.{trimmed_named}
use Rattle.hl_overlay.proofs.overlay.Overlay.trim.Goals as goal

pub invariant_of-self : goal.invariant_of-self
invariant_of-self c = record { named = trimmed_named c.args.most c.self.inside.drafts c.trim.new.self c.self.inside.blocks.items c.trim.ensures.is c.trim.ensures.trims c.self.invariant.named; room = c.self.invariant.room }

pub returns-clause-whole : goal.returns-clause-whole
returns-clause-whole c = record { table = c.trim.ensures.whole; named = trimmed_named c.args.most c.self.inside.drafts c.trim.new.self c.self.inside.blocks.items c.trim.ensures.is c.trim.ensures.trims c.self.invariant.named }
