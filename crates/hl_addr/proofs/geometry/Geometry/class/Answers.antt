use Rattle.hl_addr.proofs.PlaceLemmas.{place_only, at_lies}
use Rattle.hl_addr.proofs.geometry.Geometry.class.Goals as goal

pub returns-clause-only : goal.returns-clause-only
returns-clause-only c = λ place is. place_only c.args.self.now c.place_at.ensures.within c.args.addr place c.place_at.result is c.place_at.ensures.at

pub returns-clause-lies : goal.returns-clause-lies
returns-clause-lies c = λ lives. at_lies c.args.self.now c.place_at.ensures.within c.args.addr c.place_at.result lives c.place_at.ensures.at
