use Rattle.hl_addr.proofs.PlaceLemmas.{place_only}
use Rattle.hl_addr.proofs.geometry.Geometry.address_of.Goals as goal

pub returns-clause-back : goal.returns-clause-back
returns-clause-back c = λ other is. place_only c.args.self.now c.address_at.ensures.within c.address_at.result other c.args.place.now is c.address_at.ensures.at
