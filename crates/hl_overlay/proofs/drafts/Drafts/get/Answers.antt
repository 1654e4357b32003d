use Rattle.hl_overlay.proofs.TableLemmas.{found_is}
use Rattle.hl_overlay.proofs.drafts.Drafts.get.Goals as goal

pub returns-clause-is : goal.returns-clause-is
returns-clause-is c = found_is _ c.deref.result.now c.index-place.result.now c.get.result c.self.invariant.table c.deref.ensures.value c.get.ensures.lookup.0 c.get.ensures.lookup.1
