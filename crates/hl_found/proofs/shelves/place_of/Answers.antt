use Rattle.hl_found.proofs.ShelvesFound.{shelf_first, shelf_none}
use Rattle.hl_found.proofs.shelves.place_of.Goals as goal

pub returns-in-Some : goal.returns-in-Some
returns-in-Some c = (c.in-Some.ensures.0, λ base d. shelf_first base c.args.held.now c.in-Some.i c.args.serial d c.in-Some.ensures.0 c.in-Some.ensures.1 (c.in-Some.ensures.2 d))

pub returns-in-None : goal.returns-in-None
returns-in-None c = λ base. shelf_none base c.args.held.now c.args.serial c.in-None.ensures
