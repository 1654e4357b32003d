use Rattle.std.proofs.Common.{◌∙◌}
use Rattle.std.specs.FinMap.{get-empty}
use Rattle.std.specs.Ordering.{nat_cmp}
use Rattle.hl_placed.specs.Blocks.{no_shelf}
use Rattle.hl_found.specs.Shelves.{shelf_of}
use Rattle.hl_found.proofs.shelves.segment_of.Goals as goal

pub returns-in-None : goal.returns-in-None
returns-in-None c = c.in_default.ensures (shelf_of c.args.shelf.now) ∙ c.in-None.ensures no_shelf ∙ get-empty nat_cmp c.args.serial
