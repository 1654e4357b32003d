-- What holds of a site between steps.
use Rattle.hl_addr.specs.Layout.{Layout}
use Rattle.hl_placed.specs.Blocks.{Shelf}
use Rattle.hl_model.specs.Cache.{IsCache}
use Rattle.hl_model.specs.InSlots.{AreInSlots}
use Rattle.hl_model.specs.Runs.{IsSite}
use Rattle.hl_model.specs.Steps.{State}
use Rattle.hl_model.specs.Units.{AreEmptied, IsQuiet}

-- Its files are placed over the shelf; lines, slots and jobs agree; each away block is in a slot's segment; the segments that
-- were cleaned since the newest record hold no block; and nothing is dirty while passes are left.
pub record IsStanding (g : Layout) (shelf : Shelf) (s : State) : Type 0 where
  pub files : IsSite shelf s.site
  pub cache : IsCache g s.site
  pub away : AreInSlots s.site
  pub emptied : AreEmptied s.log
  pub quiet : IsQuiet s.log
