-- Places of the log and the blocks of the disk.
use Rattle.std.specs.Prelude.{ℕ, ◌+◌, ◌*◌, ◌≤◌}
use Rattle.hl_addr.specs.Layout.{Layout}
use Rattle.hl_addr.specs.Place.{IsAt}
use Rattle.hl_addr.specs.declared.place.Place.TheVariants.{Log}
use Rattle.hl_image.specs.declared.place.LogPlace.{LogPlace}

-- the number of a place's block, which is its address
abbrev pub block_at : Layout → LogPlace → ℕ
block_at g at = g.k * at.seg + at.block

-- the first block behind the log
abbrev pub log_end : Layout → ℕ
log_end g = g.k * g.log + g.k

-- a part may begin there: in a log segment, with room for a block behind its summary
pub record IsLogPlace (g : Layout) (at : LogPlace) : Type 0 where
  pub low : 1 ≤ at.seg
  pub high : at.seg ≤ g.log
  pub room : at.block + 2 ≤ g.k

-- the address of a block of the log
pub record InLog (g : Layout) (address : ℕ) : Type 0 where
  pub segment : ℕ
  pub block : ℕ
  pub place : IsAt g address (Log segment block)
