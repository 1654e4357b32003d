-- The parts that stand in an image.
use Rattle.std.specs.Prelude.{◌≡◌, ℕ, ◌+◌, ◌*◌, List, length}
use Rattle.hl_media.specs.History.{Image, area}
use Rattle.hl_addr.specs.Layout.{Layout}
use Rattle.hl_summary.specs.declared.parts.Summary.{Summary}
use Rattle.hl_summary.specs.Parts.{Spells}
use Rattle.hl_image.specs.declared.place.LogPlace.{LogPlace}
use Rattle.hl_image.specs.Places.{block_at}

-- the bytes are a part of this summary for this place: one block for the summary, and one for each block record
pub record IsPartBytes (g : Layout) (at : LogPlace) (serial : ℕ) (bytes : List ℕ) (s : Summary) : Type 0 where
  pub whole : length bytes ≡ 4096 * (1 + length s.blocks)
  pub spelled : Spells g at.seg at.block serial bytes s

-- the part with this serial stands at this place of the image
abbrev pub IsPart : Layout → Image → LogPlace → ℕ → Summary → Type 0
IsPart g image at serial s = IsPartBytes g at serial (area image (block_at g at) (1 + length s.blocks)) s

-- no part with this serial stands there
abbrev pub NoPart : Layout → Image → LogPlace → ℕ → Type 0
NoPart g image at serial = (s : Summary) → ¬ IsPart g image at serial s

-- the place that a part names
abbrev pub next_of : Summary → LogPlace
next_of s = record { seg = s.next_seg; block = s.next_block }
