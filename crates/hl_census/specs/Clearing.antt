-- Segments in which nothing is.
use Rattle.std.specs.Prelude.{◌≡◌, ◌≢◌, ◌↔◌, ℕ, ◌-◌, ◌<◌, ◌≤◌, AllPairs, Contains, List, length, slice_index}
use Rattle.hl_image.specs.declared.place.LogPlace.{LogPlace}

-- the segment isn't the head's, and has neither a part nor a live block
pub record IsEmptySegment (at : LogPlace) (covered live : List ℕ) (seg : ℕ) : Type 0 where
  pub not_head : seg ≢ at.seg
  pub no_part : slice_index covered seg ≡ 0
  pub no_live : slice_index live (seg - 1) ≡ 0

-- the empty segments from 1 on, below this one, in rising order
pub record AreEmptyBelow (at : LogPlace) (covered live : List ℕ) (end : ℕ) (clean : List ℕ) : Type 0 where
  pub each : (seg : ℕ) → Contains clean seg ↔ ((1 ≤ seg) × (seg < end) × IsEmptySegment at covered live seg)
  pub rising : AllPairs (λ (one other : ℕ). one < other) clean
  pub few : length clean < end
