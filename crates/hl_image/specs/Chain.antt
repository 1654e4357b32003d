-- The chain of an image, and where it is cut.
use Rattle.std.specs.Prelude.{◌≡◌, ◌⊎◌, ℕ, ◌+◌, ◌≤◌, Bool, true, false, List, [], ◌∷◌, length}
use Rattle.hl_media.specs.History.{Image}
use Rattle.hl_addr.specs.Layout.{Layout}
use Rattle.hl_summary.specs.declared.parts.Summary.{Summary}
use Rattle.hl_image.specs.declared.place.LogPlace.{LogPlace}
use Rattle.hl_image.specs.declared.chain.ChainPart.{ChainPart}
use Rattle.hl_image.specs.Places.{block_at}
use Rattle.hl_image.specs.Parts.{IsPart, NoPart, next_of}

-- these parts stand one after another, the first at this place with this serial, each at the place that the part
-- before names
abbrev pub Walk : Layout → Image → LogPlace → ℕ → List Summary → Type 0
Walk g image at serial [] = Unit {0}
Walk g image at serial (s ∷ parts) = IsPart g image at serial s × Walk g image (next_of s) (serial + 1) parts

-- the place that the last of them names
abbrev pub end_of : LogPlace → List Summary → LogPlace
end_of at [] = at
end_of at (s ∷ parts) = end_of (next_of s) parts

-- they stand there, and no other stands behind them
pub record IsChain (g : Layout) (image : Image) (at : LogPlace) (serial : ℕ) (parts : List Summary) : Type 0 where
  pub walk : Walk g image at serial parts
  pub last : NoPart g image (end_of at parts) (serial + length parts)

abbrev pub alone : Bool → Summary → List Summary
alone true s = s ∷ []
alone false s = []

abbrev pub put_before : Summary → List Summary → List Summary
put_before s [] = alone s.ends s
put_before s (t ∷ parts) = s ∷ t ∷ parts

-- the parts up to the last one that ends a unit
abbrev pub cut : List Summary → List Summary
cut [] = []
cut (s ∷ parts) = put_before s (cut parts)

-- the chain of the image, cut behind the last part that ends a unit
pub record IsCutChain (g : Layout) (image : Image) (at : LogPlace) (serial : ℕ) (parts : List Summary) : Type 0 where
  pub all : List Summary
  pub chain : IsChain g image at serial all
  pub is : cut all ≡ parts

-- the block is one of theirs
abbrev pub Covers : Layout → LogPlace → List Summary → ℕ → Type 0
Covers g at [] b = ⊥
Covers g at (s ∷ parts) b = ((block_at g at ≤ b) × (b ≤ block_at g at + length s.blocks)) ⊎ Covers g (next_of s) parts b

-- each part with its place
abbrev pub placed : LogPlace → List Summary → List ChainPart
placed at [] = []
placed at (s ∷ parts) = record { seg = at.seg; block = at.block; summary = s } ∷ placed (next_of s) parts
