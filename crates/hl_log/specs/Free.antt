-- The blocks that the log may write next.
use Rattle.std.specs.Prelude.{◌⊎◌, ℕ, ◌+◌, ◌*◌, ◌<◌, ◌≤◌, List, [], ◌∷◌, Contains}
use Rattle.hl_addr.specs.Layout.{Layout}
use Rattle.hl_image.specs.declared.place.LogPlace.{LogPlace}
use Rattle.hl_image.specs.Places.{block_at}

-- the block lies in one of these segments
abbrev pub InOneOf : Layout → List ℕ → ℕ → Type 0
InOneOf g [] b = ⊥
InOneOf g (c ∷ clean) b = ((g.k * c ≤ b) × (b < g.k * c + g.k)) ⊎ InOneOf g clean b

-- the block may be written next: it lies in the head's segment from the head on, or in a clean segment
abbrev pub IsFree : Layout → LogPlace → List ℕ → ℕ → Type 0
IsFree g head clean b = ((block_at g head ≤ b) × (b < g.k * head.seg + g.k)) ⊎ InOneOf g clean b

-- each number stands once
abbrev pub Once : List ℕ → Type 0
Once [] = Unit {0}
Once (x ∷ xs) = (Contains xs x → ⊥) × Once xs

-- segments of the log, each once, and none of them this one
pub record AreClean (g : Layout) (other : ℕ) (clean : List ℕ) : Type 0 where
  pub in_log : (c : ℕ) → Contains clean c → (1 ≤ c) × (c ≤ g.log)
  pub once : Once clean
  pub apart : Contains clean other → ⊥
