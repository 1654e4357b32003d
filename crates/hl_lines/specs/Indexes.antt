-- What a table of lines keeps beside the states of its lines, so that it needn't look at all of them.
use Rattle.std.specs.Prelude.{◌≡◌, ◌≢◌, ◌⊎◌, ℕ, ◌-◌, ◌<◌, ◌^◌, ◌==◌, if◌then◌else◌, List, [], ◌∷◌, ◌++◌, length, get_or, Option, Some, None, sum_by, IsSome, nat_eq}
use Rattle.std.specs.List.{list_any, position_or_len}
use Rattle.std.specs.Map.{remove_entry}
use Rattle.lru.specs.LruCache.{LruCache, lru_cache}
use Rattle.hl_lines.specs.Index.{Index, look, Drops}
use Rattle.hl_lines.specs.Lines.{segment_of, held_segment, is_empty, first_of}
use Rattle.hl_lines.specs.declared.state.LineState.{LineState}
use Rattle.hl_lines.specs.declared.state.LineState.TheVariants.{Empty, Clean, Staging, Stuck, Aside}

-- the lines of segments in order of use, the least recently used first
abbrev pub order_of : List (ℕ × ℕ) → List ℕ
order_of [] = []
order_of (first ∷ uses) = order_of uses ++ first.1 ∷ []

-- the line of the last whose segment isn't in keep
abbrev pub least_used : List ℕ → List (ℕ × ℕ) → Option ℕ
least_used keep [] = None
least_used keep (first ∷ uses) = first_of (least_used keep uses) (if list_any (λ tseg. tseg == first.0) keep then None else Some first.1)

-- the line is one of those that were used, with this segment
abbrev pub Has : List (ℕ × ℕ) → ℕ → ℕ → Type 0
Has [] tseg line = ⊥
Has (first ∷ uses) tseg line = ((first.0 ≡ tseg) × (first.1 ≡ line)) ⊎ Has uses tseg line

-- no segment and no line stands twice
abbrev pub AreApart : List (ℕ × ℕ) → Type 0
AreApart [] = Unit {0}
AreApart (first ∷ uses) = ((tseg line : ℕ) → Has uses tseg line → (tseg ≢ first.0) × (line ≢ first.1)) × AreApart uses

-- how many clean lines a line is, and how many staging or stuck ones
abbrev pub clean_weight : LineState → ℕ
clean_weight Empty = 0
clean_weight (Clean tseg) = 1
clean_weight (Staging tseg) = 0
clean_weight (Stuck tseg) = 0
clean_weight Aside = 0

abbrev pub held_weight : LineState → ℕ
held_weight Empty = 0
held_weight (Clean tseg) = 0
held_weight (Staging tseg) = 1
held_weight (Stuck tseg) = 1
held_weight Aside = 0

-- the uses are those of the clean lines
pub record AreUses (states : List LineState) (uses : List (ℕ × ℕ)) : Type 0 where
  pub clean : (tseg line : ℕ) → Has uses tseg line → get_or states line Empty ≡ Clean tseg
  pub all : (tseg line : ℕ) → get_or states line Empty ≡ Clean tseg → Has uses tseg line
  pub apart : AreApart uses
  pub count : length uses ≡ sum_by clean_weight states

-- the index has the staging and stuck lines
pub record AreHeld (states : List LineState) (held : Index) : Type 0 where
  pub only : (tseg line : ℕ) → look tseg held ≡ Some line → held_segment (get_or states line Empty) ≡ Some tseg
  pub all : (tseg line : ℕ) → held_segment (get_or states line Empty) ≡ Some tseg → look tseg held ≡ Some line
  pub count : length held.keys ≡ sum_by held_weight states
  pub room : held.room ≡ length states

-- no two lines hold one segment
abbrev pub AreSingle : List LineState → Type 0
AreSingle states = (line other tseg : ℕ) → segment_of (get_or states line Empty) ≡ Some tseg → segment_of (get_or states other Empty) ≡ Some tseg → line ≡ other

-- the clean lines by their segments in order of use, the staging and stuck ones by their segments, and the lowest empty one
pub record AreIndexed (states : List LineState) (clean : LruCache ℕ ℕ) (held : Index) (lowest : ℕ) : Type 0 where
  pub few : length states < 2 ^ 32
  pub uses : AreUses states clean.entries
  pub unbounded : clean.cap ≡ 2 ^ 64 - 1
  pub kept : AreHeld states held
  pub single : AreSingle states
  pub first : lowest ≡ position_or_len is_empty states

-- the segment of a line that holds one is forgotten
abbrev pub Forgets : LineState → LruCache ℕ ℕ → Index → LruCache ℕ ℕ → Index → Type 0
Forgets Empty clean held clean' held' = (clean' ≡ clean) × (held' ≡ held)
Forgets (Clean tseg) clean held clean' held' = (clean' ≡ lru_cache (remove_entry (nat_eq tseg) clean.entries) clean.cap) × (held' ≡ held)
Forgets (Staging tseg) clean held clean' held' = (clean' ≡ clean) × Drops held tseg held'
Forgets (Stuck tseg) clean held clean' held' = (clean' ≡ clean) × Drops held tseg held'
Forgets Aside clean held clean' held' = (clean' ≡ clean) × (held' ≡ held)

-- a staging or stuck line is found by its segment
abbrev pub IsFound : LineState → Index → Type 0
IsFound Empty held = Unit {0}
IsFound (Clean tseg) held = Unit {0}
IsFound (Staging tseg) held = IsSome (look tseg held)
IsFound (Stuck tseg) held = IsSome (look tseg held)
IsFound Aside held = Unit {0}
