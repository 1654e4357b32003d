-- Which segments are used, and which blocks stray.
use Rattle.std.specs.Prelude.{◌≡◌, ◌≢◌, ◌⊎◌, ◌↔◌, ℕ, ◌/◌, ◌<◌, ◌≤◌, true, false, Bool, Contains, List, length, slice_index, Option, Some, None}
use Rattle.std.specs.List.{slice_index_or}
use Rattle.hl_addr.specs.Layout.{Layout}
use Rattle.hl_super.specs.declared.record.Record.{Record}
use Rattle.hl_summary.specs.declared.parts.Summary.{Summary}
use Rattle.hl_image.specs.declared.place.LogPlace.{LogPlace}
use Rattle.hl_image.specs.Places.{InLog}
use Rattle.hl_image.specs.Chain.{Covers}
use Rattle.hl_tables.specs.Values.{TableValues}
use Rattle.hl_nodes.specs.Sound.{IsMarked, IsUsed, IsAhead}

-- the segment is marked used, or parts reach into it, or the head is there
abbrev pub IsHeld : TableValues → LogPlace → List ℕ → ℕ → Type 0
IsHeld t at covered seg = IsMarked t seg ⊎ ((slice_index covered seg ≢ 0) ⊎ (at.seg ≡ seg))

-- one of the addresses lies in the segment
abbrev pub HaveOneIn : ℕ → List ℕ → ℕ → Type 0
HaveOneIn k addresses seg = (i : ℕ) × (i < length addresses) × (slice_index addresses i / k ≡ seg)

-- the flag of the segment is set
abbrev pub IsSet : List Bool → ℕ → Type 0
IsSet flags seg = slice_index_or flags seg false ≡ true

-- the flags, from segment 0 on, are set of the segments that are used, up to the log's last
abbrev pub AreUsed : Layout → Record → List Summary → TableValues → List Bool → Type 0
AreUsed g rec parts t used = (seg : ℕ) → seg ≤ g.log → IsSet used seg ↔ IsUsed g rec parts t seg

-- a block of the log in a segment whose flag isn't set, or at the head or past it
pub record IsStray (g : Layout) (at : LogPlace) (used : List Bool) (address : ℕ) : Type 0 where
  pub in_log : InLog g address
  pub strays : (¬ IsSet used (address / g.k)) ⊎ IsAhead g at address

-- one of the addresses that strays, or none does
abbrev pub TellsStray : Layout → LogPlace → List Bool → List ℕ → Option ℕ → Type 0
TellsStray g at used addresses None = (address : ℕ) → Contains addresses address → ¬ IsStray g at used address
TellsStray g at used addresses (Some address) = Contains addresses address × IsStray g at used address

-- a block of the parts that lies ahead of the place, or none does
abbrev pub TellsAhead : Layout → LogPlace → LogPlace → List Summary → Option ℕ → Type 0
TellsAhead g at start parts None = (b : ℕ) → Covers g start parts b → ¬ IsAhead g at b
TellsAhead g at start parts (Some b) = Covers g start parts b × IsAhead g at b
