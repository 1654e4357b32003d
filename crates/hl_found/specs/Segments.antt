-- Which segments the parts of a chain lie in, and what lies ahead of the log's head.
use Rattle.std.specs.Prelude.{◌≡◌, ℕ, ◌+◌, ◌*◌, ◌/◌, ◌<◌, ◌≤◌, List, length}
use Rattle.std.specs.List.{slice_index_or}
use Rattle.hl_media.specs.History.{Image}
use Rattle.hl_addr.specs.Layout.{Layout}
use Rattle.hl_super.specs.declared.record.Record.{Record}
use Rattle.hl_summary.specs.declared.parts.Summary.{Summary}
use Rattle.hl_image.specs.declared.place.LogPlace.{LogPlace}
use Rattle.hl_image.specs.declared.chain.ChainPart.{ChainPart}
use Rattle.hl_tables.specs.Values.{TableValues}
use Rattle.hl_nodes.specs.Live.{IsLive}
use Rattle.hl_nodes.specs.Sound.{head_of, IsUsed, IsAhead, IsTaken}
use Rattle.hl_found.specs.declared.live.LiveAt.{LiveAt}

-- block i of a part: the summary, or a block behind it
abbrev pub part_block : Layout → ChainPart → ℕ → ℕ
part_block g p i = g.k * p.seg + p.block + i

-- the part has a block in the segment
abbrev pub LiesIn : Layout → ℕ → ChainPart → Type 0
LiesIn g segment p = (i : ℕ) × (i ≤ length p.summary.blocks) × (part_block g p i / g.k ≡ segment)

-- one of the parts has a block in the segment
abbrev pub HavePartIn : Layout → List ChainPart → ℕ → Type 0
HavePartIn g chain segment = (i : ℕ) × (d : ChainPart) × (i < length chain) × LiesIn g segment (slice_index_or chain i d)

-- no block of the part lies ahead
abbrev pub IsPartBehind : Layout → LogPlace → ChainPart → Type 0
IsPartBehind g head p = (i : ℕ) → i ≤ length p.summary.blocks → IsAhead g head (part_block g p i) → ⊥

abbrev pub ArePartsBehind : Layout → LogPlace → List ChainPart → Type 0
ArePartsBehind g head chain = (i : ℕ) (d : ChainPart) → i < length chain → IsPartBehind g head (slice_index_or chain i d)

-- the block lies in a used segment, and not ahead
abbrev pub IsAddressInPlace : Layout → Record → List Summary → TableValues → ℕ → Type 0
IsAddressInPlace g rec parts t address = IsUsed g rec parts t (address / g.k) × (IsAhead g (head_of rec parts) address → ⊥)

abbrev pub IsInPlace : Layout → Record → List Summary → TableValues → LiveAt → Type 0
IsInPlace g rec parts t e = IsAddressInPlace g rec parts t e.address

-- each live block lies in a used segment, and neither a live block nor one of the chain lies ahead
pub record AreInPlace (g : Layout) (image : Image) (rec : Record) (parts : List Summary) (t : TableValues) : Type 0 where
  pub used : (address : ℕ) → IsLive g image rec t address → IsUsed g rec parts t (address / g.k)
  pub behind : (address : ℕ) → IsTaken g image rec parts t address → IsAhead g (head_of rec parts) address → ⊥
