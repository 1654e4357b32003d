-- How a unit is cut into parts.
use Rattle.std.specs.Prelude.{◌≡◌, ◌⊎◌, ℕ, ◌+◌, ◌-◌, ◌<◌, ◌≤◌, min, Bool, false, Option, Some, None, List, [], ◌∷◌, ◌++◌, length, take, drop}
use Rattle.std.specs.List.{range_with_len}
use Rattle.std.specs.Global.{Vec}
use Rattle.hl_addr.specs.Layout.{Layout}
use Rattle.hl_bytes.specs.declared.records.BlockRecord.{BlockRecord}
use Rattle.hl_bytes.specs.declared.records.TableRecord.{TableRecord}
use Rattle.hl_summary.specs.declared.parts.Summary.{Summary}
use Rattle.hl_image.specs.declared.place.LogPlace.{LogPlace}
use Rattle.hl_image.specs.Places.{block_at}
use Rattle.hl_log.specs.declared.piece.Piece.{Piece}
use Rattle.hl_log.specs.declared.piece.Left.{Left}

-- Behind a part of n blocks the log goes on where the part ends, if another may begin there, and else at the first
-- block of the first clean segment.
abbrev pub Goes : Layout → LogPlace → ℕ → List ℕ → LogPlace → List ℕ → Type 0
Goes g at n clean next more =
    (((at.block + n + 1) + 2 ≤ g.k) × (next.seg ≡ at.seg) × (next.block ≡ at.block + n + 1)
    × (more ≡ clean))
    ⊎ ((g.k < (at.block + n + 1) + 2) × (clean ≡ next.seg ∷ more) × (next.block ≡ 0))

-- The next part of a unit of which so many blocks and table records are left: it takes as many blocks as 240 and the
-- rest of its segment allow, and at most 80 table records.
pub record Takes (g : Layout) (at : LogPlace) (clean : List ℕ) (blocks tables : ℕ) (p : Piece)
    (more : List ℕ) : Type 0 where
  pub at_is : p.at ≡ at
  pub blocks_are : p.blocks ≡ min blocks (min 240 (g.k - (at.block + 1)))
  pub tables_are : p.tables ≡ min tables 80
  pub goes : Goes g at p.blocks clean p.next more

-- the next part of what is left of a unit, and what is left behind it
pub record LeavesBehind (g : Layout) (left : Left) (clean : List ℕ) (p : Piece)
    (behind : Left) : Type 0 where
  pub takes : Takes g left.at (drop left.used clean) left.blocks left.tables p
      (drop behind.used clean)
  pub at_is : behind.at ≡ p.next
  pub blocks_left : behind.blocks ≡ left.blocks - p.blocks
  pub tables_left : behind.tables ≡ left.tables - p.tables
  pub used_low : left.used ≤ behind.used
  pub used_high : behind.used ≤ length clean

-- behind a part of so many blocks, of what is left, the log goes on nowhere
abbrev pub NoPlace : Layout → Left → ℕ → List ℕ → Type 0
NoPlace g left blocks clean = (next : LogPlace) (more : List ℕ)
    → Goes g left.at blocks (drop left.used clean) next more → ⊥

-- it goes on at this place, and so many clean segments are taken then
abbrev pub GoesTo : Layout → Left → ℕ → List ℕ → LogPlace → ℕ → Type 0
GoesTo g left blocks clean next used =
    Goes g left.at blocks (drop left.used clean) next (drop used clean)
    × (left.used ≤ used) × (used ≤ length clean)

-- no part is next of what is left
abbrev pub NoPiece : Layout → Left → List ℕ → Type 0
NoPiece g left clean = (p : Piece) (more : List ℕ)
    → Takes g left.at (drop left.used clean) left.blocks left.tables p more → ⊥

-- A unit of so many blocks and table records is cut into these parts. The last takes all that is left, and each other
-- one leaves something. A unit without either is one part.
abbrev pub AreCut : Layout → LogPlace → List ℕ → ℕ → ℕ → List Piece → List ℕ → Type 0
AreCut g at clean blocks tables [] rest = ⊥
AreCut g at clean blocks tables (p ∷ []) rest = Takes g at clean blocks tables p rest
    × (blocks ≡ p.blocks) × (tables ≡ p.tables)
AreCut g at clean blocks tables (p ∷ q ∷ ps) rest = (more : List ℕ)
    × Takes g at clean blocks tables p more
    × (0 < (blocks - p.blocks) + (tables - p.tables))
    × AreCut g p.next more (blocks - p.blocks) (tables - p.tables) (q ∷ ps) rest

-- where the blocks of these parts stand, in their order
abbrev pub addresses : Layout → List Piece → List ℕ
addresses g [] = []
addresses g (p ∷ ps) = range_with_len (block_at g p.at + 1) p.blocks ++ addresses g ps

-- where the log goes on behind these parts
abbrev pub place_behind : LogPlace → List Piece → LogPlace
place_behind at [] = at
place_behind at (p ∷ ps) = place_behind p.next ps

-- there are clean segments enough for so many blocks and table records
abbrev pub HasClean : Layout → LogPlace → List ℕ → ℕ → ℕ → Type 0
HasClean g head clean blocks tables = (pieces : List Piece) × (rest : List ℕ)
    × AreCut g head clean blocks tables pieces rest

-- these are the addresses of the blocks of a unit of so many blocks and table records
abbrev pub IsPlan : Layout → LogPlace → List ℕ → ℕ → ℕ → List ℕ → Type 0
IsPlan g head clean blocks tables plan = (pieces : List Piece) × (rest : List ℕ)
    × AreCut g head clean blocks tables pieces rest × (plan ≡ addresses g pieces)

-- the addresses of such a unit, and none exactly where there are too few clean segments
abbrev pub Plans : Layout → LogPlace → List ℕ → ℕ → ℕ → Option (Vec ℕ) → Type 0
Plans g head clean blocks tables None = ¬ HasClean g head clean blocks tables
Plans g head clean blocks tables (Some plan) = IsPlan g head clean blocks tables plan.items

-- what the part says of itself, where these records are left
abbrev pub summary_of : ℕ → Bool → List BlockRecord → List TableRecord → Piece → Summary
summary_of serial ends records changes p = record {
  serial = serial;
  next_seg = p.next.seg;
  next_block = p.next.block;
  ends = ends;
  blocks = take p.blocks records;
  tables = take p.tables changes;
}

-- what the parts say of themselves, of which the last ends the unit or none does
abbrev pub summaries : Bool → ℕ → List BlockRecord → List TableRecord → List Piece → List Summary
summaries closes serial records changes [] = []
summaries closes serial records changes (p ∷ []) = summary_of serial closes records changes p ∷ []
summaries closes serial records changes (p ∷ q ∷ ps) =
    summary_of serial false records changes p ∷ summaries closes (serial + 1)
    (drop p.blocks records) (drop p.tables changes) (q ∷ ps)
