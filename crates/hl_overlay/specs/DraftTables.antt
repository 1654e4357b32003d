-- The drafts by the numbers of their nodes.
use Rattle.std.specs.Prelude.{◌≡◌, ◌≢◌, ℕ, ◌<◌, ◌≤◌, nat_le, if◌then◌else◌, true, List, map, length, slice_get, slice_index, count_by, sum_by, Option, Some, None}
use Rattle.std.specs.List.{filter}
use Rattle.std.specs.Option.{ForSome}
use Rattle.hl_bytes.specs.declared.records.TableRecord.{TableRecord}
use Rattle.hl_overlay.specs.declared.draft.NodeDraft.{NodeDraft}
use Rattle.hl_overlay.specs.declared.draft.Shape.{Shape}
use Rattle.hl_overlay.specs.Pointing.{AreHoles}
use Rattle.hl_overlay.specs.Drafting.{IsDraft, blocks_of_shape, count_for, is_changed, is_freed}

-- the drafts in the order in which they came, and where that of each number stands
pub record DraftTable : Type 0 where
  pub items : List NodeDraft
  pub places : List ℕ

-- the draft of a number
abbrev pub draft_of : DraftTable → ℕ → Option NodeDraft
draft_of t ino = slice_get t.items (slice_index t.places ino)

-- Each draft stands where the table says, no draft of another number stands there, and a number without a draft stands
-- nowhere. A site has at most 2,048 numbers.
pub record IsDraftTable (t : DraftTable) : Type 0 where
  pub few : length t.places ≤ 2048
  pub placed : (k : ℕ) (d : NodeDraft) → slice_get t.items k ≡ Some d → (d.ino < length t.places) × (slice_index t.places d.ino ≡ k)
  pub own : (ino : ℕ) (d : NodeDraft) → ino < length t.places → draft_of t ino ≡ Some d → d.ino ≡ ino
  pub nowhere : (ino : ℕ) → ino < length t.places → draft_of t ino ≡ None → slice_index t.places ino ≡ 18446744073709551615
  pub drafts : (k : ℕ) (d : NodeDraft) → slice_get t.items k ≡ Some d → IsDraft d

-- how many blocks the next unit has of the drafts besides their new ones
abbrev pub others_in : List NodeDraft → ℕ
others_in ds = sum_by count_for ds

abbrev pub others_of : DraftTable → ℕ
others_of t = others_in t.items

-- the table records of the numbers that become free
abbrev pub freed_record : NodeDraft → TableRecord
freed_record d = record { kind = 1; a = d.ino; b = 0; serial = 0 }

abbrev pub freed_of : List NodeDraft → List TableRecord
freed_of ds = map freed_record (filter is_freed ds)

-- the blocks and the freed numbers of the next unit are counted
pub record IsCounted (t : DraftTable) (others freed : ℕ) : Type 0 where
  pub table : IsDraftTable t
  pub others_are : others ≡ others_of t
  pub freed_are : freed ≡ count_by is_freed t.items

-- one number has another draft, and all others have theirs
pub record Redrafts (old new : DraftTable) (ino : ℕ) (d : NodeDraft) : Type 0 where
  pub drafted : draft_of new ino ≡ Some d
  pub others : (q : ℕ) → q < length old.places → q ≢ ino → draft_of new q ≡ draft_of old q
  pub numbers : length new.places ≡ length old.places

-- a node is drafted, and its size reaches the block
pub record HasBlock (t : DraftTable) (ino i : ℕ) : Type 0 where
  pub draft : NodeDraft
  pub is : draft_of t ino ≡ Some draft
  pub within : i < blocks_of_shape draft.shape

-- a node is drafted, and has no block past the size of the shape, which a node may have
pub record CanShape (t : DraftTable) (ino : ℕ) (shape : Option Shape) : Type 0 where
  pub draft : NodeDraft
  pub is : draft_of t ino ≡ Some draft
  pub size : ForSome shape (λ s. s.size ≤ 4243456)
  pub ends : AreHoles draft.pointers (blocks_of_shape shape)

-- no number is drafted
abbrev pub HasNone : DraftTable → Type 0
HasNone t = (ino : ℕ) → ino < length t.places → draft_of t ino ≡ None

-- the drafts that are left where so many may be held: all, or where they are more, the changed ones
abbrev pub trimmed : ℕ → List NodeDraft → List NodeDraft
trimmed most ds = if nat_le (length ds) most then ds else filter is_changed ds

-- Where more drafts than that are held the unchanged ones are gone. Each changed draft is there, there is no other than
-- there was, and the next unit has what it had.
pub record Trims (most : ℕ) (old new : DraftTable) : Type 0 where
  pub left : new.items ≡ trimmed most old.items
  pub numbers : length new.places ≡ length old.places
  pub changed : (ino : ℕ) (d : NodeDraft) → ino < length old.places → draft_of old ino ≡ Some d → d.changed ≡ true → draft_of new ino ≡ Some d
  pub only : (ino : ℕ) (d : NodeDraft) → ino < length old.places → draft_of new ino ≡ Some d → draft_of old ino ≡ Some d
  pub others : others_of new ≡ others_of old
  pub freed : freed_of new.items ≡ freed_of old.items
