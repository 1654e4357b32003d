-- What a site relies on in a job that is out, as plain data.
use Rattle.std.specs.Prelude.{◌≡◌, ℕ, ◌*◌, Bool, true, false, ◌==◌, List, [], filter_map, flat_map, get_or, length, drop, take, Contains, Option, Some, None}
use Rattle.std.specs.List.{range_with_len}
use Rattle.std.specs.FinMap.{entries, get}
use Rattle.hl_addr.specs.Layout.{Layout}
use Rattle.hl_addr.specs.Slots.{volume_of, place_of}
use Rattle.hl_tree.specs.declared.node.Node.{Node}
use Rattle.hl_tree.specs.declared.node.Node.TheVariants.{Dir, File}
use Rattle.hl_tree.specs.Rules.{Files}
use Rattle.hl_tseg.specs.Segments.{SegmentHead, SpellsSegment}
use Rattle.hl_tseg.specs.declared.slot.Slot.{Slot}
use Rattle.hl_tseg.specs.declared.slot.Slot.TheVariants.{Free, Staged, Home, Spoilt}
use Rattle.hl_placed.specs.Blocks.{Block, Hole, Here, Away, PlacedFile, file_block, padded_block}
use Rattle.hl_placed.specs.Placed.{PlacedTree}
use Rattle.hl_media.specs.declared.job.JobNote.{JobNote}
use Rattle.hl_media.specs.declared.job.JobKind.{JobKind}
use Rattle.hl_media.specs.declared.job.JobKind.TheVariants.{Copy, Fetch}
use Rattle.hl_model.specs.Site.{SiteState}

-- a block of a segment, by its position there, and its bytes
pub record ClaimedBlock : Type 0 where
  pub position : ℕ
  pub bytes : List ℕ

-- a segment by its serial, with the blocks that the tree has in it
pub record ClaimedSegment : Type 0 where
  pub serial : ℕ
  pub blocks : List ClaimedBlock

-- a slot of the job's volume, by its place there, and its segment
pub record ClaimedSlot : Type 0 where
  pub place : ℕ
  pub segment : ClaimedSegment

-- the slots that are home on the job's volume, and the segment of a copy
pub record Claim : Type 0 where
  pub homes : List ClaimedSlot
  pub copied : Option ClaimedSegment

-- THE CLAIM OF A JOB

abbrev pub bytes_in : Option (Node (List ℕ)) → List ℕ
bytes_in None = []
bytes_in (Some Dir) = []
bytes_in (Some (File bytes)) = bytes

-- a block that is away in the segment with this serial, with the bytes of its place in the file
abbrev pub block_if : Bool → ℕ → ℕ → List ℕ → Option ClaimedBlock
block_if true position i bytes = Some (record { position = position; bytes = padded_block bytes i })
block_if false position i bytes = None

abbrev pub claimed_block : ℕ → List ℕ → ℕ → Block → Option ClaimedBlock
claimed_block serial bytes i Hole = None
claimed_block serial bytes i (Here here) = None
claimed_block serial bytes i (Away other position) = block_if (other == serial) position i bytes

abbrev pub claimed_in_file : ℕ → List ℕ → PlacedFile → List ClaimedBlock
claimed_in_file serial bytes file = filter_map (λ i. claimed_block serial bytes i (file_block file i)) (range_with_len 0 (length file.blocks))

abbrev pub claimed_in : ℕ → Files → List (List ℕ) → Node PlacedFile → List ClaimedBlock
claimed_in serial files path Dir = []
claimed_in serial files path (File file) = claimed_in_file serial (bytes_in (get files path)) file

-- the segment with this serial: each block of the tree that is away in it, with the tree's bytes
abbrev pub segment_claimed : PlacedTree → Files → ℕ → ClaimedSegment
segment_claimed placed files serial = record { serial = serial; blocks = flat_map (λ e. claimed_in serial files e.0 e.1) (entries placed) }

abbrev pub claimed_home : PlacedTree → Files → ℕ → Slot → Option ClaimedSlot
claimed_home placed files place Free = None
claimed_home placed files place (Staged line serial) = None
claimed_home placed files place (Home serial) = Some (record { place = place; segment = segment_claimed placed files serial })
claimed_home placed files place Spoilt = None

abbrev pub home_if : Bool → PlacedTree → Files → ℕ → Slot → Option ClaimedSlot
home_if true placed files place slot = claimed_home placed files place slot
home_if false placed files place slot = None

abbrev pub copied_by : JobKind → PlacedTree → Files → ℕ → Option ClaimedSegment
copied_by Copy placed files serial = Some (segment_claimed placed files serial)
copied_by Fetch placed files serial = None

-- what the site relies on in a job, over plain files that its tree stands for
unfoldable pub claim_of : Layout → SiteState → Files → JobNote → Claim
claim_of g s files job = record {
  homes = filter_map (λ t. home_if (volume_of g.volumes t == job.volume) s.tree files (place_of g.volumes t) (get_or s.slots t Free)) (range_with_len 0 (length s.slots));
  copied = copied_by job.kind s.tree files job.serial;
}

-- VOLUMES AND BUFFERS THAT MEET ONE

-- the bytes are a segment that checks with its serial and has these blocks at their positions
pub record MeetsSegment (k : ℕ) (bytes : List ℕ) (segment : ClaimedSegment) : Type 0 where
  pub head : SegmentHead
  pub spells : SpellsSegment k bytes head
  pub serial : head.serial ≡ segment.serial
  pub blocks : (block : ClaimedBlock) → Contains segment.blocks block → take 4096 (drop (4096 * block.position) bytes) ≡ block.bytes

-- Each content that a stop may leave of a slot that the claim names is its segment, and so is a copy's buffer.
pub record MeetsClaim (k : ℕ) (may : ℕ → List ℕ → Type 0) (buffer : List ℕ) (claim : Claim) : Type 0 where
  pub homes : (slot : ClaimedSlot) → Contains claim.homes slot → (bytes : List ℕ) → may slot.place bytes → MeetsSegment k bytes slot.segment
  pub copied : (segment : ClaimedSegment) → claim.copied ≡ Some segment → MeetsSegment k buffer segment

-- CLAIMS THAT ARE NO GREATER

-- all blocks of the one segment are blocks of the other
pub record SegmentWithin (one other : ClaimedSegment) : Type 0 where
  pub serial : one.serial ≡ other.serial
  pub blocks : (block : ClaimedBlock) → Contains one.blocks block → Contains other.blocks block

-- another slot has the same place, and all that this one has
pub record SlotWithin (one : ClaimedSlot) (others : List ClaimedSlot) : Type 0 where
  pub other : ClaimedSlot
  pub listed : Contains others other
  pub place : one.place ≡ other.place
  pub segment : SegmentWithin one.segment other.segment

-- all that the one segment of a copy has the other has
abbrev pub CopyWithin : Option ClaimedSegment → Option ClaimedSegment → Type 0
CopyWithin None other = Unit {0}
CopyWithin (Some one) None = ⊥
CopyWithin (Some one) (Some other) = SegmentWithin one other

-- the one claim is no greater than the other
pub record IsNoGreater (one other : Claim) : Type 0 where
  pub homes : (slot : ClaimedSlot) → Contains one.homes slot → SlotWithin slot other.homes
  pub copied : CopyWithin one.copied other.copied
