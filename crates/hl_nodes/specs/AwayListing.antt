-- Where tertiary segments, in lines and in slots, say which blocks they hold.
use Rattle.std.specs.Prelude.{◌≡◌, ℕ, ◌-◌, ◌≤◌, List, [], length, unwrap_or, Some}
use Rattle.std.specs.List.{slice_index_or}
use Rattle.std.specs.FinMap.{get}
use Rattle.hl_media.specs.History.{Image}
use Rattle.hl_addr.specs.Layout.{Layout}
use Rattle.hl_bytes.specs.declared.records.BlockRecord.{BlockRecord}
use Rattle.hl_tseg.specs.SlotTable.{SlotTable, slot_at}
use Rattle.hl_tseg.specs.Segments.{SegmentHead, SpellsSegment}
use Rattle.hl_tseg.specs.declared.slot.Slot.TheVariants.{Staged}
use Rattle.hl_placed.specs.Blocks.{Away, Shelf, file_block}
use Rattle.hl_paths.specs.Nodes.{FlatNode, Nodes}
use Rattle.hl_nodes.specs.Live.{record_of}
use Rattle.hl_nodes.specs.Live.NodeBlock.{Content}
use Rattle.hl_nodes.specs.Lines.{line_bytes, with_staged}
use Rattle.hl_nodes.specs.Contents.{Contents}

-- these bytes of k blocks are the segment of the serial, whose block at this position has the record
pub record HasSegmentRecord (k : ℕ) (bytes : List ℕ) (serial position : ℕ) (r : BlockRecord) : Type 0 where
  pub head : SegmentHead
  pub spelled : SpellsSegment k bytes head
  pub own : head.serial ≡ serial
  pub low : 1 ≤ position
  pub high : position ≤ length head.records
  pub is : slice_index_or head.records (position - 1) r ≡ r

-- the segment of the serial that the shelf has
abbrev pub shelf_segment : Shelf → ℕ → List ℕ
shelf_segment shelf serial = unwrap_or (get shelf serial) []

-- each block of the nodes that is away has its record in the segment of its serial
abbrev pub AreAwayListed : ℕ → Shelf → Nodes → Type 0
AreAwayListed k shelf nodes = (ino i serial position : ℕ) (node : FlatNode) → get nodes ino ≡ Some node
    → file_block node.content i ≡ Away serial position
    → HasSegmentRecord k (shelf_segment shelf serial) serial position (record_of ino (Content i))

-- so it is of the contents of an image: staged segments are those in its lines, the others those of the shelf
abbrev pub HoldsAwayListed : Layout → Image → Shelf → Contents → Type 0
HoldsAwayListed g image shelf c = AreAwayListed g.k (with_staged g image shelf c.tables.slots.slots) c.nodes

-- the lines of staged slots are the same in both images
abbrev pub SameLines : Layout → Image → Image → SlotTable → Type 0
SameLines g a b slots = (n line serial : ℕ) → slot_at slots n ≡ Staged line serial
    → line_bytes g b line ≡ line_bytes g a line

-- what is away was away there before, in a segment that both shelves have alike
abbrev pub KeepsAway : Shelf → Shelf → Nodes → Nodes → Type 0
KeepsAway shelf other before after = (ino i serial position : ℕ) (node : FlatNode) → get after ino ≡ Some node
    → file_block node.content i ≡ Away serial position
    → (old : FlatNode) × (get before ino ≡ Some old) × (file_block old.content i ≡ Away serial position)
    × (get other serial ≡ get shelf serial)
