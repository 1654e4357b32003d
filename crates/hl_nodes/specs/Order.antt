-- Contents that are in order: what an image has that breaks none of the rules 1 to 15.
use Rattle.std.specs.Prelude.{◌≡◌, ◌≢◌, ℕ, ◌/◌, ◌%◌, ◌≤◌}
use Rattle.hl_media.specs.History.{Image}
use Rattle.hl_addr.specs.Layout.{Layout, quota}
use Rattle.hl_tseg.specs.SlotTable.{SlotTable, slot_at}
use Rattle.hl_tseg.specs.Segments.{SegmentHead, SpellsSegment}
use Rattle.hl_tseg.specs.declared.slot.Slot.TheVariants.{Staged}
use Rattle.hl_tables.specs.Values.{TableValues}
use Rattle.hl_inode.specs.declared.inode.Kind.TheVariants.{File}
use Rattle.hl_inode.specs.declared.inode.Inode.{Inode}
use Rattle.hl_placed.specs.Placed.{PlacedTree}
use Rattle.hl_paths.specs.Nodes.{HasTree, flat_charge}
use Rattle.hl_nodes.specs.Pointers.{pointer_of}
use Rattle.hl_nodes.specs.Directories.{IsInodeIn}
use Rattle.hl_nodes.specs.Lines.{line_bytes, OnDisk, IsZeroFrom}
use Rattle.hl_nodes.specs.Contents.{Contents, HasContents}
use Rattle.hl_nodes.specs.Sound.{IsSound}

-- the line of each staged slot holds the segment of the slot's serial
abbrev pub HoldsLines : Layout → Image → SlotTable → Type 0
HoldsLines g image slots = (n line serial : ℕ) → slot_at slots n ≡ Staged line serial
    → (head : SegmentHead) × SpellsSegment g.k (line_bytes g image line) head × (head.serial ≡ serial)

-- the last block of each file, where it lies on the disk, is zero past the size
abbrev pub EndsFiles : Layout → Image → TableValues → Type 0
EndsFiles g image t = (ino own address : ℕ) (v : Inode) → IsInodeIn g image t ino v own → v.kind ≡ File → v.size % 4096 ≢ 0
    → OnDisk g t.slots (pointer_of image v (v.size / 4096)) address → IsZeroFrom (v.size % 4096) (image address)

-- the image has the contents, which are sound; their nodes are the tree; lines and last blocks are in order, and the
-- charge is within the quota
pub record IsInOrder (g : Layout) (image : Image) (c : Contents) (placed : PlacedTree) : Type 0 where
  pub has : HasContents g image c
  pub sound : IsSound g image c
  pub tree : HasTree c.nodes placed
  pub lines : HoldsLines g image c.tables.slots
  pub ends : EndsFiles g image c.tables
  pub charge : flat_charge c.nodes ≤ quota g
