-- The last blocks of files that a size doesn't fill.
use Rattle.std.specs.Prelude.{◌≡◌, ◌≢◌, ℕ, ◌+◌, ◌/◌, ◌%◌, ◌<◌, List, length, Some}
use Rattle.std.specs.FinMap.{get}
use Rattle.hl_media.specs.History.{Image}
use Rattle.hl_addr.specs.Layout.{Layout}
use Rattle.hl_tseg.specs.SlotTable.{SlotTable, slot_at}
use Rattle.hl_tseg.specs.declared.slot.Slot.TheVariants.{Staged}
use Rattle.hl_inode.specs.declared.inode.Kind.TheVariants.{File}
use Rattle.hl_placed.specs.Blocks.{Away, Block, Here, file_block}
use Rattle.hl_paths.specs.Nodes.{FlatNode, Nodes}
use Rattle.hl_nodes.specs.Lines.{line_start, IsZeroFrom}

-- this is the last block of the file of some number, whose size fills it up to this byte alone
pub record IsLast (nodes : Nodes) (block : Block) (end : ℕ) : Type 0 where
  pub ino : ℕ
  pub node : FlatNode
  pub is : get nodes ino ≡ Some node
  pub file : node.kind ≡ File
  pub last : file_block node.content (node.content.size / 4096) ≡ block
  pub end_is : node.content.size % 4096 ≡ end
  pub part : end ≢ 0

-- each last block that is here is zero past the size
abbrev pub EndNodes : Nodes → Type 0
EndNodes nodes = (bytes : List ℕ) (end : ℕ) → IsLast nodes (Here bytes) end → IsZeroFrom end bytes

-- each last block that is away in a staged line is zero past the size there
abbrev pub EndLines : Layout → Image → SlotTable → Nodes → Type 0
EndLines g image slots nodes = (n line serial position end : ℕ) → slot_at slots n ≡ Staged line serial
    → IsLast nodes (Away serial position) end → IsZeroFrom end (image (line_start g line + position))

-- each block of a staged line has its 4,096 bytes
abbrev pub HasWholeLines : Layout → Image → SlotTable → Type 0
HasWholeLines g image slots = (n line serial i : ℕ) → slot_at slots n ≡ Staged line serial → i < g.k
    → length (image (line_start g line + i)) ≡ 4096
