-- Nodes that a program found, as nodes.
use Rattle.std.specs.Prelude.{◌≡◌, ◌≢◌, ℕ, ◌+◌, ◌<◌, ◌≤◌, List, [], ◌∷◌, map, length, Option, Some, None, MatchOption, option_map}
use Rattle.std.specs.FinMap.{empty, insert}
use Rattle.std.specs.List.{slice_index_or}
use Rattle.hl_media.specs.History.{Image}
use Rattle.hl_addr.specs.Layout.{Layout}
use Rattle.hl_tseg.specs.SlotTable.{SlotTable}
use Rattle.hl_tseg.specs.declared.slot.Slot.{Slot}
use Rattle.hl_inode.specs.declared.inode.Inode.{Inode}
use Rattle.hl_inode.specs.declared.inode.Kind.{Kind}
use Rattle.hl_inode.specs.declared.inode.Kind.TheVariants.{File}
use Rattle.hl_paths.specs.Nodes.{FlatNode, Nodes}
use Rattle.hl_placed.specs.Blocks.{Away, Block, Here, Hole, blocks_of}
use Rattle.hl_nodes.specs.declared.found.FoundBlock.{FoundBlock}
use Rattle.hl_nodes.specs.declared.found.FoundBlock.TheVariants as found
use Rattle.hl_nodes.specs.declared.found.FoundNode.{FoundNode}
use Rattle.hl_nodes.specs.Pointers.{pointer_in, pointer_of}
use Rattle.hl_nodes.specs.Blocks.{StandsFor}
use Rattle.hl_nodes.specs.Nodes.{IsNodeOf, IsNodeAt, IsMapEntry, HasNodes}
use Rattle.hl_tables.specs.Values.{TableValues}
use Rattle.std.specs.Global.{Vec}
use Rattle.hl_tseg.specs.Slots.{HoldsSerial}

abbrev pub block_found : FoundBlock → Block
block_found found.Hole = Hole
block_found (found.Here bytes) = Here bytes.items
block_found (found.Away serial position) = Away serial position

abbrev pub node_found : FoundNode → FlatNode
node_found n = record { kind = n.kind; content = record { size = n.size; used = n.used; blocks = map block_found n.blocks.items } }

-- a pointer block for the blocks from this one on names a block, and none past the size
pub record NamesBlocks (image : Image) (size address from : ℕ) : Type 0 where
  pub named : ℕ
  pub low : named < 1024
  pub names : pointer_in image address named ≢ 4294967295
  pub within : (i : ℕ) → i < 1024 → blocks_of size ≤ from + i → pointer_in image address i ≡ 4294967295

-- the block is one of a file, away in what the slot holds
abbrev pub IsBlockAway : Slot → Kind → ℕ → ℕ → Block → Type 0
IsBlockAway slot kind position most Hole = ⊥
IsBlockAway slot kind position most (Here bytes) = ⊥
IsBlockAway slot kind position most (Away serial at) = (at ≡ position) × (kind ≡ File) × HoldsSerial slot serial × (1 ≤ position) × (position ≤ most)

-- these blocks are those that the inode's pointers stand for
pub record AreBlocks (g : Layout) (slots : SlotTable) (image : Image) (v : Inode) (blocks : List Block) : Type 0 where
  pub count : length blocks ≡ blocks_of v.size
  pub each : (i : ℕ) → i < blocks_of v.size → StandsFor g slots image v.kind (pointer_of image v i) (slice_index_or blocks i Hole)

-- nodes that were found, by their numbers from this one on
abbrev pub found_from : ℕ → List (Option FoundNode) → Nodes
found_from ino [] = empty
found_from ino (None ∷ rest) = found_from (ino + 1) rest
found_from ino (Some found ∷ rest) = insert (found_from (ino + 1) rest) ino (node_found found)

unfoldable pub nodes_found : List (Option FoundNode) → Nodes
nodes_found found = found_from 0 found

-- the away block that was found in a slot, or the slot has none at this position
abbrev pub FindsAway : Slot → Kind → ℕ → ℕ → Option FoundBlock → Type 0
FindsAway slot kind position most found = MatchOption found
    ((serial : ℕ) → kind ≡ File → HoldsSerial slot serial → 1 ≤ position → position ≤ most → ⊥)
    (λ b. IsBlockAway slot kind position most (block_found b))

-- the block that a pointer was found to stand for, or it stands for none
abbrev pub FindsBlock : Layout → SlotTable → Image → Kind → ℕ → Option FoundBlock → Type 0
FindsBlock g slots image kind pointer found = MatchOption found
    ((block : Block) → ¬ StandsFor g slots image kind pointer block)
    (λ b. StandsFor g slots image kind pointer (block_found b))

-- the blocks that an inode's pointers were found to stand for, or some pointer stands for none
abbrev pub FindsBlocks : Layout → SlotTable → Image → Inode → Option (Vec FoundBlock) → Type 0
FindsBlocks g slots image v found = MatchOption found
    ((blocks : List Block) → ¬ AreBlocks g slots image v blocks)
    (λ bs. AreBlocks g slots image v (map block_found bs.items))

-- the node of an inode of this number, or it has none
abbrev pub FindsNodeOf : Layout → SlotTable → Image → ℕ → Inode → Option FoundNode → Type 0
FindsNodeOf g slots image ino v found = MatchOption found
    ((node : FlatNode) → v.number ≡ ino → ¬ IsNodeOf g slots image v node)
    (λ n. (v.number ≡ ino) × IsNodeOf g slots image v (node_found n))

-- the node of this number whose inode stands at the address, or there is none
abbrev pub FindsNode : Layout → SlotTable → Image → ℕ → ℕ → Option FoundNode → Type 0
FindsNode g slots image ino address found = MatchOption found
    ((node : FlatNode) → ¬ IsNodeAt g slots image ino address node)
    (λ n. IsNodeAt g slots image ino address (node_found n))

-- the node of an entry of the map, where that isn't Nothing, or the entry names none of its number
abbrev pub FindsEntry : Layout → SlotTable → Image → ℕ → ℕ → Option (Option FoundNode) → Type 0
FindsEntry g slots image ino address found = MatchOption found
    ((node : Option FlatNode) → ¬ IsMapEntry g slots image ino address node)
    (λ x. IsMapEntry g slots image ino address (option_map node_found x))

-- the nodes that the tables name, or they name none
abbrev pub FindsNodes : Layout → Image → TableValues → Option (Vec (Option FoundNode)) → Type 0
FindsNodes g image t found = MatchOption found
    ((nodes : Nodes) → ¬ HasNodes g image t nodes)
    (λ v. HasNodes g image t (nodes_found v.items))
