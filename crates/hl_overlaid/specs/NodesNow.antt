-- The nodes that a site has now: those of the last unit, with what was changed of them since.
use Rattle.std.specs.Prelude.{◌≡◌, ℕ, nat_lt, if◌then◌else◌, List, length, slice_index, Option, Some, None, option_map}
use Rattle.std.specs.List.{fold}
use Rattle.std.specs.FinMap.{get, insert, remove}
use Rattle.hl_addr.specs.Layout.{Layout}
use Rattle.hl_bytes.specs.declared.block.Block as bytes
use Rattle.hl_bytes.specs.declared.records.BlockRecord.{BlockRecord}
use Rattle.hl_tseg.specs.SlotTable.{SlotTable}
use Rattle.hl_placed.specs.Blocks.{Away, Block, Here, Hole, blocks_of, file_block, listed}
use Rattle.hl_paths.specs.Nodes.{FlatNode, Nodes}
use Rattle.hl_overlay.specs.declared.pointers.Pointer.{Pointer}
use Rattle.hl_overlay.specs.declared.pointers.Pointer.TheVariants as pointers
use Rattle.hl_overlay.specs.declared.draft.NodeDraft.{NodeDraft}
use Rattle.hl_overlay.specs.declared.draft.Shape.{Shape}
use Rattle.hl_overlay.specs.Pointing.{where_is}
use Rattle.hl_overlay.specs.DraftTables.{IsDraftTable, draft_of}
use Rattle.hl_overlay.specs.Overlays.{IsOverlay, OverlayValue, new_bytes}
use Rattle.hl_overlay.specs.Making.{used_of}

-- the drafts with their new blocks, the last use of each number, and what each slot holds now
pub record Overlaid : Type 0 where
  pub overlay : OverlayValue
  pub uses : List ℕ
  pub slots : SlotTable

-- the drafts are a table of the site's numbers and name the new blocks, and each number has a last use
pub record IsOverlaid (g : Layout) (o : Overlaid) : Type 0 where
  pub table : IsDraftTable o.overlay.drafts
  pub named : IsOverlay o.overlay
  pub numbers : length o.overlay.drafts.places ≡ g.inodes
  pub each_use : length o.uses ≡ g.inodes

-- block i of what a number had
abbrev pub old_block : Option FlatNode → ℕ → Block
old_block None i = Hole
old_block (Some node) i = file_block node.content i

-- a block of a drafted node: none, the one that the node had, one that goes away, or new bytes
abbrev pub block_now : Option FlatNode → List (BlockRecord × bytes.Block) → ℕ → Pointer → Block
block_now old new i pointers.Hole = Hole
block_now old new i (pointers.Kept addr) = old_block old i
block_now old new i (pointers.Moved addr serial position) = Away serial position
block_now old new i (pointers.New n) = Here (new_bytes new n)

-- a drafted node of a shape, by what the number had, the new blocks and its last use
abbrev pub shaped_node : Option FlatNode → List (BlockRecord × bytes.Block) → ℕ → List Pointer → Shape → FlatNode
shaped_node old new used pointers shape = record {
  kind = shape.kind;
  content = record {
    size = shape.size;
    used = used_of shape.kind used;
    blocks = listed (blocks_of shape.size) (λ i. block_now old new i (where_is pointers i));
  };
}

abbrev pub draft_node : Overlaid → Nodes → NodeDraft → Option FlatNode
draft_node o last d = option_map (shaped_node (get last d.ino) o.overlay.blocks (slice_index o.uses d.ino) d.pointers) d.shape

-- the nodes with another node, or none, under a number
abbrev pub with_node : Nodes → ℕ → Option FlatNode → Nodes
with_node nodes ino None = remove nodes ino
with_node nodes ino (Some node) = insert nodes ino node

-- the nodes with that of a draft, if it is changed
abbrev pub with_draft : Overlaid → Nodes → Nodes → NodeDraft → Nodes
with_draft o last nodes d = if d.changed then with_node nodes d.ino (draft_node o last d) else nodes

-- the nodes now, by those of the last unit
unfoldable pub nodes_now : Overlaid → Nodes → Nodes
nodes_now o last = fold (with_draft o last) last o.overlay.drafts.items

-- the node of a number now, by its draft if it has one
abbrev pub drafted_now : Overlaid → Nodes → ℕ → Option NodeDraft → Option FlatNode
drafted_now o last ino None = get last ino
drafted_now o last ino (Some d) = if d.changed then draft_node o last d else get last ino

abbrev pub node_now : Overlaid → Nodes → ℕ → Option FlatNode
node_now o last ino = if nat_lt ino (length o.overlay.drafts.places) then drafted_now o last ino (draft_of o.overlay.drafts ino) else get last ino
