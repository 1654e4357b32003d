-- Overlays worked out: the nodes now as values.
use Rattle.std.proofs.Common.{◌≡◌, true, false, List, [], ◌∷◌, Option, Some, None, refl, ap}
use Rattle.std.specs.FinMap.{get, insert, remove}
use Rattle.hl_inode.specs.declared.inode.Kind.TheVariants.{File}
use Rattle.hl_tseg.specs.SlotTable.{SlotTable}
use Rattle.hl_placed.specs.Blocks.{Away, Block, Here, Hole, blocks_of, file_block}
use Rattle.hl_paths.specs.Nodes.{FlatNode, Nodes}
use Rattle.hl_overlay.specs.declared.pointers.Pointer.{Pointer}
use Rattle.hl_overlay.specs.declared.pointers.Pointer.TheVariants as place
use Rattle.hl_overlay.specs.declared.draft.NodeDraft.{NodeDraft}
use Rattle.hl_overlay.specs.declared.draft.Shape.{Shape}
use Rattle.hl_overlaid.specs.NodesNow.{Overlaid, node_now, nodes_now, old_block}

-- a file of two blocks
abbrev two_blocks : Shape
two_blocks = record { kind = File; size = 8192 }

-- number 2 is drafted, and a new block of it has the byte 7
abbrev drafted_as : Option Shape → List Pointer → NodeDraft
drafted_as shape pointers = record { ino = 2; own = 600; shape = shape; single = 4294967295; pointers = pointers; changed = true }

abbrev over_of : NodeDraft → SlotTable → Overlaid
over_of d slots = record {
  overlay = record {
    drafts = record { items = d ∷ []; places = 18446744073709551615 ∷ 18446744073709551615 ∷ 0 ∷ [] };
    blocks = (record { ino = 2; index = 0 }, record { bytes = 7 ∷ [] }) ∷ [];
    room = 0;
  };
  uses = 0 ∷ 0 ∷ 9 ∷ [];
  slots = slots;
}

-- a file used at moment 9
abbrev file_of : List Block → FlatNode
file_of blocks = record { kind = File; content = record { size = 8192; used = 9; blocks = blocks } }

module _ (slots : SlotTable) (last : Nodes) where
  -- a new block and a hole
  pub a_new_block_and_a_hole : nodes_now (over_of (drafted_as (Some two_blocks) (place.New 0 ∷ place.Hole ∷ [])) slots) last ≡ insert last 2 (file_of (Here (7 ∷ []) ∷ Hole ∷ []))
  unfolding nodes_now blocks_of
  a_new_block_and_a_hole = refl

  pub number_2_has_them : node_now (over_of (drafted_as (Some two_blocks) (place.New 0 ∷ place.Hole ∷ [])) slots) last 2 ≡ Some (file_of (Here (7 ∷ []) ∷ Hole ∷ []))
  unfolding blocks_of
  number_2_has_them = refl

  pub number_1_has_what_it_had : node_now (over_of (drafted_as (Some two_blocks) (place.New 0 ∷ place.Hole ∷ [])) slots) last 1 ≡ get last 1
  number_1_has_what_it_had = refl

  -- a block that is kept is the one that the node had, and one that goes away is in its segment
  pub a_block_stays_and_one_goes_away : (node : FlatNode) → get last 2 ≡ Some node
      → node_now (over_of (drafted_as (Some two_blocks) (place.Kept 500 ∷ place.Moved 900 4 1 ∷ [])) slots) last 2 ≡ Some (file_of (file_block node.content 0 ∷ Away 4 1 ∷ []))
  unfolding blocks_of
  a_block_stays_and_one_goes_away node is = ap (λ x. Some (file_of (old_block x 0 ∷ Away 4 1 ∷ []))) is

  -- a number that is to be unused has no node
  pub a_number_becomes_free : nodes_now (over_of (drafted_as None []) slots) last ≡ remove last 2
  unfolding nodes_now
  a_number_becomes_free = refl

  -- a draft that isn't changed says nothing
  pub a_draft_as_it_was_read : nodes_now (over_of (record { ino = 2; own = 600; shape = Some two_blocks; single = 4294967295; pointers = []; changed = false }) slots) last ≡ last
  unfolding nodes_now
  a_draft_as_it_was_read = refl
