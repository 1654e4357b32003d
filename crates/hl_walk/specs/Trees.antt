-- The tree that the nodes of a store make.
use Rattle.std.specs.Prelude.{◌≡◌, ℕ, slice_index, Option, option_map}
use Rattle.std.specs.FinMap.{get}
use Rattle.hl_media.specs.History.{History}
use Rattle.hl_placed.specs.Blocks.{PlacedFile}
use Rattle.hl_paths.specs.Nodes.{FlatNode, flat_node}
use Rattle.hl_paths.specs.Numbered.{AreLinked, Numbering}
use Rattle.hl_nodes.specs.Contents.{Contents}
use Rattle.hl_overlaid.specs.Changes.{node_used}
use Rattle.hl_store.specs.Values.{StoreValue, nodes_of}
use Rattle.hl_store.specs.Finding.{OverNow}

module _ {M : Type 0} where
  -- a node of a number, with the last use that the store knows
  abbrev pub known_node : StoreValue M → ℕ → FlatNode → FlatNode
  known_node v number n = node_used (slice_index v.uses number) n

  -- under each number the store has this directory or this file, with the last use that it knows
  abbrev pub AreKnown : StoreValue M → Contents → Numbering PlacedFile → Type 0
  AreKnown v c numbered = (number : ℕ)
      → option_map (known_node v number) (get (nodes_of v c) number)
      ≡ option_map flat_node (get numbered number)

  -- the nodes that the store has now are these, and make one tree
  pub record KnowsTree (v : StoreValue M) (c : Contents)
      (numbered : Numbering PlacedFile) : Type 0 where
    pub known : AreKnown v c numbered
    pub linked : AreLinked numbered

  -- at this moment, whatever contents the store lies over, P holds of the tree that its nodes make, if they make one
  abbrev pub OfTree : (M → Option History) → StoreValue M
      → (Contents → Numbering PlacedFile → Type 0) → Type 0
  OfTree history v P = OverNow history v
      (λ s c. (numbered : Numbering PlacedFile) → KnowsTree v c numbered → P c numbered)
