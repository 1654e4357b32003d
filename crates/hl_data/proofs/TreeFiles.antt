-- A file of a tree, and the node that a store has of it: they differ in their last use alone.
use Rattle.std.proofs.Common.{◌≡◌, ℕ, List, Option, Some, refl, ◌∙◌, ap}
use Rattle.std.specs.FinMap.{get}
use Rattle.hl_media.specs.History.{History}
use Rattle.hl_placed.specs.Blocks.{IsPlacedFile, PlacedFile, Shelf, plain_bytes}
use Rattle.hl_placed.specs.Changes.{cut_file, rewritten, used_at, written_file}
use Rattle.hl_paths.specs.Nodes.{FlatNode}
use Rattle.hl_paths.specs.Numbered.{Leaf, Numbering}
use Rattle.hl_nodes.specs.Contents.{Contents}
use Rattle.hl_store.specs.Values.{StoreValue}
use Rattle.hl_ranges.specs.Files.{HasFile, OfFile}
use Rattle.hl_walk.specs.Trees.{KnowsTree}
use Rattle.hl_walk.proofs.KnownTrees.{node_of}
use Rattle.hl_calls.specs.Trees.{ArePlacedLeaves}
use Rattle.hl_data.specs.ByNumber.{FileWork, OfLeaf, cutting, reading, writing}

-- a node used at another moment
abbrev with_use : ℕ → FlatNode → FlatNode
with_use used n = record { kind = n.kind; content = used_at used n.content }

module _ {M : Type 0} (v : StoreValue M) (c : Contents) (shelf : Shelf) (numbered : Numbering PlacedFile) (tree : KnowsTree v c numbered) (placed : ArePlacedLeaves shelf numbered)
    (number : ℕ) (file : PlacedFile) (there : get numbered number ≡ Some (Leaf file)) where
  -- the file is a placed one, whenever it was used
  placed_at : (used : ℕ) → IsPlacedFile shelf (used_at used file)
  placed_at used =
      let is = placed number file there in
      record { count = is.count; full = is.full; zeros = is.zeros }

  -- THE NODE of a file of a tree has that file, with the last use that it shows
  pub leaf_node : (used : ℕ) × HasFile v c shelf number (used_at used file)
  leaf_node =
      let one = node_of v c numbered tree number (Leaf file) there in
      let used : ℕ = one.0.content.used in (
        used,
        record {
          has = one.1 ∙ ap (λ (n : FlatNode). Some (with_use used n)) one.2;
          placed = placed_at used;
        },
      )

module _ {M : Type 0} (history : M → Option History) (v : StoreValue M) (number : ℕ) where
  -- WHAT IS FOUND OF A FILE is so of the file of the tree, where its last use doesn't matter
  pub leaf_of_file : (P : Contents → Shelf → PlacedFile → Type 0) → ((c : Contents) (shelf : Shelf) (file : PlacedFile) (used : ℕ) → P c shelf (used_at used file) → P c shelf file)
      → OfFile history v number P → OfLeaf history v number (λ c shelf numbered file. P c shelf file)
  leaf_of_file P stays found h told c lies shelf numbered shows knows placed file there =
      let one = leaf_node v c shelf numbered knows placed number file there in
      stays c shelf file one.0 (found h told c lies shelf (used_at one.0 file) shows one.1)

-- what is done with a file is no matter of when it was used before
pub record IgnoresUse (work : FileWork) : Type 0 where
  pub needs : (used : ℕ) (file : PlacedFile) → work.needs (used_at used file) ≡ work.needs file
  pub change : (shelf : Shelf) (used : ℕ) (file : PlacedFile) → work.change shelf (used_at used file) ≡ work.change shelf file
  pub reply : (shelf : Shelf) (used : ℕ) (file : PlacedFile) → work.reply shelf (used_at used file) ≡ work.reply shelf file

-- it is used then
abbrev pub UsesAt : FileWork → ℕ → Type 0
UsesAt work now = (shelf : Shelf) (file : PlacedFile) → (work.change shelf file).used ≡ now

pub reading_ignores : (now at len : ℕ) → IgnoresUse (reading now at len)
unfolding plain_bytes
reading_ignores now at len = record {
  needs = λ used file. refl;
  change = λ shelf used file. refl;
  reply = λ shelf used file. refl;
}

pub writing_ignores : (now at : ℕ) (bytes : List ℕ) → IgnoresUse (writing now at bytes)
unfolding plain_bytes written_file rewritten
writing_ignores now at bytes = record {
  needs = λ used file. refl;
  change = λ shelf used file. refl;
  reply = λ shelf used file. refl;
}

pub writing_uses : (now at : ℕ) (bytes : List ℕ) → UsesAt (writing now at bytes) now
unfolding written_file rewritten
writing_uses now at bytes shelf file = refl

pub cutting_ignores : (now size : ℕ) → IgnoresUse (cutting now size)
unfolding plain_bytes cut_file rewritten
cutting_ignores now size = record {
  needs = λ used file. refl;
  change = λ shelf used file. refl;
  reply = λ shelf used file. refl;
}

pub cutting_uses : (now size : ℕ) → UsesAt (cutting now size) now
unfolding cut_file rewritten
cutting_uses now size shelf file = refl
