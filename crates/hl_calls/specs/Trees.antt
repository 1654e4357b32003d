-- The files of a store, by the shelf that its lines show.
use Rattle.std.specs.Prelude.{◌≡◌, ℕ, ◌-◌, Option, Some}
use Rattle.std.specs.FinMap.{get}
use Rattle.hl_media.specs.History.{History}
use Rattle.hl_addr.specs.Layout.{Layout}
use Rattle.hl_tree.specs.declared.call.Limits.{Limits}
use Rattle.hl_placed.specs.Blocks.{IsPlacedFile, PlacedFile, Shelf}
use Rattle.hl_paths.specs.Numbered.{Leaf, Numbering}
use Rattle.hl_nodes.specs.Contents.{Contents}
use Rattle.hl_store.specs.Values.{StoreValue}
use Rattle.hl_store.specs.Finding.{OverNow}
use Rattle.hl_ranges.specs.Files.{LinesShow}
use Rattle.hl_walk.specs.Trees.{KnowsTree}

-- how many nodes a site may have, and how many bytes a file
abbrev pub site_limits : Layout → Limits
site_limits g = record { nodes = g.inodes - 1; bytes = 4243456 }

-- each file is a placed file by the shelf
abbrev pub ArePlacedLeaves : Shelf → Numbering PlacedFile → Type 0
ArePlacedLeaves shelf numbered = (number : ℕ) (file : PlacedFile)
    → get numbered number ≡ Some (Leaf file) → IsPlacedFile shelf file

module _ {M : Type 0} where
  -- at this moment, whatever contents the store lies over and whatever shelf its lines show, P holds of the tree that its
  -- nodes make, if they make one of placed files
  abbrev pub OfFiles : (M → Option History) → StoreValue M
      → (Contents → Shelf → Numbering PlacedFile → Type 0) → Type 0
  OfFiles history v P = OverNow history v (λ s c. (shelf : Shelf) (numbered : Numbering PlacedFile)
      → LinesShow v s shelf → KnowsTree v c numbered → ArePlacedLeaves shelf numbered
      → P c shelf numbered)
