-- The files of an image.
use Rattle.std.specs.Prelude.{◌≡◌, ℕ, ◌/◌, ◌%◌, ◌≤◌, IsSome}
use Rattle.std.specs.FinMap.{get}
use Rattle.hl_media.specs.History.{Image}
use Rattle.hl_addr.specs.Layout.{Layout}
use Rattle.hl_super.specs.Labels.{Spells}
use Rattle.hl_image.specs.Newest.{label_of}
use Rattle.hl_tree.specs.Rules as rules
use Rattle.hl_placed.specs.Blocks.{PlacedFile, Shelf, SerialsAre, byte_of, file_block}
use Rattle.hl_placed.specs.Placed.{PlacedTree, EachFile, plain}
use Rattle.hl_paths.specs.Nodes.{HasTree}
use Rattle.hl_nodes.specs.Contents.{Contents, HasContents}
use Rattle.hl_nodes.specs.Lines.{with_staged}
use Rattle.hl_nodes.specs.Verdicts.{BreaksNoneBefore}

-- the shelf has the segment of each away block
abbrev pub HasSegments : Shelf → PlacedTree → Type 0
HasSegments shelf placed = EachFile (SerialsAre (λ serial. IsSome (get shelf serial))) placed

-- each byte of the file's blocks past its size is zero
abbrev pub EndsInZeros : Shelf → PlacedFile → Type 0
EndsInZeros shelf file = (j : ℕ) → file.size ≤ j → byte_of shelf (file_block file (j / 4096)) (j % 4096) ≡ 0

-- the shelf has each segment in which a block of the tree is away, and there each file is zero past its size
pub record Serves (shelf : Shelf) (placed : PlacedTree) : Type 0 where
  pub segments : HasSegments shelf placed
  pub zeros : EachFile (EndsInZeros shelf) placed

-- the shelf with the segments that the contents have staged, as the image's lines have them
abbrev pub shelf_with : Layout → Image → Shelf → Contents → Shelf
shelf_with g image shelf c = with_staged g image shelf c.tables.slots.slots

-- The image of a machine of so many blocks has these files: block 0 is the site's label, none of the rules 1 to 15 is
-- broken, its nodes make a tree, and the files are the tree with the bytes of the log, of the image's own line for a
-- block that is staged, and of the shelf for one that is home. It has none where the shelf lacks a segment that a pointer
-- names, or a file's last block isn't zero past the size there.
pub record HasFiles (blocks : ℕ) (g : Layout) (image : Image) (shelf : Shelf) (files : rules.Files) : Type 0 where
  pub label : Spells blocks (image 0) (label_of g)
  pub contents : Contents
  pub has : HasContents g image contents
  pub keeps_rules : BreaksNoneBefore g image contents.rec contents.parts 16
  pub placed : PlacedTree
  pub tree : HasTree contents.nodes placed
  pub serves : Serves (shelf_with g image shelf contents) placed
  pub are : plain (shelf_with g image shelf contents) placed ≡ files
