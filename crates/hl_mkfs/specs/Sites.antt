-- A new site: the root alone.
use Rattle.std.specs.Prelude.{◌≡◌, ◌⊎◌, ℕ}
use Rattle.hl_media.specs.History.{Image}
use Rattle.hl_addr.specs.Layout.{Layout}
use Rattle.hl_super.specs.Labels.{Spells}
use Rattle.hl_super.specs.declared.label.Label.{Label}
use Rattle.hl_super.specs.declared.record.Record.{Record}
use Rattle.hl_image.specs.Newest.{label_of, start_of}
use Rattle.hl_tree.specs.Tree.{root_alone}
use Rattle.hl_placed.specs.Blocks.{Shelf}
use Rattle.hl_nodes.specs.Files.{HasFiles}
use Rattle.hl_nodes.specs.Listing.{AreListed}
use Rattle.hl_nodes.specs.Order.{IsInOrder}
use Rattle.hl_mkfs.specs.Parts.{first_contents}

-- Behind record 1, which gives the next tertiary segment the serial 1, the image has contents in order: no part of the log,
-- the first tables, and the root alone. Each of their live blocks is listed.
pub record HoldsRoot (g : Layout) (image : Image) : Type 0 where
  pub first : Record
  pub number_is : first.number ≡ 1
  pub serial_is : first.tseg_serial ≡ 1
  pub in_order : IsInOrder g image (first_contents g first) root_alone
  pub listed : AreListed g image (first_contents g first) (start_of first)

-- The image of a machine of so many blocks is the site with its root alone: its label, and the root, which are its files
-- whatever the shelf has.
pub record IsNewSite (blocks : ℕ) (g : Layout) (image : Image) : Type 0 where
  pub label : Spells blocks (image 0) (label_of g)
  pub holds : HoldsRoot g image
  pub files : (shelf : Shelf) → HasFiles blocks g image shelf root_alone

-- the image has no label, for a machine of so many blocks
abbrev pub HasNoLabel : ℕ → Image → Type 0
HasNoLabel blocks image = (v : Label) → ¬ Spells blocks (image 0) v

-- an image of a site that is being made
abbrev pub IsNoneOrNew : ℕ → Layout → Image → Type 0
IsNoneOrNew blocks g image = HasNoLabel blocks image ⊎ IsNewSite blocks g image
