-- The blocks of a node: where each of them is.
use Rattle.std.specs.Prelude.{◌≡◌, ℕ, ◌≤◌}
use Rattle.hl_media.specs.History.{Image}
use Rattle.hl_addr.specs.Layout.{Layout, data_max}
use Rattle.hl_addr.specs.Place.{IsAt}
use Rattle.hl_addr.specs.Slots.{slot_number}
use Rattle.hl_addr.specs.declared.place.Place.TheVariants.{Tertiary}
use Rattle.hl_tseg.specs.SlotTable.{SlotTable, slot_at}
use Rattle.hl_tseg.specs.Slots.{HoldsSerial}
use Rattle.hl_inode.specs.declared.inode.Kind.{Kind}
use Rattle.hl_inode.specs.declared.inode.Kind.TheVariants.{File}
use Rattle.hl_placed.specs.Blocks.{Away, Block, Here, Hole}
use Rattle.hl_image.specs.Places.{InLog}

-- an address in a slot that holds the segment of this serial, at one of its data blocks
pub record LiesAway (g : Layout) (slots : SlotTable) (address serial position : ℕ) : Type 0 where
  pub volume : ℕ
  pub slot : ℕ
  pub place : IsAt g address (Tertiary volume slot position)
  pub holds : HoldsSerial (slot_at slots (slot_number g.volumes volume slot)) serial
  pub low : 1 ≤ position
  pub high : position ≤ data_max g

-- what a pointer stands for; blocks of a directory are never away
abbrev pub StandsFor : Layout → SlotTable → Image → Kind → ℕ → Block → Type 0
StandsFor g slots image kind pointer Hole = pointer ≡ 4294967295
StandsFor g slots image kind pointer (Here bytes) = InLog g pointer × (image pointer ≡ bytes)
StandsFor g slots image kind pointer (Away serial position) = (kind ≡ File) × LiesAway g slots pointer serial position
