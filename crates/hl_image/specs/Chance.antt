-- No torn write checks by chance.
use Rattle.std.specs.Prelude.{◌≡◌, ◌⊎◌, ℕ, ◌+◌, ◌<◌, List, [], ◌∷◌, length}
use Rattle.hl_media.specs.History.{Image, PendingWrite, HoldsAt}
use Rattle.hl_addr.specs.Layout.{Layout}
use Rattle.hl_bytes.specs.Fields.{zeros}
use Rattle.hl_super.specs.declared.label.Label.{Label}
use Rattle.hl_super.specs.declared.record.Record.{Record}
use Rattle.hl_super.specs.Labels as labels
use Rattle.hl_super.specs.Records as records
use Rattle.hl_summary.specs.declared.parts.Summary.{Summary}
use Rattle.hl_image.specs.declared.place.LogPlace.{LogPlace}
use Rattle.hl_image.specs.Places.{block_at}
use Rattle.hl_image.specs.Parts.{IsPartBytes, NoPart}
use Rattle.hl_image.specs.Chain.{IsCutChain, end_of}
use Rattle.hl_image.specs.Newest.{label_of, IsRecordAt}

-- What an image has of a write that no sync has followed, on a site whose chain starts at a place with a serial. Of a
-- part it has all, or no part of its serial stands at its place. Of the zeros behind the cut chain of what reads gave
-- it has none, or no part of the next serial stands there. Of a record it has all, or its block is no record of its
-- number or a greater one.
pub record NoChanceOf (g : Layout) (start : LogPlace) (first : ℕ) (w : PendingWrite) (image : Image) : Type 0 where
  pub part : (at : LogPlace) (s : Summary) → w.at ≡ block_at g at → IsPartBytes g at s.serial w.bytes s
      → HoldsAt image w.at w.bytes ⊎ NoPart g image at s.serial
  pub zeros : (parts : List Summary) → IsCutChain g w.before start first parts → w.at ≡ block_at g (end_of start parts) → w.bytes ≡ zeros 4096
      → (image w.at ≡ w.before w.at) ⊎ NoPart g image (end_of start parts) (first + length parts)
  pub entry : (r : Record) → records.Spells w.at (label_of g) w.bytes r → (image w.at ≡ w.bytes) ⊎ ((s : Record) → IsRecordAt g image w.at s → s.number < r.number)

-- the same of each such write
abbrev pub NoChance : Layout → LogPlace → ℕ → List PendingWrite → Image → Type 0
NoChance g start first [] image = Unit {0}
NoChance g start first (w ∷ pending) image = NoChanceOf g start first w image × NoChance g start first pending image

-- of a label that was written to a machine of so many blocks the image has all, or it has no label for that machine
abbrev pub NoLabelByChanceOf : ℕ → PendingWrite → Image → Type 0
NoLabelByChanceOf blocks w image = (v : Label) → w.at ≡ 0 → labels.Spells blocks w.bytes v
    → (image 0 ≡ w.bytes) ⊎ ((u : Label) → ¬ labels.Spells blocks (image 0) u)

-- the same of each such write
abbrev pub NoLabelByChance : ℕ → List PendingWrite → Image → Type 0
NoLabelByChance blocks [] image = Unit {0}
NoLabelByChance blocks (w ∷ pending) image = NoLabelByChanceOf blocks w image × NoLabelByChance blocks pending image
