-- What the steps of a mount find.
use Rattle.std.specs.Prelude.{◌≡◌, ◌↔◌, ℕ, ◌+◌, ◌*◌, ◌≤◌, length, Option, Some}
use Rattle.hl_media.specs.History.{Image, HoldsAt}
use Rattle.hl_addr.specs.Layout.{Layout, IsWithinLimits, table_blocks}
use Rattle.hl_super.specs.declared.label.Label.{Label}
use Rattle.hl_super.specs.declared.record.Record.{Record}
use Rattle.hl_super.specs.Labels as labels
use Rattle.hl_super.specs.Records as records
use Rattle.hl_image.specs.Places.{IsLogPlace}
use Rattle.hl_image.specs.Newest.{start_of}
use Rattle.hl_log.specs.Logs.{site_blocks}
use Rattle.hl_recovery.specs.declared.segment.Held.{Held}
use Rattle.hl_recovery.specs.declared.site.Site.{Site}

-- the label that block 0 was found to spell, if it spells one
abbrev pub FindsLabel : ℕ → Image → Option Label → Type 0
FindsLabel blocks image found = (v : Label) → (found ≡ Some v) ↔ labels.Spells blocks (image 0) v

-- a machine of so many blocks has room for the label's segments
pub record FitsOn (blocks : ℕ) (label : Label) : Type 0 where
  pub value : labels.IsLabel label
  pub room : (1 + label.log + label.lines) * label.k ≤ blocks

-- the record that a block was found to spell under the label, if it spells one
abbrev pub FindsRecord : ℕ → Label → Image → Option Record → Type 0
FindsRecord at label image found = (v : Record) → (found ≡ Some v) ↔ records.Spells at label (image at) v

-- a record of the label, whichever its block
pub record IsRecordOf (label : Label) (rec : Record) : Type 0 where
  pub at : ℕ
  pub ranges : records.HasRanges at label rec

-- a site that a machine of so many blocks has room for, and a record of it
pub record IsSite (blocks : ℕ) (site : Site) : Type 0 where
  pub limits : IsWithinLimits site.geometry
  pub room : site_blocks site.geometry ≤ blocks
  pub volumes : site.rec.volumes ≡ site.geometry.volumes
  pub start : IsLogPlace site.geometry (start_of site.rec)
  pub tseg_serial : 1 ≤ site.rec.tseg_serial
  pub tables : length site.rec.tables ≡ table_blocks site.geometry

-- the bytes are those of the segment that was read last, if one was
abbrev pub IsHeld : Layout → Image → Held → Type 0
IsHeld g image held = 1 ≤ held.seg → HoldsAt image (g.k * held.seg) held.bytes
