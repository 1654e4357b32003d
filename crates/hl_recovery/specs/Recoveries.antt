-- What a mount recovers of an image.
use Rattle.std.specs.Prelude.{◌≡◌, ◌≢◌, ℕ, ◌+◌, ◌-◌, ◌^◌, ◌<◌, ◌≤◌, min, List, length, Some, slice_index}
use Rattle.hl_media.specs.History.{Image}
use Rattle.hl_addr.specs.Layout.{Layout, table_blocks}
use Rattle.hl_super.specs.Labels.{Spells}
use Rattle.hl_super.specs.declared.record.Record.{Record}
use Rattle.hl_summary.specs.declared.parts.Summary.{Summary}
use Rattle.hl_image.specs.Places.{IsLogPlace, InLog}
use Rattle.hl_image.specs.Chain.{IsCutChain, end_of}
use Rattle.hl_image.specs.Newest.{IsNewest, label_of, start_of}
use Rattle.hl_log.specs.Logs.{site_blocks}
use Rattle.hl_tables.specs.Values.{AreTables}
use Rattle.hl_nodes.specs.Tables.{HasLaidTables, parts_raised}
use Rattle.hl_recovery.specs.declared.recovering.Recovered.{Recovered}
use Rattle.hl_nodes.specs.Covering.{IsCovered}

-- the image of a machine of so many blocks names the site: by its label, and by its newest record with these volumes
pub record HasSite (blocks : ℕ) (g : Layout) (rec : Record) (image : Image) : Type 0 where
  pub label : Spells blocks (image 0) (label_of g)
  pub newest : IsNewest g image (Some rec)
  pub volumes : rec.volumes ≡ g.volumes

-- each address of a table block lies in the log, and none stands twice
pub record AreInPlace (g : Layout) (addresses : List ℕ) : Type 0 where
  pub in_log : (i : ℕ) → i < length addresses → InLog g (slice_index addresses i)
  pub once : (i j : ℕ) → i < length addresses → j < i
      → slice_index addresses j ≢ slice_index addresses i

-- What was recovered is what the image has: the site that it names, whose volumes are those of the rack; the chain behind
-- the newest record, where it ends, how far it reaches in each segment and what it makes of the tertiary serial; and the
-- tables, whose blocks are in place, with the chain laid over them.
pub record HasRecovered (blocks : ℕ) (rack : List ℕ) (r : Recovered)
    (image : Image) : Type 0 where
  pub site : HasSite blocks r.geometry r.rec image
  pub rack_is : rack ≡ r.geometry.volumes
  pub parts : List Summary
  pub chain : IsCutChain r.geometry image (start_of r.rec) r.rec.serial parts
  pub at_is : r.at ≡ end_of (start_of r.rec) parts
  pub serial_is : r.serial ≡ min (r.rec.serial + length parts) (2 ^ 64 - 1)
  pub covers : IsCovered r.geometry r.rec parts r.covered.items
  pub tseg_serial_is : r.tseg_serial ≡ parts_raised r.rec.tseg_serial parts
  pub laid : HasLaidTables r.geometry image r.rec parts r.tables
  pub in_place : AreInPlace r.geometry r.rec.tables

-- What was recovered makes a log and a store on a machine of so many blocks with the rack, whether or not the machine
-- tells what it holds.
pub record IsReady (blocks : ℕ) (rack : List ℕ) (r : Recovered) : Type 0 where
  pub room : site_blocks r.geometry ≤ blocks
  pub rack_is : rack ≡ r.geometry.volumes
  pub volumes : r.rec.volumes ≡ r.geometry.volumes
  pub start : IsLogPlace r.geometry (start_of r.rec)
  pub head : IsLogPlace r.geometry r.at
  pub segments : length r.covered.items ≡ r.geometry.log + 1
  pub tseg_serial : 1 ≤ r.tseg_serial
  pub blocks_named : length r.rec.tables ≡ table_blocks r.geometry
  pub tables : AreTables r.geometry r.tables
