-- When a mount is stopped, and by what.
use Rattle.std.specs.Prelude.{◌≡◌, ℕ, List, slice_index}
use Rattle.hl_media.specs.Causes.{Rose}
use Rattle.hl_media.specs.History.{Image}
use Rattle.hl_addr.specs.Layout.{Layout}
use Rattle.hl_super.specs.declared.label.Label.{Label}
use Rattle.hl_super.specs.declared.record.Record.{Record}
use Rattle.hl_super.specs.Labels as labels
use Rattle.hl_super.specs.Records as records
use Rattle.hl_summary.specs.declared.parts.Summary.{Summary}
use Rattle.hl_image.specs.Chain.{IsCutChain}
use Rattle.hl_image.specs.Newest.{start_of}
use Rattle.hl_nodes.specs.declared.rule.Rule.{Rule}
use Rattle.hl_nodes.specs.Verdicts.{rule_number, IsRuleBroken, BreaksNoneBefore}
use Rattle.hl_recovery.specs.declared.stop.MountError.{MountError}
use Rattle.hl_recovery.specs.declared.stop.MountError.TheVariants.{NoLabel, NoRecord, WrongRack, Damaged, DiskFault, Memory}
use Rattle.hl_recovery.specs.Racks.{DifferFirstAt}
use Rattle.hl_recovery.specs.Recoveries.{HasSite}

-- block 0 spells a label, and neither block 1 nor block 2 spells a record of it
pub record LacksRecord (blocks : ℕ) (image : Image) : Type 0 where
  pub label : Label
  pub spelled : labels.Spells blocks (image 0) label
  pub first : (r : Record) → ¬ records.Spells 1 label (image 1) r
  pub second : (r : Record) → ¬ records.Spells 2 label (image 2) r

-- the record's volumes and the rack differ, first at this volume, of which the rack has so many slots
pub record HasOtherRack (blocks : ℕ) (rack : List ℕ) (image : Image)
    (volume slots : ℕ) : Type 0 where
  pub geometry : Layout
  pub rec : Record
  pub site : HasSite blocks geometry rec image
  pub differ : DifferFirstAt geometry.volumes rack volume
  pub slots_is : slots ≡ slice_index rack volume

-- the image names a site with the rack's volumes, and with the chain behind its record it breaks the rule there, and no
-- rule before it anywhere
pub record HasBroken (blocks : ℕ) (rack : List ℕ) (image : Image)
    (block : ℕ) (rule : Rule) : Type 0 where
  pub geometry : Layout
  pub rec : Record
  pub parts : List Summary
  pub site : HasSite blocks geometry rec image
  pub rack_is : rack ≡ geometry.volumes
  pub chain : IsCutChain geometry image (start_of rec) rec.serial parts
  pub broken : IsRuleBroken geometry image rec parts rule block
  pub first : BreaksNoneBefore geometry image rec parts (rule_number rule)

-- what the image has where a mount is stopped
abbrev pub IsStopped : ℕ → List ℕ → Image → MountError → Type 0
IsStopped blocks rack image NoLabel = (v : Label) → ¬ labels.Spells blocks (image 0) v
IsStopped blocks rack image NoRecord = LacksRecord blocks image
IsStopped blocks rack image (WrongRack volume slots) =
    HasOtherRack blocks rack image volume slots
IsStopped blocks rack image (Damaged block rule) = HasBroken blocks rack image block rule
IsStopped blocks rack image DiskFault = Unit {0}
IsStopped blocks rack image Memory = Unit {0}

-- the count of failed calls rose where a fault is told, and stays otherwise
abbrev pub StopsBy : ℕ → ℕ → MountError → Type 0
StopsBy before now NoLabel = now ≡ before
StopsBy before now NoRecord = now ≡ before
StopsBy before now (WrongRack volume slots) = now ≡ before
StopsBy before now (Damaged block rule) = now ≡ before
StopsBy before now DiskFault = Rose before now
StopsBy before now Memory = now ≡ before

-- a fault, or want of memory
abbrev pub IsPlain : MountError → Type 0
IsPlain NoLabel = ⊥
IsPlain NoRecord = ⊥
IsPlain (WrongRack volume slots) = ⊥
IsPlain (Damaged block rule) = ⊥
IsPlain DiskFault = Unit {0}
IsPlain Memory = Unit {0}
