-- What stops the reading of the tables.
use Rattle.std.specs.Prelude.{◌≡◌, ◌⊎◌, ℕ, ◌<◌, ◌≤◌, List, length, slice_index}
use Rattle.hl_media.specs.History.{Image}
use Rattle.hl_addr.specs.Layout.{Layout}
use Rattle.hl_super.specs.declared.record.Record.{Record}
use Rattle.hl_summary.specs.declared.parts.Summary.{Summary}
use Rattle.hl_image.specs.Places.{InLog}
use Rattle.hl_tables.specs.Values.{TableValues}
use Rattle.hl_tables.specs.TableBlocks.{IsTableBlock}
use Rattle.hl_nodes.specs.declared.rule.Rule.{Rule}
use Rattle.hl_nodes.specs.declared.rule.Rule.TheVariants.{TablePlace, TableBytes}
use Rattle.hl_nodes.specs.Breaks.{Breaks}
use Rattle.hl_nodes.specs.Verdicts.{rule_number, BreaksNoneBefore}
use Rattle.hl_recovery.specs.declared.stop.MountError.{MountError}
use Rattle.hl_recovery.specs.declared.stop.MountError.TheVariants.{NoLabel, NoRecord, WrongRack, Damaged, DiskFault, Memory}

-- the rules of the places and of the bytes of table blocks
abbrev pub IsTableRule : Rule → Type 0
IsTableRule rule = (rule ≡ TablePlace) ⊎ (rule ≡ TableBytes)

-- an address among these that isn't in the log, or stands before too
pub record IsMisplaced (g : Layout) (addresses : List ℕ) (address : ℕ) : Type 0 where
  pub place : ℕ
  pub within : place < length addresses
  pub there : slice_index addresses place ≡ address
  pub off : (¬ InLog g address)
      ⊎ ((j : ℕ) × (j < place) × (slice_index addresses j ≡ address))

-- a block that no tables of the shape have as their block i, a fault, or want of memory
abbrev pub StopsAtTable : TableValues → Image → ℕ → ℕ → MountError → Type 0
StopsAtTable t image i address NoLabel = ⊥
StopsAtTable t image i address NoRecord = ⊥
StopsAtTable t image i address (WrongRack volume slots) = ⊥
StopsAtTable t image i address (Damaged block rule) = (block ≡ address) × (rule ≡ TableBytes)
    × ¬ IsTableBlock t i (image address)
StopsAtTable t image i address DiskFault = Unit {0}
StopsAtTable t image i address Memory = Unit {0}

-- the rule 1 or 2 that is broken there, and none before it, whatever the chain; a fault, or want of memory
abbrev pub StopsAtTables : Layout → Image → Record → MountError → Type 0
StopsAtTables g image rec NoLabel = ⊥
StopsAtTables g image rec NoRecord = ⊥
StopsAtTables g image rec (WrongRack volume slots) = ⊥
StopsAtTables g image rec (Damaged block rule) = (rule_number rule ≤ 2)
    × ((parts : List Summary) (t : TableValues) → Breaks g image rec parts t rule block)
    × ((parts : List Summary) → BreaksNoneBefore g image rec parts (rule_number rule))
StopsAtTables g image rec DiskFault = Unit {0}
StopsAtTables g image rec Memory = Unit {0}
