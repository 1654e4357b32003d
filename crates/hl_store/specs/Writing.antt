-- A unit of a store.
use Rattle.std.specs.Prelude.{◌≡◌, ℕ, Bool, true, false, List, [], map}
use Rattle.std.specs.List.{fold}
use Rattle.hl_addr.specs.Layout.{Layout}
use Rattle.hl_image.specs.declared.place.LogPlace.{LogPlace}
use Rattle.hl_bytes.specs.declared.block.Block.{Block}
use Rattle.hl_bytes.specs.declared.records.BlockRecord.{BlockRecord}
use Rattle.hl_log.specs.Cut.{HasClean, IsPlan}
use Rattle.hl_log.specs.declared.unit.UnitAnswer.{UnitAnswer}
use Rattle.hl_log.specs.declared.unit.UnitAnswer.TheVariants as answer
use Rattle.hl_tables.specs.Laying.{HasInode, changed}
use Rattle.hl_tables.specs.Values.{SameShape, TableValues}
use Rattle.hl_nodes.specs.Units.{blocks_placed}
use Rattle.hl_overlay.specs.DraftTables.{freed_of}
use Rattle.hl_overlay.specs.MadeUnits.{MadeUnitValue}
use Rattle.hl_tally.specs.Tally.{Tally}
use Rattle.hl_tally.specs.Counting.{added}

-- the records of blocks
abbrev pub records_of : List (BlockRecord × Block) → List BlockRecord
records_of blocks = map (λ b. b.0) blocks

-- the inode of a block exists, where the block is its own
abbrev pub HasInodeOf : TableValues → BlockRecord × Block → Type 0
HasInodeOf t b = HasInode t b.0

-- a unit is laid over the tables, and its blocks are counted
pub record IsLaid (k : ℕ) (plan : List ℕ) (made : MadeUnitValue) (old new : TableValues)
    (before now : Tally) : Type 0 where
  pub tables : new ≡ fold changed (blocks_placed old (records_of made.blocks) plan)
      (freed_of made.drafts.items)
  pub shape : SameShape old new
  pub tally : now ≡ record before { live = fold (added k) before.live plan }

-- a unit that was written is laid over the tables and counted, and else nothing changes
abbrev pub Lays : ℕ → List ℕ → MadeUnitValue → TableValues → TableValues → Tally → Tally
    → UnitAnswer → Type 0
Lays k plan made old new before now (answer.Written used) = IsLaid k plan made old new before now
Lays k plan made old new before now answer.LogFull = (new ≡ old) × (now ≡ before)
Lays k plan made old new before now answer.DiskFault = (new ≡ old) × (now ≡ before)
Lays k plan made old new before now answer.Memory = (new ≡ old) × (now ≡ before)

-- the addresses of a unit's blocks; or none, where there are too few clean segments for it
abbrev pub PutsPlan : Layout → LogPlace → List ℕ → ℕ → ℕ → List ℕ → Bool → Type 0
PutsPlan g head clean blocks tables plan true = IsPlan g head clean blocks tables plan
PutsPlan g head clean blocks tables plan false =
    (¬ HasClean g head clean blocks tables) × (plan ≡ [])
