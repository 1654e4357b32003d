-- A checkpoint of a store: the same nodes behind its record or the next one, at every moment.
use Rattle.std.specs.Prelude.{◌≡◌, [], ◌⊎◌, ℕ, ◌+◌, ◌-◌, ◌<◌, ◌≤◌, ◌^◌, ◌==◌, ◌&&◌, not, nat_lt, Bool, List, drop, length, map, slice_index, sum, Option}
use Rattle.std.specs.List.{filter, range_with_len}
use Rattle.std.specs.Vec.{vec_capacity}
use Rattle.hl_media.specs.History.{History, Image, MachineState}
use Rattle.hl_media.specs.Moments.{Ends}
use Rattle.hl_addr.specs.Layout.{table_blocks, table_blocks_of}
use Rattle.hl_super.specs.declared.record.Record.{Record}
use Rattle.hl_tables.specs.Values.{TableValues}
use Rattle.hl_tables.specs.TableBlocks.{table_block}
use Rattle.hl_log.specs.Checkpoints.{Given, IsNextRecord, IsOf, IsRecordBehind, KeepsRest, given_by, restarted_at}
use Rattle.hl_log.specs.Cut.{HasClean}
use Rattle.hl_log.specs.Logs.{Failed, Succeeded}
use Rattle.hl_log.specs.Rest.{StopLeaves}
use Rattle.hl_log.specs.Units.{Numbered}
use Rattle.hl_log.specs.declared.unit.UnitAnswer.{UnitAnswer}
use Rattle.hl_log.specs.declared.unit.UnitAnswer.TheVariants as answer
use Rattle.hl_nodes.specs.Checkpoints.{after_checkpoint}
use Rattle.hl_nodes.specs.Contents.{Contents}
use Rattle.hl_tally.specs.Counting.{tables_counted}
use Rattle.hl_store.specs.declared.checkpointing.Supplies.{Supplies}
use Rattle.hl_store.specs.Values.{IsTidy, StoreValue, layout, nodes_of}
use Rattle.hl_store.specs.Lying.{LiesOver}
use Rattle.hl_store.specs.Flushes.{Holds}

-- which log segments have a live block
abbrev pub marks_of : List ℕ → List Bool
marks_of live = map (λ n. nat_lt 0 n) live

-- the segments of the log without a live block, but the head's, in rising order
abbrev pub is_clean : ℕ → List ℕ → ℕ → Bool
is_clean head live seg = (slice_index live (seg - 1) == 0) && not (seg == head)

abbrev pub clean_of : ℕ → List ℕ → List ℕ
clean_of head live = filter (is_clean head live) (range_with_len 1 (length live))

-- the blocks of tables, in their order
abbrev pub blocks_of_tables : TableValues → List (List ℕ)
blocks_of_tables t = map (table_block t) (range_with_len 0 (table_blocks_of (length t.used) (length t.inodes) (sum t.slots.volumes)))

module _ {M : Type 0} where
  -- the tables, with the log segments marked that have a live block
  abbrev pub marked : StoreValue M → TableValues
  marked v = record v.tables { used = marks_of v.tally.live }

  -- what the next record is to have besides its serial, its place and its tables
  abbrev pub given_of : StoreValue M → Given
  given_of v = record { number = v.log.rec.number; tseg_serial = v.tseg_serial; format = 1; volumes = (layout v).volumes }

  -- what a checkpoint took memory for is of the store
  pub record AreSupplies (v : StoreValue M) (supplies : Supplies) : Type 0 where
    pub marks : supplies.marks.items ≡ marks_of v.tally.live
    pub before : supplies.before.items ≡ v.tables.used
    pub rec_of : IsOf (layout v) supplies.rec
    pub given : given_by v.log.rec.number supplies.rec ≡ given_of v
    pub gone : supplies.gone ≡ v.log.rec.tables
    pub empty : supplies.room.items ≡ []
    pub room : vec_capacity supplies.room ≡ (layout v).log

  -- there are clean segments enough for the table blocks
  abbrev pub HasTableRoom : StoreValue M → Type 0
  HasTableRoom v = HasClean (layout v) v.log.at.head v.clean (table_blocks (layout v)) 0

  -- a checkpoint outside of a pass would find fewer than six clean segments, or too few for the table blocks
  abbrev pub IsTight : StoreValue M → Type 0
  IsTight v = (length v.clean < 6) ⊎ (¬ HasTableRoom v)

  -- the serials of the table parts and the number of the next record have room in 64 bits
  pub record MayGoOn (v : StoreValue M) : Type 0 where
    pub serials : Numbered (layout v) v.log.at v.clean (table_blocks (layout v)) 0
    pub number : v.log.rec.number + 1 < 2 ^ 64

  -- the image has the same nodes behind a next record, with an empty chain and the marked tables
  pub record HoldsBehind (v : StoreValue M) (c : Contents) (image : Image) : Type 0 where
    pub rec : Record
    pub next : IsNextRecord (given_of v) rec
    pub holds : Holds v (after_checkpoint c rec (marked v)) image

  abbrev pub HoldsSame : StoreValue M → Contents → Image → Type 0
  HoldsSame v c image = Holds v c image ⊎ HoldsBehind v c image

  -- at each moment whatever a stop leaves, unless by chance, has the contents before or the same nodes behind the next
  -- record, and no block differs but those that are free for the log and the two of the records
  abbrev pub KeepsContents : StoreValue M → MachineState → MachineState → Type 0
  KeepsContents v first s = (c : Contents) → LiesOver v c first → MayGoOn v
      → StopLeaves (layout v) v.log.at (λ image. HoldsSame v c image × KeepsRest (layout v) v.log.at v.clean first image) s

  -- the store lies over the same nodes behind its new record
  pub record HasGoneOn (old new : StoreValue M) (c : Contents) (s : MachineState) : Type 0 where
    pub next : IsNextRecord (given_of old) new.log.rec
    pub over : LiesOver new (after_checkpoint c new.log.rec new.tables) s
    pub nodes : nodes_of new (after_checkpoint c new.log.rec new.tables) ≡ nodes_of old c

  abbrev pub GoesOnOver : StoreValue M → StoreValue M → MachineState → MachineState → Type 0
  GoesOnOver old new first s = (c : Contents) → LiesOver old c first → MayGoOn old → HasGoneOn old new c s

  -- the tables are marked, their new blocks are counted in place of those before, and the segments without a live block are
  -- clean
  abbrev pub renewed : StoreValue M → StoreValue M → StoreValue M
  renewed old new =
      let tally = tables_counted (layout old) old.log.rec.tables new.log.rec.tables old.tally in
      record old { log = new.log; tables = marked old; tally = tally; clean = clean_of new.log.at.head.seg tally.live }

  -- The checkpoint was written, with so many of the clean segments: the log starts at its record, and no call failed.
  pub record IsCheckpointed (history : M → Option History) (faults write_faults : M → ℕ)
      (old new : StoreValue M) (used : ℕ) : Type 0 where
    pub within : used ≤ length old.clean
    pub is : new ≡ renewed old new
    pub tidy : IsTidy new
    pub at : new.log.at ≡ restarted_at new.log.rec
    pub rec : IsRecordBehind (layout old) old.log.at old.clean (drop used old.clean) (given_of old)
        (table_blocks (layout old)) new.log.rec
    pub succeeded : Succeeded history faults write_faults old.log new.log
    pub over : Ends (history old.log.machine) (history new.log.machine) (GoesOnOver old new)

  -- nothing but the log changed
  abbrev pub KeepsButLog : StoreValue M → StoreValue M → Type 0
  KeepsButLog old new = new ≡ record old { log = new.log }

  -- How a checkpoint in the reserve ends. The log is full exactly where there are too few clean segments for the table blocks,
  -- and nothing was written then.
  abbrev pub CheckpointEndsInReserve : (M → Option History) → (M → ℕ) → (M → ℕ) → StoreValue M
      → StoreValue M → UnitAnswer → Type 0
  CheckpointEndsInReserve history faults write_faults old new (answer.Written used) =
      HasTableRoom old × IsCheckpointed history faults write_faults old new used
  CheckpointEndsInReserve history faults write_faults old new answer.LogFull =
      (¬ HasTableRoom old) × (new ≡ old)
  CheckpointEndsInReserve history faults write_faults old new answer.DiskFault =
      HasTableRoom old × Failed faults write_faults old.log new.log × KeepsButLog old new
  CheckpointEndsInReserve history faults write_faults old new answer.Memory = new ≡ old

  -- How a checkpoint ends. The log is full exactly where fewer than six segments are clean or too few for the table blocks,
  -- and nothing was written then.
  abbrev pub CheckpointEnds : (M → Option History) → (M → ℕ) → (M → ℕ) → StoreValue M → StoreValue M → UnitAnswer → Type 0
  CheckpointEnds history faults write_faults old new (answer.Written used) = (¬ IsTight old)
      × IsCheckpointed history faults write_faults old new used
  CheckpointEnds history faults write_faults old new answer.LogFull = IsTight old × (new ≡ old)
  CheckpointEnds history faults write_faults old new answer.DiskFault = (¬ IsTight old)
      × Failed faults write_faults old.log new.log × KeepsButLog old new
  CheckpointEnds history faults write_faults old new answer.Memory = new ≡ old
