-- A flush: the nodes of the last unit or those that the store has now, at every moment.
use Rattle.std.specs.Prelude.{◌≡◌, ◌⊎◌, ℕ, ◌<◌, ◌≤◌, drop, length, Option, Some}
use Rattle.std.specs.FinMap.{get}
use Rattle.hl_media.specs.History.{History, Image, MachineState}
use Rattle.hl_media.specs.Moments.{Ends}
use Rattle.hl_inode.specs.declared.inode.Kind.TheVariants.{Dir}
use Rattle.hl_log.specs.Cut.{HasClean}
use Rattle.hl_log.specs.Logs.{Failed, Succeeded}
use Rattle.hl_log.specs.Rest.{Keeps, StopLeaves}
use Rattle.hl_log.specs.Units.{GoesOn, Numbered, moved}
use Rattle.hl_log.specs.declared.unit.UnitAnswer.{UnitAnswer}
use Rattle.hl_log.specs.declared.unit.UnitAnswer.TheVariants as answer
use Rattle.hl_paths.specs.Nodes.{FlatNode}
use Rattle.hl_nodes.specs.Contents.{Contents}
use Rattle.hl_nodes.specs.Listing.{HoldsListed}
use Rattle.hl_nodes.specs.Sound.{AwayOnce, HasSound}
use Rattle.hl_overlay.specs.DraftTables.{HasNone}
use Rattle.hl_overlay.specs.Overlays.{unit_blocks}
use Rattle.hl_overlaid.specs.Units.{unit_changes}
use Rattle.hl_store.specs.Values.{IsTidy, StoreValue, layout, nodes_of}
use Rattle.hl_store.specs.Lying.{LiesOver}
use Rattle.hl_store.specs.Reserving.{IsUnitRefused, KeepsButMemory}

module _ {M : Type 0} where
  -- The nodes that the store has now may be made last: the serials of the unit have room in 64 bits, the root is a directory,
  -- and no block of a tertiary segment is a block of two nodes.
  pub record MayLast (v : StoreValue M) (c : Contents) : Type 0 where
    pub serials : Numbered (layout v) v.log.at v.clean (unit_blocks v.overlay)
        (length (unit_changes v.overlay v.notes))
    pub root : FlatNode
    pub root_is : get (nodes_of v c) 1 ≡ Some root
    pub root_dir : root.kind ≡ Dir
    pub away_once : AwayOnce (nodes_of v c)

  -- the image has the contents, and they are sound and listed
  pub record Holds (v : StoreValue M) (c : Contents) (image : Image) : Type 0 where
    pub sound : HasSound (layout v) image c
    pub listed : HoldsListed (layout v) image c

  -- the image has the nodes and the slots that the store has now, behind the same record
  pub record HoldsNow (v : StoreValue M) (c : Contents) (image : Image) : Type 0 where
    pub contents : Contents
    pub holds : Holds v contents image
    pub rec : contents.rec ≡ c.rec
    pub nodes : contents.nodes ≡ nodes_of v c
    pub slots : contents.tables.slots ≡ v.tables.slots

  -- the image has the contents of the last unit, or the nodes that the store has now
  abbrev pub HoldsEither : StoreValue M → Contents → Image → Type 0
  HoldsEither v c image = Holds v c image ⊎ HoldsNow v c image

  -- at each moment whatever a stop leaves, unless by chance, has the contents of the last unit or the nodes that the store
  -- has now, and no block differs but those that are free for the log
  abbrev pub Flushes : StoreValue M → MachineState → MachineState → Type 0
  Flushes v first s = (c : Contents) → LiesOver v c first → MayLast v c
      → StopLeaves (layout v) v.log.at
      (λ image. HoldsEither v c image × Keeps (layout v) v.log.at v.clean first image) s

  -- the new store lies over contents with the nodes that the old one had, behind the same record
  pub record HasFlushed (old new : StoreValue M) (c : Contents) (s : MachineState) : Type 0 where
    pub contents : Contents
    pub over : LiesOver new contents s
    pub rec : contents.rec ≡ c.rec
    pub nodes : contents.nodes ≡ nodes_of old c

  -- it does so whatever contents the old one lay over, if its nodes might be made last
  abbrev pub FlushesAll : StoreValue M → StoreValue M → MachineState → MachineState → Type 0
  FlushesAll old new first s =
      (c : Contents) → LiesOver old c first → MayLast old c → HasFlushed old new c s

  -- there are clean segments enough for the parts of the next unit
  abbrev pub HasUnitRoom : StoreValue M → Type 0
  HasUnitRoom v =
      HasClean (layout v) v.log.at.head v.clean (unit_blocks v.overlay)
      (length (unit_changes v.overlay v.notes))

  -- a unit outside of a pass would find fewer than six clean segments, or too few for its parts
  abbrev pub IsShort : StoreValue M → Type 0
  IsShort v = (length v.clean < 6) ⊎ (¬ HasUnitRoom v)

  -- The unit was written, with so many of the clean segments: nothing is drafted or noted, the log goes on behind the parts of
  -- its blocks and changes under the same record, and no call failed.
  pub record IsFlushed (history : M → Option History) (faults write_faults : M → ℕ)
      (old new : StoreValue M) (used : ℕ) : Type 0 where
    pub within : used ≤ length old.clean
    pub clean : new.clean ≡ drop used old.clean
    pub tidy : IsTidy new
    pub none : HasNone new.overlay.drafts
    pub uses : new.uses ≡ old.uses
    pub in_use : new.tally.in_use ≡ old.tally.in_use
    pub charge : new.tally.charge ≡ old.tally.charge
    pub lines : new.lines ≡ old.lines
    pub slots : new.tables.slots ≡ old.tables.slots
    pub serial : new.tseg_serial ≡ old.tseg_serial
    pub buffer : new.has_buffer ≡ old.has_buffer
    pub rec : new.log.rec ≡ old.log.rec
    pub at : new.log.at ≡ moved old.log.at new.log.at.head new.log.at.serial
    pub goes_on : GoesOn (layout old) old.log.at old.clean (unit_blocks old.overlay)
        (length (unit_changes old.overlay old.notes)) new.log.at.head new.log.at.serial
        (drop used old.clean)
    pub succeeded : Succeeded history faults write_faults old.log new.log
    pub over : Ends (history old.log.machine) (history new.log.machine) (FlushesAll old new)

  -- nothing but the machine changed, and the room for new blocks and the memory for a unit, which were given up
  abbrev pub KeepsButRoom : StoreValue M → StoreValue M → Type 0
  KeepsButRoom old new =
      let overlay = record old.overlay { room = 0 } in
      new ≡ record old { log = new.log; overlay = overlay; reserved = new.reserved }

  -- How the writing of a unit ends.
  abbrev pub WriteEnds : (M → Option History) → (M → ℕ) → (M → ℕ) → StoreValue M → StoreValue M
      → UnitAnswer → Type 0
  WriteEnds history faults write_faults old new (answer.Written used) =
      HasUnitRoom old × IsFlushed history faults write_faults old new used
  WriteEnds history faults write_faults old new answer.LogFull = (¬ HasUnitRoom old)
      × KeepsButMemory old new
  WriteEnds history faults write_faults old new answer.DiskFault = HasUnitRoom old
      × Failed faults write_faults old.log new.log × KeepsButRoom old new
  WriteEnds history faults write_faults old new answer.Memory = ⊥

  -- How a flush ends. Where nothing is dirty it does nothing. The log is full exactly where fewer than six segments are clean
  -- or too few for the unit, and nothing was written then.
  abbrev pub FlushEnds : (M → Option History) → (M → ℕ) → (M → ℕ) → StoreValue M → StoreValue M
      → UnitAnswer → Type 0
  FlushEnds history faults write_faults old new (answer.Written used) =
      (IsTidy old × (new ≡ old) × (used ≡ 0))
      ⊎ ((¬ IsTidy old) × (¬ IsShort old) × IsFlushed history faults write_faults old new used)
  FlushEnds history faults write_faults old new answer.LogFull =
      (¬ IsTidy old) × IsShort old × KeepsButMemory old new
  FlushEnds history faults write_faults old new answer.DiskFault = (¬ IsTidy old) × (¬ IsShort old)
      × Failed faults write_faults old.log new.log × KeepsButRoom old new
  FlushEnds history faults write_faults old new answer.Memory =
      (¬ IsTidy old) × IsUnitRefused old new
