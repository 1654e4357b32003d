-- Memory that is taken before it is used.
use Rattle.std.specs.Prelude.{◌≡◌, ℕ, ◌+◌, ◌*◌, ◌<◌, ◌≤◌, ◌^◌, List, [], length, Option, Some}
use Rattle.hl_media.specs.History.{MachineState}
use Rattle.hl_bytes.specs.declared.records.TableRecord.{TableRecord}
use Rattle.hl_nodes.specs.Contents.{Contents}
use Rattle.hl_overlay.specs.DraftTables.{others_of}
use Rattle.hl_overlay.specs.Overlays.{OverlayValue, unit_blocks}
use Rattle.hl_overlaid.specs.Units.{unit_changes}
use Rattle.hl_store.specs.declared.answers.Prepared.{Prepared}
use Rattle.hl_store.specs.declared.answers.Prepared.TheVariants as prepared
use Rattle.hl_store.specs.Values.{Reserved, StoreValue}
use Rattle.hl_store.specs.Lying.{LiesOver}
use Rattle.hl_store.specs.Finding.{KeepsNodes}

-- the memory for a unit is empty, and the buffer, if it is there, has so many blocks
pub record IsSpare (k : ℕ) (plan : List ℕ) (changes : List TableRecord)
    (buffer : Option (List ℕ)) : Type 0 where
  pub no_plan : plan ≡ []
  pub no_changes : changes ≡ []
  pub size : (bytes : List ℕ) → buffer ≡ Some bytes → length bytes ≡ 4096 * k

-- there is memory for as many
pub record HasAsMuch (old new : Reserved) : Type 0 where
  pub plan : old.plan ≤ new.plan
  pub changes : old.changes ≤ new.changes
  pub notes : old.notes ≤ new.notes

-- nothing changed but the room for new blocks, in which the inodes and pointer blocks of the drafts fit
pub record HasOthers (old new : OverlayValue) : Type 0 where
  pub same : new ≡ record old { room = new.room }
  pub fits : others_of old.drafts ≤ new.room

module _ {M : Type 0} where
  -- the new store lies over what the old one lies over, with the nodes that it has
  abbrev pub KeepsEach : StoreValue M → StoreValue M → Type 0
  KeepsEach old new = (c : Contents) (s : MachineState) → LiesOver old c s → KeepsNodes old new s c

  -- nothing changed but for how much there is memory, and there is memory for as much as before
  pub record KeepsButMemory (old new : StoreValue M) : Type 0 where
    pub same : new ≡ record old { reserved = new.reserved }
    pub much : HasAsMuch old.reserved new.reserved
    pub keeps : KeepsEach old new

  -- there is memory for the next unit, as it would be now
  pub record IsReserved (v : StoreValue M) : Type 0 where
    pub plan : unit_blocks v.overlay ≤ v.reserved.plan
    pub changes : length (unit_changes v.overlay v.notes) ≤ v.reserved.changes
    pub room : others_of v.overlay.drafts ≤ v.overlay.room
    pub few : length (unit_changes v.overlay v.notes) < 2 ^ 32

  -- a unit is refused for memory: there was none for it, and nothing changed
  abbrev pub IsUnitRefused : StoreValue M → StoreValue M → Type 0
  IsUnitRefused old new = (¬ IsReserved old) × KeepsButMemory old new

  -- a note is refused for memory: there was none for one more, and nothing changed
  abbrev pub IsNoteRefused : StoreValue M → StoreValue M → Type 0
  IsNoteRefused old new = (¬ (length old.notes < old.reserved.notes)) × KeepsButMemory old new

  -- There is memory for so many notes more, and for the unit of what is dirty or prepared with them: each draft may have an
  -- inode and a pointer block in it, and may free its number.
  pub record Reserves (old new : StoreValue M) (tables : ℕ) : Type 0 where
    pub same : (let room = old.overlay.room + 2 * length old.overlay.drafts.items in
        new ≡ record old { overlay = record old.overlay { room = room }; reserved = new.reserved })
    pub plan : (let held = length old.overlay.drafts.items in
        length old.overlay.blocks + old.overlay.room + 2 * held ≤ new.reserved.plan)
    pub changes : (let held = length old.overlay.drafts.items in
        held + length old.notes + tables ≤ new.reserved.changes)
    pub few : length old.overlay.drafts.items + length old.notes + tables < 2 ^ 32
    pub notes : length old.notes + tables ≤ new.reserved.notes
    pub much : HasAsMuch old.reserved new.reserved
    pub now : IsReserved new
    pub keeps : KeepsEach old new

  -- how reserving ends
  abbrev pub ReserveEnds : StoreValue M → StoreValue M → ℕ → Prepared → Type 0
  ReserveEnds old new tables prepared.Ready = Reserves old new tables
  ReserveEnds old new tables prepared.DiskFault = ⊥
  ReserveEnds old new tables prepared.Memory = KeepsButMemory old new
