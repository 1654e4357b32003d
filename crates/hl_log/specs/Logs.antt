-- A log as contracts see it, and how its calls end.
use Rattle.std.specs.Prelude.{◌≡◌, ℕ, ◌+◌, ◌*◌, ◌≤◌, true, List, length, drop, map, refl, Bool, Option}
use Rattle.std.specs.Coded.{Coded, code_by, coded×, coded_ℕ, coded_bool, coded_list}
use Rattle.hl_media.specs.History.{History, MachineState}
use Rattle.hl_media.specs.Moments.{Runs, Now, Ends}
use Rattle.hl_media.specs.Causes.{Rose}
use Rattle.hl_addr.specs.Layout.{Layout}
use Rattle.hl_super.specs.declared.record.Record.{Record}
use Rattle.hl_summary.specs.declared.parts.Summary.{Summary}
use Rattle.hl_image.specs.declared.place.LogPlace.{LogPlace}
use Rattle.hl_image.specs.Places.{log_end, IsLogPlace}
use Rattle.hl_image.specs.Chain.{IsCutChain, end_of, Covers}
use Rattle.hl_image.specs.Newest.{start_of}
use Rattle.hl_log.specs.declared.position.Position.{Position}
use Rattle.hl_log.specs.declared.unit.UnitAnswer.{UnitAnswer}
use Rattle.hl_log.specs.declared.unit.UnitAnswer.TheVariants as answer
use Rattle.hl_log.specs.Free.{IsFree, AreClean}
use Rattle.hl_log.specs.Cut.{HasClean}
use Rattle.hl_log.specs.Rest.{IsAtRest, IsUnchanged, OnlyFrom, Stays, IsSynced}
use Rattle.hl_log.specs.Units.{Brought, HasWritten, UnitGoesOn, HasCleanFor, moved}
use Rattle.hl_log.specs.Checkpoints.{Given, HasCheckpointed, IsRecordBehind, restarted_at}
use Rattle.hl_log.specs.declared.unit.Unit.{Unit as LogUnit}

-- the machine, the site, the newest record, and where the log stands
pub record LogValue (M : Type 0) : Type 0 where
  pub machine : M
  pub geometry : Layout
  pub rec : Record
  pub at : Position

-- stored as a tuple
abbrev pub layout_code : Coded Layout
layout_code =
    code_by (ℕ × (ℕ × (ℕ × (ℕ × List ℕ))))
    (coded× coded_ℕ (coded× coded_ℕ (coded× coded_ℕ (coded× coded_ℕ (coded_list coded_ℕ)))))
    (λ g. (g.k, (g.log, (g.lines, (g.inodes, g.volumes)))))
    (λ t. record { k = t.0; log = t.1.0; lines = t.1.1.0; inodes = t.1.1.1.0; volumes = t.1.1.1.1 })
    (λ _. refl)

abbrev pub record_code : Coded Record
record_code = code_by (ℕ × (ℕ × (ℕ × (ℕ × (ℕ × (ℕ × (List ℕ × List ℕ)))))))
    (coded× coded_ℕ
    (coded× coded_ℕ
    (coded× coded_ℕ
    (coded× coded_ℕ
    (coded× coded_ℕ (coded× coded_ℕ (coded× (coded_list coded_ℕ) (coded_list coded_ℕ))))))))
    (λ r.
    (r.number, (r.serial, (r.seg, (r.block, (r.tseg_serial, (r.format, (r.volumes, r.tables))))))))
    (λ t.
    record {
      number = t.0;
      serial = t.1.0;
      seg = t.1.1.0;
      block = t.1.1.1.0;
      tseg_serial = t.1.1.1.1.0;
      format = t.1.1.1.1.1.0;
      volumes = t.1.1.1.1.1.1.0;
      tables = t.1.1.1.1.1.1.1;
    })
    (λ _. refl)

abbrev pub place_code : Coded LogPlace
place_code =
    code_by (ℕ × ℕ) (coded× coded_ℕ coded_ℕ) (λ p. (p.seg, p.block))
    (λ t. record { seg = t.0; block = t.1 }) (λ _. refl)

abbrev pub position_code : Coded Position
position_code =
    code_by (LogPlace × (ℕ × (LogPlace × (ℕ × Bool))))
    (coded× place_code (coded× coded_ℕ (coded× place_code (coded× coded_ℕ coded_bool))))
    (λ p. (p.start, (p.first, (p.head, (p.serial, p.fresh)))))
    (λ t.
    record { start = t.0; first = t.1.0; head = t.1.1.0; serial = t.1.1.1.0; fresh = t.1.1.1.1 })
    (λ _. refl)

abbrev pub log_code : {M : Type 0} → Coded M → Coded (LogValue M)
log_code {M} code =
    code_by (M × (Layout × (Record × Position)))
    (coded× code (coded× layout_code (coded× record_code position_code)))
    (λ l. (l.machine, (l.geometry, (l.rec, l.at))))
    (λ t. record { machine = t.0; geometry = t.1.0; rec = t.1.1.0; at = t.1.1.1 }) (λ _. refl)

-- the position of a log that was just opened
abbrev pub opened_at : Record → LogPlace → ℕ → Position
opened_at rec head serial =
    record { start = start_of rec; first = rec.serial; head = head; serial = serial; fresh = true }

-- the blocks of a site's disk: those of the label and the records, of the log and of the lines
abbrev pub site_blocks : Layout → ℕ
site_blocks g = (1 + g.log + g.lines) * g.k

-- the log of this machine that was just opened
abbrev pub opened_log : {M : Type 0} → M → Layout → Record → LogPlace → ℕ → LogValue M
opened_log m g rec head serial =
    record { machine = m; geometry = g; rec = rec; at = opened_at rec head serial }

-- the same log with this machine
abbrev pub with_machine : {M : Type 0} → LogValue M → M → LogValue M
with_machine log m = record { machine = m; geometry = log.geometry; rec = log.rec; at = log.at }

-- the log stays at rest at each moment of a call
abbrev pub RestStays : {M : Type 0} → (M → Option History) → LogValue M → LogValue M → Type 0
RestStays history before now =
    Runs (history before.machine) (history now.machine) (Stays before.geometry before.at)

-- where the cut chain of what reads give starts and ends, and which segments may be taken
pub record IsStart (g : Layout) (p : Position) (clean : List ℕ) (parts : List Summary)
    (s : MachineState) : Type 0 where
  pub quiet : OnlyFrom (log_end g) s.pending
  pub start : IsLogPlace g p.start
  pub head : IsLogPlace g p.head
  pub cleans : AreClean g p.head.seg clean
  pub chain : IsCutChain g s.content p.start p.first parts
  pub head_is : end_of p.start parts ≡ p.head
  pub serial_is : p.first + length parts ≡ p.serial
  pub behind : (b : ℕ) → Covers g p.start parts b → IsFree g p.head clean b → ⊥

-- a log opened behind the cut chain is at rest
abbrev pub Opens : Layout → Position → MachineState → Type 0
Opens g p s = (clean : List ℕ) (parts : List Summary) → IsStart g p clean parts s
    → IsAtRest g p clean parts s

-- what a unit brings
abbrev pub unit_of : LogUnit → Brought
unit_of u = record {
  closes = true;
  records = map (λ b. b.0) u.blocks;
  contents = map (λ b. b.1.bytes) u.blocks;
  changes = u.tables;
}

-- there are clean segments enough for what is brought
abbrev pub Enough : {M : Type 0} → LogValue M → List ℕ → Brought → Type 0
Enough log clean u = HasCleanFor log.geometry log.at.head clean u

-- a call failed, and nothing but the machine changed
pub record Failed {M : Type 0} (faults write_faults : M → ℕ)
    (before now : LogValue M) : Type 0 where
  pub faults_rose : Rose (faults before.machine) (faults now.machine)
  pub write_faults_rose : Rose (write_faults before.machine) (write_faults now.machine)
  pub at : now.at ≡ before.at
  pub rec : now.rec ≡ before.rec

-- no device call failed, and every write is synced
pub record Succeeded {M : Type 0} (history : M → Option History) (faults write_faults : M → ℕ)
    (before now : LogValue M) : Type 0 where
  pub faults_same : faults now.machine ≡ faults before.machine
  pub write_faults_same : write_faults now.machine ≡ write_faults before.machine
  pub synced : Now (history now.machine) IsSynced

-- only reads were made, of which some may have failed
pub record OnlyReads {M : Type 0} (history : M → Option History)
    (blocks faults write_faults say_faults : M → ℕ) (before now : M) : Type 0 where
  pub unchanged : Runs (history before) (history now) IsUnchanged
  pub blocks_same : blocks now ≡ blocks before
  pub faults_most : faults before ≤ faults now
  pub write_faults_same : write_faults now ≡ write_faults before
  pub say_faults_same : say_faults now ≡ say_faults before

-- The unit was written, with so many of the clean segments.
pub record UnitIsWritten {M : Type 0} (history : M → Option History) (faults write_faults : M → ℕ)
    (clean : List ℕ) (u : Brought) (before now : LogValue M) (used : ℕ) : Type 0 where
  pub within : used ≤ length clean
  pub succeeded : Succeeded history faults write_faults before now
  pub rec : now.rec ≡ before.rec
  pub at : now.at ≡ moved before.at now.at.head now.at.serial
  pub goes_on : UnitGoesOn before.geometry before.at clean u now.at used
  pub written : Ends (history before.machine) (history now.machine)
      (HasWritten before.geometry before.at clean u now.at (drop used clean))

-- The checkpoint was written, with so many of the clean segments. Behind it the log starts at its new record.
pub record CheckpointIsWritten {M : Type 0} (history : M → Option History)
    (faults write_faults : M → ℕ) (clean : List ℕ) (d : Given) (tables : List (List ℕ))
    (before now : LogValue M) (used : ℕ) : Type 0 where
  pub within : used ≤ length clean
  pub succeeded : Succeeded history faults write_faults before now
  pub at : now.at ≡ restarted_at now.rec
  pub rec : IsRecordBehind before.geometry before.at clean (drop used clean) d (length tables)
      now.rec
  pub written : Ends (history before.machine) (history now.machine)
      (HasCheckpointed before.geometry before.at clean d tables now.at (drop used clean) now.rec)

-- How the writing of a unit ends: it is full exactly where there are too few clean segments.
abbrev pub UnitEnds : {M : Type 0} → (M → Option History) → (M → ℕ) → (M → ℕ) → List ℕ → Brought
    → LogValue M → LogValue M → UnitAnswer → Type 0
UnitEnds history faults write_faults clean u before now (answer.Written used) =
    Enough before clean u × UnitIsWritten history faults write_faults clean u before now used
UnitEnds history faults write_faults clean u before now answer.LogFull = (¬ Enough before clean u)
    × (now ≡ before)
UnitEnds history faults write_faults clean u before now answer.DiskFault = Enough before clean u
    × Failed faults write_faults before now
UnitEnds history faults write_faults clean u before now answer.Memory = ⊥

-- How a checkpoint ends: it is full exactly where there are too few clean segments, and where memory is wanting nothing
-- was written.
abbrev pub CheckpointEnds : {M : Type 0} → (M → Option History) → (M → ℕ) → (M → ℕ) → List ℕ → Given
    → List (List ℕ) → LogValue M → LogValue M → UnitAnswer → Type 0
CheckpointEnds history faults write_faults clean d tables before now (answer.Written used) =
    HasClean before.geometry before.at.head clean (length tables) 0
    × CheckpointIsWritten history faults write_faults clean d tables before now used
CheckpointEnds history faults write_faults clean d tables before now answer.LogFull =
    (¬ HasClean before.geometry before.at.head clean (length tables) 0) × (now ≡ before)
CheckpointEnds history faults write_faults clean d tables before now answer.DiskFault =
    HasClean before.geometry before.at.head clean (length tables) 0
    × Failed faults write_faults before now
CheckpointEnds history faults write_faults clean d tables before now answer.Memory = now ≡ before
