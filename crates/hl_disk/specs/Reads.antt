-- What the parts of a mount give.
use Rattle.std.specs.Prelude.{◌≡◌, ◌⊎◌, ◌↔◌, ℕ, ◌≤◌, List, length, Option, Some, None, Result, Ok, Err}
use Rattle.sha2.specs.Sha256.{sha256}
use Rattle.hl_media.specs.History.{Image, History}
use Rattle.hl_media.specs.Moments.{Runs}
use Rattle.hl_tree.specs.PlainValue.{Plain}
use Rattle.hl_tree.specs.Rules.{Files}
use Rattle.hl_dump.specs.Dumps.{IsDump, HasDump, dump_limits}
use Rattle.hl_disk.specs.declared.mounting.Mounted.{Mounted}
use Rattle.hl_disk.specs.declared.mounting.MountError.{MountError}
use Rattle.hl_disk.specs.declared.mounting.MountError.TheVariants.{NoLabel, NoRecord, DiskFault, Memory}
use Rattle.hl_disk.specs.declared.record.DumpRecord.{DumpRecord}
use Rattle.hl_disk.specs.Disks.{dump_at}
use Rattle.hl_disk.specs.Records.{Spells}

-- calls were made since that changed nothing
abbrev pub OnlyReads : Option History → Option History → Type 0
OnlyReads before now = Runs before now (λ first s. s ≡ first)

-- the answer is the record of this block, and none exactly where it has none
abbrev pub FindsRecord : ℕ → Image → Option DumpRecord → Type 0
FindsRecord at image r = (v : DumpRecord) → (r ≡ Some v) ↔ Spells at (image at) v

-- the bytes have the length and the digest of the record, and are the dump of the tree
pub record IsDumpOf (r : DumpRecord) (bytes : List ℕ) (tree : Files) : Type 0 where
  pub whole : length bytes ≡ r.length
  pub digest : sha256 bytes ≡ r.digest
  pub dump : IsDump bytes tree

-- a tree that was read from a dump
pub record IsRead (p : Plain) : Type 0 where
  pub limits : p.limits ≡ dump_limits
  pub tree : HasDump p.tree

-- the answer is the tree whose dump the bytes are, and none exactly where they are none for the record
abbrev pub GivesTree : DumpRecord → List ℕ → Option Plain → Type 0
GivesTree r bytes None = (t : Files) → IsDumpOf r bytes t → ⊥
GivesTree r bytes (Some p) = IsDumpOf r bytes p.tree

-- what is said of a record that may be there: its tree under its number, and none where it hasn't its dump
abbrev pub Takes : Image → Option DumpRecord → Option Mounted → Type 0
Takes image r None = (v : DumpRecord) (t : Files) → r ≡ Some v → IsDumpOf v (dump_at image v) t → ⊥
Takes image r (Some m) = (v : DumpRecord) × (r ≡ Some v) × (m.number ≡ v.number) × IsDumpOf v (dump_at image v) m.files.tree

-- it is one of the two
abbrev pub IsOneOf : Option DumpRecord → Option DumpRecord → DumpRecord → Type 0
IsOneOf a b v = (a ≡ Some v) ⊎ (b ≡ Some v)

-- the tree of the newer one of two records that has its dump
pub record PicksTree (image : Image) (a b : Option DumpRecord) (m : Mounted) : Type 0 where
  pub newest : DumpRecord
  pub one : IsOneOf a b newest
  pub number_is : m.number ≡ newest.number
  pub dump : IsDumpOf newest (dump_at image newest) m.files.tree
  pub others : (s : DumpRecord) (t : Files) → IsOneOf a b s → IsDumpOf s (dump_at image s) t → s.number ≤ m.number

abbrev pub Picks : Image → Option DumpRecord → Option DumpRecord → Result Mounted MountError → Type 0
Picks image a b (Ok m) = PicksTree image a b m
Picks image a b (Err NoLabel) = ⊥
Picks image a b (Err NoRecord) = (s : DumpRecord) (t : Files) → IsOneOf a b s → IsDumpOf s (dump_at image s) t → ⊥
Picks image a b (Err DiskFault) = Unit {0}
Picks image a b (Err Memory) = Unit {0}

-- the two records, the first of which is not older
pub record IsOrdered (a b : Option DumpRecord) (newer older : Option DumpRecord) : Type 0 where
  pub same : ((newer ≡ a) × (older ≡ b)) ⊎ ((newer ≡ b) × (older ≡ a))
  pub order : (v w : DumpRecord) → newer ≡ Some v → older ≡ Some w → w.number ≤ v.number
