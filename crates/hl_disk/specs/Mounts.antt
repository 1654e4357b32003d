-- What mounting a disk gives.
use Rattle.std.specs.Prelude.{◌≡◌, ◌<◌, ◌^◌, ℕ, Result, Ok, Err}
use Rattle.hl_media.specs.History.{Image}
use Rattle.hl_tree.specs.Rules.{Files}
use Rattle.hl_dump.specs.Dumps.{HasDump, dump_limits}
use Rattle.hl_disk.specs.declared.mounting.Mounted.{Mounted}
use Rattle.hl_disk.specs.declared.mounting.MountError.{MountError}
use Rattle.hl_disk.specs.declared.mounting.MountError.TheVariants.{NoLabel, NoRecord, DiskFault, Memory}
use Rattle.hl_disk.specs.declared.record.DumpRecord.{DumpRecord}
use Rattle.hl_disk.specs.Disks.{HasLabel, Checks, StandsFor}

-- what the answer says of the image
abbrev pub Mounts : ℕ → Image → Result Mounted MountError → Type 0
Mounts blocks image (Ok m) = StandsFor blocks image m.number m.files.tree
Mounts blocks image (Err NoLabel) = HasLabel blocks image → ⊥
Mounts blocks image (Err NoRecord) = HasLabel blocks image × ((r : DumpRecord) (t : Files) → Checks image r t → ⊥)
Mounts blocks image (Err DiskFault) = Unit {0}
Mounts blocks image (Err Memory) = Unit {0}

-- what is mounted can be dumped again, and has these limits and a number of a record
pub record IsMounted (m : Mounted) : Type 0 where
  pub limits : m.files.limits ≡ dump_limits
  pub tree : HasDump m.files.tree
  pub number : m.number < 2 ^ 64
