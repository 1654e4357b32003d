-- What a disk that stands for a tree is mounted as.
use Rattle.std.proofs.Common.{ℕ, Result, Ok, Err}
use Rattle.hl_media.specs.History.{Image}
use Rattle.hl_tree.specs.Rules.{Files}
use Rattle.hl_disk.specs.declared.mounting.Mounted.{Mounted}
use Rattle.hl_disk.specs.declared.mounting.MountError.{MountError}
use Rattle.hl_disk.specs.declared.mounting.MountError.TheVariants.{NoLabel, NoRecord, DiskFault}
use Rattle.hl_disk.specs.declared.mounting.MountError.TheVariants as mount
use Rattle.hl_disk.specs.Disks.{StandsFor}
use Rattle.hl_disk.specs.Mounts.{Mounts}
use Rattle.hl_disk.proofs.Once.{stands_once}
use Rattle.hl_world.specs.Worlds.{MountsTo}

-- what is mounted is what the disk stands for
pub mounts_to : (blocks : ℕ) (image : Image) (r : Result Mounted MountError) → Mounts blocks image r → (number : ℕ) (tree : Files) → StandsFor blocks image number tree → MountsTo number tree r
mounts_to blocks image (Ok m) mounts number tree stands = stands_once blocks image m.number number m.files.tree tree mounts stands
mounts_to blocks image (Err NoLabel) mounts number tree stands = mounts stands.label
mounts_to blocks image (Err NoRecord) mounts number tree stands = mounts.1 stands.newest tree stands.checks
mounts_to blocks image (Err DiskFault) mounts number tree stands = tt
mounts_to blocks image (Err mount.Memory) mounts number tree stands = tt
