-- What a stop may leave of a disk of two dumps, unless a torn write checks by chance.
use Rattle.std.specs.Prelude.{◌≡◌, ◌⊎◌, ℕ, ◌<◌, List, [], ◌∷◌}
use Rattle.hl_media.specs.History.{Image, PendingWrite, MachineState, MayLeave}
use Rattle.hl_super.specs.declared.label.Label.{Label}
use Rattle.hl_super.specs.Labels as labels
use Rattle.hl_tree.specs.Rules.{Files}
use Rattle.hl_disk.specs.declared.record.DumpRecord.{DumpRecord}
use Rattle.hl_disk.specs.Records.{Spells}
use Rattle.hl_disk.specs.Disks.{HasLabel, Holds}

-- An image holds the write of a record whole, or its block holds no record of its number or a greater one. It holds
-- the write of a label whole, or has no label.
pub record NoChanceOf (blocks : ℕ) (w : PendingWrite) (image : Image) : Type 0 where
  pub record_write : (r : DumpRecord) → Spells w.at w.bytes r → (image w.at ≡ w.bytes) ⊎ ((s : DumpRecord) → Spells w.at (image w.at) s → s.number < r.number)
  pub label_write : (v : Label) → w.at ≡ 0 → labels.Spells blocks w.bytes v → (image 0 ≡ w.bytes) ⊎ (HasLabel blocks image → ⊥)

-- no pending write was torn so that it checks
abbrev pub NoChance : ℕ → List PendingWrite → Image → Type 0
NoChance blocks [] image = Unit {0}
NoChance blocks (w ∷ pending) image = NoChanceOf blocks w image × NoChance blocks pending image

-- whatever a stop leaves, unless by chance, has P
abbrev pub StopLeaves : ℕ → (Image → Type 0) → MachineState → Type 0
StopLeaves blocks P s = (image : Image) → MayLeave s image → NoChance blocks s.pending image → P image

-- nothing is pending, and the disk holds the tree under this number
pub record IsSettled (blocks number : ℕ) (tree : Files) (s : MachineState) : Type 0 where
  pub synced : s.pending ≡ []
  pub holds : Holds blocks s.content number tree
