-- What saving a tree does.
use Rattle.std.specs.Prelude.{◌≡◌, ◌⊎◌, ℕ, ◌+◌}
use Rattle.hl_media.specs.History.{Image, MachineState}
use Rattle.hl_tree.specs.Rules.{Files}
use Rattle.hl_disk.specs.Disks.{StandsFor, Holds}
use Rattle.hl_disk.specs.Stops.{StopLeaves, IsSettled}

-- the image holds the tree of this number, or the next one's
abbrev pub HoldsEither : ℕ → ℕ → Files → Files → Image → Type 0
HoldsEither blocks number old new image = Holds blocks image number old ⊎ Holds blocks image (number + 1) new

-- At a moment of a save a stop leaves the tree from before or the one that is saved, and nothing is said.
pub record IsSaving (blocks number : ℕ) (new : Files) (first s : MachineState) : Type 0 where
  pub said : s.said ≡ first.said
  pub leaves : (old : Files) → IsSettled blocks number old first → StopLeaves blocks (HoldsEither blocks number old new) s

-- After a save the disk holds the tree that is saved, where it stood for one.
abbrev pub HasSaved : ℕ → ℕ → Files → MachineState → MachineState → Type 0
HasSaved blocks number new first s = (old : Files) → StandsFor blocks first.content number old → IsSettled blocks (number + 1) new s
