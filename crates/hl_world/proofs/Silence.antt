-- Nothing is said while files are kept on the disk.
use Rattle.std.proofs.Common.{◌≡◌, ℕ, Option}
use Rattle.hl_media.specs.History.{History, MachineState, state_now}
use Rattle.hl_media.specs.Moments.{Runs}
use Rattle.hl_media.proofs.Runs.{AtEach-map}
use Rattle.hl_tree.specs.Rules.{Files}
use Rattle.hl_disk.specs.Saves.{IsSaving}
use Rattle.hl_world.specs.Worlds.{SaysNothing}

-- a save says nothing
pub says_nothing : (before now : Option History) (blocks number : ℕ) (tree : Files) → Runs before now (IsSaving blocks number tree) → SaysNothing before now
says_nothing before now blocks number tree saving = record {
  calls = saving.calls;
  is = saving.is;
  each = λ h e. AtEach-map (IsSaving blocks number tree (state_now h)) (λ s. s.said ≡ (state_now h).said) (λ s at. at.said) (state_now h) saving.calls (saving.each h e);
}
