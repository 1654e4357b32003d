-- How many names a directory has.
use Rattle.std.specs.Prelude.{◌≡◌, ℕ, List, length, Option, Some}
use Rattle.std.specs.FinMap.{get}
use Rattle.hl_media.specs.Causes.{Rose}
use Rattle.hl_media.specs.History.{History}
use Rattle.hl_tree.specs.declared.call.Reply.{Reply}
use Rattle.hl_tree.specs.declared.call.Reply.TheVariants as replies
use Rattle.hl_dir.specs.declared.entry.Entry.{Entry}
use Rattle.hl_placed.specs.Blocks.{PlacedFile}
use Rattle.hl_paths.specs.Numbered.{Directory, Numbering}
use Rattle.hl_store.specs.Values.{StoreValue}
use Rattle.hl_walk.specs.Trees.{OfTree}
use Rattle.hl_calls.specs.declared.step.FileStep.{FileStep}
use Rattle.hl_calls.specs.declared.step.FileStep.TheVariants as step

-- a number is a directory, of so many names as is answered
pub record IsCount (numbered : Numbering PlacedFile) (number : ℕ) (reply : Reply) : Type 0 where
  pub entries : List Entry
  pub there : get numbered number ≡ Some (Directory entries)
  pub is : reply ≡ replies.Dir (length entries)

module _ {M : Type 0} where
  -- How counting the names of a directory ends. A fault comes only where the count rose.
  abbrev pub CountsNames : (M → Option History) → (M → ℕ) → StoreValue M → StoreValue M → ℕ → FileStep → Type 0
  CountsNames history faults old new number (step.Done reply) = OfTree history old (λ c numbered. IsCount numbered number reply)
  CountsNames history faults old new number (step.Needs tseg) = ⊥
  CountsNames history faults old new number step.NoSpace = ⊥
  CountsNames history faults old new number step.DiskFault = Rose (faults old.log.machine) (faults new.log.machine)
  CountsNames history faults old new number step.Memory = Unit {0}
