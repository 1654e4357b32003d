-- What is read and changed of a file.
use Rattle.std.specs.Prelude.{◌≡◌, ℕ, List, ◌++◌, slice_set, Option, Some}
use Rattle.hl_media.specs.Causes.{Rose}
use Rattle.hl_media.specs.History.{History}
use Rattle.hl_media.specs.Moments.{Now}
use Rattle.hl_tree.specs.Contents.{read_at}
use Rattle.hl_log.specs.Logs.{with_machine}
use Rattle.hl_placed.specs.Blocks.{PlacedFile, Shelf, plain_bytes}
use Rattle.hl_overlaid.specs.NodesNow.{with_node}
use Rattle.hl_store.specs.Values.{StoreValue, nodes_of}
use Rattle.hl_store.specs.Lying.{LiesOver}
use Rattle.hl_store.specs.Finding.{ReadsNodes}
use Rattle.hl_ranges.specs.declared.ranges.RangeStep.{RangeStep}
use Rattle.hl_ranges.specs.declared.ranges.RangeStep.TheVariants as step
use Rattle.hl_ranges.specs.Files.{OfFile, file_node}

module _ {M : Type 0} where
  -- What a read appends: the bytes of the range. Else nothing is appended.
  abbrev pub ReadsRange : (M → Option History) → (M → ℕ) → StoreValue M → StoreValue M → ℕ → ℕ → ℕ → List ℕ → List ℕ → RangeStep → Type 0
  ReadsRange history faults old new ino at len before out step.Done =
      OfFile history old ino (λ c shelf file. out ≡ before ++ read_at (plain_bytes shelf file) at len)
  ReadsRange history faults old new ino at len before out step.DiskFault =
      (out ≡ before) × Rose (faults old.log.machine) (faults new.log.machine)
  ReadsRange history faults old new ino at len before out step.Memory = out ≡ before

  -- The number has another file, by the shelf that the lines show, and no other node changes.
  abbrev pub ChangesFile : (M → Option History) → StoreValue M → StoreValue M → ℕ → (Shelf → PlacedFile → PlacedFile) → Type 0
  ChangesFile history old new ino change = OfFile history old ino (λ c shelf file.
      Now (history new.log.machine) (λ s. LiesOver new c s)
      × (nodes_of new c ≡ with_node (nodes_of old c) ino (Some (file_node (change shelf file)))))

  -- What a change leaves: the file changed, or nothing but reads was made.
  abbrev pub MakesChange : (M → Option History) → (M → ℕ) → StoreValue M → StoreValue M → ℕ → (Shelf → PlacedFile → PlacedFile) → RangeStep → Type 0
  MakesChange history faults old new ino change step.Done = ChangesFile history old new ino change
  MakesChange history faults old new ino change step.DiskFault =
      ReadsNodes history old new × Rose (faults old.log.machine) (faults new.log.machine)
  MakesChange history faults old new ino change step.Memory = ReadsNodes history old new

  -- Besides the nodes at most the machine, drafts, what is counted of nodes and last uses have changed; the number was used
  -- at this moment, and no other was.
  pub record StaysBeside (old new : StoreValue M) (ino now : ℕ) : Type 0 where
    pub same : new ≡ record old {
      log = with_machine old.log new.log.machine;
      overlay = new.overlay;
      uses = new.uses;
      tally = new.tally;
    }
    pub uses : new.uses ≡ slice_set old.uses ino now

  -- so it is where a change was made
  abbrev pub UsesThen : StoreValue M → StoreValue M → ℕ → ℕ → RangeStep → Type 0
  UsesThen old new ino now step.Done = StaysBeside old new ino now
  UsesThen old new ino now step.DiskFault = Unit {0}
  UsesThen old new ino now step.Memory = Unit {0}
