-- How a call ends that stops before its first change.
use Rattle.std.proofs.Common.{◌≡◌, ℕ, ◌≤◌, Option, Err}
use Rattle.hl_media.specs.History.{History}
use Rattle.hl_media.specs.Moments.{Runs}
use Rattle.hl_log.specs.Rest.{IsUnchanged}
use Rattle.hl_tree.specs.declared.call.Call.{Call}
use Rattle.hl_tree.specs.declared.call.Refusal.{Refusal}
use Rattle.hl_placed.specs.Blocks.{PlacedFile, Shelf}
use Rattle.hl_paths.specs.Numbered.{Numbering}
use Rattle.hl_store.specs.Values.{StoreValue}
use Rattle.hl_store.specs.Finding.{ReadsNodes}
use Rattle.hl_store.proofs.ReadRuns.{rose_since}
use Rattle.hl_walk.specs.declared.walk.Halt.{Halt}
use Rattle.hl_walk.specs.declared.walk.Halt.TheVariants as halt
use Rattle.hl_walk.specs.Walks.{Halts}
use Rattle.hl_calls.specs.declared.step.FileStep.{FileStep}
use Rattle.hl_calls.specs.declared.step.FileStep.TheVariants as step
use Rattle.hl_calls.specs.Calls.{MakesCall, done_by, halted_step}
use Rattle.hl_calls.proofs.Ends.{ends_in_fault, ends_in_want, ends_refused}
use Rattle.hl_links.specs.Links.{StopsBefore}

-- what stopped behind reads stopped since the state before them
pub stops_since : {M : Type 0} (faults : M → ℕ) (old mid new : StoreValue M) → faults old.log.machine ≤ faults mid.log.machine → (stop : FileStep) → StopsBefore faults mid new stop → StopsBefore faults old new stop
stops_since faults old mid new most (step.Done reply) is = absurd is
stops_since faults old mid new most (step.Needs tseg) is = absurd is
stops_since faults old mid new most step.NoSpace is = absurd is
stops_since faults old mid new most step.DiskFault is = rose_since (faults old.log.machine) (faults mid.log.machine) (faults new.log.machine) most is
stops_since faults old mid new most step.Memory is = tt

module _ {M : Type 0} (history : M → Option History) (faults : M → ℕ) (old new : StoreValue M) (run : Runs (history old.log.machine) (history new.log.machine) IsUnchanged) (reads : ReadsNodes history old new)
    (now : ℕ) (call : Call) where
  -- A CALL THAT STOPS before its first change leaves all as it was
  pub ends_stopped : (stop : FileStep) → StopsBefore faults old new stop → MakesCall history faults old new now call stop
  ends_stopped (step.Done reply) is = absurd is
  ends_stopped (step.Needs tseg) is = absurd is
  ends_stopped step.NoSpace is = absurd is
  ends_stopped step.DiskFault is = ends_in_fault history old new run reads faults now call is
  ends_stopped step.Memory is = ends_in_want history old new run reads faults now call

  -- so does one whose walk halts, where the rules refuse it for what halts the walk
  pub ends_halted : (IsWhy : Numbering PlacedFile → Refusal → Type 0) → ((shelf : Shelf) (numbered : Numbering PlacedFile) (why : Refusal) → IsWhy numbered why → done_by old shelf numbered now call ≡ Err why)
      → (stop : Halt) → Halts history faults old new IsWhy stop → MakesCall history faults old new now call (halted_step stop)
  ends_halted IsWhy refuses (halt.Refused why) is = ends_refused history old new run reads faults now call why
      (λ h told c lies shelf numbered shows knows placed. refuses shelf numbered why (is h told c lies numbered knows))
  ends_halted IsWhy refuses halt.DiskFault is = ends_in_fault history old new run reads faults now call is
  ends_halted IsWhy refuses halt.Memory is = ends_in_want history old new run reads faults now call
