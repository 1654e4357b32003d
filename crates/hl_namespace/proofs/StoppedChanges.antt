-- Changes that stop behind reads, before they begin.
use Rattle.std.proofs.Common.{ℕ, Option, refl}
use Rattle.hl_media.specs.History.{History}
use Rattle.hl_media.specs.Moments.{Runs}
use Rattle.hl_media.proofs.Runs.{starts}
use Rattle.hl_log.specs.Logs.{OnlyReads}
use Rattle.hl_log.specs.Rest.{IsUnchanged}
use Rattle.hl_placed.specs.Blocks.{PlacedFile}
use Rattle.hl_paths.specs.Numbered.{Numbering}
use Rattle.hl_store.specs.Values.{StoreValue}
use Rattle.hl_store.specs.Finding.{ReadsNodes}
use Rattle.hl_store.proofs.ReadRuns.{rose_since}
use Rattle.hl_walk.proofs.KeptTrees.{reads_both}
use Rattle.hl_calls.specs.declared.growth.Growth.{Growth}
use Rattle.hl_calls.specs.declared.step.FileStep.{FileStep}
use Rattle.hl_calls.specs.declared.step.FileStep.TheVariants as step
use Rattle.hl_links.specs.Links.{ChangesOrStops, StopsBefore}
use Rattle.hl_namespace.specs.NewNodes.{AddsOrStops}

-- no call was made
pub nothing_run : (told : Option History) → Runs told told IsUnchanged
nothing_run told = starts told IsUnchanged (λ h e. refl)

module _ {M : Type 0} (history : M → Option History) (blocks faults write_faults say_faults : M → ℕ) (old mid new : StoreValue M) (reads : ReadsNodes history old mid)
    (machine : OnlyReads history blocks faults write_faults say_faults old.log.machine mid.log.machine) (more : ReadsNodes history mid new) (Becomes : Numbering PlacedFile → Numbering PlacedFile → Type 0) where
  both : ReadsNodes history old new
  both = reads_both history old mid reads machine.unchanged new more

  pub changes_stopped : (stop : FileStep) → StopsBefore faults mid new stop → ChangesOrStops history faults old new Becomes stop
  changes_stopped (step.Done reply) is = absurd is
  changes_stopped (step.Needs tseg) is = absurd is
  changes_stopped step.NoSpace is = absurd is
  changes_stopped step.DiskFault is = (both, rose_since (faults old.log.machine) (faults mid.log.machine) (faults new.log.machine) machine.faults_most is)
  changes_stopped step.Memory is = both

  pub adds_stopped : (growth : Growth) (stop : FileStep) → StopsBefore faults mid new stop → AddsOrStops history faults old new growth Becomes stop
  adds_stopped growth (step.Done reply) is = absurd is
  adds_stopped growth (step.Needs tseg) is = absurd is
  adds_stopped growth step.NoSpace is = absurd is
  adds_stopped growth step.DiskFault is = (both, rose_since (faults old.log.machine) (faults mid.log.machine) (faults new.log.machine) machine.faults_most is)
  adds_stopped growth step.Memory is = both
