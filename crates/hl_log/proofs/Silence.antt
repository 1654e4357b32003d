-- Calls that say nothing, and end with a sync.
use Rattle.std.proofs.Common.{ℕ, List, ◌++◌, Option, Result, Ok, Err, OnOk, refl, sym, ◌∙◌}
use Rattle.hl_media.specs.declared.failed.Failed.{Failed}
use Rattle.hl_media.specs.History.{History}
use Rattle.hl_media.specs.Moments.{Runs, Now}
use Rattle.hl_media.specs.Synced.{AddsSyncedWrite}
use Rattle.hl_media.proofs.Runs.{goes_on, starts, ends_of_run, told_before}
use Rattle.hl_log.specs.Rest.{SaysNothing, IsSynced}
use Rattle.hl_log.proofs.Wraps.{pair_runs, pair_ends}

pub silent_starts : (before : Option History) → Runs before before SaysNothing
silent_starts before = starts before SaysNothing (λ h e. refl)

pub silent_then : (before middle now : Option History) → Runs before middle SaysNothing → Runs middle now SaysNothing → Runs before now SaysNothing
silent_then before middle now run more = goes_on before middle now SaysNothing SaysNothing SaysNothing run (ends_of_run before middle SaysNothing run) more (λ first mid s said later. later ∙ said)

pub write_silent : (before now : Option History) (at : ℕ) (bytes : List ℕ) (r : Result (Unit {0}) Failed) → AddsSyncedWrite before now at bytes r → Runs before now SaysNothing
write_silent before now at bytes r adds = pair_runs before now at bytes r adds SaysNothing (λ s. refl) (λ s. refl) (λ s after. refl) (λ s. refl)

-- behind a write and a sync that succeed
pub write_synced : (before now : Option History) (at : ℕ) (bytes : List ℕ) (r : Result (Unit {0}) Failed) → AddsSyncedWrite before now at bytes r → OnOk r (Now now IsSynced)
write_synced before now at bytes (Err e) adds = tt
write_synced before now at bytes (Ok u) adds = λ later told.
    let first = told_before before (adds.written ++ adds.synced) later (sym adds.is ∙ told) in
    pair_ends before now at bytes (Ok u) adds (λ a s. IsSynced s) (λ s. refl) first.0 first.1 later told
