-- What a write and its sync leave.
use Rattle.std.proofs.Common.{◌≡◌, ⊎_elim, ℕ, true, List, [], ◌++◌, length, Option, Result, Ok, Err, refl, sym, subst}
use Rattle.std.specs.Prelude.{IsErr}
use Rattle.hl_media.specs.declared.failed.Failed.{Failed}
use Rattle.hl_media.specs.History.{MachineState, History, begun, ended, state_after, DidWrite}
use Rattle.hl_media.specs.History.DeviceCall.{Write, Sync}
use Rattle.hl_media.specs.Moments.{AtEach}
use Rattle.hl_media.proofs.Runs.{AtEach-append, AtEach-last, each_write, each_sync, after_write}
use Rattle.hl_media.specs.Synced.{AddsSyncedWrite}

module _ (before now : Option History) (at : ℕ) (bytes : List ℕ) (r : Result (Unit {0}) Failed) (adds : AddsSyncedWrite before now at bytes r) (s : MachineState) where
  pub each_synced_write : (P : MachineState → Type 0) → P s → P (begun s (Write at bytes [])) → ((after : List ℕ) → length after ≡ length bytes → P (ended s (Write at bytes after)))
      → P (ended (ended s (Write at bytes bytes)) (Sync true)) → AtEach P s (adds.written ++ adds.synced)
  each_synced_write P here during after last =
      let first : AtEach P s adds.written = each_write P s at bytes adds.write_result adds.written adds.write here during after in
      AtEach-append P s adds.written adds.synced first (⊎_elim
      (λ none. subst (AtEach P (state_after s adds.written)) (sym none.0) (AtEach-last P s adds.written first))
      (λ did.
      let ok : DidWrite at bytes (Ok tt) adds.written = subst (λ (x : Result (Unit {0}) Failed). DidWrite at bytes x adds.written) did.0 adds.write in
      subst (λ (x : MachineState). AtEach P x adds.synced) (sym (after_write s at bytes adds.written tt ok))
      (each_sync P (ended s (Write at bytes bytes)) r adds.synced did.1 (after bytes refl) last))
      adds.sync)

pub failed_is : (r : Result (Unit {0}) Failed) → IsErr r → r ≡ Err record {}
failed_is (Ok u) err = cc
failed_is (Err e) err = refl
