-- What each exit of a save leaves.
use Rattle.std.proofs.Common.{◌≡◌, ⊎_elim, ℕ, ◌+◌, ◌-◌, ◌<◌, ◌^◌, true, List, ◌++◌, length, Option, Result, Ok, sym, ◌∙◌, ap, subst}
use Rattle.hl_media.specs.declared.failed.Failed.{Failed}
use Rattle.hl_media.specs.History.{MachineState, DeviceCall, History, state_now, state_after, ended, with_calls, DidWrite}
use Rattle.hl_media.specs.History.DeviceCall.{Write, Sync}
use Rattle.hl_media.specs.Moments.{AtEach, Runs, Ends}
use Rattle.hl_media.specs.Synced.{AddsSyncedWrite}
use Rattle.hl_media.proofs.Runs.{AtEach-append, state_after-append, after_write, after_sync, with_more, ends_from}
use Rattle.hl_media.proofs.SyncedWrites.{each_synced_write}
use Rattle.hl_tree.specs.Rules.{Files}
use Rattle.hl_disk.specs.declared.record.DumpRecord.{DumpRecord}
use Rattle.hl_disk.specs.Records.{place_of, record_bytes}
use Rattle.hl_disk.specs.Disks.{start_of}
use Rattle.hl_disk.specs.Stops.{IsSettled}
use Rattle.hl_disk.specs.Saves.{HasSaved, IsSaving}
use Rattle.hl_disk.specs.Packs.{IsPacked}
use Rattle.hl_disk.proofs.Stages.{s2, at_start, during_dump, after_dump, staged, during_record, after_record, last, holds_last}

-- the calls of a synced write
abbrev pub calls_of : {before now : Option History} {at : ℕ} {bytes : List ℕ} {r : Result (Unit {0}) Failed} → AddsSyncedWrite before now at bytes r → List DeviceCall
calls_of w = w.written ++ w.synced

-- what a synced write leaves where it succeeds
pub after_synced : (before now : Option History) (at : ℕ) (bytes : List ℕ) (u : Unit {0}) (w : AddsSyncedWrite before now at bytes (Ok u)) (s : MachineState)
    → state_after s (w.written ++ w.synced) ≡ ended (ended s (Write at bytes bytes)) (Sync true)
after_synced before now at bytes u w s = ⊎_elim
    (λ none. let e = none.2 in absurd cc)
    (λ did.
    let written : DidWrite at bytes (Ok tt) w.written = subst (λ (x : Result (Unit {0}) Failed). DidWrite at bytes x w.written) did.0 w.write in
    state_after-append s w.written w.synced
    ∙ ap (λ (x : MachineState). state_after x w.synced) (after_write s at bytes w.written tt written)
    ∙ after_sync (ended s (Write at bytes bytes)) w.synced u did.1)
    w.sync

-- the calls of two synced writes
pub two_writes : (before mid now : Option History) (at at2 : ℕ) (bytes bytes2 : List ℕ) (r r2 : Result (Unit {0}) Failed) (w : AddsSyncedWrite before mid at bytes r) (w2 : AddsSyncedWrite mid now at2 bytes2 r2)
    → now ≡ with_calls ((w.written ++ w.synced) ++ (w2.written ++ w2.synced)) before
two_writes before mid now at at2 bytes bytes2 r r2 w w2 = w2.is ∙ ap (with_calls (w2.written ++ w2.synced)) w.is ∙ with_more before (w.written ++ w.synced) (w2.written ++ w2.synced)

module _ (blocks n : ℕ) (tree : Files) (r : DumpRecord) (bytes block : List ℕ) (packed : IsPacked (n + 1) tree r bytes) (low : n < 2 ^ 64 - 1)
    (is_block : length block ≡ 4096) (spelled : block ≡ record_bytes r) (before mid now : Option History) where
  pub first_exit : (result : Result (Unit {0}) Failed) → AddsSyncedWrite before mid (start_of (n + 1)) bytes result → Runs before mid (IsSaving blocks n tree)
  first_exit result w = record {
    calls = w.written ++ w.synced;
    is = w.is;
    each = λ h e.
        each_synced_write before mid (start_of (n + 1)) bytes result w (state_now h) (IsSaving blocks n tree (state_now h))
        (at_start blocks n tree r bytes block packed low is_block spelled (state_now h))
        (during_dump blocks n tree r bytes block packed low is_block spelled (state_now h))
        (λ after size. after_dump blocks n tree r bytes block packed low is_block spelled (state_now h) after)
        (staged blocks n tree r bytes block packed low is_block spelled (state_now h));
  }

  module _ (u : Unit {0}) (w : AddsSyncedWrite before mid (start_of (n + 1)) bytes (Ok u)) where
    pub second_exit : (result : Result (Unit {0}) Failed) → AddsSyncedWrite mid now (place_of (n + 1)) block result → Runs before now (IsSaving blocks n tree)
    unfolding first_exit
    second_exit result w2 = record {
      calls = (w.written ++ w.synced) ++ (w2.written ++ w2.synced);
      is = two_writes before mid now (start_of (n + 1)) (place_of (n + 1)) bytes block (Ok u) result w w2;
      each = λ h e.
          let P = IsSaving blocks n tree (state_now h) in
          AtEach-append P (state_now h) (w.written ++ w.synced) (w2.written ++ w2.synced)
          ((first_exit (Ok u) w).each h e)
          (subst (λ (x : MachineState). AtEach P x (w2.written ++ w2.synced)) (sym (after_synced before mid (start_of (n + 1)) bytes u w (state_now h)))
          (each_synced_write mid now (place_of (n + 1)) block result w2 (s2 blocks n tree r bytes block packed low is_block spelled (state_now h)) P
          (staged blocks n tree r bytes block packed low is_block spelled (state_now h))
          (during_record blocks n tree r bytes block packed low is_block spelled (state_now h))
          (λ after size. after_record blocks n tree r bytes block packed low is_block spelled (state_now h) after)
          (last blocks n tree r bytes block packed low is_block spelled (state_now h))));
    }

    pub saved : (u2 : Unit {0}) → AddsSyncedWrite mid now (place_of (n + 1)) block (Ok u2) → Ends before now (HasSaved blocks n tree)
    saved u2 w2 = ends_from before now ((w.written ++ w.synced) ++ (w2.written ++ w2.synced)) (two_writes before mid now (start_of (n + 1)) (place_of (n + 1)) bytes block (Ok u) (Ok u2) w w2) (HasSaved blocks n tree)
        (λ h e old stands.
        subst (IsSettled blocks (n + 1) tree)
        (sym (state_after-append (state_now h) (w.written ++ w.synced) (w2.written ++ w2.synced)
        ∙ ap (λ (x : MachineState). state_after x (w2.written ++ w2.synced)) (after_synced before mid (start_of (n + 1)) bytes u w (state_now h))
        ∙ after_synced mid now (place_of (n + 1)) block u2 w2 (s2 blocks n tree r bytes block packed low is_block spelled (state_now h))))
        (holds_last blocks n tree r bytes block packed low is_block spelled (state_now h) old stands))
