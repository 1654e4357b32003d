-- What each exit of making a disk leaves.
use Rattle.std.proofs.Common.{◌≡◌, ⊎_elim, ℕ, zero, suc, true, false, List, [], ◌∷◌, ◌++◌, Option, Some, Result, Ok, Err, refl, sym, ◌∙◌, ap, subst}
use Rattle.std.specs.Prelude.{IsTrue}
use Rattle.hl_media.specs.declared.failed.Failed.{Failed}
use Rattle.hl_media.specs.History.{MachineState, DeviceCall, History, state_now, state_after, state_at, ended, with_calls, DidWrite}
use Rattle.hl_media.specs.History.DeviceCall.{Write, Sync}
use Rattle.hl_media.specs.Moments.{AtEach, Now, Runs}
use Rattle.hl_media.specs.Synced.{AddsSyncedWrite}
use Rattle.hl_media.proofs.Runs.{AtEach-at, AtEach-append, state_after-append, with_more, now_from, goes_on, ends_of_run}
use Rattle.hl_media.proofs.SyncedWrites.{each_synced_write}
use Rattle.hl_tree.specs.Tree.{root_alone}
use Rattle.hl_disk.specs.Stops.{StopLeaves, IsSettled}
use Rattle.hl_disk.specs.Formats.{has_synced, IsNew, Formats}
use Rattle.hl_disk.specs.Parts.{AreParts}
use Rattle.hl_disk.proofs.Exits.{after_synced, two_writes}
use Rattle.hl_disk.proofs.Founding.{Q, cleared, recorded, at_cleared, during_record, after_record, at_recorded, during_label, after_label, at_made, settled}

-- a single write has no sync
no_sync : (at : ℕ) (bytes after : List ℕ) (m : ℕ) → IsTrue (has_synced (Write at bytes after ∷ []) m) → ⊥
no_sync at bytes after zero is = cc
no_sync at bytes after (suc zero) is = cc
no_sync at bytes after (suc (suc m)) is = cc

failed_sync : (at : ℕ) (bytes after : List ℕ) (m : ℕ) → IsTrue (has_synced (Write at bytes after ∷ Sync false ∷ []) m) → ⊥
failed_sync at bytes after zero is = cc
failed_sync at bytes after (suc zero) is = cc
failed_sync at bytes after (suc (suc zero)) is = cc
failed_sync at bytes after (suc (suc (suc zero))) is = cc
failed_sync at bytes after (suc (suc (suc (suc m)))) is = cc

nothing_synced : (m : ℕ) → IsTrue (has_synced [] m) → ⊥
nothing_synced m is = cc

-- the moments behind a write and its sync
behind_first : (P : MachineState → Type 0) (s : MachineState) (at : ℕ) (bytes after : List ℕ) (rest : List DeviceCall) → AtEach P (ended (ended s (Write at bytes after)) (Sync true)) rest
    → (m : ℕ) → IsTrue (has_synced (Write at bytes after ∷ Sync true ∷ rest) m) → P (state_at s (Write at bytes after ∷ Sync true ∷ rest) m)
behind_first P s at bytes after rest each zero is = cc
behind_first P s at bytes after rest each (suc zero) is = cc
behind_first P s at bytes after rest each (suc (suc zero)) is = cc
behind_first P s at bytes after rest each (suc (suc (suc zero))) is = cc
behind_first P s at bytes after rest each (suc (suc (suc (suc m)))) is = AtEach-at P (ended (ended s (Write at bytes after)) (Sync true)) rest each m

-- the one call of a list of one
one_call : {calls : List DeviceCall} (call : DeviceCall) → (c : DeviceCall) × (calls ≡ c ∷ []) × (c ≡ call) → calls ≡ call ∷ []
one_call call given = given.1 ∙ ap (λ (c : DeviceCall). c ∷ []) given.2

module _ (before now : Option History) (at : ℕ) (bytes : List ℕ) where
  -- a synced write that failed has no sync that succeeded
  pub failed_calls : (e : Failed) (w : AddsSyncedWrite before now at bytes (Err e)) (m : ℕ) → IsTrue (has_synced (w.written ++ w.synced) m) → ⊥
  failed_calls e w m = ⊎_elim
      (λ none.
      let failed : DidWrite at bytes (Err record {}) w.written = subst (λ (x : Result (Unit {0}) Failed). DidWrite at bytes x w.written) (none.1 ∙ none.2) w.write in
      ⊎_elim
      (λ empty. never (ap (λ (l : List DeviceCall). l ++ w.synced) empty ∙ none.0) (nothing_synced m))
      (λ did. never (ap (λ (l : List DeviceCall). l ++ w.synced) (one_call (Write at bytes did.2.0) (did.0, did.1, did.2.2)) ∙ ap (λ (l : List DeviceCall). Write at bytes did.2.0 ∷ l) none.0) (no_sync at bytes did.2.0 m))
      failed)
      (λ did.
      let written : w.written ≡ Write at bytes bytes ∷ [] = one_call (Write at bytes bytes) (subst (λ (x : Result (Unit {0}) Failed). DidWrite at bytes x w.written) did.0 w.write) in
      ⊎_elim
      (λ empty. never (ap (λ (l : List DeviceCall). l ++ w.synced) written ∙ ap (λ (l : List DeviceCall). Write at bytes bytes ∷ l) empty) (no_sync at bytes bytes m))
      (λ sync. never (ap (λ (l : List DeviceCall). l ++ w.synced) written ∙ ap (λ (l : List DeviceCall). Write at bytes bytes ∷ l) (one_call (Sync false) sync)) (failed_sync at bytes bytes m))
      did.1)
      w.sync
    where
      never : {calls other : List DeviceCall} → calls ≡ other → (IsTrue (has_synced other m) → ⊥) → IsTrue (has_synced calls m) → ⊥
      never same none = subst (λ (l : List DeviceCall). IsTrue (has_synced l m) → ⊥) (sym same) none

  -- the calls of one that succeeded
  pub good_calls : (u : Unit {0}) (w : AddsSyncedWrite before now at bytes (Ok u)) → w.written ++ w.synced ≡ Write at bytes bytes ∷ Sync true ∷ []
  good_calls u w = ⊎_elim
      (λ none. let e = none.2 in cc)
      (λ did.
      let written : w.written ≡ Write at bytes bytes ∷ [] = one_call (Write at bytes bytes) (subst (λ (x : Result (Unit {0}) Failed). DidWrite at bytes x w.written) did.0 w.write) in
      ap (λ (l : List DeviceCall). l ++ w.synced) written ∙ ap (λ (l : List DeviceCall). Write at bytes bytes ∷ l) (one_call (Sync true) did.1))
      w.sync

  -- a synced write says nothing
  pub quiet : (r : Result (Unit {0}) Failed) → AddsSyncedWrite before now at bytes r → Runs before now (λ first s. s.said ≡ first.said)
  quiet r w = record {
    calls = w.written ++ w.synced;
    is = w.is;
    each = λ h e. each_synced_write before now at bytes r w (state_now h) (λ s. s.said ≡ (state_now h).said) refl refl (λ after size. refl) refl;
  }

-- and then another
pub quiet_then : (before mid now : Option History) → Runs before mid (λ first s. s.said ≡ first.said) → Runs mid now (λ first s. s.said ≡ first.said) → Runs before now (λ first s. s.said ≡ first.said)
quiet_then before mid now first next = goes_on before mid now (λ first s. s.said ≡ first.said) (λ first s. s.said ≡ first.said) (λ first s. s.said ≡ first.said)
    first (ends_of_run before mid (λ first s. s.said ≡ first.said) first) next (λ a b s e f. f ∙ e)

-- where the first write failed
pub first_failed : (blocks : ℕ) (before now : Option History) (at : ℕ) (bytes : List ℕ) (e : Failed) → AddsSyncedWrite before now at bytes (Err e) → Formats blocks before now
first_failed blocks before now at bytes e w = record {
  calls = w.written ++ w.synced;
  is = w.is;
  each = λ h told m good. absurd (failed_calls before now at bytes e w m good);
}

module _ (blocks : ℕ) (Z R L : List ℕ) (parts : AreParts blocks Z R L) (before one two three : Option History) (u : Unit {0}) (w1 : AddsSyncedWrite before one 0 Z (Ok u)) where
  -- the calls behind the zeros
  formats_by : (now : Option History) (rest : List DeviceCall) → now ≡ with_calls rest one → ((h : History) → before ≡ Some h → AtEach (Q blocks Z R L parts (state_now h)) (cleared blocks Z R L parts (state_now h)) rest) → Formats blocks before now
  formats_by now rest is each = record {
    calls = (w1.written ++ w1.synced) ++ rest;
    is = is ∙ ap (with_calls rest) w1.is ∙ with_more before (w1.written ++ w1.synced) rest;
    each = λ h e m.
        subst (λ (l : List DeviceCall). IsTrue (has_synced (l ++ rest) m) → StopLeaves blocks (IsNew blocks) (state_at (state_now h) (l ++ rest) m)) (sym (good_calls before one 0 Z u w1))
        (behind_first (StopLeaves blocks (IsNew blocks)) (state_now h) 0 Z Z rest (each h e) m);
  }

  each_record : (r : Result (Unit {0}) Failed) (w2 : AddsSyncedWrite one two 1 R r) (s : MachineState) → AtEach (Q blocks Z R L parts s) (cleared blocks Z R L parts s) (w2.written ++ w2.synced)
  each_record r w2 s = each_synced_write one two 1 R r w2 (cleared blocks Z R L parts s) (Q blocks Z R L parts s)
      (at_cleared blocks Z R L parts s) (during_record blocks Z R L parts s) (λ after size. after_record blocks Z R L parts s after) (at_recorded blocks Z R L parts s)

  pub second_formats : (r : Result (Unit {0}) Failed) → AddsSyncedWrite one two 1 R r → Formats blocks before two
  second_formats r w2 = formats_by two (w2.written ++ w2.synced) w2.is (λ h e. each_record r w2 (state_now h))

  module _ (v : Unit {0}) (w2 : AddsSyncedWrite one two 1 R (Ok v)) where
    pub last_formats : (r : Result (Unit {0}) Failed) → AddsSyncedWrite two three 0 L r → Formats blocks before three
    last_formats r w3 = formats_by three ((w2.written ++ w2.synced) ++ (w3.written ++ w3.synced)) (two_writes one two three 1 0 R L (Ok v) r w2 w3)
        (λ h e.
        let P = Q blocks Z R L parts (state_now h) in
        AtEach-append P (cleared blocks Z R L parts (state_now h)) (w2.written ++ w2.synced) (w3.written ++ w3.synced)
        (each_record (Ok v) w2 (state_now h))
        (subst (λ (x : MachineState). AtEach P x (w3.written ++ w3.synced)) (sym (after_synced one two 1 R v w2 (cleared blocks Z R L parts (state_now h))))
        (each_synced_write two three 0 L r w3 (recorded blocks Z R L parts (state_now h)) P
        (at_recorded blocks Z R L parts (state_now h)) (during_label blocks Z R L parts (state_now h)) (λ after size. after_label blocks Z R L parts (state_now h) after) (at_made blocks Z R L parts (state_now h)))))

    pub formatted : (x : Unit {0}) → AddsSyncedWrite two three 0 L (Ok x) → Now three (IsSettled blocks 1 root_alone)
    formatted x w3 =
        let rest = (w2.written ++ w2.synced) ++ (w3.written ++ w3.synced) in
        now_from before three ((w1.written ++ w1.synced) ++ rest)
        (two_writes one two three 1 0 R L (Ok v) (Ok x) w2 w3 ∙ ap (with_calls rest) w1.is ∙ with_more before (w1.written ++ w1.synced) rest)
        (λ s. Unit {0}) (IsSettled blocks 1 root_alone) (λ h e. tt)
        (λ s t.
        subst (IsSettled blocks 1 root_alone)
        (sym (state_after-append s (w1.written ++ w1.synced) rest
        ∙ ap (λ (y : MachineState). state_after y rest) (after_synced before one 0 Z u w1 s)
        ∙ state_after-append (cleared blocks Z R L parts s) (w2.written ++ w2.synced) (w3.written ++ w3.synced)
        ∙ ap (λ (y : MachineState). state_after y (w3.written ++ w3.synced)) (after_synced one two 1 R v w2 (cleared blocks Z R L parts s))
        ∙ after_synced two three 0 L x w3 (recorded blocks Z R L parts s)))
        (settled blocks Z R L parts s))
