-- From the first sync that succeeded on.
use Rattle.std.proofs.Common.{◌≡◌, ⊎_elim, ℕ, zero, suc, ◌+◌, ◌-◌, ◌*◌, ◌≤◌, ◌<◌, true, false, List, [], ◌∷◌, ◌++◌, length, take, replicate, Option, Some, Result, Ok, Err, refl, sym, ◌∙◌, ap, subst, arith}
use Rattle.std.specs.Prelude.{IfOk, IsTrue}
use Rattle.std.proofs.lemmas.List.{drop-replicate, length-replicate, take-replicate}
use Rattle.hl_addr.specs.Layout.{Layout}
use Rattle.hl_bytes.specs.Buffers.{block_of}
use Rattle.hl_bytes.specs.Fields.{zeros}
use Rattle.hl_media.specs.declared.failed.Failed.{Failed}
use Rattle.hl_media.specs.History.{DeviceCall, History, MachineState, DidWrite, ended, state_after, state_at, state_now, with_calls}
use Rattle.hl_media.specs.History.DeviceCall.{Write, Sync}
use Rattle.hl_media.specs.Moments.{AtEach, Ends, Now, Runs}
use Rattle.hl_media.specs.Synced.{AddsSyncedWrite}
use Rattle.hl_media.proofs.Runs.{AtEach-at, AtEach-map, now_is, told_before, with_more, with_none}
use Rattle.hl_mkfs.specs.declared.making.MkfsError.{MkfsError}
use Rattle.hl_mkfs.specs.Answers.{machine_of}
use Rattle.hl_mkfs.specs.Sites.{IsNoneOrNew}
use Rattle.hl_mkfs.specs.Stages.{IsBare, Leads, LeavesNoneOrNew}
use Rattle.hl_mkfs.specs.Stops.{IsMade, Makes, StopLeaves, has_synced}
use Rattle.hl_mkfs.proofs.Clearing.{bare_ends}

-- WRITES WITHOUT A SYNC THAT SUCCEEDED
no_sync : (at : ℕ) (bytes after : List ℕ) (m : ℕ) → IsTrue (has_synced (Write at bytes after ∷ []) m) → ⊥
no_sync at bytes after zero is = cc
no_sync at bytes after (suc zero) is = cc
no_sync at bytes after (suc (suc m)) is = cc

failed_sync : (at : ℕ) (bytes after : List ℕ) (m : ℕ) → IsTrue (has_synced (Write at bytes after ∷ Sync false ∷ []) m) → ⊥
failed_sync at bytes after zero is = cc
failed_sync at bytes after (suc zero) is = cc
failed_sync at bytes after (suc (suc zero)) is = cc
failed_sync at bytes after (suc (suc (suc zero))) is = cc
failed_sync at bytes after (suc (suc (suc (suc m)))) is = cc

nothing_synced : (m : ℕ) → IsTrue (has_synced [] m) → ⊥
nothing_synced m is = cc

-- the moments behind a write and its sync
behind_first : (P : MachineState → Type 0) (s : MachineState) (at : ℕ) (bytes after : List ℕ) (rest : List DeviceCall) → AtEach P (ended (ended s (Write at bytes after)) (Sync true)) rest
    → (m : ℕ) → IsTrue (has_synced (Write at bytes after ∷ Sync true ∷ rest) m) → P (state_at s (Write at bytes after ∷ Sync true ∷ rest) m)
behind_first P s at bytes after rest each zero is = cc
behind_first P s at bytes after rest each (suc zero) is = cc
behind_first P s at bytes after rest each (suc (suc zero)) is = cc
behind_first P s at bytes after rest each (suc (suc (suc zero))) is = cc
behind_first P s at bytes after rest each (suc (suc (suc (suc m)))) is = AtEach-at P (ended (ended s (Write at bytes after)) (Sync true)) rest each m

-- the one call of a list of one
one_call : {calls : List DeviceCall} (call : DeviceCall) → (c : DeviceCall) × (calls ≡ c ∷ []) × (c ≡ call) → calls ≡ call ∷ []
one_call call given = given.1 ∙ ap (λ (c : DeviceCall). c ∷ []) given.2

module _ (before now : Option History) (at : ℕ) (bytes : List ℕ) where
  -- a synced write that failed has no sync that succeeded
  failed_calls : (e : Failed) (w : AddsSyncedWrite before now at bytes (Err e)) (m : ℕ) → IsTrue (has_synced (w.written ++ w.synced) m) → ⊥
  failed_calls e w m = ⊎_elim
      (λ none.
      let failed : DidWrite at bytes (Err record {}) w.written = subst (λ (x : Result (Unit {0}) Failed). DidWrite at bytes x w.written) (none.1 ∙ none.2) w.write in
      ⊎_elim
      (λ empty. never (ap (λ (l : List DeviceCall). l ++ w.synced) empty ∙ none.0) (nothing_synced m))
      (λ did. never (ap (λ (l : List DeviceCall). l ++ w.synced) (one_call (Write at bytes did.2.0) (did.0, did.1, did.2.2)) ∙ ap (λ (l : List DeviceCall). Write at bytes did.2.0 ∷ l) none.0) (no_sync at bytes did.2.0 m))
      failed)
      (λ did.
      let written : w.written ≡ Write at bytes bytes ∷ [] = one_call (Write at bytes bytes) (subst (λ (x : Result (Unit {0}) Failed). DidWrite at bytes x w.written) did.0 w.write) in
      ⊎_elim
      (λ empty. never (ap (λ (l : List DeviceCall). l ++ w.synced) written ∙ ap (λ (l : List DeviceCall). Write at bytes bytes ∷ l) empty) (no_sync at bytes bytes m))
      (λ sync. never (ap (λ (l : List DeviceCall). l ++ w.synced) written ∙ ap (λ (l : List DeviceCall). Write at bytes bytes ∷ l) (one_call (Sync false) sync)) (failed_sync at bytes bytes m))
      did.1)
      w.sync
    where
      never : {calls other : List DeviceCall} → calls ≡ other → (IsTrue (has_synced other m) → ⊥) → IsTrue (has_synced calls m) → ⊥
      never same none = subst (λ (l : List DeviceCall). IsTrue (has_synced l m) → ⊥) (sym same) none

  -- the calls of one that succeeded
  good_calls : (u : Unit {0}) (w : AddsSyncedWrite before now at bytes (Ok u)) → w.written ++ w.synced ≡ Write at bytes bytes ∷ Sync true ∷ []
  good_calls u w = ⊎_elim
      (λ none. let e = none.2 in cc)
      (λ did.
      let written : w.written ≡ Write at bytes bytes ∷ [] = one_call (Write at bytes bytes) (subst (λ (x : Result (Unit {0}) Failed). DidWrite at bytes x w.written) did.0 w.write) in
      ap (λ (l : List DeviceCall). l ++ w.synced) written ∙ ap (λ (l : List DeviceCall). Write at bytes bytes ∷ l) (one_call (Sync true) did.1))
      w.sync

module _ (blocks : ℕ) (g : Layout) (before : Option History) where
  -- where nothing was done
  pub none_made : (now : Option History) → now ≡ before → Makes blocks g before now
  none_made now same = record { calls = []; is = same ∙ with_none before; each = λ h e m good. absurd (nothing_synced m good) }

  -- where the first write failed
  pub first_failed : (now : Option History) (at : ℕ) (bytes : List ℕ) (e : Failed) → AddsSyncedWrite before now at bytes (Err e) → Makes blocks g before now
  first_failed now at bytes e w = record {
    calls = w.written ++ w.synced;
    is = w.is;
    each = λ h told m good. absurd (failed_calls before now at bytes e w m good);
  }

  module _ (one : Option History) (Z : List ℕ) (size : length Z ≡ 12288) (zero : (k : ℕ) → k < 3 → block_of Z k ≡ zeros 4096) (u : Unit {0}) (w : AddsSyncedWrite before one 0 Z (Ok u)) where
    bare : Ends before one (λ first s. IsBare s)
    bare = bare_ends Z size zero before one (Ok u) w

    abbrev Q : MachineState → Type 0
    Q = StopLeaves blocks g (IsNoneOrNew blocks g)

    module _ (now : Option History) (run : Runs one now (LeavesNoneOrNew IsBare blocks g)) where
      each_behind : (h : History) → before ≡ Some h → AtEach Q (ended (ended (state_now h) (Write 0 Z Z)) (Sync true)) run.calls
      each_behind h e =
          let first : List DeviceCall = w.written ++ w.synced in
          let h1 : History = record { opening = h.opening; calls = h.calls ++ first } in
          let told : one ≡ Some h1 = w.is ∙ ap (with_calls first) e in
          let moved : state_now h1 ≡ ended (ended (state_now h) (Write 0 Z Z)) (Sync true) = now_is h h1 first refl ∙ ap (state_after (state_now h)) (good_calls before one 0 Z u w) in
          subst (λ (s : MachineState). AtEach Q s run.calls) moved
          (AtEach-map (LeavesNoneOrNew IsBare blocks g (state_now h1)) Q (λ s leaves. leaves (bare h e h1 told)) (state_now h1) run.calls (run.each h1 told))

      -- the calls behind the zeros
      pub makes : Makes blocks g before now
      makes = record {
        calls = (w.written ++ w.synced) ++ run.calls;
        is = run.is ∙ ap (with_calls run.calls) w.is ∙ with_more before (w.written ++ w.synced) run.calls;
        each = λ h e m.
            subst (λ (l : List DeviceCall). IsTrue (has_synced (l ++ run.calls) m) → Q (state_at (state_now h) (l ++ run.calls) m)) (sym (good_calls before one 0 Z u w))
            (behind_first Q (state_now h) 0 Z Z run.calls (each_behind h e) m);
      }

      -- and their end
      pub made_now : Ends one now (Leads IsBare (IsMade blocks g)) → Now now (IsMade blocks g)
      made_now made h' e' =
          let t1 = told_before one run.calls h' (sym run.is ∙ e') in
          let t0 = told_before before (w.written ++ w.synced) t1.0 (sym w.is ∙ t1.1) in
          made t1.0 t1.1 h' e' (bare t0.0 t0.1 t1.0 t1.1)

    pub if_made : {M : Type 0} (history : M → Option History) (count : M → ℕ) (r : Result M (MkfsError × M)) → count (machine_of r) ≡ blocks → Runs one (history (machine_of r)) (LeavesNoneOrNew IsBare blocks g)
        → IfOk r (λ m. Ends one (history m) (Leads IsBare (IsMade blocks g))) → IfOk r (λ m. Now (history m) (IsMade (count m) g))
    if_made history count (Ok m) same run made = subst (λ (n : ℕ). Now (history m) (IsMade n g)) (sym same) (made_now (history m) run made)
    if_made history count (Err e) same run made = tt

-- blocks of zeros
pub zero_block : (n k : ℕ) → 4096 * k + 4096 ≤ n → block_of (replicate n 0) k ≡ zeros 4096
unfolding block_of zeros
zero_block n k le = ap (take 4096) (drop-replicate (4096 * k) n 0) ∙ take-replicate 4096 (n - 4096 * k) 0 (omega arith)

pub zero_blocks : (n : ℕ) → n ≡ 12288 → (Z : List ℕ) → Z ≡ replicate n 0 → (length Z ≡ 12288) × ((k : ℕ) → k < 3 → block_of Z k ≡ zeros 4096)
zero_blocks n size Z is = (ap (λ (l : List ℕ). length l) is ∙ length-replicate n 0 ∙ size, λ k lt. ap (λ (l : List ℕ). block_of l k) is ∙ zero_block n k (omega arith))
