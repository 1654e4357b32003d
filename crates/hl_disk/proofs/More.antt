-- Making a disk, and then calls that leave it as it is.
use Rattle.std.proofs.Common.{◌≡◌, inl, inr, ℕ, zero, suc, ◌+◌, ◌-◌, ◌*◌, ◌≤◌, true, false, List, [], ◌∷◌, ◌++◌, length, Option, refl, sym, ◌∙◌, ap, subst, arith}
use Rattle.std.specs.Prelude.{IsTrue}
use Rattle.std.proofs.lemmas.Bool.{cases_lt}
use Rattle.hl_media.specs.History.{MachineState, DeviceCall, History, state_now, state_at, with_calls}
use Rattle.hl_media.specs.History.DeviceCall.{Read, Write, Sync, Say}
use Rattle.hl_media.specs.Moments.{AtEach, Now, Runs}
use Rattle.hl_media.proofs.Runs.{AtEach-at, state_at-before, state_at-since, with_more, now_is}
use Rattle.hl_tree.specs.Tree.{root_alone}
use Rattle.hl_disk.specs.Stops.{StopLeaves, IsSettled}
use Rattle.hl_disk.specs.Formats.{has_synced, IsNew, Formats}
use Rattle.hl_disk.proofs.Settled.{settled_leaves}

-- whether a sync has succeeded by a moment doesn't hang on later calls
synced-before : (xs ys : List DeviceCall) (m : ℕ) → m ≤ 2 * length xs → IsTrue (has_synced (xs ++ ys) m) → IsTrue (has_synced xs m)
synced-before [] [] m le is = is
synced-before [] (y ∷ ys) zero le is = cc
synced-before [] (y ∷ ys) (suc m) le is = absurd (omega arith)
synced-before (x ∷ xs) ys zero le is = cc
synced-before (x ∷ xs) ys (suc zero) le is = cc
synced-before (Sync true ∷ xs) ys (suc (suc m)) le is = is
synced-before (Sync false ∷ xs) ys (suc (suc m)) le is = synced-before xs ys m (omega arith) is
synced-before (Read ∷ xs) ys (suc (suc m)) le is = synced-before xs ys m (omega arith) is
synced-before (Write at bytes after ∷ xs) ys (suc (suc m)) le is = synced-before xs ys m (omega arith) is
synced-before (Say bytes ∷ xs) ys (suc (suc m)) le is = synced-before xs ys m (omega arith) is

-- what has the content and the pending writes of a disk that was made
settled_new : (blocks : ℕ) (m s : MachineState) → IsSettled blocks 1 root_alone m → (s.content ≡ m.content) × (s.pending ≡ m.pending) → StopLeaves blocks (IsNew blocks) s
settled_new blocks m s settled same image may chance = inr (settled_leaves blocks 1 root_alone m s settled same.0 same.1 image may chance)

pub formats_more : (blocks : ℕ) (before mid now : Option History) → Formats blocks before mid → Now mid (IsSettled blocks 1 root_alone)
    → Runs mid now (λ m s. (s.content ≡ m.content) × (s.pending ≡ m.pending)) → Formats blocks before now
formats_more blocks before mid now made settled run = record {
  calls = made.calls ++ run.calls;
  is = run.is ∙ ap (with_calls run.calls) made.is ∙ with_more before made.calls run.calls;
  each = λ h e m good. elim (cases_lt (2 * length made.calls) m) [
    | inl later ↦
        (let h' : History = record { opening = h.opening; calls = h.calls ++ made.calls } in
        let told = made.is ∙ ap (with_calls made.calls) e in
        let k = m - 2 * length made.calls in
        let splits : m ≡ k + 2 * length made.calls = omega (arith, later) in
        let moved = now_is h h' made.calls refl in
        let each : AtEach (λ s. (s.content ≡ (state_now h').content) × (s.pending ≡ (state_now h').pending)) (state_now h') run.calls = run.each h' told in
        let here = AtEach-at (λ s. (s.content ≡ (state_now h').content) × (s.pending ≡ (state_now h').pending)) (state_now h') run.calls each k in
        let there : state_at (state_now h) (made.calls ++ run.calls) m ≡ state_at (state_now h') run.calls k =
        ap (state_at (state_now h) (made.calls ++ run.calls)) splits ∙ state_at-since (state_now h) made.calls run.calls k ∙ ap (λ (s : MachineState). state_at s run.calls k) (sym moved) in
        subst (StopLeaves blocks (IsNew blocks)) (sym there) (settled_new blocks (state_now h') (state_at (state_now h') run.calls k) (settled h' told) here))
    | inr earlier ↦ subst (StopLeaves blocks (IsNew blocks)) (sym (state_at-before (state_now h) made.calls run.calls m earlier)) (made.each h e m (synced-before made.calls run.calls m earlier good))
  ];
}
