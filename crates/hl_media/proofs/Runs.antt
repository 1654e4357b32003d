-- How runs of device calls are put together.
use Rattle.std.proofs.Common.{◌≡◌, ⊎_elim, ℕ, zero, suc, ◌+◌, ◌-◌, ◌*◌, ◌≤◌, true, false, List, [], ◌∷◌, ◌++◌, length, take, Option, Some, None, Result, Ok, Err, refl, sym, ◌∙◌, ap, subst, arith, append_assoc}
use Rattle.std.proofs.lemmas.List.{append-nil}
use Rattle.hl_media.specs.declared.failed.Failed.{Failed}
use Rattle.hl_media.specs.History.{DeviceCall, MachineState, begun, ended, state_after, state_at, History, opened, state_now, at_moment, moment, with_calls, Adds, DidRead, DidWrite, DidSync, DidSay}
use Rattle.hl_media.specs.History.DeviceCall.{Read, Write, Sync, Say}
use Rattle.hl_media.specs.Moments.{AtEach, Now, Runs, Ends, AtEachMomentSince}

pub state_after-append : (s : MachineState) (xs ys : List DeviceCall) → state_after s (xs ++ ys) ≡ state_after (state_after s xs) ys
state_after-append s [] ys = refl
state_after-append s (x ∷ xs) ys = state_after-append (ended s x) xs ys

-- later calls change nothing at an earlier moment
pub state_at-before : (s : MachineState) (xs ys : List DeviceCall) (m : ℕ) → m ≤ 2 * length xs → state_at s (xs ++ ys) m ≡ state_at s xs m
state_at-before s [] [] m le = refl
state_at-before s [] (y ∷ ys) zero le = refl
state_at-before s [] (y ∷ ys) (suc m) le = absurd (omega arith)
state_at-before s (x ∷ xs) ys zero le = refl
state_at-before s (x ∷ xs) ys (suc zero) le = refl
state_at-before s (x ∷ xs) ys (suc (suc m)) le = state_at-before (ended s x) xs ys m (omega arith)

-- the moments of later calls
pub state_at-since : (s : MachineState) (xs ys : List DeviceCall) (m : ℕ) → state_at s (xs ++ ys) (m + 2 * length xs) ≡ state_at (state_after s xs) ys m
state_at-since s [] ys m = let e : m + 2 * 0 ≡ m = omega arith in rw e
state_at-since s (x ∷ xs) ys m =
    let e : m + 2 * length (x ∷ xs) ≡ suc (suc (m + 2 * length xs)) = omega arith in
    rw e (state_at-since (ended s x) xs ys m)

-- what the calls of one device call may be
one : {calls : List DeviceCall} (call : DeviceCall) (given : (c : DeviceCall) × (calls ≡ c ∷ []) × (c ≡ call)) → calls ≡ call ∷ []
one call given = given.1 ∙ ap (λ (c : DeviceCall). c ∷ []) given.2

module _ (P : MachineState → Type 0) where
  pub AtEach-at : (s : MachineState) (calls : List DeviceCall) → AtEach P s calls → (m : ℕ) → P (state_at s calls m)
  AtEach-at s [] each m = each
  AtEach-at s (c ∷ calls) each zero = each.0
  AtEach-at s (c ∷ calls) each (suc zero) = each.1
  AtEach-at s (c ∷ calls) each (suc (suc m)) = AtEach-at (ended s c) calls each.2 m

  pub AtEach-last : (s : MachineState) (calls : List DeviceCall) → AtEach P s calls → P (state_after s calls)
  AtEach-last s [] each = each
  AtEach-last s (c ∷ calls) each = AtEach-last (ended s c) calls each.2

  pub AtEach-append : (s : MachineState) (xs ys : List DeviceCall) → AtEach P s xs → AtEach P (state_after s xs) ys → AtEach P s (xs ++ ys)
  AtEach-append s [] ys each more = more
  AtEach-append s (x ∷ xs) ys each more = (each.0, each.1, AtEach-append (ended s x) xs ys each.2 more)

  -- what one call may leave, whatever it answers
  pub each_read : (s : MachineState) (result : Result (Unit {0}) Failed) (calls : List DeviceCall) → DidRead result calls → P s → AtEach P s calls
  each_read s (Ok u) calls did here = subst (AtEach P s) (sym (one Read did)) (here, here, here)
  each_read s (Err e) calls did here = ⊎_elim (λ none. subst (AtEach P s) (sym none) here) (λ did. subst (AtEach P s) (sym (one Read did)) (here, here, here)) did

  pub each_write : (s : MachineState) (at : ℕ) (bytes : List ℕ) (result : Result (Unit {0}) Failed) (calls : List DeviceCall) → DidWrite at bytes result calls
      → P s → P (begun s (Write at bytes [])) → ((after : List ℕ) → length after ≡ length bytes → P (ended s (Write at bytes after))) → AtEach P s calls
  each_write s at bytes (Ok u) calls did here during after = subst (AtEach P s) (sym (one (Write at bytes bytes) did)) (here, during, after bytes refl)
  each_write s at bytes (Err e) calls did here during after = ⊎_elim
      (λ none. subst (AtEach P s) (sym none) here)
      (λ did. subst (AtEach P s) (sym (one (Write at bytes did.2.0) (did.0, did.1, did.2.2))) (here, during, after did.2.0 did.2.1)) did

  pub each_sync : (s : MachineState) (result : Result (Unit {0}) Failed) (calls : List DeviceCall) → DidSync result calls → P s → P (ended s (Sync true)) → AtEach P s calls
  each_sync s (Ok u) calls did here after = subst (AtEach P s) (sym (one (Sync true) did)) (here, here, after)
  each_sync s (Err e) calls did here after = ⊎_elim (λ none. subst (AtEach P s) (sym none) here) (λ did. subst (AtEach P s) (sym (one (Sync false) did)) (here, here, here)) did

  pub each_say : (s : MachineState) (bytes : List ℕ) (result : Result (Unit {0}) Failed) (calls : List DeviceCall) → DidSay bytes result calls
      → P s → P (ended s (Say bytes)) → ((n : ℕ) → P (ended s (Say (take n bytes)))) → AtEach P s calls
  each_say s bytes (Ok u) calls did here after part = subst (AtEach P s) (sym (one (Say bytes) did)) (here, here, after)
  each_say s bytes (Err e) calls did here after part = ⊎_elim
      (λ none. subst (AtEach P s) (sym none) here)
      (λ did. subst (AtEach P s) (sym (one (Say (take did.2.0 bytes)) (did.0, did.1, did.2.1))) (here, here, part did.2.0)) did

-- a weaker fact of each moment
pub AtEach-map : (P Q : MachineState → Type 0) → ((s : MachineState) → P s → Q s) → (s : MachineState) (calls : List DeviceCall) → AtEach P s calls → AtEach Q s calls
AtEach-map P Q weaker s [] each = weaker s each
AtEach-map P Q weaker s (c ∷ calls) each = (weaker s each.0, weaker _ each.1, AtEach-map P Q weaker (ended s c) calls each.2)

-- what one call leaves where it succeeds
pub after_write : (s : MachineState) (at : ℕ) (bytes : List ℕ) (calls : List DeviceCall) (u : Unit {0}) → DidWrite at bytes (Ok u) calls → state_after s calls ≡ ended s (Write at bytes bytes)
after_write s at bytes calls u did = ap (state_after s) (one (Write at bytes bytes) did)

pub after_sync : (s : MachineState) (calls : List DeviceCall) (u : Unit {0}) → DidSync (Ok u) calls → state_after s calls ≡ ended s (Sync true)
after_sync s calls u did = ap (state_after s) (one (Sync true) did)

pub after_say : (s : MachineState) (bytes : List ℕ) (calls : List DeviceCall) (u : Unit {0}) → DidSay bytes (Ok u) calls → state_after s calls ≡ ended s (Say bytes)
after_say s bytes calls u did = ap (state_after s) (one (Say bytes) did)

-- what is told of a history before calls that it tells
pub told_before : (before : Option History) (calls : List DeviceCall) (h' : History) → with_calls calls before ≡ Some h'
    → (h : History) × (before ≡ Some h) × (h' ≡ record { opening = h.opening; calls = h.calls ++ calls })
told_before None calls h' e = cc
told_before (Some h) calls h' e = (h, refl, cc)

pub now_is : (h h' : History) (calls : List DeviceCall) → h' ≡ record { opening = h.opening; calls = h.calls ++ calls } → state_now h' ≡ state_after (state_now h) calls
now_is h h' calls e = ap state_now e ∙ state_after-append (opened h) h.calls calls

pub with_none : (before : Option History) → before ≡ with_calls [] before
with_none None = refl
with_none (Some h) = ap (λ (calls : List DeviceCall). Some (record { opening = h.opening; calls = calls })) (sym (append-nil h.calls))

pub with_more : (before : Option History) (xs ys : List DeviceCall) → with_calls ys (with_calls xs before) ≡ with_calls (xs ++ ys) before
with_more None xs ys = refl
with_more (Some h) xs ys = ap (λ (calls : List DeviceCall). Some (record { opening = h.opening; calls = calls })) (append_assoc h.calls xs ys)

-- one call's calls, behind those so far
pub then_adds : {Did : List DeviceCall → Type 0} (before mid now : Option History) (xs : List DeviceCall) → mid ≡ with_calls xs before → (adds : Adds mid now Did) → now ≡ with_calls (xs ++ adds.calls) before
then_adds before mid now xs so_far adds = adds.is ∙ ap (with_calls adds.calls) so_far ∙ with_more before xs adds.calls

-- a fact of what holds now, from the calls since a moment of which it is known
pub now_from : (before now : Option History) (calls : List DeviceCall) → now ≡ with_calls calls before → (A B : MachineState → Type 0) → Now before A
    → ((s : MachineState) → A s → B (state_after s calls)) → Now now B
now_from before now calls is A B holds step h' e' =
    let told = told_before before calls h' (sym is ∙ e') in
    subst B (sym (now_is told.0 h' calls told.2)) (step (state_now told.0) (holds told.0 told.1))

-- the same beside the first moment
pub ends_from : (before now : Option History) (calls : List DeviceCall) → now ≡ with_calls calls before → (B : MachineState → MachineState → Type 0)
    → Now before (λ s. B s (state_after s calls)) → Ends before now B
ends_from before now calls is B holds h e h' e' =
    let both : Some h' ≡ with_calls calls (Some h) = sym e' ∙ is ∙ ap (with_calls calls) e in
    let same : h' ≡ record { opening = h.opening; calls = h.calls ++ calls } = cc in
    subst (B (state_now h)) (sym (now_is h h' calls same)) (holds h e)

-- before the first call
pub starts : (before : Option History) (P : MachineState → MachineState → Type 0) → Now before (λ s. P s s) → Runs before before P
starts before P holds = record { calls = []; is = with_none before; each = holds }

-- a run, and then another
pub goes_on : (before mid now : Option History) (P Q B : MachineState → MachineState → Type 0) → Runs before mid P → Ends before mid B → Runs mid now Q
    → ((first middle s : MachineState) → B first middle → Q middle s → P first s) → Runs before now P
goes_on before mid now P Q B so_far ends next step = record {
  calls = so_far.calls ++ next.calls;
  is = next.is ∙ ap (with_calls next.calls) so_far.is ∙ with_more before so_far.calls next.calls;
  each = λ h e.
      let h' : History = record { opening = h.opening; calls = h.calls ++ so_far.calls } in
      let told : mid ≡ Some h' = so_far.is ∙ ap (with_calls so_far.calls) e in
      let moved = now_is h h' so_far.calls refl in
      let more = AtEach-map (Q (state_now h')) (P (state_now h)) (λ s q. step (state_now h) (state_now h') s (ends h e h' told) q) (state_now h') next.calls (next.each h' told) in
      AtEach-append (P (state_now h)) (state_now h) so_far.calls next.calls (so_far.each h e)
      (subst (λ (s : MachineState). AtEach (P (state_now h)) s next.calls) moved more);
}

-- at each moment, as a number
pub at_each_moment : (before now : Option History) (P : MachineState → MachineState → Type 0) → Runs before now P → AtEachMomentSince before now P
at_each_moment before now P run h e h' e' m later =
    let both : Some h' ≡ with_calls run.calls (Some h) = sym e' ∙ run.is ∙ ap (with_calls run.calls) e in
    let same : h' ≡ record { opening = h.opening; calls = h.calls ++ run.calls } = cc in
    let Q = P (state_now h) in
    let k = m - moment h in
    let splits : m ≡ k + 2 * length h.calls = omega arith in
    let here = AtEach-at Q (state_now h) run.calls (run.each h e) k in
    let there : Q (state_at (opened h) (h.calls ++ run.calls) (k + 2 * length h.calls)) = subst Q (sym (state_at-since (opened h) h.calls run.calls k)) here in
    subst (λ (x : History). Q (at_moment x m)) (sym same)
    (subst (λ (n : ℕ). Q (state_at (opened h) (h.calls ++ run.calls) n)) (sym splits) there)

-- no call changes what holds of an earlier moment
pub earlier : (before now : Option History) (calls : List DeviceCall) → now ≡ with_calls calls before → (h h' : History) → before ≡ Some h → now ≡ Some h'
    → (m : ℕ) → m ≤ moment h → at_moment h' m ≡ at_moment h m
earlier before now calls is h h' e e' m le =
    let both : Some h' ≡ with_calls calls (Some h) = sym e' ∙ is ∙ ap (with_calls calls) e in
    let same : h' ≡ record { opening = h.opening; calls = h.calls ++ calls } = cc in
    ap (λ (x : History). at_moment x m) same ∙ state_at-before (opened h) h.calls calls m le

-- what holds of each moment of a run holds of its last
pub ends_of_run : (before now : Option History) (P : MachineState → MachineState → Type 0) → Runs before now P → Ends before now P
ends_of_run before now P run = ends_from before now run.calls run.is P (λ h e. AtEach-last (P (state_now h)) (state_now h) run.calls (run.each h e))

-- first to middle, and middle to last
pub ends_then : (first middle last : Option History) (calls : List DeviceCall) → last ≡ with_calls calls middle → (B Q C : MachineState → MachineState → Type 0)
    → Ends first middle B → Ends middle last Q → ((a m s : MachineState) → B a m → Q m s → C a s) → Ends first last C
ends_then first middle last calls is B Q C ends more step h e h' e' =
    let told = told_before middle calls h' (sym is ∙ e') in
    step (state_now h) (state_now told.0) (state_now h') (ends h e told.0 told.1) (more told.0 told.1 h' e')
