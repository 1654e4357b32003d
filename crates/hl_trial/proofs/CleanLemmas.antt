-- Clean segments of a trial, which are found in ascending order.
use Rattle.std.proofs.Common.{◌≡◌, ◌≢◌, inl, inr, sym, subst, ℕ, zero, suc, ◌+◌, ◌<◌, ◌≤◌, List, [], ◌∷◌, ◌++◌, length, arith}
use Rattle.std.specs.Prelude.{Contains}
use Rattle.std.proofs.lemmas.List.{length-append}
use Rattle.std.proofs.lemmas.List.Elements.{Contains-push_cases}
use Rattle.hl_addr.specs.Layout.{Layout}
use Rattle.hl_log.specs.Free.{AreClean, Once}
use Rattle.hl_trial.specs.Parts.{AreCleanTo}

later : (x c : ℕ) (xs : List ℕ) → Contains xs c → Contains (x ∷ xs) c
later x c xs (k, lt, e) = (suc k, omega arith, e)

first : (x c : ℕ) (xs : List ℕ) → x ≡ c → Contains (x ∷ xs) c
first x c xs e = (zero, omega arith, e)

-- a number that isn't there may be pushed
pub once_push : (xs : List ℕ) (x : ℕ) → Once xs → (Contains xs x → ⊥) → Once (xs ++ x ∷ [])
once_push [] x once new = ((λ (k, lt, e). omega arith), tt)
once_push (y ∷ ys) x once new = (apart, once_push ys x once.1 (λ i. new (later y x ys i))) where
  apart : Contains (ys ++ x ∷ []) y → ⊥
  apart i = elim (Contains-push_cases ys x y i) [
    | inl old ↦ once.0 old
    | inr same ↦ new (first y x ys (sym same))
  ]

-- a segment behind all others is clean too
pub clean_push : (head end : ℕ) (clean : List ℕ) → 1 ≤ end → end ≢ head → AreCleanTo head end clean → AreCleanTo head (end + 1) (clean ++ end ∷ [])
clean_push head end clean low ne are = record { within = within; once = once_push clean end are.once (λ i. not_there (are.within end i)); apart = apart; few = few } where
  not_there : (1 ≤ end) × (end < end) → ⊥
  not_there (a, b) = omega arith

  widened : (c : ℕ) → (1 ≤ c) × (c < end) → (1 ≤ c) × (c < end + 1)
  widened c (a, b) = (a, omega arith)

  within : (c : ℕ) → Contains (clean ++ end ∷ []) c → (1 ≤ c) × (c < end + 1)
  within c i = elim (Contains-push_cases clean end c i) [
    | inl old ↦ widened c (are.within c old)
    | inr same ↦ (subst (λ (n : ℕ). 1 ≤ n) same low, omega arith)
  ]

  apart : Contains (clean ++ end ∷ []) head → ⊥
  apart i = elim (Contains-push_cases clean end head i) [
    | inl old ↦ are.apart old
    | inr same ↦ ne same
  ]

  few : length (clean ++ end ∷ []) ≤ end + 1
  few = let old = are.few in let n = length-append clean (end ∷ []) in omega arith

-- one may be left out
pub clean_skip : (head end : ℕ) (clean : List ℕ) → AreCleanTo head end clean → AreCleanTo head (end + 1) clean
clean_skip head end clean are = record { within = λ c i. widened c (are.within c i); once = are.once; apart = are.apart; few = let old = are.few in omega arith } where
  widened : (c : ℕ) → (1 ≤ c) × (c < end) → (1 ≤ c) × (c < end + 1)
  widened c (a, b) = (a, omega arith)

-- none is clean before the first
pub clean_none : (head : ℕ) → AreCleanTo head 1 []
clean_none head = record { within = λ c (k, lt, e). absurd (omega arith); once = tt; apart = λ (k, lt, e). omega arith; few = omega arith }

-- all of the log's are found
pub clean_all : (g : Layout) (head : ℕ) (clean : List ℕ) → AreCleanTo head (g.log + 1) clean → AreClean g head clean
clean_all g head clean are = record { in_log = λ c i. widened c (are.within c i); once = are.once; apart = are.apart } where
  widened : (c : ℕ) → (1 ≤ c) × (c < g.log + 1) → (1 ≤ c) × (c ≤ g.log)
  widened c (a, b) = (a, omega arith)
