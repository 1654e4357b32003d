-- The order of clean lines as lines change.
use Rattle.std.proofs.Common.{arith, ◌≡◌, ◌≢◌, ℕ, ◌<◌, Bool, true, false, ◌||◌, cond, not, nat_eq, List, [], ◌∷◌, ◌++◌, get_or, set, length, Option, Some, None, refl, ap, ◌∙◌, sym, subst, T, inl, inr}
use Rattle.std.proofs.lemmas.Bool.Decides.{nat_tests}
use Rattle.std.specs.List.{fold}
use Rattle.hl_model.specs.Cache.{AreCleanLines, AreOnce, IsOrder}
use Rattle.hl_lines.specs.declared.state.LineState.{LineState}
use Rattle.hl_lines.specs.declared.state.LineState.TheVariants.{Empty}
use Rattle.hl_lines.specs.Lines.{all_but, is_clean, used, touched}
use Rattle.hl_model.specs.Lines.{among}
use Rattle.hl_model.proofs.Sets.{at_set, set_either, true_false}

-- NUMBERS IN A LIST

or_case : (a b c : Bool) → (a || b) ≡ true → (b ≡ true → c ≡ true) → (a || c) ≡ true
or_case true b c e f = refl
or_case false b c e f = f e

or_right : (a b : Bool) → (a || b) ≡ false → b ≡ false
or_right true b e = absurd (subst T e tt)
or_right false b e = e

or_left : (a b : Bool) → (a || b) ≡ false → a ≡ false
or_left true b e = e
or_left false b e = refl

or_no : (a b : Bool) → a ≡ false → b ≡ false → (a || b) ≡ false
or_no true b e f = e
or_no false b e f = f

or_yes : (a b : Bool) → b ≡ true → (a || b) ≡ true
or_yes true b e = refl
or_yes false b e = e

nat_same : (m n : ℕ) → nat_eq m n ≡ true → m ≡ n
nat_same m n e = grind (arith, nat_tests)

nat_differ : (m n : ℕ) → m ≢ n → nat_eq m n ≡ false
nat_differ m n e = grind (arith, nat_tests)

pub among-kept : (n m : ℕ) (ns : List ℕ) → m ≢ n → among m ns ≡ true → among m (all_but n ns) ≡ true
among-kept n m [] differ e = e
among-kept n m (x ∷ xs) differ e = elim (nat_eq x n) as (λ b. nat_eq x n ≡ b → among m (cond (not b) (x ∷ all_but n xs) (all_but n xs)) ≡ true) [
  | true ↦ λ same. let no : nat_eq x m ≡ false = nat_differ x m (λ f. differ (sym f ∙ nat_same x n same)) in among-kept n m xs differ (subst (λ b. (b || among m xs) ≡ true) no e)
  | false ↦ λ other. or_case (nat_eq x m) (among m xs) (among m (all_but n xs)) e (among-kept n m xs differ)
] refl

pub among-gone : (n m : ℕ) (ns : List ℕ) → among m ns ≡ false → among m (all_but n ns) ≡ false
among-gone n m [] e = e
among-gone n m (x ∷ xs) e = elim (nat_eq x n) as (λ b. among m (cond (not b) (x ∷ all_but n xs) (all_but n xs)) ≡ false) [
  | true ↦ among-gone n m xs (or_right (nat_eq x m) _ e)
  | false ↦ or_no (nat_eq x m) _ (or_left (nat_eq x m) _ e) (among-gone n m xs (or_right (nat_eq x m) _ e))
]

pub among-itself : (n : ℕ) (ns : List ℕ) → among n (all_but n ns) ≡ false
among-itself n [] = refl
among-itself n (x ∷ xs) = elim (nat_eq x n) as (λ b. nat_eq x n ≡ b → among n (cond (not b) (x ∷ all_but n xs) (all_but n xs)) ≡ false) [
  | true ↦ λ e. among-itself n xs
  | false ↦ λ e. or_no (nat_eq x n) _ e (among-itself n xs)
] refl

pub among-before : (n m : ℕ) (ns : List ℕ) → among m ns ≡ true → among m (ns ++ n ∷ []) ≡ true
among-before n m [] e = or_yes (nat_eq n m) false e
among-before n m (x ∷ xs) e = or_case (nat_eq x m) (among m xs) _ e (among-before n m xs)

pub among-last : (n : ℕ) (ns : List ℕ) → among n (ns ++ n ∷ []) ≡ true
among-last n [] = let same : nat_eq n n ≡ true = grind (arith, nat_tests) in ap (λ b. b || false) same
among-last n (x ∷ xs) = or_yes (nat_eq x n) _ (among-last n xs)

among-more : (n m : ℕ) (ns : List ℕ) → m ≢ n → among m ns ≡ false → among m (ns ++ n ∷ []) ≡ false
among-more n m [] differ e = or_no (nat_eq n m) false (nat_differ n m (λ f. differ (sym f))) refl
among-more n m (x ∷ xs) differ e = or_no (nat_eq x m) _ (or_left (nat_eq x m) _ e) (among-more n m xs differ (or_right (nat_eq x m) _ e))

once-all_but : (n : ℕ) (ns : List ℕ) → AreOnce ns → AreOnce (all_but n ns)
once-all_but n [] once = tt
once-all_but n (x ∷ xs) once = elim (not (nat_eq x n)) as (λ b. AreOnce (cond b (x ∷ all_but n xs) (all_but n xs))) [
  | true ↦ (among-gone n x xs once.0, once-all_but n xs once.1)
  | false ↦ once-all_but n xs once.1
]

once-push : (n : ℕ) (ns : List ℕ) → AreOnce ns → among n ns ≡ false → AreOnce (ns ++ n ∷ [])
once-push n [] once new = (refl, tt)
once-push n (x ∷ xs) once new = (
  among-more n x xs (λ e. true_false (nat_eq x n) (let same : nat_eq n n ≡ true = grind (arith, nat_tests) in ap (λ m. nat_eq m n) e ∙ same) (or_left (nat_eq x n) _ new)) once.0,
  once-push n xs once.1 (or_right (nat_eq x n) _ new),
)

once-used : (n : ℕ) (ns : List ℕ) → AreOnce ns → AreOnce (used n ns)
once-used n ns once = once-push n (all_but n ns) (once-all_but n ns once) (among-itself n ns)

-- CLEAN LINES

module _ (lines : List LineState) where
  clean-all_but : (n : ℕ) (order : List ℕ) → AreCleanLines lines order → AreCleanLines lines (all_but n order)
  clean-all_but n [] are = tt
  clean-all_but n (m ∷ order) are = elim (not (nat_eq m n)) as (λ b. AreCleanLines lines (cond b (m ∷ all_but n order) (all_but n order))) [
    | true ↦ (are.0, clean-all_but n order are.1)
    | false ↦ clean-all_but n order are.1
  ]

  clean-push : (n : ℕ) (order : List ℕ) → AreCleanLines lines order → is_clean (get_or lines n Empty) ≡ true → AreCleanLines lines (order ++ n ∷ [])
  clean-push n [] are clean = (clean, tt)
  clean-push n (m ∷ order) are clean = (are.0, clean-push n order are.1 clean)

  -- a line that changes and leaves the order
  clean-taken : (n : ℕ) (state : LineState) (order : List ℕ) → AreCleanLines lines order → AreCleanLines (set lines n state) (all_but n order)
  clean-taken n state [] are = tt
  clean-taken n state (m ∷ order) are = elim (nat_eq m n) as (λ b. nat_eq m n ≡ b → AreCleanLines (set lines n state) (cond (not b) (m ∷ all_but n order) (all_but n order))) [
    | true ↦ λ e. clean-taken n state order are.1
    | false ↦ λ e. (
      elim (set_either lines n state Empty m) as (λ _. is_clean (get_or (set lines n state) m Empty) ≡ true) [
        | inl h ↦ let same : m ≡ n = h.0 in let no : ⊥ = grind (arith, nat_tests) in absurd no
        | inr h ↦ ap is_clean h ∙ are.0
      ],
      clean-taken n state order are.1,
    )
  ] refl

  -- a line that isn't clean isn't in the order, and may change
  clean-set : (n : ℕ) (state : LineState) (order : List ℕ) → is_clean (get_or lines n Empty) ≡ false → AreCleanLines lines order → AreCleanLines (set lines n state) order
  clean-set n state [] isnt are = tt
  clean-set n state (m ∷ order) isnt are = (
    elim (set_either lines n state Empty m) as (λ _. is_clean (get_or (set lines n state) m Empty) ≡ true) [
      | inl h ↦ true_false (is_clean (get_or lines m Empty)) are.0 (ap (λ k. is_clean (get_or lines k Empty)) h.0 ∙ isnt)
      | inr h ↦ ap is_clean h ∙ are.0
    ],
    clean-set n state order isnt are.1,
  )

module _ (lines : List LineState) (order : List ℕ) (is : IsOrder lines order) where
  -- a line is used
  pub order-used : (n : ℕ) → is_clean (get_or lines n Empty) ≡ true → IsOrder lines (used n order)
  order-used n clean = record {
    clean = clean-push lines n (all_but n order) (clean-all_but lines n order is.clean) clean;
    all = λ m e. in_used m (is.all m e);
    once = once-used n order is.once;
  }
    where
      in_used : (m : ℕ) → among m order ≡ true → among m (used n order) ≡ true
      in_used m e = elim (nat_eq m n) as (λ b. nat_eq m n ≡ b → among m (used n order) ≡ true) [
        | true ↦ λ f. subst (λ k. among k (used n order) ≡ true) (sym (nat_same m n f)) (among-last n (all_but n order))
        | false ↦ λ f. let differ : m ≢ n = grind (arith, nat_tests) in among-before n m (all_but n order) (among-kept n m order differ e)
      ] refl

  -- a line leaves the order
  pub order-out : (v : ℕ) (state : LineState) → v < length lines → is_clean state ≡ false → IsOrder (set lines v state) (all_but v order)
  order-out v state within isnt = record {
    clean = clean-taken lines v state order is.clean;
    all = λ m e. at_set lines v state Empty m within
        (λ same new. true_false (is_clean state) (sym (ap is_clean new) ∙ e) isnt)
        (λ differ old. among-kept v m order differ (is.all m (sym (ap is_clean old) ∙ e)));
    once = once-all_but v order is.once;
  }

  -- a line that wasn't in the order changes
  pub order-set : (v : ℕ) (state : LineState) → v < length lines → is_clean (get_or lines v Empty) ≡ false → is_clean state ≡ false → IsOrder (set lines v state) order
  order-set v state within was isnt = record {
    clean = clean-set lines v state order was is.clean;
    all = λ m e. at_set lines v state Empty m within
        (λ same new. true_false (is_clean state) (sym (ap is_clean new) ∙ e) isnt)
        (λ differ old. is.all m (sym (ap is_clean old) ∙ e));
    once = is.once;
  }

  -- a line enters the order
  pub order-in : (v : ℕ) (state : LineState) → v < length lines → is_clean state ≡ true → IsOrder (set lines v state) (used v order)
  order-in v state within clean = record {
    clean = clean-push (set lines v state) v (all_but v order) (clean-taken lines v state order is.clean)
        (at_set lines v state Empty v within (λ same new. ap is_clean new ∙ clean) (λ differ old. absurd (differ refl)));
    all = λ m e. at_set lines v state Empty m within
        (λ same new. subst (λ k. among k (used v order) ≡ true) (sym same) (among-last v (all_but v order)))
        (λ differ old. among-before v m (all_but v order) (among-kept v m order differ (is.all m (sym (ap is_clean old) ∙ e))));
    once = once-used v order is.once;
  }

module _ (lines : List LineState) where
  order-touched : (order : List ℕ) (o : Option ℕ) → IsOrder lines order → IsOrder lines (touched lines order o)
  order-touched order None is = is
  order-touched order (Some n) is = elim (is_clean (get_or lines n Empty)) as (λ b. is_clean (get_or lines n Empty) ≡ b → IsOrder lines (cond b (used n order) order)) [
    | true ↦ λ e. order-used lines order is n e
    | false ↦ λ e. is
  ] refl

  -- lines are used one after another
  pub order-fold : (find_line : ℕ → Option ℕ) (serials order : List ℕ) → IsOrder lines order → IsOrder lines (fold (λ order serial. touched lines order (find_line serial)) order serials)
  order-fold find_line [] order is = is
  order-fold find_line (serial ∷ serials) order is = order-fold find_line serials (touched lines order (find_line serial)) (order-touched order (find_line serial) is)
