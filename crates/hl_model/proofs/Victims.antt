-- The line that a staging or a fetch takes: it may be dropped, and there always is one.
use Rattle.std.proofs.Common.{arith, ◌≡◌, ℕ, zero, suc, ◌+◌, ◌-◌, ◌<◌, ◌≤◌, ◌⊎◌, Bool, true, false, ◌||◌, cond, not, nat_eq, List, [], ◌∷◌, map, filter, get_or, unwrap_or, length, Option, Some, None, refl, ap, ◌∙◌, sym, subst, T, inl, inr}
use Rattle.std.proofs.lemmas.Bool.Decides.{nat_tests}
use Rattle.std.proofs.lemmas.List.Quantifiers.{position-Some}
use Rattle.std.specs.List.{find, position, list_any}
use Rattle.hl_addr.specs.Layout.{Layout}
use Rattle.hl_model.specs.Cache.{AreCleanLines, IsCache, IsOut}
use Rattle.hl_media.specs.declared.job.JobNote.{JobNote}
use Rattle.hl_lines.specs.declared.state.LineState.{LineState}
use Rattle.hl_lines.specs.declared.state.LineState.TheVariants.{Empty, Clean, Staging, Stuck, Aside}
use Rattle.hl_lines.specs.Lines.{all_but, clean_segment, first_of, is, is_aside, is_clean, is_empty, is_held, is_spared, segment_of, victim}
use Rattle.hl_model.specs.Lines.{among, count_held}
use Rattle.hl_model.specs.Site.{SiteState}
use Rattle.hl_model.proofs.Orders.{among-kept}
use Rattle.hl_model.proofs.Sets.{is_there, true_false}

-- COUNTS

tally : (LineState → Bool) → List LineState → ℕ
tally p lines = length (filter p lines)

shorter : (n : ℕ) (ns : List ℕ) → length (all_but n ns) ≤ length ns
shorter n [] = omega arith
shorter n (x ∷ xs) = elim (not (nat_eq x n)) as (λ b. length (cond b (x ∷ all_but n xs) (all_but n xs)) ≤ suc (length xs)) [
  | true ↦ let less = shorter n xs in omega arith
  | false ↦ let less = shorter n xs in omega arith
]

one_shorter : (n : ℕ) (ns : List ℕ) → among n ns ≡ true → length (all_but n ns) + 1 ≤ length ns
one_shorter n [] e = absurd (subst T (sym e) tt)
one_shorter n (x ∷ xs) e = elim (nat_eq x n) as (λ b. (b || among n xs) ≡ true → length (cond (not b) (x ∷ all_but n xs) (all_but n xs)) + 1 ≤ suc (length xs)) [
  | true ↦ λ f. let less = shorter n xs in omega arith
  | false ↦ λ f. let less = one_shorter n xs f in omega arith
] e

-- what stands at numbers of a list is no more than they are
pigeons : (p : LineState → Bool) (lines : List LineState) (a : ℕ) (ns : List ℕ)
    → ((i : ℕ) → i < length lines → p (get_or lines i Empty) ≡ true → among (a + i) ns ≡ true) → length (filter p lines) ≤ length ns
pigeons p [] a ns all = omega arith
pigeons p (line ∷ lines) a ns all = elim (p line) as (λ b. p line ≡ b → length (cond b (line ∷ filter p lines) (filter p lines)) ≤ length ns) [
  | true ↦ λ e.
      let here : among a ns ≡ true = subst (λ n. among n ns ≡ true) (let plain : a + 0 ≡ a = omega arith in plain) (all 0 (omega arith) e) in
      let less = one_shorter a ns here in
      let rest : length (filter p lines) ≤ length (all_but a ns) = pigeons p lines (a + 1) (all_but a ns)
      (λ i low f. among-kept a (a + 1 + i) ns (λ same. omega arith) (subst (λ n. among n ns ≡ true) (let next : a + suc i ≡ a + 1 + i = omega arith in next) (all (suc i) (omega arith) f))) in
      omega arith
  | false ↦ λ e. pigeons p lines (a + 1) ns (λ i low f. subst (λ n. among n ns ≡ true) (let next : a + suc i ≡ a + 1 + i = omega arith in next) (all (suc i) (omega arith) f))
] refl

-- each line is empty, clean, held or set aside
all_lines : (lines : List LineState) → length lines ≡ length (filter is_empty lines) + length (filter is_clean lines) + length (filter is_held lines) + length (filter is_aside lines)
all_lines [] = refl
all_lines (Empty ∷ lines) = let rest = all_lines lines in omega arith
all_lines (Clean t ∷ lines) = let rest = all_lines lines in omega arith
all_lines (Staging t ∷ lines) = let rest = all_lines lines in omega arith
all_lines (Stuck t ∷ lines) = let rest = all_lines lines in omega arith
all_lines (Aside ∷ lines) = let rest = all_lines lines in omega arith

none_empty : (lines : List LineState) (p : LineState → Bool) → position p lines ≡ None → length (filter p lines) ≡ 0
none_empty [] p e = refl
none_empty (line ∷ lines) p e = elim (p line) as (λ b. p line ≡ b → length (cond b (line ∷ filter p lines) (filter p lines)) ≡ 0) [
  | true ↦ λ f. let wrong : ⊥ = grind arith in absurd wrong
  | false ↦ λ f. none_empty lines p (grind arith)
] refl

-- THE LINE THAT IS TAKEN

found_none : (p : ℕ → Bool) (ns : List ℕ) → find p ns ≡ None → (n : ℕ) → among n ns ≡ true → p n ≡ false
found_none p [] e n there = absurd (subst T (sym there) tt)
found_none p (x ∷ xs) e n there = elim (p x) as (λ b. p x ≡ b → cond b (Some x) (find p xs) ≡ None → p n ≡ false) [
  | true ↦ λ f g. let wrong : Some x ≡ None = g in cc
  | false ↦ λ f g. elim (nat_eq x n) as (λ b. nat_eq x n ≡ b → (b || among n xs) ≡ true → p n ≡ false) [
    | true ↦ λ h k. let same : x ≡ n = grind (arith, nat_tests) in ap p (sym same) ∙ f
    | false ↦ λ h k. found_none p xs g n k
  ] refl there
] refl e

clean_is : (line : LineState) → is_clean line ≡ true → (t : ℕ) × (clean_segment line ≡ Some t) × (segment_of line ≡ Some t)
clean_is Empty e = absurd (subst T (sym e) tt)
clean_is (Clean t) e = (t, refl, refl)
clean_is (Staging t) e = absurd (subst T (sym e) tt)
clean_is (Stuck t) e = absurd (subst T (sym e) tt)
clean_is Aside e = absurd (subst T (sym e) tt)

all_true : (b : Bool) → not b ≡ false → b ≡ true
all_true true e = refl
all_true false e = sym e

-- a number that a list of a function's values has
listed_number : (f : ℕ → ℕ) (i t : ℕ) → f t ≡ i → (ks : List ℕ) → list_any (is (Some t)) ks ≡ true → among i (map f ks) ≡ true
listed_number f i t e [] any = absurd (subst T (sym any) tt)
listed_number f i t e (k ∷ ks) any = elim (nat_eq t k) as (λ b. nat_eq t k ≡ b → (b || list_any (is (Some t)) ks) ≡ true → (nat_eq (f k) i || among i (map f ks)) ≡ true) [
  | true ↦ λ h _.
      let same : t ≡ k = grind (arith, nat_tests) in
      let at : f k ≡ i = ap f (sym same) ∙ e in
      let head : nat_eq (f k) i ≡ true = grind (arith, nat_tests) in
      subst (λ b. (b || among i (map f ks)) ≡ true) (sym head) refl
  | false ↦ λ h rest. later (nat_eq (f k) i) (listed_number f i t e ks rest)
] refl any
  where
    later : (a : Bool) → among i (map f ks) ≡ true → (a || among i (map f ks)) ≡ true
    later true e = refl
    later false e = e

length-map_numbers : {A : Type 0} (f : A → ℕ) (xs : List A) → length (map f xs) ≡ length xs
length-map_numbers f [] = refl
length-map_numbers f (x ∷ xs) = ap suc (length-map_numbers f xs)

line_among : (i : ℕ) (job : JobNote) (jobs : List JobNote) → IsOut job jobs → job.line ≡ i → among i (map (λ (j : JobNote). j.line) jobs) ≡ true
line_among i job [] out e = absurd out
line_among i job (other ∷ jobs) (inl here) e =
    let at : other.line ≡ i = ap (λ (j : JobNote). j.line) (sym here) ∙ e in
    let head : nat_eq other.line i ≡ true = grind (arith, nat_tests) in
    subst (λ b. (b || among i (map (λ (j : JobNote). j.line) jobs)) ≡ true) (sym head) refl
line_among i job (other ∷ jobs) (inr out) e = later (nat_eq other.line i) (line_among i job jobs out e)
  where
    later : (a : Bool) → among i (map (λ (j : JobNote). j.line) jobs) ≡ true → (a || among i (map (λ (j : JobNote). j.line) jobs)) ≡ true
    later true e = refl
    later false e = e

same_first : (o p : Option ℕ) → first_of o p ≡ None → (o ≡ None) × (p ≡ None)
same_first None p e = (refl, e)
same_first (Some n) p e = let wrong : Some n ≡ None = e in cc

has_segment : (line : LineState) (t : ℕ) → clean_segment line ≡ Some t → is (clean_segment line) t ≡ true
has_segment line t e = ap (λ o. is o t) e ∙ (let same : nat_eq t t ≡ true = grind (arith, nat_tests) in same)

is_segment : (o : Option ℕ) (t : ℕ) → is o t ≡ true → o ≡ Some t
is_segment None t e = absurd (subst T (sym e) tt)
is_segment (Some n) t e = let same : n ≡ t = grind (arith, nat_tests) in ap Some same

-- where one passes, one is found
some_place : (p : LineState → Bool) (lines : List LineState) (i : ℕ) → i < length lines → p (get_or lines i Empty) ≡ true → position p lines ≡ None → ⊥
some_place p lines i low e none = let zero_of = none_empty lines p none in let one = counted p lines i low e in omega arith
  where
    counted : (p : LineState → Bool) (lines : List LineState) (i : ℕ) → i < length lines → p (get_or lines i Empty) ≡ true → 1 ≤ length (filter p lines)
    counted p [] i low e = absurd (omega arith)
    counted p (line ∷ lines) zero low e = subst (λ b. 1 ≤ length (cond b (line ∷ filter p lines) (filter p lines))) (sym e) (let some : 1 ≤ suc (length (filter p lines)) = omega arith in some)
    counted p (line ∷ lines) (suc i) low e = elim (p line) as (λ b. 1 ≤ length (cond b (line ∷ filter p lines) (filter p lines))) [
      | true ↦ omega arith
      | false ↦ counted p lines i (omega arith) e
    ]

module _ (g : Layout) (s : SiteState) (cache : IsCache g s) where
  found_clean : (p : ℕ → Bool) (order : List ℕ) (v : ℕ) → AreCleanLines s.lines order → find p order ≡ Some v → is_clean (get_or s.lines v Empty) ≡ true
  found_clean p [] v are e = cc
  found_clean p (line ∷ order) v are e = elim (p line) as (λ b. cond b (Some line) (find p order) ≡ Some v → is_clean (get_or s.lines v Empty) ≡ true) [
    | true ↦ λ f. let same : line ≡ v = cc in subst (λ n. is_clean (get_or s.lines n Empty) ≡ true) same are.0
    | false ↦ λ f. found_clean p order v are.1 f
  ] e

  -- a clean line is there
  pub clean_there : (v : ℕ) → is_clean (get_or s.lines v Empty) ≡ true → v < length s.lines
  clean_there v e = is_there is_clean s.lines v Empty (λ f. true_false (is_clean (get_or s.lines v Empty)) e f)

  -- the line that is taken is there, and empty or clean
  pub victim_state : (keep : List ℕ) (v : ℕ) → victim s.lines s.order keep ≡ Some v → (v < length s.lines) × ((is_empty (get_or s.lines v Empty) ≡ true) ⊎ (is_clean (get_or s.lines v Empty) ≡ true))
  victim_state keep v e = elim (position is_empty s.lines) as (λ o. position is_empty s.lines ≡ o → (v < length s.lines) × ((is_empty (get_or s.lines v Empty) ≡ true) ⊎ (is_clean (get_or s.lines v Empty) ≡ true))) [
    | None ↦ λ f.
        let clean = found_clean (is_spared s.lines keep) s.order v cache.order.clean (sym (ap (λ o. first_of o (find (is_spared s.lines keep) s.order)) f) ∙ e) in
        (clean_there v clean, inr clean)
    | Some w ↦ λ f.
        let same : Some w ≡ Some v = sym (ap (λ o. first_of o (find (is_spared s.lines keep) s.order)) f) ∙ e in
        let found = position-Some is_empty s.lines v Empty (f ∙ same) in
        (found.0, inl found.1)
  ] refl

  -- the clean line of a segment
  clean_with : ℕ → ℕ
  clean_with t = unwrap_or (position (λ line. is (clean_segment line) t) s.lines) 0

  clean_with-is : (i t : ℕ) → i < length s.lines → clean_segment (get_or s.lines i Empty) ≡ Some t → clean_with t ≡ i
  unfolding clean_with
  clean_with-is i t low e = elim (position (λ line. is (clean_segment line) t) s.lines) as (λ o. position (λ line. is (clean_segment line) t) s.lines ≡ o → unwrap_or o 0 ≡ i) [
    | None ↦ λ f. absurd (some_place (λ line. is (clean_segment line) t) s.lines i low (has_segment (get_or s.lines i Empty) t e) f)
    | Some j ↦ λ f.
        let found = position-Some (λ line. is (clean_segment line) t) s.lines j Empty f in
        cache.matched.one_line j i t (is_segment (clean_segment (get_or s.lines j Empty)) t found.1) e
  ] refl

  -- there always is a line to take
  pub victim_there : 13 ≤ g.lines → (keep : List ℕ) → length keep ≤ 8 → victim s.lines s.order keep ≡ None → ⊥
  victim_there many keep few e =
      let both = same_first (position is_empty s.lines) (find (is_spared s.lines keep) s.order) e in
      let empty = none_empty s.lines is_empty both.0 in
      let clean : length (filter is_clean s.lines) ≤ length (map clean_with keep) = pigeons is_clean s.lines 0 (map clean_with keep) (λ i low is. subst (λ n. among n (map clean_with keep) ≡ true) (let plain : i ≡ 0 + i = omega arith in plain) (kept i low is both.1)) in
      let aside : length (filter is_aside s.lines) ≤ length (map (λ (j : JobNote). j.line) s.jobs) = pigeons is_aside s.lines 0 (map (λ (j : JobNote). j.line) s.jobs)
      (λ i low is. subst (λ n. among n (map (λ (j : JobNote). j.line) s.jobs) ≡ true) (let plain : i ≡ 0 + i = omega arith in plain) (let job = cache.jobs.aside i is in line_among i job.0 s.jobs job.1 job.2)) in
      let all = all_lines s.lines in
      let held : count_held s.lines ≤ g.lines - 12 = cache.held in
      let long : length s.lines ≡ g.lines = cache.sizes.lines in
      let two : length s.jobs ≤ 2 = cache.jobs.two in
      let one = length-map_numbers clean_with keep in
      let other = length-map_numbers (λ (j : JobNote). j.line) s.jobs in
      omega arith
    where
      kept : (i : ℕ) → i < length s.lines → is_clean (get_or s.lines i Empty) ≡ true → find (is_spared s.lines keep) s.order ≡ None → among i (map clean_with keep) ≡ true
      kept i low is none =
          let segment = clean_is (get_or s.lines i Empty) is in
          let any = all_true (list_any (λ k. Rattle.hl_lines.specs.Lines.is (segment_of (get_or s.lines i Empty)) k) keep) (found_none (is_spared s.lines keep) s.order none i (cache.order.all i is)) in
          listed_number clean_with i segment.0 (clean_with-is i segment.0 low segment.1) keep (subst (λ o. list_any (Rattle.hl_lines.specs.Lines.is o) keep ≡ true) segment.2 any)
