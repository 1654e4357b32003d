-- What blocks are charged: as many as are there, and a pointer block where one from 12 on is no hole.
use Rattle.std.proofs.Common.{◌≡◌, ◌≢◌, true≢false, inl, inr, ℕ, zero, suc, ◌+◌, ◌-◌, ◌<◌, ◌≤◌, Bool, true, false, ◌||◌, cond, not, List, [], ◌∷◌, ◌++◌, length, length-drop, length-set, drop, get_or, set, get_or-drop, add-zero, refl, sym, ◌∙◌, ap, subst, arith}
use Rattle.std.specs.Prelude.{if◌then◌else◌}
use Rattle.std.specs.List.{count_by, list_any, sum_by}
use Rattle.std.proofs.lemmas.Bool.{cases_eq, cases_lt}
use Rattle.std.proofs.lemmas.List.{get_or_past, get_or-set_same, get_or-set_other, same_lists}
use Rattle.std.proofs.lemmas.List.Folds.{list_all_at, list_any_at}
use Rattle.std.proofs.lemmas.List.FromFn.{get_or-map-range_with_len, length-map-range_with_len, map-range_with_len_more}
use Rattle.std.proofs.lemmas.List.Sums.{sum_by-set, sum_by_push}
use Rattle.hl_placed.specs.Blocks.{Block, is_here, is_hole, listed}
use Rattle.hl_placed.specs.Blocks as blocks
use Rattle.hl_placed.specs.Charges.{blocks_charge, parts_charge}
use Rattle.hl_overlay.specs.declared.pointers.Pointer.{Pointer}
use Rattle.hl_overlay.specs.declared.pointers.Pointer.TheVariants.{Hole}
use Rattle.hl_overlay.specs.Pointing.{has_far, is_hole_pointer, where_is}
use Rattle.hl_overlay.proofs.PointerLemmas.{some_far}

abbrev pub here : Block → ℕ
here b = cond (is_here b) 1 0

abbrev some : Block → Bool
some b = not (is_hole b)

-- block j of a list by a function
pub listed_at : (F : ℕ → Block) (n j : ℕ) (d : Block) → j < n → get_or (listed n F) j d ≡ F j
listed_at F n j d lt = get_or-map-range_with_len F 0 n j j d lt (omega arith)

pub listed_length : (F : ℕ → Block) (n : ℕ) → length (listed n F) ≡ n
listed_length F n = length-map-range_with_len F 0 n

-- HOLES AT THE END

any-hole : (k : ℕ) (xs : List Block) → list_any some (drop k (xs ++ blocks.Hole ∷ [])) ≡ list_any some (drop k xs)
any-hole zero [] = refl
any-hole zero (x ∷ xs) = ap (λ (b : Bool). some x || b) (any-hole zero xs)
any-hole (suc zero) [] = refl
any-hole (suc (suc k)) [] = refl
any-hole (suc k) (x ∷ xs) = any-hole k xs

charge-hole : (xs : List Block) → blocks_charge (xs ++ blocks.Hole ∷ []) ≡ blocks_charge xs
charge-hole xs = λ i. parts_charge (any-hole 12 xs i) ((sum_by_push here xs blocks.Hole ∙ add-zero (sum_by here xs)) i)

module _ (F : ℕ → Block) where
  charge-more : (n m : ℕ) → ((j : ℕ) → n ≤ j → j < n + m → F j ≡ blocks.Hole) → blocks_charge (listed (n + m) F) ≡ blocks_charge (listed n F)
  charge-more n zero holes = ap (λ (k : ℕ). blocks_charge (listed k F)) (add-zero n)
  charge-more n (suc m) holes =
      let next : n + suc m ≡ n + m + 1 = omega arith in
      ap (λ (k : ℕ). blocks_charge (listed k F)) next
      ∙ ap blocks_charge (map-range_with_len_more F 0 (n + m) (n + m) (omega arith))
      ∙ ap (λ (b : Block). blocks_charge (listed (n + m) F ++ b ∷ [])) (holes (n + m) (omega arith) (omega arith))
      ∙ charge-hole (listed (n + m) F) ∙ charge-more n m (λ j low high. holes j low (omega arith))

  -- holes at the end are charged nothing
  pub charge_most : (n most : ℕ) → n ≤ most → ((j : ℕ) → n ≤ j → j < most → F j ≡ blocks.Hole) → blocks_charge (listed most F) ≡ blocks_charge (listed n F)
  charge_most n most le holes =
      let all : most ≡ n + (most - n) = omega arith in
      ap (λ (k : ℕ). blocks_charge (listed k F)) all ∙ charge-more n (most - n) (λ j low high. holes j low (omega arith))

-- so that two lists of the same blocks are charged alike, however many holes they end in
pub charge_alike : (F G : ℕ → Block) (n m most : ℕ) → n ≤ most → m ≤ most → ((j : ℕ) → G j ≡ F j) → ((j : ℕ) → n ≤ j → j < most → F j ≡ blocks.Hole) → ((j : ℕ) → m ≤ j → j < most → G j ≡ blocks.Hole)
    → blocks_charge (listed m G) ≡ blocks_charge (listed n F)
charge_alike F G n m most low high same holes_F holes_G = sym (charge_most G m most high holes_G) ∙ (λ i. blocks_charge (listed most (λ j. same j i))) ∙ charge_most F n most low holes_F

-- ONE BLOCK

module _ (F G : ℕ → Block) (n i : ℕ) (lt : i < n) (same : (j : ℕ) → j ≢ i → G j ≡ F j) where
  is_set : listed n G ≡ set (listed n F) i (G i)
  is_set = same_lists (listed n G) (set (listed n F) i (G i)) (listed_length G n ∙ sym (length-set (listed n F) i (G i) ∙ listed_length F n)) at
    where
      at : (k : ℕ) (d : Block) → k < length (listed n G) → get_or (listed n G) k d ≡ get_or (set (listed n F) i (G i)) k d
      at k d low = (
          let high : k < n = subst (λ (x : ℕ). k < x) (listed_length G n) low in
          elim (cases_eq k i) [
            | inl e ↦ listed_at G n k d high ∙ ap G e ∙ sym (ap (λ (x : ℕ). get_or (set (listed n F) i (G i)) x d) e ∙ get_or-set_same (listed n F) i (G i) d (subst (λ (x : ℕ). i < x) (sym (listed_length F n)) lt))
            | inr ne ↦ listed_at G n k d high ∙ same k ne ∙ sym (get_or-set_other (listed n F) i k (G i) d ne ∙ listed_at F n k d high)
          ])

  -- where one block is another, so many more are there
  pub count_replaced : count_by is_here (listed n G) + here (F i) ≡ count_by is_here (listed n F) + here (G i)
  count_replaced =
      ap (λ (xs : List Block). sum_by here xs + here (F i)) is_set
      ∙ ap (λ (b : Block). sum_by here (set (listed n F) i (G i)) + here b) (sym (listed_at F n i blocks.Hole lt))
      ∙ sum_by-set here (listed n F) i (G i) blocks.Hole (subst (λ (x : ℕ). i < x) (sym (listed_length F n)) lt)

-- A POINTER BLOCK

either : (b c : Bool) → (b ≡ true → c ≡ true) → (c ≡ true → b ≡ true) → b ≡ c
either true c to from = sym (to refl)
either false true to from = from refl
either false false to from = refl

any_at : (xs : List Block) → list_any some xs ≡ true → (k : ℕ) × (k < length xs) × (is_hole (get_or xs k blocks.Hole) ≡ false)
any_at [] any = absurd (true≢false (sym any))
any_at (blocks.Hole ∷ xs) any = (let r = any_at xs any in let low = r.1 in (suc r.0, omega arith, r.2))
any_at (blocks.Here bytes ∷ xs) any = (0, omega arith, refl)
any_at (blocks.Away serial position ∷ xs) any = (0, omega arith, refl)

not_false : (b : Bool) → b ≡ false → not b ≡ true
not_false b e = ap not e

module _ (F : ℕ → Block) (ps : List Pointer) (n most : ℕ) (le : n ≤ most) (count : length ps ≡ most) (alike : (j : ℕ) → j < n → is_hole (F j) ≡ is_hole_pointer (where_is ps j)) (ends : (j : ℕ) → n ≤ j → j < most → where_is ps j ≡ Hole) where
  far_to : list_any some (drop 12 (listed n F)) ≡ true → has_far ps ≡ true
  unfolding has_far
  far_to any = (
      let r = any_at (drop 12 (listed n F)) any in
      let low = r.1 in
      let long = length-drop 12 (listed n F) in
      let all = listed_length F n in
      let within : 12 + r.0 < n = omega arith in
      let there : is_hole (F (12 + r.0)) ≡ false = ap is_hole (sym (listed_at F n (12 + r.0) blocks.Hole within) ∙ sym (get_or-drop 12 (listed n F) r.0 blocks.Hole)) ∙ r.2 in
      let points : is_hole_pointer (get_or (drop 12 ps) r.0 Hole) ≡ false = ap is_hole_pointer (get_or-drop 12 ps r.0 Hole) ∙ sym (alike (12 + r.0) within) ∙ there in
      let dropped = length-drop 12 ps in
      ap not (list_all_at is_hole_pointer (drop 12 ps) r.0 Hole (omega arith) points))

  far_from : has_far ps ≡ true → list_any some (drop 12 (listed n F)) ≡ true
  far_from far = (
      let r = some_far ps far in
      let from = r.1 in
      let within : r.0 < n = elim (cases_lt r.0 n) [
        | inl lt ↦ lt
        | inr ge ↦ elim (cases_lt r.0 most) [
          | inl lt ↦ absurd (true≢false (ap is_hole_pointer (sym (ends r.0 ge lt)) ∙ r.2))
          | inr past ↦ absurd (true≢false (ap is_hole_pointer (sym (get_or_past ps r.0 Hole (subst (λ (x : ℕ). x ≤ r.0) (sym count) past))) ∙ r.2))
        ]
      ] in
      let k : 12 + (r.0 - 12) ≡ r.0 = omega arith in
      let at : get_or (drop 12 (listed n F)) (r.0 - 12) blocks.Hole ≡ F r.0 = get_or-drop 12 (listed n F) (r.0 - 12) blocks.Hole ∙ ap (λ (x : ℕ). get_or (listed n F) x blocks.Hole) k ∙ listed_at F n r.0 blocks.Hole within in
      let there : is_hole (F r.0) ≡ false = alike r.0 within ∙ r.2 in
      let long = length-drop 12 (listed n F) in
      let all = listed_length F n in
      list_any_at some (drop 12 (listed n F)) (r.0 - 12) blocks.Hole (omega arith) (ap (λ (b : Block). not (is_hole b)) at ∙ ap not there))

  -- blocks have a pointer block where pointers do
  pub charge_parts : blocks_charge (listed n F) ≡ 1 + (if has_far ps then 1 else 0) + count_by is_here (listed n F)
  charge_parts = ap (λ (b : Bool). parts_charge b (count_by is_here (listed n F))) (either (list_any some (drop 12 (listed n F))) (has_far ps) far_to far_from) ∙ by (has_far ps) (count_by is_here (listed n F))
    where
      by : (b : Bool) (r : ℕ) → parts_charge b r ≡ 1 + (if b then 1 else 0) + r
      by true r = omega arith
      by false r = omega arith
