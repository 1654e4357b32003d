-- Numbers one after the other, and what stands at them.
use Rattle.std.proofs.Common.{◌≡◌, ℕ, zero, suc, ◌+◌, ◌-◌, ◌*◌, ◌<◌, ◌≤◌, List, [], ◌∷◌, ◌++◌, length, take, drop, map, get_or, refl, sym, ◌∙◌, ap, arith, append_assoc, length-drop}
use Rattle.std.specs.List.{range_with_len}
use Rattle.std.proofs.lemmas.List.{take_more, get_or-drop, length-take-le}
use Rattle.std.proofs.lemmas.List.FromFn.{map-range_with_len_more}
use Rattle.hl_bytes.specs.Fields.{written}
use Rattle.hl_bytes.specs.Buffers.{block_of, with_part}
use Rattle.hl_bytes.proofs.Parts.{with_part_is, written-inside, written-below}
use Rattle.hl_media.proofs.Images.{block_of_one, block_of-drop}
use Rattle.hl_log.specs.Steps.{own_blocks}

range_more : (a n : ℕ) → range_with_len a (n + 1) ≡ range_with_len a n ++ (a + n) ∷ []
range_more a zero = let e : a ≡ a + 0 = omega arith in ap (λ (k : ℕ). k ∷ []) e
range_more a (suc n) =
    let e : a + 1 + n ≡ a + suc n = omega arith in
    let f : suc n + 1 ≡ suc (n + 1) = omega arith in
    ap (range_with_len a) f ∙ ap (λ (l : List ℕ). a ∷ l) (range_more (a + 1) n ∙ ap (λ (k : ℕ). range_with_len (a + 1) n ++ k ∷ []) e)

-- a loop that pushes the numbers of a run
pub pushed_more : (start old new : List ℕ) (a n x : ℕ) → old ≡ start ++ range_with_len a n → new ≡ old ++ x ∷ [] → x ≡ a + n → new ≡ start ++ range_with_len a (n + 1)
pushed_more start old new a n x so_far is value =
    is ∙ ap (λ (l : List ℕ). l ++ x ∷ []) so_far ∙ ap (λ (k : ℕ). (start ++ range_with_len a n) ++ k ∷ []) value ∙ append_assoc start (range_with_len a n) ((a + n) ∷ []) ∙ ap (λ (l : List ℕ). start ++ l) (sym (range_more a n))

-- functions that agree on a run
pub map_range_same : (f h : ℕ → List ℕ) (a n : ℕ) → ((k : ℕ) → a ≤ k → k < a + n → f k ≡ h k) → map f (range_with_len a n) ≡ map h (range_with_len a n)
map_range_same f h a zero same = refl
map_range_same f h a (suc n) same =
    ap (λ (x : List ℕ). x ∷ map f (range_with_len (a + 1) n)) (same a (omega arith) (omega arith))
    ∙ ap (λ (l : List (List ℕ)). h a ∷ l) (map_range_same f h (a + 1) n (λ k le lt. same k (omega arith) (omega arith)))

module _ (old new part : List ℕ) (i n : ℕ) (size : length old ≡ 4096 * (1 + n)) (lt : i < n) (one : length part ≡ 4096) (is : new ≡ written old (4096 * (1 + i)) part) where
  fits : 4096 * (1 + i) + length part ≤ length old
  fits = omega arith

  as_part : new ≡ with_part old (1 + i) part
  as_part = is ∙ sym (with_part_is old part (1 + i) fits)

  own : block_of new (1 + i) ≡ part
  own =
      let e : 1 + i + 0 ≡ 1 + i = omega arith in
      ap (λ (l : List ℕ). block_of l (1 + i)) as_part ∙ ap (block_of (with_part old (1 + i) part)) (sym e) ∙ written-inside old part (1 + i) 0 fits (omega arith) ∙ block_of_one part one

  below : (k : ℕ) → k < 1 + i → block_of new k ≡ block_of old k
  below k small = ap (λ (l : List ℕ). block_of l k) as_part ∙ written-below old part (1 + i) k fits small

  -- one block more
  pub blocks_more : own_blocks new (i + 1) ≡ own_blocks old i ++ part ∷ []
  blocks_more =
      map-range_with_len_more (block_of new) 1 i (1 + i) refl
      ∙ ap (λ (l : List (List ℕ)). l ++ block_of new (1 + i) ∷ []) (map_range_same (block_of new) (block_of old) 1 i (λ k le small. below k small))
      ∙ ap (λ (l : List ℕ). own_blocks old i ++ l ∷ []) own

-- one item more of those from a place on
pub taken_more : {A : Type 0} (xs : List A) (first n i : ℕ) (x d : A) → first + n ≤ length xs → i < n → x ≡ get_or xs (first + i) d → take (i + 1) (drop first xs) ≡ take i (drop first xs) ++ x ∷ []
taken_more {A} xs first n i x d fits lt is =
    take_more (drop first xs) i d (omega (arith, length-drop first xs)) ∙ ap (λ (y : A). take i (drop first xs) ++ y ∷ []) (get_or-drop first xs i d ∙ sym is)

pub length_taken : {A : Type 0} (xs : List A) (first n : ℕ) → first + n ≤ length xs → length (take n (drop first xs)) ≡ n
length_taken xs first n fits = length-take-le n (drop first xs) (omega (arith, length-drop first xs))

-- what stands behind a summary, where another is written over it
pub own_same : (old new : List ℕ) (n : ℕ) → drop 4096 new ≡ drop 4096 old → own_blocks new n ≡ own_blocks old n
own_same old new n same = map_range_same (block_of new) (block_of old) 1 n (λ k le lt.
    let e : k ≡ suc (k - 1) = omega arith in
    ap (block_of new) e ∙ sym (block_of-drop new (k - 1)) ∙ ap (λ (l : List ℕ). block_of l (k - 1)) same ∙ block_of-drop old (k - 1) ∙ ap (block_of old) (sym e))
