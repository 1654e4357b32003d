-- Pointers, and how many of those from 12 on aren't holes.
use Rattle.std.proofs.Common.{◌≡◌, inl, inr, ℕ, ◌+◌, ◌-◌, ◌*◌, ◌<◌, ◌≤◌, Bool, true, false, not, ◌&&◌, suc, List, [], ◌∷◌, length, length-drop, get_or, drop, replicate, slice_set, refl, sym, ◌∙◌, ap, subst, arith}
use Rattle.std.specs.Prelude.{if◌then◌else◌, ◌==◌, sum_by}
use Rattle.std.specs.List.{list_all}
use Rattle.std.proofs.lemmas.Bool.{cases_lt}
use Rattle.std.proofs.lemmas.Bool.Decides.{eqb_tells}
use Rattle.std.proofs.lemmas.List.{get_or_past, get_or-drop, drop-set-lt, drop-set-add, drop-replicate}
use Rattle.std.proofs.lemmas.List.Sums.{sum_by-set, sum_by-le}
use Rattle.std.proofs.lemmas.List.Folds.{sum_by-replicate, sum_by-zero}
use Rattle.hl_overlay.specs.declared.pointers.Pointer.{Pointer}
use Rattle.hl_overlay.specs.declared.pointers.Pointer.TheVariants.{Hole, Kept, Moved, New}
use Rattle.hl_overlay.specs.Pointing.{AreHoles, IsAddressed, IsUnwritten, far_count, blocks_in, has_far, is_hole_pointer, pointer_to, where_is}

-- an address of the disk stands for a hole, or for a block that the disk has at an address
pub pointer_to_addressed : (addr : ℕ) → IsAddressed (pointer_to addr)
pointer_to_addressed addr = elim (eqb_tells addr 4294967295) [
  | inl t ↦ subst (λ (b : Bool). IsAddressed (if b then Hole else Kept addr)) (sym t.0) tt
  | inr t ↦ subst (λ (b : Bool). IsAddressed (if b then Hole else Kept addr)) (sym t.0) t.1
]

pub pointer_to_written : (addr : ℕ) → IsUnwritten (pointer_to addr) → ⊥
pointer_to_written addr new = elim (eqb_tells addr 4294967295) [
  | inl t ↦ subst (λ (b : Bool). IsUnwritten (if b then Hole else Kept addr)) t.0 new
  | inr t ↦ subst (λ (b : Bool). IsUnwritten (if b then Hole else Kept addr)) t.0 new
]

filled_most : (p : Pointer) → blocks_in p ≤ 1
filled_most Hole = omega arith
filled_most (Kept addr) = omega arith
filled_most (Moved addr serial position) = omega arith
filled_most (New n) = omega arith

-- a block from 12 on is elsewhere
pub far_count-set : (ps : List Pointer) (i : ℕ) (p d : Pointer) → 12 ≤ i → i < length ps → far_count (slice_set ps i p) + blocks_in (get_or ps i d) ≡ far_count ps + blocks_in p
far_count-set ps i p d from lt =
    let at : i ≡ 12 + (i - 12) = omega arith in
    let dropped : drop 12 (slice_set ps i p) ≡ slice_set (drop 12 ps) (i - 12) p = ap (λ n. drop 12 (slice_set ps n p)) at ∙ drop-set-add 12 ps (i - 12) p in
    let same : get_or (drop 12 ps) (i - 12) d ≡ get_or ps i d = get_or-drop 12 ps (i - 12) d ∙ ap (λ n. get_or ps n d) (sym at) in
    let low : i - 12 < length (drop 12 ps) = rw length-drop (omega arith) in
    ap (λ (l : List Pointer). sum_by blocks_in l + blocks_in (get_or ps i d)) dropped ∙ ap (λ (q : Pointer). sum_by blocks_in (slice_set (drop 12 ps) (i - 12) p) + blocks_in q) (sym same) ∙ sum_by-set blocks_in (drop 12 ps) (i - 12) p d low

-- and is counted
pub counted_set : (ps : List Pointer) (i far one none : ℕ) (p before : Pointer) → far ≡ far_count ps → 12 ≤ i → i < length ps → before ≡ get_or ps i before → one ≡ blocks_in p → none ≡ blocks_in before → far_count (slice_set ps i p) + none ≡ far + one
counted_set ps i far one none p before is from lt at one_is none_is =
    ap (λ n. far_count (slice_set ps i p) + n) (none_is ∙ ap blocks_in at) ∙ far_count-set ps i p before from lt ∙ ap (λ n. n + blocks_in p) (sym is) ∙ ap (λ n. far + n) (sym one_is)

-- a block before them is elsewhere
pub far_count-set_low : (ps : List Pointer) (i : ℕ) (p : Pointer) → i < 12 → far_count (slice_set ps i p) ≡ far_count ps
far_count-set_low ps i p lt = ap (sum_by blocks_in) (drop-set-lt 12 ps i p lt)

pub far_count_most : (ps : List Pointer) → far_count ps ≤ length ps
far_count_most ps =
    let most : sum_by blocks_in (drop 12 ps) ≤ length (drop 12 ps) * 1 = sum_by-le blocks_in 1 (drop 12 ps) (λ k d lt. filled_most (get_or (drop 12 ps) k d)) in
    let len : length (drop 12 ps) ≡ length ps - 12 = length-drop 12 ps in omega arith

pub far_count-holes : (n : ℕ) → far_count (replicate n Hole) ≡ 0
far_count-holes n = ap (sum_by blocks_in) (drop-replicate 12 n Hole) ∙ sum_by-replicate blocks_in (n - 12) Hole ∙ omega arith

-- a block from 12 on isn't a hole exactly where one is counted
pub has_far_is : (ps : List Pointer) → has_far ps ≡ not (far_count ps == 0)
unfolding has_far
has_far_is ps = ap not (holes (drop 12 ps) ∙ sym (sum_by-zero blocks_in (drop 12 ps)))
  where
    holes : (xs : List Pointer) → list_all is_hole_pointer xs ≡ list_all (λ x. blocks_in x == 0) xs
    holes [] = refl
    holes (Hole ∷ xs) = holes xs
    holes (Kept addr ∷ xs) = refl
    holes (Moved addr serial position ∷ xs) = refl
    holes (New n ∷ xs) = refl

-- where all are holes, none isn't
pub none_far : (ps : List Pointer) → length ps ≡ 1036 → AreHoles ps 12 → has_far ps ≡ false
unfolding has_far
none_far ps count holes = ap not (all_holes (drop 12 ps) (λ i. get_or-drop 12 ps i Hole ∙ past i))
  where
    past : (i : ℕ) → where_is ps (12 + i) ≡ Hole
    past i = elim (cases_lt (12 + i) 1036) [
      | inl lt ↦ holes (12 + i) (omega arith) lt
      | inr ge ↦ get_or_past ps (12 + i) Hole (omega arith)
    ]

    all_holes : (xs : List Pointer) → ((i : ℕ) → get_or xs i Hole ≡ Hole) → list_all is_hole_pointer xs ≡ true
    all_holes [] are = refl
    all_holes (x ∷ xs) are = ap (λ p. is_hole_pointer p && list_all is_hole_pointer xs) (are 0) ∙ all_holes xs (λ i. are (suc i))

-- and where one isn't, it is told
pub some_far : (ps : List Pointer) → has_far ps ≡ true → (i : ℕ) × (12 ≤ i) × (is_hole_pointer (where_is ps i) ≡ false)
unfolding has_far
some_far ps far = (let f = first (drop 12 ps) far in (12 + f.0, omega arith, ap is_hole_pointer (sym (get_or-drop 12 ps f.0 Hole)) ∙ f.1))
  where
    first : (xs : List Pointer) → not (list_all is_hole_pointer xs) ≡ true → (i : ℕ) × (is_hole_pointer (get_or xs i Hole) ≡ false)
    first [] none = absurd (cc)
    first (Hole ∷ xs) some = (let f = first xs some in (suc f.0, f.1))
    first (Kept addr ∷ xs) some = (0, refl)
    first (Moved addr serial position ∷ xs) some = (0, refl)
    first (New n ∷ xs) some = (0, refl)
