-- The pointers of a draft from block 12 on, and the addresses that they stand for.
use Rattle.std.proofs.Common.{◌≡◌, ◌≢◌, inl, inr, ℕ, zero, suc, ◌+◌, ◌-◌, ◌<◌, ◌≤◌, Bool, true, false, true≢false, not, List, [], ◌∷◌, length, get_or, drop, refl, sym, ◌∙◌, ap, arith}
use Rattle.std.specs.Prelude.{if◌then◌else◌, slice_index}
use Rattle.std.specs.List.{list_all}
use Rattle.std.proofs.lemmas.Bool.{cases_lt, lt-ltb, le-ltb}
use Rattle.std.proofs.lemmas.Bool.Decides.{eqb_tells}
use Rattle.std.proofs.lemmas.List.{get_or-drop, get_or_past}
use Rattle.hl_media.specs.History.{Image}
use Rattle.hl_inode.specs.declared.inode.Inode.{Inode}
use Rattle.hl_inode.specs.Pointers.{pointers_of}
use Rattle.hl_overlay.specs.declared.pointers.Pointer.{Pointer}
use Rattle.hl_overlay.specs.declared.pointers.Pointer.TheVariants as place
use Rattle.hl_overlay.specs.Pointing.{has_far, is_hole_pointer, pointer_to, where_is}
use Rattle.hl_overlay.specs.Making.{resolved}
use Rattle.hl_overlay.proofs.PointerLemmas.{some_far}
use Rattle.hl_nodes.specs.Pointers.{pointer_in, pointer_of}

-- an address as a pointer stands for itself
pub resolved-to : (plan : List ℕ) (x : ℕ) → resolved plan (pointer_to x) ≡ x
resolved-to plan x = elim (eqb_tells x 4294967295) [
  | inl t ↦ ap (λ (b : Bool). resolved plan (if b then place.Hole else place.Kept x)) t.0 ∙ sym t.1
  | inr t ↦ ap (λ (b : Bool). resolved plan (if b then place.Hole else place.Kept x)) t.0
]

all_holes : (xs : List Pointer) → list_all is_hole_pointer xs ≡ true → (j : ℕ) → get_or xs j place.Hole ≡ place.Hole
all_holes [] e j = refl
all_holes (place.Hole ∷ xs) e zero = refl
all_holes (place.Hole ∷ xs) e (suc j) = all_holes xs e j
all_holes (place.Kept a ∷ xs) e j = absurd (true≢false (sym e))
all_holes (place.Moved a s p ∷ xs) e j = absurd (true≢false (sym e))
all_holes (place.New n ∷ xs) e j = absurd (true≢false (sym e))

not_false : (b : Bool) → not b ≡ false → b ≡ true
not_false true e = refl
not_false false e = absurd (true≢false e)

pub far_some : (ps : List Pointer) → length ps ≡ 1036 → has_far ps ≡ true → (j : ℕ) × (j < 1024) × (where_is ps (12 + j) ≢ place.Hole)
far_some ps count far =
    let f = some_far ps far in
    let from = f.1 in
    let i : ℕ = f.0 in
    let back : 12 + (f.0 - 12) ≡ f.0 = omega arith in
    let ne : where_is ps (12 + (f.0 - 12)) ≢ place.Hole = (λ e. true≢false (sym (ap (λ n. is_hole_pointer (where_is ps n)) (sym back) ∙ ap is_hole_pointer e) ∙ f.2)) in
    (f.0 - 12, below (f.0 - 12) ne, ne)
  where
    below : (j : ℕ) → where_is ps (12 + j) ≢ place.Hole → j < 1024
    below j ne = elim (cases_lt j 1024) [ inl lt ↦ lt | inr ge ↦ absurd (ne (get_or_past ps (12 + j) place.Hole (omega arith))) ]

pub far_none : (ps : List Pointer) → has_far ps ≡ false → (j : ℕ) → where_is ps (12 + j) ≡ place.Hole
unfolding has_far
far_none ps near j = sym (get_or-drop 12 ps j place.Hole) ∙ all_holes (drop 12 ps) (not_false (list_all is_hole_pointer (drop 12 ps)) near) j

pub pointer_in_none : (image : Image) (j : ℕ) → pointer_in image 4294967295 j ≡ 4294967295
unfolding pointer_in
pointer_in_none image j = refl

pub pointer_in_some : (image : Image) (a j : ℕ) → a ≢ 4294967295 → pointer_in image a j ≡ slice_index (pointers_of (image a)) j
unfolding pointer_in
pointer_in_some image a j some = elim (eqb_tells a 4294967295) [
  | inl t ↦ absurd (some t.1)
  | inr t ↦ ap (λ (b : Bool). if b then 4294967295 else slice_index (pointers_of (image a)) j) t.0
]

pub pointer_of_near : (image : Image) (v : Inode) (i : ℕ) → i < 12 → pointer_of image v i ≡ slice_index v.direct i
unfolding pointer_of
pointer_of_near image v i lt = ap (λ (b : Bool). if b then slice_index v.direct i else pointer_in image v.single (i - 12)) (lt-ltb i 12 lt)

pub pointer_of_far : (image : Image) (v : Inode) (i : ℕ) → 12 ≤ i → pointer_of image v i ≡ pointer_in image v.single (i - 12)
unfolding pointer_of
pointer_of_far image v i le = ap (λ (b : Bool). if b then slice_index v.direct i else pointer_in image v.single (i - 12)) (le-ltb i 12 le)
