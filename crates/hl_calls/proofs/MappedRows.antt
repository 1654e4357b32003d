-- Finite maps from numbers whose values are made of those of another.
use Rattle.std.proofs.Common.{◌≡◌, ℕ, Bool, true, false, ◌&&◌, cond, T, List, [], ◌∷◌, Option, Some, None, refl, ap, ◌∙◌, sym, subst}
use Rattle.std.specs.Option.{option_map}
use Rattle.std.specs.Ordering.{nat_cmp, eq_by_cmp, is_lt}
use Rattle.std.specs.Cmp.{nat_cmp_total}
use Rattle.std.specs.FinMap.{FinMap, get, entries, entries_sorted, from_entries, get-entries, get-from_entries, nat_cmp-IsAntisymmetric}
use Rattle.std.specs.FinMap.Entries.{find, below_all, is_sorted, same_entries}
use Rattle.hl_paths.specs.Links.{same_number}
use Rattle.hl_paths.proofs.Relinks.{number_is}

module _ {X Y : Type 0} (f : ℕ → X → Y) where
  -- each row with another value
  abbrev pub rows : List (ℕ × X) → List (ℕ × Y)
  rows [] = []
  rows (e ∷ es) = (e.0, f e.0 e.1) ∷ rows es

  below-rows : (n : ℕ) (es : List (ℕ × X)) → below_all nat_cmp n (rows es) ≡ below_all nat_cmp n es
  below-rows n [] = refl
  below-rows n (e ∷ es) = ap (λ b. is_lt (nat_cmp n e.0) && b) (below-rows n es)

  sorted-rows : (es : List (ℕ × X)) → is_sorted nat_cmp (rows es) ≡ is_sorted nat_cmp es
  sorted-rows [] = refl
  sorted-rows (e ∷ es) = λ i. below-rows e.0 es i && sorted-rows es i

  find-rows : (n : ℕ) (es : List (ℕ × X)) → find nat_cmp n (rows es) ≡ option_map (f n) (find nat_cmp n es)
  find-rows n [] = refl
  find-rows n (e ∷ es) = ap (cond (same_number n e.0) (Some (f e.0 e.1))) (find-rows n es) ∙ one (same_number n e.0) refl
    where
      one : (b : Bool) → same_number n e.0 ≡ b → cond b (Some (f e.0 e.1)) (option_map (f n) (find nat_cmp n es)) ≡ option_map (f n) (cond b (Some e.1) (find nat_cmp n es))
      one true is = ap (λ k. Some (f k e.1)) (sym (number_is n e.0 is))
      one false is = refl

  -- the map of these rows
  pub mapped : FinMap nat_cmp X → FinMap nat_cmp Y
  mapped m = from_entries (rows (entries m))

  pub get-mapped : (m : FinMap nat_cmp X) (n : ℕ) → get (mapped m) n ≡ option_map (f n) (get m n)
  unfolding mapped
  get-mapped m n = get-from_entries nat_cmp_total (rows (entries m)) n ∙ find-rows n (entries m) ∙ ap (option_map (f n)) (sym (get-entries m n))

  pub entries-mapped : (m : FinMap nat_cmp X) → entries (mapped m) ≡ rows (entries m)
  unfolding mapped
  entries-mapped m = same_entries nat_cmp nat_cmp_total nat_cmp-IsAntisymmetric (entries (mapped m)) (rows (entries m)) (entries_sorted (mapped m))
      (subst T (sym (sorted-rows (entries m))) (entries_sorted m))
      (λ n. sym (get-entries (mapped m) n) ∙ get-from_entries nat_cmp_total (rows (entries m)) n)
