-- Racks that have the same slots of each volume.
use Rattle.std.proofs.Common.{◌≡◌, ℕ, suc, ◌<◌, ◌≤◌, List, [], ◌∷◌, length, slice_index, refl, sym, ◌∙◌, ap, arith}
use Rattle.std.specs.Prelude.{Some, slice_get}
use Rattle.std.proofs.lemmas.Option.{slice_get_past, slice_get-get_or}
use Rattle.hl_recovery.specs.Racks.{DifferFirstAt}

-- lists that have the same at each place of the one, and of which the other is no longer
pub same_by_places : (xs ys : List ℕ) → length xs ≤ length ys → ((i : ℕ) → i < length ys → slice_get xs i ≡ slice_get ys i) → xs ≡ ys
same_by_places [] [] le same = refl
same_by_places [] (y ∷ ys) le same = absurd (let e = same 0 (omega arith) in cc)
same_by_places (x ∷ xs) [] le same = absurd (omega arith)
same_by_places (x ∷ xs) (y ∷ ys) le same =
    let e = same 0 (omega arith) in
    let first : x ≡ y = cc in
    let rest : xs ≡ ys = same_by_places xs ys (omega arith) (λ i lt. same (suc i) (omega arith)) in
    cc

module _ (volumes rack : List ℕ) (i : ℕ) (before : (k : ℕ) → k < i → slice_get rack k ≡ slice_get volumes k) where
  -- the rack lacks the volume
  pub lacks : i < length volumes → length rack ≤ i → DifferFirstAt volumes rack i
  lacks lt past = record {
    here = λ same. (let a = slice_get_past rack i past in let b = slice_get-get_or volumes i 0 lt in absurd cc);
    before = before;
  }

  -- both have it, with other slots
  pub has_other : i < length volumes → i < length rack → (slice_index rack i ≡ slice_index volumes i → ⊥) → DifferFirstAt volumes rack i
  has_other lt low differ = record {
    here = λ same. differ (let a = slice_get-get_or rack i 0 low in let b = slice_get-get_or volumes i 0 lt in cc);
    before = before;
  }

  -- the record lacks it
  pub has_more : i ≡ length volumes → i < length rack → DifferFirstAt volumes rack i
  has_more is low = record {
    here = λ same. (let a = slice_get-get_or rack i 0 low in let b = slice_get_past volumes i (omega arith) in absurd cc);
    before = before;
  }

  -- both have the same slots here too
  pub same_more : i < length volumes → i < length rack → slice_index rack i ≡ slice_index volumes i → slice_get rack i ≡ slice_get volumes i
  same_more lt low e = slice_get-get_or rack i 0 low ∙ ap Some e ∙ sym (slice_get-get_or volumes i 0 lt)
