-- What is free behind the parts of a cut: it was free before, and is none of their blocks.
use Rattle.std.proofs.Common.{◌≡◌, inl, inr, ◌⊎◌, ⊎_elim, ℕ, zero, suc, ◌+◌, ◌-◌, ◌*◌, ◌<◌, ◌≤◌, List, [], ◌∷◌, ◌++◌, sym, ap, subst, arith}
use Rattle.std.specs.Prelude.{Contains}
use Rattle.std.specs.List.{range_with_len}
use Rattle.hl_addr.specs.Layout.{Layout}
use Rattle.hl_image.specs.declared.place.LogPlace.{LogPlace}
use Rattle.hl_image.specs.Places.{block_at, IsLogPlace}
use Rattle.hl_image.proofs.ChainLemmas.{apart}
use Rattle.hl_log.specs.declared.piece.Piece.{Piece}
use Rattle.hl_log.specs.Free.{IsFree, InOneOf, AreClean}
use Rattle.hl_log.specs.Cut.{Goes, AreCut, addresses, place_behind}
use Rattle.hl_log.proofs.Cutting.{within, place_then}
use Rattle.hl_log.proofs.Cleans.{first_or_later, first_apart}
use Rattle.hl_log.proofs.Steps.{in_one_apart}

-- what lists contain
pub in_append : (xs ys : List ℕ) (x : ℕ) → Contains (xs ++ ys) x → Contains xs x ⊎ Contains ys x
in_append [] ys x i = inr i
in_append (y ∷ xs) ys x i = ⊎_elim
    (λ e. inl (0, omega arith, e))
    (λ j. ⊎_elim (λ l. inl (let lt = l.1 in (suc l.0, omega arith, l.2))) (λ r. inr r) (in_append xs ys x j))
    (first_or_later y x (xs ++ ys) i)

pub in_range : (a n x : ℕ) → Contains (range_with_len a n) x → (a ≤ x) × (x < a + n)
in_range a zero x i = absurd (let lt = i.1 in omega arith)
in_range a (suc n) x i = ⊎_elim (λ e. (omega arith, omega arith)) (λ j. let r = in_range (a + 1) n x j in let lo = r.0 in let hi = r.1 in (omega arith, omega arith)) (first_or_later a x (range_with_len (a + 1) n) i)

module _ (g : Layout) where
  -- what is free behind a part was free before it
  pub goes_free : (at : LogPlace) (n : ℕ) (clean : List ℕ) (next : LogPlace) (more : List ℕ) (k : ℕ) → Goes g at n clean next more → IsFree g next more k → IsFree g at clean k
  goes_free at n clean next more k (inl near) (inl here) =
      let m : g.k * next.seg ≡ g.k * at.seg = ap (λ (x : ℕ). g.k * x) near.1 in
      let b = near.2 in
      let lo = here.0 in
      let hi = here.1 in
      inl (omega arith, omega arith)
  goes_free at n clean next more k (inl near) (inr there) = inr (subst (λ (l : List ℕ). InOneOf g l k) near.3 there)
  goes_free at n clean next more k (inr far) (inl here) =
      let lo = here.0 in
      let hi = here.1 in
      inr (subst (λ (l : List ℕ). InOneOf g l k) (sym far.1) (inl (omega arith, hi)))
  goes_free at n clean next more k (inr far) (inr there) = inr (subst (λ (l : List ℕ). InOneOf g l k) (sym far.1) (inr there))

  -- a block of a part isn't free behind it
  pub part_not_free : (at : LogPlace) (n : ℕ) (clean : List ℕ) (next : LogPlace) (more : List ℕ) (k : ℕ) → AreClean g at.seg clean → at.block + n + 1 ≤ g.k → block_at g at ≤ k → k ≤ block_at g at + n
      → Goes g at n clean next more → IsFree g next more k → ⊥
  part_not_free at n clean next more k cleans room lo hi (inl near) (inl here) =
      let m : g.k * next.seg ≡ g.k * at.seg = ap (λ (x : ℕ). g.k * x) near.1 in
      let b = near.2 in
      let low = here.0 in
      omega arith
  part_not_free at n clean next more k cleans room lo hi (inl near) (inr there) = in_one_apart g at.seg clean k cleans (subst (λ (l : List ℕ). InOneOf g l k) near.3 there) (omega arith) (omega arith)
  part_not_free at n clean next more k cleans room lo hi (inr far) (inl here) =
      let cs = subst (AreClean g at.seg) far.1 cleans in
      let low = here.0 in
      apart g next.seg at.seg k (first_apart g at.seg next.seg more cs) (omega arith) here.1 (omega arith) (omega arith)
  part_not_free at n clean next more k cleans room lo hi (inr far) (inr there) = in_one_apart g at.seg clean k cleans (subst (λ (l : List ℕ). InOneOf g l k) (sym far.1) (inr there)) (omega arith) (omega arith)

  pub was_free : (at : LogPlace) (clean : List ℕ) (b t : ℕ) (pieces : List Piece) (rest : List ℕ) → AreCut g at clean b t pieces rest → (k : ℕ) → IsFree g (place_behind at pieces) rest k → IsFree g at clean k
  was_free at clean b t [] rest none k free = absurd none
  was_free at clean b t (p ∷ []) rest cut k free = goes_free at p.blocks clean p.next rest k cut.0.goes free
  was_free at clean b t (p ∷ q ∷ ps) rest cut k free = goes_free at p.blocks clean p.next cut.0 k cut.1.goes (was_free p.next cut.0 (b - p.blocks) (t - p.tables) (q ∷ ps) rest cut.3 k free)

  in_part : (at place : LogPlace) (n : ℕ) (k : ℕ) → place ≡ at → Contains (range_with_len (block_at g place + 1) n) k → (block_at g at ≤ k) × (k ≤ block_at g at + n)
  in_part at place n k same i =
      let r = in_range (block_at g at + 1) n k (subst (λ (x : LogPlace). Contains (range_with_len (block_at g x + 1) n) k) same i) in
      let lo = r.0 in
      let hi = r.1 in
      (omega arith, omega arith)

  pub none_free : (at : LogPlace) (clean : List ℕ) (b t : ℕ) (pieces : List Piece) (rest : List ℕ) → IsLogPlace g at → AreClean g at.seg clean → AreCut g at clean b t pieces rest
      → (k : ℕ) → Contains (addresses g pieces) k → IsFree g (place_behind at pieces) rest k → ⊥
  none_free at clean b t [] rest place cleans none k i free = none
  none_free at clean b t (p ∷ []) rest place cleans cut k i free = ⊎_elim {C = ⊥}
      (λ l. (let r = in_part at p.at p.blocks k cut.0.at_is l in part_not_free at p.blocks clean p.next rest k cleans (within g at clean b t p rest place cut.0) r.0 r.1 cut.0.goes free))
      (λ r. (let lt = r.1 in omega arith))
      (in_append (range_with_len (block_at g p.at + 1) p.blocks) [] k i)
  none_free at clean b t (p ∷ q ∷ ps) rest place cleans cut k i free =
      let then = place_then g at p.blocks clean p.next cut.0 place cleans cut.1.goes in ⊎_elim {C = ⊥}
      (λ l.
      let r = in_part at p.at p.blocks k cut.1.at_is l in
      part_not_free at p.blocks clean p.next cut.0 k cleans (within g at clean b t p cut.0 place cut.1) r.0 r.1 cut.1.goes
      (was_free p.next cut.0 (b - p.blocks) (t - p.tables) (q ∷ ps) rest cut.3 k free))
      (λ r. none_free p.next cut.0 (b - p.blocks) (t - p.tables) (q ∷ ps) rest then.0 then.1 cut.3 k r free)
      (in_append (range_with_len (block_at g p.at + 1) p.blocks) (addresses g (q ∷ ps)) k i)
