-- Where the blocks of a cut unit stand: where the log was free, each at an address of its own.
use Rattle.std.proofs.Common.{inl, inr, ⊎_elim, ℕ, zero, suc, ◌+◌, ◌-◌, ◌*◌, ◌<◌, ◌≤◌, ◌^◌, List, [], ◌∷◌, ◌++◌, length, get_or, refl, sym, subst, arith}
use Rattle.std.specs.Prelude.{Contains}
use Rattle.std.specs.List.{AllByRecursion, range_with_len}
use Rattle.std.proofs.Math.Nat.{mul-le-mul_left}
use Rattle.std.proofs.lemmas.List.{get_or_default}
use Rattle.std.proofs.lemmas.List.Elements.{All-from_get_or, recursion_from_All}
use Rattle.hl_addr.specs.Layout.{Layout, IsWithinLimits}
use Rattle.hl_image.specs.declared.place.LogPlace.{LogPlace}
use Rattle.hl_image.specs.Places.{block_at, log_end, IsLogPlace}
use Rattle.hl_log.specs.declared.piece.Piece.{Piece}
use Rattle.hl_log.specs.Free.{AreClean, IsFree, InOneOf, Once}
use Rattle.hl_log.specs.Cut.{AreCut, IsPlan, addresses}
use Rattle.hl_log.proofs.Cleans.{first_in_log, beside_other}
use Rattle.hl_log.proofs.Cutting.{within, place_then}
use Rattle.hl_log.proofs.Freed.{in_append, in_range, goes_free, part_not_free}
use Rattle.hl_log.proofs.Sites.{small_places}

-- numbers that stand once, in a run and in two lists
once_range : (a n : ℕ) → Once (range_with_len a n)
once_range a zero = tt
once_range a (suc n) = (λ i. (let r = in_range (a + 1) n a i in let lo = r.0 in omega arith), once_range (a + 1) n)

once_append : (xs ys : List ℕ) → Once xs → Once ys → ((x : ℕ) → Contains xs x → Contains ys x → ⊥) → Once (xs ++ ys)
once_append [] ys a b apart = b
once_append (x ∷ xs) ys a b apart =
    (λ i. ⊎_elim {C = ⊥} a.0 (λ j. apart x (0, omega arith, refl) j) (in_append xs ys x i), once_append xs ys a.1 b (λ y i j. apart y (let lt = i.1 in (suc i.0, omega arith, i.2)) j))

module _ (g : Layout) where
  in_row_free : (at : LogPlace) (n : ℕ) (clean : List ℕ) (x : ℕ) → at.block + n + 1 ≤ g.k → Contains (range_with_len (block_at g at + 1) n) x → IsFree g at clean x
  in_row_free at n clean x room i = (let r = in_range (block_at g at + 1) n x i in let lo = r.0 in let hi = r.1 in inl (omega arith, omega arith))

  -- the blocks of a unit lie where the log was free
  pub addresses_free : (at : LogPlace) (clean : List ℕ) (b t : ℕ) (pieces : List Piece) (rest : List ℕ) → IsLogPlace g at → AreClean g at.seg clean → AreCut g at clean b t pieces rest
      → (x : ℕ) → Contains (addresses g pieces) x → IsFree g at clean x
  addresses_free at clean b t [] rest place cleans none x i = absurd none
  addresses_free at clean b t (p ∷ []) rest place cleans cut x i =
      ⊎_elim (λ l. in_row_free at p.blocks clean x (within g at clean b t p rest place cut.0) (subst (λ (y : LogPlace). Contains (range_with_len (block_at g y + 1) p.blocks) x) cut.0.at_is l))
      (λ r. absurd (let lt = r.1 in omega arith))
      (in_append (range_with_len (block_at g p.at + 1) p.blocks) [] x i)
  addresses_free at clean b t (p ∷ q ∷ ps) rest place cleans cut x i =
      let then = place_then g at p.blocks clean p.next cut.0 place cleans cut.1.goes in
      ⊎_elim (λ l. in_row_free at p.blocks clean x (within g at clean b t p cut.0 place cut.1) (subst (λ (y : LogPlace). Contains (range_with_len (block_at g y + 1) p.blocks) x) cut.1.at_is l))
      (λ r. goes_free g at p.blocks clean p.next cut.0 x cut.1.goes (addresses_free p.next cut.0 (b - p.blocks) (t - p.tables) (q ∷ ps) rest then.0 then.1 cut.3 x r))
      (in_append (range_with_len (block_at g p.at + 1) p.blocks) (addresses g (q ∷ ps)) x i)

  -- each at an address of its own
  pub addresses_once : (at : LogPlace) (clean : List ℕ) (b t : ℕ) (pieces : List Piece) (rest : List ℕ) → IsLogPlace g at → AreClean g at.seg clean → AreCut g at clean b t pieces rest → Once (addresses g pieces)
  addresses_once at clean b t [] rest place cleans none = absurd none
  addresses_once at clean b t (p ∷ []) rest place cleans cut = once_append (range_with_len (block_at g p.at + 1) p.blocks) [] (once_range (block_at g p.at + 1) p.blocks) tt (λ x i j. (let lt = j.1 in omega arith))
  addresses_once at clean b t (p ∷ q ∷ ps) rest place cleans cut =
      let then = place_then g at p.blocks clean p.next cut.0 place cleans cut.1.goes in
      once_append (range_with_len (block_at g p.at + 1) p.blocks) (addresses g (q ∷ ps)) (once_range (block_at g p.at + 1) p.blocks)
      (addresses_once p.next cut.0 (b - p.blocks) (t - p.tables) (q ∷ ps) rest then.0 then.1 cut.3)
      (λ x i j.
      let here = subst (λ (y : LogPlace). Contains (range_with_len (block_at g y + 1) p.blocks) x) cut.1.at_is i in
      let r = in_range (block_at g at + 1) p.blocks x here in
      let lo = r.0 in
      let hi = r.1 in
      part_not_free g at p.blocks clean p.next cut.0 x cleans (within g at clean b t p cut.0 place cut.1) (omega arith) (omega arith) cut.1.goes
      (addresses_free p.next cut.0 (b - p.blocks) (t - p.tables) (q ∷ ps) rest then.0 then.1 cut.3 x j))

  in_one_below : (other : ℕ) (clean : List ℕ) (x : ℕ) → AreClean g other clean → InOneOf g clean x → x < log_end g
  in_one_below other [] x cleans none = absurd none
  in_one_below other (c ∷ clean) x cleans (inl here) =
      let high = (first_in_log g other c clean cleans).1 in
      let m : g.k * c ≤ g.k * g.log = mul-le-mul_left g.k high in
      let hi = here.1 in
      omega arith
  in_one_below other (c ∷ clean) x cleans (inr later) = in_one_below other clean x (beside_other g other c clean cleans) later

  -- what is free lies in the log
  pub free_below : (head : LogPlace) (clean : List ℕ) (x : ℕ) → IsLogPlace g head → AreClean g head.seg clean → IsFree g head clean x → x < log_end g
  free_below head clean x place cleans (inl here) = (let m : g.k * head.seg ≤ g.k * g.log = mul-le-mul_left g.k place.high in let hi = here.1 in omega arith)
  free_below head clean x place cleans (inr there) = in_one_below head.seg clean x cleans there

-- so the addresses have room in 32 bits
pub plan_fits : (g : Layout) (head : LogPlace) (clean : List ℕ) (b t : ℕ) (plan : List ℕ) → IsWithinLimits g → IsLogPlace g head → AreClean g head.seg clean → IsPlan g head clean b t plan → AllByRecursion (λ n. n < 2 ^ 32) plan
plan_fits g head clean b t plan limits place cleans (pieces, rest, cut, is) =
    let end = small_places g g.log g.k limits (omega arith) (omega arith) in
    let small : (i : ℕ) → i < length (addresses g pieces) → get_or (addresses g pieces) i 0 < 2 ^ 32 = λ i lt.
    (let x = get_or (addresses g pieces) i 0 in
    let free = addresses_free g head clean b t pieces rest place cleans cut x (i, lt, get_or_default (addresses g pieces) i x 0 lt) in
    let below = free_below g head clean x place cleans free in
    omega arith) in
    subst (λ (l : List ℕ). AllByRecursion (λ n. n < 2 ^ 32) l) (sym is) (recursion_from_All (λ n. n < 2 ^ 32) (addresses g pieces) (All-from_get_or (λ n. n < 2 ^ 32) (addresses g pieces) 0 small))
