-- Clean segments, one after the other.
use Rattle.std.proofs.Common.{◌≡◌, ◌⊎◌, inl, inr, ℕ, zero, suc, ◌*◌, ◌≤◌, List, [], ◌∷◌, refl, arith}
use Rattle.std.specs.Prelude.{Contains}
use Rattle.std.proofs.Math.Nat.{mul-le-mul_left}
use Rattle.hl_addr.specs.Layout.{Layout}
use Rattle.hl_image.specs.declared.place.LogPlace.{LogPlace}
use Rattle.hl_image.specs.Places.{IsLogPlace}
use Rattle.hl_log.specs.Free.{AreClean, IsFree, InOneOf}

-- what lists contain
pub first_of_all : (x : ℕ) (xs : List ℕ) → Contains (x ∷ xs) x
first_of_all x xs = (0, omega arith, refl)

pub later_too : (x y : ℕ) (xs : List ℕ) → Contains xs y → Contains (x ∷ xs) y
later_too x y xs (k, lt, e) = (suc k, omega arith, e)

pub first_or_later : (x y : ℕ) (xs : List ℕ) → Contains (x ∷ xs) y → (x ≡ y) ⊎ Contains xs y
first_or_later x y xs (zero, lt, e) = inl e
first_or_later x y xs (suc k, lt, e) = inr (k, omega arith, e)

-- a first clean segment is one of the log and another one, and those behind it are clean beside it and beside the other
module _ (g : Layout) (other c : ℕ) (clean : List ℕ) (cleans : AreClean g other (c ∷ clean)) where
  pub first_in_log : (1 ≤ c) × (c ≤ g.log)
  first_in_log = cleans.in_log c (first_of_all c clean)

  pub first_apart : c ≡ other → ⊥
  first_apart e = cleans.apart (0, omega arith, e)

  pub beside_first : AreClean g c clean
  beside_first = record { in_log = λ d i. cleans.in_log d (later_too c d clean i); once = cleans.once.1; apart = cleans.once.0 }

  pub beside_other : AreClean g other clean
  beside_other = record { in_log = λ d i. cleans.in_log d (later_too c d clean i); once = cleans.once.1; apart = λ i. cleans.apart (later_too c other clean i) }

-- a block of a clean segment lies behind the label's segment
pub in_one_from : (g : Layout) (other : ℕ) (clean : List ℕ) (k : ℕ) → AreClean g other clean → InOneOf g clean k → g.k ≤ k
in_one_from g other [] k cleans none = absurd none
in_one_from g other (c ∷ clean) k cleans (inl here) =
    let low = (first_in_log g other c clean cleans).0 in
    let m : g.k * 1 ≤ g.k * c = mul-le-mul_left g.k low in
    let lo = here.0 in
    omega arith
in_one_from g other (c ∷ clean) k cleans (inr later) = in_one_from g other clean k (beside_other g other c clean cleans) later

-- what is free lies behind the label's segment
pub free_from : (g : Layout) (head : LogPlace) (clean : List ℕ) (k : ℕ) → IsLogPlace g head → AreClean g head.seg clean → IsFree g head clean k → g.k ≤ k
free_from g head clean k place cleans (inl here) = (let m : g.k * 1 ≤ g.k * head.seg = mul-le-mul_left g.k place.low in let lo = here.0 in omega arith)
free_from g head clean k place cleans (inr there) = in_one_from g head.seg clean k cleans there
