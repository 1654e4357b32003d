-- Lists of which each element stands so to each later one.
use Rattle.std.proofs.Common.{⊎_elim, ℕ, zero, suc, ◌<◌, ◌++◌, List, [], ◌∷◌, length, get_or, subst, arith}
use Rattle.std.specs.Prelude.{AllPairs, Contains}
use Rattle.std.proofs.lemmas.List.Elements.{Contains-get_or}
use Rattle.hl_nodes.proofs.Membership.{head_in, tail_in, in_append}

module _ {X : Type 0} (R : X → X → Type 0) where
  pub pairs_nil : AllPairs R []
  pairs_nil = λ i j d lt hi. absurd (omega arith)

  pub pairs_cons : (x : X) (xs : List X) → ((y : X) → Contains xs y → R x y) → AllPairs R xs → AllPairs R (x ∷ xs)
  pairs_cons x xs first rest = by
    where
      by : (i j : ℕ) (d : X) → i < j → j < length (x ∷ xs) → R (get_or (x ∷ xs) i d) (get_or (x ∷ xs) j d)
      by i zero d lt hi = absurd (omega arith)
      by zero (suc j) d lt hi = first (get_or xs j d) (Contains-get_or xs j d (omega arith))
      by (suc i) (suc j) d lt hi = rest i j d (omega arith) (omega arith)

  pub pairs_head : (x y : X) (xs : List X) → AllPairs R (x ∷ xs) → Contains xs y → R x y
  pairs_head x y xs all c = (let lt = c.1 in subst (R x) c.2 (all 0 (suc c.0) y (omega arith) (omega arith)))

  pub pairs_tail : (x : X) (xs : List X) → AllPairs R (x ∷ xs) → AllPairs R xs
  pairs_tail x xs all = λ i j d lt hi. all (suc i) (suc j) d (omega arith) (omega arith)

  pub pairs_append : (xs ys : List X) → AllPairs R xs → AllPairs R ys → ((x y : X) → Contains xs x → Contains ys y → R x y) → AllPairs R (xs ++ ys)
  pairs_append [] ys one other cross = other
  pairs_append (x ∷ xs) ys one other cross = pairs_cons x (xs ++ ys)
      (λ y c. ⊎_elim (λ l. pairs_head x y xs one l) (λ r. cross x y (head_in x xs) r) (in_append xs ys y c))
      (pairs_append xs ys (pairs_tail x xs one) other (λ a b l r. cross a b (tail_in x a xs l) r))
