-- Whether steps lead from one number to another.
use Rattle.std.proofs.Common.{◌≡◌, ◌⊎◌, inl, inr, ⊎_elim, ℕ, zero, suc, ◌<◌, subst, arith}
use Rattle.std.proofs.lemmas.Bool.{cases_lt}
use Rattle.hl_nodes.proofs.Deciding.{Decided, both, one_of}

module _ (E : ℕ → ℕ → Type 0) where
  -- steps lead from x to y, in between over numbers below k alone
  abbrev pub Reaches : ℕ → ℕ → ℕ → Type 0
  Reaches zero x y = E x y
  Reaches (suc k) x y = Reaches k x y ⊎ (Reaches k x k × Reaches k k y)

  pub reaches_or_not : ((x y : ℕ) → Decided (E x y)) → (k x y : ℕ) → Decided (Reaches k x y)
  reaches_or_not test zero x y = test x y
  reaches_or_not test (suc k) x y = one_of (reaches_or_not test k x y) (both (reaches_or_not test k x k) (reaches_or_not test k k y))

  one_step : (k x y : ℕ) → E x y → Reaches k x y
  one_step zero x y e = e
  one_step (suc k) x y e = inl (one_step k x y e)

  to_next : (k x : ℕ) → Reaches (suc k) x k → Reaches k x k
  to_next k x (inl a) = a
  to_next k x (inr (a, c)) = a

  from_next : (k y : ℕ) → Reaches (suc k) k y → Reaches k k y
  from_next k y (inl b) = b
  from_next k y (inr (b, c)) = c

  -- what leads to a number and on from there leads on, where it may be passed over
  abbrev Joins : ℕ → Type 0
  Joins k = (x z y : ℕ) → z < k → Reaches k x z → Reaches k z y → Reaches k x y

  joins_below : (k : ℕ) → Joins k → (x z y : ℕ) → z < k → Reaches (suc k) x z → Reaches (suc k) z y → Reaches (suc k) x y
  joins_below k joins x z y low (inl a) (inl b) = inl (joins x z y low a b)
  joins_below k joins x z y low (inl a) (inr (b, c)) = inr (joins x z k low a b, c)
  joins_below k joins x z y low (inr (a, c)) (inl b) = inr (a, joins k z y low c b)
  joins_below k joins x z y low (inr (a, c)) (inr (b, d)) = inr (a, d)

  joins_next : (k : ℕ) → Joins k → Joins (suc k)
  joins_next k joins x z y lt a b = ⊎_elim
      (λ low. joins_below k joins x z y low a b)
      (λ high. (let e : z ≡ k = omega arith in inr (to_next k x (subst (λ (n : ℕ). Reaches (suc k) x n) e a), from_next k y (subst (λ (n : ℕ). Reaches (suc k) n y) e b))))
      (cases_lt z k)

  joined : (k : ℕ) → Joins k
  joined zero = λ x z y lt a b. absurd (omega arith)
  joined (suc k) = joins_next k (joined k)

  -- so many steps lead from x to y
  abbrev pub Steps : ℕ → ℕ → ℕ → Type 0
  Steps zero x y = x ≡ y
  Steps (suc n) x y = (z : ℕ) × E x z × Steps n z y

  -- where each step begins below a bound, what any steps reach is reached over numbers below it
  pub steps_reach : (bound : ℕ) → ((x y : ℕ) → E x y → x < bound) → (n x y : ℕ) → Steps (suc n) x y → Reaches bound x y
  steps_reach bound low zero x y (z, e, is) = one_step bound x y (subst (E x) is e)
  steps_reach bound low (suc n) x y (z, e, rest) =
      let at : z < bound = low z rest.0 rest.1 in
      joined bound x z y at (one_step bound x z e) (steps_reach bound low n z y rest)

  -- what holds of single steps, and of two in a row, holds of all that is reached
  pub reached : (L : ℕ → ℕ → Type 0) → ((x y : ℕ) → E x y → L x y) → ((x z y : ℕ) → L x z → L z y → L x y) → (k x y : ℕ) → Reaches k x y → L x y
  reached L one more zero x y e = one x y e
  reached L one more (suc k) x y (inl a) = reached L one more k x y a
  reached L one more (suc k) x y (inr (a, b)) = more x k y (reached L one more k x k a) (reached L one more k k y b)
