-- How many lines may not be dropped, as one changes.
use Rattle.std.proofs.Common.{arith, ◌≡◌, ℕ, zero, suc, ◌+◌, ◌≤◌, Bool, true, false, cond, List, [], ◌∷◌, filter, get_or, set, length, refl, ap, sym, subst, T}
use Rattle.hl_lines.specs.declared.state.LineState.{LineState}
use Rattle.hl_lines.specs.declared.state.LineState.TheVariants.{Empty}
use Rattle.hl_lines.specs.Lines.{is_held}
use Rattle.hl_model.specs.Lines.{count_held}

grow : (b : Bool) (state : LineState) (lines : List LineState) → count_held lines ≤ length (cond b (state ∷ filter is_held lines) (filter is_held lines))
grow true state lines = omega arith
grow false state lines = omega arith

-- a head before two lists
before : (b : Bool) (state : LineState) (xs ys : List LineState) (n : ℕ) → length xs ≤ length ys + n → length (cond b (state ∷ xs) xs) ≤ length (cond b (state ∷ ys) ys) + n
before true state xs ys n h = omega arith
before false state xs ys n h = h

-- one more at most
pub held-set : (lines : List LineState) (i : ℕ) (state : LineState) → count_held (set lines i state) ≤ count_held lines + 1
held-set [] i state = omega arith
held-set (line ∷ lines) zero state = elim (is_held state) as (λ b. length (cond b (state ∷ filter is_held lines) (filter is_held lines)) ≤ count_held (line ∷ lines) + 1) [
  | true ↦ let less = grow (is_held line) line lines in omega arith
  | false ↦ let less = grow (is_held line) line lines in omega arith
]
held-set (line ∷ lines) (suc i) state = before (is_held line) line (filter is_held (set lines i state)) (filter is_held lines) 1 (held-set lines i state)

-- none more where the new state may be dropped
pub held-dropped : (lines : List LineState) (i : ℕ) (state : LineState) → is_held state ≡ false → count_held (set lines i state) ≤ count_held lines + 0
held-dropped [] i state e = omega arith
held-dropped (line ∷ lines) zero state e =
    let less = grow (is_held line) line lines in
    let same : count_held (state ∷ lines) ≡ count_held lines = λ j. length (cond (e j) (state ∷ filter is_held lines) (filter is_held lines)) in
    omega arith
held-dropped (line ∷ lines) (suc i) state e = before (is_held line) line (filter is_held (set lines i state)) (filter is_held lines) 0 (held-dropped lines i state e)

-- nor where the old one might not either
pub held-kept : (lines : List LineState) (i : ℕ) (state : LineState) → is_held (get_or lines i Empty) ≡ true → count_held (set lines i state) ≤ count_held lines + 0
held-kept [] i state e = omega arith
held-kept (line ∷ lines) zero state e =
    let same : count_held (line ∷ lines) ≡ suc (count_held lines) = λ j. length (cond (e j) (line ∷ filter is_held lines) (filter is_held lines)) in
    let less = one_more (is_held state) state lines in
    omega arith
  where
    one_more : (b : Bool) (state : LineState) (lines : List LineState) → length (cond b (state ∷ filter is_held lines) (filter is_held lines)) ≤ suc (count_held lines)
    one_more true state lines = omega arith
    one_more false state lines = omega arith
held-kept (line ∷ lines) (suc i) state e = before (is_held line) line (filter is_held (set lines i state)) (filter is_held lines) 0 (held-kept lines i state e)

-- as many of each of two lists whose states are alike
pub held-alike : (xs ys : List LineState) → length xs ≡ length ys → ((i : ℕ) → is_held (get_or xs i Empty) ≡ is_held (get_or ys i Empty)) → count_held xs ≡ count_held ys
held-alike [] [] long alike = refl
held-alike [] (y ∷ ys) long alike = absurd (omega arith)
held-alike (x ∷ xs) [] long alike = absurd (omega arith)
held-alike (x ∷ xs) (y ∷ ys) long alike = by_head (is_held x) (is_held y) (alike 0) (held-alike xs ys (omega arith) (λ i. alike (suc i)))
  where
    by_head : (a b : Bool) → a ≡ b → count_held xs ≡ count_held ys → length (cond a (x ∷ filter is_held xs) (filter is_held xs)) ≡ length (cond b (y ∷ filter is_held ys) (filter is_held ys))
    by_head true true e rest = ap suc rest
    by_head false false e rest = rest
    by_head true false e rest = absurd (subst T e tt)
    by_head false true e rest = absurd (subst T (sym e) tt)
