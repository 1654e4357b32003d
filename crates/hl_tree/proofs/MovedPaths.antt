-- The new paths of the rows that move, row by row.
use Rattle.std.proofs.Common.{◌≡◌, ℕ, ◌+◌, ◌-◌, ◌<◌, ◌≤◌, List, [], ◌∷◌, ◌++◌, length, take, drop, get_or, set, cond, Option, Some, None, is_some, is_none, refl, ap, ◌∙◌, sym, arith}
use Rattle.std.proofs.lemmas.List.{drop_more, length_push, length-drop, get_or-drop, take-set-le, drop-set-add}
use Rattle.hl_tree.specs.Names.{below, put_under}
use Rattle.hl_tree.specs.Moved.{kept_rows, moving_rows, moved_keys, moving_rest, rest_unless, with_keys}

module _ {X : Type 0} (from to : List (List ℕ)) where
  keys : List (List (List ℕ) × X) → List (List (List ℕ))
  keys es = moved_keys from to (moving_rows from (kept_rows to es))

  key_more : (x : List (List ℕ) × X) (es : List (List (List ℕ) × X)) (o p : Option (List (List ℕ))) → below to x.0 ≡ o → below from x.0 ≡ p → (rest : List (List ℕ)) → rest_unless o p ≡ Some rest
      → keys (x ∷ es) ≡ (to ++ rest) ∷ keys es
  unfolding keys
  key_more x es (Some gone) p h g rest is = cc
  key_more x es None None h g rest is = cc
  key_more x es None (Some r) h g rest is =
      step ∙ ap (λ o. put_under to x.0 o ∷ keys es) (g ∙ is)
    where
      step : keys (x ∷ es) ≡ put_under to x.0 (below from x.0) ∷ keys es
      step = ap (λ o. moved_keys from to (moving_rows from (cond (is_none o) (x ∷ kept_rows to es) (kept_rows to es)))) h
          ∙ ap (λ o. moved_keys from to (cond (is_some o) (x ∷ moving_rows from (kept_rows to es)) (moving_rows from (kept_rows to es)))) g

  key_same : (x : List (List ℕ) × X) (es : List (List (List ℕ) × X)) (o p : Option (List (List ℕ))) → below to x.0 ≡ o → below from x.0 ≡ p → rest_unless o p ≡ None → keys (x ∷ es) ≡ keys es
  unfolding keys
  key_same x es (Some gone) p h g is = ap (λ o. moved_keys from to (moving_rows from (cond (is_none o) (x ∷ kept_rows to es) (kept_rows to es)))) h
  key_same x es None None h g is = ap (λ o. moved_keys from to (moving_rows from (cond (is_none o) (x ∷ kept_rows to es) (kept_rows to es)))) h
      ∙ ap (λ o. moved_keys from to (cond (is_some o) (x ∷ moving_rows from (kept_rows to es)) (moving_rows from (kept_rows to es)))) g
  key_same x es None (Some r) h g is = cc

  module _ (rows : List (List (List ℕ) × X)) (i : ℕ) (x : List (List ℕ) × X) (within : i < length rows) (at : x ≡ get_or rows i x) where
    here : drop i rows ≡ x ∷ drop (i + 1) rows
    here = drop_more rows i x within ∙ ap (λ y. y ∷ drop (i + 1) rows) (sym at)

    pub paths_more : (rest : List (List ℕ)) → moving_rest from to x.0 ≡ Some rest
        → moved_keys from to (moving_rows from (kept_rows to (drop i rows))) ≡ (to ++ rest) ∷ moved_keys from to (moving_rows from (kept_rows to (drop (i + 1) rows)))
    unfolding keys
    paths_more rest is = ap (λ es. moved_keys from to (moving_rows from (kept_rows to es))) here ∙ key_more x (drop (i + 1) rows) (below to x.0) (below from x.0) refl refl rest is

    pub paths_same : moving_rest from to x.0 ≡ None
        → moved_keys from to (moving_rows from (kept_rows to (drop i rows))) ≡ moved_keys from to (moving_rows from (kept_rows to (drop (i + 1) rows)))
    unfolding keys
    paths_same is = ap (λ es. moved_keys from to (moving_rows from (kept_rows to es))) here ∙ key_same x (drop (i + 1) rows) (below to x.0) (below from x.0) refl refl is

module _ {X : Type 0} where
  -- the last of the paths first
  pub with_keys_last : (ps : List (List (List ℕ))) (p : List (List ℕ)) (es : List (List (List ℕ) × X)) (d : List (List ℕ) × X) → length ps < length es
      → with_keys ps (set es (length ps) (p, (get_or es (length ps) d).1)) ≡ with_keys (ps ++ p ∷ []) es
  with_keys_last [] p [] d h = absurd (omega arith)
  with_keys_last [] p (e ∷ es) d h = refl
  with_keys_last (q ∷ ps) p [] d h = absurd (omega arith)
  with_keys_last (q ∷ ps) p (e ∷ es) d h = ap (λ rest. (q, e.1) ∷ rest) (with_keys_last ps p es d (omega arith))

  -- one more path given to its row
  pub renamed_more : (rows : List (List (List ℕ) × X)) (ps was : List (List (List ℕ))) (p : List (List ℕ)) (start n : ℕ) (e : List (List ℕ) × X) → was ≡ ps ++ p ∷ [] → n ≡ length ps → e ≡ get_or rows (start + n) e → start + length was ≤ length rows
      → take start (set rows (start + n) (p, e.1)) ++ with_keys ps (drop start (set rows (start + n) (p, e.1))) ≡ take start rows ++ with_keys was (drop start rows)
  renamed_more rows ps was p start n e is count at fits =
      let size : length was ≡ length ps + 1 = ap length is ∙ length_push ps p in
      let left : length (drop start rows) ≡ length rows - start = length-drop start rows in
      let low : start ≤ start + n = omega arith in
      let within : length ps < length (drop start rows) = omega arith in
      let node : e.1 ≡ (get_or (drop start rows) (length ps) e).1 = ap (λ (x : List (List ℕ) × X). x.1) (at ∙ ap (λ k. get_or rows (start + k) e) count ∙ sym (get_or-drop start rows (length ps) e)) in
      (λ i. take-set-le start rows (start + n) (p, e.1) low i ++ with_keys ps (drop-set-add start rows n (p, e.1) i))
      ∙ ap (λ k. take start rows ++ with_keys ps (set (drop start rows) k (p, e.1))) count
      ∙ ap (λ v. take start rows ++ with_keys ps (set (drop start rows) (length ps) (p, v))) node
      ∙ ap (λ back. take start rows ++ back) (with_keys_last ps p (drop start rows) e within)
      ∙ ap (λ keys. take start rows ++ with_keys keys (drop start rows)) (sym is)
