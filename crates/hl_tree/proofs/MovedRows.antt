-- The rows of a tree in which a node moves: those that move stand together, and so they do at their new place.
use Rattle.std.proofs.Common.{arith, ◌≡◌, ℕ, ◌+◌, ◌-◌, ◌≤◌, Bool, true, false, cond, T, ◌&&◌, List, [], ◌∷◌, ◌++◌, length, take, drop, get_or, Option, Some, None, is_some, is_none, All, suc, refl, ap, ◌∙◌, sym, subst, length-append}
use Rattle.std.proofs.lemmas.List.{append_assoc, append-nil, take-append-drop, take_at, drop_at, drop_all, take_rest, take-append-le, drop-append-le, get_or-drop, length-take, length-drop}
use Rattle.std.proofs.lemmas.List.Elements.{All-cons, All-tail, All-append}
use Rattle.std.specs.declared.cmp.Ordering.{Ordering}
use Rattle.std.specs.declared.cmp.Ordering.TheVariants.{Less, Equal, Greater}
use Rattle.std.specs.Ordering.{is_lt, is_eq, eq_by_cmp, ordering_reverse, ordering_then}
use Rattle.std.specs.Cmp.Lexicographic.{nat_list_cmp_total}
use Rattle.std.specs.FinMap.Entries.{find, put, is_sorted, below_all, is_sorted-put, is_sorted-where_key, find-put, same_entries}
use Rattle.hl_tree.specs.declared.node.Node.{Node}
use Rattle.hl_tree.specs.Names.{path_cmp, below, moved_path, put_under}
use Rattle.hl_tree.specs.Tree.{moved_entries}
use Rattle.hl_tree.specs.Places.{InOrder, IsAround}
use Rattle.hl_tree.specs.Moved.{put_all, kept_rows, moving_rows, moved_rows_of, moved_keys, with_keys}
use Rattle.hl_tree.proofs.NamesBelow.{name_cmp, append-below}
use Rattle.hl_tree.proofs.Maps.{path_total, path_exact}
use Rattle.hl_tree.proofs.Moved.{Names, same, same_is, below-append, path_cmp-append}
use Rattle.hl_tree.proofs.Places.{All-head, all_above, put_past, put_above}

clash : {A : Type 0} → true ≡ false → A
clash e = absurd (subst T e tt)

less_is : (o : Ordering) → T (is_lt o) → o ≡ Less
less_is Less p = refl
less_is Equal p = absurd p
less_is Greater p = absurd p

-- a path that lies between a path and one below it is below it
between : (path a r : Names) → (path_cmp a path ≡ Less → ⊥) → path_cmp a (path ++ r) ≡ Less → is_some (below path a) ≡ true
between [] a r from lt = refl
between (x ∷ path) [] r from lt = absurd (from refl)
between (x ∷ path) (y ∷ a) r from lt =
    elim (name_cmp y x) as (λ o. name_cmp y x ≡ o → (ordering_then o (path_cmp a path) ≡ Less → ⊥) → ordering_then o (path_cmp a (path ++ r)) ≡ Less → is_some (below (x ∷ path) (y ∷ a)) ≡ true) [
      | Less ↦ λ t f l. absurd (f refl)
      | Equal ↦ λ t f l. ap (λ o. is_some (cond (is_eq o) (below path a) None)) (nat_list_cmp_total.antisymm x y ∙ ap ordering_reverse t) ∙ between path a r f l
      | Greater ↦ λ t f l. clash (sym (ap is_lt l))
    ] refl from lt

-- what is below a path is not less
not_less : (path r : Names) → path_cmp (path ++ r) path ≡ Less → ⊥
not_less path r lt = first_of r (ap (path_cmp (path ++ r)) (append-nil path) ∙ lt)
  where
    first_of : (r : Names) → path_cmp (path ++ r) (path ++ []) ≡ Less → ⊥
    first_of r lt = start r (sym (path_cmp-append path r []) ∙ lt)
      where
        start : (r : Names) → path_cmp r [] ≡ Less → ⊥
        start [] e = clash (sym (ap is_lt e))
        start (x ∷ r) e = clash (sym (ap is_lt e))

pub less_apart : (path a : Names) → path_cmp a path ≡ Less → below path a ≡ None
less_apart path a lt = elim (below path a) as (λ o. below path a ≡ o → o ≡ None) [
  | None ↦ λ h. refl
  | Some r ↦ λ h. absurd (not_less path r (ap (λ b. path_cmp b path) (append-below path a r h) ∙ lt))
] refl

-- what is above a path, and not below it, is above all that is below it
above_all : (path a r : Names) → path_cmp path a ≡ Less → below path a ≡ None → path_cmp (path ++ r) a ≡ Less
above_all path a r lt none =
    elim (path_cmp a (path ++ r)) as (λ o. path_cmp a (path ++ r) ≡ o → path_cmp (path ++ r) a ≡ Less) [
      | Less ↦ λ h. clash (sym (between path a r (λ e. clash (sym (ap is_lt e) ∙ ap is_lt (path_total.antisymm a path ∙ ap ordering_reverse lt))) h) ∙ ap is_some none)
      | Equal ↦ λ h. clash (sym (ap (λ b. is_some (below path b)) (path_exact a (path ++ r) h) ∙ ap is_some (below-append path r)) ∙ ap is_some none)
      | Greater ↦ λ h. path_total.antisymm (path ++ r) a ∙ ap ordering_reverse h
    ] refl

-- what is less than a path is less than all that is below it
less_than_all : (path a r : Names) → path_cmp a path ≡ Less → path_cmp a (path ++ r) ≡ Less
less_than_all path a [] lt = ap (path_cmp a) (append-nil path) ∙ lt
less_than_all path a (x ∷ r) lt = path_total.trans a path (path ++ x ∷ r) lt (ap (λ p. path_cmp p (path ++ x ∷ r)) (sym (append-nil path)) ∙ path_cmp-append path [] (x ∷ r))

-- what is neither less than a path nor below it is above it
higher : (to a : Names) → (path_cmp a to ≡ Less → ⊥) → below to a ≡ None → path_cmp to a ≡ Less
higher to a from none = elim (path_cmp a to) as (λ o. path_cmp a to ≡ o → path_cmp to a ≡ Less) [
  | Less ↦ λ h. absurd (from h)
  | Equal ↦ λ h. clash (sym (ap is_some (ap (below to) (path_exact a to h ∙ sym (append-nil to)) ∙ below-append to [])) ∙ ap is_some none)
  | Greater ↦ λ h. path_total.antisymm to a ∙ ap ordering_reverse h
] refl

module _ {X : Type 0} (path : Names) where
  kept-append : (xs ys : List (Names × X)) → kept_rows path (xs ++ ys) ≡ kept_rows path xs ++ kept_rows path ys
  kept-append [] ys = refl
  kept-append (e ∷ xs) ys = elim (is_none (below path e.0)) as (λ b. cond b (e ∷ kept_rows path (xs ++ ys)) (kept_rows path (xs ++ ys)) ≡ cond b (e ∷ kept_rows path xs) (kept_rows path xs) ++ kept_rows path ys) [
    | true ↦ ap (λ rest. e ∷ rest) (kept-append xs ys)
    | false ↦ kept-append xs ys
  ]

  moving-append : (xs ys : List (Names × X)) → moving_rows path (xs ++ ys) ≡ moving_rows path xs ++ moving_rows path ys
  moving-append [] ys = refl
  moving-append (e ∷ xs) ys = elim (is_some (below path e.0)) as (λ b. cond b (e ∷ moving_rows path (xs ++ ys)) (moving_rows path (xs ++ ys)) ≡ cond b (e ∷ moving_rows path xs) (moving_rows path xs) ++ moving_rows path ys) [
    | true ↦ ap (λ rest. e ∷ rest) (moving-append xs ys)
    | false ↦ moving-append xs ys
  ]

  -- rows of which none is below the path
  kept_all : (xs : List (Names × X)) → All (λ row. below path row.0 ≡ None) xs → kept_rows path xs ≡ xs
  kept_all [] all = refl
  kept_all (e ∷ xs) all = ap (λ o. cond (is_none o) (e ∷ kept_rows path xs) (kept_rows path xs)) (All-head (λ row. below path row.0 ≡ None) e xs all)
      ∙ ap (λ rest. e ∷ rest) (kept_all xs (All-tail (λ row. below path row.0 ≡ None) e xs all))

  moving_none : (xs : List (Names × X)) → All (λ row. below path row.0 ≡ None) xs → moving_rows path xs ≡ []
  moving_none [] all = refl
  moving_none (e ∷ xs) all = ap (λ o. cond (is_some o) (e ∷ moving_rows path xs) (moving_rows path xs)) (All-head (λ row. below path row.0 ≡ None) e xs all)
      ∙ moving_none xs (All-tail (λ row. below path row.0 ≡ None) e xs all)

  kept_are : (xs : List (Names × X)) → All (λ row. below path row.0 ≡ None) (kept_rows path xs)
  kept_are [] = λ k d within. absurd (omega arith)
  kept_are (e ∷ xs) = elim (below path e.0) as (λ o. below path e.0 ≡ o → All (λ row. below path row.0 ≡ None) (cond (is_none o) (e ∷ kept_rows path xs) (kept_rows path xs))) [
    | None ↦ λ h. All-cons (λ row. below path row.0 ≡ None) e (kept_rows path xs) h (kept_are xs)
    | Some r ↦ λ h. kept_are xs
  ] refl

  -- from a path on, in order, the rows below it come first
  together : (es : List (Names × X)) → T (is_sorted path_cmp es) → All (λ row. path_cmp row.0 path ≡ Less → ⊥) es → es ≡ moving_rows path es ++ kept_rows path es
  together [] order from = refl
  together (e ∷ es) order from =
      elim (below path e.0) as (λ o. below path e.0 ≡ o → e ∷ es ≡ cond (is_some o) (e ∷ moving_rows path es) (moving_rows path es) ++ cond (is_none o) (e ∷ kept_rows path es) (kept_rows path es)) [
        | Some r ↦ λ h. ap (λ rest. e ∷ rest) (together es (after order) (All-tail (λ row. path_cmp row.0 path ≡ Less → ⊥) e es from))
        | None ↦ λ h.
            let none : All (λ row. below path row.0 ≡ None) es = λ k d within. past e (λ lt. All-head (λ row. path_cmp row.0 path ≡ Less → ⊥) e es from lt) h (get_or es k d).0 (all_above e.0 es (before order) k d within) in
            sym (λ i. moving_none es none i ++ (e ∷ kept_all es none i))
      ] refl
    where
      before : T (below_all path_cmp e.0 es && is_sorted path_cmp es) → T (below_all path_cmp e.0 es)
      before h = elim (below_all path_cmp e.0 es) as (λ b. T (b && is_sorted path_cmp es) → T b) [ true ↦ λ p. tt | false ↦ λ p. p ] h

      after : T (below_all path_cmp e.0 es && is_sorted path_cmp es) → T (is_sorted path_cmp es)
      after h = elim (below_all path_cmp e.0 es) as (λ b. T (b && is_sorted path_cmp es) → T (is_sorted path_cmp es)) [ true ↦ λ p. p | false ↦ λ p. absurd p ] h

      past : (e : Names × X) → (path_cmp e.0 path ≡ Less → ⊥) → below path e.0 ≡ None → (a : Names) → path_cmp e.0 a ≡ Less → below path a ≡ None
      past e from none a lt = elim (below path a) as (λ o. below path a ≡ o → o ≡ None) [
        | None ↦ λ h. refl
        | Some r ↦ λ h. clash (sym (between path e.0 r from (ap (path_cmp e.0) (append-below path a r h) ∙ lt)) ∙ ap is_some none)
      ] refl

  sorted_back : (front back : List (Names × X)) → T (is_sorted path_cmp (front ++ back)) → T (is_sorted path_cmp back)
  sorted_back [] back h = h
  sorted_back (e ∷ front) back h = sorted_back front back (elim (below_all path_cmp e.0 (front ++ back)) as (λ b. T (b && is_sorted path_cmp (front ++ back)) → T (is_sorted path_cmp (front ++ back))) [ true ↦ λ p. p | false ↦ λ p. absurd p ] h)

  -- rows turned about the place of a path: the others, and then those below it
  pub gathered : (rows : List (Names × X)) (i n : ℕ) → InOrder rows → IsAround rows path i → n ≡ length (moving_rows path rows)
      → take i rows ++ (drop n (drop i rows) ++ take n (drop i rows)) ≡ kept_rows path rows ++ moving_rows path rows
  gathered rows i n order around counted =
      let parts : take i rows ++ drop i rows ≡ rows = take-append-drop i rows in
      let apart_front : All (λ row. below path row.0 ≡ None) (take i rows) = λ k d within. less_apart path _ (around.front k d within) in
      let run : drop i rows ≡ moving_rows path (drop i rows) ++ kept_rows path (drop i rows) = together (drop i rows) (sorted_back (take i rows) (drop i rows) (subst (λ es. T (is_sorted path_cmp es)) (sym parts) order)) around.back in
      let moving : moving_rows path rows ≡ moving_rows path (drop i rows) = ap (moving_rows path) (sym parts) ∙ moving-append (take i rows) (drop i rows) ∙ ap (λ front. front ++ moving_rows path (drop i rows)) (moving_none (take i rows) apart_front) in
      let kept : kept_rows path rows ≡ take i rows ++ kept_rows path (drop i rows) = ap (kept_rows path) (sym parts) ∙ kept-append (take i rows) (drop i rows) ∙ ap (λ front. front ++ kept_rows path (drop i rows)) (kept_all (take i rows) apart_front) in
      let size : length (moving_rows path (drop i rows)) ≡ n = sym (counted ∙ ap length moving) in
      (λ j. take i rows ++ ((ap (drop n) run ∙ drop_at (moving_rows path (drop i rows)) (kept_rows path (drop i rows)) n size) j ++ (ap (take n) run ∙ take_at (moving_rows path (drop i rows)) (kept_rows path (drop i rows)) n size) j))
      ∙ sym (append_assoc (take i rows) (kept_rows path (drop i rows)) (moving_rows path (drop i rows)))
      ∙ (λ j. sym kept j ++ sym moving j)

  -- those below the path stand from its place on
  pub fits : (rows : List (Names × X)) (i n : ℕ) → InOrder rows → IsAround rows path i → n ≡ length (moving_rows path rows) → n ≤ length (drop i rows)
  fits rows i n order around counted =
      let parts : take i rows ++ drop i rows ≡ rows = take-append-drop i rows in
      let apart_front : All (λ row. below path row.0 ≡ None) (take i rows) = λ k d within. less_apart path _ (around.front k d within) in
      let run : drop i rows ≡ moving_rows path (drop i rows) ++ kept_rows path (drop i rows) = together (drop i rows) (sorted_back (take i rows) (drop i rows) (subst (λ es. T (is_sorted path_cmp es)) (sym parts) order)) around.back in
      let moving : moving_rows path rows ≡ moving_rows path (drop i rows) = ap (moving_rows path) (sym parts) ∙ moving-append (take i rows) (drop i rows) ∙ ap (λ front. front ++ moving_rows path (drop i rows)) (moving_none (take i rows) apart_front) in
      let same : length (moving_rows path rows) ≡ length (moving_rows path (drop i rows)) = ap length moving in
      let all : length (drop i rows) ≡ length (moving_rows path (drop i rows)) + length (kept_rows path (drop i rows)) = ap length run ∙ length-append (moving_rows path (drop i rows)) (kept_rows path (drop i rows)) in
      omega arith

  -- each row is kept or moves
  pub parted : (rows : List (Names × X)) → length (kept_rows path rows) + length (moving_rows path rows) ≡ length rows
  parted [] = refl
  parted (e ∷ es) = let ih = parted es in elim (below path e.0) as (λ o. length (cond (is_none o) (e ∷ kept_rows path es) (kept_rows path es)) + length (cond (is_some o) (e ∷ moving_rows path es) (moving_rows path es)) ≡ suc (length es)) [
    | None ↦ omega arith
    | Some r ↦ omega arith
  ]

  All-kept : (P : Names × X → Type 0) (es : List (Names × X)) → All P es → All P (kept_rows path es)
  All-kept P [] all = all
  All-kept P (e ∷ es) all = elim (is_none (below path e.0)) as (λ b. All P (cond b (e ∷ kept_rows path es) (kept_rows path es))) [
    | true ↦ All-cons P e (kept_rows path es) (All-head P e es all) (All-kept P es (All-tail P e es all))
    | false ↦ All-kept P es (All-tail P e es all)
  ]

pub with_keys-moved : {B : Type 0} (from to : Names) (es : List (Names × Node B)) → with_keys (moved_keys from to es) es ≡ moved_entries from to es
with_keys-moved from to [] = refl
with_keys-moved from to (e ∷ es) = ap (λ rest. (moved_path from to e.0, e.1) ∷ rest) (with_keys-moved from to es)

alt : {A : Type 0} → Option A → Option A → Option A
alt None o = o
alt (Some x) o = Some x

alt_cond : {A : Type 0} (b : Bool) (x : A) (o p : Option A) → cond b (Some x) (alt o p) ≡ alt (cond b (Some x) o) p
unfolding alt
alt_cond true x o p = refl
alt_cond false x o p = refl

module _ {B : Type 0} (from to : Names) where
  -- these rows put into others
  into : List (Names × Node B) → List (Names × Node B) → List (Names × Node B)
  into rest [] = rest
  into rest (e ∷ es) = put path_cmp e.0 e.1 (into rest es)

  sorted-into : (rest es : List (Names × Node B)) → T (is_sorted path_cmp rest) → T (is_sorted path_cmp (into rest es))
  unfolding into
  sorted-into rest [] h = h
  sorted-into rest (e ∷ es) h = is_sorted-put path_cmp path_total e.0 e.1 (into rest es) (sorted-into rest es h)

  find-into : (q : Names) (rest es : List (Names × Node B)) → find path_cmp q (into rest es) ≡ alt (find path_cmp q es) (find path_cmp q rest)
  unfolding into alt
  find-into q rest [] = refl
  find-into q rest (e ∷ es) = find-put path_cmp path_total q e.0 e.1 (into rest es) ∙ ap (cond (eq_by_cmp path_cmp q e.0) (Some e.1)) (find-into q rest es)
      ∙ alt_cond (eq_by_cmp path_cmp q e.0) e.1 (find path_cmp q es) (find path_cmp q rest)

  sorted-put_all : (es : List (Names × Node B)) → T (is_sorted path_cmp (put_all es))
  sorted-put_all [] = tt
  sorted-put_all (e ∷ es) = is_sorted-put path_cmp path_total e.0 e.1 (put_all es) (sorted-put_all es)

  find-put_all : (q : Names) (es : List (Names × Node B)) → find path_cmp q (put_all es) ≡ find path_cmp q es
  find-put_all q [] = refl
  find-put_all q (e ∷ es) = find-put path_cmp path_total q e.0 e.1 (put_all es) ∙ ap (cond (eq_by_cmp path_cmp q e.0) (Some e.1)) (find-put_all q es)

  -- what moves is found at and below to alone
  moved_elsewhere : (q : Names) → below to q ≡ None → (es : List (Names × Node B)) → find path_cmp q (moved_entries from to (moving_rows from es)) ≡ None
  moved_elsewhere q none [] = refl
  moved_elsewhere q none (e ∷ es) = elim (below from e.0) as (λ o. below from e.0 ≡ o → find path_cmp q (moved_entries from to (cond (is_some o) (e ∷ moving_rows from es) (moving_rows from es))) ≡ None) [
    | None ↦ λ h. moved_elsewhere q none es
    | Some r ↦ λ h.
        (λ i. cond (is_eq (path_cmp q (put_under to e.0 (h i)))) (Some e.1) (moved_elsewhere q none es i))
        ∙ ap (λ b. cond b (Some e.1) None) (sym (apart_other q r none))
  ] refl
    where
      apart_other : (q r : Names) → below to q ≡ None → false ≡ same q (to ++ r)
      apart_other q r none = elim (same q (to ++ r)) as (λ b. same q (to ++ r) ≡ b → false ≡ b) [
        | true ↦ λ e. clash (sym (ap is_some (ap (below to) (same_is q (to ++ r) e) ∙ below-append to r)) ∙ ap is_some none)
        | false ↦ λ e. refl
      ] refl

  -- a look-up among the rows of which some have moved
  find-moved : (q : Names) (es : List (Names × Node B)) → All (λ row. below to row.0 ≡ None) es
      → find path_cmp q (moved_entries from to es) ≡ alt (find path_cmp q (moved_entries from to (moving_rows from es))) (find path_cmp q (kept_rows from es))
  unfolding alt
  find-moved q [] all = refl
  find-moved q (e ∷ es) all =
      let ih = find-moved q es (All-tail (λ row. below to row.0 ≡ None) e es all) in
      elim (below from e.0) as (λ o. below from e.0 ≡ o → cond (same q (put_under to e.0 o)) (Some e.1) (find path_cmp q (moved_entries from to es)) ≡ alt (find path_cmp q (moved_entries from to (cond (is_some o) (e ∷ moving_rows from es) (moving_rows from es)))) (find path_cmp q (cond (is_none o) (e ∷ kept_rows from es) (kept_rows from es)))) [
        | Some r ↦ λ h. ap (cond (same q (to ++ r)) (Some e.1)) ih
            ∙ alt_cond (same q (to ++ r)) e.1 (find path_cmp q (moved_entries from to (moving_rows from es))) (find path_cmp q (kept_rows from es))
            ∙ ap (λ o. alt (cond (same q (put_under to e.0 o)) (Some e.1) (find path_cmp q (moved_entries from to (moving_rows from es)))) (find path_cmp q (kept_rows from es))) (sym h)
        | None ↦ λ h. ap (cond (same q e.0) (Some e.1)) ih ∙ elim (same q e.0) as (λ b. same q e.0 ≡ b → cond b (Some e.1) (alt (find path_cmp q (moved_entries from to (moving_rows from es))) (find path_cmp q (kept_rows from es))) ≡ alt (find path_cmp q (moved_entries from to (moving_rows from es))) (cond b (Some e.1) (find path_cmp q (kept_rows from es)))) [
          | true ↦ λ t. ap (λ o. alt o (Some e.1)) (sym (moved_elsewhere q (ap (below to) (same_is q e.0 t) ∙ All-head (λ row. below to row.0 ≡ None) e es all) es))
          | false ↦ λ t. refl
        ] refl
      ] refl

  -- what moves keeps its order
  raised : (r : Names) (es : List (Names × Node B)) → All (λ row. path_cmp (from ++ r) row.0 ≡ Less) es → All (λ row. path_cmp (to ++ r) row.0 ≡ Less) (moved_entries from to (moving_rows from es))
  raised r [] all = λ k d within. absurd (omega arith)
  raised r (e ∷ es) all =
      let rest = raised r es (All-tail (λ row. path_cmp (from ++ r) row.0 ≡ Less) e es all) in
      elim (below from e.0) as (λ o. below from e.0 ≡ o → All (λ row. path_cmp (to ++ r) row.0 ≡ Less) (moved_entries from to (cond (is_some o) (e ∷ moving_rows from es) (moving_rows from es)))) [
        | None ↦ λ h. rest
        | Some s ↦ λ h. All-cons (λ row. path_cmp (to ++ r) row.0 ≡ Less) (moved_path from to e.0, e.1) (moved_entries from to (moving_rows from es))
            (ap (λ o. path_cmp (to ++ r) (put_under to e.0 o)) h ∙ path_cmp-append to r s ∙ sym (path_cmp-append from r s) ∙ ap (path_cmp (from ++ r)) (append-below from e.0 s h) ∙ All-head (λ row. path_cmp (from ++ r) row.0 ≡ Less) e es all)
            rest
      ] refl

  before : (e : Names × Node B) (es : List (Names × Node B)) → T (is_sorted path_cmp (e ∷ es)) → T (below_all path_cmp e.0 es)
  before e es h = elim (below_all path_cmp e.0 es) as (λ b. T (b && is_sorted path_cmp es) → T b) [ true ↦ λ p. tt | false ↦ λ p. p ] h

  behind : (e : Names × Node B) (es : List (Names × Node B)) → T (is_sorted path_cmp (e ∷ es)) → T (is_sorted path_cmp es)
  behind e es h = elim (below_all path_cmp e.0 es) as (λ b. T (b && is_sorted path_cmp es) → T (is_sorted path_cmp es)) [ true ↦ λ p. p | false ↦ λ p. absurd p ] h

  -- those that moved stand together where to belongs among the others
  stand : (front back es : List (Names × Node B)) → All (λ row. path_cmp row.0 to ≡ Less) front → All (λ row. path_cmp to row.0 ≡ Less) back → All (λ row. below to row.0 ≡ None) back
      → T (is_sorted path_cmp es) → into (front ++ back) (moved_entries from to (moving_rows from es)) ≡ front ++ (moved_entries from to (moving_rows from es) ++ back)
  unfolding into
  stand front back [] f b n order = refl
  stand front back (e ∷ es) f b n order =
      let ih = stand front back es f b n (behind e es order) in
      let moved = moved_entries from to (moving_rows from es) in
      elim (below from e.0) as (λ o. below from e.0 ≡ o → into (front ++ back) (moved_entries from to (cond (is_some o) (e ∷ moving_rows from es) (moving_rows from es))) ≡ front ++ (moved_entries from to (cond (is_some o) (e ∷ moving_rows from es) (moving_rows from es)) ++ back)) [
        | None ↦ λ h. ih
        | Some r ↦ λ h.
            let key : moved_path from to e.0 ≡ to ++ r = ap (put_under to e.0) h in
            let above : All (λ row. path_cmp (from ++ r) row.0 ≡ Less) es = λ k d within. ap (λ p. path_cmp p (get_or es k d).0) (append-below from e.0 r h) ∙ all_above e.0 es (before e es order) k d within in
            let low : All (λ row. path_cmp row.0 (to ++ r) ≡ Less) front = λ k d within. less_than_all to (get_or front k d).0 r (f k d within) in
            let high : All (λ row. path_cmp (to ++ r) row.0 ≡ Less) (moved ++ back) = All-append (λ row. path_cmp (to ++ r) row.0 ≡ Less) moved back (raised r es above) (λ k d within. above_all to (get_or back k d).0 r (b k d within) (n k d within)) in
            ap (λ p. put path_cmp p e.1 (into (front ++ back) moved)) key
            ∙ ap (put path_cmp (to ++ r) e.1) ih
            ∙ put_past (to ++ r) e.1 front (moved ++ back) low
            ∙ ap (λ rest. front ++ rest) (put_above (to ++ r) e.1 (moved ++ back) high)
            ∙ ap (λ p. front ++ ((p, e.1) ∷ (moved ++ back))) (sym key)
      ] refl

  -- the rows once a node has moved: those that moved, together, between the others
  pub moved_together : (rows : List (Names × Node B)) (p : ℕ) → InOrder rows → IsAround (kept_rows from (kept_rows to rows)) to p
      → take p (kept_rows from (kept_rows to rows)) ++ (moved_entries from to (moving_rows from (kept_rows to rows)) ++ drop p (kept_rows from (kept_rows to rows))) ≡ moved_rows_of from to rows
  moved_together rows p order around =
      let kept = kept_rows to rows in
      let others = kept_rows from kept in
      let block = moved_entries from to (moving_rows from kept) in
      let order_kept : T (is_sorted path_cmp kept) = is_sorted-where_key path_cmp (λ path. is_none (below to path)) rows order in
      let order_others : T (is_sorted path_cmp others) = is_sorted-where_key path_cmp (λ path. is_none (below from path)) kept order_kept in
      let none : All (λ row. below to row.0 ≡ None) (drop p others) = λ k d within.
      ap (λ (row : Names × Node B). below to row.0) (get_or-drop p others k d) ∙ All-kept from (λ row. below to row.0 ≡ None) kept (kept_are to rows) (p + k) d (let n = length-drop p others in omega arith) in
      let above : All (λ row. path_cmp to row.0 ≡ Less) (drop p others) = λ k d within. higher to (get_or (drop p others) k d).0 (around.back k d within) (none k d within) in
      sym (stand (take p others) (drop p others) kept around.front above none order_kept)
      ∙ ap (λ rest. into rest block) (take-append-drop p others)
      ∙ sym (same_entries path_cmp path_total path_exact (moved_rows_of from to rows) (into others block) (sorted-put_all (moved_entries from to kept)) (sorted-into others block order_others)
      (λ q. find-put_all q (moved_entries from to kept) ∙ find-moved q kept (kept_are to rows) ∙ sym (find-into q others block)))

  -- the steps of a move, one after the other
  pub moved_by_steps : (rows gathered renamed turned : List (Names × Node B)) (keys : List Names) (p others : ℕ) → InOrder rows
      → gathered ≡ kept_rows from (kept_rows to rows) ++ moving_rows from (kept_rows to rows) → others ≡ length (kept_rows from (kept_rows to rows))
      → IsAround (take others gathered) to p → keys ≡ moved_keys from to (moving_rows from (kept_rows to rows))
      → renamed ≡ take others gathered ++ with_keys keys (drop others gathered)
      → turned ≡ take p renamed ++ (drop (others - p) (drop p renamed) ++ take (others - p) (drop p renamed))
      → turned ≡ moved_rows_of from to rows
  moved_by_steps rows gathered renamed turned keys p others order g o around k r t =
      let rest = kept_rows from (kept_rows to rows) in
      let block = moving_rows from (kept_rows to rows) in
      let new = moved_entries from to block in
      let first : take others gathered ≡ rest = ap (take others) g ∙ take_at rest block others (sym o) in
      let second : drop others gathered ≡ block = ap (drop others) g ∙ drop_at rest block others (sym o) in
      let place : IsAround rest to p = subst (λ es. IsAround es to p) first around in
      let same : renamed ≡ rest ++ new = r ∙ (λ i. first i ++ with_keys (k i) (second i)) ∙ ap (λ es. rest ++ es) (with_keys-moved from to block) in
      let low : p ≤ length rest = place.within in
      let size : length (drop p rest) ≡ others - p = length-drop p rest ∙ ap (λ n. n - p) (sym o) in
      let tail : drop p renamed ≡ drop p rest ++ new = ap (drop p) same ∙ drop-append-le p rest new low in
      t ∙ (λ i. (ap (take p) same ∙ take-append-le p rest new low) i ++ ((ap (drop (others - p)) tail ∙ drop_at (drop p rest) new (others - p) size) i ++ (ap (take (others - p)) tail ∙ take_at (drop p rest) new (others - p) size) i))
      ∙ moved_together rows p order place

module _ {X : Type 0} where
  pub turned : (start count : ℕ) (xs ys items : List X) → xs ≡ items → ys ≡ drop count (take (length xs - start) (drop start xs)) ++ take count (take (length xs - start) (drop start xs))
      → take start xs ++ (ys ++ drop (length xs - start) (drop start xs)) ≡ take start items ++ (drop count (drop start items) ++ take count (drop start items))
  turned start count xs ys items same after =
      let rest : take (length xs - start) (drop start xs) ≡ drop start xs = take_rest xs start in
      let none : drop (length xs - start) (drop start xs) ≡ [] = drop_all (length xs - start) (drop start xs) (let n = length-drop start xs in omega arith) in
      (λ i. take start xs ++ ((after ∙ (λ j. drop count (rest j) ++ take count (rest j))) i ++ none i))
      ∙ ap (λ back. take start xs ++ back) (append-nil (drop count (drop start xs) ++ take count (drop start xs)))
      ∙ ap (λ l. take start l ++ (drop count (drop start l) ++ take count (drop start l))) same

  pub length-turned : (start count : ℕ) (xs ys : List X) → start + count ≤ length xs → ys ≡ drop count (take (length xs - start) (drop start xs)) ++ take count (take (length xs - start) (drop start xs))
      → length (take start xs ++ (ys ++ drop (length xs - start) (drop start xs))) ≡ length xs
  length-turned start count xs ys fits after = ap length (turned start count xs ys xs refl after) ∙ simp (length-append, length-take, length-drop) (omega arith)
