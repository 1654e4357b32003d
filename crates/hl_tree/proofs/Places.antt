-- Rows in the order of their paths: where a search ends, and what stands and changes there.
use Rattle.std.proofs.Common.{arith, ◌≡◌, ℕ, ◌+◌, ◌<◌, ◌≤◌, Bool, true, false, cond, not, T, ◌&&◌, List, [], ◌∷◌, ◌++◌, length, take, drop, get_or, set, Some, None, Result, Ok, Err, OnOk, All, suc, zero, refl, ap, ◌∙◌, sym, subst, add-one}
use Rattle.std.proofs.lemmas.List.{take-append-drop, drop_more, set_split, length-take, length-drop, get_or-take, get_or-drop}
use Rattle.std.proofs.lemmas.List.Elements.{All-cons, All-tail}
use Rattle.std.proofs.lemmas.List.Sorted.{searchable_from_sorted}
use Rattle.std.specs.declared.cmp.Ordering.{Ordering}
use Rattle.std.specs.declared.cmp.Ordering.TheVariants.{Less, Equal, Greater}
use Rattle.std.specs.Ordering.{is_lt, is_eq, eq_by_cmp, ordering_reverse}
use Rattle.std.specs.Cmp.{tied_itself}
use Rattle.std.specs.List.{insert, remove}
use Rattle.std.specs.List.Sorted.{IsSearchInRange, IsBinarySearchResult, IsSortedBy}
use Rattle.std.specs.FinMap.Entries.{find, put, where_key, by_order, is_sorted, below_all}
use Rattle.hl_tree.specs.Names.{path_cmp}
use Rattle.hl_tree.specs.declared.node.Node.{Node}
use Rattle.hl_tree.specs.OtherContents.{node_map}
use Rattle.hl_tree.specs.Moved.{changed_rows, put_changed_row}
use Rattle.hl_tree.specs.Places.{InOrder, IsPlaceOf, IsGapFor, IsAround, Places}
use Rattle.hl_tree.proofs.Maps.{path_total, path_exact}

less : (o : Ordering) → T (is_lt o) → o ≡ Less
less Less p = refl
less Equal p = absurd p
less Greater p = absurd p

left : (a b : Bool) → T (a && b) → T a
left true b p = tt
left false b p = p

right : (a b : Bool) → T (a && b) → T b
right true b p = p
right false b p = absurd p

-- what is below is met from above
pub greater_back : (x y : List (List ℕ)) → path_cmp x y ≡ Less → path_cmp y x ≡ Greater
greater_back x y h = path_total.antisymm y x ∙ ap ordering_reverse h

module _ {X : Type 0} where
  pub All-head : (P : List (List ℕ) × X → Type 0) (e : List (List ℕ) × X) (es : List (List (List ℕ) × X)) → All P (e ∷ es) → P e
  All-head P e es all = all zero e (omega arith)

  -- one row that stands after others, in order
  pub all_above : (x : List (List ℕ)) (es : List (List (List ℕ) × X)) → T (below_all path_cmp x es) → All (λ row. path_cmp x row.0 ≡ Less) es
  all_above x [] h k d within = absurd (omega arith)
  all_above x (e ∷ es) h zero d within = less _ (left (is_lt (path_cmp x e.0)) _ h)
  all_above x (e ∷ es) h (suc k) d within = all_above x es (right (is_lt (path_cmp x e.0)) _ h) k d (omega arith)

  adjacent : (es : List (List (List ℕ) × X)) → T (is_sorted path_cmp es) → (k : ℕ) (d : List (List ℕ) × X) → suc k < length es → path_cmp (get_or es k d).0 (get_or es (suc k) d).0 ≡ Less
  adjacent [] h k d within = absurd (omega arith)
  adjacent (e ∷ es) h zero d within = all_above e.0 es (left (below_all path_cmp e.0 es) _ h) zero d (omega arith)
  adjacent (e ∷ es) h (suc k) d within = adjacent es (right (below_all path_cmp e.0 es) _ h) k d (omega arith)

  pub sorted_by : (es : List (List (List ℕ) × X)) → T (is_sorted path_cmp es) → IsSortedBy (λ a b. is_lt (path_cmp a.0 b.0)) es
  sorted_by es h k d low within =
      let step : path_cmp (get_or es k d).0 (get_or es (suc k) d).0 ≡ Less = adjacent es h k d (omega arith) in
      rw add-one (ap is_lt (greater_back (get_or es k d).0 (get_or es (suc k) d).0 step))

  -- where a binary search by path ends
  pub searched : (rows : List (List (List ℕ) × X)) (path : List (List ℕ)) → InOrder rows → (r : Result ℕ ℕ) → IsSearchInRange r (length rows) → IsBinarySearchResult (λ row. path_cmp row.0 path) rows r → Places rows path r
  searched rows path order (Ok i) within equal = record { within = within; here = λ d. path_exact _ _ (sym (sym (equal d))) }
  searched rows path order (Err i) within parted =
      let rises = searchable_from_sorted path_total (λ (row : List (List ℕ) × X). row.0) rows path (sorted_by rows order) in
      record {
        within = within;
        below = λ k d h.
            let n = length-take i rows in
            let lt : k < i = omega arith in
            let low : 0 ≤ k = omega arith in
            ap (λ row. path_cmp row.0 path) (get_or-take i rows k d lt) ∙ (parted rises).0 k d low lt;
        above = λ k d h.
            let n = length-drop i rows in
            let low : i ≤ i + k = omega arith in
            let lt : i + k < length rows = omega arith in
            ap (λ row. path_cmp path row.0) (get_or-drop i rows k d) ∙ path_total.antisymm path (get_or rows (i + k) d).0 ∙ ap ordering_reverse ((parted rises).1 (i + k) d low lt);
      }

  below_at : (p : List (List ℕ)) (front back : List (List (List ℕ) × X)) (x : List (List ℕ) × X) → T (below_all path_cmp p (front ++ x ∷ back)) → path_cmp p x.0 ≡ Less
  below_at p [] back x h = less _ (left (is_lt (path_cmp p x.0)) _ h)
  below_at p (e ∷ front) back x h = below_at p front back x (right (is_lt (path_cmp p e.0)) _ h)

  -- the rows before a place and behind it
  pub around : (front back : List (List (List ℕ) × X)) (x : List (List ℕ) × X) → T (is_sorted path_cmp (front ++ x ∷ back))
      → (All (λ row. path_cmp row.0 x.0 ≡ Less) front) × (All (λ row. path_cmp x.0 row.0 ≡ Less) back)
  around [] back x h = ((λ k d within. absurd (omega arith)), all_above x.0 back (left (below_all path_cmp x.0 back) _ h))
  around (e ∷ front) back x h =
      let rest = around front back x (right (below_all path_cmp e.0 (front ++ x ∷ back)) _ h) in
      let here : path_cmp e.0 x.0 ≡ Less = below_at e.0 front back x (left (below_all path_cmp e.0 (front ++ x ∷ back)) _ h) in
      (All-cons (λ row. path_cmp row.0 x.0 ≡ Less) e front here rest.0, rest.1)

module _ {X : Type 0} (path : List (List ℕ)) where
  -- rows below a path are passed
  pub find_past : (front back : List (List (List ℕ) × X)) → All (λ row. path_cmp row.0 path ≡ Less) front → find path_cmp path (front ++ back) ≡ find path_cmp path back
  find_past [] back all = refl
  find_past (e ∷ front) back all =
      ap (λ o. cond (is_eq o) (Some e.1) (find path_cmp path (front ++ back))) (greater_back e.0 path (All-head (λ row. path_cmp row.0 path ≡ Less) e front all))
      ∙ find_past front back (All-tail (λ row. path_cmp row.0 path ≡ Less) e front all)

  pub put_past : (v : X) (front back : List (List (List ℕ) × X)) → All (λ row. path_cmp row.0 path ≡ Less) front → put path_cmp path v (front ++ back) ≡ front ++ put path_cmp path v back
  put_past v [] back all = refl
  put_past v (e ∷ front) back all =
      ap (λ o. by_order o ((path, v) ∷ e ∷ (front ++ back)) ((e.0, v) ∷ (front ++ back)) (e ∷ put path_cmp path v (front ++ back))) (greater_back e.0 path (All-head (λ row. path_cmp row.0 path ≡ Less) e front all))
      ∙ ap (λ rest. e ∷ rest) (put_past v front back (All-tail (λ row. path_cmp row.0 path ≡ Less) e front all))

  pub without_past : (front back : List (List (List ℕ) × X)) → All (λ row. path_cmp row.0 path ≡ Less) front
      → where_key path_cmp (λ key. not (eq_by_cmp path_cmp path key)) (front ++ back) ≡ front ++ where_key path_cmp (λ key. not (eq_by_cmp path_cmp path key)) back
  without_past [] back all = refl
  without_past (e ∷ front) back all =
      ap (λ o. cond (not (is_eq o)) (e ∷ where_key path_cmp (λ key. not (eq_by_cmp path_cmp path key)) (front ++ back)) (where_key path_cmp (λ key. not (eq_by_cmp path_cmp path key)) (front ++ back)))
      (greater_back e.0 path (All-head (λ row. path_cmp row.0 path ≡ Less) e front all))
      ∙ ap (λ rest. e ∷ rest) (without_past front back (All-tail (λ row. path_cmp row.0 path ≡ Less) e front all))

  -- and rows above it aren't it
  pub find_above : (back : List (List (List ℕ) × X)) → All (λ row. path_cmp path row.0 ≡ Less) back → find path_cmp path back ≡ None
  find_above [] all = refl
  find_above (e ∷ back) all =
      ap (λ o. cond (is_eq o) (Some e.1) (find path_cmp path back)) (All-head (λ row. path_cmp path row.0 ≡ Less) e back all)
      ∙ find_above back (All-tail (λ row. path_cmp path row.0 ≡ Less) e back all)

  pub put_above : (v : X) (back : List (List (List ℕ) × X)) → All (λ row. path_cmp path row.0 ≡ Less) back → put path_cmp path v back ≡ (path, v) ∷ back
  put_above v [] all = refl
  put_above v (e ∷ back) all = ap (λ o. by_order o ((path, v) ∷ e ∷ back) ((e.0, v) ∷ back) (e ∷ put path_cmp path v back)) (All-head (λ row. path_cmp path row.0 ≡ Less) e back all)

  pub without_above : (back : List (List (List ℕ) × X)) → All (λ row. path_cmp path row.0 ≡ Less) back → where_key path_cmp (λ key. not (eq_by_cmp path_cmp path key)) back ≡ back
  without_above [] all = refl
  without_above (e ∷ back) all =
      ap (λ o. cond (not (is_eq o)) (e ∷ where_key path_cmp (λ key. not (eq_by_cmp path_cmp path key)) back) (where_key path_cmp (λ key. not (eq_by_cmp path_cmp path key)) back)) (All-head (λ row. path_cmp path row.0 ≡ Less) e back all)
      ∙ ap (λ rest. e ∷ rest) (without_above back (All-tail (λ row. path_cmp path row.0 ≡ Less) e back all))

module _ {X : Type 0} (rows : List (List (List ℕ) × X)) (path : List (List ℕ)) (i : ℕ) where
  module _ (order : InOrder rows) (place : IsPlaceOf rows path i) where
    split : (d : List (List ℕ) × X) → rows ≡ take i rows ++ (get_or rows i d) ∷ drop (i + 1) rows
    split d = sym (take-append-drop i rows) ∙ ap (λ back. take i rows ++ back) (drop_more rows i d place.within)

    sides : (d : List (List ℕ) × X) → (All (λ row. path_cmp row.0 path ≡ Less) (take i rows)) × (All (λ row. path_cmp path row.0 ≡ Less) (drop (i + 1) rows))
    sides d = subst (λ p. (All (λ row. path_cmp row.0 p ≡ Less) (take i rows)) × (All (λ row. path_cmp p row.0 ≡ Less) (drop (i + 1) rows))) (place.here d)
        (around (take i rows) (drop (i + 1) rows) (get_or rows i d) (subst (λ es. T (is_sorted path_cmp es)) (split d) order))

    same_path : (d : List (List ℕ) × X) → path_cmp path (get_or rows i d).0 ≡ Equal
    same_path d = ap (path_cmp path) (place.here d) ∙ tied_itself path_total path

    pub find_at : (d : List (List ℕ) × X) → find path_cmp path rows ≡ Some (get_or rows i d).1
    find_at d = ap (find path_cmp path) (split d) ∙ find_past path (take i rows) (get_or rows i d ∷ drop (i + 1) rows) (sides d).0
        ∙ ap (λ o. cond (is_eq o) (Some (get_or rows i d).1) (find path_cmp path (drop (i + 1) rows))) (same_path d)

    pub put_at : (d : List (List ℕ) × X) (v : X) → put path_cmp path v rows ≡ set rows i (path, v)
    put_at d v = ap (put path_cmp path v) (split d) ∙ put_past path v (take i rows) (get_or rows i d ∷ drop (i + 1) rows) (sides d).0
        ∙ ap (λ back. take i rows ++ back) (ap (λ o. by_order o ((path, v) ∷ get_or rows i d ∷ drop (i + 1) rows) (((get_or rows i d).0, v) ∷ drop (i + 1) rows) (get_or rows i d ∷ put path_cmp path v (drop (i + 1) rows))) (same_path d)
        ∙ ap (λ p. (p, v) ∷ drop (i + 1) rows) (place.here d))
        ∙ sym (rw add-one (set_split rows i (path, v) place.within))

    pub without_at : (d : List (List ℕ) × X) → where_key path_cmp (λ key. not (eq_by_cmp path_cmp path key)) rows ≡ remove rows i
    without_at d = ap (where_key path_cmp (λ key. not (eq_by_cmp path_cmp path key))) (split d) ∙ without_past path (take i rows) (get_or rows i d ∷ drop (i + 1) rows) (sides d).0
        ∙ ap (λ back. take i rows ++ back) (ap (λ o. cond (not (is_eq o)) (get_or rows i d ∷ where_key path_cmp (λ key. not (eq_by_cmp path_cmp path key)) (drop (i + 1) rows)) (where_key path_cmp (λ key. not (eq_by_cmp path_cmp path key)) (drop (i + 1) rows))) (same_path d)
        ∙ without_above path (drop (i + 1) rows) (sides d).1)
        ∙ ap (λ n. take i rows ++ drop n rows) (add-one i)

  module _ (gap : IsGapFor rows path i) where
    pub find_in_gap : find path_cmp path rows ≡ None
    find_in_gap = ap (find path_cmp path) (sym (take-append-drop i rows)) ∙ find_past path (take i rows) (drop i rows) gap.below ∙ find_above path (drop i rows) gap.above

    pub put_in_gap : (v : X) → put path_cmp path v rows ≡ insert rows i (path, v)
    put_in_gap v = ap (put path_cmp path v) (sym (take-append-drop i rows)) ∙ put_past path v (take i rows) (drop i rows) gap.below ∙ ap (λ back. take i rows ++ back) (put_above path v (drop i rows) gap.above)

    pub without_in_gap : where_key path_cmp (λ key. not (eq_by_cmp path_cmp path key)) rows ≡ rows
    without_in_gap = ap (where_key path_cmp (λ key. not (eq_by_cmp path_cmp path key))) (sym (take-append-drop i rows)) ∙ without_past path (take i rows) (drop i rows) gap.below
        ∙ ap (λ back. take i rows ++ back) (without_above path (drop i rows) gap.above) ∙ take-append-drop i rows

clash : {A : Type 0} → true ≡ false → A
clash e = absurd (subst T e tt)

module _ {X : Type 0} (rows : List (List (List ℕ) × X)) (path : List (List ℕ)) (i : ℕ) where
  pub around_place : InOrder rows → IsPlaceOf rows path i → IsAround rows path i
  around_place order place = record {
    within = let h = place.within in omega arith;
    front = λ k d within. (sides rows path i order place d).0 k d within;
    back = λ k d within. subst (λ es. All (λ (row : List (List ℕ) × X). path_cmp row.0 path ≡ Less → ⊥) es) (sym (drop_more rows i d place.within))
        (All-cons (λ (row : List (List ℕ) × X). path_cmp row.0 path ≡ Less → ⊥) (get_or rows i d) (drop (i + 1) rows)
        (λ lt. clash (sym (ap is_lt lt) ∙ ap is_lt (ap (λ p. path_cmp p path) (place.here d) ∙ tied_itself path_total path)))
        (λ j e inside lt. clash (sym (ap is_lt lt) ∙ ap is_lt (greater_back path (get_or (drop (i + 1) rows) j e).0 ((sides rows path i order place d).1 j e inside)))))
        k d within;
  }

  pub around_gap : IsGapFor rows path i → IsAround rows path i
  around_gap gap = record {
    within = gap.within;
    front = gap.below;
    back = λ k d within lt. clash (sym (ap is_lt lt) ∙ ap is_lt (greater_back path (get_or (drop i rows) k d).0 (gap.above k d within)));
  }

  pub place_along : (s : List (List (List ℕ) × X)) (n : List (List ℕ)) → s ≡ rows → n ≡ path → IsPlaceOf s n i → IsPlaceOf rows path i
  place_along s n e f h = subst (λ r. IsPlaceOf r path i) e (subst (λ p. IsPlaceOf s p i) f h)

  pub gap_along : (s : List (List (List ℕ) × X)) (n : List (List ℕ)) → s ≡ rows → n ≡ path → IsGapFor s n i → IsGapFor rows path i
  gap_along s n e f h = subst (λ r. IsGapFor r path i) e (subst (λ p. IsGapFor s p i) f h)

-- what a change of the node in a row makes of the rows
module _ {B : Type 0} (rows : List (List (List ℕ) × Node B)) (path : List (List ℕ)) (i : ℕ) (f : B → B) where
  pub changed_in_place : InOrder rows → IsPlaceOf rows path i → (e : List (List ℕ) × Node B) (new : Node B) → e ≡ get_or rows i e → new ≡ node_map f e.1 → set rows i (e.0, new) ≡ changed_rows path f rows
  changed_in_place order place e new at is =
      (λ j. set rows i ((ap (λ (x : List (List ℕ) × Node B). x.0) at ∙ place.here e) j, is j))
      ∙ sym (put_at rows path i order place e (node_map f e.1))
      ∙ sym (ap (put_changed_row path f rows) (find_at rows path i order place e ∙ ap (λ (x : List (List ℕ) × Node B). Some x.1) (sym at)))

  pub changed_nowhere : IsGapFor rows path i → rows ≡ changed_rows path f rows
  changed_nowhere gap = sym (ap (put_changed_row path f rows) (find_in_gap rows path i gap))

  pub changed_on_ok : {A E : Type 0} (r : Result A E) → InOrder rows → IsPlaceOf rows path i → (e : List (List ℕ) × Node B) (new : Node B) → e ≡ get_or rows i e → OnOk r (new ≡ node_map f e.1) → OnOk r (set rows i (e.0, new) ≡ changed_rows path f rows)
  changed_on_ok (Ok x) order place e new at is = changed_in_place order place e new at is
  changed_on_ok (Err why) order place e new at is = tt
