-- The map of a list of entries in order.
use Rattle.std.proofs.Common.{◌≡◌, ℕ, List, [], ◌∷◌, Option, Some, None, length, map, T, not, is_none, ap, ◌∙◌, sym, subst}
use Rattle.std.specs.FinMap.{FinMap, get, insert, len, entries, from_sorted, entries-from_sorted, get-from_sorted, len-entries, same_entries_map, entries-insert, entries_sorted, keys, remove}
use Rattle.std.specs.FinMap.Entries.{find, put, is_sorted, is_sorted-put, where_key, is_sorted-where_key}
use Rattle.std.specs.Ordering.{eq_by_cmp}
use Rattle.hl_tree.specs.declared.node.Node.{Node}
use Rattle.hl_tree.specs.declared.node.Node.TheVariants.{Dir}
use Rattle.hl_tree.specs.Tree.{Tree, root_alone, moved, moved_entries}
use Rattle.hl_tree.specs.Moved.{put_all, moved_rows_of, changed_rows, put_changed_row}
use Rattle.hl_tree.specs.OtherContents.{node_map, changed_at, put_changed}
use Rattle.hl_tree.specs.Names.{path_cmp, below}
use Rattle.hl_tree.proofs.Maps.{path_total, entries-empty, entries-remove, entries-retain_keys, entries-from_entries}

-- the entries of the map that a value is seen as, and the way back
module _ {X : Type 0} (es : List (List (List ℕ) × X)) (m : FinMap path_cmp X) where
  pub entries_view : from_sorted es ≡ m → T (is_sorted path_cmp es) → entries m ≡ es
  entries_view view sorted = ap entries (sym view) ∙ entries-from_sorted path_cmp es sorted

  pub view_entries : es ≡ entries m → from_sorted es ≡ m
  view_entries is = same_entries_map _ _ (entries-from_sorted path_cmp es (subst (λ x. T (is_sorted path_cmp x)) (sym is) (entries_sorted m)) ∙ is)

  pub get_view : from_sorted es ≡ m → T (is_sorted path_cmp es) → (q : List (List ℕ)) → find path_cmp q es ≡ get m q
  get_view view sorted q = sym (get-from_sorted path_cmp es q sorted) ∙ ap (λ n. get n q) view

  pub len_view : from_sorted es ≡ m → T (is_sorted path_cmp es) → length es ≡ len m
  len_view view sorted = ap length (sym (entries_view view sorted)) ∙ sym (len-entries m)

  pub insert_view : from_sorted es ≡ m → T (is_sorted path_cmp es) → (k : List (List ℕ)) (v : X) → from_sorted (put path_cmp k v es) ≡ insert m k v
  insert_view view sorted k v = same_entries_map _ _
      (entries-from_sorted path_cmp _ (is_sorted-put path_cmp path_total k v es sorted)
      ∙ ap (put path_cmp k v) (sym (entries_view view sorted))
      ∙ sym (entries-insert path_total m k v))

  pub keys_view : from_sorted es ≡ m → T (is_sorted path_cmp es) → map (λ e. e.0) es ≡ keys m
  keys_view view sorted = ap (map (λ e. e.0)) (sym (entries_view view sorted))

  pub remove_view : from_sorted es ≡ m → T (is_sorted path_cmp es) → (k : List (List ℕ)) → from_sorted (where_key path_cmp (λ key. not (eq_by_cmp path_cmp k key)) es) ≡ remove m k
  remove_view view sorted k = same_entries_map _ _
      (entries-from_sorted path_cmp _ (is_sorted-where_key path_cmp _ es sorted)
      ∙ ap (where_key path_cmp (λ key. not (eq_by_cmp path_cmp k key))) (sym (entries_view view sorted))
      ∙ sym (entries-remove m k))

pub sorted_entries : {X : Type 0} (es : List (List (List ℕ) × X)) (m : FinMap path_cmp X) → es ≡ entries m → T (is_sorted path_cmp es)
sorted_entries es m is = subst (λ x. T (is_sorted path_cmp x)) (sym is) (entries_sorted m)

module _ {B : Type 0} where
  pub entries-moved : (es : List (List (List ℕ) × Node B)) (m : Tree B) → from_sorted es ≡ m → T (is_sorted path_cmp es) → (from to : List (List ℕ)) → moved_rows_of from to es ≡ entries (moved m from to)
  unfolding moved
  entries-moved es m view sorted from to =
      ap (moved_rows_of from to) (sym (entries_view es m view sorted))
      ∙ ap (λ rows. put_all (moved_entries from to rows)) (sym (entries-retain_keys m (λ path. is_none (below to path))))
      ∙ sym (entries-from_entries (moved_entries from to (entries _)))

  pub entries-root_alone : ([], Dir) ∷ [] ≡ entries (root_alone {B = B})
  entries-root_alone = sym (entries-insert path_total _ [] Dir ∙ ap (put path_cmp [] Dir) entries-empty)

  -- the rows in which a file is changed
  pub sorted-changed_rows : (path : List (List ℕ)) (f : B → B) (es : List (List (List ℕ) × Node B)) → T (is_sorted path_cmp es) → T (is_sorted path_cmp (changed_rows path f es))
  sorted-changed_rows path f es sorted = by_node (find path_cmp path es)
    where
      by_node : (o : Option (Node B)) → T (is_sorted path_cmp (put_changed_row path f es o))
      by_node None = sorted
      by_node (Some node) = is_sorted-put path_cmp path_total path (node_map f node) es sorted

  pub changed_view : (es : List (List (List ℕ) × Node B)) (m : Tree B) → from_sorted es ≡ m → T (is_sorted path_cmp es) → (path : List (List ℕ)) (f : B → B) → from_sorted (changed_rows path f es) ≡ changed_at m path f
  unfolding changed_at
  changed_view es m view sorted path f = by_node (find path_cmp path es) ∙ ap (put_changed m path f) (get_view es m view sorted path)
    where
      by_node : (o : Option (Node B)) → from_sorted (put_changed_row path f es o) ≡ put_changed m path f o
      by_node None = view
      by_node (Some node) = insert_view es m view sorted path (node_map f node)
