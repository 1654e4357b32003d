-- A tree with other contents at its files goes along with each change.
use Rattle.std.proofs.Common.{◌≡◌, ℕ, Bool, true, false, ◌&&◌, cond, T, List, [], ◌∷◌, ◌++◌, length, map, Option, Some, None, Result, refl, ap, ◌∙◌, sym, subst, suc}
use Rattle.std.specs.Option.{option_map}
use Rattle.std.specs.Ordering.{eq_by_cmp, is_lt}
use Rattle.std.specs.FinMap.{get, insert, remove, entries, entries_sorted, len, len-entries, entries-from_sorted, get-entries, get-from_sorted, get-insert, get-remove}
use Rattle.std.specs.FinMap.Entries.{find, is_sorted, below_all}
use Rattle.hl_tree.specs.declared.call.Refusal.{Refusal}
use Rattle.hl_tree.specs.declared.node.Node.{Node}
use Rattle.hl_tree.specs.declared.node.Node.TheVariants.{Dir, File}
use Rattle.hl_tree.specs.Names.{path_cmp, children}
use Rattle.hl_tree.specs.Tree.{Tree, names_in, walk_to_parent, way_on, in_directory}
use Rattle.hl_tree.proofs.Maps.{path_total}
use Rattle.hl_tree_laws.proofs.Lookups.{same_tree}
use Rattle.hl_tree.specs.OtherContents.{node_map, mapped, map_contents}
use Rattle.hl_tree.proofs.Moved.{Names}

module _ {A B : Type 0} (f : A → B) where
  below_all-mapped : (x : List (List ℕ)) (es : List (List (List ℕ) × Node A)) → below_all path_cmp x (mapped f es) ≡ below_all path_cmp x es
  below_all-mapped x [] = refl
  below_all-mapped x (e ∷ es) = ap (λ b. is_lt (path_cmp x e.0) && b) (below_all-mapped x es)

  pub is_sorted-mapped : (es : List (List (List ℕ) × Node A)) → is_sorted path_cmp (mapped f es) ≡ is_sorted path_cmp es
  is_sorted-mapped [] = refl
  is_sorted-mapped (e ∷ es) = λ i. below_all-mapped e.0 es i && is_sorted-mapped es i

  find-mapped : (es : List (List (List ℕ) × Node A)) (path : List (List ℕ)) → find path_cmp path (mapped f es) ≡ option_map (node_map f) (find path_cmp path es)
  find-mapped [] path = refl
  find-mapped (e ∷ es) path =
      elim (eq_by_cmp path_cmp path e.0) as (λ b. cond b (Some (node_map f e.1)) (find path_cmp path (mapped f es)) ≡ option_map (node_map f) (cond b (Some e.1) (find path_cmp path es))) [ true ↦ refl | false ↦ find-mapped es path ]

  -- the tree with other contents has them where the tree has its own
  pub get-map_contents : (t : Tree A) (path : List (List ℕ)) → get (map_contents f t) path ≡ option_map (node_map f) (get t path)
  unfolding map_contents
  get-map_contents t path =
      get-from_sorted path_cmp _ path (subst T (sym (is_sorted-mapped (entries t))) (entries_sorted t))
      ∙ find-mapped (entries t) path
      ∙ ap (option_map (node_map f)) (sym (get-entries t path))

module _ {A B : Type 0} (f : A → B) where
  on_cond : (b : Bool) (n : Node A) (o : Option (Node A)) → option_map (node_map f) (cond b (Some n) o) ≡ cond b (Some (node_map f n)) (option_map (node_map f) o)
  on_cond true n o = refl
  on_cond false n o = refl

  on_none : (b : Bool) (o : Option (Node A)) → option_map (node_map f) (cond b None o) ≡ cond b None (option_map (node_map f) o)
  on_none true o = refl
  on_none false o = refl

  pub entries-map_contents : (t : Tree A) → entries (map_contents f t) ≡ mapped f (entries t)
  unfolding map_contents
  entries-map_contents t = entries-from_sorted path_cmp (mapped f (entries t)) (subst T (sym (is_sorted-mapped f (entries t))) (entries_sorted t))

  keys-mapped : (es : List (Names × Node A)) → map (λ e. e.0) (mapped f es) ≡ map (λ e. e.0) es
  keys-mapped [] = refl
  keys-mapped (e ∷ es) = ap (λ rest. e.0 ∷ rest) (keys-mapped es)

  length-mapped : (es : List (Names × Node A)) → length (mapped f es) ≡ length es
  length-mapped [] = refl
  length-mapped (e ∷ es) = ap suc (length-mapped es)

  module _ (t : Tree A) where
    pub len-map_contents : len (map_contents f t) ≡ len t
    len-map_contents = len-entries (map_contents f t) ∙ ap length (entries-map_contents t) ∙ length-mapped (entries t) ∙ sym (len-entries t)

    pub names_in-map_contents : (path : Names) → names_in (map_contents f t) path ≡ names_in t path
    unfolding names_in
    names_in-map_contents path = ap (λ es. children path (map (λ e. e.0) es)) (entries-map_contents t) ∙ ap (children path) (keys-mapped (entries t))

    alike : (o : Option (Node A)) (next : Result (Unit {0}) Refusal) → in_directory (option_map (node_map f) o) next ≡ in_directory o next
    alike None next = refl
    alike (Some Dir) next = refl
    alike (Some (File content)) next = refl

    way_on-map_contents : (done names : Names) → way_on (map_contents f t) done names ≡ way_on t done names
    way_on-map_contents done [] = refl
    way_on-map_contents done (name ∷ names) =
        (λ i. in_directory (get-map_contents f t done i) (way_on-map_contents (done ++ name ∷ []) names i))
        ∙ alike (get t done) (way_on t (done ++ name ∷ []) names)

    pub walk_to_parent-map_contents : (path : Names) → walk_to_parent (map_contents f t) path ≡ walk_to_parent t path
    unfolding walk_to_parent
    walk_to_parent-map_contents path = way_on-map_contents [] path

    pub map_contents-insert : (path : Names) (node : Node A) → map_contents f (insert t path node) ≡ insert (map_contents f t) path (node_map f node)
    map_contents-insert path node = same_tree _ _ (λ q.
        get-map_contents f (insert t path node) q
        ∙ ap (option_map (node_map f)) (get-insert path_total t path node q)
        ∙ on_cond (eq_by_cmp path_cmp q path) node (get t q)
        ∙ sym (get-insert path_total (map_contents f t) path (node_map f node) q ∙ ap (cond (eq_by_cmp path_cmp q path) (Some (node_map f node))) (get-map_contents f t q)))

    pub map_contents-remove : (path : Names) → map_contents f (remove t path) ≡ remove (map_contents f t) path
    map_contents-remove path = same_tree _ _ (λ q.
        get-map_contents f (remove t path) q
        ∙ ap (option_map (node_map f)) (get-remove path_total t path q)
        ∙ on_none (eq_by_cmp path_cmp q path) (get t q)
        ∙ sym (get-remove path_total (map_contents f t) path q ∙ ap (cond (eq_by_cmp path_cmp q path) None) (get-map_contents f t q)))
