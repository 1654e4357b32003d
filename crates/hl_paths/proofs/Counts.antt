-- Linked numbers have a tree; its nodes are as many, and what is summed over the ones is summed over the others.
use Rattle.std.proofs.Common.{arith, ◌≡◌, ℕ, ◌+◌, Bool, true, false, ◌&&◌, cond, T, List, [], ◌∷◌, length, Option, Some, None, refl, ap, ◌∙◌, sym, suc}
use Rattle.std.proofs.lemmas.List.Sums.{sum_by-cons}
use Rattle.std.specs.Option.{option_map}
use Rattle.std.specs.List.{AllByRecursion, sum_by}
use Rattle.std.specs.declared.cmp.Ordering.{Ordering}
use Rattle.std.specs.declared.cmp.Ordering.TheVariants.{Less, Equal, Greater}
use Rattle.std.specs.Ordering.{nat_cmp, is_eq, is_lt}
use Rattle.std.specs.Cmp.{both_ways}
use Rattle.std.specs.FinMap.{get, entries, entries_sorted, len, len-entries, get-entries, from_entries, get-from_entries}
use Rattle.std.specs.FinMap.Entries.{by_order, find, put, below_all, is_sorted}
use Rattle.hl_tree.specs.declared.node.Node.{Node}
use Rattle.hl_tree.specs.Moved.{put_all}
use Rattle.hl_tree.specs.Names.{path_cmp}
use Rattle.hl_tree.specs.Tree.{Tree}
use Rattle.hl_tree_laws.proofs.Lookups.{same_tree}
use Rattle.hl_tree.proofs.Maps.{path_total, entries-from_entries}
use Rattle.hl_tree.proofs.Moved.{Names, same, same_is}
use Rattle.hl_tree_laws.proofs.NamesIn.{AreApart, len-is}
use Rattle.hl_paths.specs.Links.{resolve, same_number}
use Rattle.hl_paths.specs.Numbered.{NumberedNode, Numbering, links, AreLinked, IsTreeOf, tree_node, found_node}
use Rattle.hl_paths.proofs.Links.{none_some, true_false, HaveOnePath}
use Rattle.hl_paths.proofs.Relinks.{number_is, number_itself}
use Rattle.hl_paths.proofs.Nodes.{is_there, path_itself, path_other, linked-paths}

first : (a b : Bool) → T (a && b) → T a
first true b p = tt
first false b p = p

second : (a b : Bool) → T (a && b) → T b
second true b p = p
second false b p = absurd p

no_tie : (o : Ordering) → T (is_lt o) → is_eq o ≡ false
no_tie Less h = refl
no_tie Equal h = absurd h
no_tie Greater h = refl

module _ {X : Type 0} where
  -- a number below all those of the rows isn't among them
  none_below : (k : ℕ) (es : List (ℕ × X)) → T (below_all nat_cmp k es) → find nat_cmp k es ≡ None
  none_below k [] h = refl
  none_below k (e ∷ es) h = ap (λ b. cond b (Some e.1) (find nat_cmp k es)) (no_tie (nat_cmp k e.0) (first _ _ h)) ∙ none_below k es (second (is_lt (nat_cmp k e.0)) _ h)

  -- each row of a map is found at its number
  each_later : (e : ℕ × X) (es fs : List (ℕ × X)) → T (below_all nat_cmp e.0 fs) → AllByRecursion (λ f. find nat_cmp f.0 es ≡ Some f.1) fs → AllByRecursion (λ f. find nat_cmp f.0 (e ∷ es) ≡ Some f.1) fs
  each_later e es [] h each = tt
  each_later e es (f ∷ fs) h each = (
    ap (λ b. cond b (Some e.1) (find nat_cmp f.0 es)) (apart f.0 (first (is_lt (nat_cmp e.0 f.0)) _ h)) ∙ each.0,
    each_later e es fs (second (is_lt (nat_cmp e.0 f.0)) _ h) each.1,
  )
    where
      apart : (n : ℕ) → T (is_lt (nat_cmp e.0 n)) → same_number n e.0 ≡ false
      apart n less = elim (same_number n e.0) as (λ b. same_number n e.0 ≡ b → b ≡ false) [
        | true ↦ λ t. absurd (true_false (sym (number_itself e.0) ∙ ap (same_number e.0) (sym (number_is n e.0 t)) ∙ no_tie (nat_cmp e.0 n) less))
        | false ↦ λ t. refl
      ] refl

  pub each_found : (es : List (ℕ × X)) → T (is_sorted nat_cmp es) → AllByRecursion (λ f. find nat_cmp f.0 es ≡ Some f.1) es
  each_found [] h = tt
  each_found (e ∷ es) h = (
    ap (λ b. cond b (Some e.1) (find nat_cmp e.0 es)) (number_itself e.0),
    each_later e es es (first (below_all nat_cmp e.0 es) _ h) (each_found es (second (below_all nat_cmp e.0 es) _ h)),
  )

  -- a row that is new adds its own to a sum
  sum-put : (f : Names × X → ℕ) (k : Names) (v : X) (es : List (Names × X)) → find path_cmp k es ≡ None → sum_by f (put path_cmp k v es) ≡ f (k, v) + sum_by f es
  sum-put f k v [] none = sum_by-cons f (k, v) []
  sum-put f k v (e ∷ es) none = by_cmp (λ h. sum-put f k v es h) (path_cmp k e.0) none
    where
      by_cmp : (find path_cmp k es ≡ None → sum_by f (put path_cmp k v es) ≡ f (k, v) + sum_by f es) → (o : Ordering) → cond (is_eq o) (Some e.1) (find path_cmp k es) ≡ None → sum_by f (by_order o ((k, v) ∷ e ∷ es) ((e.0, v) ∷ es) (e ∷ put path_cmp k v es)) ≡ f (k, v) + sum_by f (e ∷ es)
      by_cmp later Less h = sum_by-cons f (k, v) (e ∷ es)
      by_cmp later Equal h = absurd (none_some (sym h))
      by_cmp later Greater h =
          let more = sum_by-cons f e (put path_cmp k v es) in
          let was = sum_by-cons f e es in
          let rest : sum_by f (put path_cmp k v es) ≡ f (k, v) + sum_by f es = later h in
          omega arith

  find-put_all : (es : List (Names × X)) (q : Names) → find path_cmp q (put_all es) ≡ find path_cmp q es
  find-put_all es q = ap (find path_cmp q) (sym (entries-from_entries es)) ∙ sym (get-entries (from_entries es) q) ∙ get-from_entries path_total es q

  sum-put_all : (f : Names × X → ℕ) (es : List (Names × X)) → AreApart es → sum_by f (put_all es) ≡ sum_by f es
  sum-put_all f [] apart = refl
  sum-put_all f (e ∷ es) apart =
      sum-put f e.0 e.1 (put_all es) (find-put_all es e.0 ∙ apart.0)
      ∙ ap (λ n. f e + n) (sum-put_all f es apart.1)
      ∙ sym (sum_by-cons f e es)

module _ {B : Type 0} (nodes : Numbering B) (linked : AreLinked nodes) where
  abbrev Found : List (ℕ × NumberedNode B) → Type 0
  Found es = AllByRecursion (λ e. get nodes e.0 ≡ Some e.1) es

  path_to : (n : ℕ) (node : NumberedNode B) → get nodes n ≡ Some node → (path : Names) × (resolve (links nodes) path ≡ Some n)
  path_to n node there = linked.reached n (is_there node there)

  -- the nodes of the tree in the order of their numbers
  abbrev tree_rows : (es : List (ℕ × NumberedNode B)) → Found es → List (Names × Node B)
  tree_rows [] each = []
  tree_rows (e ∷ es) each = ((path_to e.0 e.1 each.0).0, tree_node e.1) ∷ tree_rows es each.1

  abbrev found_in : List (ℕ × NumberedNode B) → Option ℕ → Option (Node B)
  found_in es None = None
  found_in es (Some n) = option_map tree_node (find nat_cmp n es)

  none_found : (o : Option ℕ) → None ≡ found_in [] o
  none_found None = refl
  none_found (Some n) = refl

  cond_node : (b : Bool) (node : NumberedNode B) (o : Option (NumberedNode B)) → cond b (Some (tree_node node)) (option_map tree_node o) ≡ option_map tree_node (cond b (Some node) o)
  cond_node true node o = refl
  cond_node false node o = refl

  paths : HaveOnePath (links nodes)
  paths = linked-paths nodes linked

  find-tree_rows : (es : List (ℕ × NumberedNode B)) (each : Found es) (path : Names) → find path_cmp path (tree_rows es each) ≡ found_in es (resolve (links nodes) path)
  find-tree_rows [] each path = none_found (resolve (links nodes) path)
  find-tree_rows (e ∷ es) each path =
      let to = path_to e.0 e.1 each.0 in
      ap (cond (same path to.0) (Some (tree_node e.1))) (find-tree_rows es each.1 path)
      ∙ elim (resolve (links nodes) path) as (λ o. resolve (links nodes) path ≡ o → cond (same path to.0) (Some (tree_node e.1)) (found_in es o) ≡ found_in (e ∷ es) o) [
        | None ↦ λ h. ap (λ b. cond b (Some (tree_node e.1)) None) (path_other path to.0 (λ p. none_some (sym h ∙ ap (resolve (links nodes)) p ∙ to.1)))
        | Some n ↦ λ h.
            ap (λ b. cond b (Some (tree_node e.1)) (option_map tree_node (find nat_cmp n es))) (both_ways (same path to.0) (same_number n e.0)
            (λ s. let one : Some n ≡ Some e.0 = sym h ∙ ap (resolve (links nodes)) (same_is path to.0 s) ∙ to.1 in let number : n ≡ e.0 = cc in ap (λ k. same_number k e.0) number ∙ number_itself e.0)
            (λ s. ap (λ p. same p to.0) (paths path to.0 e.0 (h ∙ ap Some (number_is n e.0 s)) to.1) ∙ path_itself to.0))
            ∙ cond_node (same_number n e.0) e.1 (find nat_cmp n es)
      ] refl

  apart-tree_rows : (es : List (ℕ × NumberedNode B)) → T (is_sorted nat_cmp es) → (each : Found es) → AreApart (tree_rows es each)
  apart-tree_rows [] sorted each = tt
  apart-tree_rows (e ∷ es) sorted each = (
    find-tree_rows es each.1 (path_to e.0 e.1 each.0).0
        ∙ ap (found_in es) (path_to e.0 e.1 each.0).1
        ∙ ap (option_map tree_node) (none_below e.0 es (first (below_all nat_cmp e.0 es) _ sorted)),
    apart-tree_rows es (second (below_all nat_cmp e.0 es) _ sorted) each.1,
  )

  found_each : (es : List (ℕ × NumberedNode B)) → AllByRecursion (λ f. find nat_cmp f.0 (entries nodes) ≡ Some f.1) es → Found es
  found_each [] each = tt
  found_each (e ∷ es) each = (get-entries nodes e.0 ∙ each.0, found_each es each.1)

  all_found : Found (entries nodes)
  all_found = found_each (entries nodes) (each_found (entries nodes) (entries_sorted nodes))

  all_rows : List (Names × Node B)
  all_rows = tree_rows (entries nodes) all_found

  all_apart : AreApart all_rows
  unfolding all_rows
  all_apart = apart-tree_rows (entries nodes) (entries_sorted nodes) all_found

  found_rows : (path : Names) → find path_cmp path all_rows ≡ found_node nodes (resolve (links nodes) path)
  unfolding all_rows
  found_rows path = find-tree_rows (entries nodes) all_found path ∙ by_number (resolve (links nodes) path)
    where
      by_number : (o : Option ℕ) → found_in (entries nodes) o ≡ found_node nodes o
      by_number None = refl
      by_number (Some n) = ap (option_map tree_node) (sym (get-entries nodes n))

  -- numbers that are linked have a tree
  pub tree_of : (t : Tree B) × IsTreeOf nodes t
  unfolding all_rows
  tree_of = (from_entries all_rows, record { linked = linked; same = λ path. get-from_entries path_total all_rows path ∙ found_rows path })

  length-tree_rows : (es : List (ℕ × NumberedNode B)) (each : Found es) → length (tree_rows es each) ≡ length es
  length-tree_rows [] each = refl
  length-tree_rows (e ∷ es) each = ap suc (length-tree_rows es each.1)

  sum-tree_rows : (f : Names × Node B → ℕ) (g : ℕ × NumberedNode B → ℕ) → ((path : Names) (n : ℕ) (node : NumberedNode B) → resolve (links nodes) path ≡ Some n → get nodes n ≡ Some node → f (path, tree_node node) ≡ g (n, node))
      → (es : List (ℕ × NumberedNode B)) (each : Found es) → sum_by f (tree_rows es each) ≡ sum_by g es
  sum-tree_rows f g same [] each = refl
  sum-tree_rows f g same (e ∷ es) each =
      let to = path_to e.0 e.1 each.0 in
      sum_by-cons f (to.0, tree_node e.1) (tree_rows es each.1)
      ∙ (λ i. same to.0 e.0 e.1 to.1 each.0 i + sum-tree_rows f g same es each.1 i)
      ∙ sym (sum_by-cons g e es)

module _ {B : Type 0} (nodes : Numbering B) (t : Tree B) (is : IsTreeOf nodes t) where
  told : (path : Names) → get t path ≡ find path_cmp path (all_rows nodes is.linked)
  told path = is.same path ∙ sym (found_rows nodes is.linked path)

  -- as many nodes as numbers in use
  pub len-tree : len t ≡ len nodes
  unfolding all_rows
  len-tree = len-is t (all_rows nodes is.linked) (all_apart nodes is.linked) told ∙ length-tree_rows nodes is.linked (entries nodes) (all_found nodes is.linked) ∙ sym (len-entries nodes)

  -- what is summed over the nodes of the tree is summed over the numbers in use
  pub sum-tree : (f : Names × Node B → ℕ) (g : ℕ × NumberedNode B → ℕ) → ((path : Names) (n : ℕ) (node : NumberedNode B) → resolve (links nodes) path ≡ Some n → get nodes n ≡ Some node → f (path, tree_node node) ≡ g (n, node)) → sum_by f (entries t) ≡ sum_by g (entries nodes)
  unfolding all_rows
  sum-tree f g same =
      ap (λ tree. sum_by f (entries tree)) (same_tree t (from_entries (all_rows nodes is.linked)) (λ path. told path ∙ sym (get-from_entries path_total (all_rows nodes is.linked) path)))
      ∙ ap (sum_by f) (entries-from_entries (all_rows nodes is.linked))
      ∙ sum-put_all f (all_rows nodes is.linked) (all_apart nodes is.linked)
      ∙ sum-tree_rows nodes is.linked f g same (entries nodes) (all_found nodes is.linked)
