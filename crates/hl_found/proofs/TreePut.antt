-- The tree that is put together, number by number.
use Rattle.std.specs.FinMap.{empty, get, get-empty, get-insert, insert, len}
use Rattle.std.proofs.Common.{◌≡◌, ◌⊎◌, inl, inr, ⊎_elim, ℕ, ◌+◌, ◌<◌, ◌≤◌, Bool, true, false, cond, List, [], refl, sym, ap, ◌∙◌, subst, arith}
use Rattle.std.specs.Prelude.{Contains, Option, Some, None, IsSome, option_map}
use Rattle.std.specs.List.{slice_index_or}
use Rattle.std.proofs.lemmas.Bool.{cases_lt}
use Rattle.hl_tree.specs.declared.node.Node.{Node}
use Rattle.hl_tree.specs.declared.node.Node.TheVariants.{Dir, File}
use Rattle.hl_tree.specs.Names.{path_cmp}
use Rattle.hl_tree.specs.Rules as rules
use Rattle.hl_tree.specs.OtherContents.{node_map}
use Rattle.hl_tree.specs.Tree.{root_alone}
use Rattle.hl_tree.proofs.Maps.{path_total}
use Rattle.hl_tree.proofs.Moved.{Names, same, same_is}
use Rattle.hl_tree.proofs.Room.{len-insert-le, len-root_alone}
use Rattle.hl_tree_laws.proofs.Lookups.{same_tree}
use Rattle.hl_tree_laws.proofs.OtherContents.{get-map_contents}
use Rattle.hl_placed.specs.Blocks.{PlacedFile, Shelf, plain_bytes}
use Rattle.hl_placed.specs.Placed.{PlacedTree, plain}
use Rattle.hl_paths.specs.Links.{resolve}
use Rattle.hl_paths.specs.Numbered.{NumberedNode, Directory, Leaf, Numbering, links, found_node, tree_node, IsTreeOf}
use Rattle.hl_paths.specs.Nodes.{FlatNode, Spell, flat_node}
use Rattle.hl_paths.proofs.Links.{none_some, resolve-root}
use Rattle.hl_paths.proofs.Nodes.{some_of, is_there, path_itself, found-used, linked-paths}
use Rattle.hl_nodes.specs.declared.found.FoundNode.{FoundNode}
use Rattle.hl_nodes.specs.Found.{node_found, nodes_found}
use Rattle.hl_nodes.proofs.FoundNodes.{get-nodes_found}
use Rattle.hl_found.specs.declared.reach.Reached.{Reached}
use Rattle.hl_found.specs.Reach.{at_path, ArePlaces}
use Rattle.hl_found.specs.Files.{IsPut, ArePut, plain_content, plain_node}
use Rattle.hl_found.proofs.LiveFound.{last_or_before}
use Rattle.hl_found.proofs.ReachFound.{contains_leads}

-- what a tree has once a node is put at a path
at_path_of : (tree : rules.Files) (path : Names) (x : Node (List ℕ)) (q : Names) (b : Bool) → same q path ≡ b → get (insert tree path x) q ≡ cond b (Some x) (get tree q)
at_path_of tree path x q b e = get-insert path_total tree path x q ∙ ap (λ (c : Bool). cond c (Some x) (get tree q)) e

module _ (shelf : Shelf) (nodes : List (Option FoundNode)) (reached : List Reached) where
  -- what stands at a path once a node is put
  inserted : (tree : rules.Files) (path : Names) (x : Node (List ℕ)) (q : Names) (y : Node (List ℕ)) → get (insert tree path x) q ≡ Some y → ((q ≡ path) × (x ≡ y)) ⊎ (get tree q ≡ Some y)
  inserted tree path x q y e = by (same q path) refl
    where
      by : (b : Bool) → same q path ≡ b → ((q ≡ path) × (x ≡ y)) ⊎ (get tree q ≡ Some y)
      by true is = let both : Some x ≡ Some y = sym (at_path_of tree path x q true is) ∙ e in inl (same_is q path is, (cc))
      by false is = inr (sym (at_path_of tree path x q false is) ∙ e)

  stays : (tree : rules.Files) (path : Names) (x : Node (List ℕ)) (q : Names) → IsSome (get tree q) → IsSome (get (insert tree path x) q)
  stays tree path x q some = by (same q path) refl
    where
      by : (b : Bool) → same q path ≡ b → IsSome (get (insert tree path x) q)
      by true is = is_there x (at_path_of tree path x q true is)
      by false is = subst IsSome (sym (at_path_of tree path x q false is)) some

  pub none_put : (tree : rules.Files) → tree ≡ root_alone → ArePut shelf nodes reached 0 tree
  none_put tree e = record {
    few = (let one = len-root_alone (List ℕ) in let same_len : len tree ≡ len (root_alone {B = List ℕ}) = ap len e in omega arith);
    sound = λ path x at. inl (by path x (inserted empty [] Dir path x (sym (ap (λ (t : rules.Files). get t path) e) ∙ at)));
    whole = λ number path f lt. absurd (omega arith);
  }
    where
      by : (path : Names) (x : Node (List ℕ)) → ((path ≡ []) × (Dir ≡ x)) ⊎ (get (empty {X = Node (List ℕ)} {R = path_cmp}) path ≡ Some x) → (path ≡ []) × (x ≡ Dir)
      by path x (inl (root, is)) = (root, sym is)
      by path x (inr at) = absurd (none_some (sym (get-empty path_cmp path) ∙ at))

  pub one_put : (n : ℕ) (old new : rules.Files) → ArePut shelf nodes reached n old → IsPut shelf (slice_index_or nodes n None) reached n old new → ArePut shelf nodes reached (n + 1) new
  one_put n old new are (inl (path, f, at, node, is)) = subst (ArePut shelf nodes reached (n + 1)) (sym is) (record {
    few = (let le = are.few in let more = len-insert-le old path (plain_node shelf f) in omega arith);
    sound = λ q x e. ⊎_elim
        (λ own. inr (n, f, subst (λ (p : Names). Contains reached (at_path p n)) (sym own.0) at, node, sym own.1))
        (λ before. are.sound q x before)
        (inserted old path (plain_node shelf f) q x e);
    whole = λ number q other lt there is_node. ⊎_elim
        (λ low. (let before = are.whole number q other low there is_node in (before.0, before.1, stays old path (plain_node shelf f) before.0 before.2)))
        (λ e. (path, subst (λ (k : ℕ). Contains reached (at_path path k)) (sym e) at, is_there (plain_node shelf f) (at_path_of old path (plain_node shelf f) path true (path_itself path))))
        (last_or_before number n lt);
  })
  one_put n old new are (inr (none, is)) = subst (ArePut shelf nodes reached (n + 1)) (sym is) (record {
    few = (let le = are.few in omega arith);
    sound = are.sound;
    whole = λ number q f lt there node. ⊎_elim
        (λ low. are.whole number q f low there node)
        (λ e. absurd (none q f (subst (λ (k : ℕ). Contains reached (at_path q k)) e there) (subst (λ (k : ℕ). slice_index_or nodes k None ≡ Some f) e node)))
        (last_or_before number n lt);
  })

  module _ (numbered : Numbering PlacedFile) (placed : PlacedTree) (spelled : Spell (nodes_found nodes) numbered) (places : ArePlaces numbered reached) (tree_is : IsTreeOf numbered placed) where
    -- what stands at a number, plainly
    plain_of : Option (NumberedNode PlacedFile) → Option (Node (List ℕ))
    plain_of o = option_map (node_map (plain_bytes shelf)) (option_map tree_node o)

    number_is : (number : ℕ) (f : FoundNode) → slice_index_or nodes number None ≡ Some f → plain_of (get numbered number) ≡ Some (plain_node shelf f)
    unfolding plain_of
    number_is number f at = by (get numbered number) (sym (spelled number) ∙ get-nodes_found nodes number ∙ ap (option_map node_found) at)
      where
        of : (n : FlatNode) (o : NumberedNode PlacedFile) → flat_node o ≡ n → Some (node_map (plain_bytes shelf) (tree_node o)) ≡ Some (plain_content shelf n.kind n.content)
        of n (Directory es) e = subst (λ (x : FlatNode). Some Dir ≡ Some (plain_content shelf x.kind x.content)) e refl
        of n (Leaf content) e = subst (λ (x : FlatNode). Some (File (plain_bytes shelf content)) ≡ Some (plain_content shelf x.kind x.content)) e refl

        by : (o : Option (NumberedNode PlacedFile)) → option_map flat_node o ≡ Some (node_found f) → option_map (node_map (plain_bytes shelf)) (option_map tree_node o) ≡ Some (plain_node shelf f)
        by None e = absurd (none_some e)
        by (Some x) e = let same : flat_node x ≡ node_found f = cc in of (node_found f) x same

    path_is : (path : Names) → get (plain shelf placed) path ≡ option_map (node_map (plain_bytes shelf)) (found_node numbered (resolve (links numbered) path))
    unfolding plain
    path_is path = get-map_contents (plain_bytes shelf) placed path ∙ ap (option_map (node_map (plain_bytes shelf))) (tree_is.same path)

    at_number : (path : Names) (number : ℕ) (f : FoundNode) → resolve (links numbered) path ≡ Some number → slice_index_or nodes number None ≡ Some f → get (plain shelf placed) path ≡ Some (plain_node shelf f)
    unfolding plain_of
    at_number path number f leads at = path_is path ∙ ap (λ (o : Option ℕ). option_map (node_map (plain_bytes shelf)) (found_node numbered o)) leads ∙ number_is number f at

    root_is : get (plain shelf placed) [] ≡ Some Dir
    root_is = path_is [] ∙ ap (λ (o : Option ℕ). option_map (node_map (plain_bytes shelf)) (found_node numbered o)) (resolve-root (links numbered))
        ∙ ap (λ (o : Option (NumberedNode PlacedFile)). option_map (node_map (plain_bytes shelf)) (option_map tree_node o)) tree_is.linked.root.1

    -- a number that a node has
    node_there : (number : ℕ) → IsSome (get numbered number) → (f : FoundNode) × (slice_index_or nodes number None ≡ Some f)
    node_there number some = by (slice_index_or nodes number None) refl
      where
        x : (x : NumberedNode PlacedFile) × (get numbered number ≡ Some x)
        x = some_of (get numbered number) some

        by : (o : Option FoundNode) → slice_index_or nodes number None ≡ o → (f : FoundNode) × (slice_index_or nodes number None ≡ Some f)
        by None e = absurd (none_some (sym (sym (spelled number) ∙ get-nodes_found nodes number ∙ ap (option_map node_found) e) ∙ ap (option_map flat_node) x.1))
        by (Some f) e = (f, e)

    -- once all are put, it is the plain tree
    pub all_put : (tree : rules.Files) (n : ℕ) → ((i : ℕ) → n ≤ i → slice_index_or nodes i None ≡ None) → ArePut shelf nodes reached n tree → plain shelf placed ≡ tree
    all_put tree n past are = same_tree (plain shelf placed) tree (λ path. by path (get tree path) refl)
      where
        sound : (path : Names) (x : Node (List ℕ)) → get tree path ≡ Some x → get (plain shelf placed) path ≡ Some x
        sound path x e = ⊎_elim
            (λ own. ap (get (plain shelf placed)) own.0 ∙ root_is ∙ ap Some (sym own.1))
            (λ own. at_number path own.0 own.1 (contains_leads numbered reached places.reached path own.0 own.2) own.3 ∙ ap Some (sym own.4))
            (are.sound path x e)

        nowhere : (path : Names) → get tree path ≡ None → (o : Option ℕ) → resolve (links numbered) path ≡ o → get (plain shelf placed) path ≡ None
        nowhere path e None leads = path_is path ∙ ap (λ (o : Option ℕ). option_map (node_map (plain_bytes shelf)) (found_node numbered o)) leads
        nowhere path e (Some number) leads =
            let some = found-used numbered tree_is.linked path number leads in
            let f = node_there number some in
            let lt : number < n = ⊎_elim (λ lt. lt) (λ ge. absurd (none_some (sym (past number ge) ∙ f.1))) (cases_lt number n) in
            let put = are.whole number path f.0 lt (places.whole path number leads) f.1 in
            let same_path : put.0 ≡ path = linked-paths numbered tree_is.linked put.0 path number (contains_leads numbered reached places.reached put.0 number put.1) leads in
            let x = some_of (get tree put.0) put.2 in
            absurd (none_some (sym e ∙ ap (get tree) (sym same_path) ∙ x.1))

        by : (path : Names) (o : Option (Node (List ℕ))) → get tree path ≡ o → get (plain shelf placed) path ≡ get tree path
        by path None e = nowhere path e (resolve (links numbered) path) refl ∙ sym e
        by path (Some x) e = sound path x e ∙ sym e
