-- The calls that don't look into files do to a tree with other contents what they do to the tree.
use Rattle.std.proofs.Common.{◌≡◌, Bool, true, false, cond, ◌&&◌, not, nat_eq, nat_le, List, [], ◌∷◌, length, Option, Some, None, is_some, is_none, Result, Ok, Err, refl, ap, ◌∙◌, sym, if◌then◌else◌}
use Rattle.std.specs.Option.{option_map}
use Rattle.std.specs.Ordering.{eq_by_cmp}
use Rattle.std.specs.declared.cmp.Ordering.TheVariants.{Less, Equal, Greater}
use Rattle.std.specs.FinMap.{get, insert, remove, len, entries, entries_sorted, from_sorted, entries-from_sorted, same_entries_map}
use Rattle.std.specs.FinMap.Entries.{put, by_order}
use Rattle.hl_tree.specs.declared.call.Limits.{Limits}
use Rattle.hl_tree.specs.declared.call.Reply.TheVariants as replies
use Rattle.hl_tree.specs.declared.call.Refusal.{Refusal}
use Rattle.hl_tree.specs.declared.call.Refusal.TheVariants.{Eexist, Eisdir, Enotempty, Einval, Enametoolong, Einodes}
use Rattle.hl_tree.specs.declared.node.Node.{Node}
use Rattle.hl_tree.specs.declared.node.Node.TheVariants.{Dir, File}
use Rattle.hl_tree.specs.Moved.{put_all, kept_rows, moved_rows_of}
use Rattle.hl_tree.specs.Names.{path_cmp, is_too_long, below, moved_path}
use Rattle.hl_tree.specs.OtherContents.{node_map, mapped, map_contents}
use Rattle.hl_tree.specs.Refusals.{◌>>=◌, refused_if}
use Rattle.hl_tree.specs.Rules.{Done, make, list, unlink, rmdir, rename, replaced, is_directory, has_names}
use Rattle.hl_tree.specs.Tree.{Tree, walk, walk_to_parent, found, directory, content_of, names_in, moved, moved_entries}
use Rattle.hl_tree.proofs.Moved.{Names}
use Rattle.hl_tree_laws.proofs.OtherContents.{get-map_contents, len-map_contents, names_in-map_contents, walk_to_parent-map_contents, map_contents-insert, map_contents-remove, entries-map_contents}
use Rattle.hl_tree.proofs.Sorted.{entries-moved}

-- an outcome, with other contents in the tree that is left
abbrev pub done_map : {A B : Type 0} → (A → B) → Done A → Done B
done_map f (Ok done) = Ok (done.0, map_contents f done.1)
done_map f (Err why) = Err why

abbrev pub found_map : {A B : Type 0} → (A → B) → Result (Node A) Refusal → Result (Node B) Refusal
found_map f (Ok node) = Ok (node_map f node)
found_map f (Err why) = Err why

there_still : {A B : Type 0} (f : A → B) (o : Option (Node A)) → is_some (option_map (node_map f) o) ≡ is_some o
there_still f None = refl
there_still f (Some node) = refl

module _ {A B : Type 0} (f : A → B) where
  mapped-put : (k : Names) (v : Node A) (es : List (Names × Node A)) → mapped f (put path_cmp k v es) ≡ put path_cmp k (node_map f v) (mapped f es)
  mapped-put k v [] = refl
  mapped-put k v (e ∷ es) = elim (path_cmp k e.0) as (λ o. mapped f (by_order o ((k, v) ∷ e ∷ es) ((e.0, v) ∷ es) (e ∷ put path_cmp k v es)) ≡ by_order o ((k, node_map f v) ∷ (e.0, node_map f e.1) ∷ mapped f es) ((e.0, node_map f v) ∷ mapped f es) ((e.0, node_map f e.1) ∷ put path_cmp k (node_map f v) (mapped f es))) [
    | Less ↦ refl
    | Equal ↦ refl
    | Greater ↦ ap (λ rest. (e.0, node_map f e.1) ∷ rest) (mapped-put k v es)
  ]

  mapped-kept : (to : Names) (es : List (Names × Node A)) → mapped f (kept_rows to es) ≡ kept_rows to (mapped f es)
  mapped-kept to [] = refl
  mapped-kept to (e ∷ es) = elim (is_none (below to e.0)) as (λ b. mapped f (cond b (e ∷ kept_rows to es) (kept_rows to es)) ≡ cond b ((e.0, node_map f e.1) ∷ kept_rows to (mapped f es)) (kept_rows to (mapped f es))) [
    | true ↦ ap (λ rest. (e.0, node_map f e.1) ∷ rest) (mapped-kept to es)
    | false ↦ mapped-kept to es
  ]

  mapped-moved : (from to : Names) (es : List (Names × Node A)) → mapped f (put_all (moved_entries from to es)) ≡ put_all (moved_entries from to (mapped f es))
  mapped-moved from to [] = refl
  mapped-moved from to (e ∷ es) = mapped-put (moved_path from to e.0) e.1 (put_all (moved_entries from to es)) ∙ ap (put path_cmp (moved_path from to e.0) (node_map f e.1)) (mapped-moved from to es)

  entries_of-moved : {C : Type 0} (t : Tree C) (from to : Names) → entries (moved t from to) ≡ moved_rows_of from to (entries t)
  entries_of-moved t from to = sym (entries-moved (entries t) t (same_entries_map (from_sorted (entries t)) t (entries-from_sorted path_cmp (entries t) (entries_sorted t))) (entries_sorted t) from to)

  module _ (limits : Limits) (t : Tree A) where
    -- with no condition on the two paths
    pub map_contents-moved_any : (from to : Names) → map_contents f (moved t from to) ≡ moved (map_contents f t) from to
    map_contents-moved_any from to = same_entries_map (map_contents f (moved t from to)) (moved (map_contents f t) from to)
        (entries-map_contents f (moved t from to) ∙ ap (mapped f) (entries_of-moved t from to)
        ∙ mapped-moved from to (kept_rows to (entries t)) ∙ ap (λ es. put_all (moved_entries from to es)) (mapped-kept to (entries t))
        ∙ ap (moved_rows_of from to) (sym (entries-map_contents f t)) ∙ sym (entries_of-moved (map_contents f t) from to))

    found_alike : (o : Option (Node A)) → found (option_map (node_map f) o) ≡ found_map f (found o)
    found_alike None = refl
    found_alike (Some node) = refl

    pub walk-map_contents : (path : Names) → walk (map_contents f t) path ≡ found_map f (walk t path)
    unfolding walk
    walk-map_contents path = (λ i. walk_to_parent-map_contents f t path i >>= (λ _. (ap found (get-map_contents f t path) ∙ found_alike (get t path)) i)) ∙ behind (walk_to_parent t path)
      where
        behind : (way : Result (Unit {0}) Refusal) → (way >>= (λ _. found_map f (found (get t path)))) ≡ found_map f (way >>= (λ _. found (get t path)))
        behind (Ok u) = refl
        behind (Err why) = refl

    there : (path : Names) → is_some (get (map_contents f t) path) ≡ is_some (get t path)
    there path = ap is_some (get-map_contents f t path) ∙ there_still f (get t path)

    pub make-map_contents : (node : Node A) (path : Names) → make limits (map_contents f t) (node_map f node) path ≡ done_map f (make limits t node path)
    unfolding make
    make-map_contents node path =
        (λ i. refused_if (is_too_long path) Enametoolong >>= (λ _. refused_if (nat_eq (length path) 0) Eexist >>= (λ _. walk_to_parent-map_contents f t path i >>= (λ _. refused_if (there path i) Eexist >>= (λ _.
        refused_if (nat_le limits.nodes (len-map_contents f t i)) Einodes >>= (λ _. Ok (replies.Ok, sym (map_contents-insert f t path node) i)))))))
        ∙ steps (is_too_long path) (nat_eq (length path) 0) (walk_to_parent t path) (is_some (get t path)) (nat_le limits.nodes (len t))
      where
        steps : (a b : Bool) (way : Result (Unit {0}) Refusal) (c d : Bool)
            → (refused_if a Enametoolong >>= (λ _. refused_if b Eexist >>= (λ _. way >>= (λ _. refused_if c Eexist >>= (λ _. refused_if d Einodes >>= (λ _. Ok (replies.Ok, map_contents f (insert t path node))))))))
            ≡ done_map f (refused_if a Enametoolong >>= (λ _. refused_if b Eexist >>= (λ _. way >>= (λ _. refused_if c Eexist >>= (λ _. refused_if d Einodes >>= (λ _. Ok (replies.Ok, insert t path node)))))))
        steps true b way c d = refl
        steps false true way c d = refl
        steps false false (Err why) c d = refl
        steps false false (Ok u) true d = refl
        steps false false (Ok u) false true = refl
        steps false false (Ok u) false false = refl

    pub list-map_contents : (path : Names) → list limits (map_contents f t) path ≡ done_map f (list limits t path)
    unfolding list
    list-map_contents path =
        (λ i. refused_if (is_too_long path) Enametoolong >>= (λ _. walk-map_contents path i >>= (λ node. directory node >>= (λ _. Ok (replies.Names (names_in-map_contents f t path i), map_contents f t)))))
        ∙ steps (is_too_long path) (walk t path)
      where
        steps : (a : Bool) (w : Result (Node A) Refusal)
            → (refused_if a Enametoolong >>= (λ _. found_map f w >>= (λ node. directory node >>= (λ _. Ok (replies.Names (names_in t path), map_contents f t)))))
            ≡ done_map f (refused_if a Enametoolong >>= (λ _. w >>= (λ node. directory node >>= (λ _. Ok (replies.Names (names_in t path), t)))))
        steps true w = refl
        steps false (Err why) = refl
        steps false (Ok Dir) = refl
        steps false (Ok (File content)) = refl

    pub unlink-map_contents : (path : Names) → unlink limits (map_contents f t) path ≡ done_map f (unlink limits t path)
    unfolding unlink
    unlink-map_contents path =
        (λ i. refused_if (is_too_long path) Enametoolong >>= (λ _. refused_if (nat_eq (length path) 0) Eisdir >>= (λ _. walk-map_contents path i >>= (λ node. content_of node >>= (λ _. Ok (replies.Ok, sym (map_contents-remove f t path) i))))))
        ∙ steps (is_too_long path) (nat_eq (length path) 0) (walk t path)
      where
        steps : (a b : Bool) (w : Result (Node A) Refusal)
            → (refused_if a Enametoolong >>= (λ _. refused_if b Eisdir >>= (λ _. found_map f w >>= (λ node. content_of node >>= (λ _. Ok (replies.Ok, map_contents f (remove t path)))))))
            ≡ done_map f (refused_if a Enametoolong >>= (λ _. refused_if b Eisdir >>= (λ _. w >>= (λ node. content_of node >>= (λ _. Ok (replies.Ok, remove t path))))))
        steps true b w = refl
        steps false true w = refl
        steps false false (Err why) = refl
        steps false false (Ok Dir) = refl
        steps false false (Ok (File content)) = refl

    pub has_names-map_contents : (path : Names) → has_names limits (map_contents f t) path ≡ has_names limits t path
    has_names-map_contents path = ap (λ (names : Names). not (nat_eq (length names) 0)) (names_in-map_contents f t path)

    pub rmdir-map_contents : (path : Names) → rmdir limits (map_contents f t) path ≡ done_map f (rmdir limits t path)
    unfolding rmdir
    rmdir-map_contents path =
        (λ i. refused_if (is_too_long path) Enametoolong >>= (λ _. refused_if (nat_eq (length path) 0) Einval >>= (λ _. walk-map_contents path i >>= (λ node. directory node >>= (λ _. refused_if (has_names-map_contents path i) Enotempty >>= (λ _. Ok (replies.Ok, sym (map_contents-remove f t path) i)))))))
        ∙ steps (is_too_long path) (nat_eq (length path) 0) (walk t path) (has_names limits t path)
      where
        steps : (a b : Bool) (w : Result (Node A) Refusal) (c : Bool)
            → (refused_if a Enametoolong >>= (λ _. refused_if b Einval >>= (λ _. found_map f w >>= (λ node. directory node >>= (λ _. refused_if c Enotempty >>= (λ _. Ok (replies.Ok, map_contents f (remove t path))))))))
            ≡ done_map f (refused_if a Enametoolong >>= (λ _. refused_if b Einval >>= (λ _. w >>= (λ node. directory node >>= (λ _. refused_if c Enotempty >>= (λ _. Ok (replies.Ok, remove t path)))))))
        steps true b w c = refl
        steps false true w c = refl
        steps false false (Err why) c = refl
        steps false false (Ok (File content)) c = refl
        steps false false (Ok Dir) true = refl
        steps false false (Ok Dir) false = refl

    replaced_alike : (moving : Node A) (to : Names) (o : Option (Node A)) → replaced limits (map_contents f t) (node_map f moving) to (option_map (node_map f) o) ≡ replaced limits t moving to o
    replaced_alike moving to None = refl
    replaced_alike (File content) to (Some Dir) = refl
    replaced_alike Dir to (Some Dir) = ap (λ b. refused_if b Enotempty) (has_names-map_contents to)
    replaced_alike (File content) to (Some (File old)) = refl
    replaced_alike Dir to (Some (File old)) = refl

    is_directory_alike : (node : Node A) → is_directory limits (map_contents f t) (node_map f node) ≡ is_directory limits t node
    is_directory_alike Dir = refl
    is_directory_alike (File content) = refl

    pub rename-map_contents : (from to : Names) → rename limits (map_contents f t) from to ≡ done_map f (rename limits t from to)
    unfolding rename
    rename-map_contents from to =
        (λ i. refused_if (is_too_long from) Enametoolong >>= (λ _. refused_if (is_too_long to) Enametoolong >>= (λ _. refused_if (nat_eq (length from) 0) Einval >>= (λ _. walk-map_contents from i >>= next))))
        ∙ steps (is_too_long from) (is_too_long to) (nat_eq (length from) 0) (walk t from)
      where
        next : Node B → Done B
        next moving = if eq_by_cmp path_cmp from to then Ok (replies.Ok, map_contents f t) else (refused_if (is_directory limits (map_contents f t) moving && is_some (below from to)) Einval >>= (λ _. walk_to_parent (map_contents f t) to >>= (λ _. replaced limits (map_contents f t) moving to (get (map_contents f t) to) >>= (λ _. Ok (replies.Ok, moved (map_contents f t) from to)))))

        was : Node A → Done A
        was moving = if eq_by_cmp path_cmp from to then Ok (replies.Ok, t) else (refused_if (is_directory limits t moving && is_some (below from to)) Einval >>= (λ _. walk_to_parent t to >>= (λ _. replaced limits t moving to (get t to) >>= (λ _. Ok (replies.Ok, moved t from to)))))

        rest : (b c : Bool) (way put : Result (Unit {0}) Refusal)
            → (if b then Ok (replies.Ok, map_contents f t) else (refused_if c Einval >>= (λ _. way >>= (λ _. put >>= (λ _. Ok (replies.Ok, map_contents f (moved t from to)))))))
            ≡ done_map f (if b then Ok (replies.Ok, t) else (refused_if c Einval >>= (λ _. way >>= (λ _. put >>= (λ _. Ok (replies.Ok, moved t from to))))))
        rest true c way put = refl
        rest false true way put = refl
        rest false false (Err why) put = refl
        rest false false (Ok u) (Err why) = refl
        rest false false (Ok u) (Ok v) = refl

        on_node : (moving : Node A) → next (node_map f moving) ≡ done_map f (was moving)
        on_node moving =
            (λ i. if eq_by_cmp path_cmp from to then Ok (replies.Ok, map_contents f t) else (refused_if (is_directory_alike moving i && is_some (below from to)) Einval >>= (λ _. walk_to_parent-map_contents f t to i >>= (λ _. (ap (replaced limits (map_contents f t) (node_map f moving) to) (get-map_contents f t to) ∙ replaced_alike moving to (get t to)) i >>= (λ _. Ok (replies.Ok, sym (map_contents-moved_any from to) i))))))
            ∙ rest (eq_by_cmp path_cmp from to) (is_directory limits t moving && is_some (below from to)) (walk_to_parent t to) (replaced limits t moving to (get t to))

        steps : (a b c : Bool) (w : Result (Node A) Refusal)
            → (refused_if a Enametoolong >>= (λ _. refused_if b Enametoolong >>= (λ _. refused_if c Einval >>= (λ _. found_map f w >>= next))))
            ≡ done_map f (refused_if a Enametoolong >>= (λ _. refused_if b Enametoolong >>= (λ _. refused_if c Einval >>= (λ _. w >>= was))))
        steps true b c w = refl
        steps false true c w = refl
        steps false false true w = refl
        steps false false false (Err why) = refl
        steps false false false (Ok node) = on_node node
