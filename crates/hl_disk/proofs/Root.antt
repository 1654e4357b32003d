-- The dump of the root alone has no bytes.
use Rattle.std.proofs.Common.{◌≡◌, ℕ, List, [], ◌∷◌, ◌++◌, length, All, Some, None, cond, sym, ◌∙◌, ap, subst, arith}
use Rattle.std.specs.List.{flat_map}
use Rattle.std.specs.Ordering.{eq_by_cmp}
use Rattle.std.specs.FinMap.{get, empty, get-insert, get-empty}
use Rattle.std.proofs.lemmas.List.Elements.{All-nil, All-cons}
use Rattle.hl_tree.specs.declared.node.Node.{Node}
use Rattle.hl_tree.specs.declared.node.Node.TheVariants.{Dir}
use Rattle.hl_tree.specs.Names.{IsName, AreNames, path_cmp}
use Rattle.hl_tree.specs.Rules.{Files}
use Rattle.hl_tree.specs.Tree.{root_alone}
use Rattle.hl_tree.proofs.Maps.{path_total}
use Rattle.hl_tree.proofs.Sorted.{entries-root_alone}
use Rattle.hl_tree.proofs.Room.{len-root_alone}
use Rattle.hl_dump.specs.Dumps.{entry_bytes, dump_bytes, dump_size, IsDump}

abbrev root : Files
root = root_alone

get-root : (q : List (List ℕ)) → get root q ≡ cond (eq_by_cmp path_cmp q []) (Some Dir) (get (empty {X = Node (List ℕ)} {R = path_cmp}) q)
get-root q = get-insert path_total _ [] Dir q

nothing_else : (name : List ℕ) (names : List (List ℕ)) → get root (name ∷ names) ≡ None
nothing_else name names = get-root (name ∷ names) ∙ get-empty path_cmp (name ∷ names)

-- nothing stands below the root
none_below : (path : List (List ℕ)) (name : List ℕ) (node : Node (List ℕ)) → get root (path ++ name ∷ []) ≡ Some node → ⊥
none_below [] name node e = let f = sym e ∙ nothing_else name [] in absurd cc
none_below (first ∷ path) name node e = let f = sym e ∙ nothing_else first (path ++ name ∷ []) in absurd cc

no_bytes : dump_bytes root ≡ []
unfolding dump_bytes
no_bytes = ap (flat_map entry_bytes) (sym (entries-root_alone {B = List ℕ}))

pub root_dump : IsDump [] root_alone
root_dump = record {
  tree = record {
    is_tree = record { root = get-root []; parents = λ path name node e. absurd (none_below path name node e) };
    named = subst (λ (es : List (List (List ℕ) × Node (List ℕ))). All (λ e. AreNames e.0) es) (entries-root_alone {B = List ℕ})
        (All-cons (λ e. AreNames e.0) ([], Dir) [] (All-nil IsName) (All-nil (λ e. AreNames e.0)));
    few = omega (arith, len-root_alone (List ℕ));
    short = let e : dump_size root ≡ 0 = ap (λ (l : List ℕ). length l) no_bytes in omega (arith, e);
  };
  bytes = sym no_bytes;
}
