-- What nodes are charged once one of them is another.
use Rattle.std.proofs.Common.{◌≡◌, ◌≢◌, inl, inr, ℕ, ◌+◌, Bool, true, false, ◌&&◌, cond, T, List, [], ◌∷◌, Option, Some, None, refl, sym, ◌∙◌, ap, subst, arith}
use Rattle.std.specs.List.{sum_by}
use Rattle.std.specs.Ordering.{nat_cmp, is_eq, is_lt}
use Rattle.std.specs.declared.cmp.Ordering.{Ordering}
use Rattle.std.specs.declared.cmp.Ordering.TheVariants.{Less, Equal, Greater}
use Rattle.std.specs.FinMap.{get, insert, entries, entries_sorted, entries-insert, get-entries}
use Rattle.std.specs.FinMap.Entries.{by_order, find, put, is_sorted, below_all}
use Rattle.std.proofs.lemmas.Bool.{cases_eq}
use Rattle.std.proofs.lemmas.Cmp.{nat_cmp_total}
use Rattle.std.proofs.lemmas.List.Sums.{sum_by-cons}
use Rattle.hl_placed.specs.Charges.{blocks_charge}
use Rattle.hl_paths.specs.Nodes.{FlatNode, Nodes, flat_charge}
use Rattle.hl_overlaid.specs.NodesNow.{with_node}
use Rattle.hl_overlaid.proofs.NowLemmas.{same_nodes, with_node-same, with_node-other}

-- what a number is charged
abbrev pub charged : Option FlatNode → ℕ
charged None = 0
charged (Some node) = blocks_charge node.content.blocks

abbrev entry_charge : ℕ × FlatNode → ℕ
entry_charge e = blocks_charge e.1.content.blocks

first : (a b : Bool) → T (a && b) → T a
first true b p = tt
first false b p = absurd p

second : (a b : Bool) → T (a && b) → T b
second true b p = p
second false b p = absurd p

less_is : (o : Ordering) → T (is_lt o) → o ≡ Less
less_is Less p = refl
less_is Equal p = absurd p
less_is Greater p = absurd p

-- a number below all others isn't among them
find_below : (k : ℕ) (es : List (ℕ × FlatNode)) → T (below_all nat_cmp k es) → find nat_cmp k es ≡ None
find_below k [] below = refl
find_below k (e ∷ es) below =
    ap (λ (o : Ordering). cond (is_eq o) (Some e.1) (find nat_cmp k es)) (less_is (nat_cmp k e.0) (first (is_lt (nat_cmp k e.0)) (below_all nat_cmp k es) below))
    ∙ find_below k es (second (is_lt (nat_cmp k e.0)) (below_all nat_cmp k es) below)

below_less : (k l : ℕ) (es : List (ℕ × FlatNode)) → nat_cmp k l ≡ Less → T (below_all nat_cmp l es) → T (below_all nat_cmp k es)
below_less k l [] less below = tt
below_less k l (e ∷ es) less below =
    let lower : nat_cmp k e.0 ≡ Less = nat_cmp_total.trans k l e.0 less (less_is (nat_cmp l e.0) (first (is_lt (nat_cmp l e.0)) (below_all nat_cmp l es) below)) in
    subst (λ (o : Ordering). T (is_lt o && below_all nat_cmp k es)) (sym lower) (below_less k l es less (second (is_lt (nat_cmp l e.0)) (below_all nat_cmp l es) below))

-- an entry is put in its place
sum-put : (k : ℕ) (v : FlatNode) (es : List (ℕ × FlatNode)) → T (is_sorted nat_cmp es) → sum_by entry_charge (put nat_cmp k v es) + charged (find nat_cmp k es) ≡ sum_by entry_charge es + blocks_charge v.content.blocks
sum-put k v [] order = let one = sum_by-cons entry_charge (k, v) [] in omega (arith, one)
sum-put k v (e ∷ es) order = by (sum-put k v es (second (below_all nat_cmp e.0 es) (is_sorted nat_cmp es) order)) (nat_cmp k e.0) refl
  where
    by : sum_by entry_charge (put nat_cmp k v es) + charged (find nat_cmp k es) ≡ sum_by entry_charge es + blocks_charge v.content.blocks → (o : Ordering) → nat_cmp k e.0 ≡ o
        → sum_by entry_charge (by_order o ((k, v) ∷ e ∷ es) ((e.0, v) ∷ es) (e ∷ put nat_cmp k v es)) + charged (cond (is_eq o) (Some e.1) (find nat_cmp k es)) ≡ sum_by entry_charge (e ∷ es) + blocks_charge v.content.blocks
    by rest Less p =
        let above = first (below_all nat_cmp e.0 es) (is_sorted nat_cmp es) order in
        let none : charged (find nat_cmp k es) ≡ 0 = ap charged (find_below k es (below_less k e.0 es p above)) in
        let one = sum_by-cons entry_charge (k, v) (e ∷ es) in
        omega (arith, none, one)
    by rest Equal p =
        let one = sum_by-cons entry_charge (e.0, v) es in
        let whole = sum_by-cons entry_charge e es in
        omega (arith, one, whole)
    by rest Greater p =
        let one = sum_by-cons entry_charge e (put nat_cmp k v es) in
        let whole = sum_by-cons entry_charge e es in
        omega (arith, one, whole, rest)

charge-insert : (m : Nodes) (k : ℕ) (v : FlatNode) → flat_charge (insert m k v) + charged (get m k) ≡ flat_charge m + blocks_charge v.content.blocks
unfolding flat_charge
charge-insert m k v =
    ap (λ (es : List (ℕ × FlatNode)). sum_by entry_charge es + charged (get m k)) (entries-insert nat_cmp_total m k v)
    ∙ ap (λ (o : Option FlatNode). sum_by entry_charge (put nat_cmp k v (entries m)) + charged o) (get-entries m k)
    ∙ sum-put k v (entries m) (entries_sorted m)

-- nodes that differ in one number differ in what that is charged
module _ (m n : Nodes) (ino : ℕ) (others : (q : ℕ) → q ≢ ino → get n q ≡ get m q) where
  given : (x : Option FlatNode) → get n ino ≡ x → n ≡ with_node m ino x
  given x is = same_nodes n (with_node m ino x) (λ q. elim (cases_eq q ino) [
    | inl e ↦ ap (get n) e ∙ is ∙ sym (with_node-same m ino x) ∙ ap (get (with_node m ino x)) (sym e)
    | inr ne ↦ others q ne ∙ sym (with_node-other m ino x q ne)
  ])

  taken : (x : Option FlatNode) → get m ino ≡ x → m ≡ with_node n ino x
  taken x is = same_nodes m (with_node n ino x) (λ q. elim (cases_eq q ino) [
    | inl e ↦ ap (get m) e ∙ is ∙ sym (with_node-same n ino x) ∙ ap (get (with_node n ino x)) (sym e)
    | inr ne ↦ sym (others q ne) ∙ sym (with_node-other n ino x q ne)
  ])

  pub charge_replaced : flat_charge n + charged (get m ino) ≡ flat_charge m + charged (get n ino)
  charge_replaced = by (get m ino) (get n ino) refl refl
    where
      by : (x y : Option FlatNode) → get m ino ≡ x → get n ino ≡ y → flat_charge n + charged x ≡ flat_charge m + charged y
      by x (Some node) was is =
          ap (λ (o : Option FlatNode). flat_charge n + charged o) (sym was) ∙ ap (λ (l : Nodes). flat_charge l + charged (get m ino)) (given (Some node) is) ∙ charge-insert m ino node
      by (Some node) None was is =
          sym (ap (λ (o : Option FlatNode). flat_charge m + charged o) (sym is) ∙ ap (λ (l : Nodes). flat_charge l + charged (get n ino)) (taken (Some node) was) ∙ charge-insert n ino node)
      by None None was is = ap (λ (l : Nodes). flat_charge l + 0) (same_nodes n m (λ q. elim (cases_eq q ino) [
        | inl e ↦ ap (get n) e ∙ is ∙ sym was ∙ ap (get m) (sym e)
        | inr ne ↦ others q ne
      ]))
