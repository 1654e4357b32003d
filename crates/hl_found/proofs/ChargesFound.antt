-- What nodes that were found are charged, one after the other.
use Rattle.std.specs.FinMap.{empty, entries, entries-insert, len-entries, len-empty}
use Rattle.std.specs.FinMap.Entries.{by_order, put}
use Rattle.std.proofs.Common.{◌≡◌, ℕ, zero, suc, ◌+◌, ◌-◌, ◌<◌, ◌≤◌, Bool, true, false, ◌||◌, List, [], ◌∷◌, length, drop, get_or, refl, sym, ap, ◌∙◌, arith, length-drop}
use Rattle.std.specs.Prelude.{Option, Some, None, sum_by}
use Rattle.std.specs.List.{list_any}
use Rattle.std.specs.Cmp.{nat_cmp_is}
use Rattle.std.specs.Ordering.{nat_cmp}
use Rattle.std.specs.declared.cmp.Ordering.{Ordering}
use Rattle.std.specs.declared.cmp.Ordering.TheVariants.{Less}
use Rattle.std.proofs.lemmas.Cmp.{nat_cmp_total}
use Rattle.std.proofs.lemmas.List.{get_or-drop}
use Rattle.std.proofs.lemmas.List.Sums.{sum_by-cons}
use Rattle.hl_placed.specs.Blocks.{Block, Hole}
use Rattle.hl_placed.specs.Charges.{blocks_charge}
use Rattle.hl_paths.specs.Nodes.{FlatNode, flat_charge}
use Rattle.hl_nodes.specs.declared.found.FoundNode.{FoundNode}
use Rattle.hl_nodes.specs.Found.{node_found, found_from, nodes_found}
use Rattle.hl_found.specs.Charges.{charge_found}

no_items : {A : Type 0} (es : List A) → length es ≡ 0 → es ≡ []
no_items [] h = refl
no_items (e ∷ es) h = absurd (omega arith)

none_there : entries (empty {X = FlatNode} {R = nat_cmp}) ≡ []
none_there = no_items _ (sym (len-entries empty) ∙ len-empty nat_cmp FlatNode)

-- the first row has a greater number
abbrev Above : ℕ → List (ℕ × FlatNode) → Type 0
Above k [] = Unit {0}
Above k (e ∷ es) = k < e.0

put_front : (k : ℕ) (v : FlatNode) (es : List (ℕ × FlatNode)) → Above k es → put nat_cmp k v es ≡ (k, v) ∷ es
put_front k v [] above = refl
put_front k v (e ∷ es) above = ap (λ (o : Ordering). by_order o ((k, v) ∷ e ∷ es) ((e.0, v) ∷ es) (e ∷ put nat_cmp k v es)) (sym (nat_cmp_is k e.0 Less above))

abbrev rows : ℕ → List (Option FoundNode) → List (ℕ × FlatNode)
rows from [] = []
rows from (None ∷ rest) = rows (from + 1) rest
rows from (Some f ∷ rest) = (from, node_found f) ∷ rows (from + 1) rest

above : (k from : ℕ) (found : List (Option FoundNode)) → k < from → Above k (rows from found)
above k from [] lt = tt
above k from (None ∷ rest) lt = above k (from + 1) rest (omega arith)
above k from (Some f ∷ rest) lt = lt

rows_are : (from : ℕ) (found : List (Option FoundNode)) → entries (found_from from found) ≡ rows from found
rows_are from [] = none_there
rows_are from (None ∷ rest) = rows_are (from + 1) rest
rows_are from (Some f ∷ rest) =
    entries-insert nat_cmp_total (found_from (from + 1) rest) from (node_found f) ∙ ap (put nat_cmp from (node_found f)) (rows_are (from + 1) rest)
    ∙ put_front from (node_found f) (rows (from + 1) rest) (above from (from + 1) rest (omega arith))

rows_charge : (from : ℕ) (found : List (Option FoundNode)) → sum_by (λ (e : ℕ × FlatNode). blocks_charge e.1.content.blocks) (rows from found) ≡ sum_by charge_found found
rows_charge from [] = refl
rows_charge from (None ∷ rest) = let rest_is = rows_charge (from + 1) rest in let one = sum_by-cons charge_found None rest in omega arith
rows_charge from (Some f ∷ rest) =
    sum_by-cons (λ (e : ℕ × FlatNode). blocks_charge e.1.content.blocks) (from, node_found f) (rows (from + 1) rest)
    ∙ ap (λ (n : ℕ). blocks_charge (node_found f).content.blocks + n) (rows_charge (from + 1) rest) ∙ sym (sum_by-cons charge_found (Some f) rest)

pub charge_is : (found : List (Option FoundNode)) → flat_charge (nodes_found found) ≡ sum_by charge_found found
unfolding flat_charge nodes_found
charge_is found = ap (sum_by (λ (e : ℕ × FlatNode). blocks_charge e.1.content.blocks)) (rows_are 0 found) ∙ rows_charge 0 found

-- some item of a list passes, or none does
or_true : (b : Bool) → (b || true) ≡ true
or_true true = refl
or_true false = refl

any_in : (p : Block → Bool) (xs : List Block) (i : ℕ) → i < length xs → p (get_or xs i Hole) ≡ true → list_any p xs ≡ true
any_in p [] i lt e = absurd (omega arith)
any_in p (x ∷ xs) zero lt e = ap (λ (b : Bool). b || list_any p xs) e
any_in p (x ∷ xs) (suc i) lt e = ap (λ (b : Bool). p x || b) (any_in p xs i (omega arith) e) ∙ or_true (p x)

none_in : (p : Block → Bool) (xs : List Block) → ((i : ℕ) → i < length xs → p (get_or xs i Hole) ≡ false) → list_any p xs ≡ false
none_in p [] none = refl
none_in p (x ∷ xs) none = ap (λ (b : Bool). b || list_any p xs) (none 0 (omega arith)) ∙ none_in p xs (λ i lt. none (suc i) (omega arith))

pub any_from : (p : Block → Bool) (k : ℕ) (xs : List Block) (i : ℕ) → k ≤ i → i < length xs → p (get_or xs i Hole) ≡ true → list_any p (drop k xs) ≡ true
any_from p k xs i low lt e =
    let place : k + (i - k) ≡ i = omega arith in
    any_in p (drop k xs) (i - k) (omega (arith, length-drop k xs)) (ap p (get_or-drop k xs (i - k) Hole ∙ ap (λ (j : ℕ). get_or xs j Hole) place) ∙ e)

pub none_from : (p : Block → Bool) (k : ℕ) (xs : List Block) → ((i : ℕ) → k ≤ i → i < length xs → p (get_or xs i Hole) ≡ false) → list_any p (drop k xs) ≡ false
none_from p k xs none = none_in p (drop k xs) (λ i lt. ap p (get_or-drop k xs i Hole) ∙ none (k + i) (omega arith) (omega (arith, length-drop k xs)))
