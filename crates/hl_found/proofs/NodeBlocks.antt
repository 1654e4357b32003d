-- The blocks of a node that was found, and nodes by their numbers.
use Rattle.std.proofs.Common.{◌≡◌, ⊎_elim, ℕ, ◌+◌, ◌<◌, ◌≤◌, List, length, map, ◌∙◌, sym, ap, subst, arith}
use Rattle.std.specs.Prelude.{Option, Some, None, option_map}
use Rattle.std.specs.FinMap.{get}
use Rattle.std.specs.List.{slice_index_or}
use Rattle.std.proofs.lemmas.Bool.{cases_lt}
use Rattle.std.proofs.lemmas.List.{get_or-map, get_or_default, get_or_past, length-map}
use Rattle.hl_placed.specs.Blocks.{Block, Hole, file_block}
use Rattle.hl_paths.specs.Nodes.{FlatNode}
use Rattle.hl_paths.proofs.Links.{none_some}
use Rattle.hl_nodes.specs.declared.found.FoundBlock.{FoundBlock}
use Rattle.hl_nodes.specs.declared.found.FoundNode.{FoundNode}
use Rattle.hl_nodes.specs.Found.{block_found, node_found, nodes_found}
use Rattle.hl_nodes.proofs.FoundNodes.{get-nodes_found}
use Rattle.hl_found.proofs.LiveFound.{last_or_before}

module _ (n : FoundNode) (xs : List FoundBlock) (same : xs ≡ n.blocks.items) where
  pub item_block : (i : ℕ) (x : FoundBlock) → i < length xs → x ≡ slice_index_or xs i x → file_block (node_found n).content i ≡ block_found x
  item_block i x lt is =
      let size = ap length same in
      get_or-map block_found n.blocks.items i x Hole (omega arith) ∙ ap (λ (l : List FoundBlock). block_found (slice_index_or l i x)) (sym same) ∙ ap block_found (sym is)

  pub item_past : (i : ℕ) → length xs ≤ i → file_block (node_found n).content i ≡ Hole
  item_past i le =
      let size = ap length same in
      let mapped = length-map n.blocks.items block_found in
      get_or_past (map block_found n.blocks.items) i Hole (omega arith)

  module _ (P : ℕ → Block → Type 0) where
    -- what holds of the first blocks, and of the next one
    pub block_more : (k : ℕ) (x : FoundBlock) → k < length xs → x ≡ slice_index_or xs k x → ((i : ℕ) → i < k → P i (file_block (node_found n).content i)) → P k (block_found x)
        → (i : ℕ) → i < k + 1 → P i (file_block (node_found n).content i)
    block_more k x lt is before here i low = ⊎_elim (λ less. before i less)
        (λ e. subst (λ (j : ℕ). P j (file_block (node_found n).content j)) (sym e) (subst (P k) (sym (item_block k x lt is)) here)) (last_or_before i k low)

    -- what holds of all of them, and of a hole
    pub block_all : (k : ℕ) → length xs ≤ k → ((i : ℕ) → i < k → P i (file_block (node_found n).content i)) → ((i : ℕ) → P i Hole) → (i : ℕ) → P i (file_block (node_found n).content i)
    block_all k all before hole i = ⊎_elim (λ lt. before i lt) (λ ge. subst (P i) (sym (item_past i (omega arith))) (hole i)) (cases_lt i k)

    pub block_one : (k : ℕ) (x : FoundBlock) → k < length xs → x ≡ slice_index_or xs k x → ((i : ℕ) → P i (file_block (node_found n).content i)) → P k (block_found x)
    block_one k x lt is all = subst (P k) (item_block k x lt is) (all k)

-- the node of a number
module _ (nodes : List (Option FoundNode)) (number : ℕ) (r : Option FoundNode) (lt : number < length nodes) (is : r ≡ slice_index_or nodes number r) where
  pub entry_is : slice_index_or nodes number None ≡ r
  entry_is = get_or_default nodes number None r lt ∙ sym is

  pub some_node : (x : FoundNode) → r ≡ Some x → get (nodes_found nodes) number ≡ Some (node_found x)
  some_node x e = get-nodes_found nodes number ∙ ap (option_map node_found) (entry_is ∙ e)

  pub none_node : r ≡ None → get (nodes_found nodes) number ≡ None
  none_node e = get-nodes_found nodes number ∙ ap (option_map node_found) (entry_is ∙ e)

  -- what holds of the node that is there holds of each that is
  pub by_node : (P : FlatNode → Type 0) (x : FoundNode) → r ≡ Some x → P (node_found x) → (other : FlatNode) → get (nodes_found nodes) number ≡ Some other → P other
  by_node P x e p other f = let both : Some (node_found x) ≡ Some other = sym (some_node x e) ∙ f in let same : node_found x ≡ other = cc in subst P same p

  pub no_node : (P : FlatNode → Type 0) → r ≡ None → (other : FlatNode) → get (nodes_found nodes) number ≡ Some other → P other
  no_node P e other f = absurd (none_some (sym (none_node e) ∙ f))

pub past_node : (nodes : List (Option FoundNode)) (number : ℕ) → length nodes ≤ number → get (nodes_found nodes) number ≡ None
past_node nodes number ge = get-nodes_found nodes number ∙ ap (option_map node_found) (get_or_past nodes number None ge)
