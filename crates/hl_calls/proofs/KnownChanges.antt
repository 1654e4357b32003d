-- What a change of one number makes of the nodes that a store knows. A node is known with the last use of its number.
use Rattle.std.proofs.Common.{◌≡◌, ◌≢◌, ◌⊎◌, inl, inr, ℕ, Bool, true, false, nat_eq, List, Option, Some, None, option_map, refl, ap, ◌∙◌, sym, subst}
use Rattle.std.specs.Prelude.{if◌then◌else◌, ◌==◌, slice_index, cond}
use Rattle.std.specs.Cmp.{unsigned_tied}
use Rattle.std.specs.FinMap.{FinMap, get, insert, remove, get-insert, get-remove}
use Rattle.std.proofs.lemmas.Bool.Decides.{eqb_tells}
use Rattle.std.proofs.lemmas.Cmp.{nat_cmp_total}
use Rattle.std.specs.Ordering.{nat_cmp}
use Rattle.hl_placed.specs.Blocks.{PlacedFile}
use Rattle.hl_paths.specs.Nodes.{FlatNode, Nodes, flat_node}
use Rattle.hl_placed.specs.Changes.{used_at}
use Rattle.hl_paths.specs.Numbered.{Leaf, NumberedNode, Numbering}
use Rattle.hl_overlaid.specs.NodesNow.{with_node}
use Rattle.hl_overlaid.specs.Changes.{KeepsOtherUses, node_used}
use Rattle.hl_overlaid.proofs.PutLemmas.{mapped}
use Rattle.hl_overlaid.proofs.NowLemmas.{with_node-other, with_node-same}

tied_same : (n : ℕ) → (n == n) ≡ true
tied_same n = elim (eqb_tells n n) [ inl t ↦ t.0 | inr t ↦ absurd (t.1 refl) ]

tied_other : (q n : ℕ) → q ≢ n → (q == n) ≡ false
tied_other q n ne = elim (eqb_tells q n) [ inl t ↦ absurd (ne t.1) | inr t ↦ t.0 ]

-- a node of a number by the last uses
abbrev pub known_by : List ℕ → ℕ → FlatNode → FlatNode
known_by uses number n = node_used (slice_index uses number) n

-- under each number is this directory or this file
abbrev pub KnownBy : List ℕ → Nodes → Numbering PlacedFile → Type 0
KnownBy uses nodes numbered = (number : ℕ) → option_map (known_by uses number) (get nodes number) ≡ option_map flat_node (get numbered number)

-- what is under a number of a map in which a number was put, or from which it was taken
module _ {V : Type 0} (m : FinMap nat_cmp V) (ino : ℕ) where
  at_insert : (v : V) (q : ℕ) (b : Bool) → (q == ino) ≡ b → get (insert m ino v) q ≡ (if b then Some v else get m q)
  at_insert v q b e = get-insert nat_cmp_total m ino v q ∙ ap (λ (x : Bool). cond x (Some v) (get m q)) (unsigned_tied q ino ∙ e)

  at_remove : (q : ℕ) (b : Bool) → (q == ino) ≡ b → get (remove m ino) q ≡ (if b then None else get m q)
  at_remove q b e = get-remove nat_cmp_total m ino q ∙ ap (λ (x : Bool). cond x None (get m q)) (unsigned_tied q ino ∙ e)

  pub insert_same : (v : V) → get (insert m ino v) ino ≡ Some v
  insert_same v = at_insert v ino true (tied_same ino)

  pub insert_other : (v : V) (q : ℕ) → q ≢ ino → get (insert m ino v) q ≡ get m q
  insert_other v q ne = at_insert v q false (tied_other q ino ne)

  pub remove_same : get (remove m ino) ino ≡ None
  remove_same = at_remove ino true (tied_same ino)

  pub remove_other : (q : ℕ) → q ≢ ino → get (remove m ino) q ≡ get m q
  remove_other q ne = at_remove q false (tied_other q ino ne)

-- another number's node is known as it was, where that was used when it was
pub other_known : (uses later : List ℕ) (number : ℕ) (node : Option FlatNode) → slice_index later number ≡ slice_index uses number
    → option_map (known_by later number) node ≡ option_map (known_by uses number) node
other_known uses later number node same = ap (λ (used : ℕ). option_map (node_used used) node) same

module _ (uses later : List ℕ) (nodes : Nodes) (numbered : Numbering PlacedFile) (known : KnownBy uses nodes numbered) (ino : ℕ) (others : KeepsOtherUses uses later ino) where
  -- A NUMBER HAS ANOTHER NODE
  pub known_insert : (node : FlatNode) (one : NumberedNode PlacedFile) → known_by later ino node ≡ flat_node one
      → KnownBy later (with_node nodes ino (Some node)) (insert numbered ino one)
  known_insert node one is number = elim (eqb_tells number ino) [
    | inl t ↦ let same = t.1 in subst (λ (n : ℕ). option_map (known_by later n) (get (with_node nodes ino (Some node)) n) ≡ option_map flat_node (get (insert numbered ino one) n)) (sym same)
        (ap (option_map (known_by later ino)) (with_node-same nodes ino (Some node)) ∙ ap Some is ∙ sym (ap (option_map flat_node) (insert_same numbered ino one)))
    | inr t ↦ let ne = t.1 in ap (option_map (known_by later number)) (with_node-other nodes ino (Some node) number ne) ∙ other_known uses later number (get nodes number) (others number ne) ∙ known number
        ∙ sym (ap (option_map flat_node) (insert_other numbered ino one number ne))
  ]

  -- A NUMBER HAS NONE
  pub known_remove : KnownBy later (with_node nodes ino None) (remove numbered ino)
  known_remove number = elim (eqb_tells number ino) [
    | inl t ↦ let same = t.1 in subst (λ (n : ℕ). option_map (known_by later n) (get (with_node nodes ino None) n) ≡ option_map flat_node (get (remove numbered ino) n)) (sym same)
        (ap (option_map (known_by later ino)) (with_node-same nodes ino None) ∙ sym (ap (option_map flat_node) (remove_same numbered ino)))
    | inr t ↦ let ne = t.1 in ap (option_map (known_by later number)) (with_node-other nodes ino None number ne) ∙ other_known uses later number (get nodes number) (others number ne) ∙ known number
        ∙ sym (ap (option_map flat_node) (remove_other numbered ino number ne))
  ]

-- A FILE IS USED AT A MOMENT
-- a node that is known as a file is that file, used then
pub used_again : (u now : ℕ) (n : FlatNode) (file : PlacedFile) → node_used u n ≡ flat_node (Leaf file) → node_used now n ≡ flat_node (Leaf (used_at now file))
used_again u now n file is = ap (λ (m : FlatNode). node_used now m) is

module _ (uses later : List ℕ) (nodes : Nodes) (numbered : Numbering PlacedFile) (known : KnownBy uses nodes numbered) (ino now : ℕ)
    (others : KeepsOtherUses uses later ino) (own : slice_index later ino ≡ now) (file : PlacedFile) (there : get numbered ino ≡ Some (Leaf file)) where
  -- the node of the file
  pub known_file : (n : FlatNode) × (get nodes ino ≡ Some n) × (node_used (slice_index uses ino) n ≡ flat_node (Leaf file))
  known_file = mapped (known_by uses ino) (get nodes ino) (flat_node (Leaf file)) (known ino ∙ ap (option_map flat_node) there)

  -- where its node shows it
  pub touched_shown : KnownBy later (with_node nodes ino (option_map (node_used now) (get nodes ino))) (insert numbered ino (Leaf (used_at now file)))
  touched_shown = subst (λ (o : Option FlatNode). KnownBy later (with_node nodes ino (option_map (node_used now) o)) (insert numbered ino (Leaf (used_at now file)))) (sym known_file.1)
      (known_insert uses later nodes numbered known ino others (node_used now known_file.0) (Leaf (used_at now file))
      (ap (λ (u : ℕ). node_used u known_file.0) own ∙ used_again (slice_index uses ino) now known_file.0 file known_file.2))

  -- and where it doesn't show it yet
  pub touched_waits : KnownBy later nodes (insert numbered ino (Leaf (used_at now file)))
  touched_waits number = elim (eqb_tells number ino) [
    | inl t ↦ subst (λ (n : ℕ). option_map (known_by later n) (get nodes n) ≡ option_map flat_node (get (insert numbered ino (Leaf (used_at now file))) n)) (sym t.1)
        (ap (option_map (known_by later ino)) known_file.1 ∙ ap Some (ap (λ (u : ℕ). node_used u known_file.0) own ∙ used_again (slice_index uses ino) now known_file.0 file known_file.2)
        ∙ sym (ap (option_map flat_node) (insert_same numbered ino (Leaf (used_at now file)))))
    | inr t ↦ other_known uses later number (get nodes number) (others number t.1) ∙ known number ∙ sym (ap (option_map flat_node) (insert_other numbered ino (Leaf (used_at now file)) number t.1))
  ]

  -- A FILE IS ANOTHER, used at that moment
  pub changed_file : (next : PlacedFile) → next.used ≡ now → KnownBy later (with_node nodes ino (Some (flat_node (Leaf next)))) (insert numbered ino (Leaf next))
  changed_file next used = known_insert uses later nodes numbered known ino others (flat_node (Leaf next)) (Leaf next)
      (ap (λ (u : ℕ). flat_node (Leaf (record { size = next.size; used = u; blocks = next.blocks }))) (own ∙ sym used))
