-- What a site's nodes are charged has room in 32 bits.
use Rattle.std.proofs.Common.{◌≡◌, inl, inr, ℕ, zero, suc, ◌+◌, ◌*◌, ◌<◌, ◌≤◌, Bool, true, false, List, [], ◌∷◌, length, Option, Some, None, refl, sym, ◌∙◌, ap, subst, arith}
use Rattle.std.specs.Prelude.{if◌then◌else◌, slice_index, option_map, drop, not}
use Rattle.std.specs.List.{count_by, list_any, sum_by}
use Rattle.std.specs.FinMap.{empty, entries, get, get-empty, len-empty, len-entries}
use Rattle.std.specs.Ordering.{nat_cmp}
use Rattle.std.proofs.lemmas.Bool.{cases_eq, cases_lt}
use Rattle.std.proofs.lemmas.List.Sums.{count_by-le-length}
use Rattle.hl_media.specs.History.{Image}
use Rattle.hl_addr.specs.Layout.{IsWithinLimits, Layout}
use Rattle.hl_placed.specs.Blocks.{Block, blocks_of, is_here, is_hole, listed}
use Rattle.hl_placed.specs.Charges.{blocks_charge, parts_charge}
use Rattle.hl_paths.specs.Nodes.{FlatNode, Nodes, flat_charge}
use Rattle.hl_nodes.specs.Nodes.{IsMapEntry}
use Rattle.hl_nodes.specs.Contents.{Contents, HasContents}
use Rattle.hl_overlay.specs.declared.draft.NodeDraft.{NodeDraft}
use Rattle.hl_overlay.specs.declared.draft.Shape.{Shape}
use Rattle.hl_overlay.specs.Drafting.{IsDraft, blocks_of_shape}
use Rattle.hl_overlay.specs.DraftTables.{draft_of}
use Rattle.hl_overlay.proofs.TableLemmas.{blocks_most, is_draft_of}
use Rattle.hl_overlaid.specs.NodesNow.{IsOverlaid, Overlaid, draft_node, nodes_now, shaped_node, with_node}
use Rattle.hl_overlaid.proofs.NowLemmas.{now_drafted, now_past, same_nodes, with_node-other, with_node-same}
use Rattle.hl_tally.specs.Tally.{Tally}
use Rattle.hl_tally.proofs.BlockCharges.{listed_length}
use Rattle.hl_tally.proofs.DraftCharges.{draft_block}
use Rattle.hl_tally.proofs.NodeCharges.{charge_replaced, charged}
use Rattle.hl_store.specs.Footings.{HasChargeRoom}

-- NODES WITH FEW NUMBERS

no_entries : (f : ℕ × FlatNode → ℕ) (es : List (ℕ × FlatNode)) → length es ≡ 0 → sum_by f es ≡ 0
no_entries f [] e = refl
no_entries f (x ∷ es) e = absurd (omega arith)

empty_charge : flat_charge empty ≡ 0
unfolding flat_charge
empty_charge = no_entries (λ e. blocks_charge e.1.content.blocks) (entries empty) (sym (len-entries (empty {X = FlatNode} {R = nat_cmp})) ∙ len-empty nat_cmp FlatNode)

-- numbers below n, each charged at most so much
charge_most : (most n : ℕ) (m : Nodes) → ((q : ℕ) → n ≤ q → get m q ≡ None) → ((q : ℕ) → charged (get m q) ≤ most) → flat_charge m ≤ n * most
charge_most most zero m none each = (let e : flat_charge m ≡ 0 = ap flat_charge (same_nodes m empty (λ q. none q (omega arith) ∙ sym (get-empty nat_cmp q))) ∙ empty_charge in omega arith)
charge_most most (suc n) m none each =
    let less = with_node m n None in
    let rest : flat_charge less ≤ n * most = charge_most most n less
    (λ q le. elim (cases_eq q n) [
      | inl e ↦ ap (get less) e ∙ with_node-same m n None
      | inr ne ↦ with_node-other m n None q ne ∙ none q (omega arith)
    ])
    (λ q. elim (cases_eq q n) [
      | inl e ↦ (let no : charged (get less q) ≡ 0 = ap charged (ap (get less) e ∙ with_node-same m n None) in omega arith)
      | inr ne ↦ subst (λ (x : Option FlatNode). charged x ≤ most) (sym (with_node-other m n None q ne)) (each q)
    ]) in
    let whole : flat_charge less + charged (get m n) ≡ flat_charge m + charged (get less n) = charge_replaced m less n (λ q ne. with_node-other m n None q ne) in
    let one : charged (get m n) ≤ most = each n in
    let gone : charged (get less n) ≡ 0 = ap charged (with_node-same m n None) in
    let total : n * most + most ≡ suc n * most = omega arith in
    subst (λ (k : ℕ). flat_charge m ≤ k) total (reckon (flat_charge less) (flat_charge m) (charged (get m n)) (charged (get less n)) (n * most) most rest whole one gone)
  where
    reckon : (less whole one gone rest most : ℕ) → less ≤ rest → less + one ≡ whole + gone → one ≤ most → gone ≡ 0 → whole ≤ rest + most
    reckon less whole one gone rest most a b c d = omega arith

-- WHAT ONE NODE IS CHARGED

parts_most : (b : Bool) (n : ℕ) → parts_charge b n ≤ 2 + n
parts_most true n = omega arith
parts_most false n = omega arith

blocks_charge_most : (bs : List Block) (most : ℕ) → length bs ≤ most → blocks_charge bs ≤ 2 + most
blocks_charge_most bs most le =
    let few = count_by-le-length is_here bs in
    let all = parts_most (list_any (λ (b : Block). not (is_hole b)) (drop 12 bs)) (count_by is_here bs) in
    reckon (count_by is_here bs) (length bs) most (blocks_charge bs) few le all
  where
    reckon : (here len most charge : ℕ) → here ≤ len → len ≤ most → charge ≤ 2 + here → charge ≤ 2 + most
    reckon here len most charge a b c = omega arith

size_most : (size : ℕ) → size ≤ 4243456 → blocks_of size ≤ 1036
unfolding blocks_of
size_most size le = omega arith

-- a node as an image has it
module _ (g : Layout) (image : Image) (c : Contents) (has : HasContents g image c) where
  last_most : (q : ℕ) → charged (get c.nodes q) ≤ 1038
  last_most q = elim (cases_lt q g.inodes) [
    | inl lt ↦ below q lt
    | inr ge ↦ none q (has.nodes.past q ge)
  ]
    where
      none : (q : ℕ) → get c.nodes q ≡ None → charged (get c.nodes q) ≤ 1038
      none q e = (let no : charged (get c.nodes q) ≡ 0 = ap charged e in omega arith)

      by : (q : ℕ) (x : Option FlatNode) → IsMapEntry g c.tables.slots image q (slice_index c.tables.inodes q) x → charged x ≤ 1038
      by q None at = omega arith
      by q (Some node) at =
          let size : blocks_of at.inode.size ≤ 1036 = size_most at.inode.size at.there.spelled.value.ranges.size in
          blocks_charge_most node.content.blocks 1036 (subst (λ (n : ℕ). n ≤ 1036) (sym at.is.count) size)

      below : (q : ℕ) → q < g.inodes → charged (get c.nodes q) ≤ 1038
      below zero lt = none 0 has.nodes.zero
      below (suc q) lt = by (suc q) (get c.nodes (suc q)) (has.nodes.entries (suc q) (omega arith) lt)

  module _ (o : Overlaid) (whole : IsOverlaid g o) where
    drafted_most : (d : NodeDraft) → IsDraft d → charged (draft_node o c.nodes d) ≤ 1038
    drafted_most d is = by d.shape (blocks_most d is)
      where
        by : (x : Option Shape) → blocks_of_shape x ≤ 1036 → charged (option_map (shaped_node (get c.nodes d.ino) o.overlay.blocks (slice_index o.uses d.ino) d.pointers) x) ≤ 1038
        by None le = omega arith
        by (Some s) le = blocks_charge_most (listed (blocks_of s.size) (draft_block o c.nodes d)) 1036 (subst (λ (n : ℕ). n ≤ 1036) (sym (listed_length (draft_block o c.nodes d) (blocks_of s.size))) le)

    now_most : (q : ℕ) → charged (get (nodes_now o c.nodes) q) ≤ 1038
    now_most q = elim (cases_lt q (length o.overlay.drafts.places)) [
      | inl lt ↦ by (draft_of o.overlay.drafts q) refl lt
      | inr ge ↦ subst (λ (x : Option FlatNode). charged x ≤ 1038) (sym (now_past o whole.table c.nodes q ge)) (last_most q)
    ]
      where
        chosen : (b : Bool) (d : NodeDraft) → IsDraft d → charged (if b then draft_node o c.nodes d else get c.nodes q) ≤ 1038
        chosen true d is = drafted_most d is
        chosen false d is = last_most q

        by : (x : Option NodeDraft) → draft_of o.overlay.drafts q ≡ x → q < length o.overlay.drafts.places → charged (get (nodes_now o c.nodes) q) ≤ 1038
        by None e lt = subst (λ (x : Option FlatNode). charged x ≤ 1038) (sym (now_drafted o whole.table c.nodes q None lt e)) (last_most q)
        by (Some d) e lt = subst (λ (x : Option FlatNode). charged x ≤ 1038) (sym (now_drafted o whole.table c.nodes q (Some d) lt e)) (chosen d.changed d (is_draft_of o.overlay.drafts q d whole.table e))

    now_none : (q : ℕ) → g.inodes ≤ q → get (nodes_now o c.nodes) q ≡ None
    now_none q ge = now_past o whole.table c.nodes q (subst (λ (n : ℕ). n ≤ q) (sym whole.numbers) ge) ∙ has.nodes.past q ge

    -- THE CHARGE HAS ROOM: each of at most 2,048 nodes is charged at most 1,038
    pub charge_room : IsWithinLimits g → (n : Tally) → n.charge ≡ flat_charge (nodes_now o c.nodes) → HasChargeRoom n
    charge_room limits n is = reckon g.inodes n.charge (flat_charge (nodes_now o c.nodes)) limits.inode_count.1 (charge_most 1038 g.inodes (nodes_now o c.nodes) now_none now_most) is
      where
        reckon : (inodes charge flat : ℕ) → inodes ≤ 2048 → flat ≤ inodes * 1038 → charge ≡ flat → charge + 2 < 4294967296
        reckon inodes charge flat a b c = omega arith
