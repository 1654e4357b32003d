-- The nodes now, number by number.
use Rattle.std.proofs.Common.{◌≡◌, ◌≢◌, inl, inr, ℕ, zero, suc, ◌<◌, ◌≤◌, Bool, true, false, List, [], ◌∷◌, length, slice_get, Option, Some, None, refl, sym, ◌∙◌, ap, subst, arith}
use Rattle.std.specs.Prelude.{if◌then◌else◌, cond, ◌==◌, slice_index}
use Rattle.std.specs.List.{fold}
use Rattle.std.specs.Cmp.{unsigned_tied}
use Rattle.std.specs.FinMap.{get, get-insert, get-remove, same_map, nat_cmp-IsAntisymmetric}
use Rattle.std.proofs.lemmas.Bool.{cases_lt, lt-ltb, le-ltb}
use Rattle.std.proofs.lemmas.Bool.Decides.{eqb_tells}
use Rattle.std.proofs.lemmas.Cmp.{nat_cmp_total}
use Rattle.hl_paths.specs.Nodes.{FlatNode, Nodes}
use Rattle.hl_overlay.specs.declared.draft.NodeDraft.{NodeDraft}
use Rattle.hl_overlay.specs.Clearing.{HaveOwnNumbers}
use Rattle.hl_overlay.specs.DraftTables.{IsDraftTable, draft_of}
use Rattle.hl_overlay.proofs.TrimLemmas.{items_apart}
use Rattle.hl_overlaid.specs.NodesNow.{Overlaid, draft_node, drafted_now, node_now, nodes_now, with_draft, with_node}

-- one value
pub one : {A : Type 0} {o : Option A} {a b : A} → o ≡ Some a → o ≡ Some b → a ≡ b
one x y = let e = sym x ∙ y in cc

pub none_some : {A : Type 0} {x : A} → None ≡ Some x → ⊥
none_some e = cc

tied_same : (n : ℕ) → (n == n) ≡ true
tied_same n = elim (eqb_tells n n) [ inl t ↦ t.0 | inr t ↦ absurd (t.1 refl) ]

tied_other : (q n : ℕ) → q ≢ n → (q == n) ≡ false
tied_other q n ne = elim (eqb_tells q n) [ inl t ↦ absurd (ne t.1) | inr t ↦ t.0 ]

-- what is under a number that was given another node, or none
with_node-by : (nodes : Nodes) (ino : ℕ) (o : Option FlatNode) (q : ℕ) (b : Bool) → (q == ino) ≡ b → get (with_node nodes ino o) q ≡ (if b then o else get nodes q)
with_node-by nodes ino None q b e = get-remove nat_cmp_total nodes ino q ∙ ap (λ (x : Bool). cond x None (get nodes q)) (unsigned_tied q ino ∙ e)
with_node-by nodes ino (Some node) q b e = get-insert nat_cmp_total nodes ino node q ∙ ap (λ (x : Bool). cond x (Some node) (get nodes q)) (unsigned_tied q ino ∙ e)

pub with_node-same : (nodes : Nodes) (ino : ℕ) (o : Option FlatNode) → get (with_node nodes ino o) ino ≡ o
with_node-same nodes ino o = with_node-by nodes ino o ino true (tied_same ino)

pub with_node-other : (nodes : Nodes) (ino : ℕ) (o : Option FlatNode) (q : ℕ) → q ≢ ino → get (with_node nodes ino o) q ≡ get nodes q
with_node-other nodes ino o q ne = with_node-by nodes ino o q false (tied_other q ino ne)

-- nodes that are the same under each number are the same
pub same_nodes : (m n : Nodes) → ((q : ℕ) → get m q ≡ get n q) → m ≡ n
same_nodes m n is = same_map nat_cmp_total nat_cmp-IsAntisymmetric m n is

module _ (o : Overlaid) (last : Nodes) where
  with_draft-own : (nodes : Nodes) (d : NodeDraft) → get (with_draft o last nodes d) d.ino ≡ (if d.changed then draft_node o last d else get nodes d.ino)
  with_draft-own nodes d = by d.changed
    where
      by : (b : Bool) → get (if b then with_node nodes d.ino (draft_node o last d) else nodes) d.ino ≡ (if b then draft_node o last d else get nodes d.ino)
      by true = with_node-same nodes d.ino (draft_node o last d)
      by false = refl

  with_draft-other : (nodes : Nodes) (d : NodeDraft) (q : ℕ) → q ≢ d.ino → get (with_draft o last nodes d) q ≡ get nodes q
  with_draft-other nodes d q ne = by d.changed
    where
      by : (b : Bool) → get (if b then with_node nodes d.ino (draft_node o last d) else nodes) q ≡ get nodes q
      by true = with_node-other nodes d.ino (draft_node o last d) q ne
      by false = refl

  -- a number without a draft
  fold-none : (ds : List NodeDraft) (nodes : Nodes) (q : ℕ) → ((k : ℕ) (d : NodeDraft) → slice_get ds k ≡ Some d → d.ino ≢ q) → get (fold (with_draft o last) nodes ds) q ≡ get nodes q
  fold-none [] nodes q none = refl
  fold-none (d ∷ ds) nodes q none = fold-none ds (with_draft o last nodes d) q (λ k e at. none (suc k) e at) ∙ with_draft-other nodes d q (λ e. none 0 d refl (sym e))

  -- the number of a draft
  fold-one : (ds : List NodeDraft) (nodes : Nodes) (k : ℕ) (d : NodeDraft) → HaveOwnNumbers ds → slice_get ds k ≡ Some d → get (fold (with_draft o last) nodes ds) d.ino ≡ (if d.changed then draft_node o last d else get nodes d.ino)
  fold-one [] nodes k d apart at = absurd (none_some at)
  fold-one (e ∷ ds) nodes zero d apart at =
      let same : e ≡ d = one refl at in
      fold-none ds (with_draft o last nodes e) d.ino (λ k x at_x ino. apart 0 (suc k) e x (omega arith) refl at_x (ap (λ (y : NodeDraft). y.ino) same ∙ sym ino))
      ∙ ap (λ (y : NodeDraft). get (with_draft o last nodes y) d.ino) same ∙ with_draft-own nodes d
  fold-one (e ∷ ds) nodes (suc k) d apart at =
      fold-one ds (with_draft o last nodes e) k d (λ i j x y lt at_x at_y. apart (suc i) (suc j) x y (omega arith) at_x at_y) at
      ∙ ap (λ (x : Option FlatNode). if d.changed then draft_node o last d else x) (with_draft-other nodes e d.ino (λ same. apart 0 (suc k) e d (omega arith) refl at (sym same)))

-- under each number is what its draft says, or what was there
pub get-nodes_now : (o : Overlaid) → IsDraftTable o.overlay.drafts → (last : Nodes) (ino : ℕ) → get (nodes_now o last) ino ≡ node_now o last ino
unfolding nodes_now
get-nodes_now o table last ino = elim (cases_lt ino (length o.overlay.drafts.places)) [
  | inl lt ↦ by (draft_of o.overlay.drafts ino) refl lt ∙ sym (ap (λ (b : Bool). if b then drafted_now o last ino (draft_of o.overlay.drafts ino) else get last ino) (lt-ltb ino (length o.overlay.drafts.places) lt))
  | inr ge ↦ fold-none o last o.overlay.drafts.items last ino (λ k d at same. (let low = (table.placed k d at).0 in let e : d.ino ≡ ino = same in absurd (omega arith)))
      ∙ sym (ap (λ (b : Bool). if b then drafted_now o last ino (draft_of o.overlay.drafts ino) else get last ino) (le-ltb ino (length o.overlay.drafts.places) ge))
]
  where
    by : (x : Option NodeDraft) → draft_of o.overlay.drafts ino ≡ x → ino < length o.overlay.drafts.places → get (fold (with_draft o last) last o.overlay.drafts.items) ino ≡ drafted_now o last ino x
    by None none lt = fold-none o last o.overlay.drafts.items last ino (λ k d at same. none_some (sym none ∙ ap (draft_of o.overlay.drafts) (sym same) ∙ ap (slice_get o.overlay.drafts.items) (table.placed k d at).1 ∙ at))
    by (Some d) is lt =
        let own : d.ino ≡ ino = table.own ino d lt is in
        subst (λ (n : ℕ). get (fold (with_draft o last) last o.overlay.drafts.items) n ≡ (if d.changed then draft_node o last d else get last n)) own
        (fold-one o last o.overlay.drafts.items last (slice_index o.overlay.drafts.places ino) d (items_apart o.overlay.drafts table) is)

-- a number with a draft
pub now_drafted : (o : Overlaid) → IsDraftTable o.overlay.drafts → (last : Nodes) (ino : ℕ) (x : Option NodeDraft) → ino < length o.overlay.drafts.places → draft_of o.overlay.drafts ino ≡ x → get (nodes_now o last) ino ≡ drafted_now o last ino x
now_drafted o table last ino x lt is =
    get-nodes_now o table last ino ∙ ap (λ (b : Bool). if b then drafted_now o last ino (draft_of o.overlay.drafts ino) else get last ino) (lt-ltb ino (length o.overlay.drafts.places) lt)
    ∙ ap (drafted_now o last ino) is

pub now_changed : (o : Overlaid) → IsDraftTable o.overlay.drafts → (last : Nodes) (ino : ℕ) (d : NodeDraft) → ino < length o.overlay.drafts.places → draft_of o.overlay.drafts ino ≡ Some d → d.changed ≡ true → get (nodes_now o last) ino ≡ draft_node o last d
now_changed o table last ino d lt is changed = now_drafted o table last ino (Some d) lt is ∙ ap (λ (b : Bool). if b then draft_node o last d else get last ino) changed

pub now_unchanged : (o : Overlaid) → IsDraftTable o.overlay.drafts → (last : Nodes) (ino : ℕ) (d : NodeDraft) → ino < length o.overlay.drafts.places → draft_of o.overlay.drafts ino ≡ Some d → d.changed ≡ false → get (nodes_now o last) ino ≡ get last ino
now_unchanged o table last ino d lt is unchanged = now_drafted o table last ino (Some d) lt is ∙ ap (λ (b : Bool). if b then draft_node o last d else get last ino) unchanged

-- a number past the site's
pub now_past : (o : Overlaid) → IsDraftTable o.overlay.drafts → (last : Nodes) (ino : ℕ) → length o.overlay.drafts.places ≤ ino → get (nodes_now o last) ino ≡ get last ino
now_past o table last ino ge = get-nodes_now o table last ino ∙ ap (λ (b : Bool). if b then drafted_now o last ino (draft_of o.overlay.drafts ino) else get last ino) (le-ltb ino (length o.overlay.drafts.places) ge)

-- number 0 is never drafted
pub now_zero : (o : Overlaid) → IsDraftTable o.overlay.drafts → (last : Nodes) → get last 0 ≡ None → get (nodes_now o last) 0 ≡ None
now_zero o table last none = elim (cases_lt 0 (length o.overlay.drafts.places)) [
  | inl lt ↦ now_drafted o table last 0 (draft_of o.overlay.drafts 0) lt refl ∙ by (draft_of o.overlay.drafts 0) refl lt
  | inr ge ↦ now_past o table last 0 ge ∙ none
]
  where
    by : (x : Option NodeDraft) → draft_of o.overlay.drafts 0 ≡ x → 0 < length o.overlay.drafts.places → drafted_now o last 0 x ≡ None
    by None is lt = none
    by (Some d) is lt = (let own : d.ino ≡ 0 = table.own 0 d lt is in let low = (table.drafts (slice_index o.overlay.drafts.places 0) d is).number in absurd (omega arith))

-- without drafts the nodes are those of the last unit
pub now_none : (o : Overlaid) (last : Nodes) → o.overlay.drafts.items ≡ [] → nodes_now o last ≡ last
unfolding nodes_now
now_none o last none = ap (fold (with_draft o last) last) none
