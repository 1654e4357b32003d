-- No directory has a last use.
use Rattle.std.proofs.Common.{◌≡◌, inl, inr, ℕ, ◌<◌, ◌≤◌, Bool, true, false, List, [], ◌∷◌, Option, Some, None, sym, ◌∙◌, ap, subst, arith}
use Rattle.std.specs.Prelude.{if◌then◌else◌, slice_index}
use Rattle.std.specs.List.{fold}
use Rattle.std.specs.FinMap.{get}
use Rattle.std.proofs.lemmas.Bool.{cases_eq, cases_lt}
use Rattle.hl_media.specs.History.{Image, MachineState}
use Rattle.hl_addr.specs.Layout.{Layout}
use Rattle.hl_inode.specs.declared.inode.Kind.{Kind}
use Rattle.hl_inode.specs.declared.inode.Kind.TheVariants.{Dir, File}
use Rattle.hl_inode.specs.declared.inode.Inode.{Inode}
use Rattle.hl_tables.specs.Values.{TableValues}
use Rattle.hl_paths.specs.Nodes.{FlatNode, Nodes}
use Rattle.hl_overlay.specs.declared.draft.NodeDraft.{NodeDraft}
use Rattle.hl_overlay.specs.Making.{used_of}
use Rattle.hl_nodes.specs.Nodes.{HasNodes, IsMapEntry, IsNodeAt}
use Rattle.hl_nodes.specs.Contents.{Contents}
use Rattle.hl_overlaid.specs.NodesNow.{Overlaid, draft_node, nodes_now, shaped_node, with_draft, with_node}
use Rattle.hl_overlaid.proofs.NowLemmas.{none_some, with_node-other, with_node-same}
use Rattle.hl_overlaid.proofs.PutLemmas.{mapped}
use Rattle.hl_store.specs.Values.{StoreValue, layout, nodes_of, overlaid}
use Rattle.hl_store.specs.Lying.{LiesOver}

-- no directory among these nodes has a last use
abbrev pub AreNeverUsed : Nodes → Type 0
AreNeverUsed nodes = (q : ℕ) (n : FlatNode) → get nodes q ≡ Some n → n.kind ≡ Dir → n.content.used ≡ 0

module _ (o : Overlaid) (last : Nodes) where
  -- a drafted directory has none
  draft_never : (d : NodeDraft) (n : FlatNode) → draft_node o last d ≡ Some n → n.kind ≡ Dir → n.content.used ≡ 0
  draft_never d n is kind =
      let m = mapped (shaped_node (get last d.ino) o.overlay.blocks (slice_index o.uses d.ino) d.pointers) d.shape n is in
      sym (ap (λ (x : FlatNode). x.content.used) m.2) ∙ ap (λ (k : Kind). used_of k (slice_index o.uses d.ino)) (ap (λ (x : FlatNode). x.kind) m.2 ∙ kind)

  with_never : (nodes : Nodes) (d : NodeDraft) → AreNeverUsed nodes → AreNeverUsed (with_draft o last nodes d)
  with_never nodes d are = by d.changed
    where
      by : (b : Bool) → AreNeverUsed (if b then with_node nodes d.ino (draft_node o last d) else nodes)
      by true q n at kind = elim (cases_eq q d.ino) as (λ _. n.content.used ≡ 0) [
        | inl same ↦ draft_never d n (sym (with_node-same nodes d.ino (draft_node o last d)) ∙ ap (get (with_node nodes d.ino (draft_node o last d))) (sym same) ∙ at) kind
        | inr ne ↦ are q n (sym (with_node-other nodes d.ino (draft_node o last d) q ne) ∙ at) kind
      ]
      by false q n at kind = are q n at kind

  fold_never : (ds : List NodeDraft) (nodes : Nodes) → AreNeverUsed nodes → AreNeverUsed (fold (with_draft o last) nodes ds)
  fold_never [] nodes are = are
  fold_never (d ∷ ds) nodes are = fold_never ds (with_draft o last nodes d) (with_never nodes d are)

  -- none has one now, if none had one in the last unit
  pub now_never : AreNeverUsed last → AreNeverUsed (nodes_now o last)
  unfolding nodes_now
  now_never are = fold_never o.overlay.drafts.items last are

-- none has one in an image
pub last_never : (g : Layout) (image : Image) (t : TableValues) (nodes : Nodes) → HasNodes g image t nodes → AreNeverUsed nodes
last_never g image t nodes has q n at kind = elim (cases_lt q g.inodes) as (λ _. n.content.used ≡ 0) [
  | inl high ↦ elim (cases_lt q 1) as (λ _. n.content.used ≡ 0) [
    | inl zero ↦
        let at_zero : q ≡ 0 = omega arith in
        absurd (none_some (sym has.zero ∙ ap (get nodes) (sym at_zero) ∙ at))
    | inr low ↦ of_inode (subst (IsMapEntry g t.slots image q (slice_index t.inodes q)) at (has.entries q low high))
  ]
  | inr past ↦ absurd (none_some (sym (has.past q past) ∙ at))
]
  where
    of_inode : IsNodeAt g t.slots image q (slice_index t.inodes q) n → n.content.used ≡ 0
    of_inode e = e.is.used_is ∙ elim e.there.spelled.value.ranges.used as (λ _. e.inode.used ≡ 0) [
      | inl file ↦ (let other : Dir ≡ File = sym kind ∙ e.is.kind_is ∙ file in absurd cc)
      | inr none ↦ none
    ]

module _ {M : Type 0} where
  -- NO DIRECTORY OF A STORE has a last use
  pub never_used : (v : StoreValue M) (c : Contents) (s : MachineState) → LiesOver v c s → AreNeverUsed (nodes_of v c)
  never_used v c s lies = now_never (overlaid v) c.nodes (last_never (layout v) s.content c.tables c.nodes lies.rests.has.nodes)
