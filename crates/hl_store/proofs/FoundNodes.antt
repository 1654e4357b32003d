-- What the draft of a number says of its node, behind its seating.
use Rattle.std.proofs.Common.{◌≡◌, ℕ, ◌<◌, ◌≤◌, Bool, true, false, List, length, get_or, slice_get, Option, Some, None, option_map, refl, sym, ◌∙◌, ap, subst, arith}
use Rattle.std.specs.Prelude.{IsSome, slice_index}
use Rattle.std.specs.FinMap.{get}
use Rattle.std.proofs.lemmas.List.{get_or_past}
use Rattle.std.proofs.lemmas.List.FromFn.{length-map-range_with_len}
use Rattle.std.proofs.lemmas.Option.{get_or_from_slice_get, slice_get_read}
use Rattle.hl_media.specs.History.{History, state_now}
use Rattle.hl_inode.specs.declared.inode.Kind.{Kind}
use Rattle.hl_placed.specs.Blocks.{Hole, blocks_of}
use Rattle.hl_paths.specs.Nodes.{FlatNode}
use Rattle.hl_nodes.specs.Contents.{Contents}
use Rattle.hl_overlay.specs.declared.draft.NodeDraft.{NodeDraft}
use Rattle.hl_overlay.specs.declared.draft.Shape.{Shape}
use Rattle.hl_overlay.specs.Pointing.{where_is}
use Rattle.hl_overlay.specs.Drafting.{IsDraft, blocks_of_shape}
use Rattle.hl_overlay.specs.DraftTables.{draft_of}
use Rattle.hl_overlay.specs.Overlays.{Holding, holding, holding_of}
use Rattle.hl_overlay.specs.Making.{used_of}
use Rattle.hl_overlay.proofs.TableLemmas.{blocks_most, is_draft_of}
use Rattle.hl_overlaid.specs.NodesNow.{block_now, old_block, shaped_node}
use Rattle.hl_overlaid.specs.Changes.{block_held, node_shape}
use Rattle.hl_overlaid.proofs.DraftBlocks.{last_count, now_held, now_shape}
use Rattle.hl_overlaid.proofs.NowLemmas.{none_some, now_changed, now_unchanged, one}
use Rattle.hl_overlaid.proofs.PutLemmas.{mapped, mapped_none}
use Rattle.hl_store.specs.Values.{StoreValue, layout, nodes_of, overlaid}
use Rattle.hl_store.specs.Lying.{LiesOver, block_of_number}
use Rattle.hl_store.specs.Finding.{HasNodeFound, KeepsNodes, OverNow}
use Rattle.hl_store.specs.Changes.{IsDraftedAs, drafted_shape}
use Rattle.hl_store.specs.Seats.{Seats}

-- what is something is there
pub some_of : {A : Type 0} (o : Option A) → IsSome o → (x : A) × (o ≡ Some x)
some_of None there = absurd cc
some_of (Some x) there = (x, refl)

module _ {M : Type 0} (history : M → Option History) (old new : StoreValue M) (ino count : ℕ) (seats : Seats history old new ino count) (high : ino < (layout old).inodes) where
  -- the site and the last uses stay
  pub layout_is : layout new ≡ layout old
  layout_is = ap (λ (v : StoreValue M). layout v) seats.reads.same

  pub uses_are : new.uses ≡ old.uses
  uses_are = ap (λ (v : StoreValue M). v.uses) seats.reads.same

  -- the draft of the number
  pub there : (d : NodeDraft) × (draft_of new.overlay.drafts ino ≡ Some d)
  there = some_of (draft_of new.overlay.drafts ino) seats.drafted

  -- the number is one of the site
  pub high_now : ino < (layout new).inodes
  high_now = subst (λ n. ino < n) (sym (ap (λ g. g.inodes) layout_is)) high

  -- what is held of a block is by its pointer
  pub pointer_is : (i : ℕ) (now : Holding) → holding new.overlay ino i ≡ Some now → holding_of new.overlay.blocks (where_is there.0.pointers i) ≡ now
  pointer_is i now held = one (ap (λ (x : Option NodeDraft). option_map (holding_of new.overlay.blocks) (option_map (λ (y : NodeDraft). where_is y.pointers i) x)) there.1) held

  -- something is held of each block
  pub held_some : (i : ℕ) → holding new.overlay ino i ≡ None → ⊥
  held_some i none = none_some (sym none ∙ ap (λ (x : Option NodeDraft). option_map (holding_of new.overlay.blocks) (option_map (λ (y : NodeDraft). where_is y.pointers i) x)) there.1)

  module _ (h : History) (told : history old.log.machine ≡ Some h) (c : Contents) (lies : LiesOver old c (state_now h)) where
    -- the store lies over the contents still
    pub keeps : KeepsNodes old new (state_now h) c
    keeps = seats.reads.keeps h told c lies

    -- the draft has the node's shape
    pub shape_now : there.0.shape ≡ option_map node_shape (get (nodes_of new c) ino)
    shape_now = now_shape (layout new) (state_now h).content c (overlaid new) keeps.over.rests.has seats.whole keeps.over.over ino high_now there.0 there.1

    -- which is what it was
    pub shape_is : there.0.shape ≡ option_map node_shape (get (nodes_of old c) ino)
    shape_is = shape_now ∙ ap (λ ns. option_map node_shape (get ns ino)) keeps.nodes

    -- and its blocks
    pub block_is : (i : ℕ) → i < 1036 → (now : Holding) → holding new.overlay ino i ≡ Some now → block_of_number old c ino i ≡ block_held (old_block (get c.nodes ino) i) now
    block_is i few now held = ap (λ ns. old_block (get ns ino) i) (sym keeps.nodes) ∙ now_held (layout new) (state_now h).content c (overlaid new) keeps.over.rests.has seats.whole keeps.over.over ino high_now there.0 there.1 i few now held

    -- the draft is one of the table, of its number
    pub is_draft : IsDraft there.0
    is_draft = is_draft_of new.overlay.drafts ino there.0 seats.whole.table there.1

    places : ino < length new.overlay.drafts.places
    places = subst (λ n. ino < n) (sym seats.whole.numbers) high_now

    number : there.0.ino ≡ ino
    number = seats.whole.table.own ino there.0 places there.1

    -- a node has as many blocks as its size takes
    counted : (n : FlatNode) → get (nodes_of new c) ino ≡ Some n → length n.content.blocks ≡ blocks_of n.content.size
    counted n is = by there.0.changed refl
      where
        shaped : (s : Option Shape) (used : ℕ) → option_map (shaped_node (get c.nodes there.0.ino) new.overlay.blocks used there.0.pointers) s ≡ Some n → length n.content.blocks ≡ blocks_of n.content.size
        shaped None used e = absurd (none_some e)
        shaped (Some s) used e = subst (λ (m : FlatNode). length m.content.blocks ≡ blocks_of m.content.size) (one refl e)
            (length-map-range_with_len (λ j. block_now (get c.nodes there.0.ino) new.overlay.blocks j (where_is there.0.pointers j)) 0 (blocks_of s.size))

        by : (b : Bool) → there.0.changed ≡ b → length n.content.blocks ≡ blocks_of n.content.size
        by true e = shaped there.0.shape (slice_index new.uses there.0.ino) (sym (now_changed (overlaid new) seats.whole.table c.nodes ino there.0 places there.1 e) ∙ is)
        by false e = last_count (layout new) (state_now h).content c keeps.over.rests.has ino (subst (λ n. 1 ≤ n) number is_draft.number) high_now n (sym (now_unchanged (overlaid new) seats.whole.table c.nodes ino there.0 places there.1 e) ∙ is)

    -- no node has a block past the greatest size
    pub past_hole : (i : ℕ) → 1036 ≤ i → block_of_number old c ino i ≡ Hole
    past_hole i past = ap (λ ns. old_block (get ns ino) i) (sym keeps.nodes) ∙ by (get (nodes_of new c) ino) refl
      where
        few : (n : FlatNode) → get (nodes_of new c) ino ≡ Some n → blocks_of n.content.size ≤ 1036
        few n is = subst (λ s. blocks_of_shape s ≤ 1036) (shape_now ∙ ap (option_map node_shape) is) (blocks_most there.0 is_draft)

        by : (x : Option FlatNode) → get (nodes_of new c) ino ≡ x → old_block x i ≡ Hole
        by None is = refl
        by (Some n) is = get_or_past n.content.blocks i Hole (let count' = counted n is in let most = few n is in omega arith)

  -- A NODE IS FOUND
  pub node_found : (d : NodeDraft) (shape : Shape) (used : ℕ) → draft_of new.overlay.drafts ino ≡ Some d → d.shape ≡ Some shape → used ≡ used_of shape.kind (slice_index new.uses ino)
      → OverNow history old (HasNodeFound old ino (record { kind = shape.kind; size = shape.size; used = used }))
  node_found d shape used at is used_is h told c lies =
      let same : there.0 ≡ d = one there.1 at in
      let m = mapped node_shape (get (nodes_of old c) ino) shape (sym (shape_is h told c lies) ∙ ap (λ (x : NodeDraft). x.shape) same ∙ is) in
      record {
        n = m.0;
        has = m.1;
        is = record {
          kind = ap (λ (s : Shape). s.kind) (sym m.2);
          size = ap (λ (s : Shape). s.size) (sym m.2);
          used = used_is ∙ ap (λ (k : Kind). used_of k (slice_index new.uses ino)) (ap (λ (s : Shape). s.kind) (sym m.2)) ∙ ap (λ (us : List ℕ). used_of m.0.kind (slice_index us ino)) uses_are;
        };
      }

  -- and none, where the draft has no shape
  pub none_found : (d : NodeDraft) → draft_of new.overlay.drafts ino ≡ Some d → d.shape ≡ None → OverNow history old (λ s c. get (nodes_of old c) ino ≡ None)
  none_found d at is h told c lies =
      let same : there.0 ≡ d = one there.1 at in
      mapped_none node_shape (get (nodes_of old c) ino) (sym (shape_is h told c lies) ∙ ap (λ (x : NodeDraft). x.shape) same ∙ is)

  -- the same of the store that was opened
  pub node_found_in : (t : StoreValue M) → t ≡ new → (d : NodeDraft) (shape : Shape) (x used : ℕ) → Some d ≡ draft_of t.overlay.drafts ino → d.shape ≡ Some shape → x ≡ get_or t.uses ino x → used ≡ used_of shape.kind x
      → OverNow history old (HasNodeFound old ino (record { kind = shape.kind; size = shape.size; used = used }))
  node_found_in t is_new d shape x used at is x_is used_is =
      let read : slice_get new.uses ino ≡ Some x = slice_get_read new.uses (length new.uses) ino x refl (subst (λ n. ino < n) (sym seats.whole.each_use) high_now) (subst (λ (v : StoreValue M). x ≡ get_or v.uses ino x) is_new x_is) in
      let x_at : slice_index new.uses ino ≡ x = get_or_from_slice_get new.uses ino x 0 read in
      node_found d shape used (ap (λ (v : StoreValue M). draft_of v.overlay.drafts ino) (sym is_new) ∙ sym at) is (used_is ∙ ap (used_of shape.kind) (sym x_at))

  pub none_found_in : (t : StoreValue M) → t ≡ new → (d : NodeDraft) → Some d ≡ draft_of t.overlay.drafts ino → d.shape ≡ None → OverNow history old (λ s c. get (nodes_of old c) ino ≡ None)
  none_found_in t is_new d at is = none_found d (ap (λ (v : StoreValue M). draft_of v.overlay.drafts ino) (sym is_new) ∙ sym at) is

  -- the draft that was opened is of what was found
  pub drafted_in : (t : StoreValue M) → t ≡ new → (d : NodeDraft) (shape : Shape) (used : ℕ) → Some d ≡ draft_of t.overlay.drafts ino → d.shape ≡ Some shape
      → IsDraftedAs new ino (record { kind = shape.kind; size = shape.size; used = used })
  drafted_in t is_new d shape used at is =
      let at_new : draft_of new.overlay.drafts ino ≡ Some d = ap (λ (v : StoreValue M). draft_of v.overlay.drafts ino) (sym is_new) ∙ sym at in
      record {
        shape = ap (option_map (λ (x : NodeDraft). x.shape)) at_new ∙ ap Some is;
        size = (is_draft_of new.overlay.drafts ino d seats.whole.table at_new).size shape is;
      }

  -- and it is of none where none was found
  pub undrafted_in : (t : StoreValue M) → t ≡ new → (d : NodeDraft) → Some d ≡ draft_of t.overlay.drafts ino → d.shape ≡ None → drafted_shape new ino ≡ Some None
  undrafted_in t is_new d at is =
      ap (option_map (λ (x : NodeDraft). x.shape)) (ap (λ (v : StoreValue M). draft_of v.overlay.drafts ino) (sym is_new) ∙ sym at) ∙ ap Some is
