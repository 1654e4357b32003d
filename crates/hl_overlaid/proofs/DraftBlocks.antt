-- A draft has the shape and the blocks of the node that its number has now.
use Rattle.std.proofs.Common.{◌≡◌, inl, inr, ℕ, ◌<◌, ◌≤◌, Bool, true, false, true≢false, List, length, Option, Some, None, refl, sym, ◌∙◌, ap, subst, arith}
use Rattle.std.specs.Prelude.{slice_index, option_map}
use Rattle.std.specs.FinMap.{get}
use Rattle.std.proofs.lemmas.Bool.{cases_lt}
use Rattle.std.proofs.lemmas.List.{get_or_past}
use Rattle.std.proofs.lemmas.List.FromFn.{length-map-range_with_len, get_or-map-range_with_len}
use Rattle.hl_media.specs.History.{Image}
use Rattle.hl_addr.specs.Layout.{Layout}
use Rattle.hl_bytes.specs.declared.block.Block as bytes
use Rattle.hl_bytes.specs.declared.records.BlockRecord.{BlockRecord}
use Rattle.hl_placed.specs.Blocks.{Block, Hole, blocks_of}
use Rattle.hl_paths.specs.Nodes.{FlatNode}
use Rattle.hl_overlay.specs.declared.pointers.Pointer.{Pointer}
use Rattle.hl_overlay.specs.declared.pointers.Pointer.TheVariants as place
use Rattle.hl_overlay.specs.declared.draft.NodeDraft.{NodeDraft}
use Rattle.hl_overlay.specs.declared.draft.Shape.{Shape}
use Rattle.hl_overlay.specs.Pointing.{IsUnwritten, where_is}
use Rattle.hl_overlay.specs.Drafting.{IsDraft, blocks_of_shape}
use Rattle.hl_overlay.specs.DraftTables.{draft_of}
use Rattle.hl_overlay.specs.Overlays.{Holding, holding, holding_of}
use Rattle.hl_nodes.specs.Nodes.{IsMapEntry}
use Rattle.hl_nodes.specs.Contents.{Contents, HasContents}
use Rattle.hl_overlaid.specs.NodesNow.{IsOverlaid, Overlaid, block_now, nodes_now, old_block, shaped_node}
use Rattle.hl_overlaid.specs.Over.{IsAsRead, IsDraftOf, IsOver}
use Rattle.hl_overlaid.specs.Changes.{block_held, node_shape}
use Rattle.hl_overlaid.proofs.NowLemmas.{now_changed, now_unchanged, one}

-- what a pointer stands for is what is held there
pub block_now-held : (old : Option FlatNode) (new : List (BlockRecord × bytes.Block)) (i : ℕ) (q : Pointer) → block_now old new i q ≡ block_held (old_block old i) (holding_of new q)
block_now-held old new i place.Hole = refl
block_now-held old new i (place.Kept addr) = refl
block_now-held old new i (place.Moved addr serial position) = refl
block_now-held old new i (place.New n) = refl

-- a node of the contents has a block for each 4,096 bytes begun
pub last_count : (g : Layout) (image : Image) (c : Contents) → HasContents g image c → (ino : ℕ) → 1 ≤ ino → ino < g.inodes → (node : FlatNode) → get c.nodes ino ≡ Some node → length node.content.blocks ≡ blocks_of node.content.size
last_count g image c has ino low high node is =
    let entry : IsMapEntry g c.tables.slots image ino (slice_index c.tables.inodes ino) (Some node) = subst (IsMapEntry g c.tables.slots image ino (slice_index c.tables.inodes ino)) is (has.nodes.entries ino low high) in
    entry.is.count ∙ ap blocks_of (sym entry.is.size_is)

module _ (g : Layout) (image : Image) (c : Contents) (o : Overlaid) (has : HasContents g image c) (whole : IsOverlaid g o) (over : IsOver g o image c) (ino : ℕ) (high : ino < g.inodes) (d : NodeDraft) (at : draft_of o.overlay.drafts ino ≡ Some d) where
  places : ino < length o.overlay.drafts.places
  places = subst (λ n. ino < n) (sym whole.numbers) high

  is_draft : IsDraft d
  is_draft = whole.table.drafts (slice_index o.overlay.drafts.places ino) d at

  number : d.ino ≡ ino
  number = whole.table.own ino d places at

  low : 1 ≤ ino
  low = subst (λ n. 1 ≤ n) number is_draft.number

  of : IsDraftOf g image c d
  of = over.drafts (slice_index o.overlay.drafts.places ino) d at

  as_read : d.changed ≡ false → IsAsRead (get c.nodes ino) d
  as_read unchanged = subst (λ n. IsAsRead (get c.nodes n) d) number (of.as_read unchanged)

  now_new : d.changed ≡ true → get (nodes_now o c.nodes) ino ≡ option_map (shaped_node (get c.nodes ino) o.overlay.blocks (slice_index o.uses ino) d.pointers) d.shape
  now_new changed = now_changed o whole.table c.nodes ino d places at changed ∙ ap (λ n. option_map (shaped_node (get c.nodes n) o.overlay.blocks (slice_index o.uses n) d.pointers) d.shape) number

  -- the shape of the draft is that of the node now
  pub now_shape : d.shape ≡ option_map node_shape (get (nodes_now o c.nodes) ino)
  now_shape = by d.changed refl
    where
      shaped : (s : Option Shape) → s ≡ option_map node_shape (option_map (shaped_node (get c.nodes ino) o.overlay.blocks (slice_index o.uses ino) d.pointers) s)
      shaped None = refl
      shaped (Some s) = refl

      read : (x : Option FlatNode) → IsAsRead x d → d.shape ≡ option_map node_shape x
      read None is = is
      read (Some node) is = is.0

      by : (b : Bool) → d.changed ≡ b → d.shape ≡ option_map node_shape (get (nodes_now o c.nodes) ino)
      by true e = shaped d.shape ∙ ap (option_map node_shape) (sym (now_new e))
      by false e = read (get c.nodes ino) (as_read e) ∙ ap (option_map node_shape) (sym (now_unchanged o whole.table c.nodes ino d places at e))

  abbrev block_at : ℕ → Block
  block_at j = block_now (get c.nodes ino) o.overlay.blocks j (where_is d.pointers j)

  -- each pointer stands for the block that the node has now
  pub now_block : (i : ℕ) → i < 1036 → block_now (get c.nodes ino) o.overlay.blocks i (where_is d.pointers i) ≡ old_block (get (nodes_now o c.nodes) ino) i
  now_block i few = by d.changed refl
    where
      ends : blocks_of_shape d.shape ≤ i → block_at i ≡ Hole
      ends from = ap (block_now (get c.nodes ino) o.overlay.blocks i) (is_draft.ends i from few)

      shaped : (s : Option Shape) → d.shape ≡ s → block_at i ≡ old_block (option_map (shaped_node (get c.nodes ino) o.overlay.blocks (slice_index o.uses ino) d.pointers) s) i
      shaped None e = ends (subst (λ s. blocks_of_shape s ≤ i) (sym e) (omega arith))
      shaped (Some s) e = elim (cases_lt i (blocks_of s.size)) [
        | inl lt ↦ sym (get_or-map-range_with_len block_at 0 (blocks_of s.size) i i Hole lt (omega arith))
        | inr ge ↦ ends (subst (λ x. blocks_of_shape x ≤ i) (sym e) ge)
            ∙ sym (get_or_past (shaped_node (get c.nodes ino) o.overlay.blocks (slice_index o.uses ino) d.pointers s).content.blocks i Hole (let n = length-map-range_with_len block_at 0 (blocks_of s.size) in omega arith))
      ]

      unwritten : d.changed ≡ false → IsUnwritten (where_is d.pointers i) → ⊥
      unwritten e new = true≢false (sym (is_draft.changed i new) ∙ e)

      hole : (x : Option FlatNode) → get c.nodes ino ≡ x → IsAsRead x d → where_is d.pointers i ≡ place.Hole → Hole ≡ old_block x i
      hole None e is here = refl
      hole (Some node) e is here = elim (cases_lt i (blocks_of node.content.size)) [
        | inl lt ↦ sym (is.1 i lt here)
        | inr ge ↦ sym (get_or_past node.content.blocks i Hole (let n = last_count g image c has ino low high node e in omega arith))
      ]

      read : d.changed ≡ false → (q : Pointer) → where_is d.pointers i ≡ q → block_now (get c.nodes ino) o.overlay.blocks i q ≡ old_block (get c.nodes ino) i
      read e place.Hole here = hole (get c.nodes ino) refl (as_read e) here
      read e (place.Kept addr) here = refl
      read e (place.Moved addr serial position) here = absurd (unwritten e (subst IsUnwritten (sym here) tt))
      read e (place.New n) here = absurd (unwritten e (subst IsUnwritten (sym here) tt))

      by : (b : Bool) → d.changed ≡ b → block_at i ≡ old_block (get (nodes_now o c.nodes) ino) i
      by true e = shaped d.shape refl ∙ ap (λ x. old_block x i) (sym (now_new e))
      by false e = read e (where_is d.pointers i) refl ∙ ap (λ x. old_block x i) (sym (now_unchanged o whole.table c.nodes ino d places at e))

  -- so does what is held
  pub now_held : (i : ℕ) → i < 1036 → (h : Holding) → holding o.overlay ino i ≡ Some h → old_block (get (nodes_now o c.nodes) ino) i ≡ block_held (old_block (get c.nodes ino) i) h
  now_held i few h held =
      let same : holding_of o.overlay.blocks (where_is d.pointers i) ≡ h = one (ap (λ (x : Option NodeDraft). option_map (holding_of o.overlay.blocks) (option_map (λ (y : NodeDraft). where_is y.pointers i) x)) at) held in
      sym (now_block i few) ∙ block_now-held (get c.nodes ino) o.overlay.blocks i (where_is d.pointers i) ∙ ap (block_held (old_block (get c.nodes ino) i)) same

  -- and the node has a block for each 4,096 bytes begun
  pub now_count : (n : FlatNode) → get (nodes_now o c.nodes) ino ≡ Some n → length n.content.blocks ≡ blocks_of n.content.size
  now_count n is = by d.changed refl
    where
      shaped : (s : Option Shape) → option_map (shaped_node (get c.nodes ino) o.overlay.blocks (slice_index o.uses ino) d.pointers) s ≡ Some n → length n.content.blocks ≡ blocks_of n.content.size
      shaped None e = absurd (none e)
        where
          none : None ≡ Some n → ⊥
          none e = cc
      shaped (Some s) e =
          let same : shaped_node (get c.nodes ino) o.overlay.blocks (slice_index o.uses ino) d.pointers s ≡ n = one refl e in
          subst (λ (x : FlatNode). length x.content.blocks ≡ blocks_of x.content.size) same (length-map-range_with_len (λ i. block_now (get c.nodes ino) o.overlay.blocks i (where_is d.pointers i)) 0 (blocks_of s.size))

      by : (b : Bool) → d.changed ≡ b → length n.content.blocks ≡ blocks_of n.content.size
      by true e = shaped d.shape (sym (now_new e) ∙ is)
      by false e = last_count g image c has ino low high n (sym (now_unchanged o whole.table c.nodes ino d places at e) ∙ is)
