-- What a kept pointer stands for is the block that the node has now.
use Rattle.std.proofs.Common.{◌≡◌, ◌≢◌, ℕ, ◌<◌, Option, Some, None, refl, sym, ◌∙◌, ap, subst}
use Rattle.std.specs.Prelude.{slice_index, option_map}
use Rattle.std.specs.FinMap.{get}
use Rattle.hl_media.specs.History.{Image}
use Rattle.hl_addr.specs.Layout.{Layout}
use Rattle.hl_addr.specs.Slots.{slot_number}
use Rattle.hl_inode.specs.declared.inode.Inode.{Inode}
use Rattle.hl_inode.specs.declared.inode.Kind.{Kind}
use Rattle.hl_placed.specs.Blocks.{Away, Block, Here, blocks_of, file_block}
use Rattle.hl_placed.specs.Blocks as blocks
use Rattle.hl_paths.specs.Nodes.{FlatNode}
use Rattle.hl_overlay.specs.declared.pointers.Pointer.TheVariants.{Kept}
use Rattle.hl_overlay.specs.declared.draft.NodeDraft.{NodeDraft}
use Rattle.hl_overlay.specs.Pointing.{where_is}
use Rattle.hl_overlay.specs.DraftTables.{draft_of}
use Rattle.hl_overlay.specs.Overlays.{holding, holding_of}
use Rattle.hl_overlay.specs.Overlays.Holding.{Remains}
use Rattle.hl_nodes.specs.Pointers.{pointer_of}
use Rattle.hl_nodes.specs.Blocks.{StandsFor}
use Rattle.hl_nodes.specs.Nodes.{IsMapEntry}
use Rattle.hl_nodes.specs.Live.{HasAddress}
use Rattle.hl_nodes.specs.Live.NodeBlock.{Content}
use Rattle.hl_nodes.specs.Contents.{Contents, HasContents}
use Rattle.hl_nodes.proofs.Frame.{limits_of, one_inode}
use Rattle.hl_nodes.proofs.PointerLemmas.{in_log-some}
use Rattle.hl_overlaid.specs.NodesNow.{IsOverlaid, Overlaid, block_now, nodes_now, old_block}
use Rattle.hl_overlaid.specs.Over.{IsDraftOf, IsOver}
use Rattle.hl_overlaid.specs.Changes.{node_shape}
use Rattle.hl_overlaid.proofs.NowLemmas.{one}
use Rattle.hl_overlaid.proofs.DraftBlocks.{now_block, now_shape}
use Rattle.hl_overlaid.proofs.Following.{held_kept}

module _ (g : Layout) (image : Image) (c : Contents) (o : Overlaid) (has : HasContents g image c) (whole : IsOverlaid g o) (over : IsOver g o image c) (ino : ℕ) (high : ino < g.inodes) (d : NodeDraft) (at : draft_of o.overlay.drafts ino ≡ Some d) (i addr : ℕ) (small : i < 1036) (here : where_is d.pointers i ≡ Kept addr) (n : FlatNode) (n_is : get (nodes_now o c.nodes) ino ≡ Some n) where
  number : d.ino ≡ ino
  number = whole.table.own ino d (subst (λ k. ino < k) (sym whole.numbers) high) at

  of : IsDraftOf g image c d
  of = over.drafts (slice_index o.overlay.drafts.places ino) d at

  had : HasAddress g image c.tables ino (Content i) addr
  had = subst (λ k. HasAddress g image c.tables k (Content i) addr) number (of.kept i addr small here)

  -- the node has the block that it had
  same_block : old_block (get c.nodes ino) i ≡ file_block n.content i
  same_block = sym (ap (block_now (get c.nodes ino) o.overlay.blocks i) here) ∙ now_block g image c o has whole over ino high d at i small ∙ ap (λ x. old_block x i) n_is

  same_kind : (node : FlatNode) → get c.nodes ino ≡ Some node → node.kind ≡ n.kind
  same_kind node is = of.kind i addr small here (node_shape n) (now_shape g image c o has whole over ino high d at ∙ ap (option_map node_shape) n_is) node (ap (get c.nodes) number ∙ is)

  stands_by : (kind : Kind) (b : Block) → file_block n.content i ≡ b → StandsFor g c.tables.slots image kind addr b → StandsFor g o.slots image kind addr b
  stands_by kind blocks.Hole same is = is
  stands_by kind (Here bytes) same is = is
  stands_by kind (Away serial position) same is = (
    is.0,
    record {
      volume = is.1.volume;
      slot = is.1.slot;
      place = is.1.place;
      holds = over.slots ino n n_is (slot_number g.volumes is.1.volume is.1.slot) i serial position same is.1.holds;
      low = is.1.low;
      high = is.1.high;
    },
  )

  pub kept_stands : StandsFor g o.slots image n.kind addr (file_block n.content i) × (addr ≢ 4294967295)
  kept_stands = (by (get c.nodes ino) refl (has.nodes.entries ino had.low had.high), had.points.1)
    where
      by : (x : Option FlatNode) → get c.nodes ino ≡ x → IsMapEntry g c.tables.slots image ino (slice_index c.tables.inodes ino) x → StandsFor g o.slots image n.kind addr (file_block n.content i)
      by None is none = absurd (in_log-some g (limits_of g image c.rec has.newest has.volumes) (slice_index c.tables.inodes ino) had.there.in_log none)
      by (Some node) is entry =
          let same : entry.inode ≡ had.inode = one_inode (image (slice_index c.tables.inodes ino)) (image (slice_index c.tables.inodes ino)) entry.inode had.inode refl entry.there.spelled had.there.spelled in
          let lt : i < blocks_of entry.inode.size = subst (λ (x : Inode). i < blocks_of x.size) (sym same) had.points.0 in
          let addr_is : pointer_of image entry.inode i ≡ addr = ap (λ (x : Inode). pointer_of image x i) same ∙ had.points.2 in
          let block_is : file_block node.content i ≡ file_block n.content i = ap (λ x. old_block x i) (sym is) ∙ same_block in
          let was : StandsFor g c.tables.slots image entry.inode.kind addr (file_block node.content i) = subst (λ a. StandsFor g c.tables.slots image entry.inode.kind a (file_block node.content i)) addr_is (entry.is.blocks i lt) in
          let now : StandsFor g c.tables.slots image n.kind addr (file_block n.content i) = subst (λ b. StandsFor g c.tables.slots image n.kind addr b) block_is (subst (λ k. StandsFor g c.tables.slots image k addr (file_block node.content i)) (sym entry.is.kind_is ∙ same_kind node is) was) in
          stands_by n.kind (file_block n.content i) refl now

-- the same, by what is held
pub held_stands : (g : Layout) (image : Image) (c : Contents) (o : Overlaid) → HasContents g image c → IsOverlaid g o → IsOver g o image c → (ino : ℕ) → ino < g.inodes → (d : NodeDraft) → draft_of o.overlay.drafts ino ≡ Some d
    → (i addr : ℕ) → i < 1036 → holding o.overlay ino i ≡ Some (Remains addr) → (n : FlatNode) → get (nodes_now o c.nodes) ino ≡ Some n → StandsFor g o.slots image n.kind addr (file_block n.content i) × (addr ≢ 4294967295)
held_stands g image c o has whole over ino high d at i addr small held n n_is =
    let is : holding_of o.overlay.blocks (where_is d.pointers i) ≡ Remains addr = one (ap (λ (x : Option NodeDraft). option_map (holding_of o.overlay.blocks) (option_map (λ (y : NodeDraft). where_is y.pointers i) x)) at) held in
    kept_stands g image c o has whole over ino high d at i addr small (held_kept o.overlay.blocks (where_is d.pointers i) addr is) n n_is
