-- A draft of what an image has: where its blocks lie, and what stays of a draft that isn't changed.
use Rattle.std.proofs.Common.{◌≡◌, ◌≢◌, ℕ, ◌<◌, ◌≤◌, Bool, true, false, List, refl, sym, ◌∙◌, ap, subst, arith}
use Rattle.std.specs.Prelude.{cond, slice_index, Option, Some, None}
use Rattle.std.specs.FinMap.{get}
use Rattle.hl_media.specs.History.{Image}
use Rattle.hl_addr.specs.Layout.{Layout, IsWithinLimits}
use Rattle.hl_bytes.specs.declared.block.Block as bytes
use Rattle.hl_bytes.specs.declared.records.BlockRecord.{BlockRecord}
use Rattle.hl_inode.specs.declared.inode.Kind.{Kind}
use Rattle.hl_inode.specs.declared.inode.Inode.{Inode}
use Rattle.hl_placed.specs.Blocks.{Block, blocks_of, file_block, is_here, is_hole}
use Rattle.hl_placed.specs.Blocks as blocks
use Rattle.hl_paths.specs.Nodes.{FlatNode}
use Rattle.hl_nodes.specs.Pointers.{pointer_of}
use Rattle.hl_nodes.specs.Blocks.{StandsFor}
use Rattle.hl_nodes.specs.Nodes.{IsInodeAt, IsMapEntry, IsNodeOf}
use Rattle.hl_nodes.specs.Live.{IsNodeBlock, NodeBlock}
use Rattle.hl_nodes.specs.Live.NodeBlock.{Content, Own, Pointers}
use Rattle.hl_nodes.specs.Contents.{Contents, HasContents}
use Rattle.hl_nodes.proofs.Frame.{limits_of, one_inode}
use Rattle.hl_nodes.proofs.PointerLemmas.{in_log-near, in_log-some}
use Rattle.hl_overlay.specs.declared.pointers.Pointer.{Pointer}
use Rattle.hl_overlay.specs.declared.pointers.Pointer.TheVariants.{Hole, Kept, Moved, New}
use Rattle.hl_overlay.specs.declared.draft.NodeDraft.{NodeDraft}
use Rattle.hl_overlay.specs.Pointing.{IsUnwritten, is_hole_pointer, where_is}
use Rattle.hl_overlay.specs.declared.draft.Shape.{Shape}
use Rattle.hl_overlay.specs.Drafting.{IsDraft, blocks_of_shape}
use Rattle.hl_overlay.proofs.DraftLemmas.{unchanged_written}
use Rattle.hl_overlay.proofs.TableLemmas.{blocks_most}
use Rattle.hl_overlaid.specs.NodesNow.{block_now, old_block}
use Rattle.hl_overlaid.specs.Over.{IsAsRead, IsDraftOf}
use Rattle.hl_tally.specs.Tally.{StaysIn}
use Rattle.hl_tally.specs.Counting.{charge_at, is_logged}
use Rattle.hl_tally.proofs.Segments.{in_logged, logged_in}

module _ (g : Layout) (image : Image) (c : Contents) (has : HasContents g image c) where
  limits : IsWithinLimits g
  limits = limits_of g image c.rec has.newest has.volumes

  -- no address of the log stands for nothing
  pub nothing_off : is_logged g.k g.log 4294967295 ≡ true → ⊥
  nothing_off logged = in_log-some g limits 4294967295 (logged_in g 4294967295 logged) refl

  -- the node of a number that has an inode
  node_at : (ino : ℕ) (v : Inode) → 1 ≤ ino → ino < g.inodes → IsInodeAt g image ino (slice_index c.tables.inodes ino) v → (node : FlatNode) × (get c.nodes ino ≡ Some node) × IsNodeOf g c.tables.slots image v node
  node_at ino v low high there = by (get c.nodes ino) refl (has.nodes.entries ino low high)
    where
      by : (x : Option FlatNode) → get c.nodes ino ≡ x → IsMapEntry g c.tables.slots image ino (slice_index c.tables.inodes ino) x → (node : FlatNode) × (get c.nodes ino ≡ Some node) × IsNodeOf g c.tables.slots image v node
      by None e none = absurd (in_log-some g limits (slice_index c.tables.inodes ino) there.in_log none)
      by (Some node) e at = (
          let block = image (slice_index c.tables.inodes ino) in
          (node, e, subst (λ (w : Inode). IsNodeOf g c.tables.slots image w node) (one_inode block block at.inode v refl at.there.spelled there.spelled) at.is))

  -- a number's own block lies in the log, if anything says so
  pub own_lies : (ino : ℕ) → 1 ≤ ino → ino < g.inodes → is_logged g.k g.log (slice_index c.tables.inodes ino) ≡ true → IsNodeBlock g image c.tables ino Own (slice_index c.tables.inodes ino)
  own_lies ino low high logged = by (get c.nodes ino) (has.nodes.entries ino low high)
    where
      by : (x : Option FlatNode) → IsMapEntry g c.tables.slots image ino (slice_index c.tables.inodes ino) x → IsNodeBlock g image c.tables ino Own (slice_index c.tables.inodes ino)
      by None none = absurd (nothing_off (sym (ap (is_logged g.k g.log) none) ∙ logged))
      by (Some node) at = record { low = low; high = high; inode = at.inode; there = at.there; lies = refl }

  -- what an address stands for that isn't nothing
  stands : (kind : Kind) (a : ℕ) (b : Block) → a ≢ 4294967295 → StandsFor g c.tables.slots image kind a b → (is_here b ≡ is_logged g.k g.log a) × (is_hole b ≡ false)
  stands kind a blocks.Hole some is = absurd (some is)
  stands kind a (blocks.Here bytes) some is = (sym (in_logged g a is.0), refl)
  stands kind a (blocks.Away serial position) some is = (by (is_logged g.k g.log a) refl, refl)
    where
      by : (b : Bool) → is_logged g.k g.log a ≡ b → false ≡ is_logged g.k g.log a
      by true e = absurd (in_log-near g limits a is.1.volume is.1.slot position (logged_in g a e) is.1.place)
      by false e = sym e

  module _ (d : NodeDraft) (of : IsDraftOf g image c d) where
    -- a block that the disk has
    pub kept_lies : (i addr : ℕ) → i < 1036 → where_is d.pointers i ≡ Kept addr → is_logged g.k g.log addr ≡ true → IsNodeBlock g image c.tables d.ino (Content i) addr
    kept_lies i addr small e logged = (
        let at = of.kept i addr small e in
        record { low = at.low; high = at.high; inode = at.inode; there = at.there; lies = (at.points.0, logged_in g addr logged, at.points.2) })

    pub kept_is : (i addr : ℕ) → i < 1036 → where_is d.pointers i ≡ Kept addr → (is_here (old_block (get c.nodes d.ino) i) ≡ is_logged g.k g.log addr) × (is_hole (old_block (get c.nodes d.ino) i) ≡ false)
    kept_is i addr small e = (
        let at = of.kept i addr small e in
        let node = node_at d.ino at.inode at.low at.high at.there in
        let is : StandsFor g c.tables.slots image at.inode.kind addr (file_block node.0.content i) =
        subst (λ (a : ℕ). StandsFor g c.tables.slots image at.inode.kind a (file_block node.0.content i)) at.points.2 (node.2.blocks i at.points.0) in
        let found = stands at.inode.kind addr (file_block node.0.content i) at.points.1 is in
        (ap (λ (x : Option FlatNode). is_here (old_block x i)) node.1 ∙ found.0, ap (λ (x : Option FlatNode). is_hole (old_block x i)) node.1 ∙ found.1))

    module _ (new : List (BlockRecord × bytes.Block)) (i : ℕ) (small : i < 1036) where
      -- a block of it is a hole where its pointer says so, and is charged where that is charged
      pub hole_is : is_hole (block_now (get c.nodes d.ino) new i (where_is d.pointers i)) ≡ is_hole_pointer (where_is d.pointers i)
      hole_is = by (where_is d.pointers i) refl
        where
          by : (p : Pointer) → where_is d.pointers i ≡ p → is_hole (block_now (get c.nodes d.ino) new i p) ≡ is_hole_pointer p
          by Hole e = refl
          by (Kept addr) e = (kept_is i addr small e).1
          by (Moved addr serial position) e = refl
          by (New n) e = refl

      pub here_is : cond (is_here (block_now (get c.nodes d.ino) new i (where_is d.pointers i))) 1 0 ≡ charge_at g (where_is d.pointers i)
      here_is = by (where_is d.pointers i) refl
        where
          by : (p : Pointer) → where_is d.pointers i ≡ p → cond (is_here (block_now (get c.nodes d.ino) new i p)) 1 0 ≡ charge_at g p
          by Hole e = refl
          by (Kept addr) e = ap (λ (b : Bool). cond b 1 0) (kept_is i addr small e).0
          by (Moved addr serial position) e = refl
          by (New n) e = refl

    module _ (draft : IsDraft d) (unchanged : d.changed ≡ false) where
      -- of a draft that isn't changed each block of the node stays
      content_stays : (i a : ℕ) → IsNodeBlock g image c.tables d.ino (Content i) a → where_is d.pointers i ≡ Kept a
      content_stays i a is = by (where_is d.pointers i) refl
        where
          node : (node : FlatNode) × (get c.nodes d.ino ≡ Some node) × IsNodeOf g c.tables.slots image is.inode node
          node = node_at d.ino is.inode is.low is.high is.there

          read : IsAsRead (Some node.0) d
          read = subst (λ (x : Option FlatNode). IsAsRead x d) node.1 (of.as_read unchanged)

          low : i < blocks_of node.0.content.size
          low = subst (λ (n : ℕ). i < blocks_of n) (sym node.2.size_is) is.lies.0

          small : i < 1036
          small = (let most : blocks_of node.0.content.size ≤ 1036 = subst (λ (s : Option Shape). blocks_of_shape s ≤ 1036) read.0 (blocks_most d draft) in omega (arith, low))

          hole : where_is d.pointers i ≡ Hole → ⊥
          hole e = (
              let none : file_block node.0.content i ≡ blocks.Hole = read.1 i low e in
              let stand : StandsFor g c.tables.slots image is.inode.kind (pointer_of image is.inode i) blocks.Hole =
              subst (λ (b : Block). StandsFor g c.tables.slots image is.inode.kind (pointer_of image is.inode i) b) none (node.2.blocks i is.lies.0) in
              in_log-some g limits a is.lies.1 (sym is.lies.2 ∙ stand))

          kept : (b : ℕ) → where_is d.pointers i ≡ Kept b → b ≡ a
          kept b e = (
              let at = of.kept i b small e in
              let block = image (slice_index c.tables.inodes d.ino) in
              let same : at.inode ≡ is.inode = one_inode block block at.inode is.inode refl at.there.spelled is.there.spelled in
              sym at.points.2 ∙ ap (λ (v : Inode). pointer_of image v i) same ∙ is.lies.2)

          by : (p : Pointer) → where_is d.pointers i ≡ p → where_is d.pointers i ≡ Kept a
          by Hole e = absurd (hole e)
          by (Kept b) e = e ∙ ap Kept (kept b e)
          by (Moved addr serial position) e = absurd (unchanged_written d draft unchanged i (subst IsUnwritten (sym e) tt))
          by (New n) e = absurd (unchanged_written d draft unchanged i (subst IsUnwritten (sym e) tt))

      pub unchanged_stays : (b : NodeBlock) (a : ℕ) → IsNodeBlock g image c.tables d.ino b a → StaysIn d b a
      unchanged_stays Own a is = unchanged
      unchanged_stays Pointers a is = of.pointers_read unchanged a is
      unchanged_stays (Content i) a is = content_stays i a is

      -- and stands where it stood
      pub unchanged_block : (new : List (BlockRecord × bytes.Block)) (node : FlatNode) → get c.nodes d.ino ≡ Some node → (i : ℕ) → i < blocks_of node.content.size
          → block_now (get c.nodes d.ino) new i (where_is d.pointers i) ≡ file_block node.content i
      unchanged_block new node there i lt = by (where_is d.pointers i) refl
        where
          read : IsAsRead (Some node) d
          read = subst (λ (x : Option FlatNode). IsAsRead x d) there (of.as_read unchanged)

          by : (p : Pointer) → where_is d.pointers i ≡ p → block_now (get c.nodes d.ino) new i p ≡ file_block node.content i
          by Hole e = sym (read.1 i lt e)
          by (Kept addr) e = ap (λ (x : Option FlatNode). old_block x i) there
          by (Moved addr serial position) e = absurd (unchanged_written d draft unchanged i (subst IsUnwritten (sym e) tt))
          by (New n) e = absurd (unchanged_written d draft unchanged i (subst IsUnwritten (sym e) tt))
