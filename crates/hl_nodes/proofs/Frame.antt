-- An image has its contents by its live blocks alone.
use Rattle.std.specs.FinMap.{get}
use Rattle.std.proofs.Common.{◌≡◌, ◌≢◌, inl, inr, ⊎_elim, ℕ, ◌<◌, ◌≤◌, List, length, refl, sym, ◌∙◌, ap, subst, arith}
use Rattle.std.specs.Prelude.{slice_index, Option, Some, None}
use Rattle.hl_media.specs.History.{Image}
use Rattle.hl_addr.specs.Layout.{Layout, IsWithinLimits, table_blocks}
use Rattle.hl_super.specs.Labels.{layout_of}
use Rattle.hl_super.specs.declared.record.Record.{Record}
use Rattle.hl_summary.specs.declared.parts.Summary.{Summary}
use Rattle.hl_image.specs.Chain.{IsCutChain}
use Rattle.hl_image.specs.Newest.{IsNewest, label_of, start_of}
use Rattle.hl_tseg.specs.SlotTable.{SlotTable}
use Rattle.hl_tables.specs.Values.{TableValues}
use Rattle.hl_inode.specs.declared.inode.Kind.{Kind}
use Rattle.hl_inode.specs.declared.inode.Inode.{Inode}
use Rattle.hl_inode.specs.Inodes.{Spells, inode_in}
use Rattle.hl_inode.proofs.InodeLemmas as inodes
use Rattle.hl_paths.specs.Nodes.{FlatNode, Nodes}
use Rattle.hl_placed.specs.Blocks.{Away, Block, Here, Hole, file_block}
use Rattle.hl_nodes.specs.Tables.{SpellTables, HasLaidTables}
use Rattle.hl_nodes.specs.Pointers.{pointer_of, HasPointerBlock}
use Rattle.hl_image.specs.Places.{InLog}
use Rattle.hl_nodes.specs.Blocks.{StandsFor}
use Rattle.hl_nodes.specs.Nodes.{IsInodeAt, IsNodeOf, IsMapEntry, HasNodes}
use Rattle.hl_nodes.specs.Live.{NodeBlock, LiesAt, IsNodeBlock, LiveBlock, IsLiveAt, IsLive}
use Rattle.hl_nodes.specs.Live.NodeBlock.{Own, Pointers, Content}
use Rattle.hl_nodes.specs.Live.LiveBlock.{Table, OfNode}
use Rattle.hl_nodes.specs.Contents.{Contents, HasContents}
use Rattle.hl_nodes.proofs.PointerLemmas.{pointer_in-same, pointer_of-same, in_log-some}

-- the site of an image is within the limits
pub limits_of : (g : Layout) (image : Image) (rec : Record) → IsNewest g image (Some rec) → rec.volumes ≡ g.volumes → IsWithinLimits g
limits_of g image rec newest volumes = subst (λ (vs : List ℕ). IsWithinLimits (layout_of (label_of g) vs)) volumes newest.here.value.ranges.site

-- a record of the site names as many table blocks as the site has
pub table_count : (g : Layout) (image : Image) (rec : Record) → IsNewest g image (Some rec) → rec.volumes ≡ g.volumes → length rec.tables ≡ table_blocks g
table_count g image rec newest volumes = newest.here.value.ranges.tables ∙ ap (λ (vs : List ℕ). table_blocks (layout_of (label_of g) vs)) volumes

-- one block spells one inode
pub one_inode : (block other : List ℕ) (v w : Inode) → other ≡ block → Spells block v → Spells other w → v ≡ w
one_inode block other v w same x y = sym (inodes.only block (inode_in block) refl v x) ∙ inodes.only block (inode_in block) refl w (subst (λ (l : List ℕ). Spells l w) same y)

module _ (g : Layout) (a b : Image) where
  inode_same : (ino address : ℕ) (v : Inode) → b address ≡ a address → IsInodeAt g a ino address v → IsInodeAt g b ino address v
  inode_same ino address v same at = record { in_log = at.in_log; spelled = subst (λ (l : List ℕ). Spells l v) (sym same) at.spelled; number = at.number }

  stands_same : (slots : SlotTable) (kind : Kind) (p q : ℕ) (block : Block) → q ≡ p → (InLog g p → b p ≡ a p) → StandsFor g slots a kind p block → StandsFor g slots b kind q block
  stands_same slots kind p q block e same is = subst (λ (n : ℕ). StandsFor g slots b kind n block) (sym e) (by_block block is)
    where
      by_block : (block : Block) → StandsFor g slots a kind p block → StandsFor g slots b kind p block
      by_block Hole is = is
      by_block (Here bytes) is = (is.0, same is.0 ∙ is.1)
      by_block (Away serial position) is = is

  pointers_same : (v : Inode) → (v.single ≢ 4294967295 → b v.single ≡ a v.single) → HasPointerBlock g a v → HasPointerBlock g b v
  pointers_same v same (inl none) = inl none
  pointers_same v same (inr is) = inr (record {
    in_log = is.in_log;
    named = is.named;
    named_low = is.named_low;
    names = λ e. is.names (sym (pointer_in-same a b v.single is.named same) ∙ e);
    within = λ i low past. pointer_in-same a b v.single i same ∙ is.within i low past;
  })

  module _ (t : TableValues) where
    -- the other image agrees on the node's blocks
    abbrev pub Agrees : ℕ → Type 0
    Agrees ino = (block : NodeBlock) (address : ℕ) → IsNodeBlock g a t ino block address → b address ≡ a address

    module _ (ino : ℕ) (low : 1 ≤ ino) (high : ino < g.inodes) (agrees : Agrees ino) (v : Inode) (there : IsInodeAt g a ino (slice_index t.inodes ino) v) (pointers : HasPointerBlock g a v) where
      lies : (block : NodeBlock) (address : ℕ) → LiesAt g a (slice_index t.inodes ino) v block address → b address ≡ a address
      lies block address is = agrees block address (record { low = low; high = high; inode = v; there = there; lies = is })

      own_same : b (slice_index t.inodes ino) ≡ a (slice_index t.inodes ino)
      own_same = lies Own (slice_index t.inodes ino) refl

      single_same : v.single ≢ 4294967295 → b v.single ≡ a v.single
      single_same some = ⊎_elim (λ none. absurd (some none)) (λ is. lies Pointers v.single (is.in_log, refl)) pointers

      point_same : (i : ℕ) → pointer_of b v i ≡ pointer_of a v i
      point_same i = pointer_of-same a b v i single_same

      node_of_same : (node : FlatNode) → IsNodeOf g t.slots a v node → IsNodeOf g t.slots b v node
      node_of_same node is = record {
        kind_is = is.kind_is;
        size_is = is.size_is;
        used_is = is.used_is;
        count = is.count;
        pointers = pointers_same v single_same is.pointers;
        blocks = λ i lt. stands_same t.slots v.kind (pointer_of a v i) (pointer_of b v i) (file_block node.content i) (point_same i)
            (λ log. lies (Content i) (pointer_of a v i) (lt, log, refl)) (is.blocks i lt);
      }

      -- where the block of a node lies
      lies_back : (block : NodeBlock) (address : ℕ) → LiesAt g b (slice_index t.inodes ino) v block address → LiesAt g a (slice_index t.inodes ino) v block address
      lies_back Own address is = is
      lies_back Pointers address is = is
      lies_back (Content i) address is = (is.0, is.1, sym (point_same i) ∙ is.2)

    -- an image that agrees on the blocks of a node has the node
    pub entry_same : (ino : ℕ) → 1 ≤ ino → ino < g.inodes → Agrees ino → (node : Option FlatNode) → IsMapEntry g t.slots a ino (slice_index t.inodes ino) node → IsMapEntry g t.slots b ino (slice_index t.inodes ino) node
    entry_same ino low high agrees None is = is
    entry_same ino low high agrees (Some node) is = record {
      inode = is.inode;
      there = inode_same ino (slice_index t.inodes ino) is.inode (own_same ino low high agrees is.inode is.there is.is.pointers) is.there;
      is = node_of_same ino low high agrees is.inode is.there is.is.pointers node is.is;
    }

    -- an image that agrees on the blocks of all nodes has the nodes
    pub nodes_same : (nodes : Nodes) → ((ino : ℕ) → Agrees ino) → HasNodes g a t nodes → HasNodes g b t nodes
    nodes_same nodes agrees has = record {
      entries = λ ino low high. entry_same ino low high (agrees ino) (get nodes ino) (has.entries ino low high);
      zero = has.zero;
      past = has.past;
    }

    -- and its nodes have no other blocks
    pub block_back : IsWithinLimits g → (nodes : Nodes) → ((ino : ℕ) → Agrees ino) → HasNodes g a t nodes → (ino : ℕ) (block : NodeBlock) (address : ℕ) → IsNodeBlock g b t ino block address → IsNodeBlock g a t ino block address
    block_back limits nodes agrees has ino block address is = by_entry (get nodes ino) (has.entries ino is.low is.high)
      where
        by_entry : (node : Option FlatNode) → IsMapEntry g t.slots a ino (slice_index t.inodes ino) node → IsNodeBlock g a t ino block address
        by_entry None none = absurd (in_log-some g limits (slice_index t.inodes ino) is.there.in_log none)
        by_entry (Some node) at =
            let same : at.inode ≡ is.inode = one_inode (a (slice_index t.inodes ino)) (b (slice_index t.inodes ino)) at.inode is.inode (own_same ino is.low is.high (agrees ino) at.inode at.there at.is.pointers) at.there.spelled is.there.spelled in
            let there : IsInodeAt g a ino (slice_index t.inodes ino) is.inode = subst (λ (v : Inode). IsInodeAt g a ino (slice_index t.inodes ino) v) same at.there in
            let pointers : HasPointerBlock g a is.inode = subst (λ (v : Inode). HasPointerBlock g a v) same at.is.pointers in
            record { low = is.low; high = is.high; inode = is.inode; there = there; lies = lies_back ino is.low is.high (agrees ino) is.inode there pointers block address is.lies }

  -- an image that agrees on the table blocks has the tables
  pub spells_same : (addresses : List ℕ) (t : TableValues) → length addresses ≡ table_blocks g → ((i : ℕ) → i < length addresses → b (slice_index addresses i) ≡ a (slice_index addresses i)) → SpellTables g a addresses t → SpellTables g b addresses t
  spells_same addresses t count same is = record { values = is.values; in_log = is.in_log; blocks = λ i lt. same i (omega arith) ∙ is.blocks i lt }

  pub tables_same : (rec : Record) (parts : List Summary) (t : TableValues) → length rec.tables ≡ table_blocks g → ((i : ℕ) → i < length rec.tables → b (slice_index rec.tables i) ≡ a (slice_index rec.tables i)) → HasLaidTables g a rec parts t → HasLaidTables g b rec parts t
  tables_same rec parts t count same has = record { before = has.before; spelled = spells_same rec.tables has.before count same has.spelled; laid_over = has.laid_over }

  module _ (c : Contents) (agree : (address : ℕ) → IsLive g a c.rec c.tables address → b address ≡ a address) where
    nodes_agree : (ino : ℕ) → Agrees c.tables ino
    nodes_agree ino block address is = agree address (record { block = OfNode ino block; lies = is })

    -- THE FRAME: an image with the same newest record and the same chain that agrees on the live blocks has the contents
    pub contents_same : IsNewest g b (Some c.rec) → IsCutChain g b (start_of c.rec) c.rec.serial c.parts → HasContents g a c → HasContents g b c
    contents_same newest chain has = record {
      newest = newest;
      volumes = has.volumes;
      chain = chain;
      tables = tables_same c.rec c.parts c.tables (table_count g a c.rec has.newest has.volumes) (λ i lt. agree (slice_index c.rec.tables i) (record { block = Table i; lies = (lt, refl) })) has.tables;
      nodes = nodes_same c.tables c.nodes nodes_agree has.nodes;
    }

    -- and each live block of it lies where it lay
    pub live_at_back : HasContents g a c → (block : LiveBlock) (address : ℕ) → IsLiveAt g b c.rec c.tables block address → IsLiveAt g a c.rec c.tables block address
    live_at_back has (Table i) address is = is
    live_at_back has (OfNode ino block) address is = block_back c.tables (limits_of g a c.rec has.newest has.volumes) c.nodes nodes_agree has.nodes ino block address is

    pub live_back : HasContents g a c → (address : ℕ) → IsLive g b c.rec c.tables address → IsLive g a c.rec c.tables address
    live_back has address live = record { block = live.block; lies = live_at_back has live.block address live.lies }
