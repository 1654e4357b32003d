-- The last blocks of an image's files are those of its nodes.
use Rattle.std.proofs.Common.{◌≡◌, ◌≢◌, inl, inr, ℕ, ◌+◌, ◌/◌, ◌%◌, ◌<◌, ◌≤◌, List, refl, sym, ap, ◌∙◌, subst, arith}
use Rattle.std.specs.Prelude.{slice_index, Some}
use Rattle.hl_media.specs.History.{Image}
use Rattle.hl_addr.specs.Layout.{Layout, IsWithinLimits, quota}
use Rattle.hl_addr.specs.Slots.{slot_number}
use Rattle.hl_addr.specs.declared.place.Place.TheVariants.{Tertiary, Nothing}
use Rattle.hl_addr.proofs.PlaceLemmas.{place_only, has_blocks}
use Rattle.hl_tseg.specs.Slots.{serial_of}
use Rattle.hl_tseg.specs.SlotTable.{slot_at}
use Rattle.hl_tseg.specs.declared.slot.Slot.TheVariants.{Staged}
use Rattle.hl_tables.specs.Values.{TableValues}
use Rattle.hl_inode.specs.declared.inode.Kind.{Kind}
use Rattle.hl_inode.specs.declared.inode.Kind.TheVariants.{File}
use Rattle.hl_inode.specs.declared.inode.Inode.{Inode}
use Rattle.hl_placed.specs.Blocks.{Away, Block, Here, Hole, blocks_of, file_block}
use Rattle.hl_placed.specs.Placed.{PlacedTree}
use Rattle.hl_paths.specs.Nodes.{HasTree, Nodes, flat_charge}
use Rattle.hl_nodes.specs.Pointers.{pointer_of}
use Rattle.hl_nodes.specs.Blocks.{StandsFor}
use Rattle.hl_nodes.specs.Nodes.{HasNodes, IsNodeAt}
use Rattle.hl_nodes.specs.Directories.{IsInodeIn}
use Rattle.hl_nodes.specs.Lines.{line_start, InStagedLine, IsZeroFrom, OnDisk}
use Rattle.hl_nodes.specs.Contents.{Contents, next_tertiary}
use Rattle.hl_nodes.specs.Sound.{AreSlots, HasSound}
use Rattle.hl_nodes.specs.Order.{EndsFiles, HoldsLines, IsInOrder}
use Rattle.hl_nodes.proofs.Determined.{one_block}
use Rattle.hl_nodes.proofs.Frame.{limits_of}
use Rattle.hl_nodes.proofs.ImageLinks.{in_range, inode_node, node_there}
use Rattle.hl_nodes.proofs.PointerLemmas.{in_log-near}
use Rattle.hl_order_laws.specs.LastBlocks.{EndLines, EndNodes, IsLast}

-- a size that ends within a block has begun that block
begun : (size : ℕ) → size % 4096 ≢ 0 → size / 4096 < blocks_of size
unfolding blocks_of
begun size part = omega (arith, part)

-- an inode of a file that ends within its last block, and whose pointer stands for that block
record HasLast (g : Layout) (image : Image) (t : TableValues) (block : Block) (end : ℕ) : Type 0 where
  pub ino : ℕ
  pub own : ℕ
  pub inode : Inode
  pub there : IsInodeIn g image t ino inode own
  pub file : inode.kind ≡ File
  pub part : inode.size % 4096 ≢ 0
  pub end_is : inode.size % 4096 ≡ end
  pub stands : StandsFor g t.slots image File (pointer_of image inode (inode.size / 4096)) block

module _ (g : Layout) (limits : IsWithinLimits g) (image : Image) (t : TableValues) (nodes : Nodes) (has : HasNodes g image t nodes) where
  module _ (block : Block) (end : ℕ) (is : IsLast nodes block end) where
    at : IsNodeAt g t.slots image is.ino (slice_index t.inodes is.ino) is.node
    at = node_there g limits image t nodes has is.ino is.node is.is

    range : (1 ≤ is.ino) × (is.ino < g.inodes)
    range = in_range g limits image t nodes has is.ino is.node is.is

    file : at.inode.kind ≡ File
    file = sym at.is.kind_is ∙ is.file

    end_is : at.inode.size % 4096 ≡ end
    end_is = ap (λ (n : ℕ). n % 4096) (sym at.is.size_is) ∙ is.end_is

    part : at.inode.size % 4096 ≢ 0
    part none = is.part (sym end_is ∙ none)

    stands : StandsFor g t.slots image File (pointer_of image at.inode (at.inode.size / 4096)) block
    stands =
        let p = pointer_of image at.inode (at.inode.size / 4096) in
        let own = at.is.blocks (at.inode.size / 4096) (begun at.inode.size part) in
        let its = subst (λ (kind : Kind). StandsFor g t.slots image kind p (file_block is.node.content (at.inode.size / 4096))) file own in
        subst (λ (b : Block). StandsFor g t.slots image File p b) (ap (λ (n : ℕ). file_block is.node.content (n / 4096)) (sym at.is.size_is) ∙ is.last) its

    -- the last block of a node is that of its inode
    last_inode : HasLast g image t block end
    last_inode = record {
      ino = is.ino;
      own = slice_index t.inodes is.ino;
      inode = at.inode;
      there = (range.0, range.1, refl, at.there);
      file = file;
      part = part;
      end_is = end_is;
      stands = stands;
    }

  -- where each last block on the disk is zero past the size, so are those of the nodes
  pub end_nodes : EndsFiles g image t → EndNodes nodes
  end_nodes ends bytes end is =
      let last = last_inode (Here bytes) end is in
      let pointer = pointer_of image last.inode (last.inode.size / 4096) in
      let zeros = ends last.ino last.own pointer last.inode last.there last.file last.part (inl (last.stands.0, refl)) in
      subst (λ (b : List ℕ). IsZeroFrom end b) last.stands.1 (subst (λ (n : ℕ). IsZeroFrom n (image pointer)) last.end_is zeros)

  pub end_lines : (next : ℕ) → AreSlots g t.slots next → EndsFiles g image t → EndLines g image t.slots nodes
  end_lines next are ends n line serial position end staged is =
      let last = last_inode (Away serial position) end is in
      let away = last.stands.1 in
      let one : slot_number g.volumes away.volume away.slot ≡ n = are.one_slot (slot_number g.volumes away.volume away.slot) n serial away.holds (ap serial_of staged) in
      let there : InStagedLine g t.slots (pointer_of image last.inode (last.inode.size / 4096)) (line_start g line + position) = record {
        volume = away.volume;
        slot = away.slot;
        position = position;
        place = away.place;
        line = line;
        serial = serial;
        staged = ap (slot_at t.slots) one ∙ staged;
        block_is = refl;
      } in
      subst (λ (e : ℕ). IsZeroFrom e (image (line_start g line + position))) last.end_is
      (ends last.ino last.own (line_start g line + position) last.inode last.there last.file last.part (inr there))

  -- a last block that is away lies at a position of its line
  pub last_within : (serial position end : ℕ) → IsLast nodes (Away serial position) end → position < g.k
  last_within serial position end is =
      let high = (last_inode (Away serial position) end is).stands.1.high in
      let some : 0 < g.k = has_blocks g.k limits.segment_size in
      omega arith

  module _ (here : EndNodes nodes) (lines : EndLines g image t.slots nodes) where
    -- what a pointer to a last block names on the disk is zero past the size
    zero_past : (b : Block) (pointer address end : ℕ) → StandsFor g t.slots image File pointer b → IsLast nodes b end → OnDisk g t.slots pointer address → IsZeroFrom end (image address)
    zero_past b pointer address end stands is (inl (logged, same)) =
        let own : b ≡ Here (image pointer) = one_block g limits t.slots image File pointer b (Here (image pointer)) stands (logged, refl) in
        subst (λ (a : ℕ). IsZeroFrom end (image a)) (sym same) (here (image pointer) end (subst (λ (x : Block). IsLast nodes x end) own is))
    zero_past Hole pointer address end stands is (inr line) = absurd (let e = place_only g limits pointer (Tertiary line.volume line.slot line.position) Nothing line.place stands in cc)
    zero_past (Here xs) pointer address end stands is (inr line) = absurd (in_log-near g limits pointer line.volume line.slot line.position stands.0 line.place)
    zero_past (Away serial position) pointer address end stands is (inr line) =
        let away = stands.1 in
        let e = place_only g limits pointer (Tertiary away.volume away.slot position) (Tertiary line.volume line.slot line.position) away.place line.place in
        let v : away.volume ≡ line.volume = cc in
        let s : away.slot ≡ line.slot = cc in
        let p : position ≡ line.position = cc in
        let n : slot_number g.volumes away.volume away.slot ≡ slot_number g.volumes line.volume line.slot = cc in
        let both : Some line.serial ≡ Some serial = sym (ap serial_of (ap (slot_at t.slots) n ∙ line.staged)) ∙ away.holds in
        let same : line.serial ≡ serial = cc in
        let staged : slot_at t.slots (slot_number g.volumes line.volume line.slot) ≡ Staged line.line serial = line.staged ∙ ap (Staged line.line) same in
        subst (λ (a : ℕ). IsZeroFrom end (image a)) (ap (λ (q : ℕ). line_start g line.line + q) p ∙ sym line.block_is)
        (lines (slot_number g.volumes line.volume line.slot) line.line serial position end staged is)

    -- where the last blocks of the nodes are zero past the size, here and in staged lines, so are those on the disk
    pub ends_files : EndsFiles g image t
    ends_files ino own address v there file part lies =
        let at = inode_node g limits image t nodes has ino own v there in
        let pointer = pointer_of image v (v.size / 4096) in
        let block = file_block at.0.content (v.size / 4096) in
        let stands = subst (λ (kind : Kind). StandsFor g t.slots image kind pointer block) file (at.2.blocks (v.size / 4096) (begun v.size part)) in
        let is : IsLast nodes block (v.size % 4096) = record {
          ino = ino;
          node = at.0;
          is = at.1;
          file = at.2.kind_is ∙ file;
          last = ap (λ (n : ℕ). file_block at.0.content (n / 4096)) at.2.size_is;
          end_is = ap (λ (n : ℕ). n % 4096) at.2.size_is;
          part = part;
        } in
        zero_past block pointer address (v.size % 4096) stands is lies

-- contents in order
module _ (g : Layout) (image : Image) (c : Contents) (placed : PlacedTree) where
  pub order_nodes : IsInOrder g image c placed → EndNodes c.nodes
  order_nodes is = end_nodes g (limits_of g image c.rec is.has.newest is.has.volumes) image c.tables c.nodes is.has.nodes is.ends

  pub order_lines : IsInOrder g image c placed → EndLines g image c.tables.slots c.nodes
  order_lines is = end_lines g (limits_of g image c.rec is.has.newest is.has.volumes) image c.tables c.nodes is.has.nodes (next_tertiary c) is.sound.slots is.ends

  pub order_of_ends : HasSound g image c → HasTree c.nodes placed → HoldsLines g image c.tables.slots → EndNodes c.nodes → EndLines g image c.tables.slots c.nodes
      → flat_charge c.nodes ≤ quota g → IsInOrder g image c placed
  order_of_ends is tree lines here away charge = record {
    has = is.has;
    sound = is.sound;
    tree = tree;
    lines = lines;
    ends = ends_files g (limits_of g image c.rec is.has.newest is.has.volumes) image c.tables c.nodes is.has.nodes here away;
    charge = charge;
  }
