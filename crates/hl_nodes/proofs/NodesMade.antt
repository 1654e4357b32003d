-- An image that breaks no rule has nodes.
use Rattle.std.specs.FinMap.{get}
use Rattle.std.proofs.Common.{◌≡◌, ◌≢◌, inl, inr, ℕ, zero, suc, ◌/◌, ◌<◌, ◌≤◌, List, refl, ◌∙◌, ap, arith}
use Rattle.std.specs.Prelude.{slice_index, Option, Some, None}
use Rattle.hl_media.specs.History.{Image}
use Rattle.hl_addr.specs.Layout.{Layout, IsWithinLimits}
use Rattle.hl_super.specs.declared.record.Record.{Record}
use Rattle.hl_summary.specs.declared.parts.Summary.{Summary}
use Rattle.hl_tables.specs.Values.{TableValues}
use Rattle.hl_inode.specs.declared.inode.Kind.{Kind}
use Rattle.hl_inode.specs.declared.inode.Kind.TheVariants.{File, Dir}
use Rattle.hl_inode.specs.declared.inode.Inode.{Inode}
use Rattle.hl_inode.specs.Inodes.{Spells}
use Rattle.hl_placed.specs.Blocks.{Away, Block, Here, Hole, blocks_of}
use Rattle.hl_paths.specs.Nodes.{FlatNode, Nodes}
use Rattle.hl_nodes.specs.declared.rule.Rule.TheVariants.{MapEntry, InodeBytes, PointerPlace, PointerBlock}
use Rattle.hl_nodes.specs.Pointers.{pointer_in, pointer_of, HasPointerBlock}
use Rattle.hl_image.specs.Places.{InLog}
use Rattle.hl_nodes.specs.Blocks.{StandsFor}
use Rattle.hl_nodes.specs.Nodes.{IsInodeAt, IsNodeAt, IsMapEntry, HasNodes}
use Rattle.hl_nodes.specs.Directories.{IsInodeIn}
use Rattle.hl_nodes.specs.Breaks.{IsOffEntry, IsOffInode, HasOffPointer, HasOffPointers}
use Rattle.hl_nodes.proofs.Deciding.{Decided, certain, both, denied, is_equal, some_below}
use Rattle.hl_nodes.proofs.InodeDecided.{is_file, is_dir, inode_or_not}
use Rattle.hl_nodes.proofs.PlaceDecided.{in_log, away}
use Rattle.hl_nodes.proofs.Choosing.{HasChosen, choose, choose_list}
use Rattle.hl_nodes.proofs.Frame.{one_inode}
use Rattle.hl_nodes.proofs.Unbroken.{IsUnbroken, limits_un, map_block}

-- a node is a file or a directory
pub file_unless_dir : (kind : Kind) → (kind ≡ Dir → ⊥) → kind ≡ File
file_unless_dir File never = refl
file_unless_dir Dir never = absurd (never refl)

pub most_blocks : (size : ℕ) → size ≤ 4243456 → blocks_of size ≤ 1036
unfolding blocks_of
most_blocks size le = omega arith

module _ (g : Layout) (image : Image) (rec : Record) (parts : List Summary) (t : TableValues) (un : IsUnbroken g image rec parts t) where
  limits : IsWithinLimits g
  limits = limits_un g image rec parts t un

  abbrev entry : ℕ → ℕ
  entry ino = slice_index t.inodes ino

  pub no_off_entry : (ino : ℕ) → ino < g.inodes → IsOffEntry g ino (entry ino) → ⊥
  no_off_entry ino high off = un.none MapEntry (omega arith) (slice_index rec.tables (ino / 1024)) (ino, high, map_block g image rec parts t un ino high, off)

  module _ (ino : ℕ) (low : 1 ≤ ino) (high : ino < g.inodes) (some : entry ino ≢ 4294967295) where
    logged : InLog g (entry ino)
    logged = certain (in_log g (entry ino)) (λ out. no_off_entry ino high (inl (some, out)))

    no_off_inode : IsOffInode ino (image (entry ino)) → ⊥
    no_off_inode off = un.none InodeBytes (omega arith) (entry ino) (ino, low, high, refl, some, off)

    spelled : (v : Inode) × Spells (image (entry ino)) v
    spelled = certain (inode_or_not (image (entry ino))) (λ never. no_off_inode (inl (λ w is e. never (w, is))))

    own_number : spelled.0.number ≡ ino
    own_number = certain (is_equal spelled.0.number ino)
        (λ differ. no_off_inode (inl (λ w is e. differ (ap (λ (x : Inode). x.number) (one_inode (image (entry ino)) (image (entry ino)) spelled.0 w refl spelled.1 is) ∙ e))))

    pub there : (v : Inode) × IsInodeAt g image ino (entry ino) v
    there = (spelled.0, record { in_log = logged; spelled = spelled.1; number = own_number })

    -- the root is a directory
    pub root_kind : ino ≡ 1 → there.0.kind ≡ Dir
    root_kind one = certain (is_dir there.0.kind) (λ never. no_off_inode (inr (there.0, one, there.1.spelled, file_unless_dir there.0.kind never)))

    abbrev v : Inode
    v = there.0

    in_map : IsInodeIn g image t ino v (entry ino)
    in_map = (low, high, refl, there.1)

    no_off_pointer : HasOffPointer g image t v → ⊥
    no_off_pointer off = un.none PointerPlace (omega arith) (entry ino) (ino, v, in_map, off)

    pointer_block : HasPointerBlock g image v
    pointer_block = by (is_equal v.single 4294967295)
      where
        by : Decided (v.single ≡ 4294967295) → HasPointerBlock g image v
        by (inl none) = inl none
        by (inr some) =
            let at : InLog g v.single = certain (in_log g v.single) (λ out. no_off_pointer (inl (some, out))) in
            let never : HasOffPointers image v → ⊥ = λ off. un.none PointerBlock (omega arith) v.single (ino, entry ino, v, in_map, at, refl, off) in
            let named : (i : ℕ) × (i < 1024) × (pointer_in image v.single i ≢ 4294967295) =
            certain (some_below (λ i. pointer_in image v.single i ≢ 4294967295) 1024 (λ i lt. denied (is_equal (pointer_in image v.single i) 4294967295)))
            (λ nowhere. never (inl (λ i lt. certain (is_equal (pointer_in image v.single i) 4294967295) (λ differ. nowhere (i, lt, differ))))) in
            inr (record {
              in_log = at;
              named = named.0;
              named_low = named.1;
              names = named.2;
              within = λ i lt past. certain (is_equal (pointer_in image v.single i) 4294967295) (λ differ. never (inr (i, lt, past, differ)));
            })

    block_of_pointer : (i : ℕ) → i < blocks_of v.size → (b : Block) × StandsFor g t.slots image v.kind (pointer_of image v i) b
    block_of_pointer i lt = by (is_equal p 4294967295) (in_log g p)
      where
        p : ℕ
        p = pointer_of image v i

        by : Decided (p ≡ 4294967295) → Decided (InLog g p) → (b : Block) × StandsFor g t.slots image v.kind p b
        by (inl none) d = (Hole, none)
        by (inr some) (inl at) = (Here (image p), (at, refl))
        by (inr some) (inr out) =
            let few = most_blocks v.size there.1.spelled.value.ranges.size in
            let far = certain (both (is_file v.kind) (away g limits t.slots p))
            (λ never. no_off_pointer (inr (i, omega arith, record { some = some; not_here = out; not_away = λ serial position file at. never (file, (serial, position, at)) }))) in
            (Away far.1.0 far.1.1, (far.0, far.1.2))

    made : (node : FlatNode) × IsNodeAt g t.slots image ino (entry ino) node
    made =
        let blocks = choose_list (λ i b. StandsFor g t.slots image v.kind (pointer_of image v i) b) Hole (blocks_of v.size) block_of_pointer in (
          record { kind = v.kind; content = record { size = v.size; used = v.used; blocks = blocks.0 } },
          record {
            inode = v;
            there = there.1;
            is = record { kind_is = refl; size_is = refl; used_is = refl; count = blocks.1; pointers = pointer_block; blocks = blocks.2 };
          },
        )

  -- the node of a number, and none of number 0
  IsMade : ℕ → Option FlatNode → Type 0
  IsMade zero o = o ≡ None
  IsMade (suc n) o = IsMapEntry g t.slots image (suc n) (entry (suc n)) o

  make : (ino : ℕ) → ino < g.inodes → (o : Option FlatNode) × IsMade ino o
  unfolding IsMade
  make zero high = (None, refl)
  make (suc n) high = by (is_equal (entry (suc n)) 4294967295)
    where
      by : Decided (entry (suc n) ≡ 4294967295) → (o : Option FlatNode) × IsMapEntry g t.slots image (suc n) (entry (suc n)) o
      by (inl none) = (None, none)
      by (inr some) = let node = made (suc n) (omega arith) high some in (Some node.0, node.1)

  chosen : HasChosen IsMade g.inodes
  chosen = choose IsMade g.inodes make

  -- they are the nodes that the tables name
  pub nodes_made : (nodes : Nodes) × HasNodes g image t nodes
  unfolding IsMade
  nodes_made = (chosen.chosen, record { entries = entries; zero = chosen.each 0 (let some = limits.inode_count.0 in omega arith); past = chosen.past })
    where
      entries : (ino : ℕ) → 1 ≤ ino → ino < g.inodes → IsMapEntry g t.slots image ino (entry ino) (get chosen.chosen ino)
      entries zero low high = absurd (omega arith)
      entries (suc n) low high = chosen.each (suc n) high
