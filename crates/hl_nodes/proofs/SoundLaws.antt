-- Sound contents break no rule, and leave the log room at its head.
use Rattle.std.specs.FinMap.{get}
use Rattle.std.proofs.Common.{◌≡◌, ◌≢◌, ◌⊎◌, inl, inr, ⊎_elim, ℕ, ◌+◌, ◌-◌, ◌/◌, ◌<◌, ◌≤◌, ◌==◌, nat_lt, if◌then◌else◌, Bool, true, false, List, refl, sym, ◌∙◌, ap, subst, arith}
use Rattle.std.specs.Prelude.{slice_index, Option, Some, None}
use Rattle.std.proofs.lemmas.Bool.{cases_lt}
use Rattle.std.proofs.lemmas.Bool.Decides.{nat_tests}
use Rattle.hl_inode.specs.Pointers.{pointers_of}
use Rattle.hl_media.specs.History.{Image}
use Rattle.hl_addr.specs.Layout.{Layout, IsWithinLimits}
use Rattle.hl_log.specs.Free.{InOneOf}
use Rattle.hl_tseg.specs.SlotTable.{SlotTable}
use Rattle.hl_inode.specs.declared.inode.Kind.{Kind}
use Rattle.hl_inode.specs.declared.inode.Kind.TheVariants.{File, Dir}
use Rattle.hl_inode.specs.declared.inode.Inode.{Inode}
use Rattle.hl_paths.specs.Nodes.{FlatNode}
use Rattle.hl_placed.specs.Blocks.{Away, Block, Here, Hole, file_block, blocks_of}
use Rattle.hl_nodes.specs.declared.rule.Rule.{Rule}
use Rattle.hl_nodes.specs.declared.rule.Rule.TheVariants.{TablePlace, TableBytes, MapEntry, InodeBytes, PointerPlace, PointerBlock, SharedBlock, StrayBlock, DirectoryBytes, DirectoryEntry, LostInode, SlotEntry, LineBytes, LastBlock, Quota, Room}
use Rattle.hl_nodes.specs.Pointers.{pointer_in, pointer_of, HasPointerBlock}
use Rattle.hl_image.specs.Places.{InLog}
use Rattle.hl_inode.specs.Inodes.{IsInode}
use Rattle.hl_nodes.specs.Blocks.{StandsFor, LiesAway}
use Rattle.hl_nodes.specs.Nodes.{IsInodeAt, IsNodeOf, IsNodeAt, IsMapEntry}
use Rattle.hl_nodes.specs.Live.{NodeBlock, LiesAt, PointsAt, IsNodeBlock, LiveBlock, IsLiveAt, IsNamedAt, IsLive}
use Rattle.hl_nodes.specs.Live.NodeBlock.{Own, Pointers, Content}
use Rattle.hl_nodes.specs.Live.LiveBlock.{Table, OfNode}
use Rattle.hl_nodes.specs.Contents.{Contents, HasContents, IsApart, next_tertiary}
use Rattle.hl_nodes.specs.Sound.{head_of, AreSlots, IsSound}
use Rattle.hl_nodes.specs.Verdicts.{is_of_nodes}
use Rattle.hl_nodes.specs.Breaks.{IsOffEntry, IsOffInode, IsOffPointer, IsOffSlot, HasOffPointer, HasOffPointers, Breaks}
use Rattle.hl_nodes.proofs.PointerLemmas.{in_log-some, in_log-near}
use Rattle.hl_nodes.proofs.Determined.{away_once}
use Rattle.hl_nodes.proofs.UnitLaws.{live_in_log}
use Rattle.hl_nodes.proofs.Frame.{limits_of, table_count, one_inode}

not_off : (g : Layout) (slots : SlotTable) (image : Image) (kind : Kind) (pointer : ℕ) (block : Block) → StandsFor g slots image kind pointer block → IsOffPointer g slots kind pointer → ⊥
not_off g slots image kind pointer Hole is off = off.some is
not_off g slots image kind pointer (Here bytes) is off = off.not_here is.0
not_off g slots image kind pointer (Away serial position) is off = off.not_away serial position is.0 is.1

no_off_slot : (g : Layout) (t : SlotTable) (next n : ℕ) → AreSlots g t next → IsOffSlot g t next n → ⊥
no_off_slot g t next n are (inl (line, serial, staged, inl past)) = (let low = are.lines n line serial staged in omega arith)
no_off_slot g t next n are (inl (line, serial, staged, inr (inl (m, other, differ, too)))) = differ (are.one_line m n line other serial too staged)
no_off_slot g t next n are (inl (line, serial, staged, inr (inr many))) = (let few = are.few in omega arith)
no_off_slot g t next n are (inr (serial, holds, inl past)) = (let low = are.below n serial holds in omega arith)
no_off_slot g t next n are (inr (serial, holds, inr (m, differ, too))) = differ (are.one_slot m n serial too holds)

-- where there is no pointer block, each of its pointers is Nothing
pointer_in-none : (image : Image) (address i : ℕ) → address ≡ 4294967295 → pointer_in image address i ≡ 4294967295
unfolding pointer_in
pointer_in-none image address i none = ap (λ (a : ℕ). if a == 4294967295 then 4294967295 else slice_index (pointers_of (image a)) i) none

pointer_of-low : (image : Image) (v : Inode) (i : ℕ) → i < 12 → pointer_of image v i ≡ slice_index v.direct i
unfolding pointer_of
pointer_of-low image v i low =
    let e : nat_lt i 12 ≡ true = grind (arith, nat_tests) in
    ap (λ (b : Bool). if b then slice_index v.direct i else pointer_in image v.single (i - 12)) e

pointer_of-high : (image : Image) (v : Inode) (i : ℕ) → 12 ≤ i → pointer_of image v i ≡ pointer_in image v.single (i - 12)
unfolding pointer_of
pointer_of-high image v i high =
    let e : nat_lt i 12 ≡ false = grind (arith, nat_tests) in
    ap (λ (b : Bool). if b then slice_index v.direct i else pointer_in image v.single (i - 12)) e

rounded : (size i : ℕ) → blocks_of size ≤ i → (size + 4095) / 4096 ≤ i
unfolding blocks_of
rounded size i past = omega arith

-- the pointers past the size are Nothing
past_nothing : (g : Layout) (image : Image) (v : Inode) → IsInode v → HasPointerBlock g image v → (i : ℕ) → i < 1036 → blocks_of v.size ≤ i → pointer_of image v i ≡ 4294967295
past_nothing g image v value pointers i lt past = ⊎_elim
    (λ low. pointer_of-low image v i low ∙ value.ranges.direct i (omega (arith, value.room.count)) (rounded v.size i past))
    (λ high. pointer_of-high image v i high ∙ ⊎_elim (λ none. pointer_in-none image v.single (i - 12) none) (λ block. block.within (i - 12) (omega arith) (omega arith)) pointers)
    (cases_lt i 12)

module _ (g : Layout) (image : Image) (c : Contents) (has : HasContents g image c) (sound : IsSound g image c) where
  limits : IsWithinLimits g
  limits = limits_of g image c.rec has.newest has.volumes

  abbrev entry : ℕ → ℕ
  entry ino = slice_index c.tables.inodes ino

  abbrev EntryOf : ℕ → Option FlatNode → Type 0
  EntryOf ino node = IsMapEntry g c.tables.slots image ino (entry ino) node

  -- an inode that the map names has a node
  node_of : (ino : ℕ) → 1 ≤ ino → ino < g.inodes → (v : Inode) → IsInodeAt g image ino (entry ino) v → (node : FlatNode) × IsNodeOf g c.tables.slots image v node
  node_of ino low high v at = by_entry (get c.nodes ino) (has.nodes.entries ino low high)
    where
      by_entry : (node : Option FlatNode) → EntryOf ino node → (node : FlatNode) × IsNodeOf g c.tables.slots image v node
      by_entry None none = absurd (in_log-some g limits (entry ino) at.in_log none)
      by_entry (Some node) is = (node, subst (λ (x : Inode). IsNodeOf g c.tables.slots image x node) (one_inode (image (entry ino)) (image (entry ino)) is.inode v refl is.there.spelled at.spelled) is.is)

  in_map : (ino : ℕ) (node : Option FlatNode) → EntryOf ino node → entry ino ≢ 4294967295 → InLog g (entry ino)
  in_map ino None none some = absurd (some none)
  in_map ino (Some node) is some = is.there.in_log

  root_at : 1 < g.inodes → IsNodeAt g c.tables.slots image 1 (entry 1) sound.root
  root_at high = subst (EntryOf 1) sound.root_is (has.nodes.entries 1 (omega arith) high)

  no_off_entry : (ino : ℕ) → ino < g.inodes → IsOffEntry g ino (entry ino) → ⊥
  no_off_entry ino high (inl (some, out)) = by_low (cases_lt ino 1)
    where
      by_low : (ino < 1) ⊎ (1 ≤ ino) → ⊥
      by_low (inl zero) = (let e : ino ≡ 0 = omega arith in some (ap entry e ∙ sound.no_zero))
      by_low (inr low) = out (in_map ino (get c.nodes ino) (has.nodes.entries ino low high) some)
  no_off_entry ino high (inr (inl (zero, some))) = some (ap entry zero ∙ sound.no_zero)
  no_off_entry ino high (inr (inr (one, none))) =
      let at : InLog g (entry 1) = (root_at (omega arith)).there.in_log in
      in_log-some g limits (entry 1) at (ap entry (sym one) ∙ none)

  no_off_inode : (ino : ℕ) → ino < g.inodes → (node : Option FlatNode) → EntryOf ino node → entry ino ≢ 4294967295 → IsOffInode ino (image (entry ino)) → ⊥
  no_off_inode ino high None none some off = some none
  no_off_inode ino high (Some node) is some (inl none) = none is.inode is.there.spelled is.there.number
  no_off_inode ino high (Some node) is some (inr (v, one, spelled, file)) =
      let at = root_at (omega arith) in
      let same : v ≡ at.inode = one_inode (image (entry ino)) (image (entry 1)) v at.inode (ap (λ (n : ℕ). image (entry n)) (sym one)) spelled at.there.spelled in
      let e : File ≡ Dir = sym file ∙ ap (λ (x : Inode). x.kind) same ∙ sym at.is.kind_is ∙ sound.root_dir in
      cc

  no_off_pointer : (v : Inode) (node : FlatNode) → IsInode v → IsNodeOf g c.tables.slots image v node → HasOffPointer g image c.tables v → ⊥
  no_off_pointer v node value is (inl (some, out)) = ⊎_elim some (λ block. out block.in_log) is.pointers
  no_off_pointer v node value is (inr (i, lt, off)) = ⊎_elim {C = ⊥}
      (λ within. not_off g c.tables.slots image v.kind (pointer_of image v i) (file_block node.content i) (is.blocks i within) off)
      (λ past. off.some (past_nothing g image v value is.pointers i lt past))
      (cases_lt i (blocks_of v.size))

  no_off_pointers : (v : Inode) (node : FlatNode) → IsNodeOf g c.tables.slots image v node → InLog g v.single → HasOffPointers image v → ⊥
  no_off_pointers v node is in_log off = ⊎_elim (in_log-some g limits v.single in_log)
      (λ block. ⊎_elim {C = ⊥} (λ none. block.names (none block.named block.named_low)) (λ past. past.3 (block.within past.0 past.1 past.2)) off)
      is.pointers

  -- a block that is away in the segment of a slot
  abbrev IsAwayBlock : LiveBlock → ℕ → Type 0
  IsAwayBlock x address = (ino i serial position : ℕ) × (node : FlatNode) × (x ≡ OfNode ino (Content i)) × (get c.nodes ino ≡ Some node)
      × (file_block node.content i ≡ Away serial position) × LiesAway g c.tables.slots address serial position

  module _ (ino : ℕ) (low : 1 ≤ ino) (high : ino < g.inodes) (v : Inode) (there : IsInodeAt g image ino (entry ino) v) (node : FlatNode) (e : get c.nodes ino ≡ Some node) (is : IsNodeOf g c.tables.slots image v node) where
    by_place : (block : NodeBlock) (address : ℕ) → LiesAt g image (entry ino) v block address → IsNodeBlock g image c.tables ino block address
    by_place block address lies = record { low = low; high = high; inode = v; there = there; lies = lies }

    by_stand : (i address : ℕ) → i < blocks_of v.size → address ≢ 4294967295 → pointer_of image v i ≡ address → (block : Block) → file_block node.content i ≡ block → StandsFor g c.tables.slots image v.kind (pointer_of image v i) block
        → IsNodeBlock g image c.tables ino (Content i) address ⊎ IsAwayBlock (OfNode ino (Content i)) address
    by_stand i address lt some at Hole same stands = absurd (some (sym at ∙ stands))
    by_stand i address lt some at (Here bytes) same stands = inl (by_place (Content i) address (lt, subst (InLog g) at stands.0, at))
    by_stand i address lt some at (Away serial position) same stands =
        inr (ino, i, serial, position, node, refl, e, same, subst (λ (a : ℕ). LiesAway g c.tables.slots a serial position) at stands.1)

    -- a block of a node lies in the log, or is away
    node_place : (block : NodeBlock) (address : ℕ) → PointsAt image (entry ino) v block address → IsNodeBlock g image c.tables ino block address ⊎ IsAwayBlock (OfNode ino block) address
    node_place Own address at = inl (by_place Own address at)
    node_place Pointers address (some, at) = ⊎_elim
        (λ none. absurd (some (sym at ∙ none)))
        (λ block. inl (by_place Pointers address (subst (InLog g) at block.in_log, at)))
        is.pointers
    node_place (Content i) address (lt, some, at) = by_stand i address lt some at (file_block node.content i) refl (is.blocks i lt)

  named_place : (x : LiveBlock) (address : ℕ) → IsNamedAt g image c.rec c.tables x address → IsLiveAt g image c.rec c.tables x address ⊎ IsAwayBlock x address
  named_place (Table i) address at = inl at
  named_place (OfNode ino block) address at = by_entry (get c.nodes ino) refl (has.nodes.entries ino at.low at.high)
    where
      by_entry : (node : Option FlatNode) → get c.nodes ino ≡ node → EntryOf ino node → IsNodeBlock g image c.tables ino block address ⊎ IsAwayBlock (OfNode ino block) address
      by_entry None e none = absurd (in_log-some g limits (entry ino) at.there.in_log none)
      by_entry (Some node) e is = node_place ino at.low at.high at.inode at.there node e
          (subst (λ (x : Inode). IsNodeOf g c.tables.slots image x node) (one_inode (image (entry ino)) (image (entry ino)) is.inode at.inode refl is.there.spelled at.there.spelled) is.is)
          block address at.points

  not_both : (address serial position : ℕ) → IsLive g image c.rec c.tables address → LiesAway g c.tables.slots address serial position → ⊥
  not_both address serial position live away = in_log-near g limits address away.volume away.slot position (live_in_log g image c has address live) away.place

  same_away : (x y : LiveBlock) (address : ℕ) → IsAwayBlock x address → IsAwayBlock y address → x ≡ y
  same_away x y address (m, i, s, p, n, x_is, there, at, away) (m', i', s', p', n', y_is, there', at', away') =
      let same : Away s p ≡ Away s' p' = away_once g limits c.tables.slots address s s' p p' away away' in
      let one = sound.away_once m m' i i' s p n n' there there' at (at' ∙ sym same) in
      x_is ∙ ap (λ (k : ℕ). OfNode k (Content i)) one.0 ∙ ap (λ (k : ℕ). OfNode m' (Content k)) one.1 ∙ sym y_is

  one_named : (x y : LiveBlock) (address : ℕ) → IsNamedAt g image c.rec c.tables x address → IsNamedAt g image c.rec c.tables y address → x ≡ y
  one_named x y address a b = by_places (named_place x address a) (named_place y address b)
    where
      by_places : IsLiveAt g image c.rec c.tables x address ⊎ IsAwayBlock x address → IsLiveAt g image c.rec c.tables y address ⊎ IsAwayBlock y address → x ≡ y
      by_places (inl a) (inl b) = sound.one_block x y address a b
      by_places (inl a) (inr (m, i, s, p, n, is, there, at, away)) = absurd (not_both address s p (record { block = x; lies = a }) away)
      by_places (inr (m, i, s, p, n, is, there, at, away)) (inl b) = absurd (not_both address s p (record { block = y; lies = b }) away)
      by_places (inr a) (inr b) = same_away x y address a b

  -- SOUND CONTENTS BREAK NO RULE
  pub sound_breaks_none : (rule : Rule) (address : ℕ) → is_of_nodes rule ≡ true → Breaks g image c.rec c.parts c.tables rule address → ⊥
  sound_breaks_none TablePlace address e (i, at, inl out) = out (subst (InLog g) at.1 (has.tables.spelled.in_log i at.0))
  sound_breaks_none TablePlace address e (i, at, inr (j, differ, too)) = differ (sound.tables_once j i too.0 at.0 (too.1 ∙ sym at.1))
  sound_breaks_none TableBytes address e (i, at, off) =
      let lt = at.0 in
      off (record {
        values = has.tables.before;
        shape = has.tables.spelled.values.shape;
        block = sym (has.tables.spelled.blocks i (omega (arith, table_count g image c.rec has.newest has.volumes))) ∙ ap image at.1;
      })
  sound_breaks_none MapEntry address e (ino, high, at, off) = no_off_entry ino high off
  sound_breaks_none InodeBytes address e (ino, low, high, at, some, off) =
      no_off_inode ino high (get c.nodes ino) (has.nodes.entries ino low high) (λ e. some (sym at ∙ e)) (subst (λ (a : ℕ). IsOffInode ino (image a)) (sym at) off)
  sound_breaks_none PointerPlace address e (ino, v, at, off) =
      let node = node_of ino at.0 at.1 v (subst (λ (a : ℕ). IsInodeAt g image ino a v) (sym at.2) at.3) in
      no_off_pointer v node.0 at.3.spelled.value node.1 off
  sound_breaks_none PointerBlock address e (ino, own, v, at, in_log, single, off) =
      let node = node_of ino at.0 at.1 v (subst (λ (a : ℕ). IsInodeAt g image ino a v) (sym at.2) at.3) in
      no_off_pointers v node.0 node.1 (subst (InLog g) (sym single) in_log) off
  sound_breaks_none SharedBlock address e (x, y, differ, one, two) = differ (one_named x y address one two)
  sound_breaks_none StrayBlock address e (inl (live, unused)) = unused (sound.used address live)
  sound_breaks_none StrayBlock address e (inr (taken, ahead)) = sound.behind address taken ahead
  sound_breaks_none SlotEntry address e (n, high, at, off) = no_off_slot g c.tables.slots (next_tertiary c) n sound.slots off
  sound_breaks_none DirectoryBytes address e off = cc
  sound_breaks_none DirectoryEntry address e off = cc
  sound_breaks_none LostInode address e off = cc
  sound_breaks_none LineBytes address e off = cc
  sound_breaks_none LastBlock address e off = cc
  sound_breaks_none Quota address e off = cc
  sound_breaks_none Room address e off = cc

  -- where the clean segments hold no live block, none lies where the log may write next
  pub sound_apart : (clean : List ℕ) → ((address : ℕ) → IsLive g image c.rec c.tables address → InOneOf g clean address → ⊥) → IsApart g (head_of c.rec c.parts) clean image c
  sound_apart clean none address live (inl ahead) = sound.behind address (inl live) ahead
  sound_apart clean none address live (inr there) = none address live there
