-- A unit in which each node has its fate makes the nodes.
use Rattle.std.specs.FinMap.{get}
use Rattle.std.proofs.Common.{◌≡◌, ◌⊎◌, inr, ℕ, ◌<◌, ◌≤◌, List, length, get_or, refl, sym, ◌∙◌, ap, subst, arith}
use Rattle.std.specs.Prelude.{slice_index, Option, Some, None, Contains}
use Rattle.std.proofs.lemmas.List.{length-replicate, get_or_default}
use Rattle.hl_media.specs.History.{Image, MachineState}
use Rattle.hl_addr.specs.Layout.{Layout}
use Rattle.hl_addr.specs.Slots.{slot_number}
use Rattle.hl_bytes.specs.declared.records.BlockRecord.{BlockRecord}
use Rattle.hl_image.specs.Newest.{start_of}
use Rattle.hl_log.specs.declared.position.Position.{Position}
use Rattle.hl_log.specs.declared.piece.Piece.{Piece}
use Rattle.hl_log.specs.Cut.{AreCut, addresses}
use Rattle.hl_log.specs.Units.{Brought}
use Rattle.hl_log.proofs.TwoPhases.{length-addresses}
use Rattle.hl_tseg.specs.SlotTable.{SlotTable}
use Rattle.hl_tables.specs.Values.{TableValues}
use Rattle.hl_paths.specs.Nodes.{FlatNode, Nodes}
use Rattle.hl_placed.specs.Blocks.{Away, Block, Here, Hole, file_block}
use Rattle.hl_nodes.specs.Pointers.{pointer_of}
use Rattle.hl_nodes.specs.Blocks.{StandsFor}
use Rattle.hl_nodes.specs.Nodes.{IsInodeAt, IsNodeAt, IsMapEntry}
use Rattle.hl_nodes.specs.Live.{NodeBlock, record_of, LiesAt, IsNodeBlock}
use Rattle.hl_nodes.specs.Live.NodeBlock.{Own}
use Rattle.hl_nodes.specs.Live.LiveBlock.{OfNode}
use Rattle.hl_nodes.specs.Contents.{Contents, Rests}
use Rattle.hl_nodes.specs.Units.{blocks_placed, unit_laid, TakesIn, IsPlanned, Makes}
use Rattle.hl_nodes.specs.Fates.{KeepsSlots, freed, IsLeftAlone, IsBroughtAs, Fate, HasFate, Changes}
use Rattle.hl_nodes.specs.Fates.Fate.{Kept, Freed, Written}
use Rattle.hl_nodes.proofs.PointerLemmas.{in_log-some}
use Rattle.hl_nodes.proofs.Frame.{entry_same, block_back}
use Rattle.hl_nodes.proofs.Lookups.{entry, placed-other, placed-own, placed-length, changes-other, changes-freed, parts_laid-length}
use Rattle.hl_nodes.proofs.UnitLaws.{limits}

-- a node whose slots go on holding its segments
slots_moved : (g : Layout) (s t : SlotTable) (image : Image) (ino address : ℕ) (node : Option FlatNode) → ((old : FlatNode) → node ≡ Some old → KeepsSlots s t old) → IsMapEntry g s image ino address node → IsMapEntry g t image ino address node
slots_moved g s t image ino address None keeps is = is
slots_moved g s t image ino address (Some node) keeps is = record {
  inode = is.inode;
  there = is.there;
  is = record {
    kind_is = is.is.kind_is;
    size_is = is.is.size_is;
    used_is = is.is.used_is;
    count = is.is.count;
    pointers = is.is.pointers;
    blocks = λ i lt. by_block i (file_block node.content i) refl (is.is.blocks i lt);
  };
}
  where
    by_block : (i : ℕ) (block : Block) → file_block node.content i ≡ block → StandsFor g s image is.inode.kind (pointer_of image is.inode i) (file_block node.content i) → StandsFor g t image is.inode.kind (pointer_of image is.inode i) (file_block node.content i)
    by_block i Hole e stands = subst (StandsFor g t image is.inode.kind (pointer_of image is.inode i)) (sym e) (subst (StandsFor g s image is.inode.kind (pointer_of image is.inode i)) e stands)
    by_block i (Here bytes) e stands = subst (StandsFor g t image is.inode.kind (pointer_of image is.inode i)) (sym e) (subst (StandsFor g s image is.inode.kind (pointer_of image is.inode i)) e stands)
    by_block i (Away serial position) e stands =
        let far = subst (StandsFor g s image is.inode.kind (pointer_of image is.inode i)) e stands in
        subst (StandsFor g t image is.inode.kind (pointer_of image is.inode i)) (sym e)
        (far.0, record { volume = far.1.volume; slot = far.1.slot; place = far.1.place; holds = keeps node refl (slot_number g.volumes far.1.volume far.1.slot) i serial position e far.1.holds; low = far.1.low; high = far.1.high })

module _ (g : Layout) (p : Position) (clean : List ℕ) (c : Contents) (first : MachineState) (rests : Rests g p clean c first) (u : Brought) (pieces : List Piece) (rest : List ℕ)
    (cut_is : AreCut g p.head clean (length u.records) (length u.changes) pieces rest) (nodes : Nodes) (changes : Changes g first.content c u (addresses g pieces) nodes) where
  abbrev plan : List ℕ
  plan = addresses g pieces

  abbrev now : TableValues
  now = unit_laid c.tables u plan

  many : length c.tables.inodes ≡ g.inodes
  many =
      let t = rests.has.tables in
      ap (λ (x : TableValues). length x.inodes) (sym t.laid_over) ∙ parts_laid-length t.before (start_of c.rec) c.parts ∙ t.spelled.values.shape.inodes ∙ length-replicate g.inodes 4294967295

  kept_entry : (ino : ℕ) → IsLeftAlone c u plan ino (get nodes ino) → entry now ino ≡ entry c.tables ino
  unfolding unit_laid
  kept_entry ino is = changes-other (blocks_placed c.tables u.records plan) u.changes ino is.not_freed ∙ placed-other c.tables u.records plan ino is.not_brought

  freed_entry : (ino : ℕ) → ino < g.inodes → Contains u.changes (freed ino) → entry now ino ≡ 4294967295
  unfolding unit_laid
  freed_entry ino high i = changes-freed (blocks_placed c.tables u.records plan) u.changes ino (omega (arith, placed-length c.tables u.records plan, many)) i

  written_entry : (ino index : ℕ) → ino < g.inodes → IsBroughtAs g first.content c u plan ino index (get nodes ino) → entry now ino ≡ slice_index plan index
  unfolding unit_laid
  written_entry ino index high is =
      let size : length plan ≡ length u.records = length-addresses g p.head clean (length u.records) (length u.changes) pieces rest cut_is in
      let own : BlockRecord = record_of ino Own in
      changes-other (blocks_placed c.tables u.records plan) u.changes ino (λ r i freeing e. changes.frees_others own r (index, is.there, is.own) i refl freeing (sym e))
      ∙ placed-own c.tables u.records plan index ino is.there size is.own
      (λ i d low lt other e.
      let at : get_or u.records index d ≡ own = get_or_default u.records index d own is.there ∙ is.own in
      changes.brings_once index i d low lt (ap (λ (r : BlockRecord). r.index) at) other (ap (λ (r : BlockRecord). r.ino) at ∙ sym e))
      (omega (arith, many))

  module _ (image : Image) (takes : TakesIn g first.content c u plan image) where
    agrees : (ino : ℕ) (block : NodeBlock) (address : ℕ) → IsNodeBlock g first.content c.tables ino block address → image address ≡ first.content address
    agrees ino block address is = takes.kept address (record { block = OfNode ino block; lies = is })

    entry_by : (ino : ℕ) → 1 ≤ ino → ino < g.inodes → (fate : Fate) → HasFate g first.content c u plan ino (get nodes ino) fate → IsMapEntry g now.slots image ino (entry now ino) (get nodes ino)
    entry_by ino low high Kept is =
        let old = entry_same g first.content image c.tables ino low high (agrees ino) (get c.nodes ino) (rests.has.nodes.entries ino low high) in
        let moved = slots_moved g c.tables.slots now.slots image ino (entry c.tables ino) (get c.nodes ino) is.slots old in
        subst (λ (a : ℕ). IsMapEntry g now.slots image ino a (get nodes ino)) (sym (kept_entry ino is)) (subst (IsMapEntry g now.slots image ino (entry c.tables ino)) (sym is.same) moved)
    entry_by ino low high Freed is = subst (IsMapEntry g now.slots image ino (entry now ino)) (sym is.0) (freed_entry ino high is.1)
    entry_by ino low high (Written index) is =
        let node : IsNodeAt g now.slots image ino (slice_index plan index) is.value = is.stands image takes in
        subst (IsMapEntry g now.slots image ino (entry now ino)) (sym is.is) (subst (λ (a : ℕ). IsNodeAt g now.slots image ino a is.value) (sym (written_entry ino index high is)) node)

    block_by : (ino : ℕ) (block : NodeBlock) (address : ℕ) → IsNodeBlock g image now ino block address → (fate : Fate) → HasFate g first.content c u plan ino (get nodes ino) fate
        → IsPlanned u plan (record_of ino block) address ⊎ IsNodeBlock g first.content c.tables ino block address
    block_by ino block address at Kept is =
        let e = kept_entry ino is in
        let old : IsNodeBlock g image c.tables ino block address = record {
          low = at.low;
          high = at.high;
          inode = at.inode;
          there = subst (λ (a : ℕ). IsInodeAt g image ino a at.inode) e at.there;
          lies = subst (λ (a : ℕ). LiesAt g image a at.inode block address) e at.lies;
        } in
        inr (block_back g first.content image c.tables (limits g p clean c first rests) c.nodes agrees rests.has.nodes ino block address old)
    block_by ino block address at Freed is = absurd (in_log-some g (limits g p clean c first rests) (entry now ino) at.there.in_log (freed_entry ino at.high is.1))
    block_by ino block address at (Written index) is =
        let e = written_entry ino index at.high is in
        is.blocks image takes at.inode (subst (λ (a : ℕ). IsInodeAt g image ino a at.inode) e at.there) block address (subst (λ (a : ℕ). LiesAt g image a at.inode block address) e at.lies)

  -- a unit that changes nodes one by one makes the nodes
  pub fates_make : Makes g first.content c u plan nodes
  fates_make = record {
    frees_others = changes.frees_others;
    frees_once = changes.frees_once;
    nodes_are = λ image takes. record {
      entries = λ ino low high. (let f = changes.fates ino low high in entry_by image takes ino low high f.0 f.1);
      zero = changes.zero;
      past = changes.past;
    };
    blocks_are = λ image takes ino block address at. (let f = changes.fates ino at.low at.high in block_by image takes ino block address at f.0 f.1);
  }
