-- What a checkpoint leaves of the contents of an image.
use Rattle.std.specs.FinMap.{get}
use Rattle.std.proofs.Common.{◌≡◌, inl, inr, ℕ, ◌+◌, ◌<◌, ◌≤◌, ◌^◌, List, [], length, refl, sym, ◌∙◌, ap, subst, arith, get_or}
use Rattle.std.specs.Prelude.{slice_index, Option, Some, Contains, All}
use Rattle.std.proofs.lemmas.List.{get_or-map, get_or_default}
use Rattle.std.proofs.lemmas.List.FromFn.{length-map-range_with_len, get_or-map-range_with_len}
use Rattle.hl_media.specs.History.{Image, MachineState}
use Rattle.hl_addr.specs.Layout.{Layout, table_blocks}
use Rattle.hl_super.specs.declared.record.Record.{Record}
use Rattle.hl_summary.specs.declared.parts.Summary.{Summary}
use Rattle.hl_image.specs.declared.place.LogPlace.{LogPlace}
use Rattle.hl_image.specs.Chain.{cut, IsCutChain}
use Rattle.hl_image.specs.Newest.{IsNewest, start_of}
use Rattle.hl_image.proofs.ChainLemmas.{cut_cut}
use Rattle.hl_log.specs.declared.position.Position.{Position}
use Rattle.hl_log.specs.Free.{IsFree}
use Rattle.hl_log.specs.Rest.{StopLeaves}
use Rattle.hl_log.specs.Units.{Numbered}
use Rattle.hl_log.specs.Checkpoints.{Given, IsNextRecord, HasNew, HasCheckpoint, KeepsRest, IsReady, Checkpoints, HasCheckpointed}
use Rattle.hl_log.proofs.Sites.{large_segments}
use Rattle.hl_log.proofs.Steps as steps
use Rattle.hl_log.proofs.TwoPhases.{length-addresses}
use Rattle.hl_tables.specs.Values.{TableValues, AreTables}
use Rattle.hl_tables.specs.TableBlocks.{table_block}
use Rattle.hl_tseg.specs.SlotTable.{SlotTable}
use Rattle.hl_tseg.specs.Slots.{HasRoom}
use Rattle.hl_paths.specs.Nodes.{Nodes}
use Rattle.hl_nodes.specs.Tables.{SpellTables}
use Rattle.hl_image.specs.Places.{InLog}
use Rattle.hl_nodes.specs.Nodes.{IsInodeAt, IsMapEntry, HasNodes}
use Rattle.hl_nodes.specs.Live.{NodeBlock, LiesAt, IsNodeBlock, LiveBlock, IsLiveAt, IsLive}
use Rattle.hl_nodes.specs.Live.LiveBlock.{Table, OfNode}
use Rattle.hl_nodes.specs.Contents.{Contents, HasContents, IsApart, next_tertiary, Rests}
use Rattle.hl_nodes.specs.Checkpoints.{contents_of_tables, IsCheckpointOf, Carries, checkpointed, after_checkpoint}
use Rattle.hl_nodes.specs.Moments.{HasSameNodes}
use Rattle.hl_nodes.proofs.PointerLemmas.{in_log-high, in_log-low}
use Rattle.hl_nodes.proofs.Frame.{contents_same, nodes_same, block_back}
use Rattle.hl_log.proofs.Cuts.{cut_in_log}
use Rattle.hl_nodes.proofs.LaidTables.{laid_are_tables}
use Rattle.hl_nodes.proofs.UnitLaws.{limits, node_in_log, live_in_log}

-- an item of a list is in it
pub item_in : (xs : List ℕ) (i : ℕ) → i < length xs → Contains xs (slice_index xs i)
item_in xs i lt = (i, lt, get_or_default xs i (slice_index xs i) 0 lt)

-- tables that say the same of inodes and slots name the same nodes
moved_nodes : (g : Layout) (image : Image) (s t : TableValues) (nodes : Nodes) → t.inodes ≡ s.inodes → t.slots ≡ s.slots → HasNodes g image s nodes → HasNodes g image t nodes
moved_nodes g image s t nodes inodes slots has = record {
  entries = λ ino low high. subst (λ (x : SlotTable). IsMapEntry g x image ino (slice_index t.inodes ino) (get nodes ino)) (sym slots)
      (subst (λ (l : List ℕ). IsMapEntry g s.slots image ino (slice_index l ino) (get nodes ino)) (sym inodes) (has.entries ino low high));
  zero = has.zero;
  past = has.past;
}

-- and their blocks
pub moved_block : (g : Layout) (image : Image) (s t : TableValues) (ino : ℕ) (block : NodeBlock) (address : ℕ) → t.inodes ≡ s.inodes → IsNodeBlock g image t ino block address → IsNodeBlock g image s ino block address
moved_block g image s t ino block address inodes is = record {
  low = is.low;
  high = is.high;
  inode = is.inode;
  there = subst (λ (l : List ℕ). IsInodeAt g image ino (slice_index l ino) is.inode) inodes is.there;
  lies = subst (λ (l : List ℕ). LiesAt g image (slice_index l ino) is.inode block address) inodes is.lies;
}

-- A checkpoint over tables that name nodes.
module _ (g : Layout) (p : Position) (clean : List ℕ) (parts : List Summary) (t : TableValues) (nodes : Nodes) (first : MachineState) (carries : Carries g p clean parts t nodes first) (d : Given) (volumes : d.volumes ≡ g.volumes) where
  abbrev tables : List (List ℕ)
  tables = contents_of_tables g t

  count : length tables ≡ table_blocks g
  count = length-map-range_with_len (table_block t) 0 (table_blocks g)

  large_too : 64 ≤ g.k
  large_too = large_segments g carries.limits

  -- a checkpoint keeps blocks of the log that aren't free
  pub block_kept : (image : Image) → KeepsRest g p clean first image → (address : ℕ) → InLog g address → (IsFree g p.head clean address → ⊥) → image address ≡ first.content address
  block_kept image keeps address in_log apart =
      let low : g.k ≤ address = in_log-low g carries.limits address in_log in
      let k = large_too in
      keeps address apart (λ e. omega arith) (λ e. omega arith) (steps.untouched g p clean parts first carries.at_rest address (in_log-high g carries.limits address in_log))

  module _ (image : Image) (keeps : KeepsRest g p clean first image) where
    pub nodes_agree : (ino : ℕ) (block : NodeBlock) (address : ℕ) → IsNodeBlock g first.content t ino block address → image address ≡ first.content address
    nodes_agree ino block address at = block_kept image keeps address (node_in_log g first.content t ino block address at) (carries.apart ino block address at)

    module _ (new : Record) (has : HasNew g p clean d tables new image) where
      spelled : SpellTables g image new.tables t
      spelled =
          let stands = has.tables_stand.2 in
          let size : length new.tables ≡ table_blocks g = ap length stands.named ∙ length-addresses g p.head clean (length tables) 0 has.tables_stand.0 has.tables_stand.1 stands.are_cut ∙ count in
          record {
            values = carries.tables;
            in_log = λ i lt. cut_in_log g p.head clean (length tables) 0 has.tables_stand.0 has.tables_stand.1 carries.at_rest.head carries.at_rest.cleans stands.are_cut (slice_index new.tables i)
                (subst (λ (l : List ℕ). Contains l (slice_index new.tables i)) stands.named (item_in new.tables i lt));
            blocks = λ i lt.
                sym (get_or-map image new.tables i 0 [] (omega (arith, size)))
                ∙ ap (λ (l : List (List ℕ)). get_or l i []) stands.blocks
                ∙ get_or-map-range_with_len (table_block t) 0 (table_blocks g) i i [] lt (omega arith);
          }

      -- an image with the new record has the nodes
      pub new_has : HasContents g image (checkpointed new t nodes)
      new_has = record {
        newest = has.newest;
        volumes = has.next.volumes ∙ volumes;
        chain = has.chain;
        tables = record { before = t; spelled = spelled; laid_over = refl };
        nodes = nodes_same g first.content image t nodes nodes_agree carries.nodes_are;
      }

      -- its live blocks are those of the new tables, and those of the nodes
      pub new_apart : (head : LogPlace) (rest : List ℕ) → ((k : ℕ) → IsFree g head rest k → IsFree g p.head clean k) → ((k : ℕ) → Contains new.tables k → IsFree g head rest k → ⊥) → IsApart g head rest image (checkpointed new t nodes)
      new_apart head rest was_free no_table address live free = by_block live.block live.lies
        where
          by_block : (block : LiveBlock) → IsLiveAt g image new t block address → ⊥
          by_block (Table i) at = no_table address (subst (Contains new.tables) at.1 (item_in new.tables i at.0)) free
          by_block (OfNode ino block) at = carries.apart ino block address (block_back g first.content image t carries.limits nodes nodes_agree carries.nodes_are ino block address at) (was_free address free)

  -- THE FIRST CHECKPOINT, AFTERWARDS: the log is at rest over the nodes
  pub first_ends : (old : Option Record) (q : Position) (rest : List ℕ) (new : Record) (s : MachineState) → IsReady g p clean d (length tables) parts old first → q.start ≡ start_of new → q.first ≡ new.serial
      → HasCheckpointed g p clean d tables q rest new first s → Rests g q rest (checkpointed new t nodes) s
  first_ends old q rest new s ready start_is first_is done =
      let x = done parts old ready in
      let frees = x.3.1.frees in
      let head : q.head ≡ start_of new = sym x.1.head_is ∙ start_is in
      record {
        at_rest = x.1;
        start_is = start_is;
        first_is = first_is;
        has = new_has s.content x.2 new x.0;
        apart = new_apart s.content x.2 new x.0 q.head rest (λ k free. frees.was_free k (subst (λ (y : LogPlace). IsFree g y rest k) head free))
            (λ k i free. frees.no_table k i (subst (λ (y : LogPlace). IsFree g y rest k) head free));
      }

-- A checkpoint of contents.
module _ (g : Layout) (p : Position) (clean : List ℕ) (c : Contents) (first : MachineState) (rests : Rests g p clean c first) (d : Given) (t : TableValues) (is : IsCheckpointOf c d t) where
  values : AreTables g t
  values =
      let old = laid_are_tables g first.content c rests.has in
      record {
        shape = record {
          segment_size = is.blocks ∙ old.shape.segment_size;
          inodes = ap length is.inodes ∙ old.shape.inodes;
          used = is.used ∙ old.shape.used;
          volumes = ap (λ (x : SlotTable). x.volumes) is.slots ∙ old.shape.volumes;
          slots = ap (λ (x : SlotTable). length x.slots) is.slots ∙ old.shape.slots;
          full = ap (λ (x : SlotTable). length x.full) is.slots ∙ old.shape.full;
        };
        addresses = subst (λ (xs : List ℕ). All (λ (a : ℕ). a < 2 ^ 32) xs) (sym is.inodes) old.addresses;
        room = subst (λ (x : SlotTable). All HasRoom x.slots) (sym is.slots) old.room;
      }

  pub carried : Carries g p clean c.parts t c.nodes first
  carried = record {
    limits = limits g p clean c first rests;
    at_rest = rests.at_rest;
    tables = values;
    nodes_are = moved_nodes g first.content c.tables t c.nodes is.inodes is.slots rests.has.nodes;
    apart = λ ino block address at. rests.apart address (record { block = OfNode ino block; lies = moved_block g first.content c.tables t ino block address is.inodes at });
  }

  pub volumes_are : d.volumes ≡ g.volumes
  volumes_are = is.volumes ∙ rests.has.volumes

  -- a checkpoint keeps the live blocks
  pub old_live_kept : (image : Image) → KeepsRest g p clean first image → (address : ℕ) → IsLive g first.content c.rec c.tables address → image address ≡ first.content address
  old_live_kept image keeps address live = block_kept g p clean c.parts t c.nodes first carried d volumes_are image keeps address (live_in_log g first.content c rests.has address live) (rests.apart address live)

  -- an image with the old record and its chain has the contents as they were
  pub old_holds : (image : Image) → KeepsRest g p clean first image → IsNewest g image (Some c.rec) × IsCutChain g image p.start p.first c.parts → HasContents g image c
  old_holds image keeps old = contents_same g first.content image c (old_live_kept image keeps) old.0
      (subst (λ (n : ℕ). IsCutChain g image (start_of c.rec) n c.parts) rests.first_is (subst (λ (x : LogPlace). IsCutChain g image x p.first c.parts) rests.start_is old.1))
      rests.has

  -- an image with the old record and its chain, or with the new record, has the nodes
  pub checkpoint_holds : (image : Image) → KeepsRest g p clean first image → HasCheckpoint g p clean (Some c.rec) d (contents_of_tables g t) c.parts image → HasSameNodes g d t c image
  checkpoint_holds image keeps (inl old) = inl (old_holds image keeps old)
  checkpoint_holds image keeps (inr (new, has)) = inr (new, has.next, new_has g p clean c.parts t c.nodes first carried d volumes_are image keeps new has)

  -- behind a checkpoint the next tertiary segment gets the serial that it would have got
  pub serial_kept : (new : Record) → IsNextRecord d new → next_tertiary (after_checkpoint c new t) ≡ next_tertiary c
  serial_kept new next = next.tseg_serial ∙ is.serial

  module _ (numbered : Numbered g p clean (length (contents_of_tables g t)) 0) (next_number : d.number + 1 < 2 ^ 64) where
    pub ready : IsReady g p clean d (length (contents_of_tables g t)) c.parts (Some c.rec) first
    ready = record {
      at_rest = rests.at_rest;
      closed = ap cut (sym rests.has.chain.is) ∙ cut_cut rests.has.chain.all ∙ rests.has.chain.is;
      newest = rests.has.newest;
      number_is = sym is.number;
      numbered = numbered;
      next_number = next_number;
    }

    -- THE CHECKPOINT, AT EACH MOMENT: whatever a stop leaves has the nodes
    pub checkpoint_leaves : (s : MachineState) → Checkpoints g p clean d (contents_of_tables g t) first s → StopLeaves g p (HasSameNodes g d t c) s
    checkpoint_leaves s writes image may chance = (let l = writes c.parts (Some c.rec) ready image may chance in checkpoint_holds image l.1 l.0)

    -- THE CHECKPOINT, AFTERWARDS: the log is at rest over the same nodes
    pub checkpoint_ends : (q : Position) (rest : List ℕ) (new : Record) (s : MachineState) → q.start ≡ start_of new → q.first ≡ new.serial
        → HasCheckpointed g p clean d (contents_of_tables g t) q rest new first s → Rests g q rest (after_checkpoint c new t) s
    checkpoint_ends q rest new s start_is first_is done = first_ends g p clean c.parts t c.nodes first carried d volumes_are (Some c.rec) q rest new s ready start_is first_is done
