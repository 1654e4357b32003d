-- The first checkpoint stands behind the root's inode.
use Rattle.std.specs.FinMap.{get}
use Rattle.std.proofs.Common.{◌≡◌, ◌≢◌, ◌⊎◌, inl, inr, ⊎_elim, ℕ, ◌+◌, ◌*◌, ◌/◌, ◌<◌, ◌≤◌, List, [], length, refl, sym, ◌∙◌, ap, subst, arith, lit<}
use Rattle.std.specs.Prelude.{Contains, Option, Some, None, slice_index}
use Rattle.std.proofs.lemmas.Bool.{cases_eq}
use Rattle.std.proofs.lemmas.List.{get_or_past}
use Rattle.std.proofs.lemmas.List.FromFn.{length-map-range_with_len}
use Rattle.hl_media.specs.History.{Image, PendingWrite, MachineState, History, IsUntouched, state_now}
use Rattle.hl_media.specs.Moments.{Ends, Now, Runs}
use Rattle.hl_addr.specs.Layout.{Layout, IsWithinLimits, table_blocks}
use Rattle.hl_addr.proofs.SegmentLemmas.{is_in}
use Rattle.hl_bytes.specs.Fields.{zeros}
use Rattle.hl_dir.specs.Dirs.{dir_bytes}
use Rattle.hl_super.specs.declared.record.Record.{Record}
use Rattle.hl_image.specs.Newest.{label_of, start_of}
use Rattle.hl_log.specs.declared.position.Position.{Position}
use Rattle.hl_log.specs.Free.{IsFree, Once}
use Rattle.hl_log.specs.Checkpoints.{Checkpoints, FreesLess, Given, HasCheckpointed, HasNew, IsReady, KeepsRest, given_by, restarted_at}
use Rattle.hl_log.proofs.Addresses.{addresses_free, addresses_once}
use Rattle.hl_log.proofs.CutPlaces.{once_at}
use Rattle.hl_log.specs.Cut.{HasClean}
use Rattle.hl_log.specs.Rest.{IsSynced}
use Rattle.hl_log.proofs.Sites.{large_segments}
use Rattle.hl_log.proofs.Wraps.{runs_map}
use Rattle.hl_tables.specs.TableBlocks.{table_block}
use Rattle.hl_tables.specs.Values.{TableValues}
use Rattle.hl_tseg.specs.SlotTable.{slot_at}
use Rattle.hl_tseg.specs.Slots.{HoldsSerial, serial_of}
use Rattle.hl_tseg.specs.declared.slot.Slot.TheVariants.{Free, Staged}
use Rattle.hl_placed.specs.Blocks.{Away, Hole, blocks_of, file_block}
use Rattle.hl_paths.specs.Nodes.{FlatNode, directory_content, fresh_nodes}
use Rattle.hl_paths.proofs.Links.{none_some}
use Rattle.hl_nodes.specs.Checkpoints.{Carries, contents_of_tables}
use Rattle.hl_nodes.specs.Contents.{HasContents}
use Rattle.hl_nodes.specs.Listing.{AreNodesListed, HasListed, HoldsListed}
use Rattle.hl_nodes.specs.Live.{NodeBlock, IsNodeBlock, LiveBlock, IsLiveAt, record_of}
use Rattle.hl_nodes.specs.Live.NodeBlock.{Own}
use Rattle.hl_nodes.specs.Live.LiveBlock.{Table, OfNode}
use Rattle.hl_nodes.specs.Sound.{AreSlots, AwayOnce, IsSound, IsUsed}
use Rattle.hl_nodes.proofs.CheckpointLaws.{item_in, new_has}
use Rattle.hl_nodes.proofs.ListingLaws.{first_holds}
use Rattle.hl_mkfs.specs.Parts.{before_first, first_contents, first_tables, root_address, root_bytes, root_end}
use Rattle.hl_mkfs.specs.Stages.{IsFounded, IsRooted, Leads, LeavesNoLabel, StandsBehind, rooted_position}
use Rattle.hl_mkfs.specs.Stops.{StopLeaves}
use Rattle.hl_mkfs.proofs.FirstTables.{entry_none, first_are_tables, first_used, no_staged, slot_free}
use Rattle.hl_mkfs.proofs.RootNodes.{IsRootBlock, get_none, get_root, only_root, root_node, root_nodes}
use Rattle.hl_mkfs.proofs.FirstCuts.{none_clean, root_end_place, tables_clean, tables_numbered}
use Rattle.hl_mkfs.proofs.Rooting.{low_not_free}
use Rattle.hl_mkfs.proofs.Zeros.{no_record}

-- the root has no block
root_hole : (i : ℕ) → file_block root_node.content i ≡ Hole
unfolding directory_content dir_bytes blocks_of
root_hole i = get_or_past [] i Hole (omega arith)

hole_away : (serial position : ℕ) → Hole ≡ Away serial position → ⊥
hole_away serial position e = cc

-- so no block is away
fresh_away_once : AwayOnce fresh_nodes
fresh_away_once m n i j serial position x y at at' here here' = absurd (hole_away serial position (sym (root_hole i) ∙ ap (λ (v : FlatNode). file_block v.content i) (root_is m x at) ∙ here))
  where
    root_is : (m : ℕ) (x : FlatNode) → get fresh_nodes m ≡ Some x → root_node ≡ x
    root_is m x at = by (decided m)
      where
        decided : (m : ℕ) → (m ≡ 1) ⊎ (m ≢ 1)
        decided m = cases_eq m 1

        by : (m ≡ 1) ⊎ (m ≢ 1) → root_node ≡ x
        by (inl one) = let e : Some root_node ≡ Some x = sym get_root ∙ ap (get fresh_nodes) (sym one) ∙ at in cc
        by (inr other) = absurd (none_some (sym (get_none m other) ∙ at))

free_staged : (line serial : ℕ) → Free ≡ Staged line serial → ⊥
free_staged line serial e = cc

-- the slots of the first tables
module _ (g : Layout) where
  pub not_staged : (n line serial : ℕ) → slot_at (first_tables g).slots n ≡ Staged line serial → ⊥
  not_staged n line serial e = free_staged line serial (sym (slot_free g n) ∙ e)

  no_serial : (n serial : ℕ) → HoldsSerial (slot_at (first_tables g).slots n) serial → ⊥
  no_serial n serial e = none_some (ap serial_of (sym (slot_free g n)) ∙ e)

  first_slots : (next : ℕ) → 13 ≤ g.lines → AreSlots g (first_tables g).slots next
  first_slots next lines = record {
    lines = λ n line serial e. absurd (not_staged n line serial e);
    one_line = λ m n line a b e f. absurd (not_staged m line a e);
    few = (let none = no_staged g in omega arith);
    below = λ n serial e. absurd (no_serial n serial e);
    one_slot = λ m n serial e f. absurd (no_serial m serial e);
  }

module _ (g : Layout) (is : IsWithinLimits g) (first : MachineState) (rooted : IsRooted g first) where
  abbrev tables : TableValues
  tables = first_tables g

  many : 64 ≤ g.k
  many = large_segments g is

  untouched : (k : ℕ) → IsUntouched first.pending k
  untouched k = subst (λ (ws : List PendingWrite). IsUntouched ws k) (sym rooted.bare.synced) tt

  root_not_free : (address : ℕ) → address ≤ root_address g → IsFree g root_end [] address → ⊥
  root_not_free address le free = low_not_free g root_end address (omega arith) free

  pub carries : Carries g rooted_position [] rooted.parts tables fresh_nodes first
  carries = record {
    limits = is;
    at_rest = rooted.at_rest;
    tables = first_are_tables g is;
    nodes_are = root_nodes g is first.content rooted.root;
    apart = λ ino block address at free. (let own = (only_root g is first.content rooted.root ino block address at).address_is in root_not_free address (omega arith) free);
  }

  abbrev given : Given
  given = given_by 0 (before_first g)

  abbrev blocks_in : List (List ℕ)
  blocks_in = contents_of_tables g tables

  count : length blocks_in ≡ table_blocks g
  count = length-map-range_with_len (table_block tables) 0 (table_blocks g)

  -- BEFORE THE FIRST CHECKPOINT there is no record
  ready : IsReady g rooted_position [] given (length blocks_in) rooted.parts None first
  ready = record {
    at_rest = rooted.at_rest;
    closed = rooted.closed;
    newest = (no_record 1 (label_of g) (first.content 1) rooted.bare.cleared.odd, no_record 2 (label_of g) (first.content 2) rooted.bare.cleared.even);
    number_is = refl;
    numbered = tables_numbered g is (length blocks_in) count;
    next_number = lit< tt;
  }

  -- at each moment there is no label
  pub tables_no_label : (blocks : ℕ) (s : MachineState) → Checkpoints g rooted_position [] given blocks_in first s → StopLeaves blocks g (λ image. image 0 ≡ zeros 4096) s
  tables_no_label blocks s writes image may chance label =
      (writes rooted.parts None ready image may chance).1 0 (root_not_free 0 (omega arith)) (λ e. omega arith) (λ e. omega arith) (untouched 0) ∙ rooted.bare.cleared.label

  nodes_listed : AreNodesListed g first.content tables root_end
  nodes_listed = record {
    ahead = rooted.ahead;
    blocks = λ ino block address at.
        let own = only_root g is first.content rooted.root ino block address at in
        subst (λ (n : ℕ). HasListed g first.content root_end (record_of n block) address) (sym own.ino_is)
        (subst (λ (b : NodeBlock). HasListed g first.content root_end (record_of 1 b) address) (sym own.block_is)
        (subst (HasListed g first.content root_end (record_of 1 Own)) (sym own.address_is) rooted.listed));
  }

  module _ (image : Image) (keeps : KeepsRest g rooted_position [] first image) (new : Record) (has : HasNew g rooted_position [] given blocks_in new image) where
    root_kept : image (root_address g) ≡ root_bytes
    root_kept = keeps (root_address g) (root_not_free (root_address g) (omega arith)) (λ e. omega arith) (λ e. omega arith) (untouched (root_address g)) ∙ rooted.root

    has_all : HasContents g image (first_contents g new)
    has_all = new_has g rooted_position [] rooted.parts tables fresh_nodes first carries given refl image keeps new has

    listed : HoldsListed g image (first_contents g new)
    listed = first_holds g rooted_position [] rooted.parts tables fresh_nodes first carries given refl image keeps nodes_listed new has

    abbrev rest : List ℕ
    rest = has.tables_stand.1

    frees : FreesLess g rooted_position [] (restarted_at new) rest new
    frees = has.tables_stand.2.frees

    once : Once new.tables
    once =
        let stands = has.tables_stand.2 in
        subst Once (sym stands.named) (addresses_once g root_end [] (length blocks_in) 0 has.tables_stand.0 has.tables_stand.1 (root_end_place g is) (none_clean g 1) stands.are_cut)

    table_free : (i : ℕ) → i < length new.tables → IsFree g root_end [] (slice_index new.tables i)
    table_free i lt =
        let stands = has.tables_stand.2 in
        addresses_free g root_end [] (length blocks_in) 0 has.tables_stand.0 has.tables_stand.1 (root_end_place g is) (none_clean g 1) stands.are_cut (slice_index new.tables i)
        (subst (λ (l : List ℕ). Contains l (slice_index new.tables i)) stands.named (item_in new.tables i lt))

    own : (ino : ℕ) (block : NodeBlock) (address : ℕ) → IsNodeBlock g image tables ino block address → IsRootBlock g is image root_kept ino block address
    own ino block address at = only_root g is image root_kept ino block address at

    node_apart : (ino : ℕ) (block : NodeBlock) (address : ℕ) → IsNodeBlock g image tables ino block address → IsFree g root_end [] address → ⊥
    node_apart ino block address at free = (let e = (own ino block address at).address_is in root_not_free address (omega arith) free)

    apart_too : (i ino : ℕ) (block : NodeBlock) (address : ℕ) → IsLiveAt g image new tables (Table i) address → IsNodeBlock g image tables ino block address → ⊥
    apart_too i ino block address table node = node_apart ino block address node (subst (IsFree g root_end []) table.1 (table_free i table.0))

    one_block : (x y : LiveBlock) (address : ℕ) → IsLiveAt g image new tables x address → IsLiveAt g image new tables y address → x ≡ y
    one_block (Table i) (Table j) address a b = ap Table (once_at new.tables once i j a.0 b.0 (a.1 ∙ sym b.1))
    one_block (Table i) (OfNode ino block) address a b = absurd (apart_too i ino block address a b)
    one_block (OfNode ino block) (Table j) address a b = absurd (apart_too j ino block address b a)
    one_block (OfNode m x) (OfNode n y) address a b =
        let p = own m x address a in
        let q = own n y address b in
        ap (λ (k : ℕ). OfNode k x) (p.ino_is ∙ sym q.ino_is) ∙ ap (OfNode n) (p.block_is ∙ sym q.block_is)

    used : (block : LiveBlock) (address : ℕ) → IsLiveAt g image new tables block address → IsUsed g new [] tables (address / g.k)
    used (Table i) address at = inr (inl (i, at.0, ap (λ (a : ℕ). a / g.k) at.1))
    used (OfNode ino block) address at =
        let here : 1 * g.k + 1 ≡ root_address g = omega arith in
        let seg : address / g.k ≡ 1 = ap (λ (a : ℕ). a / g.k) ((own ino block address at).address_is ∙ sym here) ∙ (is_in g 1 1 (omega arith)).segment_is in
        let log = is.log_count.0 in
        subst (IsUsed g new [] tables) (sym seg) (inl (omega arith, first_used g (omega arith)))

    none_ahead : (block : LiveBlock) (address : ℕ) → IsLiveAt g image new tables block address → IsFree g (start_of new) rest address → ⊥
    none_ahead (Table i) address at free = frees.no_table address (subst (Contains new.tables) at.1 (item_in new.tables i at.0)) free
    none_ahead (OfNode ino block) address at free = node_apart ino block address at (frees.was_free address free)

    sound : IsSound g image (first_contents g new)
    sound = record {
      tables_once = λ i j low high e. once_at new.tables once i j low high e;
      no_zero = entry_none g 0 (let two = is.inode_count.0 in omega arith) (λ e. omega arith);
      root = root_node;
      root_is = get_root;
      root_dir = refl;
      one_block = one_block;
      away_once = fresh_away_once;
      used = λ address live. used live.block address live.lies;
      behind = λ address taken ahead. ⊎_elim {C = ⊥} (λ live. none_ahead live.block address live.lies (inl ahead)) (λ none. none) taken;
      slots = first_slots g new.tseg_serial is.line_count.0;
    }

    stands : StandsBehind g new image
    stands = record { number_is = has.next.number_is; serial_is = has.next.tseg_serial; root = root_kept; has = has_all; sound = sound; listed = listed.listed }

  -- AND AFTERWARDS the site stands without its label
  module _ (s : MachineState) (synced : s.pending ≡ []) (q : Position) (left : List ℕ) (new : Record) (done : HasCheckpointed g rooted_position [] given blocks_in q left new first s) where
    pub is_founded : IsFounded g s
    is_founded =
        let x = done rooted.parts None ready in
        record {
          synced = synced;
          label = x.2 0 (root_not_free 0 (omega arith)) (λ e. omega arith) (λ e. omega arith) (untouched 0) ∙ rooted.bare.cleared.label;
          new = new;
          stands = stands s.content x.2 new x.0;
        }

-- the clauses of the call that writes it
module _ (g : Layout) (is : IsWithinLimits g) (before now : Option History) (at : Position) (rec next : Record) (blocks_of : List (List ℕ))
    (at_is : at ≡ rooted_position) (rec_is : rec ≡ before_first g) (next_is : next ≡ before_first g) (blocks_are : blocks_of ≡ contents_of_tables g (first_tables g)) where
  given_is : given_by rec.number next ≡ given_by 0 (before_first g)
  given_is = ap (λ (r : Record). given_by r.number next) rec_is ∙ ap (given_by 0) next_is

  pub tables_size : length blocks_of ≡ table_blocks g
  tables_size = ap (λ (l : List (List ℕ)). length l) blocks_are ∙ length-map-range_with_len (table_block (first_tables g)) 0 (table_blocks g)

  pub tables_enough : HasClean g at.head [] (length blocks_of) 0
  tables_enough = subst (λ (p : Position). HasClean g p.head [] (length blocks_of) 0) (sym at_is) (subst (λ (n : ℕ). HasClean g root_end [] n 0) (sym tables_size) (tables_clean g is))

  pub tables_runs : (blocks : ℕ) → Runs before now (Checkpoints g at [] (given_by rec.number next) blocks_of) → Runs before now (LeavesNoLabel (IsRooted g) blocks g)
  tables_runs blocks run = runs_map before now (Checkpoints g at [] (given_by rec.number next) blocks_of) (LeavesNoLabel (IsRooted g) blocks g) run
      (λ first s writes rooted. tables_no_label g is first rooted blocks s
      (subst (λ (l : List (List ℕ)). Checkpoints g rooted_position [] (given_by 0 (before_first g)) l first s) blocks_are
      (subst (λ (d : Given). Checkpoints g rooted_position [] d blocks_of first s) given_is
      (subst (λ (p : Position). Checkpoints g p [] (given_by rec.number next) blocks_of first s) at_is writes))))

  pub tables_end : (q : Position) (left : List ℕ) (new : Record) → Ends before now (HasCheckpointed g at [] (given_by rec.number next) blocks_of q left new) → Now now IsSynced → Ends before now (Leads (IsRooted g) (IsFounded g))
  tables_end q left new done synced h e h' e' rooted =
      let a = state_now h in
      let s = state_now h' in
      is_founded g is a rooted s (synced h' e') q left new
      (subst (λ (l : List (List ℕ)). HasCheckpointed g rooted_position [] (given_by 0 (before_first g)) l q left new a s) blocks_are
      (subst (λ (d : Given). HasCheckpointed g rooted_position [] d blocks_of q left new a s) given_is
      (subst (λ (p : Position). HasCheckpointed g p [] (given_by rec.number next) blocks_of q left new a s) at_is (done h e h' e'))))
