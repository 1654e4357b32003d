-- What reads find of a file.
use Rattle.std.proofs.Common.{arith, ◌≡◌, ℕ, ◌+◌, ◌-◌, ◌/◌, ◌<◌, true, false, not, List, ◌++◌, length, get_or, option_map, Option, Some, Result, Ok, Err, refl, ◌∙◌, ap, sym, subst}
use Rattle.std.specs.Result.{OnOk}
use Rattle.std.specs.FinMap.{get}
use Rattle.std.proofs.lemmas.List.{get_or-replicate}
use Rattle.hl_media.specs.History.{History, MachineState, state_now, with_calls}
use Rattle.hl_media.specs.Moments.{Now, Runs}
use Rattle.hl_media.proofs.Runs.{ends_of_run, goes_on}
use Rattle.hl_log.specs.Rest.{IsUnchanged}
use Rattle.hl_bytes.specs.Fields.{zeros}
use Rattle.hl_inode.specs.declared.inode.Kind.TheVariants as kinds
use Rattle.hl_placed.specs.Blocks.{Away, Block, Here, Hole, IsPlacedFile, PlacedFile, Shelf, byte_of, file_block, is_hole, padded_block, plain_bytes}
use Rattle.hl_placed.specs.Changes.{covers}
use Rattle.hl_tree.specs.Contents.{written}
use Rattle.hl_paths.specs.Nodes.{FlatNode}
use Rattle.hl_nodes.specs.Contents.{Contents}
use Rattle.hl_overlay.specs.declared.draft.NodeDraft.{NodeDraft}
use Rattle.hl_overlay.specs.DraftTables.{draft_of}
use Rattle.hl_overlaid.specs.NodesNow.{old_block}
use Rattle.hl_overlaid.proofs.NowLemmas.{one}
use Rattle.hl_log.specs.Logs.{OnlyReads, with_machine}
use Rattle.hl_store.specs.declared.answers.Node.{Node}
use Rattle.hl_store.specs.Values.{StoreValue, dirty_of, layout, nodes_of}
use Rattle.hl_store.specs.Lying.{LiesOver, block_of_number}
use Rattle.hl_store.specs.Finding.{BlockNow, HasBytes, HasNodeFound, KeepsNodes, OverNow, ReadsNodes, on_machine}
use Rattle.hl_overlay.specs.declared.draft.Shape.{Shape}
use Rattle.hl_overlaid.proofs.PutLemmas.{mapped}
use Rattle.hl_store.specs.Shapes.{IsNumber}
use Rattle.hl_store.specs.Changes.{IsDraftedAs, drafted_shape}
use Rattle.hl_ranges.specs.Files.{HasFile, LinesShow, OfFile}
use Rattle.hl_ranges.specs.Writing.{FindsSize, IsOldBlock, ReadsEdge, ReadsEdges, ReadsSide}
use Rattle.hl_ranges.proofs.WrittenBlocks.{block_is}
use Rattle.hl_ranges.proofs.NewBlocks.{new_is}

-- what an Ok says, said otherwise
pub on_ok : {A E : Type 0} (P Q : Type 0) (r : Result A E) → (P → Q) → OnOk r P → OnOk r Q
on_ok P Q (Ok x) so is = so is
on_ok P Q (Err e) so is = is

-- what holds behind reads held before them
pub now_before : (before now : Option History) (P : MachineState → Type 0) → Runs before now IsUnchanged → Now now P → Now before P
now_before before now P run holds h e =
    let h' : History = record { opening = h.opening; calls = h.calls ++ run.calls } in
    let told : now ≡ Some h' = run.is ∙ ap (with_calls run.calls) e in
    subst P (ends_of_run before now IsUnchanged run h e h' told) (holds h' told)

-- a run of reads, and then another
pub unchanged_then : (before middle now : Option History) → Runs before middle IsUnchanged → Runs middle now IsUnchanged → Runs before now IsUnchanged
unchanged_then before middle now run more = goes_on before middle now IsUnchanged IsUnchanged IsUnchanged run (ends_of_run before middle IsUnchanged run) more (λ first mid s same later. later ∙ same)

module _ {M : Type 0} {history : M → Option History} {blocks faults write_faults say_faults : M → ℕ} where
  -- reads, and then reads
  pub reads_then : (before middle now : M) → OnlyReads history blocks faults write_faults say_faults before middle → OnlyReads history blocks faults write_faults say_faults middle now
      → OnlyReads history blocks faults write_faults say_faults before now
  reads_then before middle now run more = record {
    unchanged = unchanged_then (history before) (history middle) (history now) run.unchanged more.unchanged;
    blocks_same = more.blocks_same ∙ run.blocks_same;
    faults_most = omega (arith, run.faults_most, more.faults_most);
    write_faults_same = more.write_faults_same ∙ run.write_faults_same;
    say_faults_same = more.say_faults_same ∙ run.say_faults_same;
  }

module _ {M : Type 0} where
  module _ (history : M → Option History) (old new : StoreValue M) (reads : ReadsNodes history old new) where
    -- the site stays
    pub layout_stays : layout new ≡ layout old
    layout_stays = ap (λ (v : StoreValue M). layout v) reads.same

    -- a number of the site stays one
    pub number_stays : (ino : ℕ) → IsNumber old ino → IsNumber new ino
    number_stays ino is = record { low = is.low; high = subst (λ g. ino < g.inodes) (sym layout_stays) is.high }

    -- READS BEHIND READS are reads
    pub reads_both : (next : StoreValue M) → Runs (history old.log.machine) (history new.log.machine) IsUnchanged → ReadsNodes history new next → ReadsNodes history old next
    reads_both next run more = record {
      same = more.same ∙ ap (λ (v : StoreValue M). record v { log = with_machine v.log next.log.machine; overlay = next.overlay }) reads.same;
      keeps = λ h told c lies. record {
        over = (more_at h told c (reads.keeps h told c lies).over).over;
        nodes = (more_at h told c (reads.keeps h told c lies).over).nodes ∙ (reads.keeps h told c lies).nodes;
      };
      drafted = λ q d lt at. more.drafted q d (subst (λ g. q < g.inodes) (sym layout_stays) lt) (reads.drafted q d lt at);
      dirty = more.dirty ∙ reads.dirty;
      blocks = more.blocks ∙ reads.blocks;
    }
      where
        more_at : (h : History) → history old.log.machine ≡ Some h → (c : Contents) → LiesOver new c (state_now h) → KeepsNodes new next (state_now h) c
        more_at = now_before (history old.log.machine) (history new.log.machine) (λ s. (c : Contents) → LiesOver new c s → KeepsNodes new next s c) run more.keeps

    -- the lines show what they showed
    shows_still : (s : MachineState) (shelf : Shelf) → LinesShow old s shelf → LinesShow new s shelf
    shows_still s shelf shows = subst (λ (v : StoreValue M). LinesShow v s shelf) (sym reads.same) shows'
      where
        shows' : LinesShow (record old { log = with_machine old.log new.log.machine; overlay = new.overlay }) s shelf
        shows' serial position bytes held = shows serial position bytes (record { tseg = held.tseg; holds = held.holds; line = held.line; held = held.held; within = held.within; bytes_are = held.bytes_are })

    -- what holds of a file behind reads held before them
    pub of_file_before : (ino : ℕ) (P : Contents → Shelf → PlacedFile → Type 0) → Runs (history old.log.machine) (history new.log.machine) IsUnchanged → OfFile history new ino P → OfFile history old ino P
    of_file_before ino P run of h told c lies shelf file shows has =
        let k = reads.keeps h told c lies in
        now_before (history old.log.machine) (history new.log.machine) (λ s. (c : Contents) → LiesOver new c s → (shelf : Shelf) (file : PlacedFile) → LinesShow new s shelf → HasFile new c shelf ino file → P c shelf file) run of
        h told c k.over shelf file (shows_still (state_now h) shelf shows) (record { has = ap (λ ns. get ns ino) k.nodes ∙ has.has; placed = has.placed })

    -- a number that is drafted as a file stays so
    pub drafted_still : (ino : ℕ) (x : Option Shape) → ino < (layout old).inodes → drafted_shape old ino ≡ Some x → drafted_shape new ino ≡ Some x
    drafted_still ino x lt is =
        let d = mapped (λ (y : NodeDraft). y.shape) (draft_of old.overlay.drafts ino) x is in
        ap (option_map (λ (y : NodeDraft). y.shape)) (reads.drafted ino d.0 lt d.1) ∙ ap Some d.2

  -- where nothing but the machine changed, no more than reads was made
  pub machine_reads : (history : M → Option History) (old new : StoreValue M) → new ≡ on_machine old new.log.machine → ReadsNodes history old new
  machine_reads history old new is = record {
    same = is ∙ ap (λ o. record old { log = with_machine old.log new.log.machine; overlay = o }) (sym (ap (λ (v : StoreValue M). v.overlay) is));
    keeps = λ h told c lies. record {
      over = subst (λ (v : StoreValue M). LiesOver v c (state_now h)) (sym is) (record {
        rests = lies.rests;
        sound = lies.sound;
        listed = lies.listed;
        rec = lies.rec;
        inodes = lies.inodes;
        slots = lies.slots;
        serial = lies.serial;
        possible = lies.possible;
        over = lies.over;
        tally = lies.tally;
      });
      nodes = ap (λ (v : StoreValue M). nodes_of v c) is;
    };
    drafted = λ q d lt at. ap (λ (v : StoreValue M). draft_of v.overlay.drafts q) is ∙ at;
    dirty = ap (λ (v : StoreValue M). dirty_of v) is;
    blocks = ap (λ (v : StoreValue M). v.overlay.blocks) is;
  }

  -- A SIZE IS FOUND
  pub size_found : (history : M → Option History) (old new : StoreValue M) (ino : ℕ) (node : Node) → OverNow history old (HasNodeFound old ino node) → IsDraftedAs new ino node → node.kind ≡ kinds.File → FindsSize history old new ino node.size
  size_found history old new ino node found drafted kind = record {
    drafted = drafted.shape ∙ ap (λ k. Some (Some (record { kind = k; size = node.size }))) kind;
    most = drafted.size;
    is = λ h told c lies shelf file shows has. (found h told c lies).is.size ∙ ap (λ (n : FlatNode). n.content.size) (one (found h told c lies).has has.has);
  }

  -- A BLOCK IS READ
  module _ (history : M → Option History) (old : StoreValue M) (ino i : ℕ) (out : List ℕ) (size : length out ≡ 4096) where
    -- the block of a number that is a file's
    own_block : (c : Contents) (shelf : Shelf) (file : PlacedFile) → HasFile old c shelf ino file → block_of_number old c ino i ≡ file_block file i
    own_block c shelf file has = ap (λ n. old_block n i) has.has

    bytes_by : (s : MachineState) (shelf : Shelf) (file : PlacedFile) → LinesShow old s shelf → IsPlacedFile shelf file → (b : Block) → file_block file i ≡ b → HasBytes old s b out → IsOldBlock shelf file i out true
    bytes_by s shelf file shows placed Hole is held = absurd held
    bytes_by s shelf file shows placed (Here own) is held = record {
      is = block_is shelf file i out placed size (λ k lt. ap (λ bs. get_or bs k 0) (sym held) ∙ ap (λ b. byte_of shelf b k) (sym is));
      own = ap (λ b. not (is_hole b)) (sym is);
    }
    bytes_by s shelf file shows placed (Away serial position) is held = record {
      is = block_is shelf file i out placed size (λ k lt. shows serial position out held k lt ∙ ap (λ b. byte_of shelf b k) (sym is));
      own = ap (λ b. not (is_hole b)) (sym is);
    }

    pub edge_bytes : BlockNow history old ino i (λ s block. HasBytes old s block out) → ReadsEdge history old ino i out true
    edge_bytes found h told c lies shelf file shows has =
        bytes_by (state_now h) shelf file shows has.placed (file_block file i) refl (subst (λ b. HasBytes old (state_now h) b out) (own_block c shelf file has) (found h told c lies))

    pub edge_hole : (out ≡ zeros 4096) × BlockNow history old ino i (λ s block. block ≡ Hole) → ReadsEdge history old ino i out false
    unfolding zeros
    edge_hole found h told c lies shelf file shows has =
        let hole : file_block file i ≡ Hole = sym (own_block c shelf file has) ∙ found.1 h told c lies in
        record {
          is = block_is shelf file i out has.placed size (λ k lt. ap (λ bs. get_or bs k 0) found.0 ∙ get_or-replicate 4096 k 0 0 lt ∙ ap (λ b. byte_of shelf b k) (sym hole));
          own = ap (λ b. not (is_hole b)) (sym hole);
        }

  -- THE EDGES ARE READ, the one behind the other
  module _ (history : M → Option History) (old mid : StoreValue M) (ino at : ℕ) (bytes front back : List ℕ) (some : 0 < length bytes) (one_side : ReadsSide history old ino at bytes (at / 4096) front) where
    pub edges_of_one : at / 4096 ≡ (at + length bytes - 1) / 4096 → ReadsEdges history old ino at bytes front back
    edges_of_one same h told c lies shelf file shows has =
        new_is at bytes front back (plain_bytes shelf file) some (one_side h told c lies shelf file shows has) (λ lt. absurd (omega arith))

    pub edges_of_two : ReadsNodes history old mid → Runs (history old.log.machine) (history mid.log.machine) IsUnchanged → ReadsSide history mid ino at bytes ((at + length bytes - 1) / 4096) back → ReadsEdges history old ino at bytes front back
    edges_of_two reads run other h told c lies shelf file shows has =
        new_is at bytes front back (plain_bytes shelf file) some (one_side h told c lies shelf file shows has) (λ lt.
        of_file_before history old mid reads ino (λ c shelf file. covers at (at + length bytes) ((at + length bytes - 1) / 4096) ≡ false → back ≡ padded_block (written (plain_bytes shelf file) at bytes) ((at + length bytes - 1) / 4096)) run other
        h told c lies shelf file shows has)
