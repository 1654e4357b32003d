-- Reads of a store, one behind the other, and what they find of a file.
use Rattle.std.proofs.Common.{◌≡◌, ℕ, ◌+◌, ◌<◌, Option, Some, refl, sym, ◌∙◌, ap, subst, arith}
use Rattle.std.specs.FinMap.{get}
use Rattle.std.proofs.lemmas.Option.{same_Some}
use Rattle.hl_addr.specs.Layout.{Layout}
use Rattle.hl_media.specs.History.{History, MachineState, state_now}
use Rattle.hl_lines.specs.Lines.{line_with}
use Rattle.hl_log.specs.Logs.{OnlyReads, with_machine}
use Rattle.hl_tseg.specs.SlotTable.{slot_at}
use Rattle.hl_tseg.specs.Slots.{HoldsSerial}
use Rattle.hl_placed.specs.Blocks.{Block, PlacedFile, Shelf, file_block}
use Rattle.hl_paths.specs.Nodes.{FlatNode}
use Rattle.hl_nodes.specs.Contents.{Contents}
use Rattle.hl_nodes.specs.Lines.{line_start}
use Rattle.hl_overlaid.specs.NodesNow.{old_block}
use Rattle.hl_store.specs.declared.answers.Node.{Node}
use Rattle.hl_store.specs.Values.{StoreValue, layout}
use Rattle.hl_store.specs.Lying.{LiesOver}
use Rattle.hl_store.specs.Shapes.{IsNumber}
use Rattle.hl_store.specs.Finding.{BlockNow, HasNodeFound, KeepsNodes, OverNow, ReadsNodes}
use Rattle.hl_store.proofs.ReadRuns.{now_before, reads_none, reads_then, rose_since}
use Rattle.hl_ranges.specs.declared.ranges.RangeStep.{RangeStep}
use Rattle.hl_ranges.specs.declared.ranges.RangeStep.TheVariants as step
use Rattle.hl_ranges.specs.Files.{HasFile, LinesShow, OfFile, file_node}
use Rattle.hl_ranges.specs.Writing.{Stops}

-- nothing but reads was made from one store to another
pub record OnlyRead {M : Type 0} (history : M → Option History) (blocks faults write_faults say_faults : M → ℕ) (old mid : StoreValue M) : Type 0 where
  pub reads : ReadsNodes history old mid
  pub machine : OnlyReads history blocks faults write_faults say_faults old.log.machine mid.log.machine

module _ {M : Type 0} (history : M → Option History) (v : StoreValue M) (ino : ℕ) where
  -- what is found of the block of a number is so of the block of its file
  pub of_block : (i : ℕ) (P : Block → Type 0) → BlockNow history v ino i (λ s block. P block) → OfFile history v ino (λ c shelf file. P (file_block file i))
  of_block i P found = λ h e c lies shelf file lines has. subst (λ (o : Option FlatNode). P (old_block o i)) has.has (found h e c lies)

  -- the size that was found of a number is that of its file
  pub size_found : (node : Node) → OverNow history v (HasNodeFound v ino node) → OfFile history v ino (λ c shelf file. node.size ≡ file.size)
  size_found node found = λ h e c lies shelf file lines has.
      let one = found h e c lies in
      one.is.size ∙ ap (λ (n : FlatNode). n.content.size) (same_Some one.n (file_node file) (sym one.has ∙ has.has))

module _ {M : Type 0} {history : M → Option History} {blocks faults write_faults say_faults : M → ℕ} where
  -- nothing was read
  pub read_none : (v : StoreValue M) → OnlyRead history blocks faults write_faults say_faults v v
  read_none v = record {
    reads = record {
      same = refl;
      keeps = λ h e c lies. record { over = lies; nodes = refl };
      drafted = λ q d less has. has;
      dirty = refl;
      blocks = refl;
    };
    machine = reads_none;
  }

  -- one read
  pub read_one : {old mid : StoreValue M} → ReadsNodes history old mid → OnlyReads history blocks faults write_faults say_faults old.log.machine mid.log.machine → OnlyRead history blocks faults write_faults say_faults old mid
  read_one {old} {mid} reads machine = record { reads = reads; machine = machine }

  module _ {old mid : StoreValue M} (behind : OnlyRead history blocks faults write_faults say_faults old mid) where
    layout_then : layout mid ≡ layout old
    layout_then = ap (λ (x : StoreValue M). layout x) behind.reads.same

    -- a number of the site is one behind reads
    pub number_then : {ino : ℕ} → IsNumber old ino → IsNumber mid ino
    number_then {ino} is = record { low = is.low; high = subst (λ (g : Layout). ino < g.inodes) (sym layout_then) is.high }

    holds_before : (tseg serial : ℕ) → HoldsSerial (slot_at mid.tables.slots tseg) serial → HoldsSerial (slot_at old.tables.slots tseg) serial
    holds_before tseg serial holds = subst (λ (x : StoreValue M). HoldsSerial (slot_at x.tables.slots tseg) serial) behind.reads.same holds

    line_before : (tseg : ℕ) (line : Option ℕ) → line_with mid.lines.states tseg ≡ line → line_with old.lines.states tseg ≡ line
    line_before tseg line held = subst (λ (x : StoreValue M). line_with x.lines.states tseg ≡ line) behind.reads.same held

    lines_then : (s : MachineState) (shelf : Shelf) → LinesShow old s shelf → LinesShow mid s shelf
    lines_then s shelf shows = λ serial position bytes is. shows serial position bytes (record {
      tseg = is.tseg;
      holds = holds_before is.tseg serial is.holds;
      line = is.line;
      held = line_before is.tseg (Some is.line) is.held;
      within = subst (λ (x : StoreValue M). position < (layout x).k) behind.reads.same is.within;
      bytes_are = subst (λ (x : StoreValue M). s.content (line_start (layout x) is.line + position) ≡ bytes) behind.reads.same is.bytes_are;
    })

    -- what holds of a file behind reads held before them
    pub of_file_before : (ino : ℕ) (P : Contents → Shelf → PlacedFile → Type 0) → OfFile history mid ino P → OfFile history old ino P
    of_file_before ino P holds = λ h e c lies shelf file lines has.
        let keeps = behind.reads.keeps h e c lies in
        now_before (history old.log.machine) (history mid.log.machine)
        (λ s. (c : Contents) → LiesOver mid c s → (shelf : Shelf) (file : PlacedFile) → LinesShow mid s shelf → HasFile mid c shelf ino file → P c shelf file)
        behind.machine.unchanged holds h e c keeps.over shelf file (lines_then (state_now h) shelf lines)
        (record { has = ap (λ nodes. get nodes ino) keeps.nodes ∙ has.has; placed = has.placed })

    -- READS BEHIND READS are reads
    pub read_more : {new : StoreValue M} → ReadsNodes history mid new → OnlyReads history blocks faults write_faults say_faults mid.log.machine new.log.machine → OnlyRead history blocks faults write_faults say_faults old new
    read_more {new} reads machine = record {
      reads = record {
        same = reads.same ∙ ap (λ (x : StoreValue M). record x { log = with_machine x.log new.log.machine; overlay = new.overlay }) behind.reads.same;
        keeps = λ h e c lies.
            let first = behind.reads.keeps h e c lies in
            let second = now_before (history old.log.machine) (history mid.log.machine)
            (λ s. (c : Contents) → LiesOver mid c s → KeepsNodes mid new s c) behind.machine.unchanged reads.keeps h e c first.over in
            record { over = second.over; nodes = second.nodes ∙ first.nodes };
        drafted = λ q d less has. reads.drafted q d (subst (λ (g : Layout). q < g.inodes) (sym layout_then) less) (behind.reads.drafted q d less has);
        dirty = reads.dirty ∙ behind.reads.dirty;
        blocks = reads.blocks ∙ behind.reads.blocks;
      };
      machine = reads_then behind.machine machine;
    }

    -- why it stopped behind reads is why it stopped
    pub stops_since : (new : StoreValue M) (why : RangeStep) → Stops faults mid new why → Stops faults old new why
    stops_since new step.Done stops = stops
    stops_since new step.DiskFault stops = rose_since (faults old.log.machine) (faults mid.log.machine) (faults new.log.machine) behind.machine.faults_most stops
    stops_since new step.Memory stops = tt
