-- Reads of a store, one behind the other, and what is found behind them.
use Rattle.std.proofs.Common.{◌≡◌, ℕ, ◌<◌, Option, refl, sym, ◌∙◌, ap, subst, ◌+◌, Some}
use Rattle.std.specs.FinMap.{get}
use Rattle.hl_addr.specs.Layout.{Layout}
use Rattle.hl_media.specs.History.{History, MachineState, state_now}
use Rattle.hl_log.specs.Logs.{OnlyReads, with_machine}
use Rattle.hl_lines.specs.Lines.{line_with}
use Rattle.hl_tseg.specs.SlotTable.{slot_at}
use Rattle.hl_tseg.specs.Slots.{HoldsSerial}
use Rattle.hl_paths.specs.Nodes.{FlatNode}
use Rattle.hl_placed.specs.Blocks.{Block, PlacedFile, Shelf, file_block}
use Rattle.hl_nodes.specs.Contents.{Contents}
use Rattle.hl_nodes.specs.Lines.{line_start}
use Rattle.hl_overlaid.specs.NodesNow.{old_block}
use Rattle.hl_store.specs.Values.{StoreValue, layout}
use Rattle.hl_store.specs.Lying.{LiesOver}
use Rattle.hl_store.specs.Shapes.{IsNumber}
use Rattle.hl_store.specs.Finding.{BlockNow, KeepsNodes, ReadsNodes}
use Rattle.hl_store.proofs.ReadRuns.{now_before}
use Rattle.hl_ranges.specs.Files.{HasFile, LinesShow, OfFile}

module _ {M : Type 0} (history : M → Option History) where
  -- what is found of the block of a number is so of the block of the file that the number has
  pub of_block : (v : StoreValue M) (ino i : ℕ) (P : Block → Type 0) → BlockNow history v ino i (λ s block. P block) → OfFile history v ino (λ c shelf file. P (file_block file i))
  of_block v ino i P found = λ h e c lies shelf file lines has. subst (λ (o : Option FlatNode). P (old_block o i)) has.has (found h e c lies)

module _ {M : Type 0} {history : M → Option History} where
  -- READS FROM ONE STORE TO ANOTHER
  module _ {old mid : StoreValue M} (reads : ReadsNodes history old mid) where
    -- of the same site
    pub layout_then : layout mid ≡ layout old
    layout_then = ap (λ (x : StoreValue M). layout x) reads.same

    -- a number of the first is one of the second
    pub number_then : {ino : ℕ} → IsNumber old ino → IsNumber mid ino
    number_then {ino} is = record { low = is.low; high = subst (λ (g : Layout). ino < g.inodes) (sym layout_then) is.high }

    -- what a slot holds it held
    pub holds_before : (tseg serial : ℕ) → HoldsSerial (slot_at mid.tables.slots tseg) serial → HoldsSerial (slot_at old.tables.slots tseg) serial
    holds_before tseg serial holds = subst (λ (x : StoreValue M). HoldsSerial (slot_at x.tables.slots tseg) serial) reads.same holds

    -- what line has a segment had it
    pub line_before : (tseg : ℕ) (line : Option ℕ) → line_with mid.lines.states tseg ≡ line → line_with old.lines.states tseg ≡ line
    line_before tseg line held = subst (λ (x : StoreValue M). line_with x.lines.states tseg ≡ line) reads.same held

    -- the lines show the same
    pub lines_then : (s : MachineState) (shelf : Shelf) → LinesShow old s shelf → LinesShow mid s shelf
    lines_then s shelf shows = λ serial position bytes is. shows serial position bytes (record {
      tseg = is.tseg;
      holds = holds_before is.tseg serial is.holds;
      line = is.line;
      held = line_before is.tseg (Some is.line) is.held;
      within = subst (λ (x : StoreValue M). position < (layout x).k) reads.same is.within;
      bytes_are = subst (λ (x : StoreValue M). s.content (line_start (layout x) is.line + position) ≡ bytes) reads.same is.bytes_are;
    })

  module _ {blocks faults write_faults say_faults : M → ℕ} where
    -- what holds of the file behind reads held before them
    pub of_file_before : (old mid : StoreValue M) (ino : ℕ) (P : Contents → Shelf → PlacedFile → Type 0) → ReadsNodes history old mid
        → OnlyReads history blocks faults write_faults say_faults old.log.machine mid.log.machine → OfFile history mid ino P → OfFile history old ino P
    of_file_before old mid ino P reads machine holds = λ h e c lies shelf file lines has.
        let keeps = reads.keeps h e c lies in
        now_before (history old.log.machine) (history mid.log.machine)
        (λ s. (c : Contents) → LiesOver mid c s → (shelf : Shelf) (file : PlacedFile) → LinesShow mid s shelf → HasFile mid c shelf ino file → P c shelf file)
        machine.unchanged holds h e c keeps.over shelf file (lines_then reads (state_now h) shelf lines)
        (record { has = ap (λ nodes. get nodes ino) keeps.nodes ∙ has.has; placed = has.placed })

    -- reads, and then reads
    pub reads_nodes_then : {old mid new : StoreValue M} → OnlyReads history blocks faults write_faults say_faults old.log.machine mid.log.machine
        → ReadsNodes history old mid → ReadsNodes history mid new → ReadsNodes history old new
    reads_nodes_then {old} {mid} {new} machine one two = record {
      same = two.same ∙ ap (λ (x : StoreValue M). record x { log = with_machine x.log new.log.machine; overlay = new.overlay }) one.same;
      keeps = λ h e c lies.
          let first = one.keeps h e c lies in
          let second = now_before (history old.log.machine) (history mid.log.machine)
          (λ s. (c : Contents) → LiesOver mid c s → KeepsNodes mid new s c) machine.unchanged two.keeps h e c first.over in
          record { over = second.over; nodes = second.nodes ∙ first.nodes };
      drafted = λ q d less has. two.drafted q d (subst (λ (g : Layout). q < g.inodes) (sym (layout_then one)) less) (one.drafted q d less has);
      dirty = two.dirty ∙ one.dirty;
      blocks = two.blocks ∙ one.blocks;
    }

  -- no read was made
  pub reads_nodes_none : {v : StoreValue M} → ReadsNodes history v v
  reads_nodes_none {v} = record {
    same = refl;
    keeps = λ h e c lies. record { over = lies; nodes = refl };
    drafted = λ q d less has. has;
    dirty = refl;
    blocks = refl;
  }
