use Rattle.std.proofs.Common.{◌≡◌, ◌*◌, ◌<◌, ◌∙◌, ℕ, List, sym, ap, length, arith}
use Rattle.std.specs.Prelude.{slice_index}
use Rattle.std.proofs.lemmas.Result.{err_from_is_err_and}
use Rattle.hl_media.specs.History.{MachineState, content}
use Rattle.hl_addr.specs.Layout.{table_blocks}
use Rattle.hl_bytes.specs.Fields.{written}
use Rattle.hl_tables.specs.Values.{fresh}
use Rattle.hl_tables.specs.TableBlocks.{tables_bytes}
use Rattle.hl_tables.proofs.Laid.{same_shape-then}
use Rattle.hl_found.proofs.TablesFound.{blocks_are, read_more}
use Rattle.hl_recovery.specs.TablePlaces.{StopsAtTable}
use Rattle.hl_recovery.proofs.ReadRuns.{both_read, seen_before}
use Rattle.hl_recovery.proofs.TableReads.{address_in, table_stops}
use Rattle.hl_recovery.proofs.tables.read_tables.Goals as goal

pub read_table-requires-clause-within : goal.read_table-requires-clause-within
read_table-requires-clause-within g c =
    let site = c.args.site.now in
    let blocks = blocks_are site.geometry c.in_ok-tables.tables c.in_ok-tables.ensures in
    let lt : c.blocks-2.i < length site.rec.tables = omega (arith, blocks, c.blocks-i-end.ensures, c.blocks-2-test.true, c.requires.site.tables) in
    rw c.items-addresses.ensures
    (address_in site.geometry (g.M.Machine.blocks c.blocks-2.machine) (slice_index site.rec.tables c.blocks-2.i) c.requires.site.limits
    (omega (arith, c.requires.site.room, c.blocks-2.invariant.reads.blocks_same)) (c.requires.places.in_log c.blocks-2.i lt))

pub returns-in_err-read_table-clause-stopped : goal.returns-in_err-read_table-clause-stopped
returns-in_err-read_table-clause-stopped g c =
    let p = err_from_is_err_and c.from_residual-in_err-read_table.result c.from_residual-in_err-read_table.ensures.1 in
    let site = c.args.site.now in
    let i = c.blocks-2.i in
    let address = slice_index c.items-addresses.result.now i in
    let stop = c.in_err-read_table.field-0.0 in
    let blocks = blocks_are site.geometry c.in_ok-tables.tables c.in_ok-tables.ensures in
    let lt : i < length site.rec.tables = omega (arith, blocks, c.blocks-i-end.ensures, c.blocks-2-test.true, c.requires.site.tables) in
    let same : slice_index site.rec.tables i ≡ address = ap (λ (l : List ℕ). slice_index l i) (sym c.items-addresses.ensures) in
    rw (p.1, p.2) (λ h e. table_stops site.geometry (content h) site.rec c.requires.places c.blocks-2.tables c.blocks-2.invariant.shape i address (lt, same) stop
    (seen_before (g.M.Machine.history c.args.machine.now) (g.M.Machine.history c.blocks-2.machine) (λ (s : MachineState). StopsAtTable c.blocks-2.tables s.content i address stop)
    c.blocks-2.invariant.reads.unchanged c.in_err-read_table.ensures.stopped h e))

pub returns-in_err-read_table-clause-machine : goal.returns-in_err-read_table-clause-machine
returns-in_err-read_table-clause-machine g c = both_read c.args.machine.now c.blocks-2.machine c.read_table.new.machine c.blocks-2.invariant.reads c.in_err-read_table.ensures.machine

pub blocks-2-preserved : goal.blocks-2-preserved
blocks-2-preserved g c =
    let site = c.args.site.now in
    let i = c.blocks-2.i in
    let address = slice_index c.items-addresses.result.now i in
    let before = g.M.Machine.history c.args.machine.now in
    let now = g.M.Machine.history c.blocks-2.machine in
    let reads = c.blocks-2.invariant.reads in
    let blocks = blocks_are site.geometry c.in_ok-tables.tables c.in_ok-tables.ensures in
    let low : i < table_blocks site.geometry = omega (arith, blocks, c.blocks-i-end.ensures, c.blocks-2-test.true) in
    let lt : i < length site.rec.tables = omega (arith, c.requires.site.tables) in
    let same : address ≡ slice_index site.rec.tables i = ap (λ (l : List ℕ). slice_index l i) c.items-addresses.ensures in
    record {
      shape = same_shape-then (fresh site.geometry) c.blocks-2.tables c.read_table.new.tables c.blocks-2.invariant.shape c.read_table.ensures.shape;
      reads = both_read c.args.machine.now c.blocks-2.machine c.read_table.new.machine reads c.in_ok-read_table.ensures.machine;
      kept = c.in_ok-read_table.ensures.fault ∙ c.blocks-2.invariant.kept;
      read = λ h e. read_more site.geometry c.requires.site.limits (content h) site.rec.tables c.blocks-2.tables c.read_table.new.tables i (content h address) c.blocks-2.invariant.shape low
          (seen_before before now (λ (s : MachineState). length (s.content address) ≡ 4096) reads.unchanged c.in_ok-read_table.ensures.size h e)
          (ap (content h) same) (c.requires.places.in_log i lt)
          (seen_before before now (λ (s : MachineState). tables_bytes c.read_table.new.tables ≡ written (tables_bytes c.blocks-2.tables) (4096 * i) (s.content address)) reads.unchanged c.in_ok-read_table.ensures.read h e)
          (c.blocks-2.invariant.read h e);
    }

pub returns-clause-spelled : goal.returns-clause-spelled
returns-clause-spelled g c =
    let blocks = blocks_are c.args.site.now.geometry c.in_ok-tables.tables c.in_ok-tables.ensures in
    λ h e. record {
      values = c.are_of_site.ensures;
      in_log = c.requires.places.in_log;
      blocks = λ i lt. sym (c.blocks-2.invariant.read h e i (omega (arith, blocks, c.blocks-i-end.ensures, c.blocks-2-test.false))).1;
    }
