use Rattle.std.proofs.Common.{sym, ◌∙◌}
use Rattle.std.proofs.lemmas.List.{length-map}
use Rattle.hl_bytes.specs.declared.block.Block.{Block}
use Rattle.hl_log.specs.Loads.{bytes_of_tables}
use Rattle.hl_mkfs.proofs.Founding.{tables_end, tables_enough, tables_runs, tables_size}
use Rattle.hl_mkfs.proofs.first_log.write_tables.Goals as goal

pub checkpoint-requires-clause-tables : goal.checkpoint-requires-clause-tables
checkpoint-requires-clause-tables g c =
    let log = c.args.log.now in
    sym (length-map c.args.tables.now (λ (b : Block). b.bytes))
    ∙ tables_size log.geometry c.requires.limits (g.M.Machine.history log.machine) (g.M.Machine.history log.machine) log.at log.rec c.args.next.now (bytes_of_tables c.args.tables.now) c.requires.at c.requires.rec c.requires.next c.requires.tables

pub unreachable-requires : goal.unreachable-requires
unreachable-requires g c =
    let log = c.args.log.now in
    c.in-LogFull.ensures.ends.0
    (tables_enough log.geometry c.requires.limits (g.M.Machine.history log.machine) (g.M.Machine.history c.checkpoint.new.self.machine) log.at log.rec c.args.next.now (bytes_of_tables c.args.tables.now) c.requires.at c.requires.rec c.requires.next c.requires.tables)

pub returns-in-Written-clause-founded : goal.returns-in-Written-clause-founded
returns-in-Written-clause-founded g c =
    let log = c.args.log.now in
    let w = c.in-Written.ensures.ends.1 in
    tables_end log.geometry c.requires.limits (g.M.Machine.history log.machine) (g.M.Machine.history c.checkpoint.new.self.machine) log.at log.rec c.args.next.now (bytes_of_tables c.args.tables.now) c.requires.at c.requires.rec c.requires.next c.requires.tables _ _ _ w.written w.succeeded.synced

pub returns-in-Written-clause-crash : goal.returns-in-Written-clause-crash
returns-in-Written-clause-crash g c =
    let log = c.args.log.now in
    tables_runs log.geometry c.requires.limits (g.M.Machine.history log.machine) (g.M.Machine.history c.checkpoint.new.self.machine) log.at log.rec c.args.next.now (bytes_of_tables c.args.tables.now) c.requires.at c.requires.rec c.requires.next c.requires.tables _ c.in-Written.ensures.crash

pub returns-in-DiskFault-clause-crash : goal.returns-in-DiskFault-clause-crash
returns-in-DiskFault-clause-crash g c =
    let log = c.args.log.now in
    tables_runs log.geometry c.requires.limits (g.M.Machine.history log.machine) (g.M.Machine.history c.checkpoint.new.self.machine) log.at log.rec c.args.next.now (bytes_of_tables c.args.tables.now) c.requires.at c.requires.rec c.requires.next c.requires.tables _ c.in-DiskFault.ensures.crash

pub returns-in-Memory-clause-crash : goal.returns-in-Memory-clause-crash
returns-in-Memory-clause-crash g c =
    let log = c.args.log.now in
    tables_runs log.geometry c.requires.limits (g.M.Machine.history log.machine) (g.M.Machine.history c.checkpoint.new.self.machine) log.at log.rec c.args.next.now (bytes_of_tables c.args.tables.now) c.requires.at c.requires.rec c.requires.next c.requires.tables _ c.in-Memory.ensures.crash
