use Rattle.std.proofs.lemmas.Result.{err_from_is_err_and}
use Rattle.hl_media.specs.History.{MachineState, content}
use Rattle.hl_nodes.specs.Tables.{SpellTables}
use Rattle.hl_found.specs.Found.{AreChainParts, parts_found}
use Rattle.hl_recovery.specs.TablePlaces.{StopsAtTables}
use Rattle.hl_recovery.proofs.ReadRuns.{both_read, seen_before}
use Rattle.hl_recovery.proofs.TableReads.{tables_stopped}
use Rattle.hl_recovery.proofs.recovering.recover.Goals as goal

pub returns-in_err-chain-clause-machine : goal.returns-in_err-chain-clause-machine
returns-in_err-chain-clause-machine g c = both_read c.args.machine.now c.find_site.new.machine c.find_chain.new.machine c.in_ok-site.ensures.machine c.in_err-chain.ensures.machine

pub returns-in_err-tables-clause-stopped : goal.returns-in_err-tables-clause-stopped
returns-in_err-tables-clause-stopped g c =
    let p = err_from_is_err_and c.from_residual-in_err-tables.result c.from_residual-in_err-tables.ensures.1 in
    let layout = c.in_ok-site.site.geometry in
    let rec = c.in_ok-site.site.rec in
    let chain = c.in_ok-chain.chain.parts.items in
    let stop = c.in_err-tables.field-0.0 in
    let before = g.M.Machine.history c.args.machine.now in
    let first = g.M.Machine.history c.find_site.new.machine in
    let second = g.M.Machine.history c.find_chain.new.machine in
    let both = both_read c.args.machine.now c.find_site.new.machine c.find_chain.new.machine c.in_ok-site.ensures.machine c.in_ok-chain.ensures.machine in
    rw (p.1, p.2) (λ h e. tables_stopped layout (content h) rec (g.M.Machine.blocks c.args.machine.now) c.args.rack.now (parts_found chain) (c.in_ok-site.ensures.found h e) c.in_ok-site.ensures.rack
    (seen_before before first (λ (s : MachineState). AreChainParts layout s.content rec chain) c.in_ok-site.ensures.machine.unchanged c.in_ok-chain.ensures.found h e).cut
    stop (seen_before before second (λ (s : MachineState). StopsAtTables layout s.content rec stop) both.unchanged c.in_err-tables.ensures.stopped h e))

pub returns-in_err-tables-clause-machine : goal.returns-in_err-tables-clause-machine
returns-in_err-tables-clause-machine g c =
    both_read c.args.machine.now c.find_chain.new.machine c.find_tables.new.machine
    (both_read c.args.machine.now c.find_site.new.machine c.find_chain.new.machine c.in_ok-site.ensures.machine c.in_ok-chain.ensures.machine) c.in_err-tables.ensures.machine

pub returns-in_err-recovered-clause-machine : goal.returns-in_err-recovered-clause-machine
returns-in_err-recovered-clause-machine g c =
    both_read c.args.machine.now c.find_chain.new.machine c.find_tables.new.machine
    (both_read c.args.machine.now c.find_site.new.machine c.find_chain.new.machine c.in_ok-site.ensures.machine c.in_ok-chain.ensures.machine) c.in_ok-tables.ensures.machine

pub returns-clause-recovered : goal.returns-clause-recovered
returns-clause-recovered g c =
    let layout = c.in_ok-site.site.geometry in
    let rec = c.in_ok-site.site.rec in
    let chain = c.in_ok-chain.chain.parts.items in
    let before = g.M.Machine.history c.args.machine.now in
    let first = g.M.Machine.history c.find_site.new.machine in
    let second = g.M.Machine.history c.find_chain.new.machine in
    let both = both_read c.args.machine.now c.find_site.new.machine c.find_chain.new.machine c.in_ok-site.ensures.machine c.in_ok-chain.ensures.machine in
    λ h e. c.in_ok-recovered.ensures.recovered (g.M.Machine.blocks c.args.machine.now) c.args.rack.now (content h) (c.in_ok-site.ensures.found h e) c.in_ok-site.ensures.rack
    (seen_before before first (λ (s : MachineState). AreChainParts layout s.content rec chain) c.in_ok-site.ensures.machine.unchanged c.in_ok-chain.ensures.found h e)
    (seen_before before second (λ (s : MachineState). SpellTables layout s.content rec.tables c.in_ok-tables.tables) both.unchanged c.in_ok-tables.ensures.spelled h e)
    c.in_ok-tables.ensures.places

pub returns-clause-ready : goal.returns-clause-ready
returns-clause-ready g c = c.in_ok-recovered.ensures.ready (g.M.Machine.blocks c.args.machine.now) c.args.rack.now c.in_ok-site.ensures.site c.in_ok-site.ensures.rack

pub returns-clause-machine : goal.returns-clause-machine
returns-clause-machine g c =
    both_read c.args.machine.now c.find_chain.new.machine c.find_tables.new.machine
    (both_read c.args.machine.now c.find_site.new.machine c.find_chain.new.machine c.in_ok-site.ensures.machine c.in_ok-chain.ensures.machine) c.in_ok-tables.ensures.machine
