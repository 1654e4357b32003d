use Rattle.std.proofs.Common.{◌≡◌, true, false, ap, ◌∙◌, sym, subst}
use Rattle.hl_tree.specs.declared.call.Call.TheVariants as calls
use Rattle.hl_tree.specs.Names.{is_too_long}
use Rattle.hl_store.proofs.ReadRuns.{reads_then}
use Rattle.hl_walk.specs.Walks.{Halts, LeadsNowhere, LeadsTo}
use Rattle.hl_walk.proofs.KeptTrees.{reads_both}
use Rattle.hl_calls.specs.Calls.{MakesCall}
use Rattle.hl_links.proofs.ChangedCalls.{ends_stopped_since}
use Rattle.hl_namespace.proofs.ShownCalls.{stat_halted, stat_of_file, stat_of_names, stat_refused}
use Rattle.hl_namespace.proofs.listing.stat.Goals as goal

pub returns-then-is_too_long-clause-made : goal.returns-then-is_too_long-clause-made
returns-then-is_too_long-clause-made g c =
    let long : is_too_long c.args.path.now ≡ true = ap is_too_long (sym c.names-names.ensures.is) ∙ sym c.is_too_long.ensures ∙ c.if-is_too_long.true in
    stat_refused {M = g.row.M.Denot} g.M.Machine.history g.M.Machine.faults c.args.store.now c.args.now c.args.path.now long

pub returns-in-Err-clause-made : goal.returns-in-Err-clause-made
returns-in-Err-clause-made g c =
    let short : is_too_long c.args.path.now ≡ false = ap is_too_long (sym c.names-names.ensures.is) ∙ sym c.is_too_long.ensures ∙ c.if-is_too_long.false in
    let halts = subst (λ p. Halts {M = g.row.M.Denot} g.M.Machine.history g.M.Machine.faults c.args.store.now c.find_number.new.store (LeadsNowhere p) c.in-Err.halt) c.names-names.ensures.is c.in-Err.ensures.halts in
    subst (λ s. MakesCall {M = g.row.M.Denot} g.M.Machine.history g.M.Machine.faults c.args.store.now c.find_number.new.store c.args.now (calls.Stat c.args.path.now) s) (sym c.halted.ensures)
    (stat_halted {M = g.row.M.Denot} g.M.Machine.history g.M.Machine.faults c.args.store.now c.args.now c.args.path.now short c.find_number.new.store c.find_number.ensures.machine.unchanged c.find_number.ensures.reads c.in-Err.halt halts)

pub returns-in-Err-node_of-clause-made : goal.returns-in-Err-node_of-clause-made
returns-in-Err-node_of-clause-made g c =
    ends_stopped_since {M = g.row.M.Denot} g.M.Machine.history g.M.Machine.blocks g.M.Machine.faults g.M.Machine.write_faults g.M.Machine.say_faults c.args.store.now c.find_number.new.store c.node_of.new.store c.find_number.ensures.reads c.find_number.ensures.machine c.node_of.ensures.machine c.args.now (calls.Stat c.args.path.now)
    c.in-Err-node_of.step c.node_of.ensures.reads c.in-Err-node_of.ensures.stops

pub returns-in-Err-node_of-clause-machine : goal.returns-in-Err-node_of-clause-machine
returns-in-Err-node_of-clause-machine g c = reads_then {M = g.row.M.Denot} c.find_number.ensures.machine c.node_of.ensures.machine

pub returns-in-File-clause-made : goal.returns-in-File-clause-made
returns-in-File-clause-made g c =
    let short : is_too_long c.args.path.now ≡ false = ap is_too_long (sym c.names-names.ensures.is) ∙ sym c.is_too_long.ensures ∙ c.if-is_too_long.false in
    let led = subst (λ p. LeadsTo {M = g.row.M.Denot} g.M.Machine.history c.args.store.now p c.in-Ok.number) c.names-names.ensures.is c.in-Ok.ensures.leads in
    stat_of_file {M = g.row.M.Denot} g.M.Machine.history g.M.Machine.faults c.args.store.now c.args.now c.args.path.now short c.in-Ok.number led c.find_number.new.store c.find_number.ensures.reads c.find_number.ensures.machine.unchanged c.node_of.new.store
    (reads_both {M = g.row.M.Denot} g.M.Machine.history c.args.store.now c.find_number.new.store c.find_number.ensures.reads c.find_number.ensures.machine.unchanged c.node_of.new.store c.node_of.ensures.reads)
    (reads_then {M = g.row.M.Denot} c.find_number.ensures.machine c.node_of.ensures.machine).unchanged c.in-Ok-node_of.node c.in-File.is c.in-Ok-node_of.ensures.node

pub returns-in-File-clause-machine : goal.returns-in-File-clause-machine
returns-in-File-clause-machine g c = reads_then {M = g.row.M.Denot} c.find_number.ensures.machine c.node_of.ensures.machine

pub returns-in-Dir-clause-made : goal.returns-in-Dir-clause-made
returns-in-Dir-clause-made g c =
    let short : is_too_long c.args.path.now ≡ false = ap is_too_long (sym c.names-names.ensures.is) ∙ sym c.is_too_long.ensures ∙ c.if-is_too_long.false in
    let led = subst (λ p. LeadsTo {M = g.row.M.Denot} g.M.Machine.history c.args.store.now p c.in-Ok.number) c.names-names.ensures.is c.in-Ok.ensures.leads in
    stat_of_names {M = g.row.M.Denot} g.M.Machine.history g.M.Machine.faults c.args.store.now c.args.now c.args.path.now short g.M.Machine.blocks g.M.Machine.write_faults g.M.Machine.say_faults c.in-Ok.number led c.node_of.new.store
    (reads_both {M = g.row.M.Denot} g.M.Machine.history c.args.store.now c.find_number.new.store c.find_number.ensures.reads c.find_number.ensures.machine.unchanged c.node_of.new.store c.node_of.ensures.reads)
    (reads_then {M = g.row.M.Denot} c.find_number.ensures.machine c.node_of.ensures.machine) c.count_names.new.store c.count_names.ensures.reads c.count_names.ensures.machine c.count_names.result c.count_names.ensures.counted

pub returns-in-Dir-clause-machine : goal.returns-in-Dir-clause-machine
returns-in-Dir-clause-machine g c = reads_then {M = g.row.M.Denot} (reads_then {M = g.row.M.Denot} c.find_number.ensures.machine c.node_of.ensures.machine) c.count_names.ensures.machine
