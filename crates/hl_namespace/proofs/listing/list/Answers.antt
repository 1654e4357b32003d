use Rattle.std.proofs.Common.{◌≡◌, true, false, ap, ◌∙◌, sym, subst}
use Rattle.hl_tree.specs.declared.call.Call.TheVariants as calls
use Rattle.hl_tree.specs.Names.{is_too_long}
use Rattle.hl_paths.specs.Entries.{entry_names}
use Rattle.hl_entries.specs.Places.{IfSpells}
use Rattle.hl_store.proofs.ReadRuns.{reads_then}
use Rattle.hl_walk.specs.Walks.{Halts, LeadsNowhere, LeadsTo}
use Rattle.hl_walk.proofs.KeptTrees.{reads_both}
use Rattle.hl_calls.specs.declared.step.FileStep.TheVariants as step
use Rattle.hl_calls.specs.Calls.{MakesCall}
use Rattle.hl_links.proofs.ChangedCalls.{ends_stopped_since}
use Rattle.hl_namespace.proofs.ShownCalls.{list_halted, list_of_file, list_of_names, list_refused}
use Rattle.hl_namespace.proofs.listing.list.Goals as goal

pub returns-then-is_too_long-clause-made : goal.returns-then-is_too_long-clause-made
returns-then-is_too_long-clause-made g c =
    let long : is_too_long c.args.path.now ≡ true = ap is_too_long (sym c.names-names.ensures.is) ∙ sym c.is_too_long.ensures ∙ c.if-is_too_long.true in
    list_refused {M = g.row.M.Denot} g.M.Machine.history g.M.Machine.faults c.args.store.now c.args.now c.args.path.now long

pub returns-in-Err-clause-made : goal.returns-in-Err-clause-made
returns-in-Err-clause-made g c =
    let short : is_too_long c.args.path.now ≡ false = ap is_too_long (sym c.names-names.ensures.is) ∙ sym c.is_too_long.ensures ∙ c.if-is_too_long.false in
    let halts = subst (λ p. Halts {M = g.row.M.Denot} g.M.Machine.history g.M.Machine.faults c.args.store.now c.find_number.new.store (LeadsNowhere p) c.in-Err.halt) c.names-names.ensures.is c.in-Err.ensures.halts in
    subst (λ s. MakesCall {M = g.row.M.Denot} g.M.Machine.history g.M.Machine.faults c.args.store.now c.find_number.new.store c.args.now (calls.List c.args.path.now) s) (sym c.halted.ensures)
    (list_halted {M = g.row.M.Denot} g.M.Machine.history g.M.Machine.faults c.args.store.now c.args.now c.args.path.now short c.find_number.new.store c.find_number.ensures.machine.unchanged c.find_number.ensures.reads c.in-Err.halt halts)

pub returns-in-File-clause-made : goal.returns-in-File-clause-made
returns-in-File-clause-made g c =
    let short : is_too_long c.args.path.now ≡ false = ap is_too_long (sym c.names-names.ensures.is) ∙ sym c.is_too_long.ensures ∙ c.if-is_too_long.false in
    let led = subst (λ p. LeadsTo {M = g.row.M.Denot} g.M.Machine.history c.args.store.now p c.in-Ok.number) c.names-names.ensures.is c.in-Ok.ensures.leads in
    list_of_file {M = g.row.M.Denot} g.M.Machine.history g.M.Machine.faults c.args.store.now c.args.now c.args.path.now short c.in-Ok.number led c.find_number.new.store c.find_number.ensures.reads c.find_number.ensures.machine.unchanged c.read_directory.new.store
    (reads_both {M = g.row.M.Denot} g.M.Machine.history c.args.store.now c.find_number.new.store c.find_number.ensures.reads c.find_number.ensures.machine.unchanged c.read_directory.new.store c.read_directory.ensures.reads)
    (reads_then {M = g.row.M.Denot} c.find_number.ensures.machine c.read_directory.ensures.machine).unchanged c.in-File.ensures.found

pub returns-in-File-clause-machine : goal.returns-in-File-clause-machine
returns-in-File-clause-machine g c = reads_then {M = g.row.M.Denot} c.find_number.ensures.machine c.read_directory.ensures.machine

pub returns-in-DiskFault-clause-made : goal.returns-in-DiskFault-clause-made
returns-in-DiskFault-clause-made g c =
    ends_stopped_since {M = g.row.M.Denot} g.M.Machine.history g.M.Machine.blocks g.M.Machine.faults g.M.Machine.write_faults g.M.Machine.say_faults c.args.store.now c.find_number.new.store c.read_directory.new.store c.find_number.ensures.reads c.find_number.ensures.machine c.read_directory.ensures.machine c.args.now (calls.List c.args.path.now)
    step.DiskFault c.read_directory.ensures.reads c.in-DiskFault.ensures.found

pub returns-in-DiskFault-clause-machine : goal.returns-in-DiskFault-clause-machine
returns-in-DiskFault-clause-machine g c = reads_then {M = g.row.M.Denot} c.find_number.ensures.machine c.read_directory.ensures.machine

pub returns-in-Memory-clause-made : goal.returns-in-Memory-clause-made
returns-in-Memory-clause-made g c =
    ends_stopped_since {M = g.row.M.Denot} g.M.Machine.history g.M.Machine.blocks g.M.Machine.faults g.M.Machine.write_faults g.M.Machine.say_faults c.args.store.now c.find_number.new.store c.read_directory.new.store c.find_number.ensures.reads c.find_number.ensures.machine c.read_directory.ensures.machine c.args.now (calls.List c.args.path.now)
    step.Memory c.read_directory.ensures.reads tt

pub returns-in-Memory-clause-machine : goal.returns-in-Memory-clause-machine
returns-in-Memory-clause-machine g c = reads_then {M = g.row.M.Denot} c.find_number.ensures.machine c.read_directory.ensures.machine

pub returns-in-Ok-names-clause-made : goal.returns-in-Ok-names-clause-made
returns-in-Ok-names-clause-made g c =
    let short : is_too_long c.args.path.now ≡ false = ap is_too_long (sym c.names-names.ensures.is) ∙ sym c.is_too_long.ensures ∙ c.if-is_too_long.false in
    let led = subst (λ p. LeadsTo {M = g.row.M.Denot} g.M.Machine.history c.args.store.now p c.in-Ok.number) c.names-names.ensures.is c.in-Ok.ensures.leads in
    list_of_names {M = g.row.M.Denot} g.M.Machine.history g.M.Machine.faults c.args.store.now c.args.now c.args.path.now short c.in-Ok.number led c.find_number.new.store c.find_number.ensures.reads c.find_number.ensures.machine.unchanged c.read_directory.new.store
    (reads_both {M = g.row.M.Denot} g.M.Machine.history c.args.store.now c.find_number.new.store c.find_number.ensures.reads c.find_number.ensures.machine.unchanged c.read_directory.new.store c.read_directory.ensures.reads)
    (reads_then {M = g.row.M.Denot} c.find_number.ensures.machine c.read_directory.ensures.machine).unchanged c.in-Bytes.bytes.items c.in-Ok-names.listed c.in-Bytes.ensures.found.1
    (subst (λ b. IfSpells b (λ es. c.in-Ok-names.listed ≡ entry_names es)) c.as_slice.ensures.value c.in-Ok-names.ensures)

pub returns-in-Ok-names-clause-machine : goal.returns-in-Ok-names-clause-machine
returns-in-Ok-names-clause-machine g c = reads_then {M = g.row.M.Denot} c.find_number.ensures.machine c.read_directory.ensures.machine

pub returns-clause-made : goal.returns-clause-made
returns-clause-made g c =
    ends_stopped_since {M = g.row.M.Denot} g.M.Machine.history g.M.Machine.blocks g.M.Machine.faults g.M.Machine.write_faults g.M.Machine.say_faults c.args.store.now c.find_number.new.store c.read_directory.new.store c.find_number.ensures.reads c.find_number.ensures.machine c.read_directory.ensures.machine c.args.now (calls.List c.args.path.now)
    step.Memory c.read_directory.ensures.reads tt

pub returns-clause-machine : goal.returns-clause-machine
returns-clause-machine g c = reads_then {M = g.row.M.Denot} c.find_number.ensures.machine c.read_directory.ensures.machine
