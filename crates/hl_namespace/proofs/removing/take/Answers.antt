use Rattle.std.proofs.Common.{arith, ◌≡◌, ℕ, ◌-◌, ◌≤◌, true, false, List, length, Some, None, refl, ap, ◌∙◌, sym, subst}
use Rattle.std.specs.Prelude.{slice_get}
use Rattle.hl_tree.specs.Names.{is_too_long}
use Rattle.hl_tree.specs.declared.call.Reply.TheVariants as replies
use Rattle.hl_paths.specs.Entries.{without_entry}
use Rattle.hl_paths.specs.Finding.{last_name}
use Rattle.hl_entries.specs.Places.{Become}
use Rattle.hl_store.proofs.ReadRuns.{reads_then}
use Rattle.hl_walk.specs.Walks.{Halts, HasNoParent, HasParent}
use Rattle.hl_walk.proofs.KeptTrees.{reads_both}
use Rattle.hl_calls.specs.declared.step.FileStep.TheVariants as step
use Rattle.hl_calls.specs.Calls.{MakesCall}
use Rattle.hl_calls.proofs.Ends.{leaves_nodes}
use Rattle.hl_links.specs.declared.changing.DirectoryChange.{DirectoryChange}
use Rattle.hl_links.proofs.ChangedCalls.{ends_stopped_since}
use Rattle.hl_links.proofs.FoundLinks.{last_apart, last_is, last_none}
use Rattle.hl_namespace.specs.Removals.{removal}
use Rattle.hl_namespace.proofs.FoundNames.{number_by}
use Rattle.hl_namespace.proofs.RemovalCalls.{take_ends, take_halted, take_refused_absent, take_refused_kept, take_refused_long, take_refused_root}
use Rattle.hl_namespace.proofs.removing.take.Goals as goal

pub returns-then-is_too_long-clause-made : goal.returns-then-is_too_long-clause-made
returns-then-is_too_long-clause-made g c = λ now.
    let long : is_too_long c.args.path.now ≡ true = ap is_too_long (sym c.names-names.ensures.is) ∙ sym c.is_too_long.ensures ∙ c.if-is_too_long.true in
    take_refused_long {M = g.row.M.Denot} g.M.Machine.history g.M.Machine.faults c.args.store.now now c.args.kind c.args.path.now long

pub returns-in_default-clause-made : goal.returns-in_default-clause-made
returns-in_default-clause-made g c = λ now.
    let short : is_too_long c.args.path.now ≡ false = ap is_too_long (sym c.names-names.ensures.is) ∙ sym c.is_too_long.ensures ∙ c.if-is_too_long.false in
    let none : None ≡ slice_get c.args.path.now (length c.args.path.now - 1) = subst (λ (p : List (List ℕ)). None ≡ slice_get p (length p - 1)) c.names-names.ensures.is c.in_default.ensures.value in
    subst (λ why. MakesCall {M = g.row.M.Denot} g.M.Machine.history g.M.Machine.faults c.args.store.now c.args.store.now now (removal c.args.kind c.args.path.now) (step.Done (replies.Refused why))) (sym c.root_kept.ensures)
    (take_refused_root {M = g.row.M.Denot} g.M.Machine.history g.M.Machine.faults c.args.store.now now c.args.kind c.args.path.now short (last_none c.args.path.now none))

pub returns-in-Err-clause-made : goal.returns-in-Err-clause-made
returns-in-Err-clause-made g c = λ now.
    let short : is_too_long c.args.path.now ≡ false = ap is_too_long (sym c.names-names.ensures.is) ∙ sym c.is_too_long.ensures ∙ c.if-is_too_long.false in
    let at : Some c.in-Some.name.now ≡ slice_get c.args.path.now (length c.args.path.now - 1) = subst (λ (p : List (List ℕ)). Some c.in-Some.name.now ≡ slice_get p (length p - 1)) c.names-names.ensures.is c.in-Some.ensures.value in
    let some = last_apart c.args.path.now c.in-Some.name.now at in
    let halts = subst (λ p. Halts {M = g.row.M.Denot} g.M.Machine.history g.M.Machine.faults c.args.store.now c.find_parent.new.store (HasNoParent p) c.in-Err.halt) c.names-names.ensures.is c.in-Err.ensures.halts in
    subst (λ s. MakesCall {M = g.row.M.Denot} g.M.Machine.history g.M.Machine.faults c.args.store.now c.find_parent.new.store now (removal c.args.kind c.args.path.now) s) (sym c.halted.ensures)
    (take_halted {M = g.row.M.Denot} g.M.Machine.history g.M.Machine.faults c.args.store.now now c.args.kind c.args.path.now short some c.find_parent.new.store c.find_parent.ensures.machine.unchanged c.find_parent.ensures.reads c.in-Err.halt halts)

pub returns-in_default-find-clause-made : goal.returns-in_default-find-clause-made
returns-in_default-find-clause-made g c = λ now.
    let short : is_too_long c.args.path.now ≡ false = ap is_too_long (sym c.names-names.ensures.is) ∙ sym c.is_too_long.ensures ∙ c.if-is_too_long.false in
    let at : Some c.in-Some.name.now ≡ slice_get c.args.path.now (length c.args.path.now - 1) = subst (λ (p : List (List ℕ)). Some c.in-Some.name.now ≡ slice_get p (length p - 1)) c.names-names.ensures.is c.in-Some.ensures.value in
    let some = last_apart c.args.path.now c.in-Some.name.now at in
    let named = c.items.ensures ∙ last_is c.args.path.now c.in-Some.name.now at in
    let has = subst (λ p. HasParent {M = g.row.M.Denot} g.M.Machine.history c.args.store.now c.find_parent.new.store p c.in-Ok.parent) c.names-names.ensures.is c.in-Ok.ensures.parent in
    take_refused_absent {M = g.row.M.Denot} g.M.Machine.history g.M.Machine.faults c.args.store.now now c.args.kind c.args.path.now short some c.find_parent.new.store c.in-Ok.parent has c.find_parent.ensures.machine.unchanged c.find_parent.ensures.reads
    (number_by c.in-Ok.parent.bytes.items c.as_slice.result.now c.items.result.now (last_name c.args.path.now) c.as_slice.ensures.value named c.find.result c.find.ensures.number None c.in_default-find.is)

pub returns-in-Err-node_of-clause-made : goal.returns-in-Err-node_of-clause-made
returns-in-Err-node_of-clause-made g c = λ now.
    ends_stopped_since {M = g.row.M.Denot} g.M.Machine.history g.M.Machine.blocks g.M.Machine.faults g.M.Machine.write_faults g.M.Machine.say_faults c.args.store.now c.find_parent.new.store c.node_of.new.store c.find_parent.ensures.reads c.find_parent.ensures.machine c.node_of.ensures.machine now (removal c.args.kind c.args.path.now)
    c.in-Err-node_of.step c.node_of.ensures.reads c.in-Err-node_of.ensures.stops

pub returns-in-Err-node_of-clause-machine : goal.returns-in-Err-node_of-clause-machine
returns-in-Err-node_of-clause-machine g c =
    reads_then {M = g.row.M.Denot} c.find_parent.ensures.machine c.node_of.ensures.machine

pub returns-in-Some-why_kept-clause-made : goal.returns-in-Some-why_kept-clause-made
returns-in-Some-why_kept-clause-made g c = λ now.
    let short : is_too_long c.args.path.now ≡ false = ap is_too_long (sym c.names-names.ensures.is) ∙ sym c.is_too_long.ensures ∙ c.if-is_too_long.false in
    let at : Some c.in-Some.name.now ≡ slice_get c.args.path.now (length c.args.path.now - 1) = subst (λ (p : List (List ℕ)). Some c.in-Some.name.now ≡ slice_get p (length p - 1)) c.names-names.ensures.is c.in-Some.ensures.value in
    let some = last_apart c.args.path.now c.in-Some.name.now at in
    let named = c.items.ensures ∙ last_is c.args.path.now c.in-Some.name.now at in
    let has = subst (λ p. HasParent {M = g.row.M.Denot} g.M.Machine.history c.args.store.now c.find_parent.new.store p c.in-Ok.parent) c.names-names.ensures.is c.in-Ok.ensures.parent in
    take_refused_kept {M = g.row.M.Denot} g.M.Machine.history g.M.Machine.faults c.args.store.now now c.args.kind c.args.path.now short some c.find_parent.new.store c.in-Ok.parent has c.in-Some-find.place.ino
    (number_by c.in-Ok.parent.bytes.items c.as_slice.result.now c.items.result.now (last_name c.args.path.now) c.as_slice.ensures.value named c.find.result c.find.ensures.number (Some c.in-Some-find.place) c.in-Some-find.is)
    c.find_parent.ensures.reads c.find_parent.ensures.machine.unchanged c.in-Ok-node_of.node c.in-Ok-node_of.ensures.node c.node_of.new.store
    (reads_then {M = g.row.M.Denot} c.find_parent.ensures.machine c.node_of.ensures.machine).unchanged
    (reads_both {M = g.row.M.Denot} g.M.Machine.history c.args.store.now c.find_parent.new.store c.find_parent.ensures.reads c.find_parent.ensures.machine.unchanged c.node_of.new.store c.node_of.ensures.reads)
    c.in-Some-why_kept.why (sym c.why_kept.ensures ∙ c.in-Some-why_kept.is)

pub returns-in-Some-why_kept-clause-machine : goal.returns-in-Some-why_kept-clause-machine
returns-in-Some-why_kept-clause-machine g c =
    reads_then {M = g.row.M.Denot} c.find_parent.ensures.machine c.node_of.ensures.machine

pub returns-in_default-remove-clause-made : goal.returns-in_default-remove-clause-made
returns-in_default-remove-clause-made g c = λ now.
    leaves_nodes {M = g.row.M.Denot} g.M.Machine.history c.args.store.now c.node_of.new.store
    (reads_then {M = g.row.M.Denot} c.find_parent.ensures.machine c.node_of.ensures.machine).unchanged
    (reads_both {M = g.row.M.Denot} g.M.Machine.history c.args.store.now c.find_parent.new.store c.find_parent.ensures.reads c.find_parent.ensures.machine.unchanged c.node_of.new.store c.node_of.ensures.reads)

pub returns-in_default-remove-clause-machine : goal.returns-in_default-remove-clause-machine
returns-in_default-remove-clause-machine g c =
    reads_then {M = g.row.M.Denot} c.find_parent.ensures.machine c.node_of.ensures.machine

pub returns-clause-made : goal.returns-clause-made
returns-clause-made g c = λ now.
    let short : is_too_long c.args.path.now ≡ false = ap is_too_long (sym c.names-names.ensures.is) ∙ sym c.is_too_long.ensures ∙ c.if-is_too_long.false in
    let at : Some c.in-Some.name.now ≡ slice_get c.args.path.now (length c.args.path.now - 1) = subst (λ (p : List (List ℕ)). Some c.in-Some.name.now ≡ slice_get p (length p - 1)) c.names-names.ensures.is c.in-Some.ensures.value in
    let some = last_apart c.args.path.now c.in-Some.name.now at in
    let named = c.items.ensures ∙ last_is c.args.path.now c.in-Some.name.now at in
    let has = subst (λ p. HasParent {M = g.row.M.Denot} g.M.Machine.history c.args.store.now c.find_parent.new.store p c.in-Ok.parent) c.names-names.ensures.is c.in-Ok.ensures.parent in
    let change : DirectoryChange = record { number = c.in-Ok.parent.number; bytes = c.remove.new.bytes; from = c.in-Some-remove.from } in
    let again = c.items-2.ensures ∙ last_is c.args.path.now c.in-Some.name.now at in
    let become = subst (λ n. Become (without_entry n) c.in-Ok.parent.bytes.items c.remove.new.bytes.items) again c.in-Some-remove.ensures.entries in
    let less : length c.remove.new.bytes.items ≤ length c.in-Ok.parent.bytes.items = omega (arith, c.in-Some-remove.ensures.len) in
    take_ends {M = g.row.M.Denot} g.M.Machine.history g.M.Machine.faults c.args.store.now now c.args.kind c.args.path.now short some c.find_parent.new.store c.in-Ok.parent has c.in-Some-find.place.ino
    (number_by c.in-Ok.parent.bytes.items c.as_slice.result.now c.items.result.now (last_name c.args.path.now) c.as_slice.ensures.value named c.find.result c.find.ensures.number (Some c.in-Some-find.place) c.in-Some-find.is)
    c.find_parent.ensures.reads c.find_parent.ensures.machine.unchanged c.in-Ok-node_of.node c.in-Ok-node_of.ensures.node (sym c.why_kept.ensures ∙ c.in_default-why_kept.is) change refl become c.in-Some-remove.ensures.front less
    g.M.Machine.blocks g.M.Machine.write_faults g.M.Machine.say_faults c.node_of.new.store
    (reads_both {M = g.row.M.Denot} g.M.Machine.history c.args.store.now c.find_parent.new.store c.find_parent.ensures.reads c.find_parent.ensures.machine.unchanged c.node_of.new.store c.node_of.ensures.reads)
    (reads_then {M = g.row.M.Denot} c.find_parent.ensures.machine c.node_of.ensures.machine) c.drop_node.new.store c.drop_node.ensures.machine c.drop_node.result c.drop_node.ensures.dropped

pub returns-clause-machine : goal.returns-clause-machine
returns-clause-machine g c =
    reads_then {M = g.row.M.Denot} (reads_then {M = g.row.M.Denot} c.find_parent.ensures.machine c.node_of.ensures.machine) c.drop_node.ensures.machine
