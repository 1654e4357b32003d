use Rattle.std.proofs.Common.{rules, ◌≡◌, ℕ, ◌-◌, true, false, List, length, Some, None, refl, ap, ◌∙◌, sym, subst}
use Rattle.std.specs.Prelude.{slice_get}
use Rattle.hl_tree.specs.Names.{is_too_long}
use Rattle.hl_dir.specs.Dirs.{IsName}
use Rattle.hl_paths.specs.Entries.{with_entry}
use Rattle.hl_paths.specs.Finding.{last_name}
use Rattle.hl_entries.specs.Places.{Become}
use Rattle.hl_store.specs.Shapes.{IsNumber}
use Rattle.hl_store.proofs.ReadRuns.{reads_then}
use Rattle.hl_walk.specs.Walks.{Halts, HasNoParent, HasParent}
use Rattle.hl_calls.specs.Calls.{MakesCall}
use Rattle.hl_calls.proofs.Ends.{leaves_nodes}
use Rattle.hl_links.specs.declared.changing.DirectoryChange.{DirectoryChange}
use Rattle.hl_links.proofs.FoundLinks.{last_apart, last_is, last_none, last_some, last_valid}
use Rattle.hl_namespace.specs.NewNodes.{AddsLink, AddsOrStops, link_growth, making}
use Rattle.hl_namespace.proofs.FoundNames.{there_by}
use Rattle.hl_namespace.proofs.NewNodeCalls.{make_ends, make_halted, make_refused_full, make_refused_long, make_refused_root, make_refused_there}
use Rattle.hl_namespace.proofs.making.make.Goals as goal

pub returns-then-is_too_long-clause-made : goal.returns-then-is_too_long-clause-made
returns-then-is_too_long-clause-made g c =
    let long : is_too_long c.args.path.now ≡ true = ap is_too_long (sym c.names-names.ensures.is) ∙ sym c.is_too_long.ensures ∙ c.if-is_too_long.true in
    make_refused_long {M = g.row.M.Denot} g.M.Machine.history g.M.Machine.faults c.args.store.now c.args.node.now c.args.path.now long

pub returns-in_default-clause-made : goal.returns-in_default-clause-made
returns-in_default-clause-made g c =
    let short : is_too_long c.args.path.now ≡ false = ap is_too_long (sym c.names-names.ensures.is) ∙ sym c.is_too_long.ensures ∙ c.if-is_too_long.false in
    let none : None ≡ slice_get c.args.path.now (length c.args.path.now - 1) = subst (λ (p : List (List ℕ)). None ≡ slice_get p (length p - 1)) c.names-names.ensures.is c.in_default.ensures.value in
    make_refused_root {M = g.row.M.Denot} g.M.Machine.history g.M.Machine.faults c.args.store.now c.args.node.now c.args.path.now short (last_none c.args.path.now none)

pub returns-in-Err-clause-made : goal.returns-in-Err-clause-made
returns-in-Err-clause-made g c =
    let short : is_too_long c.args.path.now ≡ false = ap is_too_long (sym c.names-names.ensures.is) ∙ sym c.is_too_long.ensures ∙ c.if-is_too_long.false in
    let at : Some c.in-Some.name.now ≡ slice_get c.args.path.now (length c.args.path.now - 1) = subst (λ (p : List (List ℕ)). Some c.in-Some.name.now ≡ slice_get p (length p - 1)) c.names-names.ensures.is c.in-Some.ensures.value in
    let some = last_apart c.args.path.now c.in-Some.name.now at in
    let halts = subst (λ p. Halts {M = g.row.M.Denot} g.M.Machine.history g.M.Machine.faults c.args.store.now c.find_parent.new.store (HasNoParent p) c.in-Err.halt) c.names-names.ensures.is c.in-Err.ensures.halts in
    subst (λ s. MakesCall {M = g.row.M.Denot} g.M.Machine.history g.M.Machine.faults c.args.store.now c.find_parent.new.store c.args.node.now.used (making c.args.node.now.kind c.args.path.now) s) (sym c.halted.ensures)
    (make_halted {M = g.row.M.Denot} g.M.Machine.history g.M.Machine.faults c.args.store.now c.args.node.now c.args.path.now short some c.find_parent.new.store c.find_parent.ensures.machine.unchanged c.find_parent.ensures.reads c.in-Err.halt halts)

pub returns-then-is_some-clause-made : goal.returns-then-is_some-clause-made
returns-then-is_some-clause-made g c =
    let short : is_too_long c.args.path.now ≡ false = ap is_too_long (sym c.names-names.ensures.is) ∙ sym c.is_too_long.ensures ∙ c.if-is_too_long.false in
    let at : Some c.in-Some.name.now ≡ slice_get c.args.path.now (length c.args.path.now - 1) = subst (λ (p : List (List ℕ)). Some c.in-Some.name.now ≡ slice_get p (length p - 1)) c.names-names.ensures.is c.in-Some.ensures.value in
    let some = last_apart c.args.path.now c.in-Some.name.now at in
    let named = c.items.ensures ∙ last_is c.args.path.now c.in-Some.name.now at in
    let has = subst (λ p. HasParent {M = g.row.M.Denot} g.M.Machine.history c.args.store.now c.find_parent.new.store p c.in-Ok.parent) c.names-names.ensures.is c.in-Ok.ensures.parent in
    make_refused_there {M = g.row.M.Denot} g.M.Machine.history g.M.Machine.faults c.args.store.now c.args.node.now c.args.path.now short some c.find_parent.new.store c.find_parent.ensures.machine.unchanged c.find_parent.ensures.reads c.in-Ok.parent has
    (there_by c.in-Ok.parent.bytes.items c.as_slice.result.now c.items.result.now (last_name c.args.path.now) c.as_slice.ensures.value named c.find.result c.find.ensures.number true (sym c.is_some.ensures ∙ c.if-is_some.true))

pub returns-in_default-lowest_free-clause-made : goal.returns-in_default-lowest_free-clause-made
returns-in_default-lowest_free-clause-made g c =
    let short : is_too_long c.args.path.now ≡ false = ap is_too_long (sym c.names-names.ensures.is) ∙ sym c.is_too_long.ensures ∙ c.if-is_too_long.false in
    let at : Some c.in-Some.name.now ≡ slice_get c.args.path.now (length c.args.path.now - 1) = subst (λ (p : List (List ℕ)). Some c.in-Some.name.now ≡ slice_get p (length p - 1)) c.names-names.ensures.is c.in-Some.ensures.value in
    let some = last_apart c.args.path.now c.in-Some.name.now at in
    let named = c.items.ensures ∙ last_is c.args.path.now c.in-Some.name.now at in
    let has = subst (λ p. HasParent {M = g.row.M.Denot} g.M.Machine.history c.args.store.now c.find_parent.new.store p c.in-Ok.parent) c.names-names.ensures.is c.in-Ok.ensures.parent in
    make_refused_full {M = g.row.M.Denot} g.M.Machine.history g.M.Machine.faults c.args.store.now c.args.node.now c.args.path.now short some c.find_parent.new.store c.find_parent.ensures.machine.unchanged c.find_parent.ensures.reads c.in-Ok.parent has
    (there_by c.in-Ok.parent.bytes.items c.as_slice.result.now c.items.result.now (last_name c.args.path.now) c.as_slice.ensures.value named c.find.result c.find.ensures.number false (sym c.is_some.ensures ∙ c.if-is_some.false)) c.in_default-lowest_free.ensures

pub returns-then-not-is_number-clause-made : goal.returns-then-not-is_number-clause-made
returns-then-not-is_number-clause-made g c =
    leaves_nodes {M = g.row.M.Denot} g.M.Machine.history c.args.store.now c.find_parent.new.store c.find_parent.ensures.machine.unchanged c.find_parent.ensures.reads

pub returns-in_default-insert-clause-made : goal.returns-in_default-insert-clause-made
returns-in_default-insert-clause-made g c =
    leaves_nodes {M = g.row.M.Denot} g.M.Machine.history c.args.store.now c.find_parent.new.store c.find_parent.ensures.machine.unchanged c.find_parent.ensures.reads

pub returns-clause-made : goal.returns-clause-made
returns-clause-made g c =
    let short : is_too_long c.args.path.now ≡ false = ap is_too_long (sym c.names-names.ensures.is) ∙ sym c.is_too_long.ensures ∙ c.if-is_too_long.false in
    let at : Some c.in-Some.name.now ≡ slice_get c.args.path.now (length c.args.path.now - 1) = subst (λ (p : List (List ℕ)). Some c.in-Some.name.now ≡ slice_get p (length p - 1)) c.names-names.ensures.is c.in-Some.ensures.value in
    let some = last_apart c.args.path.now c.in-Some.name.now at in
    let named = c.items.ensures ∙ last_is c.args.path.now c.in-Some.name.now at in
    let has = subst (λ p. HasParent {M = g.row.M.Denot} g.M.Machine.history c.args.store.now c.find_parent.new.store p c.in-Ok.parent) c.names-names.ensures.is c.in-Ok.ensures.parent in
    let change : DirectoryChange = record { number = c.in-Ok.parent.number; bytes = c.insert.new.bytes; from = c.in-Ok-insert.from } in
    let is : IsNumber {M = g.row.M.Denot} c.find_parent.new.store c.in-Some-lowest_free.number = search rules in
    let again = c.items-2.ensures ∙ last_is c.args.path.now c.in-Some.name.now at in
    let valid = subst IsName (sym again) (last_valid c.args.path.now (last_some c.args.path.now c.in-Some.name.now at) c.names-names.ensures.valid short) in
    let become = subst (λ n. Become (with_entry n c.in-Some-lowest_free.number) c.in-Ok.parent.bytes.items c.insert.new.bytes.items) again (c.in-Ok-insert.ensures.entries valid) in
    let ends = subst (λ (b : List ℕ). AddsOrStops {M = g.row.M.Denot} g.M.Machine.history g.M.Machine.faults c.find_parent.new.store c.add.new.store (link_growth (length b) (length c.insert.new.bytes.items)) (AddsLink change c.in-Some-lowest_free.number c.args.node.now) c.add.result) c.as_slice-before.ensures.value c.add.ensures.added in
    make_ends {M = g.row.M.Denot} g.M.Machine.history g.M.Machine.faults c.args.store.now c.args.node.now c.args.path.now short some c.find_parent.new.store c.find_parent.ensures.machine.unchanged c.find_parent.ensures.reads c.in-Ok.parent has
    (there_by c.in-Ok.parent.bytes.items c.as_slice.result.now c.items.result.now (last_name c.args.path.now) c.as_slice.ensures.value named c.find.result c.find.ensures.number false (sym c.is_some.ensures ∙ c.if-is_some.false))
    c.in-Some-lowest_free.number c.in-Some-lowest_free.ensures is change refl become c.in-Ok-insert.ensures.front g.M.Machine.blocks g.M.Machine.write_faults g.M.Machine.say_faults c.find_parent.ensures.machine c.add.new.store c.add.ensures.machine c.add.result ends

pub returns-clause-machine : goal.returns-clause-machine
returns-clause-machine g c =
    reads_then {M = g.row.M.Denot} c.find_parent.ensures.machine c.add.ensures.machine
