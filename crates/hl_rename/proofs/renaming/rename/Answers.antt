use Rattle.std.proofs.Common.{◌≡◌, ℕ, ◌-◌, false, List, length, is_some, Some, None, ap, ◌∙◌, sym, subst}
use Rattle.std.specs.Prelude.{◌&&◌, slice_get}
use Rattle.std.specs.Ordering.{eq_by_cmp}
use Rattle.hl_tree.specs.declared.call.Call.TheVariants as calls
use Rattle.hl_tree.specs.declared.call.Reply.TheVariants as replies
use Rattle.hl_tree.specs.declared.call.Refusal.{Refusal}
use Rattle.hl_tree.specs.Names.{below, is_too_long, path_cmp}
use Rattle.hl_dir.specs.Dirs.{IsName}
use Rattle.hl_store.proofs.ReadRuns.{reads_then}
use Rattle.hl_walk.specs.Walks.{Halts}
use Rattle.hl_walk.proofs.KeptTrees.{reads_both}
use Rattle.hl_calls.specs.declared.step.FileStep.{FileStep}
use Rattle.hl_calls.specs.declared.step.FileStep.TheVariants as step
use Rattle.hl_calls.specs.Calls.{MakesCall}
use Rattle.hl_links.proofs.FoundLinks.{last_apart, last_is, last_none, last_some, last_valid}
use Rattle.hl_rename.specs.RenameEnds.{HasNoSource, HasNoTarget, HasSource, HasTarget, is_dir}
use Rattle.hl_rename.proofs.RenameCalls.{ends_moved, ends_same, ends_sourceless, ends_targetless, refused_below, refused_long, refused_onto_root, refused_root, refused_to_long}
use Rattle.hl_rename.proofs.renaming.rename.Goals as goal

pub returns-then-is_too_long-clause-made : goal.returns-then-is_too_long-clause-made
returns-then-is_too_long-clause-made g c =
    refused_long {M = g.row.M.Denot} g.M.Machine.history g.M.Machine.faults c.args.store.now c.args.now c.args.from.now c.args.to.now (ap is_too_long (sym c.names-path.ensures.is) ∙ sym c.is_too_long.ensures ∙ c.if-is_too_long.true)

pub returns-then-is_too_long-2-clause-made : goal.returns-then-is_too_long-2-clause-made
returns-then-is_too_long-2-clause-made g c =
    let short : is_too_long c.args.from.now ≡ false = ap is_too_long (sym c.names-path.ensures.is) ∙ sym c.is_too_long.ensures ∙ c.if-is_too_long.false in
    refused_to_long {M = g.row.M.Denot} g.M.Machine.history g.M.Machine.faults c.args.store.now c.args.now c.args.from.now c.args.to.now short (ap is_too_long (sym c.names-to_path.ensures.is) ∙ sym c.is_too_long-2.ensures ∙ c.if-is_too_long-2.true)

pub returns-in_default-clause-made : goal.returns-in_default-clause-made
returns-in_default-clause-made g c =
    let short : is_too_long c.args.from.now ≡ false = ap is_too_long (sym c.names-path.ensures.is) ∙ sym c.is_too_long.ensures ∙ c.if-is_too_long.false in
    let to_short : is_too_long c.args.to.now ≡ false = ap is_too_long (sym c.names-to_path.ensures.is) ∙ sym c.is_too_long-2.ensures ∙ c.if-is_too_long-2.false in
    let none : None ≡ slice_get c.args.from.now (length c.args.from.now - 1) = subst (λ (p : List (List ℕ)). None ≡ slice_get p (length p - 1)) c.names-path.ensures.is c.in_default.ensures.value in
    refused_root {M = g.row.M.Denot} g.M.Machine.history g.M.Machine.faults c.args.store.now c.args.now c.args.from.now c.args.to.now short to_short (last_none c.args.from.now none)

pub returns-in-Err-clause-made : goal.returns-in-Err-clause-made
returns-in-Err-clause-made g c =
    let short : is_too_long c.args.from.now ≡ false = ap is_too_long (sym c.names-path.ensures.is) ∙ sym c.is_too_long.ensures ∙ c.if-is_too_long.false in
    let to_short : is_too_long c.args.to.now ≡ false = ap is_too_long (sym c.names-to_path.ensures.is) ∙ sym c.is_too_long-2.ensures ∙ c.if-is_too_long-2.false in
    let at : Some c.in-Some.name.now ≡ slice_get c.args.from.now (length c.args.from.now - 1) = subst (λ (p : List (List ℕ)). Some c.in-Some.name.now ≡ slice_get p (length p - 1)) c.names-path.ensures.is c.in-Some.ensures.value in
    let some = last_apart c.args.from.now c.in-Some.name.now at in
    let halts = subst (λ (p : List (List ℕ)). Halts {M = g.row.M.Denot} g.M.Machine.history g.M.Machine.faults c.args.store.now c.find_source.new.store (HasNoSource p) c.in-Err.halt) c.names-path.ensures.is c.in-Err.ensures.halts in
    subst (λ (s : FileStep). MakesCall {M = g.row.M.Denot} g.M.Machine.history g.M.Machine.faults c.args.store.now c.find_source.new.store c.args.now (calls.Rename c.args.from.now c.args.to.now) s) (sym c.halted.ensures)
    (ends_sourceless {M = g.row.M.Denot} g.M.Machine.history g.M.Machine.faults c.args.store.now c.args.now c.args.from.now c.args.to.now short to_short some c.find_source.new.store c.find_source.ensures.machine.unchanged c.find_source.ensures.reads c.in-Err.halt halts)

pub returns-then-is_same-clause-made : goal.returns-then-is_same-clause-made
returns-then-is_same-clause-made g c =
    let short : is_too_long c.args.from.now ≡ false = ap is_too_long (sym c.names-path.ensures.is) ∙ sym c.is_too_long.ensures ∙ c.if-is_too_long.false in
    let to_short : is_too_long c.args.to.now ≡ false = ap is_too_long (sym c.names-to_path.ensures.is) ∙ sym c.is_too_long-2.ensures ∙ c.if-is_too_long-2.false in
    let at : Some c.in-Some.name.now ≡ slice_get c.args.from.now (length c.args.from.now - 1) = subst (λ (p : List (List ℕ)). Some c.in-Some.name.now ≡ slice_get p (length p - 1)) c.names-path.ensures.is c.in-Some.ensures.value in
    let some = last_apart c.args.from.now c.in-Some.name.now at in
    let has = subst (λ (p : List (List ℕ)). HasSource {M = g.row.M.Denot} g.M.Machine.history c.args.store.now c.find_source.new.store p c.in-Ok.source) c.names-path.ensures.is c.in-Ok.ensures.source in
    ends_same {M = g.row.M.Denot} g.M.Machine.history g.M.Machine.faults c.args.store.now c.args.now c.args.from.now c.args.to.now short to_short some c.find_source.new.store c.in-Ok.source has c.find_source.ensures.machine.unchanged c.find_source.ensures.reads ((λ i. eq_by_cmp path_cmp (sym c.names-path.ensures.is i) (sym c.names-to_path.ensures.is i)) ∙ sym c.is_same.ensures ∙ c.if-is_same.true)

pub returns-then-is_below_itself-clause-made : goal.returns-then-is_below_itself-clause-made
returns-then-is_below_itself-clause-made g c =
    let short : is_too_long c.args.from.now ≡ false = ap is_too_long (sym c.names-path.ensures.is) ∙ sym c.is_too_long.ensures ∙ c.if-is_too_long.false in
    let to_short : is_too_long c.args.to.now ≡ false = ap is_too_long (sym c.names-to_path.ensures.is) ∙ sym c.is_too_long-2.ensures ∙ c.if-is_too_long-2.false in
    let at : Some c.in-Some.name.now ≡ slice_get c.args.from.now (length c.args.from.now - 1) = subst (λ (p : List (List ℕ)). Some c.in-Some.name.now ≡ slice_get p (length p - 1)) c.names-path.ensures.is c.in-Some.ensures.value in
    let some = last_apart c.args.from.now c.in-Some.name.now at in
    let has = subst (λ (p : List (List ℕ)). HasSource {M = g.row.M.Denot} g.M.Machine.history c.args.store.now c.find_source.new.store p c.in-Ok.source) c.names-path.ensures.is c.in-Ok.ensures.source in
    let other : eq_by_cmp path_cmp c.args.from.now c.args.to.now ≡ false = (λ i. eq_by_cmp path_cmp (sym c.names-path.ensures.is i) (sym c.names-to_path.ensures.is i)) ∙ sym c.is_same.ensures ∙ c.if-is_same.false in
    refused_below {M = g.row.M.Denot} g.M.Machine.history g.M.Machine.faults c.args.store.now c.args.now c.args.from.now c.args.to.now short to_short some c.find_source.new.store c.in-Ok.source has c.find_source.ensures.machine.unchanged c.find_source.ensures.reads other ((λ i. is_dir c.in-Ok.source.kind && is_some (below (sym c.names-path.ensures.is i) (sym c.names-to_path.ensures.is i))) ∙ sym c.is_below_itself.ensures ∙ c.if-is_below_itself.true)

pub returns-in_default-last-clause-made : goal.returns-in_default-last-clause-made
returns-in_default-last-clause-made g c =
    let short : is_too_long c.args.from.now ≡ false = ap is_too_long (sym c.names-path.ensures.is) ∙ sym c.is_too_long.ensures ∙ c.if-is_too_long.false in
    let to_short : is_too_long c.args.to.now ≡ false = ap is_too_long (sym c.names-to_path.ensures.is) ∙ sym c.is_too_long-2.ensures ∙ c.if-is_too_long-2.false in
    let at : Some c.in-Some.name.now ≡ slice_get c.args.from.now (length c.args.from.now - 1) = subst (λ (p : List (List ℕ)). Some c.in-Some.name.now ≡ slice_get p (length p - 1)) c.names-path.ensures.is c.in-Some.ensures.value in
    let some = last_apart c.args.from.now c.in-Some.name.now at in
    let has = subst (λ (p : List (List ℕ)). HasSource {M = g.row.M.Denot} g.M.Machine.history c.args.store.now c.find_source.new.store p c.in-Ok.source) c.names-path.ensures.is c.in-Ok.ensures.source in
    let other : eq_by_cmp path_cmp c.args.from.now c.args.to.now ≡ false = (λ i. eq_by_cmp path_cmp (sym c.names-path.ensures.is i) (sym c.names-to_path.ensures.is i)) ∙ sym c.is_same.ensures ∙ c.if-is_same.false in
    let apart : (is_dir c.in-Ok.source.kind && is_some (below c.args.from.now c.args.to.now)) ≡ false = (λ i. is_dir c.in-Ok.source.kind && is_some (below (sym c.names-path.ensures.is i) (sym c.names-to_path.ensures.is i))) ∙ sym c.is_below_itself.ensures ∙ c.if-is_below_itself.false in
    let none : None ≡ slice_get c.args.to.now (length c.args.to.now - 1) = subst (λ (p : List (List ℕ)). None ≡ slice_get p (length p - 1)) c.names-to_path.ensures.is c.in_default-last.ensures.value in
    subst (λ (why : Refusal). MakesCall {M = g.row.M.Denot} g.M.Machine.history g.M.Machine.faults c.args.store.now c.find_source.new.store c.args.now (calls.Rename c.args.from.now c.args.to.now) (step.Done (replies.Refused why))) (sym c.root_kept.ensures)
    (refused_onto_root {M = g.row.M.Denot} g.M.Machine.history g.M.Machine.faults c.args.store.now c.args.now c.args.from.now c.args.to.now short to_short some c.find_source.new.store c.in-Ok.source has c.find_source.ensures.machine.unchanged c.find_source.ensures.reads other apart (last_none c.args.to.now none))

pub returns-in-Err-find_target-clause-made : goal.returns-in-Err-find_target-clause-made
returns-in-Err-find_target-clause-made g c =
    let short : is_too_long c.args.from.now ≡ false = ap is_too_long (sym c.names-path.ensures.is) ∙ sym c.is_too_long.ensures ∙ c.if-is_too_long.false in
    let to_short : is_too_long c.args.to.now ≡ false = ap is_too_long (sym c.names-to_path.ensures.is) ∙ sym c.is_too_long-2.ensures ∙ c.if-is_too_long-2.false in
    let at : Some c.in-Some.name.now ≡ slice_get c.args.from.now (length c.args.from.now - 1) = subst (λ (p : List (List ℕ)). Some c.in-Some.name.now ≡ slice_get p (length p - 1)) c.names-path.ensures.is c.in-Some.ensures.value in
    let some = last_apart c.args.from.now c.in-Some.name.now at in
    let has = subst (λ (p : List (List ℕ)). HasSource {M = g.row.M.Denot} g.M.Machine.history c.args.store.now c.find_source.new.store p c.in-Ok.source) c.names-path.ensures.is c.in-Ok.ensures.source in
    let other : eq_by_cmp path_cmp c.args.from.now c.args.to.now ≡ false = (λ i. eq_by_cmp path_cmp (sym c.names-path.ensures.is i) (sym c.names-to_path.ensures.is i)) ∙ sym c.is_same.ensures ∙ c.if-is_same.false in
    let apart : (is_dir c.in-Ok.source.kind && is_some (below c.args.from.now c.args.to.now)) ≡ false = (λ i. is_dir c.in-Ok.source.kind && is_some (below (sym c.names-path.ensures.is i) (sym c.names-to_path.ensures.is i))) ∙ sym c.is_below_itself.ensures ∙ c.if-is_below_itself.false in
    let to_at : Some c.in-Some-last.to_name.now ≡ slice_get c.args.to.now (length c.args.to.now - 1) = subst (λ (p : List (List ℕ)). Some c.in-Some-last.to_name.now ≡ slice_get p (length p - 1)) c.names-to_path.ensures.is c.in-Some-last.ensures.value in
    let to_some = last_apart c.args.to.now c.in-Some-last.to_name.now to_at in
    let halts = subst (λ (p : List (List ℕ)). Halts {M = g.row.M.Denot} g.M.Machine.history g.M.Machine.faults c.find_source.new.store c.find_target.new.store (HasNoTarget c.in-Ok.source.kind p) c.in-Err-find_target.halt) c.names-to_path.ensures.is c.in-Err-find_target.ensures.halts in
    subst (λ (s : FileStep). MakesCall {M = g.row.M.Denot} g.M.Machine.history g.M.Machine.faults c.args.store.now c.find_target.new.store c.args.now (calls.Rename c.args.from.now c.args.to.now) s) (sym c.halted-in-Err-find_target.ensures)
    (ends_targetless {M = g.row.M.Denot} g.M.Machine.history g.M.Machine.faults c.args.store.now c.args.now c.args.from.now c.args.to.now short to_short some c.find_source.new.store c.in-Ok.source has c.find_source.ensures.machine.unchanged c.find_source.ensures.reads other apart to_some g.M.Machine.blocks g.M.Machine.write_faults g.M.Machine.say_faults c.find_source.ensures.machine c.find_target.new.store c.find_target.ensures.machine c.find_target.ensures.reads c.in-Err-find_target.halt halts)

pub returns-in-Err-find_target-clause-machine : goal.returns-in-Err-find_target-clause-machine
returns-in-Err-find_target-clause-machine g c =
    reads_then {M = g.row.M.Denot} c.find_source.ensures.machine c.find_target.ensures.machine

pub relink-requires-clause-name : goal.relink-requires-clause-name
relink-requires-clause-name g c =
    let to_short : is_too_long c.args.to.now ≡ false = ap is_too_long (sym c.names-to_path.ensures.is) ∙ sym c.is_too_long-2.ensures ∙ c.if-is_too_long-2.false in
    let to_at : Some c.in-Some-last.to_name.now ≡ slice_get c.args.to.now (length c.args.to.now - 1) = subst (λ (p : List (List ℕ)). Some c.in-Some-last.to_name.now ≡ slice_get p (length p - 1)) c.names-to_path.ensures.is c.in-Some-last.ensures.value in
    let named = c.items-4.ensures ∙ last_is c.args.to.now c.in-Some-last.to_name.now to_at in
    subst IsName (sym named) (last_valid c.args.to.now (last_some c.args.to.now c.in-Some-last.to_name.now to_at) c.names-to_path.ensures.valid to_short)

pub returns-clause-made : goal.returns-clause-made
returns-clause-made g c =
    let short : is_too_long c.args.from.now ≡ false = ap is_too_long (sym c.names-path.ensures.is) ∙ sym c.is_too_long.ensures ∙ c.if-is_too_long.false in
    let to_short : is_too_long c.args.to.now ≡ false = ap is_too_long (sym c.names-to_path.ensures.is) ∙ sym c.is_too_long-2.ensures ∙ c.if-is_too_long-2.false in
    let at : Some c.in-Some.name.now ≡ slice_get c.args.from.now (length c.args.from.now - 1) = subst (λ (p : List (List ℕ)). Some c.in-Some.name.now ≡ slice_get p (length p - 1)) c.names-path.ensures.is c.in-Some.ensures.value in
    let some = last_apart c.args.from.now c.in-Some.name.now at in
    let has = subst (λ (p : List (List ℕ)). HasSource {M = g.row.M.Denot} g.M.Machine.history c.args.store.now c.find_source.new.store p c.in-Ok.source) c.names-path.ensures.is c.in-Ok.ensures.source in
    let other : eq_by_cmp path_cmp c.args.from.now c.args.to.now ≡ false = (λ i. eq_by_cmp path_cmp (sym c.names-path.ensures.is i) (sym c.names-to_path.ensures.is i)) ∙ sym c.is_same.ensures ∙ c.if-is_same.false in
    let apart : (is_dir c.in-Ok.source.kind && is_some (below c.args.from.now c.args.to.now)) ≡ false = (λ i. is_dir c.in-Ok.source.kind && is_some (below (sym c.names-path.ensures.is i) (sym c.names-to_path.ensures.is i))) ∙ sym c.is_below_itself.ensures ∙ c.if-is_below_itself.false in
    let to_at : Some c.in-Some-last.to_name.now ≡ slice_get c.args.to.now (length c.args.to.now - 1) = subst (λ (p : List (List ℕ)). Some c.in-Some-last.to_name.now ≡ slice_get p (length p - 1)) c.names-to_path.ensures.is c.in-Some-last.ensures.value in
    let to_some = last_apart c.args.to.now c.in-Some-last.to_name.now to_at in
    let goal_has = subst (λ (p : List (List ℕ)). HasTarget {M = g.row.M.Denot} g.M.Machine.history c.find_source.new.store c.find_target.new.store c.in-Ok.source.kind p c.in-Ok-find_target.target) c.names-to_path.ensures.is c.in-Ok-find_target.ensures.target in
    let behind = reads_then {M = g.row.M.Denot} c.find_source.ensures.machine c.find_target.ensures.machine in
    let both = reads_both {M = g.row.M.Denot} g.M.Machine.history c.args.store.now c.find_source.new.store c.find_source.ensures.reads c.find_source.ensures.machine.unchanged c.find_target.new.store c.find_target.ensures.reads in
    ends_moved {M = g.row.M.Denot} g.M.Machine.history g.M.Machine.faults c.args.store.now c.args.now c.args.from.now c.args.to.now short to_short some c.find_source.new.store c.in-Ok.source has c.find_source.ensures.machine.unchanged c.find_source.ensures.reads other apart to_some g.M.Machine.blocks g.M.Machine.write_faults g.M.Machine.say_faults c.find_source.ensures.machine c.find_target.new.store c.in-Ok-find_target.target goal_has behind both c.items-3.result.now c.items-4.result.now (c.items-3.ensures ∙ last_is c.args.from.now c.in-Some.name.now at) (c.items-4.ensures ∙ last_is c.args.to.now c.in-Some-last.to_name.now to_at)
    c.relink.new.store c.relink.ensures.machine c.relink.result c.relink.ensures.moves

pub returns-clause-machine : goal.returns-clause-machine
returns-clause-machine g c =
    reads_then {M = g.row.M.Denot} (reads_then {M = g.row.M.Denot} c.find_source.ensures.machine c.find_target.ensures.machine) c.relink.ensures.machine
