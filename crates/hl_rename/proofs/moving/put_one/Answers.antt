use Rattle.std.proofs.Common.{ℕ, List, length, true, false, refl, ap, ◌∙◌}
use Rattle.hl_store.proofs.ReadRuns.{reads_then}
use Rattle.hl_walk.proofs.KeptTrees.{reads_both, reads_nothing}
use Rattle.hl_links.proofs.LinkedTrees.{tree_so}
use Rattle.hl_links.proofs.StoppedCalls.{stops_since}
use Rattle.hl_rename.specs.Moves.{PutsOne, PutsSized, put_growth}
use Rattle.hl_rename.proofs.MoveCharges.{tells_one, told_over}
use Rattle.hl_rename.proofs.PutStores.{reads_beside, stops_moving, tree_behind}
use Rattle.hl_rename.proofs.moving.put_one.Goals as goal

pub returns-then-is_over-clause-moves : goal.returns-then-is_over-clause-moves
returns-then-is_over-clause-moves g c =
    (reads_nothing {M = g.row.M.Denot} g.M.Machine.history c.args.store.now, tells_one {M = g.row.M.Denot} c.args.store.now true c.args.before c.args.changed.now c.args.target (told_over {M = g.row.M.Denot} c.args.store.now true c.is_over.result c.put_growth-growth.result (put_growth c.args.before (length c.args.changed.now.bytes.items)) (c.put_growth-growth.ensures ∙ ap (λ (bytes : List ℕ). put_growth c.args.before (length bytes)) c.as_slice-size.ensures.value) c.is_over.ensures c.if-is_over.true))

pub returns-in-Err-prepare_target-clause-moves : goal.returns-in-Err-prepare_target-clause-moves
returns-in-Err-prepare_target-clause-moves g c =
    let reads = reads_both {M = g.row.M.Denot} g.M.Machine.history c.args.store.now c.prepare.new.store c.prepare.ensures.reads c.prepare.ensures.machine.unchanged c.prepare_target.new.store c.prepare_target.ensures.reads in
    stops_moving {M = g.row.M.Denot} g.M.Machine.history g.M.Machine.faults c.args.store.now c.prepare_target.new.store (PutsSized c.args.before c.args.changed.now c.args.target) reads c.in-Err-prepare_target.step
    (stops_since {M = g.row.M.Denot} g.M.Machine.faults c.args.store.now c.prepare.new.store c.prepare_target.new.store c.prepare.ensures.machine.faults_most c.in-Err-prepare_target.step c.in-Err-prepare_target.ensures.stops)

pub returns-in-Err-prepare_target-clause-machine : goal.returns-in-Err-prepare_target-clause-machine
returns-in-Err-prepare_target-clause-machine g c =
    reads_then {M = g.row.M.Denot} c.prepare.ensures.machine c.prepare_target.ensures.machine

pub returns-clause-moves : goal.returns-clause-moves
returns-clause-moves g c =
    let reads = reads_both {M = g.row.M.Denot} g.M.Machine.history c.args.store.now c.prepare.new.store c.prepare.ensures.reads c.prepare.ensures.machine.unchanged c.prepare_target.new.store c.prepare_target.ensures.reads in
    let machine = reads_then {M = g.row.M.Denot} c.prepare.ensures.machine c.prepare_target.ensures.machine in (
      refl,
      tells_one {M = g.row.M.Denot} c.args.store.now false c.args.before c.args.changed.now c.args.target (told_over {M = g.row.M.Denot} c.args.store.now false c.is_over.result c.put_growth-growth.result (put_growth c.args.before (length c.args.changed.now.bytes.items)) (c.put_growth-growth.ensures ∙ ap (λ (bytes : List ℕ). put_growth c.args.before (length bytes)) c.as_slice-size.ensures.value) c.is_over.ensures c.if-is_over.false),
      tree_so {M = g.row.M.Denot} g.M.Machine.history c.args.store.now c.put_and_free.new.store (PutsOne c.args.changed.now c.args.target) (PutsSized c.args.before c.args.changed.now c.args.target) (λ before after sized. sized.puts) (tree_behind {M = g.row.M.Denot} g.M.Machine.history c.args.store.now c.prepare_target.new.store reads machine.unchanged c.put_and_free.new.store (PutsOne c.args.changed.now c.args.target) c.put_and_free.ensures.tree),
    )

pub returns-clause-machine : goal.returns-clause-machine
returns-clause-machine g c =
    let machine = reads_then {M = g.row.M.Denot} c.prepare.ensures.machine c.prepare_target.ensures.machine in
    reads_then {M = g.row.M.Denot} machine (reads_beside {M = g.row.M.Denot} g.M.Machine.history g.M.Machine.blocks g.M.Machine.faults g.M.Machine.write_faults g.M.Machine.say_faults c.prepare_target.new.store c.put_and_free.new.store c.put_and_free.ensures.beside)
