use Rattle.std.proofs.Common.{refl}
use Rattle.std.specs.Prelude.{slice_index}
use Rattle.hl_store.proofs.ReadRuns.{reads_then}
use Rattle.hl_walk.proofs.KeptTrees.{reads_both}
use Rattle.hl_links.proofs.LinkedTrees.{machine_beside}
use Rattle.hl_namespace.specs.Removals.{Unlinks}
use Rattle.hl_namespace.proofs.RemovalCalls.{tree_unlinked}
use Rattle.hl_namespace.proofs.StoppedChanges.{changes_stopped}
use Rattle.hl_namespace.proofs.removing.drop_node.Goals as goal

pub returns-in-Err-prepare-clause-dropped : goal.returns-in-Err-prepare-clause-dropped
returns-in-Err-prepare-clause-dropped g c =
    changes_stopped {M = g.row.M.Denot} g.M.Machine.history g.M.Machine.blocks g.M.Machine.faults g.M.Machine.write_faults g.M.Machine.say_faults c.args.store.now c.prepare.new.store c.prepare-2.new.store
    c.prepare.ensures.reads c.prepare.ensures.machine c.prepare-2.ensures.reads (Unlinks c.args.changed.now c.args.number) c.in-Err-prepare.step c.in-Err-prepare.ensures.stops

pub returns-in-Err-prepare-clause-machine : goal.returns-in-Err-prepare-clause-machine
returns-in-Err-prepare-clause-machine g c = reads_then {M = g.row.M.Denot} c.prepare.ensures.machine c.prepare-2.ensures.machine

pub returns-clause-dropped : goal.returns-clause-dropped
returns-clause-dropped g c = (
  refl,
  tree_unlinked {M = g.row.M.Denot} g.M.Machine.history c.args.store.now c.prepare-2.new.store c.put.new.store c.free.new.self c.args.changed.now c.args.number (slice_index c.put.new.store.uses c.args.number)
      (reads_then {M = g.row.M.Denot} c.prepare.ensures.machine c.prepare-2.ensures.machine).unchanged
      (reads_both {M = g.row.M.Denot} g.M.Machine.history c.args.store.now c.prepare.new.store c.prepare.ensures.reads c.prepare.ensures.machine.unchanged c.prepare-2.new.store c.prepare-2.ensures.reads)
      c.put.ensures.puts c.free.ensures.shape c.free.ensures.uses,
)

pub returns-clause-machine : goal.returns-clause-machine
returns-clause-machine g c =
    reads_then {M = g.row.M.Denot} (reads_then {M = g.row.M.Denot} c.prepare.ensures.machine c.prepare-2.ensures.machine)
    (reads_then {M = g.row.M.Denot} (machine_beside {M = g.row.M.Denot} c.prepare-2.new.store c.put.new.store c.put.ensures.puts.beside)
    (machine_beside {M = g.row.M.Denot} c.put.new.store c.free.new.self c.free.ensures.shape.changes.beside))
