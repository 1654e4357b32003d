use Rattle.std.proofs.Common.{List, ℕ, length, refl, ap, ◌∙◌, false}
use Rattle.hl_store.proofs.ReadRuns.{reads_then}
use Rattle.hl_walk.proofs.KeptTrees.{reads_both}
use Rattle.hl_links.proofs.LinkedTrees.{machine_beside}
use Rattle.hl_namespace.specs.NewNodes.{AddsLink, link_growth}
use Rattle.hl_namespace.proofs.NewNodeCalls.{over_asked}
use Rattle.hl_namespace.proofs.NewNodeStores.{tree_added, tree_made}
use Rattle.hl_namespace.proofs.StoppedChanges.{adds_stopped}
use Rattle.hl_namespace.proofs.making.add.Goals as goal

pub returns-in-Err-prepare-clause-added : goal.returns-in-Err-prepare-clause-added
returns-in-Err-prepare-clause-added g c =
    adds_stopped {M = g.row.M.Denot} g.M.Machine.history g.M.Machine.blocks g.M.Machine.faults g.M.Machine.write_faults g.M.Machine.say_faults c.args.store.now c.claim.new.store c.prepare.new.store
    c.claim.ensures.reads c.claim.ensures.machine c.prepare.ensures.reads (AddsLink c.args.changed.now c.args.number c.args.node.now) (link_growth c.args.before (length c.args.changed.now.bytes.items))
    c.in-Err-prepare.step c.in-Err-prepare.ensures.stops

pub returns-in-Err-prepare-clause-machine : goal.returns-in-Err-prepare-clause-machine
returns-in-Err-prepare-clause-machine g c = reads_then {M = g.row.M.Denot} c.claim.ensures.machine c.prepare.ensures.machine

pub returns-clause-added : goal.returns-clause-added
returns-clause-added g c = (
  refl,
  over_asked {M = g.row.M.Denot} c.args.store.now c.link_growth-growth.result (link_growth c.args.before (length c.args.changed.now.bytes.items))
      (c.link_growth-growth.ensures ∙ ap (λ (b : List ℕ). link_growth c.args.before (length b)) c.as_slice-size.ensures.value) c.is_over.result false c.if-is_over.false c.is_over.ensures,
  tree_added {M = g.row.M.Denot} g.M.Machine.history c.args.store.now c.prepare.new.store c.put.new.store c.set_node.new.self c.args.changed.now c.args.number c.args.node.now
      (reads_then {M = g.row.M.Denot} c.claim.ensures.machine c.prepare.ensures.machine).unchanged
      (reads_both {M = g.row.M.Denot} g.M.Machine.history c.args.store.now c.claim.new.store c.claim.ensures.reads c.claim.ensures.machine.unchanged c.prepare.new.store c.prepare.ensures.reads)
      c.put.ensures.puts
      (tree_made {M = g.row.M.Denot} c.put.new.store c.set_node.new.self c.args.number c.args.node.now c.requires.empty c.set_node.ensures.shape c.set_node.ensures.uses c.set_node.ensures.used g.M.Machine.history),
)

pub returns-clause-machine : goal.returns-clause-machine
returns-clause-machine g c =
    reads_then {M = g.row.M.Denot} (reads_then {M = g.row.M.Denot} c.claim.ensures.machine c.prepare.ensures.machine)
    (reads_then {M = g.row.M.Denot} (machine_beside {M = g.row.M.Denot} c.prepare.new.store c.put.new.store c.put.ensures.puts.beside)
    (machine_beside {M = g.row.M.Denot} c.put.new.store c.set_node.new.self c.set_node.ensures.shape.changes.beside))
