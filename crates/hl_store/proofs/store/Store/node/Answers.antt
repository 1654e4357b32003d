use Rattle.std.proofs.Common.{sym, subst}
use Rattle.hl_store.specs.declared.answers.NodeFound.{NodeFound}
use Rattle.hl_store.specs.Finding.{FindsNode}
use Rattle.hl_store.specs.Changes.{DraftsFound}
use Rattle.hl_store.proofs.FoundNodes.{drafted_in, node_found_in, none_found_in, undrafted_in}
use Rattle.hl_store.proofs.store.Store.node.Goals as goal
use Rattle.hl_store.proofs.store.Store.node.Goals.{in-Some-shape, in-None-shape}

pub returns-clause-found : goal.returns-clause-found
returns-clause-found g c = elim c.match-draft-2.branch [
  | in-Some-shape w ↦ subst (λ (r : NodeFound). FindsNode {M = g.row.M.Denot} g.M.Machine.history g.M.Machine.faults c.args.self.now c.seat.new.self c.args.ino r) (sym w.result-is)
      (node_found_in {M = g.row.M.Denot} g.M.Machine.history c.args.self.now c.seat.new.self c.args.ino 0 c.in-Ok.ensures.ok c.requires.number.high _ c.self.view_is c.in-Some.draft.now w.in-Some-shape.shape w.index.result.now w.used_of.result c.in-Some.ensures.value w.in-Some-shape.is w.index.ensures w.used_of.ensures)
  | in-None-shape w ↦ subst (λ (r : NodeFound). FindsNode {M = g.row.M.Denot} g.M.Machine.history g.M.Machine.faults c.args.self.now c.seat.new.self c.args.ino r) (sym w.result-is)
      (none_found_in {M = g.row.M.Denot} g.M.Machine.history c.args.self.now c.seat.new.self c.args.ino 0 c.in-Ok.ensures.ok c.requires.number.high _ c.self.view_is c.in-Some.draft.now c.in-Some.ensures.value w.in-None-shape.is)
]

pub returns-clause-drafted : goal.returns-clause-drafted
returns-clause-drafted g c = elim c.match-draft-2.branch [
  | in-Some-shape w ↦ subst (λ (r : NodeFound). DraftsFound {M = g.row.M.Denot} c.seat.new.self c.args.ino r) (sym w.result-is)
      (drafted_in {M = g.row.M.Denot} g.M.Machine.history c.args.self.now c.seat.new.self c.args.ino 0 c.in-Ok.ensures.ok c.requires.number.high _ c.self.view_is c.in-Some.draft.now w.in-Some-shape.shape w.used_of.result c.in-Some.ensures.value w.in-Some-shape.is)
  | in-None-shape w ↦ subst (λ (r : NodeFound). DraftsFound {M = g.row.M.Denot} c.seat.new.self c.args.ino r) (sym w.result-is)
      (undrafted_in {M = g.row.M.Denot} g.M.Machine.history c.args.self.now c.seat.new.self c.args.ino 0 c.in-Ok.ensures.ok c.requires.number.high _ c.self.view_is c.in-Some.draft.now c.in-Some.ensures.value w.in-None-shape.is)
]
