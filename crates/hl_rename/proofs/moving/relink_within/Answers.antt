use Rattle.std.proofs.Common.{length, ap, sym}
use Rattle.hl_rename.specs.Moves.{Moves, PutsSized}
use Rattle.hl_rename.proofs.MovedNodes.{moves_within}
use Rattle.hl_rename.proofs.PutStores.{moves_so}
use Rattle.hl_rename.proofs.moving.relink_within.Goals as goal

pub returns-clause-moves : goal.returns-clause-moves
returns-clause-moves g c =
    let size = length c.as_slice-size.result.now in
    moves_so {M = g.row.M.Denot} g.M.Machine.history g.M.Machine.faults c.args.store.now c.put_one.new.store (PutsSized size c.in-Some.changed c.args.target.number) (Moves c.args.source c.args.name.now c.args.target c.args.to_name.now)
    (λ before after moves. moves_within c.args.source c.args.name.now c.args.target c.args.to_name.now before after moves c.requires.same c.in-Some.changed size (sym (ap length c.as_slice-size.ensures.value)) c.in-Some.ensures.edits c.in-Some.ensures.size)
    c.put_one.result c.put_one.ensures.moves
