use Rattle.std.proofs.Common.{length, ap, sym}
use Rattle.hl_rename.specs.Moves.{Moves, PutsBothSized}
use Rattle.hl_rename.proofs.MovedNodes.{moves_across}
use Rattle.hl_rename.proofs.PutStores.{moves_so}
use Rattle.hl_rename.proofs.moving.relink_across.Goals as goal

pub returns-clause-moves : goal.returns-clause-moves
returns-clause-moves g c =
    let size = length c.as_slice-size.result.now in
    let to_size = length c.as_slice-to_size.result.now in
    moves_so {M = g.row.M.Denot} g.M.Machine.history g.M.Machine.faults c.args.store.now c.put_two.new.store (PutsBothSized size c.in-Some.left to_size c.in-Some-joined.other c.args.target.number) (Moves c.args.source c.args.name.now c.args.target c.args.to_name.now)
    (λ before after moves. moves_across c.args.source c.args.name.now c.args.target c.args.to_name.now before after moves c.requires.apart c.in-Some.left c.in-Some-joined.other size to_size
    (sym (ap length c.as_slice-size.ensures.value)) (sym (ap length c.as_slice-to_size.ensures.value)) c.in-Some.ensures.edits c.in-Some.ensures.size c.in-Some-joined.ensures.edits c.in-Some-joined.ensures.size)
    c.put_two.result c.put_two.ensures.moves
