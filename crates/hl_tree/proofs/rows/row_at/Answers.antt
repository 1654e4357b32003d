use Rattle.std.proofs.Common.{sym}
use Rattle.hl_tree.proofs.Places.{find_at, find_in_gap}
use Rattle.hl_tree.proofs.rows.row_at.Goals as goal

pub returns-in-Ok : goal.returns-in-Ok
returns-in-Ok c = sym (find_at c.args.rows.now c.args.path.now c.in-Ok.i c.requires c.in-Ok.ensures c.index-rows-i.result)

pub returns-in-Err : goal.returns-in-Err
returns-in-Err c = sym (find_in_gap c.args.rows.now c.args.path.now c.in-Err.field-0 c.in-Err.ensures)
