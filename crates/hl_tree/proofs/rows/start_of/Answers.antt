use Rattle.hl_tree.proofs.Places.{around_place, around_gap}
use Rattle.hl_tree.proofs.rows.start_of.Goals as goal

pub returns-in-Ok : goal.returns-in-Ok
returns-in-Ok c = around_place c.args.rows.now c.args.path.now c.in-Ok.i c.requires c.in-Ok.ensures

pub returns-in-Err : goal.returns-in-Err
returns-in-Err c = around_gap c.args.rows.now c.args.path.now c.in-Err.i c.in-Err.ensures
