use Rattle.hl_data.specs.ByNumber.{cutting}
use Rattle.hl_data.proofs.TreeFiles.{cutting_ignores}
use Rattle.hl_data.proofs.WorkStops.{over_by_growth}
use Rattle.hl_data.proofs.writing.is_over_by_cut.Goals as goal

pub returns-clause-over : goal.returns-clause-over
returns-clause-over g c = λ now.
    over_by_growth {M = g.row.M.Denot} g.M.Machine.history c.args.store.now c.args.number (cutting now c.args.size) (cutting_ignores now c.args.size)
    c.cut_growth.new.store c.cut_growth.ensures.reads c.in_ok-growth.growth c.is_over.result (c.in_ok-growth.ensures.growth now) c.is_over.ensures
