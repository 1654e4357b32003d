use Rattle.hl_data.specs.ByNumber.{writing}
use Rattle.hl_data.proofs.TreeFiles.{writing_ignores}
use Rattle.hl_data.proofs.WorkStops.{over_by_growth}
use Rattle.hl_data.proofs.writing.is_over_by_write.Goals as goal

pub returns-clause-over : goal.returns-clause-over
returns-clause-over g c = λ now.
    over_by_growth {M = g.row.M.Denot} g.M.Machine.history c.args.store.now c.args.number (writing now c.args.at c.args.bytes.now) (writing_ignores now c.args.at c.args.bytes.now)
    c.write_growth.new.store c.write_growth.ensures.reads c.in_ok-growth.growth c.is_over.result (c.in_ok-growth.ensures.growth now) c.is_over.ensures
