use Rattle.std.proofs.Common.{length}
use Rattle.hl_host.proofs.PlaceLaws.{puts_changes}
use Rattle.hl_host.proofs.whole.write_whole.Goals as goal

pub returns-in_err-done-clause-some : goal.returns-in_err-done-clause-some
returns-in_err-done-clause-some g c = puts_changes (g.F.PositionalFile.content c.args.file.now) (g.F.PositionalFile.content c.write_on.new.file) c.args.from c.writes.done c.args.bytes.now c.writes.invariant.low
    (c.in_err-done.ensures.some (g.F.PositionalFile.content c.args.file.now) c.writes.invariant.there)

pub returns-clause-some : goal.returns-clause-some
returns-clause-some g c = puts_changes (g.F.PositionalFile.content c.args.file.now) (g.F.PositionalFile.content c.writes.file) c.args.from c.writes.done c.args.bytes.now c.writes.invariant.low c.writes.invariant.there
