use Rattle.std.proofs.Common.{arith}
use Rattle.hl_dump.proofs.Sizes.{dump_size-rows}
use Rattle.std.specs.FinMap.{entries}
use Rattle.hl_dump.proofs.Steps.{all_size}
use Rattle.hl_dump.proofs.size.dump_size.Goals as goal

pub returns : goal.returns
returns c =
    let t = c.args.tree.now.tree in
    let all = all_size c.rows-row-items.result.now (entries t) c.rows.row-index (omega arith) c.rows-row-items.ensures in
    let size = dump_size-rows t in
    omega (arith, all, size)
