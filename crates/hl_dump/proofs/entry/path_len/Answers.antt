use Rattle.std.proofs.Common.{length, ap, arith}
use Rattle.hl_dump.proofs.Steps.{path_length_more}
use Rattle.hl_dump.proofs.entry.path_len.Goals as goal

pub names-preserved : goal.names-preserved
names-preserved c =
    let m = path_length_more c.args.names.now c.names.name-index c.name-item.result c.names-test.true c.name-item.is in
    let n = ap length c.items.ensures in
    omega (arith, m, n)
