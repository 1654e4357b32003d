use Rattle.std.proofs.Common.{length}
use Rattle.hl_dump.proofs.Growing.{last_decides, not_empty}
use Rattle.hl_dump.proofs.read.comes_last.Goals as goal

pub returns : goal.returns
returns c =
    let rows = c.args.rows.now in
    last_decides rows c.args.path.now c.index-rows-rows.result c.names.result.now c.cmp.result c.is_lt.result c.requires (not_empty (length rows) c.is_empty.result c.if-is_empty.false c.is_empty.ensures) c.index-rows-rows.is c.names.ensures.is c.cmp.ensures c.is_lt.ensures
