use Rattle.std.proofs.Common.{get_or, refl}
use Rattle.hl_found.proofs.LiveFound.{tables_more}
use Rattle.hl_found.proofs.live.table_blocks.Goals as goal

pub tables-preserved : goal.tables-preserved
tables-preserved c = tables_more c.args.tables.now c.tables.i c.tables.lives.items c.push.new.self.items (record { ino = c.tables.i; index = 4294967293 }) (get_or c.args.tables.now c.tables.i 0)
    c.tables.invariant refl refl c.in_ok-push.ensures.items
