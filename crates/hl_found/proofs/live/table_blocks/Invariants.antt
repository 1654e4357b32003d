use Rattle.hl_found.specs.Listing.{IsTableBefore, Lists}
use Rattle.hl_found.proofs.live.table_blocks.Given as goal

abbrev pub invariant-tables : goal.invariant-tables
invariant-tables l = Lists (IsTableBefore l.tables l.i) l.lives.items
