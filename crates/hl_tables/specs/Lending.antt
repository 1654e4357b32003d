-- The slots of the tables, lent.
use Rattle.std.specs.Borrow.{Lends, MutBor, Fml}
use Rattle.hl_tseg.specs.SlotTable.{SlotTable}
use Rattle.hl_tseg.specs.contracts.table.TsegTable as tseg
use Rattle.hl_tables.specs.Values.{TableValues}
use Rattle.hl_tables.specs.contracts.tables.Tables.{the_row}

-- the tables with these slots
abbrev pub with_slots : TableValues → SlotTable → TableValues
with_slots t s = record t { slots = s }

-- the tables end with what was made of their slots
abbrev pub LendsSlots : MutBor TableValues → MutBor SlotTable → Fml
LendsSlots tables slots = Lends the_row tseg.the_row tables slots (with_slots tables.now)
