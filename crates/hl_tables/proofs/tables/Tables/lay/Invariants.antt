use Rattle.std.proofs.Common.{◌≡◌, take}
use Rattle.std.specs.List.{fold}
use Rattle.hl_tables.specs.Values.{SameShape}
use Rattle.hl_tables.specs.Laying.{blocks_laid, changed}
use Rattle.hl_tables.proofs.tables.Tables.lay.Given as goal

abbrev pub invariant-blocks-2 : goal.invariant-blocks-2
invariant-blocks-2 l = record { so_far : l.self ≡ blocks_laid l.fn.self l.start (take l.i l.blocks); shape : SameShape l.fn.self l.self }

abbrev pub invariant-changes : goal.invariant-changes
invariant-changes l = record { so_far : l.self ≡ fold changed (blocks_laid l.fn.self l.start l.blocks) (take l.change-index l.tables); shape : SameShape l.fn.self l.self }
