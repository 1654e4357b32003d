use Rattle.std.proofs.Common.{◌≡◌, take}
use Rattle.std.specs.List.{fold}
use Rattle.hl_tables.specs.Values.{SameShape}
use Rattle.hl_found.specs.Found.{part_laid}
use Rattle.hl_recovery.proofs.tables.lay_parts.Given as goal

abbrev pub invariant-parts : goal.invariant-parts
invariant-parts l = record { so_far : l.tables ≡ fold part_laid l.fn.tables (take l.part-index l.chain); shape : SameShape l.fn.tables l.tables }
