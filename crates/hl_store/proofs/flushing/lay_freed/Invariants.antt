use Rattle.std.proofs.Common.{◌≡◌, take}
use Rattle.std.specs.List.{fold}
use Rattle.hl_tables.specs.Values.{SameShape}
use Rattle.hl_tables.specs.Laying.{changed}
use Rattle.hl_overlay.specs.DraftTables.{freed_of}
use Rattle.hl_store.proofs.flushing.lay_freed.Given as goal

abbrev pub invariant-freed : goal.invariant-freed
invariant-freed l = record {
  so_far : l.tables ≡ fold changed l.fn.tables (freed_of (take l.draft-index l.drafts));
  shape : SameShape l.fn.tables l.tables;
}
