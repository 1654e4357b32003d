use Rattle.std.proofs.Common.{◌≡◌, ℕ, ◌<◌}
use Rattle.std.specs.Prelude.{slice_index}
use Rattle.hl_image.specs.Places.{InLog}
use Rattle.hl_media.specs.Moments.{Now}
use Rattle.hl_log.specs.Logs.{OnlyReads}
use Rattle.hl_tables.specs.Values.{SameShape, fresh}
use Rattle.hl_tables.specs.TableBlocks.{table_block}
use Rattle.hl_recovery.proofs.tables.read_tables.Given as goal

abbrev pub invariant-blocks-2 : goal.invariant-blocks-2
invariant-blocks-2 g l = record {
  shape : SameShape (fresh l.site.geometry) l.tables;
  reads : OnlyReads {M = g.row.M.Denot} g.M.Machine.history g.M.Machine.blocks g.M.Machine.faults g.M.Machine.write_faults g.M.Machine.say_faults l.fn.machine l.machine;
  kept : g.M.Machine.faults l.machine ≡ g.M.Machine.faults l.fn.machine;
  read : Now (g.M.Machine.history l.fn.machine)
      (λ s. (j : ℕ) → j < l.i → InLog l.site.geometry (slice_index l.site.rec.tables j) × (table_block l.tables j ≡ s.content (slice_index l.site.rec.tables j)));
}
