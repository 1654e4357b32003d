use Rattle.std.proofs.Common.{◌≡◌, ◌≤◌, ◌+◌, ◌-◌, ◌^◌, min, List, length, drop}
use Rattle.hl_media.specs.Moments.{Runs, Ends}
use Rattle.hl_image.specs.Places.{IsLogPlace}
use Rattle.hl_log.specs.declared.piece.Piece.{Piece}
use Rattle.hl_log.specs.Batches.{brought_of}
use Rattle.hl_log.specs.Cut.{place_behind}
use Rattle.hl_log.specs.Free.{AreClean}
use Rattle.hl_log.specs.Rest.{SaysNothing}
use Rattle.hl_log.specs.Units.{WritesUnit, moved}
use Rattle.hl_log.proofs.Cutting.{Reached}
use Rattle.hl_log.proofs.Units.{IsMidway}
use Rattle.hl_log.proofs.batch.write_parts.Given as goal

abbrev pub invariant-parts : goal.invariant-parts
invariant-parts g l = record {
  place : IsLogPlace l.geometry l.left.at;
  cleans : AreClean l.geometry l.left.at.seg (drop l.left.used l.clean);
  used : l.left.used ≤ length l.clean;
  runs : Runs (g.M.Machine.history l.fn.machine) (g.M.Machine.history l.machine) (WritesUnit l.geometry l.log l.clean (brought_of l.batch));
  silent : Runs (g.M.Machine.history l.fn.machine) (g.M.Machine.history l.machine) SaysNothing;
  so_far : (done : List Piece) × Reached l.geometry l.log.head l.clean (length (brought_of l.batch).records) (length (brought_of l.batch).changes) done l.left.at (drop l.left.used l.clean) l.left.blocks l.left.tables
      × Ends (g.M.Machine.history l.fn.machine) (g.M.Machine.history l.machine) (IsMidway l.geometry l.log l.clean (brought_of l.batch) (moved l.log l.left.at l.serial) (drop l.left.used l.clean) l.left.blocks l.left.tables done)
      × (place_behind l.log.head done ≡ l.left.at) × (l.serial ≡ min (l.log.serial + length done) (2 ^ 64 - 1));
  size : length l.buffer ≡ length l.fn.buffer;
  blocks_same : g.M.Machine.blocks l.machine ≡ g.M.Machine.blocks l.fn.machine;
  faults_same : g.M.Machine.faults l.machine ≡ g.M.Machine.faults l.fn.machine;
  write_faults_same : g.M.Machine.write_faults l.machine ≡ g.M.Machine.write_faults l.fn.machine;
  say_faults_same : g.M.Machine.say_faults l.machine ≡ g.M.Machine.say_faults l.fn.machine;
}

abbrev pub decreases-parts : goal.decreases-parts
decreases-parts g l = l.left.blocks + l.left.tables
