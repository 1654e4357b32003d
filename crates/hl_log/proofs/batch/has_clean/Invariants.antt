use Rattle.std.proofs.Common.{◌+◌, ◌≤◌, List, length, drop}
use Rattle.hl_image.specs.Places.{IsLogPlace}
use Rattle.hl_log.specs.declared.piece.Piece.{Piece}
use Rattle.hl_log.specs.Free.{AreClean}
use Rattle.hl_log.proofs.Cutting.{Reached}
use Rattle.hl_log.proofs.batch.has_clean.Given as goal

abbrev pub invariant-cut : goal.invariant-cut
invariant-cut l = record {
  place : IsLogPlace l.geometry l.left.at;
  cleans : AreClean l.geometry l.left.at.seg (drop l.left.used l.clean);
  used : l.left.used ≤ length l.clean;
  reached : (done : List Piece) × Reached l.geometry l.fn.head l.clean l.blocks l.tables done l.left.at (drop l.left.used l.clean) l.left.blocks l.left.tables;
}

abbrev pub decreases-cut : goal.decreases-cut
decreases-cut l = l.left.blocks + l.left.tables
