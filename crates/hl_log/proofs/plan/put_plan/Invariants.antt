use Rattle.std.proofs.Common.{◌≡◌, ◌+◌, ◌-◌, ◌≤◌, List, length, take, drop}
use Rattle.hl_image.specs.Places.{IsLogPlace}
use Rattle.hl_log.specs.declared.piece.Piece.{Piece}
use Rattle.hl_log.specs.Cut.{addresses}
use Rattle.hl_log.specs.Free.{AreClean}
use Rattle.hl_log.proofs.Cutting.{Reached}
use Rattle.hl_log.proofs.plan.put_plan.Given as goal

abbrev pub invariant-cut : goal.invariant-cut
invariant-cut l = record {
  place : IsLogPlace l.geometry l.left.at;
  cleans : AreClean l.geometry l.left.at.seg (drop l.left.used l.clean);
  used : l.left.used ≤ length l.clean;
  size : length l.addresses ≡ length l.fn.addresses;
  some : l.left.blocks ≤ length l.fn.addresses;
  reached : (done : List Piece) × Reached l.geometry l.fn.head l.clean (length l.fn.addresses) l.tables done l.left.at (drop l.left.used l.clean) l.left.blocks l.left.tables
      × (take (length l.fn.addresses - l.left.blocks) l.addresses ≡ addresses l.geometry done);
}

abbrev pub decreases-cut : goal.decreases-cut
decreases-cut l = l.left.blocks + l.left.tables
