use Rattle.std.proofs.Common.{◌≡◌, ◌≤◌, ◌-◌, length}
use Rattle.std.specs.List.{position_or_len}
use Rattle.std.specs.Io.KnownBytes.{Keeps, prepend_known}
use Rattle.hl_script.specs.Input.{is_newline}
use Rattle.hl_script.proofs.lines.fill.Given as goal

abbrev pub invariant-reads : goal.invariant-reads
invariant-reads g l = record {
  before : l.before ≡ length l.held;
  bounded : length l.held ≤ 205536;
  none : position_or_len is_newline l.held ≡ length l.held;
  same : Keeps (prepend_known l.fn.held (g.S.Source.left l.fn.source)) (prepend_known l.held (g.S.Source.left l.source));
  quiet : g.S.Source.faults l.source ≡ g.S.Source.faults l.fn.source;
}

abbrev pub decreases-reads : goal.decreases-reads
decreases-reads g l = 140001 - l.before
