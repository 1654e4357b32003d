use Rattle.std.proofs.Common.{◌≡◌, take}
use Rattle.std.specs.List.{fold}
use Rattle.hl_lines.specs.LineTable.{with_touched}
use Rattle.hl_data.proofs.file.touch_lines.Given as goal

-- the lines before this one
abbrev pub invariant-tsegs : goal.invariant-tsegs
invariant-tsegs g l = l.store ≡ record l.fn.store { lines = fold with_touched l.fn.store.lines (take l.tseg-index l.tsegs) }
