use Rattle.std.proofs.Common.{◌≤◌, ◌-◌, List, length}
use Rattle.hl_dir.specs.declared.entry.Entry.{Entry}
use Rattle.hl_dir.specs.Dirs.{Spells}
use Rattle.hl_entries.proofs.Search.{HasCounted}
use Rattle.hl_entries.proofs.listing.count.Given as goal

abbrev pub invariant-entries : goal.invariant-entries
invariant-entries l = record {
  within : l.at ≤ length l.bytes;
  fewer : l.count ≤ l.at;
  counted : (es : List Entry) → Spells l.bytes es → (left : List Entry) × HasCounted es l.at l.count left;
}

abbrev pub decreases-entries : goal.decreases-entries
decreases-entries l = length l.bytes - l.at
