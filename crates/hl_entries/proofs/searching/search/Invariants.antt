use Rattle.std.proofs.Common.{◌≤◌, ◌-◌, List, length}
use Rattle.hl_dir.specs.declared.entry.Entry.{Entry}
use Rattle.hl_dir.specs.Dirs.{Spells}
use Rattle.hl_entries.specs.Searches.{HasLeft}
use Rattle.hl_entries.proofs.searching.search.Given as goal

abbrev pub invariant-entries : goal.invariant-entries
invariant-entries l = record { within : l.at ≤ length l.bytes; reached : (es : List Entry) → Spells l.bytes es → (left : List Entry) × HasLeft es l.name l.at left }

abbrev pub decreases-entries : goal.decreases-entries
decreases-entries l = length l.bytes - l.at
