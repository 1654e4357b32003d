use Rattle.std.proofs.Common.{◌≤◌, ◌-◌, List, length}
use Rattle.hl_dir.specs.declared.entry.Entry.{Entry}
use Rattle.hl_dir.specs.Dirs.{Spells}
use Rattle.hl_entries.proofs.Search.{HasListed}
use Rattle.hl_entries.proofs.listing.names.Given as goal

abbrev pub invariant-entries : goal.invariant-entries
invariant-entries l = record { within : l.at ≤ length l.bytes; listed : (es : List Entry) → Spells l.bytes es → (left : List Entry) × HasListed es l.at l.names.items left }

abbrev pub decreases-entries : goal.decreases-entries
decreases-entries l = length l.bytes - l.at
