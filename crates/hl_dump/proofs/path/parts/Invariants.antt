use Rattle.std.proofs.Common.{◌≡◌, ◌-◌, ◌≤◌, ◌<◌, length, take, get_or, All}
use Rattle.hl_dump.specs.Dumps.{path_bytes}
use Rattle.hl_dump.specs.Reading.{IsPart}
use Rattle.hl_dump.proofs.path.parts.Given as goal

abbrev pub invariant-names : goal.invariant-names
invariant-names l = record {
  front : take l.at l.bytes ≡ path_bytes l.names.items;
  within : l.at ≤ length l.bytes;
  slash : l.at < length l.bytes → get_or l.bytes l.at 0 ≡ 47;
  parts : All IsPart l.names.items;
}

abbrev pub decreases-names : goal.decreases-names
decreases-names l = length l.bytes - l.at
