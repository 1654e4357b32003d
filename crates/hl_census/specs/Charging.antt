-- What inodes that were found are charged.
use Rattle.std.specs.Prelude.{ℕ, List, count_by, drop, Option, Some, None}
use Rattle.std.specs.List.{list_any}
use Rattle.hl_placed.specs.Charges.{parts_charge}
use Rattle.hl_tally.specs.Counting.{is_logged}
use Rattle.hl_survey.specs.declared.found.FoundInode.{FoundInode}
use Rattle.hl_census.specs.Naming.{is_address}

-- what an inode with these pointers is charged, where the log has so many segments of k blocks
abbrev pub pointers_charge : ℕ → ℕ → List ℕ → ℕ
pointers_charge k segments pointers = parts_charge (list_any is_address (drop 12 pointers)) (count_by (is_logged k segments) pointers)

-- what a number is charged
abbrev pub found_charge : ℕ → ℕ → Option FoundInode → ℕ
found_charge k segments None = 0
found_charge k segments (Some f) = pointers_charge k segments f.pointers.items
