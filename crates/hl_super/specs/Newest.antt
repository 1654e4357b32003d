-- The record that a mount starts from.
use Rattle.std.specs.Prelude.{Option, Some, None, nat_lt, if◌then◌else◌}
use Rattle.hl_super.specs.declared.record.Record.{Record}

-- the record with the greater number, of equal ones the first
abbrev pub newest : Option Record → Option Record → Option Record
newest None b = b
newest (Some v) None = Some v
newest (Some v) (Some w) = if nat_lt v.number w.number then Some w else Some v
