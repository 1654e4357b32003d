-- A part of the log that is read where it lies.
use Rattle.std.specs.Prelude.{ℕ, ◌+◌, ◌*◌, ◌≤◌, List, length, Option, option_map}
use Rattle.hl_summary.specs.Parts.{summary_in}
use Rattle.hl_summary.specs.declared.parts.Summary.{Summary}

-- the bytes from the part's place to the segment's end, and what its summary says
pub record PartSeen : Type 0 where
  pub bytes : List ℕ
  pub summary : Summary

abbrev pub part_seen : List ℕ → PartSeen
part_seen bytes = record { bytes = bytes; summary = summary_in bytes }

-- the bytes have the summary, and a block for each of its block records
pub record IsPartSeen (bytes : List ℕ) : Type 0 where
  pub blocks : 4096 * (1 + length (summary_in bytes).blocks) ≤ length bytes

-- the summary that was found, if any
abbrev pub summary_seen : Option PartSeen → Option Summary
summary_seen view = option_map (λ v. v.summary) view
