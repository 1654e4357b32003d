-- The state of a site, without its log.
use Rattle.std.specs.Prelude.{ℕ, ◌+◌, ◌-◌, ◌^◌, Bool, min, List, Option}
use Rattle.hl_media.specs.declared.mark.Mark.{Mark}
use Rattle.hl_tseg.specs.declared.slot.Slot.{Slot}
use Rattle.hl_placed.specs.Placed.{PlacedTree}
use Rattle.hl_media.specs.declared.job.JobNote.{JobNote}
use Rattle.hl_lines.specs.declared.state.LineState.{LineState}

-- how a request ends
pub data RequestOutcome : Type 0 where
  Bound : RequestOutcome
  Evol : (tseg faults : ℕ) → RequestOutcome
  Ebad : (tseg : ℕ) (kept found : Mark) → RequestOutcome

-- what is asked for a segment; noted is what a fetch met, outcome how it was settled, until that is told
pub record Request : Type 0 where
  pub number : ℕ
  pub tseg : ℕ
  pub keep : List ℕ
  pub given : Bool
  pub settled : Bool
  pub noted : Option RequestOutcome
  pub outcome : Option RequestOutcome

pub record SiteState : Type 0 where
  pub tree : PlacedTree
  -- what each slot of the volumes holds, volume 0 first, and which volumes are full
  pub slots : List Slot
  pub full : List Bool
  pub lines : List LineState
  -- the clean lines, the least recently used first
  pub order : List ℕ
  pub jobs : List JobNote
  pub requests : List Request
  pub next_serial : ℕ
  pub next_job : ℕ
  pub next_request : ℕ
  -- the count of each volume, as it last lay in the rack
  pub counts : List ℕ
  -- the machine's count at which the site stopped
  pub stopped : Option ℕ

-- a number that rises, but no further than 2 ^ 64 - 1
abbrev pub next : ℕ → ℕ
next n = min (n + 1) (2 ^ 64 - 1)
