-- What the command that makes a disk does.
use Rattle.std.specs.Prelude.{◌≡◌, ℕ, List, ◌++◌, Option}
use Rattle.hl_media.specs.History.{History}
use Rattle.hl_media.specs.Moments.{Now}
use Rattle.hl_media.specs.Moments.{Ends as LastMoment}
use Rattle.hl_tree.specs.Tree.{root_alone}
use Rattle.hl_disk.specs.Formats.{Formats}
use Rattle.hl_disk.specs.Stops.{IsSettled}
use Rattle.hl_run.specs.Command.{made_text}
use Rattle.hl_run.specs.Run.{IsPart}
use Rattle.hl_run.specs.declared.making.Making.{Making}
use Rattle.hl_run.specs.declared.making.Making.TheVariants.{Made, Unsaid, Faulted}

-- what is left on the disk, and what was said
abbrev pub LeavesDisk : ℕ → Option History → Option History → Making → Type 0
LeavesDisk blocks before now Made = Now now (IsSettled blocks 1 root_alone) × LastMoment before now (λ first s. s.said ≡ first.said ++ made_text)
LeavesDisk blocks before now Unsaid = Now now (IsSettled blocks 1 root_alone) × LastMoment before now (λ first s. (part : List ℕ) × (s.said ≡ first.said ++ part) × IsPart part made_text)
LeavesDisk blocks before now Faulted = LastMoment before now (λ first s. s.said ≡ first.said)

-- From the first sync that succeeds on, a stop leaves no label or the root alone; behind the command the disk holds the root
-- alone, unless a write or a sync failed.
pub record Makes (blocks : ℕ) (before now : Option History) (making : Making) : Type 0 where
  pub formats : Formats blocks before now
  pub leaves : LeavesDisk blocks before now making

abbrev pub status_of_making : Making → ℕ
status_of_making Made = 0
status_of_making Faulted = 5
status_of_making Unsaid = 6
