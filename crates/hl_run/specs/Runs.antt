-- How a run over a mounted disk begins, and how it leaves the disk.
use Rattle.std.specs.Prelude.{◌≡◌, ℕ, IsTrue, List, length, Option}
use Rattle.hl_media.specs.History.{History}
use Rattle.hl_media.specs.Moments.{Now}
use Rattle.hl_media.specs.Moments.{Ends as LastMoment}
use Rattle.hl_dump.specs.Dumps.{dump_limits}
use Rattle.hl_disk.specs.Disks.{StandsFor}
use Rattle.hl_disk.specs.Stops.{IsSettled}
use Rattle.hl_run.specs.Run.{DoneLine, tree_after, tree_at, last_sync, closes}
use Rattle.hl_run.specs.Turn.{Held}
use Rattle.hl_run.specs.declared.end.End.{End}

-- the disk stands for the files, under the number
abbrev pub OpensAs : ℕ → Option History → Held → Type 0
OpensAs blocks before held = Now before (λ s. StandsFor blocks s.content held.number held.files.tree)

-- Behind these lines the disk stands for the tree after the last sync among them, under the number, and it is settled if
-- it was settled at first.
pub record Rests (blocks : ℕ) (old new : Held) (before now : Option History) (lines : List DoneLine) : Type 0 where
  pub stands : Now now (λ s. StandsFor blocks s.content new.number (tree_at dump_limits old.files.tree lines (last_sync lines (length lines))))
  pub settled : LastMoment before now (λ first s. (number : ℕ) → IsSettled blocks number old.files.tree first
      → IsSettled blocks new.number (tree_at dump_limits old.files.tree lines (last_sync lines (length lines))) s)

-- where the files are to be kept behind the end, they are those after the lines, and the disk rests
abbrev pub LeavesLines : ℕ → Held → Held → Option History → Option History → End → List DoneLine → Type 0
LeavesLines blocks old new before now end done = IsTrue (closes end)
    → (new.files ≡ record { limits = dump_limits; tree = tree_after dump_limits old.files.tree done }) × Rests blocks old new before now done
