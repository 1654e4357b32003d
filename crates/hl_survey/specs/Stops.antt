-- Why a look at the rules of a disk stops.
use Rattle.std.specs.Prelude.{◌≡◌, ℕ, List, slice_index, Option}
use Rattle.hl_media.specs.History.{History, Image}
use Rattle.hl_media.specs.Moments.{Now}
use Rattle.hl_media.specs.Causes.{Rose}
use Rattle.hl_addr.specs.Layout.{Layout}
use Rattle.hl_super.specs.declared.record.Record.{Record}
use Rattle.hl_summary.specs.declared.parts.Summary.{Summary}
use Rattle.hl_tables.specs.Values.{TableValues}
use Rattle.hl_inode.specs.declared.inode.Inode.{Inode}
use Rattle.hl_nodes.specs.declared.rule.Rule.{Rule}
use Rattle.hl_nodes.specs.Breaks.{Breaks}
use Rattle.hl_nodes.specs.Directories.{IsInodeIn, IsInUse}
use Rattle.hl_survey.specs.declared.check_error.CheckError.{CheckError}
use Rattle.hl_survey.specs.declared.check_error.CheckError.TheVariants as stop

-- the rule is broken at the block, whatever parts the chain has
abbrev pub IsBroken : Layout → Record → TableValues → Image → Rule → ℕ → Type 0
IsBroken g rec t image rule block = (parts : List Summary) → Breaks g image rec parts t rule block

-- the rule is broken at the block, where the number is in use and its inode's block is this one
abbrev pub BreaksInode : ℕ → ℕ → Image → Rule → ℕ → Type 0
BreaksInode ino own image rule block = (g : Layout) (t : TableValues) (rec : Record)
    → IsInUse g t ino → slice_index t.inodes ino ≡ own → IsBroken g rec t image rule block

-- the rule is broken at the block, where the inode of some number stands at its address
abbrev pub BreaksPointers : Layout → TableValues → ℕ → Inode → Image → Rule → ℕ → Type 0
BreaksPointers g t own v image rule block = (rec : Record) (ino : ℕ) → IsInodeIn g image t ino v own
    → IsBroken g rec t image rule block

-- the count of failed calls rose where a fault is told, and stays otherwise
abbrev pub StopsBy : ℕ → ℕ → CheckError → Type 0
StopsBy before now (stop.Damaged block rule) = now ≡ before
StopsBy before now stop.DiskFault = Rose before now
StopsBy before now stop.Memory = now ≡ before

-- damage that is told is what reads gave; a fault and want of memory tell nothing of the disk
abbrev pub Stops : Option History → (Image → Rule → ℕ → Type 0) → CheckError → Type 0
Stops before Told (stop.Damaged block rule) = Now before (λ s. Told s.content rule block)
Stops before Told stop.DiskFault = Unit {0}
Stops before Told stop.Memory = Unit {0}
