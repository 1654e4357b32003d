-- How far a site is made.
use Rattle.std.specs.Prelude.{◌≡◌, ℕ, true, false, [], List}
use Rattle.hl_media.specs.History.{Image, MachineState}
use Rattle.hl_addr.specs.Layout.{Layout}
use Rattle.hl_bytes.specs.Fields.{zeros}
use Rattle.hl_summary.specs.declared.parts.Summary.{Summary}
use Rattle.hl_super.specs.declared.record.Record.{Record}
use Rattle.hl_image.specs.Chain.{cut}
use Rattle.hl_image.specs.Newest.{start_of}
use Rattle.hl_log.specs.declared.position.Position.{Position}
use Rattle.hl_log.specs.Rest.{IsAtRest}
use Rattle.hl_nodes.specs.Contents.{HasContents}
use Rattle.hl_nodes.specs.Listing.{AreListed, IsListed, HasListed}
use Rattle.hl_nodes.specs.Sound.{IsSound}
use Rattle.hl_nodes.specs.Live.{record_of}
use Rattle.hl_nodes.specs.Live.NodeBlock.{Own}
use Rattle.hl_mkfs.specs.Parts.{first_contents, log_start, root_address, root_bytes, root_end}
use Rattle.hl_mkfs.specs.Sites.{IsNoneOrNew}
use Rattle.hl_mkfs.specs.Stops.{StopLeaves}

-- the blocks of the label and of the records are zeros
pub record IsCleared (image : Image) : Type 0 where
  pub label : image 0 ≡ zeros 4096
  pub odd : image 1 ≡ zeros 4096
  pub even : image 2 ≡ zeros 4096

-- nothing is pending, and these blocks are zeros
pub record IsBare (s : MachineState) : Type 0 where
  pub synced : s.pending ≡ []
  pub cleared : IsCleared s.content

-- and so is the first block of the log
pub record IsBlank (g : Layout) (s : MachineState) : Type 0 where
  pub bare : IsBare s
  pub log : s.content g.k ≡ zeros 4096

-- where the log stands once it is opened, and behind the first unit
abbrev pub opened_position : Position
opened_position = record { start = log_start; first = 1; head = log_start; serial = 1; fresh = true }

abbrev pub rooted_position : Position
rooted_position = record { start = log_start; first = 1; head = root_end; serial = 2; fresh = false }

-- the log is at rest behind the root's inode, which is listed
pub record IsRooted (g : Layout) (s : MachineState) : Type 0 where
  pub bare : IsBare s
  pub parts : List Summary
  pub at_rest : IsAtRest g rooted_position [] parts s
  pub closed : cut parts ≡ parts
  pub root : s.content (root_address g) ≡ root_bytes
  pub ahead : IsListed g s.content 1 2
  pub listed : HasListed g s.content root_end (record_of 1 Own) (root_address g)

-- behind this record, which is number 1, the image has the first tables and the root alone, which are sound and listed
pub record StandsBehind (g : Layout) (new : Record) (image : Image) : Type 0 where
  pub number_is : new.number ≡ 1
  pub serial_is : new.tseg_serial ≡ 1
  pub root : image (root_address g) ≡ root_bytes
  pub has : HasContents g image (first_contents g new)
  pub sound : IsSound g image (first_contents g new)
  pub listed : AreListed g image (first_contents g new) (start_of new)

-- nothing is pending, and the site stands without its label
pub record IsFounded (g : Layout) (s : MachineState) : Type 0 where
  pub synced : s.pending ≡ []
  pub label : s.content 0 ≡ zeros 4096
  pub new : Record
  pub stands : StandsBehind g new s.content

-- from a stage on a stop leaves zeros in the label's block
abbrev pub LeavesNoLabel : (MachineState → Type 0) → ℕ → Layout → MachineState → MachineState → Type 0
LeavesNoLabel Stage blocks g first s = Stage first → StopLeaves blocks g (λ image. image 0 ≡ zeros 4096) s

-- and no label or the new site
abbrev pub LeavesNoneOrNew : (MachineState → Type 0) → ℕ → Layout → MachineState → MachineState → Type 0
LeavesNoneOrNew Stage blocks g first s = Stage first → StopLeaves blocks g (IsNoneOrNew blocks g) s

-- from one stage to the next
abbrev pub Leads : (MachineState → Type 0) → (MachineState → Type 0) → MachineState → MachineState → Type 0
Leads Stage Next first s = Stage first → Next s
