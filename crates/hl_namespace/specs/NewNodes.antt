-- What is made under a new name.
use Rattle.std.specs.Prelude.{◌≡◌, ℕ, ◌+◌, Bool, true, false, List, [], Option, None}
use Rattle.std.specs.FinMap.{get, insert}
use Rattle.hl_addr.specs.Layout.{quota}
use Rattle.hl_media.specs.Causes.{Rose}
use Rattle.hl_media.specs.History.{History}
use Rattle.hl_tree.specs.declared.call.Call.{Call}
use Rattle.hl_tree.specs.declared.call.Call.TheVariants as calls
use Rattle.hl_tree.specs.declared.call.Reply.TheVariants as replies
use Rattle.hl_inode.specs.declared.inode.Kind.{Kind}
use Rattle.hl_inode.specs.declared.inode.Kind.TheVariants.{Dir, File}
use Rattle.hl_placed.specs.Blocks.{PlacedFile}
use Rattle.hl_placed.specs.Changes.{new_file}
use Rattle.hl_paths.specs.Numbered.{Directory, Leaf, NumberedNode, Numbering}
use Rattle.hl_store.specs.declared.answers.Node.{Node}
use Rattle.hl_store.specs.Values.{StoreValue, layout}
use Rattle.hl_store.specs.Finding.{ReadsNodes}
use Rattle.hl_calls.specs.declared.growth.Growth.{Growth}
use Rattle.hl_calls.specs.declared.step.FileStep.{FileStep}
use Rattle.hl_calls.specs.declared.step.FileStep.TheVariants as step
use Rattle.hl_calls.specs.Growths.{Grows, directory_charge, exceeds}
use Rattle.hl_links.specs.declared.changing.DirectoryChange.{DirectoryChange}
use Rattle.hl_links.specs.Links.{ChangesTree, Relinks}

-- the call that makes a node of a kind
abbrev pub making : Kind → List (List ℕ) → Call
making File path = calls.Create path
making Dir path = calls.Mkdir path

-- a directory of no entries, or a file of no bytes, used at a moment
abbrev pub fresh : Kind → ℕ → NumberedNode PlacedFile
fresh File used = Leaf (new_file used)
fresh Dir used = Directory []

-- a directory has other entries, and a number that was free has a node of no bytes
pub record AddsLink (change : DirectoryChange) (number : ℕ) (node : Node) (before after : Numbering PlacedFile) : Type 0 where
  pub between : Numbering PlacedFile
  pub relinks : Relinks change before between
  pub free : get between number ≡ None
  pub made : after ≡ insert between number (fresh node.kind node.used)

-- what a new node adds to the charge, where the directory that names it had and has so many bytes
abbrev pub link_growth : ℕ → ℕ → Growth
link_growth before after = record { added = 1 + directory_charge after; removed = directory_charge before }

module _ {M : Type 0} where
  -- whether a charge that grows so is above the quota
  abbrev pub IsOver : StoreValue M → Growth → Bool → Type 0
  IsOver v growth over = (after : ℕ) → Grows growth v.tally.charge after → over ≡ exceeds (quota (layout v)) v.tally.charge after

  -- How a new node is added: within the quota, or there is no space, or it stops before its first change.
  abbrev pub AddsOrStops : (M → Option History) → (M → ℕ) → StoreValue M → StoreValue M → Growth → (Numbering PlacedFile → Numbering PlacedFile → Type 0) → FileStep → Type 0
  AddsOrStops history faults old new growth Becomes (step.Done reply) = (reply ≡ replies.Ok) × IsOver old growth false × ChangesTree history old new Becomes
  AddsOrStops history faults old new growth Becomes (step.Needs tseg) = ⊥
  AddsOrStops history faults old new growth Becomes step.NoSpace = ReadsNodes history old new × IsOver old growth true
  AddsOrStops history faults old new growth Becomes step.DiskFault = ReadsNodes history old new × Rose (faults old.log.machine) (faults new.log.machine)
  AddsOrStops history faults old new growth Becomes step.Memory = ReadsNodes history old new
