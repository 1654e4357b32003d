-- The two ends of a rename: what moves, and where it goes.
use Rattle.std.specs.Prelude.{◌≡◌, ℕ, Bool, true, false, List, length, Option, Some, None, Result, Ok, Err}
use Rattle.std.specs.Option.{ForSome}
use Rattle.std.specs.FinMap.{get}
use Rattle.hl_media.specs.History.{History}
use Rattle.hl_tree.specs.declared.call.Refusal.{Refusal}
use Rattle.hl_tree.specs.declared.call.Refusal.TheVariants.{Eisdir, Enotempty}
use Rattle.hl_tree.specs.Refusals.{◌>>=◌}
use Rattle.hl_inode.specs.declared.inode.Kind.{Kind}
use Rattle.hl_inode.specs.declared.inode.Kind.TheVariants.{Dir, File}
use Rattle.hl_dir.specs.declared.entry.Entry.{Entry}
use Rattle.hl_dir.specs.Dirs.{Spells}
use Rattle.hl_placed.specs.Blocks.{PlacedFile}
use Rattle.hl_paths.specs.ByNumbers.{is_directory_node, may_replace}
use Rattle.hl_paths.specs.Entries.{entry_number}
use Rattle.hl_paths.specs.Finding.{find_parent, last_name, named, parent_with}
use Rattle.hl_paths.specs.Numbered.{NumberedNode, Numbering}
use Rattle.hl_store.specs.Values.{StoreValue}
use Rattle.hl_store.specs.Shapes.{IsNumber}
use Rattle.hl_ranges.specs.Directories.{HasDirectoryDraft}
use Rattle.hl_walk.specs.declared.walk.Halt.{Halt}
use Rattle.hl_walk.specs.declared.walk.Halt.TheVariants as halt
use Rattle.hl_walk.specs.Trees.{OfTree}
use Rattle.hl_calls.specs.declared.step.FileStep.{FileStep}
use Rattle.hl_calls.specs.declared.step.FileStep.TheVariants as step
use Rattle.hl_rename.specs.declared.finding.Source.{Source}
use Rattle.hl_rename.specs.declared.finding.Target.{Target}

-- why a walk halts where a call stops before its first change
abbrev pub halt_of : FileStep → Halt
halt_of (step.Done reply) = halt.Memory
halt_of (step.Needs tseg) = halt.Memory
halt_of step.NoSpace = halt.Memory
halt_of step.DiskFault = halt.DiskFault
halt_of step.Memory = halt.Memory

-- a node of the kind is a directory
abbrev pub is_dir : Kind → Bool
is_dir Dir = true
is_dir File = false

-- why a node of a kind can't take the place of the root
abbrev pub root_kept : Kind → Refusal
root_kept Dir = Enotempty
root_kept File = Eisdir

-- the node of a number, if there is one
abbrev pub standing : Numbering PlacedFile → Option ℕ → Option (NumberedNode PlacedFile)
standing numbered None = None
standing numbered (Some number) = get numbered number

-- the number that the last name of a path has
abbrev pub source_in : Numbering PlacedFile → List (List ℕ) → Result ℕ Refusal
source_in numbered path = do
  parent ← find_parent numbered path
  named (entry_number parent.entries (last_name path))

-- whether a node of a kind may take the place of what stands at a path
abbrev pub target_in : Numbering PlacedFile → Kind → List (List ℕ) → Result (Unit {0}) Refusal
target_in numbered kind path = do
  parent ← find_parent numbered path
  may_replace (is_dir kind) (standing numbered (entry_number parent.entries (last_name path)))

-- why nothing at a path can move
abbrev pub HasNoSource : List (List ℕ) → Numbering PlacedFile → Refusal → Type 0
HasNoSource path numbered why = source_in numbered path ≡ Err why

-- why a node of a kind can't move to a path
abbrev pub HasNoTarget : Kind → List (List ℕ) → Numbering PlacedFile → Refusal → Type 0
HasNoTarget kind path numbered why = target_in numbered kind path ≡ Err why

-- What stands at a path: the parent's bytes spell its entries, among which the last name has the number.
pub record IsSource (numbered : Numbering PlacedFile) (path : List (List ℕ))
    (source : Source) : Type 0 where
  pub entries : List Entry
  pub spelled : Spells source.parent.bytes.items entries
  pub led : find_parent numbered path ≡ Ok (parent_with source.parent.number entries)
  pub there : entry_number entries (last_name path) ≡ Some source.number
  pub kind : is_directory_node (get numbered source.number) ≡ is_dir source.kind

-- Where a node of a kind goes at a path: what has the last name there, if anything, may be replaced.
pub record IsTarget (numbered : Numbering PlacedFile) (moving : Kind) (path : List (List ℕ))
    (target : Target) : Type 0 where
  pub entries : List Entry
  pub spelled : Spells target.parent.bytes.items entries
  pub led : find_parent numbered path ≡ Ok (parent_with target.parent.number entries)
  pub at : entry_number entries (last_name path) ≡ target.number
  pub may : may_replace (is_dir moving) (standing numbered target.number) ≡ Ok tt

module _ {M : Type 0} where
  -- what stands at a path was found, and its parent is drafted
  pub record HasSource (history : M → Option History) (old new : StoreValue M)
      (path : List (List ℕ)) (source : Source) : Type 0 where
    pub number : IsNumber old source.parent.number
    pub drafted : HasDirectoryDraft new source.parent.number (length source.parent.bytes.items)
    pub is : OfTree history old (λ c numbered. IsSource numbered path source)

  -- where a node of a kind goes was found, and the parent is drafted
  pub record HasTarget (history : M → Option History) (old new : StoreValue M) (moving : Kind)
      (path : List (List ℕ)) (target : Target) : Type 0 where
    pub number : IsNumber old target.parent.number
    pub drafted : HasDirectoryDraft new target.parent.number (length target.parent.bytes.items)
    pub freed : ForSome target.number (IsNumber old)
    pub is : OfTree history old (λ c numbered. IsTarget numbered moving path target)
