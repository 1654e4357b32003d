-- What is taken away with its name.
use Rattle.std.specs.Prelude.{◌≡◌, ℕ, List}
use Rattle.std.specs.FinMap.{remove}
use Rattle.hl_tree.specs.declared.call.Call.{Call}
use Rattle.hl_tree.specs.declared.call.Call.TheVariants as calls
use Rattle.hl_tree.specs.declared.call.Refusal.{Refusal}
use Rattle.hl_tree.specs.declared.call.Refusal.TheVariants.{Einval, Eisdir}
use Rattle.hl_inode.specs.declared.inode.Kind.{Kind}
use Rattle.hl_inode.specs.declared.inode.Kind.TheVariants.{Dir, File}
use Rattle.hl_placed.specs.Blocks.{PlacedFile}
use Rattle.hl_paths.specs.Numbered.{Numbering}
use Rattle.hl_links.specs.declared.changing.DirectoryChange.{DirectoryChange}
use Rattle.hl_links.specs.Links.{Relinks}

-- the call that takes a node of a kind away
abbrev pub removal : Kind → List (List ℕ) → Call
removal File path = calls.Unlink path
removal Dir path = calls.Rmdir path

-- why the root can't be taken away as a node of a kind
abbrev pub root_kept : Kind → Refusal
root_kept File = Eisdir
root_kept Dir = Einval

-- a directory has other entries, and a number is free
pub record Unlinks (change : DirectoryChange) (number : ℕ) (before after : Numbering PlacedFile) : Type 0 where
  pub between : Numbering PlacedFile
  pub relinks : Relinks change before between
  pub freed : after ≡ remove between number
