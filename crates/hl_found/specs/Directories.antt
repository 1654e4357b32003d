-- Nodes that were found, as directories with entries and files.
use Rattle.std.specs.Prelude.{◌≡◌, ℕ, ◌<◌, List, length, Option, Some, None, option_map, MatchOption}
use Rattle.std.specs.FinMap.{get}
use Rattle.std.specs.List.{slice_index_or}
use Rattle.std.specs.Global.{Vec}
use Rattle.hl_dir.specs.declared.entry.Entry.{Entry}
use Rattle.hl_dir.specs.Dirs.{AreEntries}
use Rattle.hl_inode.specs.declared.inode.Kind.TheVariants as kinds
use Rattle.hl_placed.specs.Blocks.{Away, Block, Here, Hole, PlacedFile, blocks_of, file_block}
use Rattle.hl_placed.specs.Placed.{PlacedTree}
use Rattle.hl_paths.specs.Numbered.{NumberedNode, Directory, Leaf, Numbering}
use Rattle.hl_paths.specs.Nodes.{FlatNode, Nodes, Spell, HasTree, directory_content}
use Rattle.hl_found.specs.declared.directories.FoundUse.{FoundUse}
use Rattle.hl_found.specs.declared.directories.FoundUse.TheVariants as use_of

-- what a numbered node is, without the content of a file
abbrev pub node_use : NumberedNode PlacedFile → FoundUse
node_use (Directory es) = use_of.Directory es
node_use (Leaf content) = use_of.File

-- these are the uses of the numbered nodes
abbrev pub AreUses : Numbering PlacedFile → List (Option FoundUse) → Type 0
AreUses numbered uses = (number : ℕ) → slice_index_or uses number None ≡ option_map node_use (get numbered number)

-- each directory's entries are those of one
abbrev pub HaveEntries : Numbering PlacedFile → Type 0
HaveEntries numbered = (number : ℕ) (es : List Entry) → get numbered number ≡ Some (Directory es) → AreEntries es

-- the nodes spell numbered nodes with these uses
pub record HasUses (nodes : Nodes) (uses : List (Option FoundUse)) : Type 0 where
  pub numbered : Numbering PlacedFile
  pub spelled : Spell nodes numbered
  pub are : AreUses numbered uses
  pub entries : HaveEntries numbered

-- a block of 4,096 bytes in the log
abbrev pub IsWhole : Block → Type 0
IsWhole Hole = ⊥
IsWhole (Here bytes) = length bytes ≡ 4096
IsWhole (Away serial position) = ⊥

-- a block for each 4,096 bytes begun, each in the log, whole
pub record IsResident (file : PlacedFile) : Type 0 where
  pub count : length file.blocks ≡ blocks_of file.size
  pub whole : (i : ℕ) → i < length file.blocks → IsWhole (file_block file i)

-- the content is that of a directory with these entries
abbrev pub IsDirectoryOf : PlacedFile → List Entry → Type 0
IsDirectoryOf content es = AreEntries es × (content ≡ directory_content es)

-- the entries of a directory that were found, or there are none
abbrev pub FindsEntries : PlacedFile → Option (List Entry) → Type 0
FindsEntries content found = MatchOption found ((es : List Entry) → ¬ IsDirectoryOf content es) (λ es. IsDirectoryOf content es)

-- what a node is used for
abbrev pub IsUse : FlatNode → FoundUse → Type 0
IsUse node use_of.File = node.kind ≡ kinds.File
IsUse node (use_of.Directory es) = (node.kind ≡ kinds.Dir) × IsDirectoryOf node.content es

-- what a node was found to be used for, or it is a directory without entries
abbrev pub FindsUse : FlatNode → Option FoundUse → Type 0
FindsUse node found = MatchOption found ((u : FoundUse) → ¬ IsUse node u) (λ u. IsUse node u)

-- what the node of a number is used for, if there is one
abbrev pub IsUseAt : Option FlatNode → Option FoundUse → Type 0
IsUseAt None None = Unit {0}
IsUseAt None (Some u) = ⊥
IsUseAt (Some node) None = ⊥
IsUseAt (Some node) (Some u) = IsUse node u

abbrev pub FindsUseAt : Option FlatNode → Option (Option FoundUse) → Type 0
FindsUseAt node found = MatchOption found ((u : Option FoundUse) → ¬ IsUseAt node u) (λ u. IsUseAt node u)

-- the uses of the nodes that were found, or the nodes have no tree
abbrev pub FindsUses : Nodes → Option (Vec (Option FoundUse)) → Type 0
FindsUses nodes found = MatchOption found ((placed : PlacedTree) → ¬ HasTree nodes placed) (λ v. HasUses nodes v.items)
