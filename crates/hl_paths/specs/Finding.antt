-- Where a path leads, by numbers, and why it leads nowhere.
use Rattle.std.specs.Prelude.{ℕ, ◌-◌, List, [], ◌∷◌, take, length, get_or, Option, Some, None, Result, Ok, Err}
use Rattle.std.specs.FinMap.{get}
use Rattle.hl_tree.specs.declared.call.Refusal.{Refusal}
use Rattle.hl_tree.specs.declared.call.Refusal.TheVariants.{Enoent, Enotdir, Eisdir}
use Rattle.hl_tree.specs.Refusals.{◌>>=◌}
use Rattle.hl_dir.specs.declared.entry.Entry.{Entry}
use Rattle.hl_paths.specs.Entries.{entry_number}
use Rattle.hl_paths.specs.Numbered.{NumberedNode, Directory, Leaf, Numbering}

-- a name must be there
abbrev pub named : Option ℕ → Result ℕ Refusal
named None = Err Enoent
named (Some number) = Ok number

-- a path but for its last name, and that name
abbrev pub front_of : List (List ℕ) → List (List ℕ)
front_of path = take (length path - 1) path

abbrev pub last_name : List (List ℕ) → List ℕ
last_name path = get_or path (length path - 1) []

-- the directory in which a name stands
pub record Parent : Type 0 where
  pub number : ℕ
  pub entries : List Entry

abbrev pub parent_with : ℕ → List Entry → Parent
parent_with number es = record { number = number; entries = es }

module _ {B : Type 0} where
  -- a directory must be there
  abbrev pub entries_in : Option (NumberedNode B) → Result (List Entry) Refusal
  entries_in None = Err Enoent
  entries_in (Some (Leaf content)) = Err Enotdir
  entries_in (Some (Directory es)) = Ok es

  -- a file must be there
  abbrev pub leaf_in : Option (NumberedNode B) → Result B Refusal
  leaf_in None = Err Enoent
  leaf_in (Some (Leaf content)) = Ok content
  leaf_in (Some (Directory es)) = Err Eisdir

  -- from a number on, each name but the last must be that of a directory
  abbrev pub find_on : Numbering B → ℕ → List (List ℕ) → Result ℕ Refusal
  find_on nodes number [] = Ok number
  find_on nodes number (name ∷ names) = do
    es ← entries_in (get nodes number)
    child ← named (entry_number es name)
    find_on nodes child names

  -- the number that a path leads to
  unfoldable pub find_number : Numbering B → List (List ℕ) → Result ℕ Refusal
  find_number nodes path = find_on nodes 1 path

  -- the directory of the last name of a path that isn't the root
  unfoldable pub find_parent : Numbering B → List (List ℕ) → Result Parent Refusal
  find_parent nodes path = do
    number ← find_number nodes (front_of path)
    es ← entries_in (get nodes number)
    Ok (parent_with number es)
