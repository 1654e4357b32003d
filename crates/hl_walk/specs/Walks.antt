-- Where a walk along a path ends.
use Rattle.std.specs.Prelude.{◌≡◌, ℕ, List, length, Option, Some, Result, Ok, Err}
use Rattle.std.specs.FinMap.{get}
use Rattle.hl_media.specs.Causes.{Rose}
use Rattle.hl_media.specs.History.{History}
use Rattle.hl_tree.specs.declared.call.Refusal.{Refusal}
use Rattle.hl_tree.specs.declared.call.Refusal.TheVariants.{Enametoolong}
use Rattle.hl_tree.specs.Names.{is_too_long}
use Rattle.hl_tree.specs.Refusals.{◌>>=◌, refused_if}
use Rattle.hl_dir.specs.declared.entry.Entry.{Entry}
use Rattle.hl_dir.specs.Dirs.{Spells}
use Rattle.hl_placed.specs.Blocks.{PlacedFile}
use Rattle.hl_paths.specs.Entries.{entry_number}
use Rattle.hl_paths.specs.Finding.{entries_in, find_number, find_parent, named, parent_with}
use Rattle.hl_paths.specs.Numbered.{Directory, Leaf, Numbering}
use Rattle.hl_store.specs.Values.{StoreValue}
use Rattle.hl_store.specs.Shapes.{IsNumber}
use Rattle.hl_ranges.specs.Directories.{HasDirectoryDraft}
use Rattle.hl_walk.specs.declared.walk.Halt.{Halt}
use Rattle.hl_walk.specs.declared.walk.Halt.TheVariants as halt
use Rattle.hl_walk.specs.declared.walk.ParentFound.{ParentFound}
use Rattle.hl_walk.specs.declared.found.FoundPath.{FoundPath}
use Rattle.hl_walk.specs.declared.found.FoundPath.TheVariants as found
use Rattle.hl_walk.specs.Trees.{OfTree}

-- the number that a path leads to, if no name and not the whole is too long
abbrev pub number_at : Numbering PlacedFile → List (List ℕ) → Result ℕ Refusal
number_at numbered path = do
  _ ← refused_if (is_too_long path) Enametoolong
  find_number numbered path

-- the number of a name in the directory of a number
abbrev pub child_in : Numbering PlacedFile → ℕ → List ℕ → Result ℕ Refusal
child_in numbered number name = do
  es ← entries_in (get numbered number)
  named (entry_number es name)

-- a number is what was found of it
abbrev pub IsOfNumber : Numbering PlacedFile → Result ℕ Refusal → FoundPath → Type 0
IsOfNumber numbered led (found.File number) =
    (led ≡ Ok number) × ((file : PlacedFile) × (get numbered number ≡ Some (Leaf file)))
IsOfNumber numbered led (found.Dir number) =
    (led ≡ Ok number) × ((es : List Entry) × (get numbered number ≡ Some (Directory es)))
IsOfNumber numbered led (found.Refused why) = led ≡ Err why
IsOfNumber numbered led found.DiskFault = ⊥
IsOfNumber numbered led found.Memory = ⊥

-- why a path leads to no number
abbrev pub LeadsNowhere : List (List ℕ) → Numbering PlacedFile → Refusal → Type 0
LeadsNowhere path numbered why = find_number numbered path ≡ Err why

-- why a number has no entries
abbrev pub HasNoEntries : ℕ → Numbering PlacedFile → Refusal → Type 0
HasNoEntries number numbered why = entries_in (get numbered number) ≡ Err why

-- why a name leads nowhere in the directory of a number
abbrev pub HasNoChild : ℕ → List ℕ → Numbering PlacedFile → Refusal → Type 0
HasNoChild number name numbered why = child_in numbered number name ≡ Err why

-- why a path's last name stands in no directory
abbrev pub HasNoParent : List (List ℕ) → Numbering PlacedFile → Refusal → Type 0
HasNoParent path numbered why = find_parent numbered path ≡ Err why

module _ {M : Type 0} where
  -- Why a walk didn't come to its end: a rule refuses it, or a read failed, where the count rose, or memory was wanting.
  abbrev pub Halts : (M → Option History) → (M → ℕ) → StoreValue M → StoreValue M
      → (Numbering PlacedFile → Refusal → Type 0) → Halt → Type 0
  Halts history faults old new IsWhy (halt.Refused why) =
      OfTree history old (λ c numbered. IsWhy numbered why)
  Halts history faults old new IsWhy halt.DiskFault =
      Rose (faults old.log.machine) (faults new.log.machine)
  Halts history faults old new IsWhy halt.Memory = Unit {0}

  -- the number that a path leads to
  abbrev pub LeadsTo : (M → Option History) → StoreValue M → List (List ℕ) → ℕ → Type 0
  LeadsTo history v path number = OfTree history v (λ c numbered. find_number numbered path ≡ Ok number)

  -- a directory has the entries that these bytes spell, and is drafted
  pub record HasEntries (history : M → Option History) (old new : StoreValue M) (number : ℕ)
      (bytes : List ℕ) : Type 0 where
    pub drafted : HasDirectoryDraft new number (length bytes)
    pub are : OfTree history old (λ c numbered. (es : List Entry) × Spells bytes es
        × (entries_in (get numbered number) ≡ Ok es))

  -- the number of a name in the directory of a number
  abbrev pub IsChild : (M → Option History) → StoreValue M → ℕ → List ℕ → ℕ → Type 0
  IsChild history v number name child =
      OfTree history v (λ c numbered. child_in numbered number name ≡ Ok child)

  -- the directory in which the last name of a path stands, which has these bytes and is drafted
  pub record HasParent (history : M → Option History) (old new : StoreValue M)
      (path : List (List ℕ)) (parent : ParentFound) : Type 0 where
    pub number : IsNumber old parent.number
    pub drafted : HasDirectoryDraft new parent.number (length parent.bytes.items)
    pub is : OfTree history old (λ c numbered. (es : List Entry) × Spells parent.bytes.items es
        × (find_parent numbered path ≡ Ok (parent_with parent.number es)))

  -- What a path was found to lead to. A fault comes only where the count rose.
  abbrev pub FindsPath : (M → Option History) → (M → ℕ) → StoreValue M → StoreValue M
      → List (List ℕ) → FoundPath → Type 0
  FindsPath history faults old new path found.DiskFault =
      Rose (faults old.log.machine) (faults new.log.machine)
  FindsPath history faults old new path found.Memory = Unit {0}
  FindsPath history faults old new path (found.File number) =
      OfTree history old (λ c numbered. IsOfNumber numbered (number_at numbered path) (found.File number))
  FindsPath history faults old new path (found.Dir number) =
      OfTree history old (λ c numbered. IsOfNumber numbered (number_at numbered path) (found.Dir number))
  FindsPath history faults old new path (found.Refused why) =
      OfTree history old (λ c numbered. IsOfNumber numbered (number_at numbered path) (found.Refused why))
