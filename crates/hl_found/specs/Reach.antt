-- The numbers that are reached from the root, each with the path on which it is.
use Rattle.std.specs.Prelude.{◌≡◌, ℕ, ◌<◌, Bool, true, false, List, [], ◌∷◌, ◌++◌, length, All, Contains, Option, Some, None, IsSome, MatchOption}
use Rattle.std.specs.FinMap.{get}
use Rattle.std.specs.List.{slice_index_or}
use Rattle.std.specs.Global.{Vec}
use Rattle.hl_dir.specs.declared.entry.Entry.{Entry}
use Rattle.hl_dir.specs.Dirs.{AreNames}
use Rattle.hl_placed.specs.Blocks.{PlacedFile}
use Rattle.hl_paths.specs.Links.{resolve}
use Rattle.hl_paths.specs.Numbered.{Directory, Numbering, links, AreLinked}
use Rattle.hl_found.specs.declared.reach.Reached.{Reached}
use Rattle.hl_found.specs.declared.directories.FoundUse.{FoundUse}
use Rattle.hl_found.specs.declared.directories.FoundUse.TheVariants as use_of
use Rattle.hl_found.specs.Directories.{AreUses, HaveEntries}

-- a number, reached on a path
abbrev pub at_path : List (List ℕ) → ℕ → Reached
at_path path number = record { path = path; number = number }

-- the path leads to the number
abbrev pub IsPathTo : Numbering PlacedFile → Reached → Type 0
IsPathTo numbered e = resolve (links numbered) e.path ≡ Some e.number

-- the number is in use
abbrev pub IsNumberUsed : Numbering PlacedFile → Reached → Type 0
IsNumberUsed numbered e = IsSome (get numbered e.number)

-- each path leads to its number, which is in use, and no number stands twice
pub record AreReached (numbered : Numbering PlacedFile) (items : List Reached) : Type 0 where
  pub lead : All (IsPathTo numbered) items
  pub used : All (IsNumberUsed numbered) items
  pub once : (i j : ℕ) (d : Reached) → i < length items → j < length items → (slice_index_or items i d).number ≡ (slice_index_or items j d).number → i ≡ j

-- a list with further items
abbrev pub Extends : List Reached → List Reached → Type 0
Extends old new = (more : List Reached) × (new ≡ old ++ more)

-- each entry of a directory that stands at the path is reached
abbrev pub HasEntriesOf : List (List ℕ) → List Entry → ℕ → List Reached → Type 0
HasEntriesOf path es n items = (k : ℕ) (d : Entry) → k < n → Contains items (at_path (path ++ (slice_index_or es k d).name ∷ []) (slice_index_or es k d).ino)

-- each child of what is reached there is reached below it
abbrev pub HasChildren : Numbering PlacedFile → Reached → List Reached → Type 0
HasChildren numbered e items = (name : List ℕ) (child : ℕ) → links numbered e.number name ≡ Some child → Contains items (at_path (e.path ++ name ∷ []) child)

-- a step that reaches more, or finds that numbers aren't linked
abbrev pub Goes : Numbering PlacedFile → List Reached → List Reached → Type 0 → Bool → Type 0
Goes numbered old new P true = AreReached numbered new × Extends old new × P
Goes numbered old new P false = AreLinked numbered → ⊥

-- what holds of the numbered nodes of these uses that have a root
abbrev pub OfUses : List (Option FoundUse) → (Numbering PlacedFile → Type 0) → Type 0
OfUses uses P = (numbered : Numbering PlacedFile) → AreUses numbered uses → HaveEntries numbered → P numbered

-- each path that leads to a number is there
pub record ArePlaces (numbered : Numbering PlacedFile) (items : List Reached) : Type 0 where
  pub reached : AreReached numbered items
  pub whole : (path : List (List ℕ)) (number : ℕ) → resolve (links numbered) path ≡ Some number → Contains items (at_path path number)

-- all children of what is reached are reached
pub record AreClosed (numbered : Numbering PlacedFile) (items : List Reached) (n : ℕ) : Type 0 where
  pub reached : AreReached numbered items
  pub root : Contains items (at_path [] 1)
  pub children : (i : ℕ) (d : Reached) → i < n → HasChildren numbered (slice_index_or items i d) items

-- all is reached, or numbers aren't linked
abbrev pub Closes : Numbering PlacedFile → List Reached → Bool → Type 0
Closes numbered items true = AreClosed numbered items (length items)
Closes numbered items false = AreLinked numbered → ⊥

-- the names of the entries lead from the path to their numbers
abbrev pub LeadTo : Numbering PlacedFile → List (List ℕ) → List Entry → Type 0
LeadTo numbered path es = (k : ℕ) (d : Entry) → k < length es → resolve (links numbered) (path ++ (slice_index_or es k d).name ∷ []) ≡ Some (slice_index_or es k d).ino

-- each entry of a directory has a name
abbrev pub HaveNames : List (Option FoundUse) → Type 0
HaveNames uses = (i : ℕ) (es : List Entry) → slice_index_or uses i None ≡ Some (use_of.Directory es) → AreNames es

-- number 1 is a directory
abbrev pub HasRootEntries : Numbering PlacedFile → Type 0
HasRootEntries numbered = (es : List Entry) × (get numbered 1 ≡ Some (Directory es))

-- the places of linked numbers, or they aren't linked
abbrev pub FindsPlaces : Numbering PlacedFile → Option (Vec Reached) → Type 0
FindsPlaces numbered found = MatchOption found (AreLinked numbered → ⊥) (λ v. AreLinked numbered × ArePlaces numbered v.items)

-- the number is one of those that are reached
abbrev pub HasNumber : ℕ → List Reached → Type 0
HasNumber number items = (i : ℕ) × ((i < length items) × ((d : Reached) → (slice_index_or items i d).number ≡ number))
