-- How far a search for a name has come among entries, and where it ends.
use Rattle.std.specs.Prelude.{◌≡◌, ℕ, List, ◌∷◌, ◌++◌, length, Result, MatchResult}
use Rattle.std.specs.List.{AllByRecursion}
use Rattle.hl_dir.specs.declared.entry.Entry.{Entry}
use Rattle.hl_dir.specs.Dirs.{IsBefore, dir_bytes}
use Rattle.hl_entries.specs.declared.place.EntryPlace.{EntryPlace}

-- each of these entries comes before a name
abbrev pub AreBefore : List ℕ → List Entry → Type 0
AreBefore name = AllByRecursion (λ e. IsBefore e.name name)

-- each of these entries comes after a name
abbrev pub AreAfter : List ℕ → List Entry → Type 0
AreAfter name = AllByRecursion (λ e. IsBefore name e.name)

-- entries stand in two parts, the second from a place of their bytes on
pub record Parts (es : List Entry) (at : ℕ) (passed left : List Entry) : Type 0 where
  pub split : es ≡ passed ++ left
  pub start : at ≡ length (dir_bytes passed)

-- at a place of the bytes these entries are left, and all before it come before the name
pub record HasLeft (es : List Entry) (name : List ℕ) (at : ℕ) (left : List Entry) : Type 0 where
  pub passed : List Entry
  pub parts : Parts es at passed left
  pub before : AreBefore name passed

-- the entry of the name stands there
pub record IsFound (es : List Entry) (name : List ℕ) (place : EntryPlace) : Type 0 where
  pub behind : List Entry
  pub reached : HasLeft es name place.at ((record { ino = place.ino; name = name }) ∷ behind)
  pub after : AreAfter name behind

-- no entry has the name, and its place is there
pub record IsMissing (es : List Entry) (name : List ℕ) (at : ℕ) : Type 0 where
  pub behind : List Entry
  pub reached : HasLeft es name at behind
  pub after : AreAfter name behind

-- where a search for a name ends
abbrev pub Finds : List Entry → List ℕ → Result EntryPlace ℕ → Type 0
Finds es name answer = MatchResult answer (IsFound es name) (IsMissing es name)
