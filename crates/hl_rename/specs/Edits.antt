-- The bytes of a directory once its entries are others.
use Rattle.std.specs.Prelude.{◌≡◌, ℕ, ◌≤◌, List, IsSome, length, take}
use Rattle.hl_dir.specs.declared.entry.Entry.{Entry}
use Rattle.hl_paths.specs.Entries.{entry_number}
use Rattle.hl_entries.specs.Places.{Become, IfSpells}
use Rattle.hl_walk.specs.declared.walk.ParentFound.{ParentFound}
use Rattle.hl_links.specs.declared.changing.DirectoryChange.{DirectoryChange}

-- The bytes of a directory become those of the entries that f makes of its own, and stay the same up to where they change.
pub record Edits (f : List Entry → List Entry) (parent : ParentFound)
    (change : DirectoryChange) : Type 0 where
  pub number : change.number ≡ parent.number
  pub become : Become f parent.bytes.items change.bytes.items
  pub front : take change.from change.bytes.items ≡ take change.from parent.bytes.items

-- there are no more bytes than there were
abbrev pub IsNoLonger : ParentFound → DirectoryChange → Type 0
IsNoLonger parent change = length change.bytes.items ≤ length parent.bytes.items

-- there are not where the name had an entry
abbrev pub IsNoLongerIf : List ℕ → ParentFound → DirectoryChange → Type 0
IsNoLongerIf name parent change = IfSpells parent.bytes.items
    (λ es. IsSome (entry_number es name) → IsNoLonger parent change)
