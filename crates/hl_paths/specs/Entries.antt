-- The entries of a directory as a map from names to numbers.
use Rattle.std.specs.Prelude.{◌≡◌, ℕ, cond, not, List, [], ◌∷◌, map, filter, Option, Some, None}
use Rattle.std.specs.FinMap.Entries.{by_order}
use Rattle.std.specs.Ordering.{nat_cmp}
use Rattle.std.specs.Cmp.Lexicographic.{slice_cmp}
use Rattle.hl_dir.specs.declared.entry.Entry.{Entry}
use Rattle.hl_dir.specs.Dirs.{AreEntries}
use Rattle.hl_paths.specs.Links.{same_name}

-- the number of the entry with a name
abbrev pub entry_number : List Entry → List ℕ → Option ℕ
entry_number [] name = None
entry_number (e ∷ es) name = cond (same_name name e.name) (Some e.ino) (entry_number es name)

-- the entries with one for this name, in its place
unfoldable pub with_entry : List ℕ → ℕ → List Entry → List Entry
with_entry name ino [] = (record { ino = ino; name = name }) ∷ []
with_entry name ino (e ∷ es) = by_order (slice_cmp nat_cmp name e.name) ((record { ino = ino; name = name }) ∷ e ∷ es) ((record { ino = ino; name = e.name }) ∷ es) (e ∷ with_entry name ino es)

-- the entries but the one for this name
unfoldable pub without_entry : List ℕ → List Entry → List Entry
without_entry name es = filter (λ e. not (same_name name e.name)) es

abbrev pub entry_names : List Entry → List (List ℕ)
entry_names es = map (λ e. e.name) es

-- the entries of a directory once a name has this number, or none
pub record AreWith (old : List Entry) (name : List ℕ) (to : Option ℕ) (new : List Entry) : Type 0 where
  pub entries : AreEntries new
  pub numbers : (named : List ℕ) → entry_number new named ≡ cond (same_name named name) to (entry_number old named)
