-- Where the entry of a name stands in the bytes of a directory.
use Rattle.std.specs.Prelude.{ℕ, ◌+◌, cond, List, length, filter, Option, is_some}
use Rattle.std.specs.Option.{option_map}
use Rattle.std.specs.Ordering.{nat_cmp, is_lt}
use Rattle.std.specs.Cmp.Lexicographic.{slice_cmp}
use Rattle.hl_dir.specs.declared.entry.Entry.{Entry}
use Rattle.hl_dir.specs.Dirs.{Spells, dir_bytes}
use Rattle.hl_paths.specs.Entries.{entry_number}
use Rattle.hl_entries.specs.declared.place.EntryPlace.{EntryPlace}

-- the entries whose names come before a name
unfoldable pub entries_before : List ℕ → List Entry → List Entry
entries_before name es = filter (λ e. is_lt (slice_cmp nat_cmp e.name name)) es

-- where the entry of a name begins, or would begin: behind all that come before it
unfoldable pub entry_start : List Entry → List ℕ → ℕ
entry_start es name = length (dir_bytes (entries_before name es))

-- where the entry of a name begins, if there is one
abbrev pub entry_at : List Entry → List ℕ → Option ℕ
entry_at es name = option_map (λ _. entry_start es name) (entry_number es name)

-- where the entry of a name begins and the number that it links, if there is one
abbrev pub entry_place : List Entry → List ℕ → Option EntryPlace
entry_place es name = option_map (λ ino. record { at = entry_start es name; ino = ino }) (entry_number es name)

-- how many bytes more there are once a name has an entry
abbrev pub entry_growth : List Entry → List ℕ → ℕ
entry_growth es name = cond (is_some (entry_number es name)) 0 (5 + length name)

-- of the entries that the bytes spell, if they spell any
abbrev pub IfSpells : List ℕ → (List Entry → Type 0) → Type 0
IfSpells bytes P = (es : List Entry) → Spells bytes es → P es

-- bytes of entries become the bytes of the entries that f makes of them
abbrev pub Become : (List Entry → List Entry) → List ℕ → List ℕ → Type 0
Become f old new = IfSpells old (λ es. Spells new (f es))
