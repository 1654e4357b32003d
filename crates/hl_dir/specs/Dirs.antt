-- The bytes of a directory.
use Rattle.std.specs.Prelude.{◌≡◌, ◌≢◌, ℕ, ◌+◌, ◌<◌, ◌≤◌, ◌^◌, List, [], ◌∷◌, ◌++◌, length, Option, Some, None, slice_index, get_or}
use Rattle.std.specs.List.{AllByRecursion}
use Rattle.std.specs.Ordering.{nat_cmp}
use Rattle.std.specs.Cmp.Lexicographic.{slice_cmp}
use Rattle.std.specs.declared.cmp.Ordering.TheVariants.{Less}
use Rattle.std.specs.Global.{Vec}
use Rattle.hl_bytes.specs.Fields.{le32}
use Rattle.hl_dir.specs.declared.entry.Entry.{Entry}

-- the bytes of one entry
abbrev pub entry_bytes : Entry → List ℕ
entry_bytes e = (le32 e.ino ++ length e.name ∷ []) ++ e.name

-- the one spelling of entries: one after the other
unfoldable pub dir_bytes : List Entry → List ℕ
dir_bytes [] = []
dir_bytes (e ∷ es) = entry_bytes e ++ dir_bytes es

-- a name: 1 to 255 bytes without 0 and 47
pub record IsName (name : List ℕ) : Type 0 where
  pub some : 1 ≤ length name
  pub short : length name ≤ 255
  pub plain : (i : ℕ) → i < length name → (slice_index name i ≢ 0) × (slice_index name i ≢ 47)

-- each entry has a name
abbrev pub AreNames : List Entry → Type 0
AreNames es = (k : ℕ) → k < length es → (d : Entry) → IsName (get_or es k d).name

-- one name comes before another, compared by bytes
abbrev pub IsBefore : List ℕ → List ℕ → Type 0
IsBefore first second = slice_cmp nat_cmp first second ≡ Less

-- each name comes before the next, so they differ
abbrev pub AreOrdered : List Entry → Type 0
AreOrdered es = (k : ℕ) → k + 1 < length es → (d : Entry) → IsBefore (get_or es k d).name (get_or es (k + 1) d).name

-- the entries of one directory: each has a name, and they stand in order
abbrev pub AreSorted : List Entry → Type 0
AreSorted es = AreNames es × AreOrdered es

-- an entry's numbers have room in their fields
abbrev pub HasRoom : Entry → Type 0
HasRoom e = (e.ino < 2 ^ 32) × (length e.name < 256)

abbrev pub HaveRoom : List Entry → Type 0
HaveRoom = AllByRecursion HasRoom

-- entries of one directory, whose numbers have room in their fields
abbrev pub AreEntries : List Entry → Type 0
AreEntries es = HaveRoom es × AreSorted es

-- bytes are the spelling of entries
pub record Spells (bytes : List ℕ) (es : List Entry) : Type 0 where
  pub value : AreEntries es
  pub spelled : bytes ≡ dir_bytes es

-- the entries that these bytes are, or none where they are no entries
abbrev pub Reads : List ℕ → Option (Vec Entry) → Type 0
Reads bytes (Some v) = HaveRoom v.items × (bytes ≡ dir_bytes v.items)
Reads bytes None = (es : List Entry) → HaveRoom es → bytes ≡ dir_bytes es → ⊥
