-- What a site file says.
use Rattle.std.specs.Prelude.{◌≡◌, ◌⊎◌, ℕ, suc, ℤ, pos, negsuc, ◌/◌, Bool, ◌&&◌, ◌||◌, ◌==◌, nat_le, if◌then◌else◌, List, [], ◌∷◌, Option, Some, Result, Ok, Err, IsUtf8}
use Rattle.toml.specs.Data.{Data, integer, array, Items, no_items, item, Members, get_member}
use Rattle.toml.specs.Parse.{parse_document}
use Rattle.hl_addr.specs.Layout.{Layout, table_blocks}
use Rattle.hl_site.specs.declared.key.Key.{Key}
use Rattle.hl_site.specs.declared.key.Key.TheVariants.{SegmentBlocks, LogSegments, Lines, Inodes, Volumes}
use Rattle.hl_site.specs.declared.error.SiteError.{SiteError}
use Rattle.hl_site.specs.declared.error.SiteError.TheVariants.{NotToml, Missing, OutOfRange, TablesTooLarge, Memory}
use Rattle.hl_site.specs.Key.{name_of}

-- the first thing that is wrong decides
infixl 10 ◌>>=◌
abbrev pub ◌>>=◌ : {A C : Type 0} → Result A SiteError → (A → Result C SiteError) → Result C SiteError
(Ok a) >>= f = f a
(Err why) >>= f = Err why

-- the number is within the key's limits; for the volumes, as the slots of one
abbrev pub is_allowed : Key → ℕ → Bool
is_allowed SegmentBlocks n = n == 64 || n == 128 || n == 256 || n == 512
is_allowed LogSegments n = nat_le 16 n && nat_le n 4096
is_allowed Lines n = nat_le 13 n && nat_le n 256
is_allowed Inodes n = nat_le 2 n && nat_le n 2048
is_allowed Volumes n = nat_le 1 n && nat_le n 4096

-- a whole number within the key's limits
abbrev pub allowed : Key → ℤ → Result ℕ SiteError
allowed key (pos n) = if is_allowed key n then Ok n else Err (OutOfRange key (pos n))
allowed key (negsuc n) = Err (OutOfRange key (negsuc n))

-- the value is a whole number within the key's limits
abbrev pub number_of : Key → Option Data → Result ℕ SiteError
number_of key (Some (integer value)) = allowed key value
number_of key _ = Err (Missing key)

-- the entries are the slots of each volume
abbrev pub slots_of : Items → Result (List ℕ) SiteError
slots_of no_items = Ok []
slots_of (item entry entries) = do
  slots ← number_of Volumes (Some entry)
  others ← slots_of entries
  Ok (slots ∷ others)

-- how many entries there are
abbrev pub item_count : Items → ℕ
item_count no_items = 0
item_count (item entry entries) = suc (item_count entries)

-- the value is a list of from 1 to 32 volumes
abbrev pub volumes_of : Option Data → Result (List ℕ) SiteError
volumes_of (Some (array entries)) = if nat_le 1 (item_count entries) && nat_le (item_count entries) 32 then slots_of entries else Err (OutOfRange Volumes (pos (item_count entries)))
volumes_of _ = Err (Missing Volumes)

-- the tables of the site fill at most half a segment
abbrev pub with_tables : Layout → Result Layout SiteError
with_tables g = if nat_le (table_blocks g) (g.k / 2) then Ok g else Err (TablesTooLarge (table_blocks g))

-- the site that a document gives, or the first thing that is wrong
unfoldable pub site_of : Members → Result Layout SiteError
site_of document = do
  k ← number_of SegmentBlocks (get_member (name_of SegmentBlocks) document)
  log ← number_of LogSegments (get_member (name_of LogSegments) document)
  lines ← number_of Lines (get_member (name_of Lines) document)
  inodes ← number_of Inodes (get_member (name_of Inodes) document)
  volumes ← volumes_of (get_member (name_of Volumes) document)
  with_tables (record { k = k; log = log; lines = lines; inodes = inodes; volumes = volumes })

-- the text is this document
abbrev pub IsDocument : List ℕ → Members → Type 0
IsDocument text document = IsUtf8 text × (parse_document text ≡ Some document)

-- the answer is the one that is meant, unless memory ran out
abbrev pub IsUnlessMemory : {A : Type 0} → Result A SiteError → Result A SiteError → Type 0
IsUnlessMemory result meant = (result ≡ Err Memory) ⊎ (result ≡ meant)

-- what reading a text answers: not TOML where it is no document, and else what the document gives
abbrev pub Reads : List ℕ → Result Layout SiteError → Type 0
Reads text (Err NotToml) = (document : Members) → ¬ IsDocument text document
Reads text (Err Memory) = Unit {0}
Reads text answer = (document : Members) × IsDocument text document × (site_of document ≡ answer)
