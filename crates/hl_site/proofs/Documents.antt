-- A document is TOML, whatever else is wrong with it.
use Rattle.std.proofs.Common.{◌≡◌, ◌≢◌, ℕ, ℤ, pos, negsuc, ◌/◌, ◌&&◌, nat_le, List, ◌∷◌, Option, Some, Result, Ok, Err, inl, inr, sym, subst}
use Rattle.toml.specs.Data.{Data, integer, array, Items, no_items, item, Members, get_member}
use Rattle.hl_addr.specs.Layout.{Layout, table_blocks}
use Rattle.hl_site.specs.declared.key.Key.{Key}
use Rattle.hl_site.specs.declared.key.Key.TheVariants.{SegmentBlocks, LogSegments, Lines, Inodes, Volumes}
use Rattle.hl_site.specs.declared.error.SiteError.{SiteError}
use Rattle.hl_site.specs.declared.error.SiteError.TheVariants.{NotToml, OutOfRange, TablesTooLarge, Memory}
use Rattle.hl_site.specs.Key.{name_of}
use Rattle.hl_site.specs.Site.{◌>>=◌, is_allowed, allowed, number_of, item_count, slots_of, volumes_of, with_tables, site_of, IsDocument, IsUnlessMemory, Reads}
use Rattle.hl_site.proofs.Outcomes.{bind_told, chosen_told}

allowed_told : (key : Key) (z : ℤ) → allowed key z ≢ Err NotToml
allowed_told key (pos n) = chosen_told (is_allowed key n) (Ok n) (Err (OutOfRange key (pos n))) (λ e. cc) (λ e. cc)
allowed_told key (negsuc n) = λ e. cc

number_told : (key : Key) (d : Option Data) → number_of key d ≢ Err NotToml
number_told key (Some (integer z)) = allowed_told key z
number_told key d = λ e. cc

slots_told : (ds : Items) → slots_of ds ≢ Err NotToml
slots_told no_items = λ e. cc
slots_told (item d ds) =
    bind_told (number_of Volumes (Some d)) (λ slots. slots_of ds >>= (λ others. Ok (slots ∷ others))) (number_told Volumes (Some d)) (λ slots.
    bind_told (slots_of ds) (λ others. Ok (slots ∷ others)) (slots_told ds) (λ others e. cc))

volumes_told : (d : Option Data) → volumes_of d ≢ Err NotToml
volumes_told (Some (array ds)) = chosen_told (nat_le 1 (item_count ds) && nat_le (item_count ds) 32) (slots_of ds) (Err (OutOfRange Volumes (pos (item_count ds)))) (slots_told ds) (λ e. cc)
volumes_told d = λ e. cc

tables_told : (g : Layout) → with_tables g ≢ Err NotToml
tables_told g = chosen_told (nat_le (table_blocks g) (g.k / 2)) (Ok g) (Err (TablesTooLarge (table_blocks g))) (λ e. cc) (λ e. cc)

-- what is left of the reading, once the first numbers are known
abbrev from_volumes : Members → ℕ → ℕ → ℕ → ℕ → Result Layout SiteError
from_volumes document k log lines inodes =
    volumes_of (get_member (name_of Volumes) document) >>= (λ volumes. with_tables (record { k = k; log = log; lines = lines; inodes = inodes; volumes = volumes }))

abbrev from_inodes : Members → ℕ → ℕ → ℕ → Result Layout SiteError
from_inodes document k log lines = number_of Inodes (get_member (name_of Inodes) document) >>= from_volumes document k log lines

abbrev from_lines : Members → ℕ → ℕ → Result Layout SiteError
from_lines document k log = number_of Lines (get_member (name_of Lines) document) >>= from_inodes document k log

abbrev from_log : Members → ℕ → Result Layout SiteError
from_log document k = number_of LogSegments (get_member (name_of LogSegments) document) >>= from_lines document k

site_told : (document : Members) → site_of document ≢ Err NotToml
unfolding site_of
site_told document =
    bind_told (number_of SegmentBlocks (get_member (name_of SegmentBlocks) document)) (from_log document) (number_told SegmentBlocks (get_member (name_of SegmentBlocks) document)) (λ k.
    bind_told (number_of LogSegments (get_member (name_of LogSegments) document)) (from_lines document k) (number_told LogSegments (get_member (name_of LogSegments) document)) (λ log.
    bind_told (number_of Lines (get_member (name_of Lines) document)) (from_inodes document k log) (number_told Lines (get_member (name_of Lines) document)) (λ lines.
    bind_told (number_of Inodes (get_member (name_of Inodes) document)) (from_volumes document k log lines) (number_told Inodes (get_member (name_of Inodes) document)) (λ inodes.
    bind_told (volumes_of (get_member (name_of Volumes) document)) (λ volumes. with_tables (record { k = k; log = log; lines = lines; inodes = inodes; volumes = volumes })) (volumes_told (get_member (name_of Volumes) document)) (λ volumes.
    tables_told (record { k = k; log = log; lines = lines; inodes = inodes; volumes = volumes }))))))

reads_given : (text : List ℕ) (document : Members) (r : Result Layout SiteError) → IsDocument text document → r ≡ site_of document → Reads text r
reads_given text document (Err NotToml) is given = absurd (site_told document (sym given))
reads_given text document (Err Memory) is given = tt
reads_given text document (Ok g) is given = (document, is, sym given)
reads_given text document (Err why) is given = (document, is, sym given)

-- what a document gives is read
pub reads_document : (text : List ℕ) (document : Members) (r : Result Layout SiteError) → IsDocument text document → IsUnlessMemory r (site_of document) → Reads text r
reads_document text document r is (inl none) = subst (λ (x : Result Layout SiteError). Reads text x) (sym none) tt
reads_document text document r is (inr given) = reads_given text document r is given
