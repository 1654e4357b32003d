-- What the numbers of a site file are, once they were read.
use Rattle.std.proofs.Common.{◌≡◌, ◌⊎◌, ℕ, suc, ℤ, pos, negsuc, ◌/◌, ◌<◌, ◌≤◌, Bool, true, false, ◌&&◌, nat_le, List, [], ◌∷◌, length, sum, All, Option, Some, Result, Ok, Err, inl, inr, refl, sym, ap, ◌∙◌, subst, arith}
use Rattle.std.specs.Prelude.{if◌then◌else◌}
use Rattle.std.proofs.lemmas.Bool.Decides.{nat_tests}
use Rattle.std.proofs.lemmas.List.Elements.{All-cons}
use Rattle.toml.specs.Data.{Data, integer, array, Items, no_items, item, as_array}
use Rattle.toml.specs.View.{items_view}
use Rattle.toml.specs.declared.value.Value.{Value}
use Rattle.hl_addr.specs.Layout.{IsSegmentSize, IsLogCount, IsLineCount, IsInodeCount, IsVolumeCount, IsSlotCount, IsWithinLimits, table_blocks_of}
use Rattle.hl_site.specs.declared.key.Key.{Key}
use Rattle.hl_site.specs.declared.key.Key.TheVariants.{SegmentBlocks, LogSegments, Lines, Inodes, Volumes}
use Rattle.hl_site.specs.declared.error.SiteError.{SiteError}
use Rattle.hl_site.specs.declared.error.SiteError.TheVariants.{OutOfRange}
use Rattle.hl_site.specs.Site.{◌>>=◌, is_allowed, allowed, number_of, item_count, slots_of, volumes_of}
use Rattle.hl_site.proofs.Outcomes.{bind_ok, chosen_ok}

chosen_number : (b : Bool) (m n : ℕ) (why : SiteError) → (if b then Ok m else Err why) ≡ Ok n → (b ≡ true) × (m ≡ n)
chosen_number true m n why is = (refl, cc)
chosen_number false m n why is = absurd cc

-- a number that was read is within the key's limits
allowed_within : (key : Key) (z : ℤ) (n : ℕ) → allowed key z ≡ Ok n → is_allowed key n ≡ true
allowed_within key (pos m) n is =
    let both = chosen_number (is_allowed key m) m n (OutOfRange key (pos m)) is in
    subst (λ (x : ℕ). is_allowed key x ≡ true) both.1 both.0
allowed_within key (negsuc m) n is = absurd cc

pub number_within : (key : Key) (d : Option Data) (n : ℕ) → number_of key d ≡ Ok n → is_allowed key n ≡ true
number_within key (Some (integer z)) n is = allowed_within key z n is
number_within key d n is = absurd cc

-- what the limits of each key are
pub segment_size : (n : ℕ) → is_allowed SegmentBlocks n ≡ true → IsSegmentSize n
segment_size n is = grind (arith, nat_tests)

pub log_count : (n : ℕ) → is_allowed LogSegments n ≡ true → IsLogCount n
log_count n is = grind (arith, nat_tests)

pub line_count : (n : ℕ) → is_allowed Lines n ≡ true → IsLineCount n
line_count n is = grind (arith, nat_tests)

pub inode_count : (n : ℕ) → is_allowed Inodes n ≡ true → IsInodeCount n
inode_count n is = grind (arith, nat_tests)

slot_count : (n : ℕ) → is_allowed Volumes n ≡ true → IsSlotCount n
slot_count n is = grind (arith, nat_tests)

within_count : (n : ℕ) → (nat_le 1 n && nat_le n 32) ≡ true → IsVolumeCount n
within_count n is = grind (arith, nat_tests)

-- one volume for each entry, with slots within the limits
abbrev AreSlots : Items → List ℕ → Type 0
AreSlots ds vs = (length vs ≡ item_count ds) × All IsSlotCount vs

slots_within : (ds : Items) (vs : List ℕ) → slots_of ds ≡ Ok vs → AreSlots ds vs
slots_within no_items vs is =
    let none : [] ≡ vs = cc in
    subst (λ (l : List ℕ). AreSlots no_items l) none (refl, λ k d h. absurd (omega (arith, h)))
slots_within (item d ds) vs is =
    bind_ok {P = AreSlots (item d ds) vs} (number_of Volumes (Some d)) (λ slots. slots_of ds >>= (λ others. Ok (slots ∷ others))) vs is (λ n number next.
    bind_ok {P = AreSlots (item d ds) vs} (slots_of ds) (λ others. Ok (n ∷ others)) vs next (λ others rest last.
    let more : AreSlots ds others = slots_within ds others rest in
    let front : n ∷ others ≡ vs = cc in
    subst (λ (l : List ℕ). AreSlots (item d ds) l) front (ap suc more.0, All-cons IsSlotCount n others (slot_count n (number_within Volumes (Some d) n number)) more.1)))

-- the volumes that were read are within the limits
pub volumes_within : (d : Option Data) (vs : List ℕ) → volumes_of d ≡ Ok vs → IsVolumeCount (length vs) × All IsSlotCount vs
volumes_within (Some (array ds)) vs is =
    let both : ((nat_le 1 (item_count ds) && nat_le (item_count ds) 32) ≡ true) × (slots_of ds ≡ Ok vs) = chosen_ok (nat_le 1 (item_count ds) && nat_le (item_count ds) 32) (slots_of ds) (OutOfRange Volumes (pos (item_count ds))) vs is in
    let sized : AreSlots ds vs = slots_within ds vs both.1 in
    (subst (λ (n : ℕ). IsVolumeCount n) (sym sized.0) (within_count (item_count ds) both.0), sized.1)
volumes_within d vs is = absurd cc

-- the numbers that were read make a site, if its tables fit
pub site_within :
    (k log lines inodes : ℕ) (volumes : List ℕ) (d e f g : Option Data)
    → number_of SegmentBlocks d ≡ Ok k → number_of LogSegments e ≡ Ok log → number_of Lines f ≡ Ok lines → number_of Inodes g ≡ Ok inodes
    → IsVolumeCount (length volumes) × All IsSlotCount volumes → table_blocks_of log inodes (sum volumes) ≤ k / 2
    → IsWithinLimits (record { k = k; log = log; lines = lines; inodes = inodes; volumes = volumes })
site_within k log lines inodes volumes d e f g k_is log_is lines_is inodes_is counts fit = record {
  segment_size = segment_size k (number_within SegmentBlocks d k k_is);
  log_count = log_count log (number_within LogSegments e log log_is);
  line_count = line_count lines (number_within Lines f lines lines_is);
  inode_count = inode_count inodes (number_within Inodes g inodes inodes_is);
  volume_count = counts.0;
  slot_counts = counts.1;
  tables_fit = fit;
}

-- the value of a key that is a list
item_count-items_view : (es : List Value) → item_count (items_view es) ≡ length es
item_count-items_view [] = refl
item_count-items_view (e ∷ es) = ap suc (item_count-items_view es)

array_is : (d : Data) (ds : Items) → as_array d ≡ Some ds → d ≡ array ds
array_is (array es) ds is =
    let same : es ≡ ds = cc in
    ap array same
array_is d ds is = absurd cc

volumes_are : (member : Option Data) (d : Data) (ds : Items) → member ≡ Some d → as_array d ≡ Some ds → volumes_of member ≡ volumes_of (Some (array ds))
volumes_are member d ds member_is list_is = ap volumes_of member_is ∙ ap (λ (x : Data). volumes_of (Some x)) (array_is d ds list_is)

counted : (b : Bool) (r : Result (List ℕ) SiteError) (why : SiteError) → b ≡ true → (if b then r else Err why) ≡ r
counted true r why is = refl
counted false r why is = absurd cc

uncounted : (b : Bool) (r : Result (List ℕ) SiteError) (why : SiteError) → b ≡ false → (if b then r else Err why) ≡ Err why
uncounted true r why is = absurd cc
uncounted false r why is = refl

test_holds : (n : ℕ) → 1 ≤ n → n ≤ 32 → (nat_le 1 n && nat_le n 32) ≡ true
test_holds n low high = grind (arith, nat_tests)

test_fails : (n : ℕ) → (n < 1) ⊎ (32 < n) → (nat_le 1 n && nat_le n 32) ≡ false
test_fails n (inl low) = grind (arith, nat_tests)
test_fails n (inr high) = grind (arith, nat_tests)

-- so many volumes as may be
pub volumes_few :
    (member : Option Data) (d : Data) (es : List Value) (n : ℕ)
    → member ≡ Some d → as_array d ≡ Some (items_view es) → n ≡ length es → 1 ≤ n → n ≤ 32
    → volumes_of member ≡ slots_of (items_view es)
volumes_few member d es n member_is list_is count low high =
    let same : n ≡ item_count (items_view es) = count ∙ sym (item_count-items_view es) in
    volumes_are member d (items_view es) member_is list_is
    ∙ counted (nat_le 1 (item_count (items_view es)) && nat_le (item_count (items_view es)) 32) (slots_of (items_view es)) (OutOfRange Volumes (pos (item_count (items_view es)))) (test_holds (item_count (items_view es)) (subst (λ (x : ℕ). 1 ≤ x) same low) (subst (λ (x : ℕ). x ≤ 32) same high))

-- too few or too many
pub volumes_off :
    (member : Option Data) (d : Data) (es : List Value) (n : ℕ)
    → member ≡ Some d → as_array d ≡ Some (items_view es) → n ≡ length es → (n < 1) ⊎ (32 < n)
    → volumes_of member ≡ Err (OutOfRange Volumes (pos n))
volumes_off member d es n member_is list_is count off =
    let same : n ≡ item_count (items_view es) = count ∙ sym (item_count-items_view es) in
    volumes_are member d (items_view es) member_is list_is
    ∙ uncounted (nat_le 1 (item_count (items_view es)) && nat_le (item_count (items_view es)) 32) (slots_of (items_view es)) (OutOfRange Volumes (pos (item_count (items_view es)))) (test_fails (item_count (items_view es)) (subst (λ (x : ℕ). (x < 1) ⊎ (32 < x)) same off))
    ∙ ap (λ (x : ℕ). Err (OutOfRange Volumes (pos x))) (sym same)
