-- The live numbers, as they are counted from addresses.
use Rattle.std.proofs.Common.{◌≡◌, ◌≢◌, inl, inr, ℕ, ◌+◌, ◌-◌, ◌/◌, ◌^◌, ◌<◌, ◌≤◌, min, Bool, true, false, List, [], ◌∷◌, length, length-set, replicate, refl, sym, ◌∙◌, ap, subst, arith, if◌then◌else◌}
use Rattle.std.specs.Prelude.{Contains, filter, slice_index, slice_set, None}
use Rattle.std.specs.List.{fold}
use Rattle.std.proofs.lemmas.Bool.{cases_eq}
use Rattle.std.proofs.lemmas.List.{get_or-replicate, get_or-set_other, get_or-set_same, length-replicate}
use Rattle.hl_media.specs.History.{Image}
use Rattle.hl_addr.specs.Layout.{IsWithinLimits, Layout}
use Rattle.hl_super.specs.declared.record.Record.{Record}
use Rattle.hl_summary.specs.declared.parts.Summary.{Summary}
use Rattle.hl_tables.specs.Values.{TableValues}
use Rattle.hl_nodes.specs.declared.rule.Rule.TheVariants.{SharedBlock}
use Rattle.hl_nodes.proofs.Membership.{first_or_later, head_in, tail_in}
use Rattle.hl_tally.specs.Counting.{added, is_logged}
use Rattle.hl_tally.proofs.Segments.{logged_within, within_logged}
use Rattle.hl_census.specs.Living.{AreLive}
use Rattle.hl_census.specs.Naming.{AreNamed, LieInLog}
use Rattle.hl_nodes.specs.Telling.{TellsBroken}
use Rattle.hl_census.proofs.LiveAddresses.{lives_each, lives_once}

module _ (k : ℕ) where
  -- one more in the segment of an address of the log
  abbrev more_in : List ℕ → ℕ → List ℕ
  more_in live a = slice_set live (a / k - 1) (min (slice_index live (a / k - 1) + 1) (2 ^ 32 - 1))

  added-logged : (live : List ℕ) (a : ℕ) → is_logged k (length live) a ≡ true → added k live a ≡ more_in live a
  added-logged live a e = ap (λ (b : Bool). if b then more_in live a else live) e

  added-elsewhere : (live : List ℕ) (a : ℕ) → is_logged k (length live) a ≡ false → added k live a ≡ live
  added-elsewhere live a e = ap (λ (b : Bool). if b then more_in live a else live) e

  pub length-added : (live : List ℕ) (a : ℕ) → length (added k live a) ≡ length live
  length-added live a = by (is_logged k (length live) a)
    where
      by : (b : Bool) → length (if b then more_in live a else live) ≡ length live
      by true = length-set live (a / k - 1) (min (slice_index live (a / k - 1) + 1) (2 ^ 32 - 1))
      by false = refl

  pub length-counted : (live row : List ℕ) → length (fold (added k) live row) ≡ length live
  length-counted live [] = refl
  length-counted live (a ∷ row) = length-counted (added k live a) row ∙ length-added live a

  -- addresses elsewhere count for nothing
  pub counted-kept : (n : ℕ) (live row : List ℕ) → length live ≡ n → fold (added k) live row ≡ fold (added k) live (filter (is_logged k n) row)
  counted-kept n live [] size = refl
  counted-kept n live (a ∷ row) size = by (is_logged k n a) refl (counted-kept n (added k live a) row (length-added live a ∙ size))
    where
      by : (b : Bool) → is_logged k n a ≡ b → fold (added k) (added k live a) row ≡ fold (added k) (added k live a) (filter (is_logged k n) row)
          → fold (added k) (added k live a) row ≡ fold (added k) live (if b then a ∷ filter (is_logged k n) row else filter (is_logged k n) row)
      by true e rest = rest
      by false e rest = rest ∙ ap (λ (l : List ℕ). fold (added k) l (filter (is_logged k n) row)) (added-elsewhere live a (ap (λ (m : ℕ). is_logged k m a) size ∙ e))

  module _ (segment : ℕ) (low : 1 ≤ segment) where
    abbrev number : List ℕ → ℕ
    number live = slice_index live (segment - 1)

    -- an address of the segment counts there, and one of another doesn't
    more_here : (live : List ℕ) (a : ℕ) → segment ≤ length live → a / k ≡ segment → 0 < number (added k live a)
    more_here live a high e =
        let logged : is_logged k (length live) a ≡ true = within_logged k (length live) a (subst (λ (s : ℕ). 1 ≤ s) (sym e) low) (subst (λ (s : ℕ). s ≤ length live) (sym e) high) in
        let place : segment - 1 ≡ a / k - 1 = ap (λ (s : ℕ). s - 1) (sym e) in
        let value : ℕ = min (slice_index live (a / k - 1) + 1) (2 ^ 32 - 1) in
        let now : number (added k live a) ≡ value =
        ap number (added-logged live a logged) ∙ ap (slice_index (more_in live a)) place ∙ get_or-set_same live (a / k - 1) value 0 (omega arith) in
        omega arith

    less_elsewhere : (live : List ℕ) (a : ℕ) → a / k ≢ segment → number (added k live a) ≡ number live
    less_elsewhere live a ne = by (is_logged k (length live) a) refl
      where
        by : (b : Bool) → is_logged k (length live) a ≡ b → number (if b then more_in live a else live) ≡ number live
        by true e =
            let w = logged_within k (length live) a e in
            let w0 = w.0 in
            let apart : segment - 1 ≢ a / k - 1 = λ same. ne (omega arith) in
            get_or-set_other live (a / k - 1) (segment - 1) (min (slice_index live (a / k - 1) + 1) (2 ^ 32 - 1)) 0 apart
        by false e = refl

    -- what is counted there stays counted
    stays : (live row : List ℕ) → segment ≤ length live → 0 < number live → 0 < number (fold (added k) live row)
    stays live [] high some = some
    stays live (a ∷ row) high some =
        let size = length-added live a in
        stays (added k live a) row (omega arith) (elim (cases_eq (a / k) segment) [
          | inl e ↦ more_here live a high e
          | inr ne ↦ (let same = less_elsewhere live a ne in omega arith)
        ])

    pub counted_some : (live row : List ℕ) → segment ≤ length live → (a : ℕ) → Contains row a → a / k ≡ segment → 0 < number (fold (added k) live row)
    counted_some live [] high a c e = absurd (let lt = c.1 in omega arith)
    counted_some live (b ∷ row) high a c e =
        let size = length-added live b in
        elim (first_or_later b a row c) [
          | inl same ↦ stays (added k live b) row (omega arith) (more_here live b high (ap (λ (x : ℕ). x / k) same ∙ e))
          | inr later ↦ counted_some (added k live b) row (omega arith) a later e
        ]

    pub counted_none : (live row : List ℕ) → ((a : ℕ) → Contains row a → a / k ≢ segment) → number (fold (added k) live row) ≡ number live
    counted_none live [] none = refl
    counted_none live (a ∷ row) none =
        counted_none (added k live a) row (λ b c. none b (tail_in a b row c)) ∙ less_elsewhere live a (none a (head_in a row))

-- THE LIVE NUMBERS OF AN IMAGE
module _ (g : Layout) (limits : IsWithinLimits g) (image : Image) (rec : Record) (t : TableValues) where
  pub live_counted : (parts : List Summary) (addresses live : List ℕ) → live ≡ fold (added g.k) (replicate g.log 0) addresses → LieInLog g rec.tables → AreNamed g image rec t addresses
      → TellsBroken g image rec parts t SharedBlock None → AreLive g image rec t live
  live_counted parts addresses live is in_log named apart = record {
    addresses = filter (is_logged g.k g.log) addresses;
    each = lives_each g image rec t limits in_log addresses named;
    once = lives_once g image rec t limits in_log addresses named parts apart;
    are = is ∙ counted-kept g.k g.log (replicate g.log 0) addresses (length-replicate g.log 0);
  }

  module _ (live : List ℕ) (are : AreLive g image rec t live) (segment : ℕ) (low : 1 ≤ segment) (high : segment ≤ g.log) where
    zeros : slice_index (replicate g.log 0) (segment - 1) ≡ 0
    zeros = get_or-replicate g.log (segment - 1) 0 0 (omega arith)

    size : segment ≤ length {A = ℕ} (replicate g.log 0)
    size = subst (λ (n : ℕ). segment ≤ n) (sym (length-replicate g.log 0)) high

    -- a number is 0 exactly where no live block lies in the segment
    pub none_live : slice_index live (segment - 1) ≡ 0 → (a : ℕ) → Contains are.addresses a → a / g.k ≢ segment
    none_live none a c e =
        let some = counted_some g.k segment low (replicate g.log 0) are.addresses size a c e in
        let same : slice_index live (segment - 1) ≡ slice_index (fold (added g.k) (replicate g.log 0) are.addresses) (segment - 1) = ap (λ (l : List ℕ). slice_index l (segment - 1)) are.are in
        omega arith

    pub live_none : ((a : ℕ) → Contains are.addresses a → a / g.k ≢ segment) → slice_index live (segment - 1) ≡ 0
    live_none none =
        ap (λ (l : List ℕ). slice_index l (segment - 1)) are.are
        ∙ counted_none g.k segment low (replicate g.log 0) are.addresses none ∙ zeros
