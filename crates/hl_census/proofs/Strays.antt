-- Blocks that stray, by the addresses that are named and how far the chain reaches.
use Rattle.std.proofs.Common.{◌≡◌, inl, inr, ⊎_elim, ℕ, ◌+◌, ◌-◌, ◌*◌, ◌/◌, ◌%◌, ◌^◌, ◌<◌, ◌≤◌, min, Bool, List, sym, ◌∙◌, ap, subst, arith}
use Rattle.std.specs.Prelude.{Option, Some, None, slice_index}
use Rattle.std.proofs.lemmas.Nat.{mul-le}
use Rattle.hl_media.specs.History.{Image}
use Rattle.hl_addr.specs.Layout.{IsWithinLimits, Layout}
use Rattle.hl_addr.proofs.PlaceLemmas.{has_blocks}
use Rattle.hl_super.specs.declared.record.Record.{Record}
use Rattle.hl_summary.specs.declared.parts.Summary.{Summary}
use Rattle.hl_tables.specs.Values.{TableValues}
use Rattle.hl_image.specs.declared.place.LogPlace.{LogPlace}
use Rattle.hl_image.specs.Chain.{Covers}
use Rattle.hl_image.specs.Newest.{start_of}
use Rattle.hl_image.specs.Places.{InLog, IsLogPlace}
use Rattle.hl_nodes.specs.declared.rule.Rule.TheVariants.{StrayBlock}
use Rattle.hl_nodes.specs.Sound.{IsAhead, head_of}
use Rattle.hl_tally.proofs.Segments.{in_logged, logged_within}
use Rattle.hl_tally.proofs.UnitLaws.{most_segment}
use Rattle.hl_nodes.specs.Covering.{IsCovered}
use Rattle.hl_census.specs.Naming.{AreNamed, LieInLog}
use Rattle.hl_census.specs.Straying.{AreUsed, TellsAhead, TellsStray}
use Rattle.hl_nodes.specs.Telling.{TellsBroken}
use Rattle.hl_census.proofs.LiveAddresses.{live_of, of_live}
use Rattle.hl_census.proofs.UsedSegments.{before, lies_in, place_in}

-- an address of the log lies in one of its segments
pub segment_high : (g : Layout) (a : ℕ) → InLog g a → a / g.k ≤ g.log
segment_high g a at = (let w = logged_within g.k g.log a (in_logged g a at) in w.1)

-- THE CHAIN, which reaches past the head's block or not
module _ (g : Layout) (limits : IsWithinLimits g) (at : LogPlace) (place : IsLogPlace g at) (rec : Record) (parts : List Summary) (covered : List ℕ) (covers : IsCovered g rec parts covered) where
  ahead_in : (b : ℕ) → IsAhead g at b → (b / g.k ≡ at.seg) × (at.block ≤ b % g.k)
  ahead_in b ahead =
      let low = ahead.0 in
      let high = ahead.1 in
      let some = has_blocks g.k limits.segment_size in
      let off : ℕ = b - g.k * at.seg in
      let here : g.k * at.seg + off ≡ b = omega arith in
      let lt : off < g.k = omega arith in
      let seg : b / g.k ≡ at.seg = ap (λ (n : ℕ). n / g.k) (sym here) ∙ lies_in g limits at.seg off lt in
      let whole : g.k * at.seg + b % g.k ≡ b = place_in g limits at.seg b seg in
      (seg, omega arith)

  pub none_ahead : slice_index covered at.seg ≤ at.block → TellsAhead g at (start_of rec) parts None
  none_ahead near = λ b c ahead.
      let is = ahead_in b ahead in
      let low = is.1 in
      let lt = before g limits rec parts covered covers at.seg place.high b c is.0 in
      omega arith

  pub one_ahead : (told : ℕ) → at.block < slice_index covered at.seg → told ≡ min (g.k * at.seg + (slice_index covered at.seg - 1)) (2 ^ 32 - 1) → TellsAhead g at (start_of rec) parts (Some told)
  one_ahead told far is = ⊎_elim (λ none. absurd (omega arith)) (λ last.
      let lt = last.2 in
      let n : slice_index covered at.seg ≡ last.0 + 1 = last.1 in
      let product : g.k * at.seg ≤ 512 * 4096 = mul-le g.k at.seg 512 4096 (most_segment g.k limits.segment_size) (seg_most at.seg place.high) in
      let small : g.k * at.seg + last.0 < 2 ^ 32 - 1 = (let k = most_segment g.k limits.segment_size in omega arith) in
      let e : g.k * at.seg + last.0 ≡ told = omega arith in (
        subst (Covers g (start_of rec) parts) e last.3,
        (omega arith, omega arith),
      )) (covers at.seg place.high).reached
    where
      seg_most : (seg : ℕ) → seg ≤ g.log → seg ≤ 4096
      seg_most seg high = (let most = limits.log_count.1 in omega arith)

-- ALL THAT MAY STRAY
module _ (g : Layout) (limits : IsWithinLimits g) (image : Image) (rec : Record) (parts : List Summary) (t : TableValues) (at : LogPlace) (head : at ≡ head_of rec parts)
    (in_log : LieInLog g rec.tables) (addresses : List ℕ) (named : AreNamed g image rec t addresses) (used : List Bool) (flags : AreUsed g rec parts t used) where
  ahead_head : (a : ℕ) → IsAhead g at a → IsAhead g (head_of rec parts) a
  ahead_head a = λ ahead. subst (λ (p : LogPlace). IsAhead g p a) head ahead

  head_ahead : (a : ℕ) → IsAhead g (head_of rec parts) a → IsAhead g at a
  head_ahead a = λ ahead. subst (λ (p : LogPlace). IsAhead g p a) (sym head) ahead

  -- a named address that strays
  pub named_told : (a : ℕ) → TellsStray g at used addresses (Some a) → TellsBroken g image rec parts t StrayBlock (Some a)
  named_told a told =
      let stray = told.1 in
      let live = live_of g image rec t limits in_log addresses named a told.0 stray.in_log in
      ⊎_elim
      (λ off. inl (live, λ is. off ((flags (a / g.k) (segment_high g a stray.in_log)).1 is)))
      (λ ahead. inr (inl live, ahead_head a ahead))
      stray.strays

  -- where none strays, a block of the chain that is ahead, or none
  pub parts_told : TellsStray g at used addresses None → (told : Option ℕ) → TellsAhead g at (start_of rec) parts told → TellsBroken g image rec parts t StrayBlock told
  parts_told none (Some b) ahead = inr (inr ahead.0, ahead_head b ahead.1)
  parts_told none None never = λ a broken. ⊎_elim
      (λ unused.
      let there = of_live g image rec t limits in_log addresses named a unused.0 in
      none a there.0 (record { in_log = there.1; strays = inl (λ set. unused.1 ((flags (a / g.k) (segment_high g a there.1)).0 set)) }))
      (λ taken. ⊎_elim
      (λ live. (let there = of_live g image rec t limits in_log addresses named a live in none a there.0 (record { in_log = there.1; strays = inr (head_ahead a taken.1) })))
      (λ covered. never a covered (head_ahead a taken.1))
      taken.0)
      broken
