-- Which segments are used, by the flags that were set.
use Rattle.std.proofs.Common.{◌≡◌, ◌≢◌, ◌⊎◌, inl, inr, ⊎_elim, ℕ, ◌+◌, ◌*◌, ◌/◌, ◌%◌, ◌<◌, ◌≤◌, Bool, List, sym, ◌∙◌, ap, subst, mul_comm, arith}
use Rattle.std.specs.Prelude.{◌↔◌, slice_index}
use Rattle.std.proofs.Math.Nat.{div-add-mod}
use Rattle.std.proofs.lemmas.Nat.{div-mul-add, mod_below}
use Rattle.hl_addr.specs.Layout.{IsWithinLimits, Layout}
use Rattle.hl_addr.proofs.PlaceLemmas.{has_blocks}
use Rattle.hl_super.specs.declared.record.Record.{Record}
use Rattle.hl_summary.specs.declared.parts.Summary.{Summary}
use Rattle.hl_tables.specs.Values.{TableValues}
use Rattle.hl_image.specs.declared.place.LogPlace.{LogPlace}
use Rattle.hl_image.specs.Chain.{Covers}
use Rattle.hl_image.specs.Newest.{start_of}
use Rattle.hl_nodes.specs.Sound.{IsUsed, head_of}
use Rattle.hl_nodes.specs.Covering.{IsCovered}
use Rattle.hl_census.specs.Straying.{AreUsed, HaveOneIn, IsHeld, IsSet}

module _ (g : Layout) (limits : IsWithinLimits g) where
  -- a block of a segment lies in it
  pub lies_in : (seg b : ℕ) → b < g.k → (g.k * seg + b) / g.k ≡ seg
  lies_in seg b lt = ap (λ (n : ℕ). (n + b) / g.k) (mul_comm g.k seg) ∙ div-mul-add seg g.k b lt

  -- what lies in a segment is one of its blocks
  pub place_in : (seg address : ℕ) → address / g.k ≡ seg → g.k * seg + address % g.k ≡ address
  place_in seg address e = ap (λ (n : ℕ). g.k * n + address % g.k) (sym e) ∙ div-add-mod address g.k

  pub within : (address : ℕ) → address % g.k < g.k
  within address = mod_below address g.k (has_blocks g.k limits.segment_size)

  module _ (rec : Record) (parts : List Summary) (covered : List ℕ) (covers : IsCovered g rec parts covered) (seg : ℕ) (high : seg ≤ g.log) where
    -- parts that reach into a segment cover a block there
    pub reached : slice_index covered seg ≢ 0 → (b : ℕ) × Covers g (start_of rec) parts b × (b / g.k ≡ seg)
    reached some = ⊎_elim (λ none. absurd (some none)) (λ at. (g.k * seg + at.0, at.3, lies_in seg at.0 at.2)) (covers seg high).reached

    -- a block that they cover lies before the block that they reach
    pub before : (b : ℕ) → Covers g (start_of rec) parts b → b / g.k ≡ seg → b % g.k < slice_index covered seg
    before b c e = (covers seg high).within (b % g.k) (within b) (subst (Covers g (start_of rec) parts) (sym (place_in seg b e)) c)

    pub some_reached : (b : ℕ) → Covers g (start_of rec) parts b → b / g.k ≡ seg → slice_index covered seg ≢ 0
    some_reached b c e none = (let lt = before b c e in omega arith)

    module _ (t : TableValues) (at : LogPlace) (head : at ≡ head_of rec parts) where
      head_is : at.seg ≡ (head_of rec parts).seg
      head_is = ap (λ (p : LogPlace). p.seg) head

      pub to_used : IsHeld t at covered seg ⊎ HaveOneIn g.k rec.tables seg → IsUsed g rec parts t seg
      to_used (inl (inl marked)) = inl marked
      to_used (inl (inr (inl some))) = inr (inr (inl (reached some)))
      to_used (inl (inr (inr same))) = inr (inr (inr (sym head_is ∙ same)))
      to_used (inr one) = inr (inl one)

      pub from_used : IsUsed g rec parts t seg → IsHeld t at covered seg ⊎ HaveOneIn g.k rec.tables seg
      from_used (inl marked) = inl (inl marked)
      from_used (inr (inl one)) = inr one
      from_used (inr (inr (inl c))) = inl (inr (inl (some_reached c.0 c.1 c.2)))
      from_used (inr (inr (inr same))) = inl (inr (inr (head_is ∙ same)))

-- the flags are set of the used segments
pub used_by : (g : Layout) → IsWithinLimits g → (rec : Record) (t : TableValues) (at : LogPlace) (covered : List ℕ) (held used : List Bool)
    → ((seg : ℕ) → seg ≤ g.log → IsSet held seg ↔ IsHeld t at covered seg)
    → ((seg : ℕ) → seg ≤ g.log → IsSet used seg ↔ (IsSet held seg ⊎ HaveOneIn g.k rec.tables seg))
    → (parts : List Summary) → at ≡ head_of rec parts → IsCovered g rec parts covered → AreUsed g rec parts t used
used_by g limits rec t at covered held used held_are used_are parts head covers = λ seg high. (
  λ set. to_used g limits rec parts covered covers seg high t at head (⊎_elim (λ h. inl ((held_are seg high).0 h)) (λ one. inr one) ((used_are seg high).0 set)),
  λ is. (used_are seg high).1 (⊎_elim (λ h. inl ((held_are seg high).1 h)) (λ one. inr one) (from_used g limits rec parts covered covers seg high t at head is)),
)
