-- The tables of a site are tables that a site can be mounted from.
use Rattle.std.proofs.Common.{arith, ◌≡◌, ℕ, ◌<◌, List, get_or, is_some, Option, Some, None, refl, ap, ◌∙◌, sym, inl, inr}
use Rattle.std.proofs.lemmas.Bool.{cases_lt}
use Rattle.std.proofs.lemmas.List.{get_or_past}
use Rattle.std.proofs.lemmas.List.FromFn.{length-map-range_with_len, get_or-map-range_with_len}
use Rattle.std.specs.Prelude.{◌+◌}
use Rattle.hl_addr.specs.Layout.{Layout}
use Rattle.hl_tseg.specs.declared.slot.Slot.TheVariants.{Free}
use Rattle.hl_lines.specs.declared.state.LineState.{LineState}
use Rattle.hl_lines.specs.declared.state.LineState.TheVariants.{Empty, Clean, Staging, Stuck, Aside}
use Rattle.hl_lines.specs.Lines.{held_segment, is_held}
use Rattle.hl_model.specs.Cache.{IsCache}
use Rattle.hl_model.specs.Closed.{tables_of}
use Rattle.hl_model.specs.Lines.{count_held, staged_line}
use Rattle.hl_model.specs.Mounted.{AreOpeningTables, line_of_slot, opening_lines}
use Rattle.hl_model.specs.Site.{SiteState}
use Rattle.hl_model.proofs.Counting.{held-alike}
use Rattle.hl_model.proofs.Sets.{is_there}
use Rattle.hl_model.proofs.StagedAt.{at_staged, found_at, slot_of_line}

held_tells : (line : LineState) → is_held line ≡ is_some (held_segment line)
held_tells Empty = refl
held_tells (Clean t) = refl
held_tells (Staging t) = refl
held_tells (Stuck t) = refl
held_tells Aside = refl

module _ (g : Layout) (s : SiteState) (cache : IsCache g s) where
  one_line : (t u line : ℕ) → staged_line (get_or s.slots t Free) ≡ Some line → staged_line (get_or s.slots u Free) ≡ Some line → t ≡ u
  one_line t u line e f = let both : Some t ≡ Some u = sym (cache.matched.staging line t e) ∙ cache.matched.staging line u f in cc

  there : (t line : ℕ) → staged_line (get_or s.slots t Free) ≡ Some line → line < g.lines
  there t line e = let low = is_there held_segment s.lines line Empty (λ same. let wrong : None ≡ Some t = sym same ∙ cache.matched.staging line t e in cc) in let long = cache.sizes.lines in omega arith

  abbrev opening : List LineState
  opening = opening_lines g s.slots

  -- an opening line holds what the line holds
  slot_held : (line : ℕ) (o : Option ℕ) → held_segment (get_or s.lines line Empty) ≡ o → slot_of_line s.slots line ≡ o
  slot_held line (Some t) e = found_at s.slots one_line line t (cache.matched.staged line t e)
  slot_held line None e = none_of (slot_of_line s.slots line) refl
    where
      none_of : (o : Option ℕ) → slot_of_line s.slots line ≡ o → slot_of_line s.slots line ≡ None
      none_of None f = f
      none_of (Some u) f = let wrong : None ≡ Some u = sym e ∙ cache.matched.staging line u (at_staged s.slots line u f) in cc

  held_is : (o : Option ℕ) → held_segment (line_of_slot o) ≡ o
  held_is None = refl
  held_is (Some t) = refl

  same_held : (line : ℕ) → held_segment (get_or opening line Empty) ≡ held_segment (get_or s.lines line Empty)
  same_held line = elim (cases_lt line g.lines) as (λ _. held_segment (get_or opening line Empty) ≡ held_segment (get_or s.lines line Empty)) [
    | inl low ↦ ap held_segment (get_or-map-range_with_len (λ line. line_of_slot (slot_of_line s.slots line)) 0 g.lines line line Empty low (let same : 0 + line ≡ line = omega arith in same))
        ∙ held_is (slot_of_line s.slots line) ∙ slot_held line (held_segment (get_or s.lines line Empty)) refl
    | inr high ↦ ap held_segment (get_or_past opening line Empty (let size = length-map-range_with_len (λ line. line_of_slot (slot_of_line s.slots line)) 0 g.lines in omega arith))
        ∙ sym (ap held_segment (get_or_past s.lines line Empty (let size = cache.sizes.lines in omega arith)))
  ]

  same_count : count_held opening ≡ count_held s.lines
  same_count = held-alike opening s.lines (length-map-range_with_len (λ line. line_of_slot (slot_of_line s.slots line)) 0 g.lines ∙ sym cache.sizes.lines)
      (λ line. held_tells (get_or opening line Empty) ∙ ap is_some (same_held line) ∙ sym (held_tells (get_or s.lines line Empty)))

  pub tables_open : AreOpeningTables g (tables_of s)
  tables_open = record {
    slots = cache.sizes.slots;
    full = cache.sizes.full;
    there = there;
    one_line = one_line;
    few = let same = same_count in let few = cache.held in omega arith;
    one_slot = cache.matched.one_slot;
    below = cache.matched.below;
  }
