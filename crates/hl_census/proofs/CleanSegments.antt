-- The clean segments, of those that were found empty.
use Rattle.std.proofs.Common.{◌≡◌, ◌≢◌, inl, inr, ⊎_elim, ℕ, ◌+◌, ◌<◌, ◌≤◌, List, [], ◌∷◌, ◌++◌, length-append, get_or, refl, sym, ◌∙◌, ap, subst, arith}
use Rattle.std.specs.Prelude.{AllPairs, Contains, slice_index}
use Rattle.std.proofs.lemmas.Bool.{cases_eq}
use Rattle.std.proofs.lemmas.List.Elements.{Contains-append_left, Contains-get_or, Contains-push, Contains-push_cases}
use Rattle.std.proofs.lemmas.List.Quantifiers.{all_pairs_push}
use Rattle.hl_media.specs.History.{Image}
use Rattle.hl_addr.specs.Layout.{IsWithinLimits, Layout}
use Rattle.hl_super.specs.declared.record.Record.{Record}
use Rattle.hl_summary.specs.declared.parts.Summary.{Summary}
use Rattle.hl_tables.specs.Values.{TableValues}
use Rattle.hl_log.specs.Free.{AreClean, Once}
use Rattle.hl_image.specs.declared.place.LogPlace.{LogPlace}
use Rattle.hl_nodes.specs.Rooms.{AreCleanAtMount, IsCleanAtMount}
use Rattle.hl_nodes.specs.Sound.{head_of}
use Rattle.hl_census.specs.Clearing.{AreEmptyBelow, IsEmptySegment}
use Rattle.hl_nodes.specs.Covering.{IsCovered}
use Rattle.hl_census.specs.Living.{AreLive}
use Rattle.hl_census.proofs.LiveNumbers.{live_none, none_live}
use Rattle.hl_census.proofs.Pairs.{pairs_head, pairs_nil, pairs_tail}
use Rattle.hl_census.proofs.UsedSegments.{reached, some_reached}

-- SEGMENT BY SEGMENT
module _ (at : LogPlace) (covered live : List ℕ) where
  pub empty_none : AreEmptyBelow at covered live 1 []
  empty_none = record {
    each = λ seg. (λ c. absurd (let lt = c.1 in omega arith), λ is. absurd (let low = is.0 in let lt = is.1 in omega arith));
    rising = pairs_nil (λ (a b : ℕ). a < b);
    few = omega arith;
  }

  module _ (end : ℕ) (clean : List ℕ) (are : AreEmptyBelow at covered live end clean) where
    -- one more that isn't empty
    pub empty_not : (IsEmptySegment at covered live end → ⊥) → AreEmptyBelow at covered live (end + 1) clean
    empty_not never = record {
      each = λ seg. (
        λ c. (let is = (are.each seg).0 c in let lt = is.1 in (is.0, omega arith, is.2)),
        λ is. (are.each seg).1 (is.0, below seg is.1 is.2, is.2),
      );
      rising = are.rising;
      few = (let lt = are.few in omega arith);
    }
      where
        below : (seg : ℕ) → seg < end + 1 → IsEmptySegment at covered live seg → seg < end
        below seg lt is = elim (cases_eq seg end) [
          | inl e ↦ absurd (never (subst (IsEmptySegment at covered live) e is))
          | inr ne ↦ omega arith
        ]

    -- one more that is
    module _ (low : 1 ≤ end) (is : IsEmptySegment at covered live end) where
      pub empty_more : AreEmptyBelow at covered live (end + 1) (clean ++ end ∷ [])
      empty_more = record {
        each = λ seg. (
          λ c. ⊎_elim (λ old. (let was = (are.each seg).0 old in let lt = was.1 in (was.0, omega arith, was.2)))
              (λ same. (subst (λ (s : ℕ). 1 ≤ s) same low, omega arith, subst (IsEmptySegment at covered live) same is)) (Contains-push_cases clean end seg c),
          λ now. elim (cases_eq seg end) [
            | inl e ↦ subst (Contains (clean ++ end ∷ [])) (sym e) (Contains-push clean end)
            | inr ne ↦ (let lt = now.1 in Contains-append_left clean (end ∷ []) seg ((are.each seg).1 (now.0, omega arith, now.2)))
          ],
        );
        rising = all_pairs_push (λ (a b : ℕ). a < b) clean end are.rising (λ m d lt. ((are.each (get_or clean m d)).0 (Contains-get_or clean m d lt)).1);
        few = (let lt = are.few in let size = length-append clean (end ∷ []) in omega arith);
      }

-- numbers that rise stand once
rising_once : (xs : List ℕ) → AllPairs (λ (one other : ℕ). one < other) xs → Once xs
rising_once [] rises = tt
rising_once (x ∷ xs) rises = (
  λ c. (let up : x < x = pairs_head (λ (a b : ℕ). a < b) x x xs rises c in omega arith),
  rising_once xs (pairs_tail (λ (a b : ℕ). a < b) x xs rises),
)

module _ (g : Layout) (limits : IsWithinLimits g) (at : LogPlace) (covered live clean : List ℕ) (are : AreEmptyBelow at covered live (g.log + 1) clean) where
  pub clean_in_log : AreClean g at.seg clean
  clean_in_log = record {
    in_log = λ seg c. (let is = (are.each seg).0 c in let lt = is.1 in (is.0, omega arith));
    once = rising_once clean are.rising;
    apart = λ c. ((are.each at.seg).0 c).2.not_head refl;
  }

  -- the empty segments are the clean ones
  module _ (image : Image) (rec : Record) (parts : List Summary) (t : TableValues) (head : at ≡ head_of rec parts) (covers : IsCovered g rec parts covered) (counted : AreLive g image rec t live) where
    head_is : at.seg ≡ (head_of rec parts).seg
    head_is = ap (λ (p : LogPlace). p.seg) head

    to_clean : (seg : ℕ) → 1 ≤ seg → seg ≤ g.log → IsEmptySegment at covered live seg → IsCleanAtMount g image rec parts t seg
    to_clean seg low high is = record {
      low = low;
      high = high;
      not_head = λ e. is.not_head (e ∙ sym head_is);
      no_live = λ a lives. none_live g limits image rec t live counted seg low high is.no_live a ((counted.each a).1 lives);
      no_part = λ a c e. some_reached g limits rec parts covered covers seg high a c e is.no_part;
    }

    from_clean : (seg : ℕ) → IsCleanAtMount g image rec parts t seg → IsEmptySegment at covered live seg
    from_clean seg is = record {
      not_head = λ e. is.not_head (e ∙ head_is);
      no_part = none (slice_index covered seg) (λ some. (let r = reached g limits rec parts covered covers seg is.high some in is.no_part r.0 r.1 r.2));
      no_live = live_none g limits image rec t live counted seg is.low is.high (λ a c. is.no_live a ((counted.each a).0 c));
    }
      where
        none : (n : ℕ) → (n ≢ 0 → ⊥) → n ≡ 0
        none n never = elim (cases_eq n 0) [ inl e ↦ e | inr ne ↦ absurd (never ne) ]

    pub clean_at_mount : AreCleanAtMount g image rec parts t clean
    clean_at_mount = record {
      each = λ seg. (
        λ c. (let is = (are.each seg).0 c in let lt = is.1 in to_clean seg is.0 (omega arith) is.2),
        λ is. (let high = is.high in (are.each seg).1 (is.low, omega arith, from_clean seg is)),
      );
      rising = λ i j lt hi. are.rising i j 0 lt hi;
    }
