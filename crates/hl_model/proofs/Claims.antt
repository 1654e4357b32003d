-- Claims that are no greater than others.
use Rattle.std.proofs.Common.{◌≡◌, ℕ, List, Option, Some, None, refl, ◌∙◌, sym, subst}
use Rattle.hl_model.specs.Claims.{Claim, ClaimedSegment, CopyWithin, IsNoGreater, MeetsClaim, MeetsSegment, SegmentWithin}

segment-refl : (one : ClaimedSegment) → SegmentWithin one one
segment-refl one = record { serial = refl; blocks = λ block listed. listed }

segment-trans : (one other third : ClaimedSegment) → SegmentWithin one other → SegmentWithin other third → SegmentWithin one third
segment-trans one other third a b = record { serial = a.serial ∙ b.serial; blocks = λ block listed. b.blocks block (a.blocks block listed) }

copy-refl : (o : Option ClaimedSegment) → CopyWithin o o
copy-refl None = tt
copy-refl (Some one) = segment-refl one

copy-trans : (o p q : Option ClaimedSegment) → CopyWithin o p → CopyWithin p q → CopyWithin o q
copy-trans None p q a b = tt
copy-trans (Some one) None q a b = absurd a
copy-trans (Some one) (Some other) None a b = absurd b
copy-trans (Some one) (Some other) (Some third) a b = segment-trans one other third a b

pub no_greater-refl : (claim : Claim) → IsNoGreater claim claim
no_greater-refl claim = record {
  homes = λ slot listed. record { other = slot; listed = listed; place = refl; segment = segment-refl slot.segment };
  copied = copy-refl claim.copied;
}

pub no_greater-trans : (one other third : Claim) → IsNoGreater one other → IsNoGreater other third → IsNoGreater one third
no_greater-trans one other third a b = record {
  homes = λ slot listed.
      let first = a.homes slot listed in
      let next = b.homes first.other first.listed in
      record { other = next.other; listed = next.listed; place = first.place ∙ next.place; segment = segment-trans slot.segment first.other.segment next.other.segment first.segment next.segment };
  copied = copy-trans one.copied other.copied third.copied a.copied b.copied;
}

-- what is a segment with more blocks is one with fewer
segment-met : (k : ℕ) (bytes : List ℕ) (one other : ClaimedSegment) → SegmentWithin one other → MeetsSegment k bytes other → MeetsSegment k bytes one
segment-met k bytes one other within meets = record {
  head = meets.head;
  spells = meets.spells;
  serial = meets.serial ∙ sym within.serial;
  blocks = λ block listed. meets.blocks block (within.blocks block listed);
}

pub smaller-met : (k : ℕ) (may : ℕ → List ℕ → Type 0) (buffer : List ℕ) (one other : Claim) → IsNoGreater one other → MeetsClaim k may buffer other → MeetsClaim k may buffer one
smaller-met k may buffer one other within meets = record {
  homes = λ slot listed bytes left.
      let there = within.homes slot listed in
      segment-met k bytes slot.segment there.other.segment there.segment (meets.homes there.other there.listed bytes (subst (λ n. may n bytes) there.place left));
  copied = λ segment is. by_copy segment other.copied refl (subst (λ o. CopyWithin o other.copied) is within.copied);
}
  where
    by_copy : (segment : ClaimedSegment) (o : Option ClaimedSegment) → other.copied ≡ o → CopyWithin (Some segment) o → MeetsSegment k buffer segment
    by_copy segment None e within = absurd within
    by_copy segment (Some greater) e within = segment-met k buffer segment greater within (meets.copied greater e)
