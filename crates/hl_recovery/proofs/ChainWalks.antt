-- What a walk over the chain of a machine keeps, whether or not it tells what it holds.
use Rattle.std.proofs.Common.{◌≡◌, ℕ, zero, suc, ◌+◌, ◌-◌, ◌^◌, ◌<◌, ◌≤◌, Bool, true, false, List, [], ◌∷◌, ◌++◌, length, take, refl, sym, ◌∙◌, ap, subst, arith, length-append}
use Rattle.std.specs.Prelude.{min, if◌then◌else◌}
use Rattle.std.proofs.lemmas.List.{map-append, take-map, take_all, take-append-le, length-take-le}
use Rattle.hl_media.specs.History.{Image}
use Rattle.hl_addr.specs.Layout.{Layout}
use Rattle.hl_super.specs.declared.record.Record.{Record}
use Rattle.hl_summary.specs.declared.parts.Summary.{Summary}
use Rattle.hl_summary.specs.Parts.{IsSummary}
use Rattle.hl_image.specs.declared.place.LogPlace.{LogPlace}
use Rattle.hl_image.specs.declared.chain.ChainPart.{ChainPart}
use Rattle.hl_image.specs.Places.{IsLogPlace}
use Rattle.hl_image.specs.Parts.{IsPart, NoPart, next_of}
use Rattle.hl_image.specs.Chain.{end_of, placed}
use Rattle.hl_image.specs.Newest.{start_of}
use Rattle.hl_image.proofs.ChainLemmas.{next_place, end_of-append, placed-append}
use Rattle.hl_image.proofs.Walking.{Walked, walk_goes_on, walk_ends}
use Rattle.hl_found.specs.Found.{AreChainParts, parts_found}
use Rattle.hl_found.proofs.TablesFound.{chain_found}
use Rattle.hl_recovery.specs.declared.chain.Chain.{Chain}
use Rattle.hl_recovery.specs.declared.chain.Cut.{Cut}
use Rattle.hl_recovery.specs.Chains.{AreSummaries, IsBehind}
use Rattle.hl_recovery.proofs.SummaryChains.{summaries-append, summaries-take}

-- these parts were found, and where they are cut
pub record Walking (g : Layout) (start : LogPlace) (first : ℕ) (chain : List ChainPart) (at : LogPlace) (serial : ℕ) (cut : Cut) : Type 0 where
  pub places : placed start (parts_found chain) ≡ chain
  pub summaries : AreSummaries g start (parts_found chain)
  pub end_is : end_of start (parts_found chain) ≡ at
  pub place : IsLogPlace g at
  pub serial_is : first + length chain ≡ serial
  pub few : cut.count ≤ length chain
  pub cut_at : cut.at ≡ end_of start (take cut.count (parts_found chain))
  pub cut_serial : cut.serial ≡ min (first + cut.count) (2 ^ 64 - 1)

pub walking_begins : (g : Layout) (start : LogPlace) (first : ℕ) → IsLogPlace g start → first < 2 ^ 64 → Walking g start first [] start first (record { count = 0; at = start; serial = first })
walking_begins g start first place fits = record {
  places = refl;
  summaries = tt;
  end_is = refl;
  place = place;
  serial_is = omega arith;
  few = omega arith;
  cut_at = refl;
  cut_serial = omega arith;
}

-- places of the first of parts
take_placed : (at : LogPlace) (n : ℕ) (ps : List Summary) → take n (placed at ps) ≡ placed at (take n ps)
take_placed at zero ps = refl
take_placed at (suc n) [] = refl
take_placed at (suc n) (p ∷ ps) = ap (λ (l : List ChainPart). record { seg = at.seg; block = at.block; summary = p } ∷ l) (take_placed (next_of p) n ps)

pub length_found : (chain : List ChainPart) → length (parts_found chain) ≡ length chain
length_found [] = refl
length_found (p ∷ chain) = let e = length_found chain in omega arith

module _ (g : Layout) (start : LogPlace) (first : ℕ) (chain : List ChainPart) (at : LogPlace) (serial : ℕ) (cut : Cut) (w : Walking g start first chain at serial cut) (s : Summary) (is : IsSummary g at.seg at.block s) where
  found_more : parts_found (chain ++ record { seg = at.seg; block = at.block; summary = s } ∷ []) ≡ parts_found chain ++ s ∷ []
  found_more = map-append (λ (p : ChainPart). p.summary) chain (record { seg = at.seg; block = at.block; summary = s } ∷ [])

  places_more : placed start (parts_found (chain ++ record { seg = at.seg; block = at.block; summary = s } ∷ [])) ≡ chain ++ record { seg = at.seg; block = at.block; summary = s } ∷ []
  places_more =
      ap (placed start) found_more ∙ placed-append start (parts_found chain) (s ∷ [])
      ∙ ap (λ (l : List ChainPart). l ++ placed (end_of start (parts_found chain)) (s ∷ [])) w.places
      ∙ ap (λ (x : LogPlace). chain ++ placed x (s ∷ [])) w.end_is

  summaries_more : AreSummaries g start (parts_found (chain ++ record { seg = at.seg; block = at.block; summary = s } ∷ []))
  summaries_more = subst (AreSummaries g start) (sym found_more)
      (summaries-append g start (parts_found chain) (s ∷ []) w.summaries (subst (λ (x : LogPlace). AreSummaries g x (s ∷ [])) (sym w.end_is) (is, tt)))

  end_more : end_of start (parts_found (chain ++ record { seg = at.seg; block = at.block; summary = s } ∷ [])) ≡ next_of s
  end_more = ap (end_of start) found_more ∙ end_of-append start (parts_found chain) (s ∷ [])

  long_more : length (chain ++ record { seg = at.seg; block = at.block; summary = s } ∷ []) ≡ length chain + 1
  long_more = length-append chain (record { seg = at.seg; block = at.block; summary = s } ∷ [])

  -- with one more part, behind which the walk may be cut
  pub walking_more : (ends : Bool) (new : Cut) → new ≡ (if ends then record { count = length chain + 1; at = next_of s; serial = min (serial + 1) (2 ^ 64 - 1) } else cut)
      → Walking g start first (chain ++ record { seg = at.seg; block = at.block; summary = s } ∷ []) (next_of s) (serial + 1) new
  walking_more true new e =
      let long : length chain + 1 ≡ length (chain ++ record { seg = at.seg; block = at.block; summary = s } ∷ []) = sym long_more in
      let all : length (parts_found (chain ++ record { seg = at.seg; block = at.block; summary = s } ∷ [])) ≤ length chain + 1 =
      omega (arith, long_more, length_found (chain ++ record { seg = at.seg; block = at.block; summary = s } ∷ [])) in
      subst (Walking g start first (chain ++ record { seg = at.seg; block = at.block; summary = s } ∷ []) (next_of s) (serial + 1)) (sym e)
      (record {
        places = places_more;
        summaries = summaries_more;
        end_is = end_more;
        place = next_place g at s w.place is.ranges;
        serial_is = omega (arith, long_more, w.serial_is);
        few = omega arith;
        cut_at = sym (ap (end_of start) (take_all (length chain + 1) (parts_found (chain ++ record { seg = at.seg; block = at.block; summary = s } ∷ [])) all) ∙ end_more);
        cut_serial = omega (arith, w.serial_is);
      })
  walking_more false new e =
      let few : cut.count ≤ length (parts_found chain) = omega (arith, w.few, length_found chain) in
      subst (Walking g start first (chain ++ record { seg = at.seg; block = at.block; summary = s } ∷ []) (next_of s) (serial + 1)) (sym e)
      (record {
        places = places_more;
        summaries = summaries_more;
        end_is = end_more;
        place = next_place g at s w.place is.ranges;
        serial_is = omega (arith, long_more, w.serial_is);
        few = omega (arith, long_more, w.few);
        cut_at = w.cut_at ∙ ap (end_of start) (sym (ap (take cut.count) found_more ∙ take-append-le cut.count (parts_found chain) (s ∷ []) few));
        cut_serial = w.cut_serial;
      })

-- where the walk is cut
pub walk_cut : (g : Layout) (rec : Record) (chain : List ChainPart) (at : LogPlace) (serial : ℕ) (cut : Cut) → Walking g (start_of rec) rec.serial chain at serial cut
    → (parts : Chain) → parts.parts.items ≡ take cut.count chain → parts.at ≡ cut.at → parts.serial ≡ cut.serial → IsBehind g rec parts
walk_cut g rec chain at serial cut w parts items_are at_is serial_is =
    let found : parts_found parts.parts.items ≡ take cut.count (parts_found chain) = ap parts_found items_are ∙ sym (take-map (λ (p : ChainPart). p.summary) cut.count chain) in
    let long : length parts.parts.items ≡ cut.count = ap length items_are ∙ length-take-le cut.count chain w.few in
    record {
      places = ap (placed (start_of rec)) found ∙ sym (take_placed (start_of rec) cut.count (parts_found chain)) ∙ ap (take cut.count) w.places ∙ sym items_are;
      summaries = subst (AreSummaries g (start_of rec)) (sym found) (summaries-take g (start_of rec) cut.count (parts_found chain) w.summaries);
      at_is = at_is ∙ w.cut_at ∙ ap (end_of (start_of rec)) (sym found);
      serial_is = serial_is ∙ w.cut_serial ∙ ap (λ (n : ℕ). min (rec.serial + n) (2 ^ 64 - 1)) (sym long);
    }

-- a walk is cut behind a part that ends a unit, and where it was behind others
cut_closes : (ends : Bool) (new there before : Cut) → new ≡ (if ends then there else before) → ends ≡ true → new.count ≡ there.count
cut_closes true new there before is e = ap (λ (x : Cut). x.count) is
cut_closes false new there before is e = absurd cc

cut_stays : (ends : Bool) (new there before : Cut) → new ≡ (if ends then there else before) → ends ≡ false → new.count ≡ before.count
cut_stays true new there before is e = absurd cc
cut_stays false new there before is e = ap (λ (x : Cut). x.count) is

module _ (g : Layout) (start : LogPlace) (first : ℕ) (chain items : List ChainPart) (at : LogPlace) (serial : ℕ) (cut new there : Cut) (s : Summary)
    (new_is : new ≡ (if s.ends then there else cut)) (count_is : there.count ≡ length chain + 1) (items_are : items ≡ chain ++ record { seg = at.seg; block = at.block; summary = s } ∷ []) where
  -- what an image has of one more part
  pub walked_more : (image : Image) → Walked g image start first chain cut.count at serial → IsPart g image at serial s → Walked g image start first items new.count (next_of s) (serial + 1)
  walked_more image w here =
      subst (λ (l : List ChainPart). Walked g image start first l new.count (next_of s) (serial + 1)) (sym items_are)
      (walk_goes_on g image start first chain cut.count at serial w s here new.count (λ e. cut_closes s.ends new there cut new_is e ∙ count_is) (λ e. cut_stays s.ends new there cut new_is e))

  -- what is so of one more part whatever the image
  pub walking_on : there.at ≡ next_of s → there.serial ≡ min (serial + 1) (2 ^ 64 - 1) → Walking g start first chain at serial cut → IsSummary g at.seg at.block s → Walking g start first items (next_of s) (serial + 1) new
  walking_on at_is serial_is w is =
      let whole : there ≡ record { count = length chain + 1; at = next_of s; serial = min (serial + 1) (2 ^ 64 - 1) } =
      ap (λ (n : ℕ). record there { count = n }) count_is
      ∙ ap (λ (x : LogPlace). record there { count = length chain + 1; at = x }) at_is
      ∙ ap (λ (n : ℕ). record there { count = length chain + 1; at = next_of s; serial = n }) serial_is in
      subst (λ (l : List ChainPart). Walking g start first l (next_of s) (serial + 1) new) (sym items_are)
      (walking_more g start first chain at serial cut w s is s.ends new (new_is ∙ ap (λ (x : Cut). if s.ends then x else cut) whole))

-- the parts of the chain, where no part stands behind the walk
pub found_cut : (g : Layout) (image : Image) (rec : Record) (chain items : List ChainPart) (at : LogPlace) (serial : ℕ) (cut : Cut) → Walked g image (start_of rec) rec.serial chain cut.count at serial → NoPart g image at serial
    → items ≡ take cut.count chain → AreChainParts g image rec items
found_cut g image rec chain items at serial cut w none items_are =
    let ends = walk_ends g image (start_of rec) rec.serial chain cut.count at serial w none in
    chain_found g image rec items ends.0 ends.1 (items_are ∙ ends.2)
