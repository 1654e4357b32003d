-- What the walk over a chain keeps.
use Rattle.std.proofs.Common.{◌≡◌, ℕ, zero, suc, ◌+◌, ◌≤◌, ◌^◌, Bool, true, false, List, [], ◌∷◌, ◌++◌, length, take, Result, Ok, Err, IfOk, refl, sym, ◌∙◌, ap, arith, length-append}
use Rattle.std.proofs.lemmas.List.{take_all, take-append-le}
use Rattle.hl_media.specs.History.{Image}
use Rattle.hl_addr.specs.Layout.{Layout}
use Rattle.hl_summary.specs.declared.parts.Summary.{Summary}
use Rattle.hl_image.specs.declared.place.LogPlace.{LogPlace}
use Rattle.hl_image.specs.declared.chain.ChainPart.{ChainPart}
use Rattle.hl_image.specs.Parts.{IsPart, NoPart, next_of}
use Rattle.hl_image.specs.Chain.{Walk, end_of, cut, IsCutChain, placed}
use Rattle.hl_image.proofs.ChainLemmas.{chain_ends, walk_more, cut_closed, cut_open, cut_single, end_of-append, placed-append, length-placed}

-- so many parts were found, of which so many are kept
pub record Walked (g : Layout) (image : Image) (start : LogPlace) (first : ℕ) (chain : List ChainPart) (ended : ℕ) (at : LogPlace) (serial : ℕ) : Type 0 where
  pub parts : List Summary
  pub chain_is : chain ≡ placed start parts
  pub walk : Walk g image start first parts
  pub end_is : end_of start parts ≡ at
  pub serial_is : first + length parts ≡ serial
  pub kept : cut parts ≡ take ended parts
  pub few : ended ≤ length parts

pub if_ok_map : {A E : Type 0} (r : Result A E) (P Q : A → Type 0) → ((x : A) → P x → Q x) → IfOk r P → IfOk r Q
if_ok_map (Ok x) P Q weaker holds = weaker x holds
if_ok_map (Err e) P Q weaker holds = tt

pub walk_begins : (g : Layout) (image : Image) (start : LogPlace) (first : ℕ) → Walked g image start first [] 0 start first
walk_begins g image start first = record { parts = []; chain_is = refl; walk = tt; end_is = refl; serial_is = omega arith; kept = refl; few = omega arith }

take_placed : (x : LogPlace) (n : ℕ) (ps : List Summary) → take n (placed x ps) ≡ placed x (take n ps)
take_placed x zero ps = refl
take_placed x (suc n) [] = refl
take_placed x (suc n) (p ∷ ps) = ap (λ (l : List ChainPart). record { seg = x.seg; block = x.block; summary = p } ∷ l) (take_placed (next_of p) n ps)

module _ (g : Layout) (image : Image) (start : LogPlace) (first : ℕ) (chain : List ChainPart) (ended : ℕ) (at : LogPlace) (serial : ℕ) (w : Walked g image start first chain ended at serial) where
  -- with one more part
  module _ (s : Summary) (here : IsPart g image at serial s) where
    more : List Summary
    more = w.parts ++ s ∷ []

    chain_more_is : chain ++ record { seg = at.seg; block = at.block; summary = s } ∷ [] ≡ placed start (w.parts ++ s ∷ [])
    chain_more_is =
        let one : record { seg = at.seg; block = at.block; summary = s } ∷ [] ≡ placed (end_of start w.parts) (s ∷ []) = ap (λ (x : LogPlace). placed x (s ∷ [])) (sym w.end_is) in
        ap (λ (l : List ChainPart). l ++ record { seg = at.seg; block = at.block; summary = s } ∷ []) w.chain_is ∙ ap (λ (l : List ChainPart). placed start w.parts ++ l) one ∙ sym (placed-append start w.parts (s ∷ []))

    pub walk_goes_on : (n : ℕ) → (s.ends ≡ true → n ≡ length chain + 1) → (s.ends ≡ false → n ≡ ended)
        → Walked g image start first (chain ++ record { seg = at.seg; block = at.block; summary = s } ∷ []) n (next_of s) (serial + 1)
    walk_goes_on n closes stays =
        let size : length chain ≡ length w.parts = ap length w.chain_is ∙ length-placed start w.parts in
        let sum : length (w.parts ++ s ∷ []) ≡ length w.parts + 1 = length-append w.parts (s ∷ []) in
        record {
          parts = w.parts ++ s ∷ [];
          chain_is = chain_more_is;
          walk = walk_more g image start at first serial w.parts s w.walk w.end_is w.serial_is here;
          end_is = end_of-append start w.parts (s ∷ []);
          serial_is = omega (arith, w.serial_is);
          kept = by_end s.ends refl size sum;
          few = few_by s.ends refl size sum;
        }
      where
        by_end : (b : Bool) → s.ends ≡ b → length chain ≡ length w.parts → length (w.parts ++ s ∷ []) ≡ length w.parts + 1 → cut (w.parts ++ s ∷ []) ≡ take n (w.parts ++ s ∷ [])
        by_end true ends size sum = cut_closed w.parts s ends ∙ sym (take_all n (w.parts ++ s ∷ []) (omega (arith, closes ends)))
        by_end false ends size sum =
            cut_open w.parts (s ∷ []) (cut_single s ends) ∙ w.kept ∙ sym (take-append-le ended w.parts (s ∷ []) w.few) ∙ ap (λ (k : ℕ). take k (w.parts ++ s ∷ [])) (sym (stays ends))

        few_by : (b : Bool) → s.ends ≡ b → length chain ≡ length w.parts → length (w.parts ++ s ∷ []) ≡ length w.parts + 1 → n ≤ length (w.parts ++ s ∷ [])
        few_by true ends size sum = omega (arith, closes ends)
        few_by false ends size sum = omega (arith, stays ends, w.few)

  -- no part stands where the walk has come
  pub walk_ends : NoPart g image at serial → (parts : List Summary) × IsCutChain g image start first parts × (take ended chain ≡ placed start parts)
  walk_ends none = (
    take ended w.parts,
    record { all = w.parts; chain = chain_ends g image start at first serial w.parts w.walk w.end_is w.serial_is none; is = w.kept },
    ap (take ended) w.chain_is ∙ take_placed start ended w.parts,
  )

-- no field holds a serial of more than 64 bits
pub none_past : (g : Layout) (image : Image) (at : LogPlace) (serial : ℕ) → 2 ^ 64 ≤ serial → NoPart g image at serial
none_past g image at serial past s is = omega (arith, is.spelled.value.serial_fits, is.spelled.serial_is)
