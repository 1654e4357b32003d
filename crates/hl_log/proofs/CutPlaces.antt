-- What the parts of a unit cover, which isn't free behind it.
use Rattle.std.proofs.Common.{◌≡◌, inl, inr, ⊎_elim, ℕ, zero, suc, ◌+◌, ◌-◌, ◌*◌, ◌<◌, ◌≤◌, Bool, List, [], ◌∷◌, ◌++◌, length, take, drop, get_or, refl, sym, ◌∙◌, ap, subst, arith, length-drop}
use Rattle.std.specs.Prelude.{Contains}
use Rattle.std.specs.List.{range_with_len}
use Rattle.std.proofs.lemmas.List.{length-take-le, get_or_default}
use Rattle.hl_addr.specs.Layout.{Layout}
use Rattle.hl_bytes.specs.declared.records.BlockRecord.{BlockRecord}
use Rattle.hl_bytes.specs.declared.records.TableRecord.{TableRecord}
use Rattle.hl_image.specs.declared.place.LogPlace.{LogPlace}
use Rattle.hl_image.specs.Places.{block_at, IsLogPlace}
use Rattle.hl_image.specs.Chain.{end_of, Covers}
use Rattle.hl_image.proofs.ChainLemmas.{apart}
use Rattle.hl_log.specs.declared.piece.Piece.{Piece}
use Rattle.hl_log.specs.Free.{IsFree, InOneOf, AreClean, Once}
use Rattle.hl_log.specs.Cut.{Goes, AreCut, addresses, summaries}
use Rattle.hl_log.proofs.Cutting.{within, place_then}
use Rattle.hl_log.proofs.Steps.{in_one_apart}
use Rattle.hl_log.proofs.Cleans.{first_apart}
use Rattle.hl_log.proofs.Freed.{part_not_free}
use Rattle.hl_log.proofs.Cuts.{was_free}

-- in a list where each number stands once, one number stands at one place
pub once_at : (xs : List ℕ) → Once xs → (i j : ℕ) → i < length xs → j < length xs → get_or xs i 0 ≡ get_or xs j 0 → i ≡ j
once_at [] once i j low high e = absurd (omega arith)
once_at (x ∷ xs) once zero zero low high e = refl
once_at (x ∷ xs) once zero (suc j) low high e = absurd (once.0 (j, omega arith, get_or_default xs j x 0 (omega arith) ∙ sym e))
once_at (x ∷ xs) once (suc i) zero low high e = absurd (once.0 (i, omega arith, get_or_default xs i x 0 (omega arith) ∙ e))
once_at (x ∷ xs) once (suc i) (suc j) low high e = ap suc (once_at xs once.1 i j (omega arith) (omega arith) e)

module _ (g : Layout) where
  -- a block that a part of a unit covers isn't free behind the unit
  pub covers_not_free :
      (closes : Bool) (serial : ℕ) (records : List BlockRecord) (changes : List TableRecord) (at : LogPlace) (clean : List ℕ) (pieces : List Piece) (rest : List ℕ)
      → IsLogPlace g at → AreClean g at.seg clean → AreCut g at clean (length records) (length changes) pieces rest
      → (k : ℕ) → Covers g at (summaries closes serial records changes pieces) k → IsFree g (end_of at (summaries closes serial records changes pieces)) rest k → ⊥
  covers_not_free closes serial records changes at clean [] rest place cleans none k covers free = none
  covers_not_free closes serial records changes at clean (p ∷ []) rest place cleans cut k (inl here) free =
      let size : length (take p.blocks records) ≡ p.blocks = length-take-le p.blocks records (omega (arith, cut.0.blocks_are)) in
      let hi = here.1 in
      part_not_free g at p.blocks clean p.next rest k cleans (within g at clean (length records) (length changes) p rest place cut.0) here.0 (omega arith) cut.0.goes free
  covers_not_free closes serial records changes at clean (p ∷ []) rest place cleans cut k (inr none) free = none
  covers_not_free closes serial records changes at clean (p ∷ q ∷ ps) rest place cleans cut k (inl here) free =
      let size : length (take p.blocks records) ≡ p.blocks = length-take-le p.blocks records (omega (arith, cut.1.blocks_are)) in
      let hi = here.1 in
      part_not_free g at p.blocks clean p.next cut.0 k cleans (within g at clean (length records) (length changes) p cut.0 place cut.1) here.0 (omega arith) cut.1.goes
      (was_free g closes (serial + 1) (drop p.blocks records) (drop p.tables changes) p.next cut.0 (length records - p.blocks) (length changes - p.tables) (q ∷ ps) rest cut.3 k free)
  covers_not_free closes serial records changes at clean (p ∷ q ∷ ps) rest place cleans cut k (inr later) free =
      let then = place_then g at p.blocks clean p.next cut.0 place cleans cut.1.goes in
      let some = subst (λ (n : ℕ). AreCut g p.next cut.0 n (length changes - p.tables) (q ∷ ps) rest) (sym (length-drop p.blocks records)) cut.3 in
      let more = subst (λ (n : ℕ). AreCut g p.next cut.0 (length (drop p.blocks records)) n (q ∷ ps) rest) (sym (length-drop p.tables changes)) some in
      covers_not_free closes (serial + 1) (drop p.blocks records) (drop p.tables changes) p.next cut.0 (q ∷ ps) rest then.0 then.1 more k later free
