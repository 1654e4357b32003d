-- Where the blocks of a cut unit lie, and what is free behind it.
use Rattle.std.proofs.Common.{◌≡◌, inl, inr, ⊎_elim, ℕ, ◌+◌, ◌-◌, ◌*◌, ◌≤◌, Bool, List, [], ◌∷◌, length, drop, sym, ap, subst, arith}
use Rattle.std.specs.Prelude.{Contains}
use Rattle.std.specs.List.{range_with_len}
use Rattle.hl_addr.specs.Layout.{Layout}
use Rattle.hl_addr.specs.Place.{IsIn}
use Rattle.hl_addr.proofs.SegmentLemmas.{is_in}
use Rattle.hl_bytes.specs.declared.records.BlockRecord.{BlockRecord}
use Rattle.hl_bytes.specs.declared.records.TableRecord.{TableRecord}
use Rattle.hl_summary.specs.declared.parts.Summary.{Summary}
use Rattle.hl_image.specs.declared.place.LogPlace.{LogPlace}
use Rattle.hl_image.specs.Places.{block_at, IsLogPlace, InLog}
use Rattle.hl_image.specs.Parts.{next_of}
use Rattle.hl_image.specs.Chain.{end_of, Covers}
use Rattle.hl_log.specs.declared.piece.Piece.{Piece}
use Rattle.hl_log.specs.Free.{IsFree, InOneOf, AreClean}
use Rattle.hl_log.specs.Cut.{Goes, AreCut, addresses, summaries}
use Rattle.hl_log.proofs.Cutting.{within, place_then}
use Rattle.hl_log.proofs.Unfolding.{blocks_at}
use Rattle.hl_log.proofs.Freed.{in_append, in_range, goes_free}

module _ (g : Layout) where
  -- what is free behind a unit was free before it
  pub was_free :
      (closes : Bool) (serial : ℕ) (records : List BlockRecord) (changes : List TableRecord) (at : LogPlace) (clean : List ℕ) (b t : ℕ) (pieces : List Piece) (rest : List ℕ)
      → AreCut g at clean b t pieces rest → (k : ℕ) → IsFree g (end_of at (summaries closes serial records changes pieces)) rest k → IsFree g at clean k
  was_free closes serial records changes at clean b t [] rest none k free = absurd none
  was_free closes serial records changes at clean b t (p ∷ []) rest cut k free = goes_free g at p.blocks clean p.next rest k cut.0.goes free
  was_free closes serial records changes at clean b t (p ∷ q ∷ ps) rest cut k free =
      goes_free g at p.blocks clean p.next cut.0 k cut.1.goes
      (was_free closes (serial + 1) (drop p.blocks records) (drop p.tables changes) p.next cut.0 (b - p.blocks) (t - p.tables) (q ∷ ps) rest cut.3 k free)

  -- a block of a part lies in the log
  in_part : (at : LogPlace) (n x : ℕ) → IsLogPlace g at → at.block + n + 1 ≤ g.k → Contains (range_with_len (block_at g at + 1) n) x → InLog g x
  in_part at n x place room i =
      let r = in_range (block_at g at + 1) n x i in
      let lo = r.0 in
      let hi = r.1 in
      let j = x - g.k * at.seg in
      let is : at.seg * g.k + j ≡ x = omega arith in
      record { segment = at.seg; block = j; place = (place.low, place.high, subst (λ (y : ℕ). IsIn g y at.seg j) is (is_in g at.seg j (omega arith))) }

  pub cut_in_log : (at : LogPlace) (clean : List ℕ) (b t : ℕ) (pieces : List Piece) (rest : List ℕ) → IsLogPlace g at → AreClean g at.seg clean → AreCut g at clean b t pieces rest
      → (x : ℕ) → Contains (addresses g pieces) x → InLog g x
  cut_in_log at clean b t [] rest place cleans none x i = absurd none
  cut_in_log at clean b t (p ∷ []) rest place cleans cut x i =
      ⊎_elim (λ l. in_part at p.blocks x place (within g at clean b t p rest place cut.0) (subst (λ (y : LogPlace). Contains (range_with_len (block_at g y + 1) p.blocks) x) cut.0.at_is l))
      (λ r. absurd (let lt = r.1 in omega arith))
      (in_append (range_with_len (block_at g p.at + 1) p.blocks) [] x i)
  cut_in_log at clean b t (p ∷ q ∷ ps) rest place cleans cut x i =
      let then = place_then g at p.blocks clean p.next cut.0 place cleans cut.1.goes in
      ⊎_elim (λ l. in_part at p.blocks x place (within g at clean b t p cut.0 place cut.1) (subst (λ (y : LogPlace). Contains (range_with_len (block_at g y + 1) p.blocks) x) cut.1.at_is l))
      (λ r. cut_in_log p.next cut.0 (b - p.blocks) (t - p.tables) (q ∷ ps) rest then.0 then.1 cut.3 x r)
      (in_append (range_with_len (block_at g p.at + 1) p.blocks) (addresses g (q ∷ ps)) x i)

  -- a block behind a summary is one of its part's
  pub blocks_covered : (at : LogPlace) (parts : List Summary) (x : ℕ) → Contains (blocks_at g at parts) x → Covers g at parts x
  blocks_covered at [] x i = absurd (let lt = i.1 in omega arith)
  blocks_covered at (s ∷ parts) x i = ⊎_elim
      (λ l. (let r = in_range (block_at g at + 1) (length s.blocks) x l in let lo = r.0 in let hi = r.1 in inl (omega arith, omega arith)))
      (λ r. inr (blocks_covered (next_of s) parts x r))
      (in_append (range_with_len (block_at g at + 1) (length s.blocks)) (blocks_at g (next_of s) parts) x i)
