-- Rows of parts: where they stand, and how they grow.
use Rattle.std.proofs.Common.{◌≡◌, inl, inr, ℕ, ◌+◌, ◌*◌, ◌<◌, ◌≤◌, List, [], ◌∷◌, ◌++◌, length, refl, arith}
use Rattle.std.specs.List.{slice_index_or}
use Rattle.std.proofs.lemmas.Bool.{cases_lt}
use Rattle.hl_media.specs.History.{Image}
use Rattle.hl_addr.specs.Layout.{Layout}
use Rattle.hl_bytes.specs.declared.records.BlockRecord.{BlockRecord}
use Rattle.hl_summary.specs.declared.parts.Summary.{Summary}
use Rattle.hl_image.specs.Parts.{IsPart}
use Rattle.hl_image.proofs.PartLemmas.{part_ranges, part_local}
use Rattle.hl_nodes.specs.Listing.{PartRow, row_end, Lists}

-- the block lies in a segment of the log
pub record LiesIn (g : Layout) (seg k : ℕ) : Type 0 where
  pub low : 1 ≤ seg
  pub high : seg ≤ g.log
  pub from : g.k * seg ≤ k
  pub upto : k < g.k * seg + g.k

pub row_end-append : (block : ℕ) (ps : List Summary) (s : Summary) → row_end block (ps ++ s ∷ []) ≡ row_end block ps + length s.blocks + 1
row_end-append block [] s = refl
row_end-append block (p ∷ ps) s = row_end-append (block + length p.blocks + 1) ps s

pub lists_more : (g : Layout) (seg block : ℕ) (ps : List Summary) (s : Summary) (r : BlockRecord) (address : ℕ) → Lists g seg block ps r address → Lists g seg block (ps ++ s ∷ []) r address
lists_more g seg block [] s r address none = absurd none
lists_more g seg block (p ∷ ps) s r address (inl here) = inl here
lists_more g seg block (p ∷ ps) s r address (inr later) = inr (lists_more g seg (block + length p.blocks + 1) ps s r address later)

pub lists_last : (g : Layout) (seg block : ℕ) (ps : List Summary) (s : Summary) (r : BlockRecord) (address i : ℕ) → i < length s.blocks → slice_index_or s.blocks i r ≡ r → g.k * seg + row_end block ps + 1 + i ≡ address
    → Lists g seg block (ps ++ s ∷ []) r address
lists_last g seg block [] s r address i lt named at = inl (i, lt, named, at)
lists_last g seg block (p ∷ ps) s r address i lt named at = inr (lists_last g seg (block + length p.blocks + 1) ps s r address i lt named at)

module _ (g : Layout) (image : Image) (seg : ℕ) where
  pub row-append : (block : ℕ) (ps : List Summary) (s : Summary) → PartRow g image seg block ps → IsPart g image (record { seg = seg; block = row_end block ps }) s.serial s → PartRow g image seg block (ps ++ s ∷ [])
  row-append block [] s row is = (is, tt)
  row-append block (p ∷ ps) s row is = (row.0, row-append (block + length p.blocks + 1) ps s row.1 is)

  -- a row ends behind its first block, and within its segment
  row_on : (block : ℕ) (ps : List Summary) → PartRow g image seg block ps → block ≤ row_end block ps
  row_on block [] row = omega arith
  row_on block (p ∷ ps) row = (let more = row_on (block + length p.blocks + 1) ps row.1 in omega arith)

  -- its blocks lie in a segment of the log
  pub row_lies : (block : ℕ) (ps : List Summary) → PartRow g image seg block ps → (k : ℕ) → g.k * seg + block ≤ k → k < g.k * seg + row_end block ps → LiesIn g seg k
  row_lies block [] row k from upto = absurd (omega arith)
  row_lies block (p ∷ ps) row k from upto = elim (cases_lt k (g.k * seg + (block + length p.blocks + 1))) [
    | inl lt ↦ (let f = part_ranges g image (record { seg = seg; block = block }) p.serial p row.0 in record { low = f.place.seg_low; high = f.place.seg_high; from = omega arith; upto = omega (arith, f.within) })
    | inr le ↦ row_lies (block + length p.blocks + 1) ps row.1 k le upto
  ]

  -- a listed block is one of them
  pub lists_in : (block : ℕ) (ps : List Summary) (r : BlockRecord) (address : ℕ) → PartRow g image seg block ps → Lists g seg block ps r address → (g.k * seg + block ≤ address) × (address < g.k * seg + row_end block ps)
  lists_in block [] r address row none = absurd none
  lists_in block (p ∷ ps) r address row (inl here) =
      let lt = here.1 in
      let at = here.3 in
      let more = row_on (block + length p.blocks + 1) ps row.1 in
      (omega arith, omega arith)
  lists_in block (p ∷ ps) r address row (inr later) = (let more = lists_in (block + length p.blocks + 1) ps r address row.1 later in let lo = more.0 in (omega arith, more.1))

-- an image that agrees on its blocks has the row
pub row_same : (g : Layout) (a b : Image) (seg block : ℕ) (ps : List Summary) → ((k : ℕ) → g.k * seg + block ≤ k → k < g.k * seg + row_end block ps → b k ≡ a k) → PartRow g a seg block ps → PartRow g b seg block ps
row_same g a b seg block [] same row = tt
row_same g a b seg block (p ∷ ps) same row =
    let more = row_on g a seg (block + length p.blocks + 1) ps row.1 in (
      part_local g a b (record { seg = seg; block = block }) p.serial p row.0 (λ k from upto. same k from (omega arith)),
      row_same g a b seg (block + length p.blocks + 1) ps (λ k from upto. same k (omega arith) upto) row.1,
    )
