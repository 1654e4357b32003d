-- Parts of an image that lie in a segment that was read.
use Rattle.std.proofs.Common.{◌≡◌, ℕ, ◌+◌, ◌-◌, ◌*◌, ◌≤◌, List, length, take, drop, refl, sym, ◌∙◌, ap, arith}
use Rattle.std.specs.Prelude.{Option, Some, None, Result, Ok, Err, IfOk, ◌↔◌}
use Rattle.std.specs.declared.alloc.AllocError.{AllocError}
use Rattle.std.proofs.lemmas.List.{take_all, take-take}
use Rattle.hl_bytes.specs.Buffers.{part_of}
use Rattle.hl_bytes.proofs.BufferLemmas.{length-part}
use Rattle.hl_bytes.proofs.Parts.{block_of-part}
use Rattle.hl_media.specs.History.{Image, area, HoldsAt}
use Rattle.hl_media.proofs.Images.{area_holds}
use Rattle.hl_addr.specs.Layout.{Layout}
use Rattle.hl_summary.specs.declared.parts.Summary.{Summary}
use Rattle.hl_summary.specs.Parts.{Spells}
use Rattle.hl_image.specs.declared.place.LogPlace.{LogPlace}
use Rattle.hl_image.specs.Places.{block_at}
use Rattle.hl_image.specs.Parts.{IsPart}
use Rattle.hl_image.proofs.PartLemmas.{spells_front}
use Rattle.hl_recovery.specs.Chains.{FindsPart}

module _ (g : Layout) (bytes : List ℕ) (size : length bytes ≡ 4096 * g.k) (at : LogPlace) (serial : ℕ) (part : List ℕ) (is : part ≡ part_of bytes at.block (g.k - at.block)) where
  module _ (image : Image) (holds : HoldsAt image (g.k * at.seg) bytes) where
    -- blocks of the part are those of the image
    area_is : (m : ℕ) → at.block + m ≤ g.k → area image (block_at g at) m ≡ part_of bytes at.block m
    area_is m within = area_holds image (block_at g at) m (part_of bytes at.block m) (length-part bytes at.block m (omega arith))
        (λ k lt.
        let e : block_at g at + k ≡ g.k * at.seg + (at.block + k) = omega arith in
        ap image e ∙ holds (at.block + k) (omega arith) ∙ sym (block_of-part bytes at.block m k lt))

    same_front : (m : ℕ) → at.block + m ≤ g.k → take (4096 * m) part ≡ area image (block_at g at) m
    unfolding part_of
    same_front m within =
        ap (take (4096 * m)) is ∙ take-take (4096 * m) (4096 * (g.k - at.block)) (drop (4096 * at.block) bytes) (omega arith) ∙ sym (area_is m within)

    area_long : (m : ℕ) → at.block + m ≤ g.k → length (area image (block_at g at) m) ≡ 4096 * m
    area_long m within = ap length (area_is m within) ∙ length-part bytes at.block m (omega arith)

    pub part_there : (s : Summary) → Spells g at.seg at.block serial part s → IsPart g image at serial s
    part_there s spelled =
        let n = length s.blocks in
        let w = spelled.value.ranges.within in
        let own = area image (block_at g at) (1 + n) in
        let long = area_long (1 + n) (omega arith) in
        record {
          whole = long;
          spelled = spells_front g at.seg at.block serial part own s (same_front (1 + n) (omega arith) ∙ sym (take_all (4096 * (1 + n)) own (omega arith))) spelled;
        }

    pub part_spelled : (s : Summary) → IsPart g image at serial s → Spells g at.seg at.block serial part s
    part_spelled s there =
        let n = length s.blocks in
        let w = there.spelled.value.ranges.within in
        let own = area image (block_at g at) (1 + n) in
        let long = there.whole in
        spells_front g at.seg at.block serial own part s (take_all (4096 * (1 + n)) own (omega arith) ∙ sym (same_front (1 + n) (omega arith))) there.spelled

  -- what is found in the segment is found in each image that has it
  pub part_found : (r : Result (Option Summary) AllocError) → IfOk r (λ o. (v : Summary) → (o ≡ Some v) ↔ Spells g at.seg at.block serial part v)
      → IfOk r (λ o. (image : Image) → HoldsAt image (g.k * at.seg) bytes → FindsPart g image at serial o)
  part_found (Err e) found = tt
  part_found (Ok None) found = λ image holds s there. (let e = (found s).1 (part_spelled image holds s there) in absurd cc)
  part_found (Ok (Some s)) found = λ image holds. part_there image holds s ((found s).0 refl)
