-- A part that is sealed is spelled.
use Rattle.std.proofs.Common.{◌≡◌, ℕ, ◌+◌, ◌*◌, ◌≤◌, List, ◌++◌, length, take, drop, refl, sym, ap, ◌∙◌, arith}
use Rattle.std.proofs.lemmas.List.{take_at, take-take, take_all}
use Rattle.std.proofs.lemmas.Slice.{take-put_mid, drop-put_mid}
use borrow.Rule.Slice.PartMut.{put_mid}
use Rattle.hl_bytes.specs.Pages.{page_over}
use Rattle.hl_bytes.specs.Buffers.{part_of}
use Rattle.hl_bytes.specs.declared.records.BlockRecord.{BlockRecord}
use Rattle.hl_bytes.proofs.PageLemmas.{take-page_over, drop-page_over}
use Rattle.hl_bytes.specs.declared.records.TableRecord.{TableRecord}
use Rattle.hl_summary.specs.declared.parts.Heading.{Heading}
use Rattle.hl_summary.specs.declared.parts.Summary.{Summary}
use Rattle.hl_summary.specs.Parts.{Checks, HasFitting, HasRoom, part_bytes, summary_fields, with_records}
use Rattle.hl_summary.proofs.SummaryLemmas.{length-fields, whole_is, behind_is}

-- the summary of its own heading and records
pub same_summary : (s : Summary) (h : Heading) (blocks : List BlockRecord) (tables : List TableRecord) → blocks ≡ s.blocks → tables ≡ s.tables → with_records h s.blocks s.tables ≡ s → with_records h blocks tables ≡ s
same_summary s h blocks tables blocks_are tables_are is = ap (λ (l : List BlockRecord). with_records h l tables) blocks_are ∙ ap (λ (l : List TableRecord). with_records h s.blocks l) tables_are ∙ is

-- the bytes that are tested for the fields `from` and the digest are spelled exactly where both are right
module _ (s : Summary) (part whole from : List ℕ) (end : ℕ) (room : HasRoom s) (is_whole : whole ≡ take (4096 * (1 + length s.blocks)) part) (is_end : end ≡ 1960 + 24 * length s.tables) (fields : from ≡ summary_fields s) where
  from_end : 0 + length from ≡ end
  from_end = omega (arith, ap length fields, length-fields s room, is_end)

  whole_behind : drop 4096 whole ≡ part_of part 1 (length s.blocks)
  whole_behind = ap (drop 4096) is_whole ∙ behind_is part (length s.blocks)

  pub spelled : take (0 + length from) whole ≡ take 0 whole ++ from → whole ≡ page_over (take end whole) (drop 4096 whole) → part_of part 0 (1 + length s.blocks) ≡ part_bytes s (part_of part 1 (length s.blocks))
  spelled front sealed =
      let head : take end whole ≡ summary_fields s = ap (λ (k : ℕ). take k whole) (sym from_end) ∙ front ∙ fields in
      whole_is part (length s.blocks) ∙ sym is_whole ∙ sealed ∙ ap (λ (l : List ℕ). page_over l (drop 4096 whole)) head ∙ ap (λ (l : List ℕ). page_over (summary_fields s) l) whole_behind

  whole_spelled : part_of part 0 (1 + length s.blocks) ≡ part_bytes s (part_of part 1 (length s.blocks)) → whole ≡ page_over (summary_fields s) (part_of part 1 (length s.blocks))
  whole_spelled is = is_whole ∙ sym (whole_is part (length s.blocks)) ∙ is

  whole_head : part_of part 0 (1 + length s.blocks) ≡ part_bytes s (part_of part 1 (length s.blocks)) → take end whole ≡ summary_fields s
  whole_head is =
      let count : length (summary_fields s) ≡ end = omega (arith, length-fields s room, is_end) in
      let le : end ≤ 4064 = omega (arith, room.tables, is_end) in
      take-page_over whole (summary_fields s) (part_of part 1 (length s.blocks)) end (whole_spelled is) count le

  pub spelled_sealed : part_of part 0 (1 + length s.blocks) ≡ part_bytes s (part_of part 1 (length s.blocks)) → whole ≡ page_over (take end whole) (drop 4096 whole)
  spelled_sealed is =
      whole_spelled is ∙ ap (λ (l : List ℕ). page_over l (part_of part 1 (length s.blocks))) (sym (whole_head is)) ∙ ap (λ (l : List ℕ). page_over (take end whole) l) (sym whole_behind)

-- fields in the first block, and the digest, over the blocks in place
pub sealed : (s : Summary) (old first new : List ℕ) (end : ℕ) → HasRoom s → length old ≡ 4096 * (1 + length s.blocks) → length first ≡ 4096 → end ≡ 1960 + 24 * length s.tables → take (1960 + 24 * length s.tables) first ≡ summary_fields s
    → new ≡ page_over (take end (put_mid 0 4096 old first)) (drop 4096 (put_mid 0 4096 old first)) → new ≡ part_bytes s (part_of old 1 (length s.blocks))
sealed s old first new end room size one is_end fields is =
    let n = length s.blocks in
    let low : end ≤ 4096 = omega (arith, room.tables, is_end) in
    let front : take 4096 (put_mid 0 4096 old first) ≡ first = take-put_mid 0 4096 old first 4096 (omega (arith, one)) (omega arith) in
    let head : take end (put_mid 0 4096 old first) ≡ summary_fields s = sym (take-take end 4096 (put_mid 0 4096 old first) low) ∙ ap (take end) front ∙ ap (λ (k : ℕ). take k first) is_end ∙ fields in
    let back : drop 4096 (put_mid 0 4096 old first) ≡ drop 4096 old = drop-put_mid 0 4096 old first 4096 (omega arith) (omega arith) one in
    let rest : drop 4096 old ≡ part_of old 1 n = ap (drop 4096) (sym (take_all (4096 * (1 + n)) old (omega (arith, size)))) ∙ behind_is old n in
    is ∙ ap (λ (l : List ℕ). page_over l (drop 4096 (put_mid 0 4096 old first))) head ∙ ap (λ (l : List ℕ). page_over (summary_fields s) l) (back ∙ rest)

-- a sealed part checks where its fields are in their ranges
pub sealed_spells : (s : Summary) (new behind : List ℕ) → HasRoom s → length new ≡ 4096 * (1 + length s.blocks) → new ≡ part_bytes s behind → HasFitting s → Checks s new
sealed_spells s new behind room size is fitting g seg block rest ranges =
    let n = length s.blocks in
    let le : length (summary_fields s) ≤ 4064 = omega (arith, length-fields s room, room.tables) in
    let whole : take (4096 * (1 + n)) (new ++ rest) ≡ new = take_at new rest (4096 * (1 + n)) size in
    let back : part_of (new ++ rest) 1 n ≡ behind = sym (behind_is (new ++ rest) n) ∙ ap (drop 4096) whole ∙ drop-page_over new (summary_fields s) behind is le in
    record {
      value = record {
        ranges = ranges;
        serial_fits = fitting.serial;
        seg_fits = fitting.seg;
        block_fits = fitting.block;
        blocks_fit = fitting.blocks;
        tables_fit = fitting.tables;
      };
      serial_is = refl;
      bytes = whole_is (new ++ rest) n ∙ whole ∙ is ∙ ap (λ (l : List ℕ). page_over (summary_fields s) l) (sym back);
    }
