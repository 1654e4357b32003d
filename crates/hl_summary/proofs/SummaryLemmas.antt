-- A summary that was spelled is read.
use Rattle.std.proofs.Common.{◌≡◌, ℕ, ◌+◌, ◌-◌, ◌*◌, ◌<◌, ◌≤◌, ◌^◌, min, Bool, true, false, List, ◌++◌, length, take, drop, refl, sym, subst, ap, ◌∙◌, arith, lit<, append_assoc, length-append}
use Rattle.std.specs.List.{AllByRecursion}
use Rattle.std.proofs.lemmas.List.{take_at, drop_at, take_all, take-take, drop-take}
use Rattle.hl_addr.specs.Layout.{Layout}
use Rattle.hl_bytes.specs.Fields.{le32, le64, u32_at, zeros}
use Rattle.hl_bytes.specs.Records.{IsBlockRecord, IsTableRecord, block_records_bytes, table_records_bytes}
use Rattle.hl_bytes.specs.Pages.{page_over}
use Rattle.hl_bytes.specs.Buffers.{part_of}
use Rattle.hl_bytes.specs.declared.records.BlockRecord.{BlockRecord}
use Rattle.hl_bytes.specs.declared.records.TableRecord.{TableRecord}
use Rattle.hl_bytes.proofs.Places.{IsBytes}
use Rattle.hl_bytes.proofs.PageLemmas.{take-page_over, length-zeros}
use Rattle.hl_bytes.proofs.Decoding.{read32, read64}
use Rattle.hl_bytes.proofs.RunLemmas.{u32_fits, u64_fits}
use Rattle.hl_bytes.proofs.RecordLemmas.{length-block_records, length-table_records, length-block_records_at, length-table_records_at, read_block_records, read_table_records, block_records_fit, table_records_fit}
use Rattle.hl_summary.specs.declared.parts.Summary.{Summary}
use Rattle.hl_summary.specs.Parts.{HasRoom, HasRanges, IsSummary, Spells, ends_code, ends_of, summary_head, summary_middle, summary_fields, summary_in}

-- how long the fields before the table records are, and all fields
pub length-middle : (s : Summary) → HasRoom s → length (summary_middle s) ≡ 1960
unfolding le32 le64 zeros
length-middle s room =
    let X = block_records_bytes s.blocks in
    let gap = 1960 - (40 + 8 * length s.blocks) in
    let hole : 40 + 8 * length s.blocks + gap ≡ 1960 = omega (arith, room.blocks) in
    omega (arith, length-append (summary_head s ++ X) (zeros gap), length-append (summary_head s) X, length-block_records s.blocks, length-zeros gap, hole)

pub length-fields : (s : Summary) → HasRoom s → length (summary_fields s) ≡ 1960 + 24 * length s.tables
unfolding summary_fields
length-fields s room = omega (arith, length-append (summary_middle s) (table_records_bytes s.tables), length-middle s room, length-table_records s.tables)

-- the summary and the n blocks behind it
pub whole_is : (part : List ℕ) (n : ℕ) → part_of part 0 (1 + n) ≡ take (4096 * (1 + n)) part
unfolding part_of
whole_is part n = refl

pub behind_is : (part : List ℕ) (n : ℕ) → drop 4096 (take (4096 * (1 + n)) part) ≡ part_of part 1 n
unfolding part_of
behind_is part n = let e : 4096 * (1 + n) ≡ 4096 + 4096 * n = omega arith in ap (λ (k : ℕ). drop 4096 (take k part)) e ∙ drop-take 4096 (4096 * n) part

-- the fields at the front of a part that a summary spells
pub front_fields : (part behind : List ℕ) (s : Summary) → HasRoom s → part_of part 0 (1 + length s.blocks) ≡ page_over (summary_fields s) behind → take (1960 + 24 * length s.tables) part ≡ summary_fields s
front_fields part behind s room is =
    let end = 1960 + 24 * length s.tables in
    let size = 4096 * (1 + length s.blocks) in
    let le : end ≤ 4064 = omega (arith, room.tables) in
    let short : end ≤ size = omega arith in
    sym (take-take end size part short) ∙ take-page_over (take size part) (summary_fields s) behind end (sym (whole_is part (length s.blocks)) ∙ is) (length-fields s room) le

-- whether a part ends a unit has room in its field, and is read from it
pub code_fits : (ends : Bool) → ends_code ends < 2 ^ 32
code_fits true = lit< tt
code_fits false = lit< tt

ends_again : (ends : Bool) → ends_of (ends_code ends) ≡ ends
ends_again true = refl
ends_again false = refl

-- a summary whose fields stand in front is read
again : (g : Layout) (seg block : ℕ) (part : List ℕ) (s : Summary) → IsSummary g seg block s → take (1960 + 24 * length s.tables) part ≡ summary_fields s → summary_in part ≡ s
unfolding summary_in summary_fields le32 le64 zeros
again g seg block part s ok front =
    let room : HasRoom s = ok.ranges.room in
    let fields = summary_fields s in
    let n = 1960 + 24 * length s.tables in
    let X = block_records_bytes s.blocks in
    let Z = zeros (1960 - (40 + 8 * length s.blocks)) in
    let T = table_records_bytes s.tables in
    let middle : length (summary_middle s) ≡ 1960 = length-middle s room in
    let blocks_count_fits : length s.blocks < 2 ^ 32 = omega (arith, room.blocks) in
    let tables_count_fits : length s.tables < 2 ^ 32 = omega (arith, room.tables) in
    let blocks_run : take (8 * length s.blocks) (drop 40 fields) ≡ X = ap (take (8 * length s.blocks)) (append_assoc X Z T) ∙ take_at X (Z ++ T) (8 * length s.blocks) (length-block_records s.blocks) in
    let tables_run : take (24 * length s.tables) (drop 1960 fields) ≡ T = ap (take (24 * length s.tables)) (drop_at (summary_middle s) T 1960 middle) ∙ take_all (24 * length s.tables) T (omega (arith, length-table_records s.tables)) in
    let blocks_min : min (length s.blocks) 240 ≡ length s.blocks = omega (arith, room.blocks) in
    let tables_min : min (length s.tables) 80 ≡ length s.tables = omega (arith, room.tables) in
    let blocks_end : 40 + 8 * length s.blocks ≤ n = omega (arith, room.blocks) in
    rw (
      read32 part fields 28 n (length s.blocks) front (omega arith) blocks_count_fits refl,
      read32 part fields 32 n (length s.tables) front (omega arith) tables_count_fits refl,
      blocks_min,
      tables_min,
      read64 part fields 8 n s.serial front (omega arith) ok.serial_fits refl,
      read32 part fields 16 n s.next_seg front (omega arith) ok.seg_fits refl,
      read32 part fields 20 n s.next_block front (omega arith) ok.block_fits refl,
      read32 part fields 24 n (ends_code s.ends) front (omega arith) (code_fits s.ends) refl,
      ends_again s.ends,
      read_block_records part fields s.blocks 40 n front blocks_end ok.blocks_fit blocks_run,
      read_table_records part fields s.tables 1960 n front (omega arith) ok.tables_fit tables_run,
    )
    refl

-- what a part spells is its candidate
pub only : (g : Layout) (seg block serial : ℕ) (part : List ℕ) (x : Summary) → x ≡ summary_in part → (v : Summary) → Spells g seg block serial part v → x ≡ v
only g seg block serial part x is v p = is ∙ again g seg block part v p.value (front_fields part (part_of part 1 (length v.blocks)) v p.value.ranges.room p.bytes)

-- what is read has room in the summary and in its fields
pub has_room : (part : List ℕ) (x : Summary) → x ≡ summary_in part → HasRoom x
unfolding summary_in
has_room part x is =
    let blocks : length x.blocks ≡ min (u32_at 28 part) 240 = ap (λ (s : Summary). length s.blocks) is ∙ length-block_records_at 40 (min (u32_at 28 part) 240) part in
    let tables : length x.tables ≡ min (u32_at 32 part) 80 = ap (λ (s : Summary). length s.tables) is ∙ length-table_records_at 1960 (min (u32_at 32 part) 80) part in
    record { blocks = omega (arith, blocks); tables = omega (arith, tables) }

pub is_summary : (g : Layout) (seg block : ℕ) (part : List ℕ) (x : Summary) → IsBytes part → x ≡ summary_in part → HasRanges g seg block x → IsSummary g seg block x
unfolding summary_in
is_summary g seg block part x fits is ranges =
    record {
      ranges = ranges;
      serial_fits = subst (λ (n : ℕ). n < 2 ^ 64) (sym (ap (λ (s : Summary). s.serial) is)) (u64_fits part 8 fits);
      seg_fits = subst (λ (n : ℕ). n < 2 ^ 32) (sym (ap (λ (s : Summary). s.next_seg) is)) (u32_fits part 16 fits);
      block_fits = subst (λ (n : ℕ). n < 2 ^ 32) (sym (ap (λ (s : Summary). s.next_block) is)) (u32_fits part 20 fits);
      blocks_fit = subst (λ (l : List BlockRecord). AllByRecursion IsBlockRecord l) (sym (ap (λ (s : Summary). s.blocks) is)) (block_records_fit part 40 (min (u32_at 28 part) 240) fits);
      tables_fit = subst (λ (l : List TableRecord). AllByRecursion IsTableRecord l) (sym (ap (λ (s : Summary). s.tables) is)) (table_records_fit part 1960 (min (u32_at 32 part) 80) fits);
    }
