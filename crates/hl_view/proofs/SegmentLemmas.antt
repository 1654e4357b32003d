-- A segment that is tested is one that was spelled.
use Rattle.std.proofs.Common.{◌≡◌, ℕ, Some, ◌+◌, ◌-◌, ◌*◌, ◌/◌, ◌<◌, ◌≤◌, ◌^◌, List, ◌++◌, length, take, drop, refl, sym, subst, ap, ◌∙◌, arith, length-append, length-drop}
use Rattle.std.specs.List.{AllByRecursion, slice_get}
use Rattle.std.proofs.lemmas.Option.{slice_get-get_or}
use Rattle.std.proofs.lemmas.List.{take_all, take_at, drop_at, drop-drop, take-take, length-take-le, take-append-drop}
use Rattle.hl_bytes.specs.Fields.{le32, le64, u32_at, u64_at, written, zeros}
use Rattle.hl_bytes.specs.Pages.{page_over}
use Rattle.hl_bytes.specs.Records.{IsBlockRecord, block_record_at, block_records_at, block_records_bytes}
use Rattle.hl_bytes.specs.declared.records.BlockRecord.{BlockRecord}
use Rattle.hl_bytes.specs.Buffers.{part_of, with_part}
use Rattle.hl_bytes.specs.Wholes.{IsBuffer}
use Rattle.hl_bytes.proofs.Places.{IsBytes, drop-written, front32, front64, put_front}
use Rattle.hl_bytes.proofs.PageLemmas.{take-page_over, drop-page_over}
use Rattle.hl_bytes.proofs.Decoding.{read32, read64}
use Rattle.hl_bytes.proofs.RunLemmas.{get_or-run_at, u64_fits}
use Rattle.hl_bytes.proofs.RecordLemmas.{length-block_records, length-block_records_at, read_block_records, block_records_fit, front_block_records}
use Rattle.hl_tseg.specs.Segments.{IsSegmentHead, SegmentHead, head_fields, segment_magic}
use Rattle.hl_view.specs.Lines.{IsLineSeen, IsSegment, IsTested, MayBeSealed, head_in, head_with}

-- how long the fields of block 0 are
pub length-head : (head : SegmentHead) → length (head_fields head) ≡ 24 + 8 * length head.records
unfolding le32 le64 zeros
length-head head =
    let front = ((segment_magic ++ le64 head.serial) ++ le32 (length head.records)) ++ zeros 4 in
    omega (arith, length-append front (block_records_bytes head.records), length-block_records head.records)

-- the fields stand at the front
front_head : (k : ℕ) (bytes behind : List ℕ) (head : SegmentHead) → IsSegmentHead k head → bytes ≡ page_over (head_fields head) behind → take (24 + 8 * length head.records) bytes ≡ head_fields head
front_head k bytes behind head ok is = take-page_over bytes (head_fields head) behind (24 + 8 * length head.records) is (length-head head) (omega (arith, ok.most))

-- a head whose fields stand in front is read
again : (k : ℕ) (bytes : List ℕ) (head : SegmentHead) → IsSegmentHead k head → take (24 + 8 * length head.records) bytes ≡ head_fields head → head_in bytes ≡ head
unfolding head_in le32 le64 zeros
again k bytes head ok front =
    let fields = head_fields head in
    let n = 24 + 8 * length head.records in
    let run : take (8 * length head.records) (drop 24 fields) ≡ block_records_bytes head.records = take_all (8 * length head.records) (block_records_bytes head.records) (omega (arith, length-block_records head.records)) in
    let count_fits : length head.records < 2 ^ 32 = omega (arith, ok.most) in
    rw (
      read64 bytes fields 8 n head.serial front (omega arith) ok.serial_fits refl,
      read32 bytes fields 16 n (length head.records) front (omega arith) count_fits refl,
      read_block_records bytes fields head.records 24 n front (omega arith) ok.records_fit run,
    )
    refl

-- what a segment spells is its candidate
pub only : (bytes : List ℕ) (serial : ℕ) (head : SegmentHead) → IsSegment bytes serial head → head_in bytes ≡ head
only bytes serial head p = again (length bytes / 4096) bytes head p.spelled.value (front_head (length bytes / 4096) bytes p.spelled.behind head p.spelled.value p.spelled.spelled)

-- the fields that stand at their places are all before the records' end
fields_in : (bytes : List ℕ) (serial : ℕ) → IsBytes bytes → 24 + 8 * u32_at 16 bytes ≤ length bytes → IsTested bytes serial → take (24 + 8 * u32_at 16 bytes) bytes ≡ head_fields (head_in bytes)
unfolding head_in
fields_in bytes serial fits size t =
    let n = u32_at 16 bytes in
    rw (front_block_records bytes 24 n size fits, t.gap, front32 bytes 16 n (omega (arith, size)) fits refl, front64 bytes 8 (u64_at 8 bytes) (omega (arith, size)) fits refl, t.magic, length-block_records_at 24 n bytes)
    refl

-- what is behind the data blocks
behind_data : (bytes : List ℕ) (n : ℕ) → drop (4096 * n) (drop 4096 bytes) ≡ drop (4096 * (1 + n)) bytes
behind_data bytes n = let e : 4096 + 4096 * n ≡ 4096 * (1 + n) = omega arith in drop-drop (4096 * n) 4096 bytes ∙ ap (λ (k : ℕ). drop k bytes) e

-- zeros from a place on are the rest
rest_zero : (bytes : List ℕ) (m : ℕ) → m ≤ length bytes → take (length bytes) bytes ≡ take m bytes ++ zeros (length bytes - m) → drop m bytes ≡ zeros (length bytes - m)
rest_zero bytes m le is = ap (drop m) (sym (take_all (length bytes) bytes (omega arith)) ∙ is) ∙ drop_at (take m bytes) (zeros (length bytes - m)) m (length-take-le m bytes le)

rest_is : (bytes : List ℕ) (m : ℕ) → drop m bytes ≡ zeros (length bytes - m) → take (length bytes) bytes ≡ take m bytes ++ zeros (length bytes - m)
rest_is bytes m is = take_all (length bytes) bytes (omega arith) ∙ sym (take-append-drop m bytes) ∙ ap (λ (l : List ℕ). take m bytes ++ l) is

-- what is tested says that the candidate is spelled
pub tested : (bytes : List ℕ) (serial : ℕ) → IsBuffer bytes → IsBytes bytes → IsTested bytes serial → IsSegment bytes serial (head_in bytes)
unfolding head_in
tested bytes serial whole fits t =
    let n = u32_at 16 bytes in
    let k = length bytes / 4096 in
    let count : length (block_records_at 24 n bytes) ≡ n = length-block_records_at 24 n bytes in
    let room : 24 + 8 * n ≤ length bytes = omega (arith, t.most, t.some, whole.whole) in
    let within : 4096 * (1 + n) ≤ length bytes = omega (arith, t.most, t.some, whole.whole) in
    let size : 4096 * (k - 1) ≡ length bytes - 4096 = omega (arith, t.most, t.some, whole.whole) in
    let left : length bytes - 4096 * (1 + n) ≡ 4096 * (k - 1) - 4096 * n = omega (arith, size) in
    record {
      spelled = record {
        value = record { some = omega (arith, count, t.some); most = omega (arith, count, t.most); serial_fits = u64_fits bytes 8 fits; records_fit = block_records_fit bytes 24 n fits };
        behind = drop 4096 bytes;
        size = length-drop 4096 bytes ∙ sym size;
        past = rw count (behind_data bytes n ∙ rest_zero bytes (4096 * (1 + n)) within t.past ∙ ap zeros left);
        spelled = t.sealed ∙ ap (λ (l : List ℕ). page_over l (drop 4096 bytes)) (fields_in bytes serial fits room t);
      };
      serial_is = t.serial_is;
    }

-- a candidate that is spelled passes each test
pub tests : (bytes : List ℕ) (serial : ℕ) → IsBuffer bytes → IsSegment bytes serial (head_in bytes) → IsTested bytes serial
unfolding head_in le32 le64 zeros
tests bytes serial whole p =
    let n = u32_at 16 bytes in
    let k = length bytes / 4096 in
    let h = head_in bytes in
    let ok = p.spelled.value in
    let count : length (block_records_at 24 n bytes) ≡ n = length-block_records_at 24 n bytes in
    let end : 24 + 8 * length h.records ≡ 24 + 8 * n = ap (λ (m : ℕ). 24 + 8 * m) count in
    let front : take (24 + 8 * n) bytes ≡ head_fields h = ap (λ (m : ℕ). take m bytes) (sym end) ∙ front_head k bytes p.spelled.behind h ok p.spelled.spelled in
    let at : (m : ℕ) → m ≤ 24 + 8 * n → take m bytes ≡ take m (head_fields h) = λ m le. sym (take-take m (24 + 8 * n) bytes le) ∙ ap (take m) front in
    let back : drop 4096 bytes ≡ p.spelled.behind = drop-page_over bytes (head_fields h) p.spelled.behind p.spelled.spelled (omega (arith, length-head h, ok.most)) in
    let size : 4096 * (k - 1) ≡ length bytes - 4096 = omega (arith, ok.most, ok.some, whole.whole) in
    let left : 4096 * (k - 1) - 4096 * n ≡ length bytes - 4096 * (1 + n) = omega (arith, size) in
    let none : drop (4096 * n) p.spelled.behind ≡ zeros (4096 * (k - 1) - 4096 * n) = ap (λ (m : ℕ). drop (4096 * m) p.spelled.behind) (sym count) ∙ p.spelled.past ∙ ap (λ (m : ℕ). zeros (4096 * (k - 1) - 4096 * m)) count in
    record {
      some = omega (arith, count, ok.some);
      most = omega (arith, count, ok.most);
      magic = at 8 (omega arith);
      serial_is = p.serial_is;
      gap = at 24 (omega arith) ∙ ap (λ (l : List ℕ). l ++ zeros 4) (sym (at 20 (omega arith)));
      past = rest_is bytes (4096 * (1 + n)) (sym (behind_data bytes n) ∙ ap (drop (4096 * n)) back ∙ none ∙ ap zeros left);
      sealed = p.spelled.spelled ∙ ap (λ (l : List ℕ). page_over l p.spelled.behind) (sym front) ∙ ap (λ (l : List ℕ). page_over (take (24 + 8 * n) bytes) l) (sym back);
    }

-- a part of all blocks is the whole
pub whole_part : (bytes : List ℕ) (blocks : ℕ) → 4096 * blocks ≡ length bytes → part_of bytes 0 blocks ≡ bytes
unfolding part_of
whole_part bytes blocks size = take_all (4096 * blocks) bytes (omega (arith, size))

-- the records and how many they are, in the candidate
pub count_in : (bytes : List ℕ) → length (head_in bytes).records ≡ u32_at 16 bytes
unfolding head_in
count_in bytes = length-block_records_at 24 (u32_at 16 bytes) bytes

pub record_in : (bytes : List ℕ) (i : ℕ) → i < length (head_in bytes).records → slice_get (head_in bytes).records i ≡ Some (block_record_at (24 + 8 * i) bytes)
unfolding head_in
record_in bytes i le =
    let n = u32_at 16 bytes in
    let d = block_record_at (24 + 8 * i) bytes in
    let within : i < n = omega (arith, le, length-block_records_at 24 n bytes) in
    slice_get-get_or (block_records_at 24 n bytes) i d le ∙ ap Some (get_or-run_at block_record_at 8 24 n bytes i d within)

-- fields at the front, and the digest, over the blocks in place
pub sealed : (old out new fields : List ℕ) (end : ℕ) → 4096 ≤ length old → length fields ≡ end → end ≤ 4064 → out ≡ written old 0 fields → new ≡ page_over (take end out) (drop 4096 out) → new ≡ page_over fields (drop 4096 old)
sealed old out new fields end room size le put is =
    let head : take end out ≡ fields = ap (take end) put ∙ put_front old fields 0 end (omega arith) (omega (arith, size)) in
    let back : drop 4096 out ≡ drop 4096 old = ap (drop 4096) put ∙ drop-written old fields 0 4096 (omega arith) (omega (arith, size, le)) in
    is ∙ ap (λ (l : List ℕ). page_over l (drop 4096 out)) head ∙ ap (λ (l : List ℕ). page_over fields l) back

-- zeros up to a buffer's end, where they are tested in the part of all its blocks
pub zero_behind : (bytes part : List ℕ) (k n : ℕ) → part ≡ part_of bytes 0 k → length bytes ≡ 4096 * k → n ≤ k → take (4096 * k) part ≡ take (4096 * n) part ++ zeros (4096 * k - 4096 * n) → drop (4096 * n) bytes ≡ zeros (length bytes - 4096 * n)
zero_behind bytes part k n is size le zero =
    let same : part ≡ bytes = is ∙ whole_part bytes k (sym size) in
    let low : 4096 * n ≤ length bytes = omega (arith, size, le) in
    let tested : take (length bytes) part ≡ take (4096 * n) part ++ zeros (length bytes - 4096 * n) = subst (λ (m : ℕ). take m part ≡ take (4096 * n) part ++ zeros (m - 4096 * n)) (sym size) zero in
    rest_zero bytes (4096 * n) low (subst (λ (b : List ℕ). take (length bytes) b ≡ take (4096 * n) b ++ zeros (length bytes - 4096 * n)) same tested)

-- a buffer that is written as a whole
pub with_whole : (bytes part : List ℕ) → length part ≡ length bytes → with_part bytes 0 part ≡ part
unfolding with_part
with_whole bytes part size = take_at part (drop (0 + length part) bytes) (length bytes) size

-- a segment that is sealed over its data blocks is spelled
pub seal_spells : (old new : List ℕ) (blocks serial : ℕ) (records : List BlockRecord) → 4096 * blocks ≡ length old → length new ≡ length old → new ≡ page_over (head_fields (head_with serial records)) (drop 4096 old) → MayBeSealed old records → serial < 2 ^ 64 → AllByRecursion IsBlockRecord records → IsSegment new serial (head_with serial records)
seal_spells old new blocks serial records whole size is may serial_fits records_fit =
    let n = length records in
    let k = length new / 4096 in
    let behind : 4096 * (k - 1) ≡ length old - 4096 = omega (arith, size, whole, may.some, may.most) in
    let left : length old - 4096 * (1 + n) ≡ 4096 * (k - 1) - 4096 * n = omega (arith, behind) in
    record {
      spelled = record {
        value = record { some = may.some; most = omega (arith, may.most, size); serial_fits = serial_fits; records_fit = records_fit };
        behind = drop 4096 old;
        size = length-drop 4096 old ∙ sym behind;
        past = behind_data old n ∙ may.past ∙ ap zeros left;
        spelled = is;
      };
      serial_is = refl;
    }

-- a segment has a block for each record
pub seen : (bytes : List ℕ) (blocks serial : ℕ) → length bytes ≡ 4096 * blocks → IsSegment bytes serial (head_in bytes) → IsLineSeen bytes
seen bytes blocks serial whole p =
    let ok = p.spelled.value in
    record { few = omega (arith, count_in bytes, ok.most); blocks = omega (arith, count_in bytes, ok.some, ok.most, whole) }
