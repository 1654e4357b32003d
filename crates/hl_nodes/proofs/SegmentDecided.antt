-- Whether the bytes of a line are a tertiary segment.
use Rattle.std.proofs.Common.{◌≡◌, ℕ, ◌+◌, ◌-◌, ◌*◌, ◌≤◌, ◌^◌, min, List, ◌++◌, length, take, drop, refl, sym, ap, ◌∙◌, subst, arith, length-append}
use Rattle.std.proofs.lemmas.List.{take_all, drop_at}
use Rattle.hl_bytes.specs.Fields.{le32, le64, u32_at, u64_at, zeros}
use Rattle.hl_bytes.specs.Pages.{page_over}
use Rattle.hl_bytes.specs.Records.{IsBlockRecord, block_records_bytes, block_records_at}
use Rattle.hl_bytes.specs.declared.records.BlockRecord.{BlockRecord}
use Rattle.hl_bytes.proofs.Decoding.{read32, read64}
use Rattle.hl_bytes.proofs.PageLemmas.{take-page_over, drop-page_over}
use Rattle.hl_bytes.proofs.RecordLemmas.{length-block_records, read_block_records}
use Rattle.hl_tseg.specs.Segments.{SegmentHead, IsSegmentHead, segment_magic, head_fields, SpellsSegment}
use Rattle.hl_nodes.proofs.Deciding.{Decided, both, alike, is_equal, is_below, is_at_most, same_bytes, each_of}

-- what the fields of block 0 say
head_in : List ℕ → SegmentHead
head_in bytes = record { serial = u64_at 8 bytes; records = block_records_at 24 (u32_at 16 bytes) bytes }

-- the fields before the records
abbrev front_fields : SegmentHead → List ℕ
front_fields head = ((segment_magic ++ le64 head.serial) ++ le32 (length head.records)) ++ zeros 4

length-front : (head : SegmentHead) → length (front_fields head) ≡ 24
unfolding le32 le64 zeros
length-front head = refl

-- a segment's head is read as it was spelled, and its blocks stand behind the first
head_again : (k : ℕ) (bytes : List ℕ) (head : SegmentHead) → SpellsSegment k bytes head → head_in bytes ≡ head
unfolding head_in le32 le64
head_again k bytes head is =
    let few : length head.records ≤ 500 = omega (arith, is.value.most) in
    let size : length (head_fields head) ≡ 24 + 8 * length head.records = omega (arith, length-append (front_fields head) (block_records_bytes head.records), length-front head, length-block_records head.records) in
    let front : take (24 + 8 * length head.records) bytes ≡ head_fields head = take-page_over bytes (head_fields head) is.behind (24 + 8 * length head.records) is.spelled size (omega arith) in
    let rest : drop 24 (head_fields head) ≡ block_records_bytes head.records = drop_at (front_fields head) (block_records_bytes head.records) 24 (length-front head) in
    let own : take (8 * length head.records) (drop 24 (head_fields head)) ≡ block_records_bytes head.records =
    ap (take (8 * length head.records)) rest ∙ take_all (8 * length head.records) (block_records_bytes head.records) (omega (arith, length-block_records head.records)) in
    let serial : u64_at 8 bytes ≡ head.serial = read64 bytes (head_fields head) 8 (24 + 8 * length head.records) head.serial front (omega arith) is.value.serial_fits refl in
    let count : u32_at 16 bytes ≡ length head.records = read32 bytes (head_fields head) 16 (24 + 8 * length head.records) (length head.records) front (omega arith) (omega arith) refl in
    let records : block_records_at 24 (length head.records) bytes ≡ head.records = read_block_records bytes (head_fields head) head.records 24 (24 + 8 * length head.records) front (omega arith) is.value.records_fit own in
    ap (λ (n : ℕ). record { serial = n; records = block_records_at 24 (u32_at 16 bytes) bytes }) serial
    ∙ ap (λ (n : ℕ). record { serial = head.serial; records = block_records_at 24 n bytes }) count
    ∙ ap (λ (rs : List BlockRecord). record { serial = head.serial; records = rs }) records

behind_again : (k : ℕ) (bytes : List ℕ) (head : SegmentHead) (is : SpellsSegment k bytes head) → drop 4096 bytes ≡ is.behind
behind_again k bytes head is =
    let few : length head.records ≤ 500 = omega (arith, is.value.most) in
    drop-page_over bytes (head_fields head) is.behind is.spelled (omega (arith, length-append (front_fields head) (block_records_bytes head.records), length-front head, length-block_records head.records))

is_record : (r : BlockRecord) → Decided (IsBlockRecord r)
is_record r = alike (λ (ino, index). record { ino = ino; index = index }) (λ x. (x.ino, x.index)) (both (is_below r.ino (2 ^ 32)) (is_below r.index (2 ^ 32)))

is_head : (k : ℕ) (head : SegmentHead) → Decided (IsSegmentHead k head)
is_head k head = alike (λ (some, (most, (serial, records))). record { some = some; most = most; serial_fits = serial; records_fit = records }) (λ x. (x.some, (x.most, (x.serial_fits, x.records_fit))))
    (both (is_at_most 1 (length head.records)) (both (is_at_most (length head.records) (min (k - 1) 500)) (both (is_below head.serial (2 ^ 64)) (each_of IsBlockRecord is_record head.records))))

-- what stands behind block 0 of such a segment
record HasBehind (k : ℕ) (bytes : List ℕ) (head : SegmentHead) (behind : List ℕ) : Type 0 where
  size : length behind ≡ 4096 * (k - 1)
  past : drop (4096 * length head.records) behind ≡ zeros (4096 * (k - 1) - 4096 * length head.records)
  spelled : bytes ≡ page_over (head_fields head) behind

has_behind : (k : ℕ) (bytes : List ℕ) (head : SegmentHead) (behind : List ℕ) → Decided (HasBehind k bytes head behind)
has_behind k bytes head behind = alike (λ (size, (past, spelled)). record { size = size; past = past; spelled = spelled }) (λ x. (x.size, (x.past, x.spelled)))
    (both (is_equal (length behind) (4096 * (k - 1))) (both (same_bytes (drop (4096 * length head.records) behind) (zeros (4096 * (k - 1) - 4096 * length head.records))) (same_bytes bytes (page_over (head_fields head) behind))))

spells : (k : ℕ) (bytes : List ℕ) (head : SegmentHead) → Decided (SpellsSegment k bytes head)
spells k bytes head = alike
    (λ (value, x). record { value = value; behind = drop 4096 bytes; size = x.size; past = x.past; spelled = x.spelled })
    (λ is. (is.value, subst (HasBehind k bytes head) (sym (behind_again k bytes head is)) (record { size = is.size; past = is.past; spelled = is.spelled })))
    (both (is_head k head) (has_behind k bytes head (drop 4096 bytes)))

-- the bytes are a segment of k blocks with the serial, or they aren't
pub segment_or_not : (k : ℕ) (bytes : List ℕ) (serial : ℕ) → Decided ((head : SegmentHead) × SpellsSegment k bytes head × (head.serial ≡ serial))
segment_or_not k bytes serial = alike
    (λ (is, own). (head_in bytes, is, own))
    (λ x. (subst (SpellsSegment k bytes) (sym (head_again k bytes x.0 x.1)) x.1, ap (λ (h : SegmentHead). h.serial) (head_again k bytes x.0 x.1) ∙ x.2))
    (both (spells k bytes (head_in bytes)) (is_equal (head_in bytes).serial serial))
