-- Block records and table records at places.
use Rattle.std.proofs.Common.{◌≡◌, ℕ, ◌+◌, ◌*◌, ◌≤◌, List, ◌++◌, length, take, drop, refl, sym, ap, ◌∙◌, arith, lit≤, append_assoc}
use Rattle.std.specs.List.{AllByRecursion}
use Rattle.std.proofs.lemmas.List.{take-take, drop-drop}
use Rattle.hl_bytes.specs.Fields.{le32, le64, u32_at, u64_at, zeros}
use Rattle.hl_bytes.specs.Records.{IsBlockRecord, IsTableRecord, block_record_bytes, table_record_bytes, block_record_at, table_record_at, block_records_bytes, table_records_bytes, block_records_at, table_records_at}
use Rattle.hl_bytes.specs.declared.records.BlockRecord.{BlockRecord}
use Rattle.hl_bytes.specs.declared.records.TableRecord.{TableRecord}
use Rattle.hl_bytes.proofs.Places.{IsBytes, front32, front64, back32, back64}
use Rattle.hl_bytes.proofs.Decoding.{part_front}
use Rattle.hl_bytes.proofs.RunLemmas.{length-run_bytes, length-run_at, read_run_of, front_run_of, run_fits, u32_fits, u64_fits}

pub length-block_record_bytes : (r : BlockRecord) → length (block_record_bytes r) ≡ 8
unfolding block_record_bytes le32
length-block_record_bytes r = refl

pub length-table_record_bytes : (r : TableRecord) → length (table_record_bytes r) ≡ 24
unfolding table_record_bytes le32 le64 zeros
length-table_record_bytes r = refl

-- a part of what stands at a place
inside : (bytes whole part : List ℕ) (at k n m : ℕ) → take n (drop at bytes) ≡ whole → k + m ≤ n → take m (drop k whole) ≡ part → take m (drop (at + k) bytes) ≡ part
inside bytes whole part at k n m is le within =
    ap (take m) (sym (drop-drop k at bytes)) ∙ sym (part_front (drop at bytes) k m n le) ∙ ap (λ (l : List ℕ). take m (drop k l)) is ∙ within

-- a record that was written is read
pub back_block_record : (bytes : List ℕ) (at : ℕ) (r : BlockRecord) → IsBlockRecord r → take 8 (drop at bytes) ≡ block_record_bytes r → block_record_at at bytes ≡ r
unfolding block_record_bytes block_record_at le32
back_block_record bytes at r fits is =
    let ino : u32_at at bytes ≡ r.ino = back32 bytes at r.ino fits.ino (sym (take-take 4 8 (drop at bytes) (lit≤ tt)) ∙ ap (take 4) is) in
    let index : u32_at (at + 4) bytes ≡ r.index = back32 bytes (at + 4) r.index fits.index (inside bytes (block_record_bytes r) (le32 r.index) at 4 8 4 is (lit≤ tt) refl) in
    rw (ino, index) refl

pub back_table_record : (bytes : List ℕ) (at : ℕ) (r : TableRecord) → IsTableRecord r → take 24 (drop at bytes) ≡ table_record_bytes r → table_record_at at bytes ≡ r
unfolding table_record_bytes table_record_at le32 le64 zeros
back_table_record bytes at r fits is =
    let of_kind : u32_at at bytes ≡ r.kind = back32 bytes at r.kind fits.of_kind (sym (take-take 4 24 (drop at bytes) (lit≤ tt)) ∙ ap (take 4) is) in
    let a : u32_at (at + 4) bytes ≡ r.a = back32 bytes (at + 4) r.a fits.a (inside bytes (table_record_bytes r) (le32 r.a) at 4 24 4 is (lit≤ tt) refl) in
    let b : u32_at (at + 8) bytes ≡ r.b = back32 bytes (at + 8) r.b fits.b (inside bytes (table_record_bytes r) (le32 r.b) at 8 24 4 is (lit≤ tt) refl) in
    let serial : u64_at (at + 16) bytes ≡ r.serial = back64 bytes (at + 16) r.serial fits.serial (inside bytes (table_record_bytes r) (le64 r.serial) at 16 24 8 is (lit≤ tt) refl) in
    rw (of_kind, a, b, serial) refl

-- the bytes of a block record that stands at a place
pub front_block_record : (xs : List ℕ) (at : ℕ) → at + 8 ≤ length xs → IsBytes xs → take (at + 8) xs ≡ take at xs ++ block_record_bytes (block_record_at at xs)
unfolding block_record_bytes block_record_at
front_block_record xs at le fits =
    let one : take (at + 4) xs ≡ take at xs ++ le32 (u32_at at xs) = front32 xs at (u32_at at xs) (omega arith) fits refl in
    let two : take (at + 4 + 4) xs ≡ take (at + 4) xs ++ le32 (u32_at (at + 4) xs) = front32 xs (at + 4) (u32_at (at + 4) xs) (omega arith) fits refl in
    let e : at + 8 ≡ at + 4 + 4 = omega arith in
    ap (λ (k : ℕ). take k xs) e ∙ two ∙ ap (λ (l : List ℕ). l ++ le32 (u32_at (at + 4) xs)) one ∙ append_assoc (take at xs) (le32 (u32_at at xs)) (le32 (u32_at (at + 4) xs))

-- the bytes of a table record that stands at a place, where those that are no field are zero
pub front_table_record : (xs : List ℕ) (at : ℕ) → at + 24 ≤ length xs → IsBytes xs → take (at + 16) xs ≡ take (at + 12) xs ++ zeros 4 → take (at + 24) xs ≡ take at xs ++ table_record_bytes (table_record_at at xs)
unfolding table_record_bytes table_record_at
front_table_record xs at le fits gap =
    let F = take at xs in
    let k = le32 (u32_at at xs) in
    let a = le32 (u32_at (at + 4) xs) in
    let b = le32 (u32_at (at + 8) xs) in
    let s = le64 (u64_at (at + 16) xs) in
    let e8 : at + 8 ≡ at + 4 + 4 = omega arith in
    let e12 : at + 12 ≡ at + 8 + 4 = omega arith in
    let e24 : at + 24 ≡ at + 16 + 8 = omega arith in
    let one : take (at + 4) xs ≡ F ++ k = front32 xs at (u32_at at xs) (omega arith) fits refl in
    let two : take (at + 8) xs ≡ take (at + 4) xs ++ a = ap (λ (n : ℕ). take n xs) e8 ∙ front32 xs (at + 4) (u32_at (at + 4) xs) (omega arith) fits refl in
    let three : take (at + 12) xs ≡ take (at + 8) xs ++ b = ap (λ (n : ℕ). take n xs) e12 ∙ front32 xs (at + 8) (u32_at (at + 8) xs) (omega arith) fits refl in
    let last : take (at + 24) xs ≡ take (at + 16) xs ++ s = ap (λ (n : ℕ). take n xs) e24 ∙ front64 xs (at + 16) (u64_at (at + 16) xs) (omega arith) fits refl in
    let left : take (at + 24) xs ≡ ((((F ++ k) ++ a) ++ b) ++ zeros 4) ++ s = rw (last, gap, three, two, one) refl in
    let turn : ((((F ++ k) ++ a) ++ b) ++ zeros 4) ++ s ≡ F ++ ((((k ++ a) ++ b) ++ zeros 4) ++ s) = simp append_assoc refl in
    left ∙ turn

-- what is read has room in its fields
pub block_record_fits : (xs : List ℕ) (at : ℕ) → IsBytes xs → IsBlockRecord (block_record_at at xs)
unfolding block_record_at
block_record_fits xs at fits = record { ino = u32_fits xs at fits; index = u32_fits xs (at + 4) fits }

pub table_record_fits : (xs : List ℕ) (at : ℕ) → IsBytes xs → IsTableRecord (table_record_at at xs)
unfolding table_record_at
table_record_fits xs at fits = record { of_kind = u32_fits xs at fits; a = u32_fits xs (at + 4) fits; b = u32_fits xs (at + 8) fits; serial = u64_fits xs (at + 16) fits }

pub length-block_records : (rs : List BlockRecord) → length (block_records_bytes rs) ≡ 8 * length rs
length-block_records rs = length-run_bytes block_record_bytes 8 length-block_record_bytes rs

pub length-block_records_at : (at n : ℕ) (bytes : List ℕ) → length (block_records_at at n bytes) ≡ n
length-block_records_at at n bytes = length-run_at block_record_at 8 at n bytes

-- block records of a block that spells them
pub read_block_records : (block fields : List ℕ) (rs : List BlockRecord) (at n : ℕ) → take n block ≡ fields → at + 8 * length rs ≤ n → AllByRecursion IsBlockRecord rs → take (8 * length rs) (drop at fields) ≡ block_records_bytes rs
    → block_records_at at (length rs) block ≡ rs
read_block_records block fields rs at n front le fits is = read_run_of block_record_bytes block_record_at 8 IsBlockRecord length-block_record_bytes back_block_record block fields rs at n front le fits is

pub block_records_fit : (xs : List ℕ) (at n : ℕ) → IsBytes xs → AllByRecursion IsBlockRecord (block_records_at at n xs)
block_records_fit xs at n fits = run_fits block_record_at 8 IsBlockRecord block_record_fits xs at n fits

pub length-table_records : (rs : List TableRecord) → length (table_records_bytes rs) ≡ 24 * length rs
length-table_records rs = length-run_bytes table_record_bytes 24 length-table_record_bytes rs

pub length-table_records_at : (at n : ℕ) (bytes : List ℕ) → length (table_records_at at n bytes) ≡ n
length-table_records_at at n bytes = length-run_at table_record_at 24 at n bytes

-- table records of a block that spells them
pub read_table_records : (block fields : List ℕ) (rs : List TableRecord) (at n : ℕ) → take n block ≡ fields → at + 24 * length rs ≤ n → AllByRecursion IsTableRecord rs → take (24 * length rs) (drop at fields) ≡ table_records_bytes rs
    → table_records_at at (length rs) block ≡ rs
read_table_records block fields rs at n front le fits is = read_run_of table_record_bytes table_record_at 24 IsTableRecord length-table_record_bytes back_table_record block fields rs at n front le fits is

pub table_records_fit : (xs : List ℕ) (at n : ℕ) → IsBytes xs → AllByRecursion IsTableRecord (table_records_at at n xs)
table_records_fit xs at n fits = run_fits table_record_at 24 IsTableRecord table_record_fits xs at n fits

-- block records that stand at a place
pub front_block_records : (xs : List ℕ) (at n : ℕ) → at + 8 * n ≤ length xs → IsBytes xs → take (at + 8 * n) xs ≡ take at xs ++ block_records_bytes (block_records_at at n xs)
front_block_records xs at n le fits = front_run_of block_record_bytes block_record_at 8 front_block_record xs at n le fits
