-- A part that is tested where it lies is one that was spelled.
use Rattle.std.proofs.Common.{◌≡◌, ◌↔◌, ℕ, zero, suc, ◌+◌, ◌-◌, ◌*◌, ◌<◌, ◌≤◌, min, Bool, true, false, List, [], ◌∷◌, ◌++◌, length, get_or, take, drop, sum, Some, refl, sym, ap, subst, ◌∙◌, arith, lit≤, lit<, append_assoc, length-append}
use Rattle.std.specs.List.{All, slice_get}
use Rattle.std.proofs.Math.Nat.{mul-suc}
use Rattle.std.proofs.lemmas.Option.{slice_get-get_or}
use Rattle.std.proofs.lemmas.List.{append-nil, take_at, drop_at, take_all, take-take, drop-take, drop-drop}
use Rattle.std.proofs.lemmas.List.Elements.{All-get_or, All-push}
use Rattle.hl_addr.specs.Layout.{Layout, table_blocks}
use Rattle.hl_bytes.specs.Fields.{le32, le64, u32_at, u64_at, zeros}
use Rattle.hl_bytes.specs.Runs.{run_bytes, run_at}
use Rattle.hl_bytes.specs.Records.{block_record_at, table_record_at, table_record_bytes, block_records_bytes, table_records_bytes, block_records_at, table_records_at}
use Rattle.hl_bytes.specs.declared.records.BlockRecord.{BlockRecord}
use Rattle.hl_bytes.specs.declared.records.TableRecord.{TableRecord}
use Rattle.hl_bytes.specs.Buffers.{part_of}
use Rattle.hl_bytes.proofs.Places.{IsBytes, back32, front32, front64}
use Rattle.hl_bytes.proofs.Decoding.{inside, part_front, read32}
use Rattle.hl_bytes.proofs.RunLemmas.{get_or-run_at, run_at-more, length-run_at}
use Rattle.hl_bytes.proofs.RecordLemmas.{front_block_records, front_table_record, length-block_records, length-table_records, length-block_records_at, length-table_records_at, length-table_record_bytes}
use Rattle.hl_summary.specs.declared.parts.Summary.{Summary}
use Rattle.hl_summary.specs.Parts.{HasRanges, HasRoom, Spells, ends_code, ends_of, magic, summary_fields, summary_head, summary_in, summary_middle}
use Rattle.hl_summary.specs.Ranges.{IsBlockOf, IsChangeOf}
use Rattle.hl_summary.specs.Reading.{HasFields, HasRecords, IsPlaced, IsTestedPart, own_bytes}
use Rattle.hl_summary.proofs.SummaryLemmas.{code_fits, front_fields, has_room, is_summary, length-fields, length-middle}
use Rattle.hl_summary.proofs.SealLemmas.{spelled, spelled_sealed}

-- how many records are read
pub count_blocks : (bytes : List ℕ) → length (summary_in bytes).blocks ≡ min (u32_at 28 bytes) 240
unfolding summary_in
count_blocks bytes = length-block_records_at 40 (min (u32_at 28 bytes) 240) bytes

pub count_tables : (bytes : List ℕ) → length (summary_in bytes).tables ≡ min (u32_at 32 bytes) 80
unfolding summary_in
count_tables bytes = length-table_records_at 1960 (min (u32_at 32 bytes) 80) bytes

-- as many records as are read
blocks_are : (bytes : List ℕ) → block_records_at 40 (length (summary_in bytes).blocks) bytes ≡ (summary_in bytes).blocks
unfolding summary_in
blocks_are bytes = ap (λ (n : ℕ). block_records_at 40 n bytes) (count_blocks bytes)

tables_are : (bytes : List ℕ) → table_records_at 1960 (length (summary_in bytes).tables) bytes ≡ (summary_in bytes).tables
unfolding summary_in
tables_are bytes = ap (λ (n : ℕ). table_records_at 1960 n bytes) (count_tables bytes)

-- what is true of all records that are read is true of all of the candidate, and the other way round
pub all_blocks : (P : BlockRecord → Type 0) (bytes : List ℕ) (n : ℕ) → n ≡ length (summary_in bytes).blocks → All P (block_records_at 40 n bytes) ↔ All P (summary_in bytes).blocks
all_blocks P bytes n is =
    let same : block_records_at 40 n bytes ≡ (summary_in bytes).blocks = ap (λ (k : ℕ). block_records_at 40 k bytes) is ∙ blocks_are bytes in
    (subst (λ (l : List BlockRecord). All P l) same, subst (λ (l : List BlockRecord). All P l) (sym same))

pub all_tables : (P : TableRecord → Type 0) (bytes : List ℕ) (n : ℕ) → n ≡ length (summary_in bytes).tables → All P (table_records_at 1960 n bytes) ↔ All P (summary_in bytes).tables
all_tables P bytes n is =
    let same : table_records_at 1960 n bytes ≡ (summary_in bytes).tables = ap (λ (k : ℕ). table_records_at 1960 k bytes) is ∙ tables_are bytes in
    (subst (λ (l : List TableRecord). All P l) same, subst (λ (l : List TableRecord). All P l) (sym same))

pub blocks_hold : (g : Layout) (bytes : List ℕ) (n inodes tables : ℕ) → n ≡ length (summary_in bytes).blocks → inodes ≡ g.inodes → tables ≡ table_blocks g
    → All (IsBlockOf inodes tables) (block_records_at 40 n bytes) ↔ All (IsBlockOf g.inodes (table_blocks g)) (summary_in bytes).blocks
blocks_hold g bytes n inodes tables is inodes_are tables_are_so = rw (inodes_are, tables_are_so) (all_blocks (IsBlockOf g.inodes (table_blocks g)) bytes n is)

pub tables_hold : (g : Layout) (bytes : List ℕ) (n inodes slots volumes : ℕ) → n ≡ length (summary_in bytes).tables → inodes ≡ g.inodes → slots ≡ sum g.volumes → volumes ≡ length g.volumes
    → All (IsChangeOf inodes slots volumes) (table_records_at 1960 n bytes) ↔ All (IsChangeOf g.inodes (sum g.volumes) (length g.volumes)) (summary_in bytes).tables
tables_hold g bytes n inodes slots volumes is inodes_are slots_are volumes_are = rw (inodes_are, slots_are, volumes_are) (all_tables (IsChangeOf g.inodes (sum g.volumes) (length g.volumes)) bytes n is)

-- a place, and records in their ranges
pub ranges_of : (g : Layout) (seg block : ℕ) (bytes : List ℕ) (n next_seg next_block : ℕ) → n ≡ length (summary_in bytes).blocks → next_seg ≡ (summary_in bytes).next_seg → next_block ≡ (summary_in bytes).next_block
    → IsPlaced g seg block n next_seg next_block → HasRecords g (summary_in bytes) → HasRanges g seg block (summary_in bytes)
ranges_of g seg block bytes n next_seg next_block n_is seg_is block_is placed records =
    let s = summary_in bytes in
    let all : IsPlaced g seg block (length s.blocks) s.next_seg s.next_block =
    subst (λ (k : ℕ). IsPlaced g seg block k s.next_seg s.next_block) n_is (subst (λ (k : ℕ). IsPlaced g seg block n k s.next_block) seg_is (subst (λ (k : ℕ). IsPlaced g seg block n next_seg k) block_is placed)) in
    record { place = all.place; within = all.within; next = all.next; room = has_room bytes s refl; blocks = records.blocks; tables = records.tables }

-- a record by its number
pub block_in : (bytes : List ℕ) (i : ℕ) → i < length (summary_in bytes).blocks → slice_get (summary_in bytes).blocks i ≡ Some (block_record_at (40 + 8 * i) bytes)
unfolding summary_in
block_in bytes i lt =
    let n = min (u32_at 28 bytes) 240 in
    let d = block_record_at (40 + 8 * i) bytes in
    let within : i < n = omega (arith, lt, count_blocks bytes) in
    slice_get-get_or (block_records_at 40 n bytes) i d lt ∙ ap Some (get_or-run_at block_record_at 8 40 n bytes i d within)

pub table_in : (bytes : List ℕ) (i : ℕ) → i < length (summary_in bytes).tables → slice_get (summary_in bytes).tables i ≡ Some (table_record_at (1960 + 24 * i) bytes)
unfolding summary_in
table_in bytes i lt =
    let n = min (u32_at 32 bytes) 80 in
    let d = table_record_at (1960 + 24 * i) bytes in
    let within : i < n = omega (arith, lt, count_tables bytes) in
    slice_get-get_or (table_records_at 1960 n bytes) i d lt ∙ ap Some (get_or-run_at table_record_at 24 1960 n bytes i d within)

-- all values of a run hold: of none, of one more, and not where one doesn't
pub all_none : {A : Type 0} (P : A → Type 0) (read : ℕ → List ℕ → A) (width at : ℕ) (bytes : List ℕ) → All P (run_at read width at 0 bytes)
unfolding run_at
all_none P read width at bytes = λ k d lt. absurd (omega arith)

pub all_more : {A : Type 0} (P : A → Type 0) (read : ℕ → List ℕ → A) (width at i : ℕ) (bytes : List ℕ) (x : A) → All P (run_at read width at i bytes) → x ≡ read (at + width * i) bytes → P x → All P (run_at read width at (i + 1) bytes)
all_more {A} P read width at i bytes x so_far is holds =
    subst (λ (l : List A). All P l) (sym (run_at-more read width at i bytes)) (All-push P (run_at read width at i bytes) (read (at + width * i) bytes) so_far (subst P is holds))

pub all_fails : {A : Type 0} (P : A → Type 0) (read : ℕ → List ℕ → A) (width at n i : ℕ) (bytes : List ℕ) (x : A) → i < n → x ≡ read (at + width * i) bytes → (P x → ⊥) → All P (run_at read width at n bytes) → ⊥
all_fails P read width at n i bytes x lt is fails all =
    let here : P (get_or (run_at read width at n bytes) i x) = All-get_or P (run_at read width at n bytes) i x (omega (arith, lt, length-run_at read width at n bytes)) all in
    fails (subst P (get_or-run_at read width at n bytes i x lt ∙ sym is) here)

-- whether a part ends a unit, where its field is one of the two
code_again : (code : ℕ) → code ≤ 1 → code ≡ ends_code (ends_of code)
code_again zero le = refl
code_again (suc zero) le = refl
code_again (suc (suc n)) le = absurd (omega arith)

code_low : (ends : Bool) → ends_code ends ≤ 1
code_low true = lit≤ tt
code_low false = lit≤ tt

-- the bytes of table records that stand at a place, where those that are no field are zero
front_table_records : (xs : List ℕ) (at n : ℕ) → at + 24 * n ≤ length xs → IsBytes xs → ((i : ℕ) → i < n → u32_at (at + 12 + 24 * i) xs ≡ 0) → take (at + 24 * n) xs ≡ take at xs ++ table_records_bytes (table_records_at at n xs)
unfolding run_at run_bytes le32 zeros
front_table_records xs at zero le fits gaps = let e : at + 24 * 0 ≡ at = omega arith in ap (λ (k : ℕ). take k xs) e ∙ sym (append-nil (take at xs))
front_table_records xs at (suc n) le fits gaps =
    let wide = mul-suc 24 n in
    let e : at + 24 * suc n ≡ at + 24 + 24 * n = omega (arith, wide) in
    let first : at + 12 + 24 * 0 ≡ at + 12 = omega arith in
    let here : u32_at (at + 12) xs ≡ 0 = ap (λ (k : ℕ). u32_at k xs) (sym first) ∙ gaps 0 (omega arith) in
    let e16 : at + 16 ≡ at + 12 + 4 = omega arith in
    let gap : take (at + 16) xs ≡ take (at + 12) xs ++ zeros 4 = ap (λ (k : ℕ). take k xs) e16 ∙ front32 xs (at + 12) 0 (omega (arith, wide)) fits (sym here) in
    let one : take (at + 24) xs ≡ take at xs ++ table_record_bytes (table_record_at at xs) = front_table_record xs at (omega (arith, wide)) fits gap in
    let rest = front_table_records xs (at + 24) n (omega (arith, wide)) fits (λ i lt. let f : at + 24 + 12 + 24 * i ≡ at + 12 + 24 * suc i = omega (arith, mul-suc 24 i) in ap (λ (k : ℕ). u32_at k xs) f ∙ gaps (suc i) (omega arith)) in
    ap (λ (k : ℕ). take k xs) e ∙ rest ∙ ap (λ (l : List ℕ). l ++ table_records_bytes (table_records_at (at + 24) n xs)) one
    ∙ append_assoc (take at xs) (table_record_bytes (table_record_at at xs)) (table_records_bytes (table_records_at (at + 24) n xs))

-- a value of a run that was written stands at its place
spelled_at : {A : Type 0} (spell : A → List ℕ) (width : ℕ) → ((x : A) → length (spell x) ≡ width) → (bytes : List ℕ) (xs : List A) (at i : ℕ) (d : A) → take (width * length xs) (drop at bytes) ≡ run_bytes spell xs → i < length xs
    → take width (drop (at + width * i) bytes) ≡ spell (get_or xs i d)
unfolding run_bytes
spelled_at spell width wide bytes [] at i d is lt = absurd (omega arith)
spelled_at spell width wide bytes (x ∷ xs) at zero d is lt =
    let size : width * length (x ∷ xs) ≡ width + width * length xs = omega (arith, mul-suc width (length xs)) in
    let whole : take (width + width * length xs) (drop at bytes) ≡ spell x ++ run_bytes spell xs = ap (λ (k : ℕ). take k (drop at bytes)) (sym size) ∙ is in
    let e : at + width * 0 ≡ at = omega arith in
    ap (λ (k : ℕ). take width (drop k bytes)) e ∙ sym (take-take width (width + width * length xs) (drop at bytes) (omega arith)) ∙ ap (take width) whole ∙ take_at (spell x) (run_bytes spell xs) width (wide x)
spelled_at spell width wide bytes (x ∷ xs) at (suc i) d is lt =
    let size : width * length (x ∷ xs) ≡ width + width * length xs = omega (arith, mul-suc width (length xs)) in
    let whole : take (width + width * length xs) (drop at bytes) ≡ spell x ++ run_bytes spell xs = ap (λ (k : ℕ). take k (drop at bytes)) (sym size) ∙ is in
    let rest : take (width * length xs) (drop (at + width) bytes) ≡ run_bytes spell xs =
    ap (take (width * length xs)) (sym (drop-drop width at bytes)) ∙ sym (drop-take width (width * length xs) (drop at bytes)) ∙ ap (drop width) whole ∙ drop_at (spell x) (run_bytes spell xs) width (wide x) in
    let e : at + width * suc i ≡ at + width + width * i = omega (arith, mul-suc width i) in
    ap (λ (k : ℕ). take width (drop k bytes)) e ∙ spelled_at spell width wide bytes xs (at + width) i d rest (omega arith)

-- each field behind the one before makes all
fields_of : (bytes : List ℕ) (s : Summary) → take 8 bytes ≡ magic → take 16 bytes ≡ take 8 bytes ++ le64 s.serial → take 20 bytes ≡ take 16 bytes ++ le32 s.next_seg → take 24 bytes ≡ take 20 bytes ++ le32 s.next_block
    → take 28 bytes ≡ take 24 bytes ++ le32 (ends_code s.ends) → take 32 bytes ≡ take 28 bytes ++ le32 (length s.blocks) → take 36 bytes ≡ take 32 bytes ++ le32 (length s.tables) → take 40 bytes ≡ take 36 bytes ++ zeros 4
    → take (40 + 8 * length s.blocks) bytes ≡ take 40 bytes ++ block_records_bytes s.blocks → take 1960 bytes ≡ take (40 + 8 * length s.blocks) bytes ++ zeros (1960 - (40 + 8 * length s.blocks))
    → take (1960 + 24 * length s.tables) bytes ≡ take 1960 bytes ++ table_records_bytes s.tables → take (1960 + 24 * length s.tables) bytes ≡ summary_fields s
unfolding summary_fields
fields_of bytes s begins serial seg block ends blocks tables gap records past changes = rw (changes, past, records, gap, tables, blocks, ends, block, seg, serial, begins) refl

-- the fields that are tested are spelled
fields_in : (bytes : List ℕ) → IsBytes bytes → 4096 ≤ length bytes → HasFields bytes → take (1960 + 24 * length (summary_in bytes).tables) bytes ≡ summary_fields (summary_in bytes)
unfolding summary_in le32 zeros
fields_in bytes fits size t =
    let s = summary_in bytes in
    let n = min (u32_at 28 bytes) 240 in
    let m = min (u32_at 32 bytes) 80 in
    let blocks : length s.blocks ≡ u32_at 28 bytes = omega (arith, count_blocks bytes, t.blocks) in
    let tables : length s.tables ≡ u32_at 32 bytes = omega (arith, count_tables bytes, t.tables) in
    let n_is : n ≡ length s.blocks = sym (count_blocks bytes) in
    let m_is : m ≡ length s.tables = sym (count_tables bytes) in
    let records : take (40 + 8 * n) bytes ≡ take 40 bytes ++ block_records_bytes s.blocks = front_block_records bytes 40 n (omega (arith, size)) fits in
    let changes : take (1960 + 24 * m) bytes ≡ take 1960 bytes ++ table_records_bytes s.tables = front_table_records bytes 1960 m (omega (arith, size)) fits (λ i lt. t.gaps i (omega arith)) in
    fields_of bytes s t.begins
    (front64 bytes 8 s.serial (omega (arith, size)) fits refl)
    (front32 bytes 16 s.next_seg (omega (arith, size)) fits refl)
    (front32 bytes 20 s.next_block (omega (arith, size)) fits refl)
    (front32 bytes 24 (ends_code s.ends) (omega (arith, size)) fits (sym (code_again (u32_at 24 bytes) t.ends)))
    (front32 bytes 28 (length s.blocks) (omega (arith, size)) fits blocks)
    (front32 bytes 32 (length s.tables) (omega (arith, size)) fits tables)
    (front32 bytes 36 0 (omega (arith, size)) fits (sym t.gap))
    (ap (λ (k : ℕ). take (40 + 8 * k) bytes) (sym n_is) ∙ records)
    (t.past ∙ ap (λ (k : ℕ). take (40 + 8 * k) bytes ++ zeros (1960 - (40 + 8 * k))) (sym blocks))
    (ap (λ (k : ℕ). take (1960 + 24 * k) bytes) (sym m_is) ∙ changes)

-- the zeros within a table record that is spelled
gap_of : (bytes : List ℕ) (at : ℕ) (r : TableRecord) → take 24 (drop at bytes) ≡ table_record_bytes r → u32_at (at + 12) bytes ≡ 0
unfolding table_record_bytes le32 le64 zeros
gap_of bytes at r is = back32 bytes (at + 12) 0 (lit< tt) (inside bytes (table_record_bytes r) (le32 0) at 12 24 4 is (lit≤ tt) refl)

-- the table records of the fields
run_of : (bytes : List ℕ) (s : Summary) → HasRoom s → take (1960 + 24 * length s.tables) bytes ≡ summary_fields s → take (24 * length s.tables) (drop 1960 bytes) ≡ table_records_bytes s.tables
unfolding summary_fields
run_of bytes s room front =
    let n = 24 * length s.tables in
    sym (part_front bytes 1960 n (1960 + n) (omega arith)) ∙ ap (λ (l : List ℕ). take n (drop 1960 l)) front ∙ ap (take n) (drop_at (summary_middle s) (table_records_bytes s.tables) 1960 (length-middle s room))
    ∙ take_all n (table_records_bytes s.tables) (omega (arith, length-table_records s.tables))

-- what stands before the block records' end, and up to the table records
head_of : (s : Summary) → HasRoom s → take (40 + 8 * length s.blocks) (summary_middle s) ≡ summary_head s ++ block_records_bytes s.blocks
unfolding le32 le64 zeros
head_of s room =
    let F = summary_head s ++ block_records_bytes s.blocks in
    take_at F (zeros (1960 - (40 + 8 * length s.blocks))) (40 + 8 * length s.blocks) (omega (arith, length-append (summary_head s) (block_records_bytes s.blocks), length-block_records s.blocks))

past_of : (bytes : List ℕ) (s : Summary) → HasRoom s → take (1960 + 24 * length s.tables) bytes ≡ summary_fields s → take 1960 bytes ≡ take (40 + 8 * length s.blocks) bytes ++ zeros (1960 - (40 + 8 * length s.blocks))
unfolding summary_fields
past_of bytes s room front =
    let e = 40 + 8 * length s.blocks in
    let low : e ≤ 1960 = omega (arith, room.blocks) in
    let middle : take 1960 bytes ≡ summary_middle s =
    sym (take-take 1960 (1960 + 24 * length s.tables) bytes (omega arith)) ∙ ap (take 1960) front ∙ take_at (summary_middle s) (table_records_bytes s.tables) 1960 (length-middle s room) in
    let first : take e bytes ≡ summary_head s ++ block_records_bytes s.blocks = sym (take-take e 1960 bytes low) ∙ ap (take e) middle ∙ head_of s room in
    middle ∙ ap (λ (l : List ℕ). l ++ zeros (1960 - e)) (sym first)

-- fields that are spelled pass each test
has_fields : (bytes : List ℕ) → take (1960 + 24 * length (summary_in bytes).tables) bytes ≡ summary_fields (summary_in bytes) → HasFields bytes
unfolding summary_fields le32 le64 zeros
has_fields bytes front =
    let s = summary_in bytes in
    let room : HasRoom s = has_room bytes s refl in
    let fields = summary_fields s in
    let n = 1960 + 24 * length s.tables in
    let blocks : u32_at 28 bytes ≡ length s.blocks = read32 bytes fields 28 n (length s.blocks) front (omega arith) (omega (arith, room.blocks)) refl in
    let tables : u32_at 32 bytes ≡ length s.tables = read32 bytes fields 32 n (length s.tables) front (omega arith) (omega (arith, room.tables)) refl in
    let code : u32_at 24 bytes ≡ ends_code s.ends = read32 bytes fields 24 n (ends_code s.ends) front (omega arith) (code_fits s.ends) refl in
    record {
      begins = sym (take-take 8 n bytes (omega arith)) ∙ ap (take 8) front;
      ends = subst (λ (k : ℕ). k ≤ 1) (sym code) (code_low s.ends);
      blocks = omega (arith, blocks, room.blocks);
      tables = omega (arith, tables, room.tables);
      gap = read32 bytes fields 36 n 0 front (omega arith) (lit< tt) refl;
      past = subst (λ (k : ℕ). take 1960 bytes ≡ take (40 + 8 * k) bytes ++ zeros (1960 - (40 + 8 * k))) (sym blocks) (past_of bytes s room front);
      gaps = λ i lt. let d = table_record_at 0 bytes in
          let within : i < length s.tables = omega (arith, lt, tables) in
          let e : 1960 + 24 * i + 12 ≡ 1972 + 24 * i = omega arith in
          ap (λ (k : ℕ). u32_at k bytes) (sym e) ∙ gap_of bytes (1960 + 24 * i) (get_or s.tables i d) (spelled_at table_record_bytes 24 length-table_record_bytes bytes s.tables 1960 i d (run_of bytes s room front) within);
    }

-- the serial of the candidate
serial_in : (bytes : List ℕ) → (summary_in bytes).serial ≡ u64_at 8 bytes
unfolding summary_in
serial_in bytes = refl

-- a part that is tested is spelled by its candidate
pub tested : (g : Layout) (seg block serial : ℕ) (part : List ℕ) → length part ≡ 4096 * (g.k - block) → IsBytes part → IsTestedPart g seg block serial part → Spells g seg block serial part (summary_in part)
tested g seg block serial part size fits t =
    let s = summary_in part in
    let room : HasRoom s = t.ranges.room in
    let some : 4096 ≤ length part = omega (arith, size, t.place.block_high) in
    let end = 1960 + 24 * length s.tables in
    let short : end ≤ 4096 * (1 + length s.blocks) = omega (arith, room.tables) in
    let fields = fields_in part fits some t.fields in
    let count : 0 + length (summary_fields s) ≡ end = omega (arith, length-fields s room) in
    let front : take (0 + length (summary_fields s)) (own_bytes part) ≡ summary_fields s = ap (λ (k : ℕ). take k (own_bytes part)) count ∙ take-take end (4096 * (1 + length s.blocks)) part short ∙ fields in
    record {
      value = is_summary g seg block part s fits refl t.ranges;
      serial_is = serial_in part ∙ t.serial_is;
      bytes = spelled s part (own_bytes part) (summary_fields s) end room refl refl refl front t.digest;
    }

-- a part that its candidate spells passes each test
pub tests : (g : Layout) (seg block serial : ℕ) (part : List ℕ) → Spells g seg block serial part (summary_in part) → IsTestedPart g seg block serial part
tests g seg block serial part p =
    let s = summary_in part in
    let room : HasRoom s = p.value.ranges.room in
    record {
      place = p.value.ranges.place;
      fields = has_fields part (front_fields part (part_of part 1 (length s.blocks)) s room p.bytes);
      serial_is = sym (serial_in part) ∙ p.serial_is;
      ranges = p.value.ranges;
      digest = spelled_sealed s part (own_bytes part) (summary_fields s) (1960 + 24 * length s.tables) room refl refl refl p.bytes;
    }
