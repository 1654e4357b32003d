-- Blocks of entries that are read.
use Rattle.std.proofs.Common.{◌≡◌, ℕ, ◌+◌, ◌-◌, ◌*◌, ◌<◌, ◌≤◌, min, Bool, List, [], ◌∷◌, ◌++◌, length, take, drop, inl, inr, refl, sym, ap, ◌∙◌, arith, lit≤, append_assoc, length-append, length-drop}
use Rattle.std.specs.Int.{div_ceil}
use Rattle.std.proofs.Math.Nat.{mul-suc}
use Rattle.std.proofs.lemmas.Bool.{cases_lt}
use Rattle.std.proofs.lemmas.Nat.{mul-le}
use Rattle.std.proofs.lemmas.List.{take_at, drop_at, drop_all, append-nil, take-take, take-append-le, drop-append-le, drop-take, drop-drop, take_min, length-take-le}
use borrow.Rule.Slice.PartMut.{put_mid}
use Rattle.hl_bytes.specs.Fields.{le32, le64, u32_at, u64_at, zeros, written}
use Rattle.hl_bytes.specs.Runs.{run_bytes, run_at}
use Rattle.hl_bytes.specs.Pages.{padded, plain_page}
use Rattle.hl_bytes.specs.Buffers.{block_of}
use Rattle.hl_bytes.proofs.Places.{IsBytes, respelled32, respelled64, back32}
use Rattle.hl_bytes.proofs.Decoding.{inside}
use Rattle.hl_bytes.proofs.PageLemmas.{take-plain_page, length-padded, length-zeros}
use Rattle.hl_bytes.proofs.RunLemmas.{run_bytes-append, length-run_bytes}
use Rattle.hl_tseg.specs.SlotTable.{with_run}
use Rattle.hl_tseg.specs.declared.slot.Slot.{Slot}
use Rattle.hl_tseg.specs.declared.slot.Slot.TheVariants.{Free, Staged, Home, Spoilt}
use Rattle.hl_tables.specs.Entries.{flag_code, flag_bytes, flag_at, state_field, line_field, serial_field, slot_bytes, slot_in_fields, slot_entry_at}
use Rattle.hl_tables.specs.TableBlocks.{in_blocks}
use Rattle.hl_tables.proofs.EntryLemmas.{code_fits, read_flag, state_fits}
use Rattle.hl_tables.proofs.EntryBlocks.{entry_block, take-run, drop-run}

-- what a write to a part leaves
pub put_mid_is : {A : Type 0} (xs ys : List A) (at k : ℕ) → length ys ≡ k → put_mid at k xs ys ≡ with_run xs at ys
put_mid_is xs ys at k size = rw (drop-drop k at xs) (rw size refl)

-- the same of each kind of entry, where some entry is spelled there
pub number_again : (bytes : List ℕ) (at n : ℕ) → IsBytes bytes → at + 4 ≤ length bytes → take 4 (drop at bytes) ≡ le32 n → le32 (u32_at at bytes) ≡ le32 n
number_again bytes at n fits le is = respelled32 bytes at le fits ∙ is

pub flag_again : (bytes : List ℕ) (at : ℕ) (flag : Bool) → IsBytes bytes → at + 4 ≤ length bytes → take 4 (drop at bytes) ≡ flag_bytes flag → flag_bytes (flag_at at bytes) ≡ flag_bytes flag
unfolding flag_at flag_bytes
flag_again bytes at flag fits le is = ap flag_bytes (read_flag (u32_at at bytes) flag (back32 bytes at (flag_code flag) (code_fits flag) is))

-- a slot is spelled by its state and by any numbers that are spelled as its own
slot_again_by : (slot : Slot) (state line serial : ℕ) → state ≡ state_field slot → le32 line ≡ le32 (line_field slot) → le64 serial ≡ le64 (serial_field slot) → slot_bytes (slot_in_fields state line serial) ≡ slot_bytes slot
unfolding slot_bytes
slot_again_by Free state line serial is l s = rw is refl
slot_again_by (Staged line' serial') state line serial is l s = rw (is, l, s) refl
slot_again_by (Home serial') state line serial is l s = rw (is, s) refl
slot_again_by Spoilt state line serial is l s = rw is refl

pub slot_again : (bytes : List ℕ) (at : ℕ) (slot : Slot) → IsBytes bytes → at + 16 ≤ length bytes → take 16 (drop at bytes) ≡ slot_bytes slot → slot_bytes (slot_entry_at at bytes) ≡ slot_bytes slot
unfolding slot_entry_at slot_bytes le32 le64
slot_again bytes at slot fits le is =
    let state : u32_at at bytes ≡ state_field slot = back32 bytes at (state_field slot) (state_fits slot) (sym (take-take 4 16 (drop at bytes) (lit≤ tt)) ∙ ap (take 4) is) in
    let line : le32 (u32_at (at + 4) bytes) ≡ le32 (line_field slot) =
    respelled32 bytes (at + 4) (omega arith) fits ∙ inside bytes (slot_bytes slot) (le32 (line_field slot)) at 4 16 4 is (lit≤ tt) refl in
    let serial : le64 (u64_at (at + 8) bytes) ≡ le64 (serial_field slot) =
    respelled64 bytes (at + 8) (omega arith) fits ∙ inside bytes (slot_bytes slot) (le64 (serial_field slot)) at 8 16 8 is (lit≤ tt) refl in
    slot_again_by slot (u32_at at bytes) (u32_at (at + 4) bytes) (u64_at (at + 8) bytes) state line serial

-- a run that is spelled at a place is spelled by what is read there
pub run_again :
    {A : Type 0} (spell : A → List ℕ) (read : ℕ → List ℕ → A) (width : ℕ)
    → ((x : A) → length (spell x) ≡ width)
    → ((bytes : List ℕ) (at : ℕ) (x : A) → IsBytes bytes → at + width ≤ length bytes → take width (drop at bytes) ≡ spell x → spell (read at bytes) ≡ spell x)
    → (bytes : List ℕ) (xs : List A) (at : ℕ) → IsBytes bytes → at + width * length xs ≤ length bytes
    → take (width * length xs) (drop at bytes) ≡ run_bytes spell xs → run_bytes spell (run_at read width at (length xs) bytes) ≡ run_bytes spell xs
unfolding run_bytes run_at
run_again spell read width wide again bytes [] at fits le is = refl
run_again {A} spell read width wide again bytes (x ∷ xs) at fits le is =
    let grown = mul-suc width (length xs) in
    let size : width * length (x ∷ xs) ≡ width + width * length xs = omega (arith, grown) in
    let whole : take (width + width * length xs) (drop at bytes) ≡ spell x ++ run_bytes spell xs = ap (λ (k : ℕ). take k (drop at bytes)) (sym size) ∙ is in
    let first : take width (drop at bytes) ≡ spell x =
    sym (take-take width (width + width * length xs) (drop at bytes) (omega arith)) ∙ ap (take width) whole ∙ take_at (spell x) (run_bytes spell xs) width (wide x) in
    let rest : take (width * length xs) (drop (at + width) bytes) ≡ run_bytes spell xs =
    ap (take (width * length xs)) (sym (drop-drop width at bytes)) ∙ sym (drop-take width (width * length xs) (drop at bytes)) ∙ ap (drop width) whole ∙ drop_at (spell x) (run_bytes spell xs) width (wide x) in
    ap (λ (l : List ℕ). l ++ run_bytes spell (run_at read width (at + width) (length xs) bytes)) (again bytes at x fits (omega (arith, size)) first)
    ∙ ap (λ (l : List ℕ). spell x ++ l) (run_again spell read width wide again bytes xs (at + width) fits (omega (arith, size)) rest)

-- a block of some run is spelled by what is read from it
pub block_again :
    {A : Type 0} (spell : A → List ℕ) (read : ℕ → List ℕ → A) (width : ℕ)
    → ((x : A) → length (spell x) ≡ width)
    → ((bytes : List ℕ) (at : ℕ) (x : A) → IsBytes bytes → at + width ≤ length bytes → take width (drop at bytes) ≡ spell x → spell (read at bytes) ≡ spell x)
    → (xs : List A) (bytes : List ℕ) (n from block count : ℕ)
    → IsBytes bytes → length bytes ≡ 4096 → count ≡ min (length xs - from) n
    → width * n ≡ 4096 → width * count ≤ 4096 → width * from ≡ 4096 * block → from ≤ length xs → 4096 * block < width * length xs
    → block_of (in_blocks (run_bytes spell xs)) block ≡ bytes → bytes ≡ plain_page (run_bytes spell (run_at read width 0 count bytes))
block_again {A} spell read width wide again xs bytes n from block count fits long few whole small place low within is =
    let part = take n (drop from xs) in
    let page : bytes ≡ plain_page (run_bytes spell part) = sym is ∙ entry_block spell width wide xs n from block whole place low within in
    let left : length (drop from xs) ≡ length xs - from = length-drop from xs in
    let fewer : count ≡ min n (length (drop from xs)) = omega arith in
    let own : part ≡ take count (drop from xs) = sym (ap (λ (k : ℕ). take k (drop from xs)) fewer ∙ take_min n (drop from xs)) in
    let size : length part ≡ count = ap length own ∙ length-take-le count (drop from xs) (omega arith) in
    let scaled : width * length part ≡ width * count = ap (λ (k : ℕ). width * k) size in
    let front : take (width * length part) bytes ≡ run_bytes spell part = take-plain_page bytes (run_bytes spell part) (width * length part) page (length-run_bytes spell width wide part) in
    page
    ∙ ap plain_page (sym (run_again spell read width wide again bytes part 0 fits (omega (arith, scaled)) front))
    ∙ ap (λ (k : ℕ). plain_page (run_bytes spell (run_at read width 0 k bytes))) size

-- what stands behind the entries of a block that is written over a run, filled up with zeros
tail_same :
    {A : Type 0} (spell : A → List ℕ) (width : ℕ)
    → ((x : A) → length (spell x) ≡ width)
    → (xs ys : List A) (n from block count z : ℕ)
    → length ys ≡ count → count ≡ min (length xs - from) n
    → width * n ≡ 4096 → width * from ≡ 4096 * block → from ≤ length xs → 4096 * block < width * length xs
    → z ≡ 4096 * div_ceil (length (run_bytes spell xs)) 4096 - length (run_bytes spell xs)
    → zeros (4096 - length (run_bytes spell ys)) ++ drop (4096 * block + 4096) (run_bytes spell xs ++ zeros z) ≡ run_bytes spell (drop (from + length ys) xs) ++ zeros z
unfolding run_bytes zeros
tail_same {A} spell width wide xs ys n from block count z size few whole place low within fill =
    let R = run_bytes spell xs in
    let Q = run_bytes spell ys in
    let Y = run_bytes spell (drop from xs) in
    let long : length R ≡ width * length xs = length-run_bytes spell width wide xs in
    let own : length Q ≡ width * length ys = length-run_bytes spell width wide ys in
    let rest : drop (4096 * block) R ≡ Y = ap (λ (k : ℕ). drop k R) (sym place) ∙ drop-run spell width wide xs from low in
    let left : length Y ≡ length R - 4096 * block = ap length (sym rest) ∙ length-drop (4096 * block) R in
    let items : length (drop from xs) ≡ length xs - from = length-drop from xs in
    let as_wide : length Y ≡ width * length (drop from xs) = length-run_bytes spell width wide (drop from xs) in
    elim (cases_lt (length xs - from) n) [
      | inl last ↦
          let same : length ys ≡ length (drop from xs) = omega arith in
          let equal : length Q ≡ length Y = own ∙ ap (λ (k : ℕ). width * k) same ∙ sym as_wide in
          let small : length Q ≤ 4096 = omega (arith, mul-le width (length ys) width n (omega arith) (omega arith)) in
          let gap : 4096 - length Q ≡ z = omega arith in
          let end : length (R ++ zeros z) ≤ 4096 * block + 4096 = omega (arith, length-append R (zeros z), length-zeros z) in
          let none : drop (4096 * block + 4096) (R ++ zeros z) ≡ [] = drop_all (4096 * block + 4096) (R ++ zeros z) end in
          let nothing : drop (from + length ys) xs ≡ [] = drop_all (from + length ys) xs (omega arith) in
          ap (λ (l : List ℕ). zeros (4096 - length Q) ++ l) none ∙ append-nil (zeros (4096 - length Q)) ∙ ap zeros gap ∙ ap (λ (l : List A). run_bytes spell l ++ zeros z) (sym nothing)
      | inr more ↦
          let as_many : length ys ≡ n = omega arith in
          let full : length Q ≡ 4096 = own ∙ ap (λ (k : ℕ). width * k) as_many ∙ whole in
          let gap : 4096 - length Q ≡ 0 = omega arith in
          let room : 4096 ≤ length Y = omega (arith, mul-le width n width (length (drop from xs)) (omega arith) (omega arith)) in
          let behind : drop (4096 * block + 4096) R ≡ run_bytes spell (drop (from + length ys) xs) =
          sym (drop-drop 4096 (4096 * block) R) ∙ ap (drop 4096) rest ∙ ap (λ (k : ℕ). drop k Y) (sym whole) ∙ drop-run spell width wide (drop from xs) n (omega arith)
          ∙ ap (run_bytes spell) (drop-drop n from xs ∙ ap (λ (k : ℕ). drop (from + k) xs) (sym as_many)) in
          ap (λ (k : ℕ). zeros k ++ drop (4096 * block + 4096) (R ++ zeros z)) gap ∙ drop-append-le (4096 * block + 4096) R (zeros z) (omega arith) ∙ ap (λ (l : List ℕ). l ++ zeros z) behind
    ]

-- a block that is read is written over the run
pub block_read :
    {A : Type 0} (spell : A → List ℕ) (width : ℕ)
    → ((x : A) → length (spell x) ≡ width)
    → (xs ys : List A) (bytes : List ℕ) (n from block count : ℕ)
    → length ys ≡ count → count ≡ min (length xs - from) n
    → width * n ≡ 4096 → width * from ≡ 4096 * block → from ≤ length xs → 4096 * block < width * length xs
    → bytes ≡ plain_page (run_bytes spell ys) → in_blocks (run_bytes spell (with_run xs from ys)) ≡ written (in_blocks (run_bytes spell xs)) (4096 * block) bytes
unfolding in_blocks plain_page padded
block_read {A} spell width wide xs ys bytes n from block count size few whole place low within page =
    let R = run_bytes spell xs in
    let Q = run_bytes spell ys in
    let P = run_bytes spell (take from xs) in
    let T = run_bytes spell (drop (from + length ys) xs) in
    let N = run_bytes spell (with_run xs from ys) in
    let z = 4096 * div_ceil (length R) 4096 - length R in
    let long : length R ≡ width * length xs = length-run_bytes spell width wide xs in
    let own : length Q ≡ width * length ys = length-run_bytes spell width wide ys in
    let small : length Q ≤ 4096 = omega (arith, mul-le width (length ys) width n (omega arith) (omega arith)) in
    let paged : length bytes ≡ 4096 = ap length page ∙ length-padded 4096 Q small in
    let parts : N ≡ P ++ (Q ++ T) =
    run_bytes-append spell (take from xs) (ys ++ drop (from + length ys) xs) ∙ ap (λ (l : List ℕ). P ++ l) (run_bytes-append spell ys (drop (from + length ys) xs)) in
    let counted : length (with_run xs from ys) ≡ length xs =
    omega (arith, length-append (take from xs) (ys ++ drop (from + length ys) xs), length-append ys (drop (from + length ys) xs), length-drop (from + length ys) xs, length-take-le from xs low) in
    let same : length N ≡ length R = length-run_bytes spell width wide (with_run xs from ys) ∙ ap (λ (k : ℕ). width * k) counted ∙ sym long in
    let head : take (4096 * block) (R ++ zeros z) ≡ P = take-append-le (4096 * block) R (zeros z) (omega arith) ∙ ap (λ (k : ℕ). take k R) (sym place) ∙ take-run spell width wide xs from in
    let tail = tail_same spell width wide xs ys n from block count z size few whole place low within refl in
    let back : bytes ++ drop (4096 * block + length bytes) (R ++ zeros z) ≡ Q ++ (T ++ zeros z) =
    ap (λ (k : ℕ). bytes ++ drop (4096 * block + k) (R ++ zeros z)) paged ∙ ap (λ (l : List ℕ). l ++ drop (4096 * block + 4096) (R ++ zeros z)) page
    ∙ append_assoc Q (zeros (4096 - length Q)) (drop (4096 * block + 4096) (R ++ zeros z)) ∙ ap (λ (l : List ℕ). Q ++ l) tail in
    ap (λ (k : ℕ). N ++ zeros (4096 * div_ceil k 4096 - k)) same ∙ ap (λ (l : List ℕ). l ++ zeros z) parts ∙ append_assoc P (Q ++ T) (zeros z) ∙ ap (λ (l : List ℕ). P ++ l) (append_assoc Q T (zeros z))
    ∙ sym (ap (λ (l : List ℕ). l ++ (bytes ++ drop (4096 * block + length bytes) (R ++ zeros z))) head ∙ ap (λ (l : List ℕ). P ++ l) back)
