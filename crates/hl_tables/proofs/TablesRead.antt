-- One block of the tables that is written over.
use Rattle.std.proofs.Common.{◌≡◌, ◌↔◌, ℕ, ◌+◌, ◌*◌, ◌<◌, ◌≤◌, Bool, true, List, ◌++◌, length, take, drop, IsTrue, refl, sym, ap, ◌∙◌, arith, append_assoc, length-append}
use Rattle.std.specs.Int.{div_ceil}
use Rattle.std.proofs.Math.Seq.{take-append-add}
use Rattle.std.proofs.lemmas.List.{take_at, take-append-le, drop-append-le, drop-drop, drop_at}
use Rattle.hl_bytes.specs.Fields.{written}
use Rattle.hl_bytes.specs.Buffers.{block_of}
use Rattle.hl_bytes.proofs.RunLemmas.{part-written}
use Rattle.hl_tables.specs.Values.{TableValues, SameShape}
use Rattle.hl_tables.specs.TableBlocks.{inode_part, used_part, slot_part, full_part, tables_bytes, table_block, inode_blocks, used_blocks, slot_blocks, IsTableBlock}
use Rattle.hl_tables.proofs.BlockPlaces.{length-inode_part, length-two, length-three}

-- a write within the first of two lists, and within the second
written_left : (xs ys p : List ℕ) (at : ℕ) → at + length p ≤ length xs → written xs at p ++ ys ≡ written (xs ++ ys) at p
written_left xs ys p at le =
    let low : at ≤ length xs = omega arith in
    let front : take at (xs ++ ys) ≡ take at xs = take-append-le at xs ys low in
    let back : drop (at + length p) (xs ++ ys) ≡ drop (at + length p) xs ++ ys = drop-append-le (at + length p) xs ys le in
    append_assoc (take at xs) (p ++ drop (at + length p) xs) ys ∙ ap (λ (l : List ℕ). take at xs ++ l) (append_assoc p (drop (at + length p) xs) ys)
    ∙ sym (ap (λ (l : List ℕ). l ++ (p ++ drop (at + length p) (xs ++ ys))) front ∙ ap (λ (l : List ℕ). take at xs ++ (p ++ l)) back)

written_right : (xs ys p : List ℕ) (at m : ℕ) → m ≡ length xs + at → xs ++ written ys at p ≡ written (xs ++ ys) m p
written_right xs ys p at m is =
    let front : take m (xs ++ ys) ≡ xs ++ take at ys = ap (λ (k : ℕ). take k (xs ++ ys)) is ∙ take-append-add xs ys at in
    let e : m + length p ≡ length xs + (at + length p) = omega arith in
    let back : drop (m + length p) (xs ++ ys) ≡ drop (at + length p) ys =
    ap (λ (k : ℕ). drop k (xs ++ ys)) e ∙ sym (drop-drop (at + length p) (length xs) (xs ++ ys)) ∙ ap (drop (at + length p)) (drop_at xs ys (length xs) (omega arith)) in
    sym (append_assoc xs (take at ys) (p ++ drop (at + length p) ys))
    ∙ sym (ap (λ (l : List ℕ). l ++ (p ++ drop (m + length p) (xs ++ ys))) front ∙ ap (λ (l : List ℕ). (xs ++ take at ys) ++ (p ++ l)) back)

-- lists that are the same, one after the other
same_parts : (a a' b b' c c' d d' : List ℕ) → a ≡ a' → b ≡ b' → c ≡ c' → d ≡ d' → ((a ++ b) ++ c) ++ d ≡ ((a' ++ b') ++ c') ++ d'
same_parts a a' b b' c c' d d' p q r s = rw (p, q, r, s) refl

-- what is read into one of the tables is written into that block of all
pub inode_read : (old new : TableValues) (i : ℕ) (bytes : List ℕ) → length bytes ≡ 4096 → i < inode_blocks old → new ≡ record old { inodes = new.inodes } → inode_part new ≡ written (inode_part old) (4096 * i) bytes
    → tables_bytes new ≡ written (tables_bytes old) (4096 * i) bytes
unfolding tables_bytes
inode_read old new i bytes size lt only is =
    let A = inode_part old in
    let B = used_part old in
    let C = slot_part old in
    let D = full_part old in
    let within : 4096 * i + length bytes ≤ length A = omega (arith, length-inode_part old) in
    same_parts (inode_part new) (written A (4096 * i) bytes) (used_part new) B (slot_part new) C (full_part new) D is (ap used_part only) (ap slot_part only) (ap full_part only)
    ∙ ap (λ (l : List ℕ). (l ++ C) ++ D) (written_left A B bytes (4096 * i) within)
    ∙ ap (λ (l : List ℕ). l ++ D) (written_left (A ++ B) C bytes (4096 * i) (omega (arith, length-append A B)))
    ∙ written_left (A ++ B ++ C) D bytes (4096 * i) (omega (arith, length-append A B, length-append (A ++ B) C))

pub used_read : (old new : TableValues) (i j : ℕ) (bytes : List ℕ) → length bytes ≡ 4096 → i ≡ inode_blocks old + j → j < used_blocks old → new ≡ record old { used = new.used } → used_part new ≡ written (used_part old) (4096 * j) bytes
    → tables_bytes new ≡ written (tables_bytes old) (4096 * i) bytes
unfolding tables_bytes
used_read old new i j bytes size place lt only is =
    let A = inode_part old in
    let B = used_part old in
    let C = slot_part old in
    let D = full_part old in
    let within : 4096 * i + length bytes ≤ length (A ++ B) = omega (arith, length-two old) in
    same_parts (inode_part new) A (used_part new) (written B (4096 * j) bytes) (slot_part new) C (full_part new) D (ap inode_part only) is (ap slot_part only) (ap full_part only)
    ∙ ap (λ (l : List ℕ). (l ++ C) ++ D) (written_right A B bytes (4096 * j) (4096 * i) (omega (arith, length-inode_part old)))
    ∙ ap (λ (l : List ℕ). l ++ D) (written_left (A ++ B) C bytes (4096 * i) within)
    ∙ written_left (A ++ B ++ C) D bytes (4096 * i) (omega (arith, length-append (A ++ B) C))

pub slot_read : (old new : TableValues) (i j : ℕ) (bytes : List ℕ) → length bytes ≡ 4096 → i ≡ inode_blocks old + used_blocks old + j → j < slot_blocks old
    → new ≡ record old { slots = record old.slots { slots = new.slots.slots } } → slot_part new ≡ written (slot_part old) (4096 * j) bytes
    → tables_bytes new ≡ written (tables_bytes old) (4096 * i) bytes
unfolding tables_bytes
slot_read old new i j bytes size place lt only is =
    let A = inode_part old in
    let B = used_part old in
    let C = slot_part old in
    let D = full_part old in
    let within : 4096 * i + length bytes ≤ length (A ++ B ++ C) = omega (arith, length-three old) in
    same_parts (inode_part new) A (used_part new) B (slot_part new) (written C (4096 * j) bytes) (full_part new) D (ap inode_part only) (ap used_part only) is (ap full_part only)
    ∙ ap (λ (l : List ℕ). l ++ D) (written_right (A ++ B) C bytes (4096 * j) (4096 * i) (omega (arith, length-two old)))
    ∙ written_left (A ++ B ++ C) D bytes (4096 * i) within

pub full_read : (old new : TableValues) (i : ℕ) (bytes : List ℕ) → i ≡ inode_blocks old + used_blocks old + slot_blocks old
    → new ≡ record old { slots = record old.slots { full = new.slots.full } } → full_part new ≡ written (full_part old) (4096 * 0) bytes
    → tables_bytes new ≡ written (tables_bytes old) (4096 * i) bytes
unfolding tables_bytes
full_read old new i bytes place only is =
    let A = inode_part old in
    let B = used_part old in
    let C = slot_part old in
    let D = full_part old in
    same_parts (inode_part new) A (used_part new) B (slot_part new) C (full_part new) (written D (4096 * 0) bytes) (ap inode_part only) (ap used_part only) (ap slot_part only) is
    ∙ written_right (A ++ B ++ C) D bytes (4096 * 0) (4096 * i) (omega (arith, length-three old))

-- what stays of the tables
pub inode_shape : (old new : TableValues) → new ≡ record old { inodes = new.inodes } → length new.inodes ≡ length old.inodes → SameShape old new
inode_shape old new only count =
    record {
      segment_size = ap (λ (t : TableValues). t.k) only;
      inodes = count;
      used = ap (λ (t : TableValues). length t.used) only;
      volumes = ap (λ (t : TableValues). t.slots.volumes) only;
      slots = ap (λ (t : TableValues). length t.slots.slots) only;
      full = ap (λ (t : TableValues). length t.slots.full) only;
    }

pub used_shape : (old new : TableValues) → new ≡ record old { used = new.used } → length new.used ≡ length old.used → SameShape old new
used_shape old new only count =
    record {
      segment_size = ap (λ (t : TableValues). t.k) only;
      inodes = ap (λ (t : TableValues). length t.inodes) only;
      used = count;
      volumes = ap (λ (t : TableValues). t.slots.volumes) only;
      slots = ap (λ (t : TableValues). length t.slots.slots) only;
      full = ap (λ (t : TableValues). length t.slots.full) only;
    }

pub slot_shape : (old new : TableValues) → new ≡ record old { slots = record old.slots { slots = new.slots.slots } } → length new.slots.slots ≡ length old.slots.slots → SameShape old new
slot_shape old new only count =
    record {
      segment_size = ap (λ (t : TableValues). t.k) only;
      inodes = ap (λ (t : TableValues). length t.inodes) only;
      used = ap (λ (t : TableValues). length t.used) only;
      volumes = ap (λ (t : TableValues). t.slots.volumes) only;
      slots = count;
      full = ap (λ (t : TableValues). length t.slots.full) only;
    }

pub full_shape : (old new : TableValues) → new ≡ record old { slots = record old.slots { full = new.slots.full } } → length new.slots.full ≡ length old.slots.full → SameShape old new
full_shape old new only count =
    record {
      segment_size = ap (λ (t : TableValues). t.k) only;
      inodes = ap (λ (t : TableValues). length t.inodes) only;
      used = ap (λ (t : TableValues). length t.used) only;
      volumes = ap (λ (t : TableValues). t.slots.volumes) only;
      slots = ap (λ (t : TableValues). length t.slots.slots) only;
      full = count;
    }

-- tables of one site have as many blocks of each kind
pub inodes_as_many : (old new : TableValues) → SameShape old new → inode_blocks new ≡ inode_blocks old
inodes_as_many old new shape = ap (λ (n : ℕ). div_ceil (4 * n) 4096) shape.inodes

pub used_as_many : (old new : TableValues) → SameShape old new → used_blocks new ≡ used_blocks old
used_as_many old new shape = ap (λ (n : ℕ). div_ceil (4 * n) 4096) shape.used

pub slots_as_many : (old new : TableValues) → SameShape old new → slot_blocks new ≡ slot_blocks old
slots_as_many old new shape = ap (λ (n : ℕ). div_ceil (16 * n) 4096) shape.slots

-- a block that was written stands there
there : (old new : TableValues) (i : ℕ) (bytes : List ℕ) → length bytes ≡ 4096 → i ≤ inode_blocks old + used_blocks old + slot_blocks old → tables_bytes new ≡ written (tables_bytes old) (4096 * i) bytes → table_block new i ≡ bytes
unfolding table_block tables_bytes block_of
there old new i bytes size le is =
    let low : 4096 * i ≤ length (tables_bytes old) = omega (arith, length-three old, length-append (inode_part old ++ used_part old ++ slot_part old) (full_part old)) in
    ap (λ (l : List ℕ). take 4096 (drop (4096 * i) l)) is ∙ part-written (tables_bytes old) bytes (4096 * i) 4096 low size

-- a block is read exactly where some tables of the site have it
pub grammar_by : (old new : TableValues) (i : ℕ) (bytes : List ℕ) (r : Bool) → length bytes ≡ 4096 → i ≤ inode_blocks old + used_blocks old + slot_blocks old → SameShape old new
    → (IsTrue r → tables_bytes new ≡ written (tables_bytes old) (4096 * i) bytes)
    → ((v : TableValues) → SameShape old v → table_block v i ≡ bytes → r ≡ true)
    → IsTrue r ↔ IsTableBlock old i bytes
grammar_by old new i bytes r size le shape read owes = (λ t. record { values = new; shape = shape; block = there old new i bytes size le (read t) }, λ b. owes b.values b.shape b.block)

-- a vector that was written whole has what was written
pub items_written : (ns items : List ℕ) (n : ℕ) → length ns ≡ n → take n (ns ++ drop (length ns) items) ≡ ns
items_written ns items n size = take_at ns (drop (length ns) items) n size
