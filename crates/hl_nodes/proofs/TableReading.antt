-- Tables that are read from their blocks.
use Rattle.std.proofs.Common.{◌≡◌, ⊎_elim, ℕ, zero, suc, ◌+◌, ◌-◌, ◌*◌, ◌/◌, ◌%◌, ◌<◌, ◌≤◌, ◌^◌, ◌==◌, if◌then◌else◌, min, Bool, true, false, List, [], ◌∷◌, ◌++◌, length, get_or, sum, take, drop, map, refl, sym, ap, ◌∙◌, subst, arith, lit<, length-drop, length-take}
use Rattle.std.specs.Int.{div_ceil}
use Rattle.std.specs.List.{range_with_len}
use Rattle.std.specs.Prelude.{All}
use Rattle.std.proofs.lemmas.Bool.{cases_lt}
use Rattle.std.proofs.lemmas.Nat.{div-mul-add, mod-mul-add, mul-le}
use Rattle.std.proofs.lemmas.List.{same_lists, get_or-take, get_or-drop, get_or_append_left, get_or-append_right, get_or-replicate, get_or_past, length-replicate}
use Rattle.std.proofs.lemmas.List.FromFn.{length-map-range_with_len, get_or-map-range_with_len}
use Rattle.std.proofs.Math.ListN.{replicate}
use Rattle.hl_addr.specs.Layout.{Layout, IsWithinLimits, table_blocks, table_blocks_of}
use Rattle.hl_bytes.specs.Fields.{le32, le64, u32_at, u64_at, zeros}
use Rattle.hl_bytes.specs.Runs.{run_bytes, run_at}
use Rattle.hl_bytes.specs.Pages.{padded, plain_page}
use Rattle.hl_bytes.specs.Buffers.{block_of}
use Rattle.hl_bytes.proofs.Places.{IsBytes}
use Rattle.hl_bytes.proofs.PageLemmas.{length-padded}
use Rattle.hl_bytes.proofs.RunLemmas.{length-run_bytes, length-run_at, get_or-run_at, length-le32, u32_fits, u64_fits}
use Rattle.hl_tseg.specs.declared.slot.Slot.{Slot}
use Rattle.hl_tseg.specs.declared.slot.Slot.TheVariants.{Free, Staged, Home, Spoilt}
use Rattle.hl_tables.specs.Values.{TableValues, SameShape, AreTables, fresh}
use Rattle.hl_tables.specs.Entries.{flag_code, flag_bytes, flag_at, state_field, line_field, serial_field, slot_bytes, slot_in_fields, slot_entry_at}
use Rattle.hl_tseg.specs.Slots.{HasRoom}
use Rattle.hl_tables.specs.TableBlocks.{IsTableBlock, in_blocks, inode_blocks, used_blocks, slot_blocks, table_block}
use Rattle.hl_tables.proofs.EntryLemmas.{length-flag_bytes, length-slot_bytes}
use Rattle.hl_tables.proofs.EntryBlocks.{entry_block}
use Rattle.hl_tables.proofs.ReadBlocks.{block_again, number_again, flag_again, slot_again}
use Rattle.hl_tables.proofs.BlockPlaces.{inode_place, used_place, slot_place, full_place}
use Rattle.hl_nodes.specs.Tables.{SpellTables}
use Rattle.hl_image.specs.Places.{InLog}
use Rattle.hl_media.specs.History.{Image}
use Rattle.std.specs.Prelude.{slice_index}
use Rattle.hl_nodes.proofs.Deciding.{Decided, alike, same_bytes}

-- what is spelled are bytes
bytes-append : (xs ys : List ℕ) → IsBytes xs → IsBytes ys → IsBytes (xs ++ ys)
bytes-append xs ys one two i = ⊎_elim
    (λ lt. subst (λ (n : ℕ). n < 256) (sym (get_or_append_left xs ys 0 i lt)) (one i))
    (λ ge. subst (λ (n : ℕ). n < 256) (sym (get_or-append_right xs ys (length xs) i 0 refl ge)) (two (i - length xs)))
    (cases_lt i (length xs))

bytes-zeros : (n : ℕ) → IsBytes (zeros n)
unfolding zeros
bytes-zeros n i = ⊎_elim
    (λ lt. subst (λ (k : ℕ). k < 256) (sym (get_or-replicate n i 0 0 lt)) (lit< tt))
    (λ ge. subst (λ (k : ℕ). k < 256) (sym (get_or_past (replicate n 0) i 0 (omega (arith, length-replicate n (let z : ℕ = 0 in z))))) (lit< tt))
    (cases_lt i n)

bytes-le32 : (n : ℕ) → IsBytes (le32 n)
unfolding le32
bytes-le32 n zero = omega arith
bytes-le32 n (suc zero) = omega arith
bytes-le32 n (suc (suc zero)) = omega arith
bytes-le32 n (suc (suc (suc zero))) = omega arith
bytes-le32 n (suc (suc (suc (suc i)))) = lit< tt

bytes-le64 : (n : ℕ) → IsBytes (le64 n)
unfolding le64
bytes-le64 n zero = omega arith
bytes-le64 n (suc zero) = omega arith
bytes-le64 n (suc (suc zero)) = omega arith
bytes-le64 n (suc (suc (suc zero))) = omega arith
bytes-le64 n (suc (suc (suc (suc zero)))) = omega arith
bytes-le64 n (suc (suc (suc (suc (suc zero))))) = omega arith
bytes-le64 n (suc (suc (suc (suc (suc (suc zero)))))) = omega arith
bytes-le64 n (suc (suc (suc (suc (suc (suc (suc zero))))))) = omega arith
bytes-le64 n (suc (suc (suc (suc (suc (suc (suc (suc i)))))))) = lit< tt

bytes-flag : (flag : Bool) → IsBytes (flag_bytes flag)
unfolding flag_bytes
bytes-flag flag = bytes-le32 (flag_code flag)

bytes-slot : (slot : Slot) → IsBytes (slot_bytes slot)
unfolding slot_bytes
bytes-slot slot = bytes-append (le32 (state_field slot) ++ le32 (line_field slot)) (le64 (serial_field slot)) (bytes-append (le32 (state_field slot)) (le32 (line_field slot)) (bytes-le32 (state_field slot)) (bytes-le32 (line_field slot))) (bytes-le64 (serial_field slot))

-- each item that a list has from a function is one of which this holds
all_made : {A : Type 0} (P : A → Type 0) (f : ℕ → A) (n : ℕ) → ((j : ℕ) → j < n → P (f j)) → All P (map f (range_with_len 0 n))
all_made P f n each k d lt =
    let low : k < n = omega (arith, length-map-range_with_len f 0 n) in
    subst P (sym (get_or-map-range_with_len f 0 n k k d low (omega arith))) (each k low)

-- the slot of fields that fit has room
pub by_fields : (state line serial : ℕ) → line < 2 ^ 32 → serial < 2 ^ 64 → HasRoom (slot_in_fields state line serial)
by_fields state line serial low small = by_state (state == 1) (state == 2) (state == 3)
  where
    by_state : (one two three : Bool) → HasRoom (if one then Staged line serial else (if two then Home serial else (if three then Spoilt else Free)))
    by_state true two three = (low, small)
    by_state false true three = small
    by_state false false true = tt
    by_state false false false = tt

-- entries of one width, of which n fill a block
module _ {A : Type 0} (spell : A → List ℕ) (read : ℕ → List ℕ → A) (width n : ℕ) (wide : (x : A) → length (spell x) ≡ width)
    (again : (bytes : List ℕ) (at : ℕ) (x : A) → IsBytes bytes → at + width ≤ length bytes → take width (drop at bytes) ≡ spell x → spell (read at bytes) ≡ spell x)
    (are_bytes : (x : A) → IsBytes (spell x)) (whole : width * n ≡ 4096) where
  -- the entries that stand in blocks
  pub entries_in : ℕ → (ℕ → List ℕ) → List A
  entries_in len blocks = map (λ j. read (width * (j % n)) (blocks (j / n))) (range_with_len 0 len)

  pub length-entries : (len : ℕ) (blocks : ℕ → List ℕ) → length (entries_in len blocks) ≡ len
  unfolding entries_in
  length-entries len blocks = length-map-range_with_len (λ j. read (width * (j % n)) (blocks (j / n))) 0 len

  get-entries : (len : ℕ) (blocks : ℕ → List ℕ) (block k j : ℕ) (d : A) → j ≡ block * n + k → k < n → j < len → get_or (entries_in len blocks) j d ≡ read (width * k) (blocks block)
  unfolding entries_in
  get-entries len blocks block k j d is low lt =
      let place : j / n ≡ block = ap (λ (x : ℕ). x / n) is ∙ div-mul-add block n k low in
      let rest : j % n ≡ k = ap (λ (x : ℕ). x % n) is ∙ mod-mul-add block n k low in
      get_or-map-range_with_len (λ i. read (width * (i % n)) (blocks (i / n))) 0 len j j d lt (omega arith)
      ∙ ap (λ (x : ℕ). read (width * x) (blocks (j / n))) rest ∙ ap (λ (x : ℕ). read (width * k) (blocks x)) place

  pub bytes-run : (xs : List A) → IsBytes (run_bytes spell xs)
  unfolding run_bytes
  bytes-run [] = λ i. lit< tt
  bytes-run (x ∷ xs) = bytes-append (spell x) (run_bytes spell xs) (are_bytes x) (bytes-run xs)

  bytes-page : (xs : List A) → IsBytes (plain_page (run_bytes spell xs))
  unfolding plain_page padded
  bytes-page xs = bytes-append (run_bytes spell xs) (zeros (4096 - length (run_bytes spell xs))) (bytes-run xs) (bytes-zeros (4096 - length (run_bytes spell xs)))

  length-page : (xs : List A) → length xs ≤ n → length (plain_page (run_bytes spell xs)) ≡ 4096
  unfolding plain_page
  length-page xs few = length-padded 4096 (run_bytes spell xs) (omega (arith, length-run_bytes spell width wide xs, mul-le width (length xs) width n (omega arith) few))

  module _ (len : ℕ) (blocks : ℕ → List ℕ) (block : ℕ) (place : width * (block * n) ≡ 4096 * block) (low : block * n < len) (within : 4096 * block < width * len) where
    abbrev count : ℕ
    count = min (len - block * n) n

    -- the entries of a block are those that are read from it
    same : take n (drop (block * n) (entries_in len blocks)) ≡ run_at read width 0 count (blocks block)
    same = same_lists (take n (drop (block * n) (entries_in len blocks))) (run_at read width 0 count (blocks block))
        (omega (arith, length-take n (drop (block * n) (entries_in len blocks)), length-drop (block * n) (entries_in len blocks), length-entries len blocks, length-run_at read width 0 count (blocks block)))
        (λ k d lt.
        let small : k < count = omega (arith, length-take n (drop (block * n) (entries_in len blocks)), length-drop (block * n) (entries_in len blocks), length-entries len blocks) in
        let zero_first : 0 + width * k ≡ width * k = omega arith in
        get_or-take n (drop (block * n) (entries_in len blocks)) k d (omega arith) ∙ get_or-drop (block * n) (entries_in len blocks) k d
        ∙ get-entries len blocks block k (block * n + k) d refl (omega arith) (omega arith)
        ∙ sym (get_or-run_at read width 0 count (blocks block) k d small ∙ ap (λ (x : ℕ). read x (blocks block)) zero_first))

    module _ (xs : List A) (size : length xs ≡ len) (is : block_of (in_blocks (run_bytes spell xs)) block ≡ blocks block) where
      page : blocks block ≡ plain_page (run_bytes spell (take n (drop (block * n) xs)))
      page = sym is ∙ entry_block spell width wide xs n (block * n) block whole place (omega arith) (subst (λ (l : ℕ). 4096 * block < width * l) (sym size) within)

      few : length (take n (drop (block * n) xs)) ≤ n
      few = omega (arith, length-take n (drop (block * n) xs))

      pub fit : IsBytes (blocks block)
      fit = subst IsBytes (sym page) (bytes-page (take n (drop (block * n) xs)))

      -- a block of some entries is that of the entries that are read
      pub entries_again : block_of (in_blocks (run_bytes spell (entries_in len blocks))) block ≡ blocks block
      entries_again =
          entry_block spell width wide (entries_in len blocks) n (block * n) block whole place (omega (arith, length-entries len blocks)) (subst (λ (l : ℕ). 4096 * block < width * l) (sym (length-entries len blocks)) within)
          ∙ ap (λ (l : List A). plain_page (run_bytes spell l)) same
          ∙ sym (block_again spell read width wide again xs (blocks block) n (block * n) block count fit (ap length page ∙ length-page (take n (drop (block * n) xs)) few)
          (omega arith) whole (omega (arith, mul-le width count width n (omega arith) (omega arith))) place (omega arith) (subst (λ (l : ℕ). 4096 * block < width * l) (sym size) within) is)

-- the tables that stand in blocks
numbers_in : ℕ → (ℕ → List ℕ) → List ℕ
numbers_in = entries_in le32 u32_at 4 1024 length-le32 number_again bytes-le32 refl

flags_in : ℕ → (ℕ → List ℕ) → List Bool
flags_in = entries_in flag_bytes flag_at 4 1024 length-flag_bytes flag_again bytes-flag refl

slots_in : ℕ → (ℕ → List ℕ) → List Slot
slots_in = entries_in slot_bytes slot_entry_at 16 256 length-slot_bytes slot_again bytes-slot refl

module _ (g : Layout) (limits : IsWithinLimits g) where
  abbrev numbers_end : ℕ
  numbers_end = div_ceil (4 * g.inodes) 4096

  abbrev flags_end : ℕ
  flags_end = numbers_end + div_ceil (4 * g.log) 4096

  abbrev slots_end : ℕ
  slots_end = flags_end + div_ceil (16 * sum g.volumes) 4096

  tables_in : (ℕ → List ℕ) → TableValues
  tables_in blocks = record {
    k = g.k;
    inodes = numbers_in g.inodes blocks;
    used = flags_in g.log (λ j. blocks (numbers_end + j));
    slots = record { volumes = g.volumes; slots = slots_in (sum g.volumes) (λ j. blocks (flags_end + j)); full = flags_in (length g.volumes) (λ j. blocks (slots_end + j)) };
  }

  length-numbers : (blocks : ℕ → List ℕ) → length (tables_in blocks).inodes ≡ g.inodes
  unfolding tables_in numbers_in
  length-numbers blocks = length-entries le32 u32_at 4 1024 length-le32 number_again bytes-le32 refl g.inodes blocks

  length-flags : (blocks : ℕ → List ℕ) → length (tables_in blocks).used ≡ g.log
  unfolding tables_in flags_in
  length-flags blocks = length-entries flag_bytes flag_at 4 1024 length-flag_bytes flag_again bytes-flag refl g.log (λ j. blocks (numbers_end + j))

  length-slots : (blocks : ℕ → List ℕ) → length (tables_in blocks).slots.slots ≡ sum g.volumes
  unfolding tables_in slots_in
  length-slots blocks = length-entries slot_bytes slot_entry_at 16 256 length-slot_bytes slot_again bytes-slot refl (sum g.volumes) (λ j. blocks (flags_end + j))

  length-full : (blocks : ℕ → List ℕ) → length (tables_in blocks).slots.full ≡ length g.volumes
  unfolding tables_in flags_in
  length-full blocks = length-entries flag_bytes flag_at 4 1024 length-flag_bytes flag_again bytes-flag refl (length g.volumes) (λ j. blocks (slots_end + j))

  -- they have the site's shape
  shape : (blocks : ℕ → List ℕ) → SameShape (fresh g) (tables_in blocks)
  unfolding tables_in
  shape blocks = record {
    segment_size = refl;
    inodes = length-numbers blocks ∙ sym (length-replicate g.inodes 4294967295);
    used = length-flags blocks ∙ sym (length-replicate g.log false);
    volumes = refl;
    slots = length-slots blocks ∙ sym (length-replicate (sum g.volumes) Free);
    full = length-full blocks ∙ sym (length-replicate (length g.volumes) false);
  }

  -- what a block of some tables says
  module _ (blocks : ℕ → List ℕ) (i : ℕ) (lt : i < table_blocks g) (is : IsTableBlock (fresh g) i (blocks i)) where
    inodes_are : length is.values.inodes ≡ g.inodes
    inodes_are = is.shape.inodes ∙ length-replicate g.inodes 4294967295

    used_are : length is.values.used ≡ g.log
    used_are = is.shape.used ∙ length-replicate g.log false

    slots_are : length is.values.slots.slots ≡ sum g.volumes
    slots_are = is.shape.slots ∙ length-replicate (sum g.volumes) Free

    full_are : length is.values.slots.full ≡ length g.volumes
    full_are = is.shape.full ∙ length-replicate (length g.volumes) false

    in_inodes : inode_blocks is.values ≡ numbers_end
    in_inodes = ap (λ (n : ℕ). div_ceil (4 * n) 4096) inodes_are

    in_used : used_blocks is.values ≡ div_ceil (4 * g.log) 4096
    in_used = ap (λ (n : ℕ). div_ceil (4 * n) 4096) used_are

    in_slots : slot_blocks is.values ≡ div_ceil (16 * sum g.volumes) 4096
    in_slots = ap (λ (n : ℕ). div_ceil (16 * n) 4096) slots_are

    own_inodes : inode_blocks (tables_in blocks) ≡ numbers_end
    own_inodes = ap (λ (n : ℕ). div_ceil (4 * n) 4096) (length-numbers blocks)

    own_used : used_blocks (tables_in blocks) ≡ div_ceil (4 * g.log) 4096
    own_used = ap (λ (n : ℕ). div_ceil (4 * n) 4096) (length-flags blocks)

    own_slots : slot_blocks (tables_in blocks) ≡ div_ceil (16 * sum g.volumes) 4096
    own_slots = ap (λ (n : ℕ). div_ceil (16 * n) 4096) (length-slots blocks)

    -- The block is read, and its bytes are bytes.
    abbrev IsRead : Type 0
    IsRead = (table_block (tables_in blocks) i ≡ blocks i) × IsBytes (blocks i)

    by_numbers : i < numbers_end → IsRead
    unfolding tables_in numbers_in
    by_numbers low =
        let place : 4 * (i * 1024) ≡ 4096 * i = omega arith in
        let first : i * 1024 < g.inodes = omega arith in
        let inside : 4096 * i < 4 * g.inodes = omega arith in
        let there = inode_place is.values i (omega (arith, in_inodes)) ∙ is.block in (
          sym (inode_place (tables_in blocks) i (omega (arith, own_inodes)))
              ∙ entries_again le32 u32_at 4 1024 length-le32 number_again bytes-le32 refl g.inodes blocks i place first inside is.values.inodes inodes_are there,
          fit le32 u32_at 4 1024 length-le32 number_again bytes-le32 refl g.inodes blocks i place first inside is.values.inodes inodes_are there,
        )

    by_flags : (j : ℕ) → i ≡ numbers_end + j → j < div_ceil (4 * g.log) 4096 → IsRead
    unfolding tables_in flags_in
    by_flags j at low =
        let place : 4 * (j * 1024) ≡ 4096 * j = omega arith in
        let first : j * 1024 < g.log = omega arith in
        let inside : 4096 * j < 4 * g.log = omega arith in
        let there = used_place is.values i j (omega (arith, in_inodes)) (omega (arith, in_used)) ∙ is.block ∙ ap blocks at in (
          sym (used_place (tables_in blocks) i j (omega (arith, own_inodes)) (omega (arith, own_used)))
              ∙ entries_again flag_bytes flag_at 4 1024 length-flag_bytes flag_again bytes-flag refl g.log (λ n. blocks (numbers_end + n)) j place first inside is.values.used used_are there ∙ ap blocks (sym at),
          subst IsBytes (ap blocks (sym at)) (fit flag_bytes flag_at 4 1024 length-flag_bytes flag_again bytes-flag refl g.log (λ n. blocks (numbers_end + n)) j place first inside is.values.used used_are there),
        )

    by_slots : (j : ℕ) → i ≡ flags_end + j → j < div_ceil (16 * sum g.volumes) 4096 → IsRead
    unfolding tables_in slots_in
    by_slots j at low =
        let place : 16 * (j * 256) ≡ 4096 * j = omega arith in
        let first : j * 256 < sum g.volumes = omega arith in
        let inside : 4096 * j < 16 * sum g.volumes = omega arith in
        let there = slot_place is.values i j (omega (arith, in_inodes, in_used)) (omega (arith, in_slots)) ∙ is.block ∙ ap blocks at in (
          sym (slot_place (tables_in blocks) i j (omega (arith, own_inodes, own_used)) (omega (arith, own_slots)))
              ∙ entries_again slot_bytes slot_entry_at 16 256 length-slot_bytes slot_again bytes-slot refl (sum g.volumes) (λ n. blocks (flags_end + n)) j place first inside is.values.slots.slots slots_are there ∙ ap blocks (sym at),
          subst IsBytes (ap blocks (sym at)) (fit slot_bytes slot_entry_at 16 256 length-slot_bytes slot_again bytes-slot refl (sum g.volumes) (λ n. blocks (flags_end + n)) j place first inside is.values.slots.slots slots_are there),
        )

    by_full : i ≡ slots_end + 0 → IsRead
    unfolding tables_in flags_in
    by_full at =
        let some = limits.volume_count.0 in
        let place : 4 * (0 * 1024) ≡ 4096 * 0 = refl in
        let first : 0 * 1024 < length g.volumes = omega arith in
        let inside : 4096 * 0 < 4 * length g.volumes = omega arith in
        let there = full_place is.values i 0 (omega (arith, in_inodes, in_used, in_slots)) ∙ is.block ∙ ap blocks at in (
          sym (full_place (tables_in blocks) i 0 (omega (arith, own_inodes, own_used, own_slots)))
              ∙ entries_again flag_bytes flag_at 4 1024 length-flag_bytes flag_again bytes-flag refl (length g.volumes) (λ n. blocks (slots_end + n)) 0 place first inside is.values.slots.full full_are there ∙ ap blocks (sym at),
          subst IsBytes (ap blocks (sym at)) (fit flag_bytes flag_at 4 1024 length-flag_bytes flag_again bytes-flag refl (length g.volumes) (λ n. blocks (slots_end + n)) 0 place first inside is.values.slots.full full_are there),
        )

    table_read : IsRead
    unfolding table_blocks_of
    table_read = ⊎_elim by_numbers
        (λ a. ⊎_elim (λ b. by_flags (i - numbers_end) (omega arith) (omega arith))
        (λ b. ⊎_elim (λ d. by_slots (i - flags_end) (omega arith) (omega arith)) (λ d. by_full (omega arith)) (cases_lt i slots_end)) (cases_lt i flags_end)) (cases_lt i numbers_end)

  -- whether some tables of the site have the block
  pub table_or_not : (i : ℕ) (bytes : List ℕ) → i < table_blocks g → Decided (IsTableBlock (fresh g) i bytes)
  table_or_not i bytes lt = alike
      (λ e. record { values = tables_in (λ j. bytes); shape = shape (λ j. bytes); block = e })
      (λ is. (table_read (λ j. bytes) i lt is).0)
      (same_bytes (table_block (tables_in (λ j. bytes)) i) bytes)

  module _ (blocks : ℕ → List ℕ) (are : (i : ℕ) → i < table_blocks g → IsTableBlock (fresh g) i (blocks i)) where
    bytes_at : (i : ℕ) → i < slots_end + 1 → IsBytes (blocks i)
    unfolding table_blocks_of
    bytes_at i lt = (table_read blocks i lt (are i lt)).1

    slot_fits : (at : ℕ) (bytes : List ℕ) → IsBytes bytes → HasRoom (slot_entry_at at bytes)
    unfolding slot_entry_at
    slot_fits at bytes fits = by_fields (u32_at at bytes) (u32_at (at + 4) bytes) (u64_at (at + 8) bytes) (u32_fits bytes (at + 4) fits) (u64_fits bytes (at + 8) fits)

    tables_fit : AreTables g (tables_in blocks)
    unfolding tables_in numbers_in slots_in entries_in
    tables_fit = record {
      shape = shape blocks;
      addresses = all_made (λ address. address < 2 ^ 32) (λ j. u32_at (4 * (j % 1024)) (blocks (j / 1024))) g.inodes (λ j lt. u32_fits (blocks (j / 1024)) (4 * (j % 1024)) (bytes_at (j / 1024) (omega arith)));
      room = all_made HasRoom (λ j. slot_entry_at (16 * (j % 256)) (blocks (flags_end + j / 256))) (sum g.volumes)
          (λ j lt. slot_fits (16 * (j % 256)) (blocks (flags_end + j / 256)) (bytes_at (flags_end + j / 256) (omega arith)));
    }

  -- blocks of which each is one of some tables are those of one value
  pub spelled_tables : (image : Image) (addresses : List ℕ) → ((i : ℕ) → i < length addresses → InLog g (slice_index addresses i))
      → ((i : ℕ) → i < table_blocks g → IsTableBlock (fresh g) i (image (slice_index addresses i))) → (t : TableValues) × SpellTables g image addresses t
  spelled_tables image addresses in_log are = (
    tables_in (λ i. image (slice_index addresses i)),
    record {
      values = tables_fit (λ i. image (slice_index addresses i)) are;
      in_log = in_log;
      blocks = λ i lt. sym (table_read (λ j. image (slice_index addresses j)) i lt (are i lt)).0;
    },
  )
