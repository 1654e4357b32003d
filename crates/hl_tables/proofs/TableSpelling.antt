-- The blocks of the tables spell one value.
use Rattle.std.proofs.Common.{◌≡◌, ℕ, zero, suc, ◌+◌, ◌*◌, ◌<◌, ◌≤◌, ◌^◌, Bool, false, List, [], ◌∷◌, ◌++◌, length, sum, take, drop, All, refl, sym, ◌∙◌, ap, arith, lit≤, lit<, length-drop}
use Rattle.std.specs.Int.{div_ceil}
use Rattle.std.specs.List.{AllByRecursion}
use Rattle.std.proofs.lemmas.List.{take_all, take-take, take-append-drop, drop-drop, length-replicate}
use Rattle.std.proofs.lemmas.List.Elements.{recursion_from_All}
use Rattle.hl_addr.specs.Layout.{Layout, IsWithinLimits, table_blocks, table_blocks_of}
use Rattle.hl_bytes.specs.Fields.{le32, le64, u32_at, u64_at}
use Rattle.hl_bytes.specs.Runs.{run_bytes, run_at}
use Rattle.hl_bytes.specs.Buffers.{block_of}
use Rattle.hl_bytes.proofs.Places.{back32, back64}
use Rattle.hl_bytes.proofs.Decoding.{inside}
use Rattle.hl_bytes.proofs.PageLemmas.{take-padded}
use Rattle.hl_bytes.proofs.RunLemmas.{length-run_bytes, length-le32, read_written}
use Rattle.hl_tseg.specs.Slots.{HasRoom}
use Rattle.hl_tseg.specs.declared.slot.Slot.{Slot}
use Rattle.hl_tseg.specs.declared.slot.Slot.TheVariants.{Free, Staged, Home, Spoilt}
use Rattle.hl_tseg.specs.SlotTable.{IsSlotTable}
use Rattle.hl_tables.specs.Values.{TableValues, SameShape, AreTables, fresh}
use Rattle.hl_tables.specs.Values as tables
use Rattle.hl_tables.specs.Entries.{flag_code, flag_bytes, flag_at, state_field, line_field, serial_field, slot_bytes, slot_in_fields, slot_entry_at}
use Rattle.hl_tables.specs.TableBlocks.{in_blocks, inode_blocks, used_blocks, slot_blocks, table_block}
use Rattle.hl_tables.proofs.EntryLemmas.{length-flag_bytes, length-slot_bytes, code_fits, read_flag, state_fits}
use Rattle.hl_tables.proofs.EntryBlocks.{length-in_blocks}
use Rattle.hl_tables.proofs.BlockPlaces.{inode_place, used_place, slot_place, full_place}

no_bytes : (xs ys : List ℕ) → length xs ≡ 0 → length ys ≡ 0 → xs ≡ ys
no_bytes [] [] e f = refl
no_bytes [] (y ∷ ys) e f = absurd (omega arith)
no_bytes (x ∷ xs) ys e f = absurd (omega arith)

-- whole blocks are the bytes of each block
blocks_decide : (n : ℕ) (xs ys : List ℕ) → length xs ≡ 4096 * n → length ys ≡ 4096 * n → ((i : ℕ) → i < n → block_of xs i ≡ block_of ys i) → xs ≡ ys
unfolding block_of
blocks_decide zero xs ys e f same = no_bytes xs ys (omega arith) (omega arith)
blocks_decide (suc n) xs ys e f same =
    let later : drop 4096 xs ≡ drop 4096 ys =
    blocks_decide n (drop 4096 xs) (drop 4096 ys) (omega (arith, length-drop 4096 xs)) (omega (arith, length-drop 4096 ys))
    (λ i lt.
    let at : 4096 + 4096 * i ≡ 4096 * suc i = omega arith in
    ap (take 4096) (drop-drop (4096 * i) 4096 xs ∙ ap (λ (k : ℕ). drop k xs) at) ∙ same (suc i) (omega arith) ∙ sym (ap (take 4096) (drop-drop (4096 * i) 4096 ys ∙ ap (λ (k : ℕ). drop k ys) at))) in
    sym (take-append-drop 4096 xs) ∙ ap (λ (l : List ℕ). l ++ drop 4096 xs) (same 0 (omega arith)) ∙ ap (λ (l : List ℕ). take 4096 ys ++ l) later ∙ take-append-drop 4096 ys

-- entries in whole blocks are one list
entries_decide : {A : Type 0} (spell : A → List ℕ) (read : ℕ → List ℕ → A) (width : ℕ) (Fits : A → Type 0) → ((x : A) → length (spell x) ≡ width)
    → ((bytes : List ℕ) (at : ℕ) (x : A) → Fits x → take width (drop at bytes) ≡ spell x → read at bytes ≡ x)
    → (xs ys : List A) → length xs ≡ length ys → AllByRecursion Fits xs → AllByRecursion Fits ys
    → (n : ℕ) → n ≡ div_ceil (width * length xs) 4096 → ((i : ℕ) → i < n → block_of (in_blocks (run_bytes spell xs)) i ≡ block_of (in_blocks (run_bytes spell ys)) i) → xs ≡ ys
unfolding in_blocks
entries_decide {A} spell read width Fits wide back xs ys size fits fits' n n_is same =
    let own : length (run_bytes spell xs) ≡ width * length xs = length-run_bytes spell width wide xs in
    let other : length (run_bytes spell ys) ≡ width * length xs = length-run_bytes spell width wide ys ∙ ap (λ (k : ℕ). width * k) (sym size) in
    let e : length (in_blocks (run_bytes spell xs)) ≡ 4096 * n = length-in_blocks (run_bytes spell xs) (width * length xs) own ∙ ap (λ (k : ℕ). 4096 * k) (sym n_is) in
    let f : length (in_blocks (run_bytes spell ys)) ≡ 4096 * n = length-in_blocks (run_bytes spell ys) (width * length xs) other ∙ ap (λ (k : ℕ). 4096 * k) (sym n_is) in
    let whole : in_blocks (run_bytes spell xs) ≡ in_blocks (run_bytes spell ys) = blocks_decide n (in_blocks (run_bytes spell xs)) (in_blocks (run_bytes spell ys)) e f same in
    let bytes : run_bytes spell xs ≡ run_bytes spell ys =
    sym (take-padded (4096 * div_ceil (length (run_bytes spell xs)) 4096) (run_bytes spell xs) (width * length xs) own) ∙ ap (take (width * length xs)) whole
    ∙ take-padded (4096 * div_ceil (length (run_bytes spell ys)) 4096) (run_bytes spell ys) (width * length xs) other in
    sym (read_written spell read width Fits wide back (run_bytes spell xs) xs 0 fits (take_all (width * length xs) (run_bytes spell xs) (omega arith)))
    ∙ ap (λ (l : List ℕ). run_at read width 0 (length xs) l) bytes ∙ ap (λ (k : ℕ). run_at read width 0 k (run_bytes spell ys)) size
    ∙ read_written spell read width Fits wide back (run_bytes spell ys) ys 0 fits' (take_all (width * length ys) (run_bytes spell ys) (omega (arith, length-run_bytes spell width wide ys)))

-- each kind of entry is read as it was spelled
back_flag : (bytes : List ℕ) (at : ℕ) (flag : Bool) → Unit {0} → take 4 (drop at bytes) ≡ flag_bytes flag → flag_at at bytes ≡ flag
unfolding flag_at flag_bytes
back_flag bytes at flag any is = read_flag (u32_at at bytes) flag (back32 bytes at (flag_code flag) (code_fits flag) is)

all_flags : (flags : List Bool) → AllByRecursion (λ flag. Unit {0}) flags
all_flags [] = tt
all_flags (flag ∷ flags) = (tt, all_flags flags)

slot_is : (slot : Slot) (state line serial : ℕ) → state ≡ state_field slot → line ≡ line_field slot → serial ≡ serial_field slot → slot_in_fields state line serial ≡ slot
slot_is Free state line serial is l s = rw is refl
slot_is (Staged line' serial') state line serial is l s = rw (is, l, s) refl
slot_is (Home serial') state line serial is l s = rw (is, s) refl
slot_is Spoilt state line serial is l s = rw is refl

line_fits : (slot : Slot) → HasRoom slot → line_field slot < 2 ^ 32
line_fits Free room = lit< tt
line_fits (Staged line serial) room = room.0
line_fits (Home serial) room = lit< tt
line_fits Spoilt room = lit< tt

serial_fits : (slot : Slot) → HasRoom slot → serial_field slot < 2 ^ 64
serial_fits Free room = lit< tt
serial_fits (Staged line serial) room = room.1
serial_fits (Home serial) room = room
serial_fits Spoilt room = lit< tt

back_slot : (bytes : List ℕ) (at : ℕ) (slot : Slot) → HasRoom slot → take 16 (drop at bytes) ≡ slot_bytes slot → slot_entry_at at bytes ≡ slot
unfolding slot_entry_at slot_bytes le32 le64
back_slot bytes at slot room is =
    slot_is slot (u32_at at bytes) (u32_at (at + 4) bytes) (u64_at (at + 8) bytes)
    (back32 bytes at (state_field slot) (state_fits slot) (sym (take-take 4 16 (drop at bytes) (lit≤ tt)) ∙ ap (take 4) is))
    (back32 bytes (at + 4) (line_field slot) (line_fits slot room) (inside bytes (slot_bytes slot) (le32 (line_field slot)) at 4 16 4 is (lit≤ tt) refl))
    (back64 bytes (at + 8) (serial_field slot) (serial_fits slot room) (inside bytes (slot_bytes slot) (le64 (serial_field slot)) at 8 16 8 is (lit≤ tt) refl))

-- tables are their parts
same_tables : (v w : TableValues) → v.k ≡ w.k → v.inodes ≡ w.inodes → v.used ≡ w.used → v.slots.volumes ≡ w.slots.volumes → v.slots.slots ≡ w.slots.slots → v.slots.full ≡ w.slots.full → v ≡ w
same_tables v w k inodes used volumes slots full =
    ap (λ (x : ℕ). record { k = x; inodes = v.inodes; used = v.used; slots = v.slots }) k
    ∙ ap (λ (x : List ℕ). record { k = w.k; inodes = x; used = v.used; slots = v.slots }) inodes
    ∙ ap (λ (x : List Bool). record { k = w.k; inodes = w.inodes; used = x; slots = v.slots }) used
    ∙ ap (λ (x : List ℕ). record { k = w.k; inodes = w.inodes; used = w.used; slots = record { volumes = x; slots = v.slots.slots; full = v.slots.full } }) volumes
    ∙ ap (λ (x : List Slot). record { k = w.k; inodes = w.inodes; used = w.used; slots = record { volumes = w.slots.volumes; slots = x; full = v.slots.full } }) slots
    ∙ ap (λ (x : List Bool). record { k = w.k; inodes = w.inodes; used = w.used; slots = record { volumes = w.slots.volumes; slots = w.slots.slots; full = x } }) full

-- tables of one site with the same blocks are one
pub same_blocks : (v w : TableValues) → SameShape v w → All (λ address. address < 2 ^ 32) v.inodes → All (λ address. address < 2 ^ 32) w.inodes → All HasRoom v.slots.slots → All HasRoom w.slots.slots
    → 1 ≤ length v.slots.full → length v.slots.full ≤ 32
    → ((i : ℕ) → i < inode_blocks v + used_blocks v + slot_blocks v + 1 → table_block v i ≡ table_block w i) → v ≡ w
same_blocks v w shape a b p q few most same =
    let i_w : inode_blocks w ≡ inode_blocks v = ap (λ (n : ℕ). div_ceil (4 * n) 4096) shape.inodes in
    let u_w : used_blocks w ≡ used_blocks v = ap (λ (n : ℕ). div_ceil (4 * n) 4096) shape.used in
    let s_w : slot_blocks w ≡ slot_blocks v = ap (λ (n : ℕ). div_ceil (16 * n) 4096) shape.slots in
    let fits : List ℕ → Type 0 = λ ns. AllByRecursion (λ address. address < 2 ^ 32) ns in
    let one : 1 ≡ div_ceil (4 * length v.slots.full) 4096 = omega arith in
    same_tables v w (sym shape.segment_size)
    (entries_decide le32 u32_at 4 (λ address. address < 2 ^ 32) length-le32 (λ bytes at x fits is. back32 bytes at x fits is) v.inodes w.inodes (sym shape.inodes)
    (recursion_from_All (λ address. address < 2 ^ 32) v.inodes a) (recursion_from_All (λ address. address < 2 ^ 32) w.inodes b) (inode_blocks v) refl
    (λ i lt. inode_place v i lt ∙ same i (omega arith) ∙ sym (inode_place w i (omega arith))))
    (entries_decide flag_bytes flag_at 4 (λ flag. Unit {0}) length-flag_bytes back_flag v.used w.used (sym shape.used) (all_flags v.used) (all_flags w.used) (used_blocks v) refl
    (λ i lt. used_place v (inode_blocks v + i) i refl lt ∙ same (inode_blocks v + i) (omega arith) ∙ sym (used_place w (inode_blocks v + i) i (omega arith) (omega arith))))
    (sym shape.volumes)
    (entries_decide slot_bytes slot_entry_at 16 HasRoom length-slot_bytes back_slot v.slots.slots w.slots.slots (sym shape.slots) (recursion_from_All HasRoom v.slots.slots p) (recursion_from_All HasRoom w.slots.slots q) (slot_blocks v) refl
    (λ i lt. slot_place v (inode_blocks v + used_blocks v + i) i refl lt ∙ same (inode_blocks v + used_blocks v + i) (omega arith) ∙ sym (slot_place w (inode_blocks v + used_blocks v + i) i (omega arith) (omega arith))))
    (entries_decide flag_bytes flag_at 4 (λ flag. Unit {0}) length-flag_bytes back_flag v.slots.full w.slots.full (sym shape.full) (all_flags v.slots.full) (all_flags w.slots.full) 1 one
    (λ i lt. full_place v (inode_blocks v + used_blocks v + slot_blocks v + i) i refl ∙ same (inode_blocks v + used_blocks v + slot_blocks v + i) (omega arith)
    ∙ sym (full_place w (inode_blocks v + used_blocks v + slot_blocks v + i) i (omega arith))))

-- the tables of a site are decided by their blocks
pub tables_decide : (g : Layout) → IsWithinLimits g → (v w : TableValues) → AreTables g v → AreTables g w → ((i : ℕ) → i < table_blocks g → table_block v i ≡ table_block w i) → v ≡ w
unfolding table_blocks_of
tables_decide g limits v w a b same =
    let shape : SameShape v w = record {
      segment_size = b.shape.segment_size ∙ sym a.shape.segment_size;
      inodes = b.shape.inodes ∙ sym a.shape.inodes;
      used = b.shape.used ∙ sym a.shape.used;
      volumes = b.shape.volumes ∙ sym a.shape.volumes;
      slots = b.shape.slots ∙ sym a.shape.slots;
      full = b.shape.full ∙ sym a.shape.full;
    } in
    let inodes : inode_blocks v ≡ div_ceil (4 * g.inodes) 4096 = ap (λ (n : ℕ). div_ceil (4 * n) 4096) (a.shape.inodes ∙ length-replicate g.inodes 4294967295) in
    let used : used_blocks v ≡ div_ceil (4 * g.log) 4096 = ap (λ (n : ℕ). div_ceil (4 * n) 4096) (a.shape.used ∙ length-replicate g.log false) in
    let slots : slot_blocks v ≡ div_ceil (16 * sum g.volumes) 4096 = ap (λ (n : ℕ). div_ceil (16 * n) 4096) (a.shape.slots ∙ length-replicate (sum g.volumes) Free) in
    let full : length v.slots.full ≡ length g.volumes = a.shape.full ∙ length-replicate (length g.volumes) false in
    let few = limits.volume_count.0 in
    let most = limits.volume_count.1 in
    same_blocks v w shape a.addresses b.addresses a.room b.room (omega arith) (omega arith)
    (λ i lt. same i (below i (omega arith)))
  where
    below : (i : ℕ) → i < div_ceil (4 * g.inodes) 4096 + div_ceil (4 * g.log) 4096 + div_ceil (16 * sum g.volumes) 4096 + 1 → i < table_blocks g
    below i lt = lt

-- the tables of a site, as a writer of their blocks has them
pub are_tables : (g : Layout) (t : TableValues) → SameShape (fresh g) t → tables.IsWithinLimits t → IsSlotTable t.slots → AreTables g t
are_tables g t shape limits slots = record { shape = shape; addresses = limits.addresses; room = slots.room }
