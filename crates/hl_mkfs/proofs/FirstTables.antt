-- The first tables, and the root's inode.
use Rattle.std.proofs.Common.{◌≡◌, ◌≢◌, inr, ℕ, zero, suc, ◌+◌, ◌<◌, ◌≤◌, ◌^◌, true, false, List, [], ◌∷◌, ◌++◌, length, map, replicate, get_or, refl, sym, ◌∙◌, ap, subst, arith, lit<}
use Rattle.std.specs.Prelude.{sum, count_by, slice_index, slice_set}
use Rattle.std.specs.List.{AllByRecursion, range_with_len, slice_index_or}
use Rattle.std.proofs.lemmas.List.{length-set, length-replicate, get_or-set_same, get_or-set_other, get_or-replicate}
use Rattle.std.proofs.lemmas.List.Elements.{All-set, All-replicate}
use Rattle.std.proofs.lemmas.List.FromFn.{map-range_with_len_more}
use Rattle.hl_bytes.specs.declared.block.Block.{Block}
use Rattle.hl_addr.specs.Layout.{Layout, IsWithinLimits, table_blocks, table_blocks_of}
use Rattle.hl_inode.specs.Inodes.{AreNothing, Spells}
use Rattle.hl_tseg.specs.SlotTable.{slot_at}
use Rattle.hl_tseg.specs.Slots.{HasRoom, is_staged}
use Rattle.hl_tseg.specs.declared.slot.Slot.TheVariants.{Free}
use Rattle.hl_tables.specs.Values.{AreTables, SameShape, TableValues, fresh}
use Rattle.hl_tables.specs.TableBlocks.{table_block}
use Rattle.hl_log.specs.Loads.{bytes_of_tables}
use Rattle.hl_log.proofs.Sites.{small_segments}
use Rattle.hl_mkfs.specs.Parts.{first_tables, root_address, root_bytes, root_inode}

pub first_shape : (g : Layout) → SameShape (fresh g) (first_tables g)
unfolding first_tables
first_shape g = record {
  segment_size = refl;
  inodes = length-set (replicate g.inodes 4294967295) 1 (root_address g);
  used = length-set (replicate g.log false) 0 true;
  volumes = refl;
  slots = refl;
  full = refl;
}

pub address_small : (g : Layout) → IsWithinLimits g → root_address g < 2 ^ 32
address_small g is = (let k = small_segments g is in omega arith)

pub first_are_tables : (g : Layout) → IsWithinLimits g → AreTables g (first_tables g)
unfolding first_tables
first_are_tables g is = record {
  shape = first_shape g;
  addresses = All-set (λ a. a < 2 ^ 32) (replicate g.inodes 4294967295) 1 (root_address g) (address_small g is) (All-replicate (λ a. a < 2 ^ 32) g.inodes 4294967295 (lit< tt));
  room = All-replicate HasRoom (sum g.volumes) Free tt;
}

-- they fill the blocks of the site's tables
pub first_count : (g : Layout) → table_blocks_of (length (first_tables g).used) (length (first_tables g).inodes) (sum (first_tables g).slots.volumes) ≡ table_blocks g
unfolding first_tables
first_count g =
    ap (λ (n : ℕ). table_blocks_of n (length (slice_set (replicate g.inodes 4294967295) 1 (root_address g))) (sum g.volumes))
    (length-set (replicate g.log false) 0 true ∙ length-replicate g.log false)
    ∙ ap (λ (n : ℕ). table_blocks_of g.log n (sum g.volumes))
    (length-set (replicate g.inodes 4294967295) 1 (root_address g) ∙ length-replicate g.inodes 4294967295)

-- the root alone is there
pub entry_root : (g : Layout) → 2 ≤ g.inodes → slice_index (first_tables g).inodes 1 ≡ root_address g
unfolding first_tables
entry_root g two = get_or-set_same (replicate g.inodes 4294967295) 1 (root_address g) 0 (subst (λ (n : ℕ). 1 < n) (sym (length-replicate g.inodes 4294967295)) two)

pub entry_none : (g : Layout) (ino : ℕ) → ino < g.inodes → ino ≢ 1 → slice_index (first_tables g).inodes ino ≡ 4294967295
unfolding first_tables
entry_none g ino lt other = get_or-set_other (replicate g.inodes 4294967295) 1 ino (root_address g) 0 other ∙ get_or-replicate g.inodes ino 4294967295 0 lt

-- the first segment is used
pub first_used : (g : Layout) → 1 ≤ g.log → slice_index_or (first_tables g).used 0 false ≡ true
unfolding first_tables
first_used g one = get_or-set_same (replicate g.log false) 0 true false (subst (λ (n : ℕ). 0 < n) (sym (length-replicate g.log false)) one)

free_at : (n k : ℕ) → get_or (replicate n Free) k Free ≡ Free
free_at zero k = refl
free_at (suc n) zero = refl
free_at (suc n) (suc k) = free_at n k

-- all slots are free
pub slot_free : (g : Layout) (n : ℕ) → slot_at (first_tables g).slots n ≡ Free
unfolding first_tables
slot_free g n = free_at (sum g.volumes) n

none_staged : (n : ℕ) → count_by is_staged (replicate n Free) ≡ 0
none_staged zero = refl
none_staged (suc n) = none_staged n

pub no_staged : (g : Layout) → count_by is_staged (first_tables g).slots.slots ≡ 0
unfolding first_tables
no_staged g = none_staged (sum g.volumes)

all_fit : (n : ℕ) → AllByRecursion (λ a. a < 2 ^ 32) (replicate n 4294967295)
all_fit zero = tt
all_fit (suc n) = (lit< tt, all_fit n)

pub all_nothing : AreNothing 0 (replicate 12 4294967295)
all_nothing i lt le = get_or-replicate 12 i 4294967295 0 lt

-- the block of the root's inode
pub root_spelled : Spells root_bytes root_inode
unfolding root_bytes
root_spelled = record {
  value = record {
    ranges = record { number = omega arith; size = omega arith; used = inr refl; direct = all_nothing; single = inr refl };
    room = record { number = lit< tt; used = lit< tt; count = refl; direct = all_fit 12; single = lit< tt };
  };
  bytes = refl;
}

-- one block of the tables more
pub table_more : (t : TableValues) (blocks next : List Block) (n : ℕ) (block : Block)
    → bytes_of_tables blocks ≡ map (table_block t) (range_with_len 0 n) → block.bytes ≡ table_block t n → next ≡ blocks ++ block ∷ []
    → bytes_of_tables next ≡ map (table_block t) (range_with_len 0 (n + 1))
table_more t blocks next n block so_far bytes is =
    ap bytes_of_tables is ∙ pushed blocks
    ∙ ap (λ (bs : List (List ℕ)). bs ++ block.bytes ∷ []) so_far
    ∙ ap (λ (b : List ℕ). map (table_block t) (range_with_len 0 n) ++ b ∷ []) bytes
    ∙ sym (map-range_with_len_more (table_block t) 0 n n (omega arith))
  where
    pushed : (bs : List Block) → bytes_of_tables (bs ++ block ∷ []) ≡ bytes_of_tables bs ++ block.bytes ∷ []
    pushed [] = refl
    pushed (b ∷ bs) = ap (λ (xs : List (List ℕ)). b.bytes ∷ xs) (pushed bs)
