-- The blocks of a directory that are put.
use Rattle.std.proofs.Common.{arith, ◌≡◌, ℕ, ◌+◌, ◌-◌, ◌*◌, ◌/◌, ◌<◌, ◌≤◌, List, length, get_or, take, drop, inl, inr, Some, ◌∙◌, ap, sym, subst, length-drop}
use Rattle.std.specs.Prelude.{slice_index, slice_set, if◌then◌else◌}
use Rattle.std.specs.Int.{div_ceil}
use Rattle.std.proofs.lemmas.Bool.{cases_lt}
use Rattle.std.proofs.lemmas.Grind.{same_number_lists}
use Rattle.std.proofs.lemmas.List.{get_or-drop, get_or-set_other, get_or-take, get_or_past, length-take, length-take-le}
use Rattle.hl_placed.specs.Blocks.{Here, blocks_of, padded_block}
use Rattle.hl_placed.proofs.Blocks.{get_or-padded_block, length-padded_block}
use Rattle.hl_overlaid.specs.NodesNow.{old_block, with_node}
use Rattle.hl_overlaid.specs.Changes.{KeepsOtherUses}
use Rattle.hl_store.specs.Values.{StoreValue, nodes_of}
use Rattle.hl_ranges.specs.Directories.{PutsDirectory, directory_node, directory_shape}
use Rattle.hl_ranges.specs.Writing.{patched}
use Rattle.hl_ranges.proofs.PatchedNodes.{below, block_put, inside, listed_same, of_blocks}
use Rattle.hl_ranges.proofs.PutSteps.{PutSoFar}
use Rattle.hl_ranges.proofs.DirectoryReads.{directory_block}
use Rattle.hl_ranges.proofs.WrittenBlocks.{behind_part, in_part, part_long}
use borrow.Rule.Slice.PartMut.{put_mid}

-- A WHOLE BLOCK of some bytes
pub whole_block : (bytes : List ℕ) (i start n : ℕ) → start ≡ 4096 * i → n ≡ 4096 → start + 4096 ≤ length bytes → take n (drop start bytes) ≡ padded_block bytes i
whole_block bytes i start n start_is n_is fits =
    let rest = length-drop start bytes in
    let there : n ≤ length (drop start bytes) = omega arith in
    let long : length (take n (drop start bytes)) ≡ n = length-take-le n (drop start bytes) there in
    let size = length-padded_block bytes i in
    same_number_lists (take n (drop start bytes)) (padded_block bytes i) (long ∙ n_is ∙ sym size) (λ k h.
    let low : k < n = omega arith in
    let few : k < 4096 = omega arith in
    get_or-take n (drop start bytes) k 0 low
    ∙ get_or-drop start bytes k 0
    ∙ ap (λ m. get_or bytes (m + k) 0) start_is
    ∙ sym (get_or-padded_block bytes i k few))

-- THE LAST BLOCK of some bytes, filled up with zeros
pub last_block : (bytes zeros ys : List ℕ) (i start n : ℕ) → start ≡ 4096 * i → start < length bytes → length bytes ≤ start + 4096 → n ≡ length bytes - start → length zeros ≡ 4096 → ((k : ℕ) → k < 4096 → get_or zeros k 0 ≡ 0)
    → ys ≡ take n (drop start bytes) → put_mid 0 n zeros ys ≡ padded_block bytes i
last_block bytes zeros ys i start n start_is begins ends n_is long are ys_is =
    let rest = length-drop start bytes in
    let there : n ≤ length (drop start bytes) = omega arith in
    let own : length ys ≡ n = ap length ys_is ∙ length-take-le n (drop start bytes) there in
    let low : 0 ≤ length zeros = omega arith in
    let fits : 0 + n ≤ length zeros = omega arith in
    let size = part_long 0 n zeros ys low own fits in
    let block_size = length-padded_block bytes i in
    same_number_lists (put_mid 0 n zeros ys) (padded_block bytes i) (size ∙ long ∙ sym block_size) (λ k h.
    let few : k < 4096 = omega arith in
    elim (cases_lt k n) as (λ _. get_or (put_mid 0 n zeros ys) k 0 ≡ get_or (padded_block bytes i) k 0) [
      | inl under ↦
          let from : 0 ≤ k = omega arith in
          let to : k < 0 + length ys = omega arith in
          let at : k - 0 < n = omega arith in
          let place : start + (k - 0) ≡ 4096 * i + k = omega arith in
          in_part 0 n zeros ys low k from to
          ∙ ap (λ (b : List ℕ). get_or b (k - 0) 0) ys_is
          ∙ get_or-take n (drop start bytes) (k - 0) 0 at
          ∙ get_or-drop start bytes (k - 0) 0
          ∙ ap (λ m. get_or bytes m 0) place
          ∙ sym (get_or-padded_block bytes i k few)
      | inr past ↦
          let from : 0 + n ≤ k = omega arith in
          let out : length bytes ≤ 4096 * i + k = omega arith in
          behind_part 0 n zeros ys low own k from
          ∙ are k few
          ∙ sym (get_or_past bytes (4096 * i + k) 0 out)
          ∙ sym (get_or-padded_block bytes i k few)
    ])

-- bytes that are the same up to one have the same blocks before it
same_block : (was bytes : List ℕ) (from j : ℕ) → take from was ≡ take from bytes → 4096 * j + 4096 ≤ from → padded_block was j ≡ padded_block bytes j
same_block was bytes from j same le =
    let one = length-padded_block was j in
    let two = length-padded_block bytes j in
    same_number_lists (padded_block was j) (padded_block bytes j) (one ∙ sym two) (λ k h.
    let few : k < 4096 = omega arith in
    let low : 4096 * j + k < from = omega arith in
    get_or-padded_block was j k few
    ∙ sym (get_or-take from was (4096 * j + k) 0 low)
    ∙ ap (λ (xs : List ℕ). get_or xs (4096 * j + k) 0) same
    ∙ get_or-take from bytes (4096 * j + k) 0 low
    ∙ sym (get_or-padded_block bytes j k few))

-- and as many reach up to it
as_long : (was bytes : List ℕ) (from : ℕ) → take from was ≡ take from bytes → from ≤ length bytes → from ≤ length was
as_long was bytes from same le =
    let one = length-take from was in
    let two = length-take from bytes in
    let both = ap length same in
    omega arith

-- a block before so many bytes is one of them
in_size : (size from j : ℕ) → 4096 * j + 4096 ≤ from → from ≤ size → j < blocks_of size
unfolding blocks_of
in_size size from j low le = omega arith

-- A DIRECTORY OF OTHER BYTES is one with the blocks put from where they differ on
directory_patched : (was bytes : List ℕ) (from : ℕ) → from ≤ length bytes → take from was ≡ take from bytes
    → patched (directory_shape (length bytes)) 0 (from / 4096) (blocks_of (length bytes)) (padded_block bytes) (Some (directory_node was)) ≡ directory_node bytes
unfolding patched directory_node
directory_patched was bytes from le same =
    let end = blocks_of (length bytes) in
    let old = Some (directory_node was) in
    ap (of_blocks (directory_shape (length bytes)) 0) (listed_same (block_put (from / 4096) end (padded_block bytes) old) (λ j. Here (padded_block bytes j)) end (λ j lt.
    elim (cases_lt j (from / 4096)) as (λ _. block_put (from / 4096) end (padded_block bytes) old j ≡ Here (padded_block bytes j)) [
      | inl before ↦
          let low : 4096 * j + 4096 ≤ from = omega arith in
          ap (λ b. if b then Here (padded_block bytes j) else old_block old j) (below (from / 4096) end j before)
          ∙ directory_block was j (in_size (length was) from j low (as_long was bytes from same le))
          ∙ ap Here (same_block was bytes from j same low)
      | inr put ↦ ap (λ b. if b then Here (padded_block bytes j) else old_block old j) (inside (from / 4096) end j put lt)
    ]))

-- so many blocks are all of a size
pub all_blocks : (size end : ℕ) → end ≡ div_ceil size 4096 → end ≡ blocks_of size
unfolding blocks_of
all_blocks size end is = is

-- there is room for each from one on
pub enough : (from size end room : ℕ) → end ≡ div_ceil size 4096 → blocks_of size ≤ room + from / 4096 → end ≤ room + from / 4096
enough from size end room is most = subst (λ n. n ≤ room + from / 4096) (sym (all_blocks size end is)) most

-- what was used of others
others_used : (old new : List ℕ) (ino now : ℕ) → new ≡ slice_set old ino now → KeepsOtherUses old new ino
others_used old new ino now is q ne = ap (λ us. slice_index us q) is ∙ get_or-set_other old ino q now 0 ne

-- ALL ITS BLOCKS ARE PUT
pub directory_put : {M : Type 0} (old new : StoreValue M) (ino from end : ℕ) (bytes : List ℕ) → from ≤ length bytes → end ≡ blocks_of (length bytes)
    → PutSoFar old new ino (directory_shape (length bytes)) 0 (from / 4096) end (padded_block bytes) → PutsDirectory old new ino from bytes
directory_put old new ino from end bytes le end_is run = record {
  beside = run.made.beside;
  over = λ c s lies. run.made.over c s lies tt;
  nodes = λ c s lies was at same.
      run.made.nodes c s lies
      ∙ ap (λ x. with_node (nodes_of old c) ino (Some (patched (directory_shape (length bytes)) 0 (from / 4096) end (padded_block bytes) x))) at
      ∙ ap (λ e. with_node (nodes_of old c) ino (Some (patched (directory_shape (length bytes)) 0 (from / 4096) e (padded_block bytes) (Some (directory_node was))))) end_is
      ∙ ap (λ n. with_node (nodes_of old c) ino (Some n)) (directory_patched was bytes from le same);
  uses = others_used old.uses new.uses ino 0 run.uses;
  used = run.used;
  own = run.drafted;
  shapes = run.others;
  room = ap (λ n. new.overlay.room + n) (sym end_is) ∙ run.room;
}
