-- The blocks of a file's bytes.
use Rattle.std.proofs.Common.{arith, ◌≡◌, ℕ, ◌+◌, ◌-◌, ◌*◌, ◌/◌, ◌%◌, ◌<◌, ◌≤◌, List, ◌++◌, length, drop, get_or, ◌∙◌, sym, length-append}
use Rattle.std.proofs.lemmas.Grind.{same_number_lists}
use Rattle.std.proofs.lemmas.List.{get_or-drop, get_or_append_left, get_or-append_right}
use Rattle.std.proofs.lemmas.List.FromFn.{length-map-range_with_len, get_or-map-range_with_len}
use Rattle.hl_tree.specs.Contents.{resized, written}
use Rattle.hl_tree.proofs.Contents.{length-resized}
use Rattle.hl_tree_laws.proofs.Contents.{get_or-resized}
use Rattle.hl_placed.specs.Blocks.{PlacedFile, IsPlacedFile, Shelf, byte_of, file_block, listed, plain_bytes, padded_block}
use Rattle.hl_placed.proofs.Changes.{get_or-plain_bytes}

-- byte k of block i
pub get_or-padded_block : (bytes : List ℕ) (i k : ℕ) → k < 4096 → get_or (padded_block bytes i) k 0 ≡ get_or bytes (4096 * i + k) 0
unfolding padded_block
get_or-padded_block bytes i k h = get_or-resized (drop (4096 * i) bytes) 4096 k h ∙ get_or-drop (4096 * i) bytes k 0

pub length-padded_block : (bytes : List ℕ) (i : ℕ) → length (padded_block bytes i) ≡ 4096
unfolding padded_block
length-padded_block bytes i = length-resized (drop (4096 * i) bytes) 4096

pub quotient : (i k : ℕ) → k < 4096 → (4096 * i + k) / 4096 ≡ i
quotient i k h = omega arith

pub rest : (i k : ℕ) → k < 4096 → (4096 * i + k) % 4096 ≡ k
rest i k h = omega arith

-- byte k of block i of a file's bytes is that of its block i
pub byte_of-plain_bytes : (shelf : Shelf) (file : PlacedFile) (i k : ℕ) → IsPlacedFile shelf file → k < 4096 → get_or (padded_block (plain_bytes shelf file) i) k 0 ≡ byte_of shelf (file_block file i) k
byte_of-plain_bytes shelf file i k is h =
    get_or-padded_block (plain_bytes shelf file) i k h
    ∙ get_or-plain_bytes shelf file is (4096 * i + k)
    ∙ (λ n. byte_of shelf (file_block file (quotient i k h n)) (rest i k h n))

-- block i of a file's bytes is its block i
pub padded_block-plain_bytes : (shelf : Shelf) (file : PlacedFile) (i : ℕ) → IsPlacedFile shelf file → padded_block (plain_bytes shelf file) i ≡ listed 4096 (byte_of shelf (file_block file i))
padded_block-plain_bytes shelf file i is =
    let one = length-padded_block (plain_bytes shelf file) i in
    let two = length-map-range_with_len (byte_of shelf (file_block file i)) 0 4096 in
    same_number_lists (padded_block (plain_bytes shelf file) i) (listed 4096 (byte_of shelf (file_block file i))) (one ∙ sym two) (λ k h.
    let less : k < 4096 = omega arith in
    byte_of-plain_bytes shelf file i k is less
    ∙ sym (get_or-map-range_with_len (byte_of shelf (file_block file i)) 0 4096 k k 0 less (omega arith)))

-- where a write's own bytes stand
pub written_inside : (old : List ℕ) (at : ℕ) (bytes : List ℕ) (j : ℕ) → at ≤ j → j < at + length bytes → get_or (written old at bytes) j 0 ≡ get_or bytes (j - at) 0
unfolding written
written_inside old at bytes j h k =
    let long = length-resized old at in
    let both = length-append (resized old at) bytes in
    get_or_append_left (resized old at ++ bytes) (drop (at + length bytes) old) 0 j (omega arith)
    ∙ get_or-append_right (resized old at) bytes at j 0 long h
