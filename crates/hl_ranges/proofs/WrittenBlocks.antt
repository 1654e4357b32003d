-- The blocks of a file's bytes that a write and a cut change.
use Rattle.std.proofs.Common.{arith, ◌≡◌, ℕ, ◌+◌, ◌-◌, ◌*◌, ◌/◌, ◌%◌, ◌<◌, ◌≤◌, List, ◌++◌, length, take, drop, get_or, max, min, inl, inr, ◌∙◌, ap, sym, length-append}
use Rattle.std.proofs.lemmas.Bool.{cases_lt}
use Rattle.std.proofs.lemmas.Grind.{same_number_lists}
use Rattle.std.proofs.lemmas.List.{get_or-take, get_or-drop, get_or_append_left, get_or-append_right, get_or_past, length-take, length-drop}
use Rattle.hl_tree.specs.Contents.{resized, written}
use Rattle.hl_tree.proofs.Contents.{length-resized}
use Rattle.hl_tree_laws.proofs.Contents.{get_or-resized, written_before, written_behind}
use Rattle.hl_placed.specs.Blocks.{IsPlacedFile, PlacedFile, Shelf, byte_of, file_block, padded_block, plain_bytes}
use Rattle.hl_placed.proofs.Blocks.{byte_of-plain_bytes, get_or-padded_block, length-padded_block, written_inside}
use borrow.Rule.Slice.PartMut.{put_mid}

-- THE BYTES of a list with a part put in
module _ (a k : ℕ) (xs ys : List ℕ) (le : a ≤ length xs) where
  front_long : length (take a xs) ≡ a
  front_long = simp length-take (omega arith)

  pub before_part : (j : ℕ) → j < a → get_or (put_mid a k xs ys) j 0 ≡ get_or xs j 0
  before_part j lt = get_or_append_left (take a xs) (ys ++ drop k (drop a xs)) 0 j (let e = front_long in omega arith) ∙ get_or-take a xs j 0 lt

  pub in_part : (j : ℕ) → a ≤ j → j < a + length ys → get_or (put_mid a k xs ys) j 0 ≡ get_or ys (j - a) 0
  in_part j low high = get_or-append_right (take a xs) (ys ++ drop k (drop a xs)) a j 0 front_long low ∙ get_or_append_left ys (drop k (drop a xs)) 0 (j - a) (omega arith)

  pub behind_part : length ys ≡ k → (j : ℕ) → a + k ≤ j → get_or (put_mid a k xs ys) j 0 ≡ get_or xs j 0
  behind_part long j low =
      let after : a ≤ j = omega arith in
      let more : k ≤ j - a = omega arith in
      let back : a + (k + (j - a - k)) ≡ j = omega arith in
      get_or-append_right (take a xs) (ys ++ drop k (drop a xs)) a j 0 front_long after
      ∙ get_or-append_right ys (drop k (drop a xs)) k (j - a) 0 long more
      ∙ get_or-drop k (drop a xs) (j - a - k) 0
      ∙ get_or-drop a xs (k + (j - a - k)) 0
      ∙ ap (λ n. get_or xs n 0) back

  pub part_long : length ys ≡ k → a + k ≤ length xs → length (put_mid a k xs ys) ≡ length xs
  part_long long fits = simp (length-append, length-take, length-drop) (omega arith)

-- A PART PUT INTO A BLOCK makes it that of the bytes written
module _ (i at a n : ℕ) (bytes before ys old : List ℕ) (begins : at < 4096 * i + 4096) (ends : 4096 * i < at + length bytes) (a_is : a + 4096 * i ≡ max at (4096 * i)) (n_is : a + n + 4096 * i ≡ min (at + length bytes) (4096 * i + 4096))
    (size : length before ≡ 4096) (ys_is : ys ≡ take n (drop (a + 4096 * i - at) bytes)) (before_is : before ≡ padded_block old i) where
  ys_long : length ys ≡ n
  ys_long = ap length ys_is ∙ simp (length-take, length-drop) (omega arith)

  a_fits : a ≤ length before
  a_fits = omega arith

  n_fits : a + n ≤ length before
  n_fits = omega arith

  written_byte : (k : ℕ) → k < 4096 → get_or (put_mid a n before ys) k 0 ≡ get_or (written old at bytes) (4096 * i + k) 0
  written_byte k lt = elim (cases_lt (4096 * i + k) at) as (λ _. get_or (put_mid a n before ys) k 0 ≡ get_or (written old at bytes) (4096 * i + k) 0) [
    | inl below ↦
        let low : k < a = omega arith in
        before_part a n before ys a_fits k low ∙ ap (λ b. get_or b k 0) before_is ∙ get_or-padded_block old i k lt ∙ sym (written_before old at bytes (4096 * i + k) below)
    | inr above ↦ elim (cases_lt (4096 * i + k) (at + length bytes)) as (λ _. get_or (put_mid a n before ys) k 0 ≡ get_or (written old at bytes) (4096 * i + k) 0) [
      | inl within ↦
          let low : a ≤ k = omega arith in
          let long = ys_long in
          let high : k < a + length ys = omega arith in
          let few : k - a < n = omega arith in
          let place : a + 4096 * i - at + (k - a) ≡ 4096 * i + k - at = omega arith in
          in_part a n before ys a_fits k low high
          ∙ ap (λ b. get_or b (k - a) 0) ys_is
          ∙ get_or-take n (drop (a + 4096 * i - at) bytes) (k - a) 0 few
          ∙ get_or-drop (a + 4096 * i - at) bytes (k - a) 0
          ∙ ap (λ m. get_or bytes m 0) place
          ∙ sym (written_inside old at bytes (4096 * i + k) above within)
      | inr past ↦
          let low : a + n ≤ k = omega arith in
          behind_part a n before ys a_fits ys_long k low ∙ ap (λ b. get_or b k 0) before_is ∙ get_or-padded_block old i k lt ∙ sym (written_behind old at bytes (4096 * i + k) past)
    ]
  ]

  pub part_written : put_mid a n before ys ≡ padded_block (written old at bytes) i
  part_written =
      let long = part_long a n before ys a_fits ys_long n_fits in
      same_number_lists (put_mid a n before ys) (padded_block (written old at bytes) i) (long ∙ size ∙ sym (length-padded_block (written old at bytes) i)) (λ k h.
      let lt : k < 4096 = omega arith in
      written_byte k lt ∙ sym (get_or-padded_block (written old at bytes) i k lt))

-- the same by the numbers that the code has
pub put_part_is : (i at from to : ℕ) (bytes before ys old : List ℕ) → at < 4096 * i + 4096 → 4096 * i < at + length bytes → from ≡ max at (i * 4096) → to ≡ min (at + length bytes) (i * 4096 + 4096)
    → length before ≡ 4096 → ys ≡ take (to - at - (from - at)) (drop (from - at) bytes) → before ≡ padded_block old i
    → put_mid (from - i * 4096) (to - i * 4096 - (from - i * 4096)) before ys ≡ padded_block (written old at bytes) i
put_part_is i at from to bytes before ys old begins ends from_is to_is size ys_is before_is =
    let a_is : (from - i * 4096) + 4096 * i ≡ max at (4096 * i) = omega arith in
    let n_is : (from - i * 4096) + (to - i * 4096 - (from - i * 4096)) + 4096 * i ≡ min (at + length bytes) (4096 * i + 4096) = omega arith in
    let count : to - at - (from - at) ≡ to - i * 4096 - (from - i * 4096) = omega arith in
    let place : from - at ≡ (from - i * 4096) + 4096 * i - at = omega arith in
    part_written i at (from - i * 4096) (to - i * 4096 - (from - i * 4096)) bytes before ys old begins ends a_is n_is size (ys_is ∙ (λ j. take (count j) (drop (place j) bytes))) before_is

-- BYTES THAT COVER A BLOCK are that of the bytes written
pub covered : (i at : ℕ) (bytes old : List ℕ) → at ≤ 4096 * i → 4096 * i + 4096 ≤ at + length bytes → take 4096 (drop (4096 * i - at) bytes) ≡ padded_block (written old at bytes) i
covered i at bytes old low high =
    let long : length (take 4096 (drop (4096 * i - at) bytes)) ≡ 4096 = simp (length-take, length-drop) (omega arith) in
    same_number_lists (take 4096 (drop (4096 * i - at) bytes)) (padded_block (written old at bytes) i) (long ∙ sym (length-padded_block (written old at bytes) i)) (λ k h.
    let lt : k < 4096 = omega arith in
    let place : 4096 * i - at + k ≡ 4096 * i + k - at = omega arith in
    let above : at ≤ 4096 * i + k = omega arith in
    let within : 4096 * i + k < at + length bytes = omega arith in
    get_or-take 4096 (drop (4096 * i - at) bytes) k 0 lt
    ∙ get_or-drop (4096 * i - at) bytes k 0
    ∙ ap (λ n. get_or bytes n 0) place
    ∙ sym (written_inside old at bytes (4096 * i + k) above within)
    ∙ sym (get_or-padded_block (written old at bytes) i k lt))

-- A BLOCK WITH ZEROS from where a size ends in it is that of the bytes cut
pub cut_is : (size : ℕ) (before ys old : List ℕ) → length before ≡ 4096 → length ys ≡ length before - size % 4096 → ((k : ℕ) → k < length before - size % 4096 → get_or ys k 0 ≡ 0) → before ≡ padded_block old (size / 4096)
    → put_mid (size % 4096) (length before - size % 4096) before ys ≡ padded_block (resized old size) (size / 4096)
cut_is size before ys old long ys_long zero_there before_is =
    let fits : size % 4096 ≤ length before = omega arith in
    let all : size % 4096 + (length before - size % 4096) ≤ length before = omega arith in
    let same = part_long (size % 4096) (length before - size % 4096) before ys fits ys_long all in
    same_number_lists (put_mid (size % 4096) (length before - size % 4096) before ys) (padded_block (resized old size) (size / 4096)) (same ∙ long ∙ sym (length-padded_block (resized old size) (size / 4096))) (λ k h.
    let lt : k < 4096 = omega arith in
    elim (cases_lt k (size % 4096)) as (λ _. get_or (put_mid (size % 4096) (length before - size % 4096) before ys) k 0 ≡ get_or (padded_block (resized old size) (size / 4096)) k 0) [
      | inl low ↦
          let below : 4096 * (size / 4096) + k < size = omega arith in
          before_part (size % 4096) (length before - size % 4096) before ys fits k low
          ∙ ap (λ b. get_or b k 0) before_is
          ∙ get_or-padded_block old (size / 4096) k lt
          ∙ sym (get_or-resized old size (4096 * (size / 4096) + k) below)
          ∙ sym (get_or-padded_block (resized old size) (size / 4096) k lt)
      | inr high ↦
          let within : k < size % 4096 + length ys = omega arith in
          let few : k - size % 4096 < length before - size % 4096 = omega arith in
          let past : length (resized old size) ≤ 4096 * (size / 4096) + k = (let e = length-resized old size in omega arith) in
          in_part (size % 4096) (length before - size % 4096) before ys fits k high within
          ∙ zero_there (k - size % 4096) few
          ∙ sym (get_or_past (resized old size) (4096 * (size / 4096) + k) 0 past)
          ∙ sym (get_or-padded_block (resized old size) (size / 4096) k lt)
    ])

-- A BLOCK WITH THE BYTES OF A FILE'S BLOCK is that of the file's bytes
pub block_is : (shelf : Shelf) (file : PlacedFile) (i : ℕ) (bytes : List ℕ) → IsPlacedFile shelf file → length bytes ≡ 4096 → ((k : ℕ) → k < 4096 → get_or bytes k 0 ≡ byte_of shelf (file_block file i) k)
    → bytes ≡ padded_block (plain_bytes shelf file) i
block_is shelf file i bytes placed long same = same_number_lists bytes (padded_block (plain_bytes shelf file) i) (long ∙ sym (length-padded_block (plain_bytes shelf file) i)) (λ k h.
    let lt : k < 4096 = omega arith in
    same k lt ∙ sym (byte_of-plain_bytes shelf file i k placed lt))
