-- What a change of a placed file does to its bytes.
use Rattle.std.proofs.Common.{arith, ◌≡◌, ℕ, ◌+◌, ◌*◌, ◌/◌, ◌%◌, ◌<◌, ◌≤◌, Bool, true, false, ◌&&◌, List, length, drop, get_or, refl, ap, ◌∙◌, sym, if◌then◌else◌, ◌⊎◌, inl, inr, nat_lt}
use Rattle.std.proofs.lemmas.Grind.{same_number_lists}
use Rattle.std.proofs.lemmas.Bool.{cases_lt}
use Rattle.std.proofs.lemmas.Bool.Decides.{nat_tests}
use Rattle.std.proofs.lemmas.List.{get_or_past, get_or-drop}
use Rattle.std.proofs.lemmas.List.FromFn.{length-map-range_with_len, get_or-map-range_with_len}
use Rattle.hl_tree.specs.Contents.{resized, written}
use Rattle.hl_tree.proofs.Contents.{length-resized}
use Rattle.hl_tree_laws.proofs.Contents.{get_or-resized, written_before, written_behind}
use Rattle.hl_placed.specs.Blocks.{Hole, Here, PlacedFile, IsPlacedFile, Shelf, byte_of, file_block, plain_bytes, blocks_of, padded_block}
use Rattle.hl_placed.specs.Changes.{rewritten, meets, written_file, cut_file}

module _ (shelf : Shelf) (file : PlacedFile) where
  pub length-plain_bytes : length (plain_bytes shelf file) ≡ file.size
  unfolding plain_bytes
  length-plain_bytes = length-map-range_with_len _ 0 file.size

  pub within-plain_bytes : (j : ℕ) → j < file.size → get_or (plain_bytes shelf file) j 0 ≡ byte_of shelf (file_block file (j / 4096)) (j % 4096)
  unfolding plain_bytes
  within-plain_bytes j h = get_or-map-range_with_len (λ j. byte_of shelf (file_block file (j / 4096)) (j % 4096)) 0 file.size j j 0 h (omega arith)

  pub get_or-plain_bytes : IsPlacedFile shelf file → (j : ℕ) → get_or (plain_bytes shelf file) j 0 ≡ byte_of shelf (file_block file (j / 4096)) (j % 4096)
  get_or-plain_bytes is j = elim (cases_lt j file.size) as (λ _. get_or (plain_bytes shelf file) j 0 ≡ byte_of shelf (file_block file (j / 4096)) (j % 4096)) [
    | inl h ↦ within-plain_bytes j h
    | inr h ↦ get_or_past (plain_bytes shelf file) j 0 (let e = length-plain_bytes in omega arith) ∙ sym (is.zeros j h)
  ]

  pub file_block-rewritten : (bytes : List ℕ) (touched : ℕ → Bool) (now i : ℕ) → i < blocks_of (length bytes) → file_block (rewritten file bytes touched now) i ≡ (if touched i then Here (padded_block bytes i) else file_block file i)
  unfolding rewritten
  file_block-rewritten bytes touched now i h = get_or-map-range_with_len (λ i. if touched i then Here (padded_block bytes i) else file_block file i) 0 (blocks_of (length bytes)) i i Hole h (omega arith)

  in_blocks : (size j : ℕ) → j < size → j / 4096 < blocks_of size
  unfolding blocks_of
  in_blocks size j h = omega arith

  pub size-rewritten : (bytes : List ℕ) (touched : ℕ → Bool) (now : ℕ) → (rewritten file bytes touched now).size ≡ length bytes
  unfolding rewritten
  size-rewritten bytes touched now = refl

  pub byte_of-block : (bytes : List ℕ) (j : ℕ) → get_or (padded_block bytes (j / 4096)) (j % 4096) 0 ≡ get_or bytes j 0
  unfolding padded_block
  byte_of-block bytes j = get_or-resized (drop (4096 * (j / 4096)) bytes) 4096 (j % 4096) (omega arith) ∙ get_or-drop (4096 * (j / 4096)) bytes (j % 4096) 0 ∙ ap (λ i. get_or bytes i 0) (omega arith)

  byte_changed : (bytes : List ℕ) (touched : ℕ → Bool) (j : ℕ) → (touched (j / 4096) ≡ false → get_or bytes j 0 ≡ byte_of shelf (file_block file (j / 4096)) (j % 4096))
      → (b : Bool) → touched (j / 4096) ≡ b → byte_of shelf (if b then Here (padded_block bytes (j / 4096)) else file_block file (j / 4096)) (j % 4096) ≡ get_or bytes j 0
  byte_changed bytes touched j same true e = byte_of-block bytes j
  byte_changed bytes touched j same false e = sym (same e)

  pub plain_bytes-rewritten : (bytes : List ℕ) (touched : ℕ → Bool) (now : ℕ) → ((j : ℕ) → j < length bytes → touched (j / 4096) ≡ false → get_or bytes j 0 ≡ byte_of shelf (file_block file (j / 4096)) (j % 4096)) → plain_bytes shelf (rewritten file bytes touched now) ≡ bytes
  unfolding plain_bytes
  plain_bytes-rewritten bytes touched now same =
      let size = size-rewritten bytes touched now in
      let long : length (plain_bytes shelf (rewritten file bytes touched now)) ≡ length bytes = length-map-range_with_len _ 0 (rewritten file bytes touched now).size ∙ size in
      same_number_lists _ _ long (λ j h.
      get_or-map-range_with_len (λ j. byte_of shelf (file_block (rewritten file bytes touched now) (j / 4096)) (j % 4096)) 0 (rewritten file bytes touched now).size j j 0 (omega arith) (omega arith)
      ∙ ap (λ block. byte_of shelf block (j % 4096)) (file_block-rewritten bytes touched now (j / 4096) (in_blocks (length bytes) j (omega arith)))
      ∙ byte_changed bytes touched j (same j (omega arith)) (touched (j / 4096)) refl)

  not_met : (from to j : ℕ) → meets from to (j / 4096) ≡ false → (j < from) ⊎ (to ≤ j)
  unfolding meets
  not_met from to j e = elim (cases_lt j from) as (λ _. (j < from) ⊎ (to ≤ j)) [
    | inl h ↦ inl h
    | inr h ↦ elim (cases_lt j to) as (λ _. (j < from) ⊎ (to ≤ j)) [
      | inl k ↦ absurd (met from to (4096 * (j / 4096)) (omega arith) (omega arith) (omega arith) e)
      | inr k ↦ inr k
    ]
  ]
    where
      met : (from to start : ℕ) → from < to → start < to → from < start + 4096 → (nat_lt from to && (nat_lt start to && nat_lt from (start + 4096))) ≡ false → ⊥
      met from to start h k l e = grind (arith, nat_tests)

  pub plain_bytes-written_file : IsPlacedFile shelf file → (at : ℕ) (bytes : List ℕ) (now : ℕ) → plain_bytes shelf (written_file shelf file at bytes now) ≡ written (plain_bytes shelf file) at bytes
  unfolding written_file
  plain_bytes-written_file is at bytes now = plain_bytes-rewritten (written (plain_bytes shelf file) at bytes) (meets at (at + length bytes)) now (λ j h free.
      elim (not_met at (at + length bytes) j free) as (λ _. get_or (written (plain_bytes shelf file) at bytes) j 0 ≡ byte_of shelf (file_block file (j / 4096)) (j % 4096)) [
        | inl k ↦ written_before (plain_bytes shelf file) at bytes j k ∙ get_or-plain_bytes is j
        | inr k ↦ written_behind (plain_bytes shelf file) at bytes j k ∙ get_or-plain_bytes is j
      ])

  pub plain_bytes-cut_file : IsPlacedFile shelf file → (size now : ℕ) → plain_bytes shelf (cut_file shelf file size now) ≡ resized (plain_bytes shelf file) size
  unfolding cut_file
  plain_bytes-cut_file is size now = plain_bytes-rewritten (resized (plain_bytes shelf file) size) _ now (λ j h free.
      let long = length-resized (plain_bytes shelf file) size in
      get_or-resized (plain_bytes shelf file) size j (omega arith) ∙ get_or-plain_bytes is j)
