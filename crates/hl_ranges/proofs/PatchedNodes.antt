-- Nodes with some blocks put.
use Rattle.std.proofs.Common.{arith, ◌≡◌, ◌≢◌, ◌⊎◌, ℕ, ◌+◌, ◌*◌, ◌/◌, ◌%◌, ◌<◌, ◌≤◌, Bool, true, false, true≢false, ◌&&◌, not, nat_lt, nat_le, List, length, get_or, max, inl, inr, Option, Some, refl, ◌∙◌, ap, sym, subst, if◌then◌else◌}
use Rattle.std.specs.Prelude.{slice_set}
use Rattle.std.proofs.lemmas.Bool.{cases_eq, cases_lt}
use Rattle.std.proofs.lemmas.Bool.Decides.{nat_tests}
use Rattle.std.proofs.lemmas.List.{ext_get_or, get_or-set_other, get_or-set_same}
use Rattle.std.proofs.Math.ListN.{length-set}
use Rattle.std.proofs.lemmas.List.FromFn.{get_or-map-range_with_len, length-map-range_with_len}
use Rattle.hl_tree.specs.Contents.{resized, written}
use Rattle.hl_tree.proofs.Contents.{length-resized}
use Rattle.hl_tree_laws.proofs.Contents.{length-written}
use Rattle.hl_placed.specs.Blocks.{Block, Here, Hole, PlacedFile, Shelf, blocks_of, file_block, is_hole, listed, padded_block, plain_bytes}
use Rattle.hl_placed.specs.Changes.{cut_file, cuts, ends_within, meets, rewritten, written_file}
use Rattle.hl_placed.proofs.Changes.{length-plain_bytes}
use Rattle.hl_paths.specs.Nodes.{FlatNode}
use Rattle.hl_overlaid.specs.NodesNow.{old_block}
use Rattle.hl_overlay.specs.declared.draft.Shape.{Shape}
use Rattle.hl_overlay.specs.Making.{used_of}
use Rattle.hl_overlaid.specs.Changes.{reshaped, with_block}
use Rattle.hl_ranges.specs.Files.{file_node, file_shape}
use Rattle.hl_ranges.specs.Writing.{IsCutBlock, patched}

-- whether an index is one of a range
pub inside : (first end j : ℕ) → first ≤ j → j < end → (nat_le first j && nat_lt j end) ≡ true
inside first end j low high = grind (arith, nat_tests)

pub below : (first end j : ℕ) → j < first → (nat_le first j && nat_lt j end) ≡ false
below first end j lt = grind (arith, nat_tests)

past : (first end j : ℕ) → end ≤ j → (nat_le first j && nat_lt j end) ≡ false
past first end j le = grind (arith, nat_tests)

-- lists of blocks that are the same below their length
pub listed_same : (f h : ℕ → Block) (n : ℕ) → ((j : ℕ) → j < n → f j ≡ h j) → listed n f ≡ listed n h
listed_same f h n same =
    let a = length-map-range_with_len f 0 n in
    let b = length-map-range_with_len h 0 n in
    ext_get_or Hole (listed n f) (listed n h) (a ∙ sym b) (λ k lt. (
    let low : k < n = subst (λ m. k < m) a lt in
    get_or-map-range_with_len f 0 n k k Hole low (omega arith) ∙ same k low ∙ sym (get_or-map-range_with_len h 0 n k k Hole low (omega arith))))

-- one with a block set
pub listed_set : (f h : ℕ → Block) (n i : ℕ) → i < n → ((j : ℕ) → j ≢ i → f j ≡ h j) → slice_set (listed n f) i (h i) ≡ listed n h
listed_set f h n i within others =
    let a = length-map-range_with_len f 0 n in
    let b = length-map-range_with_len h 0 n in
    let c : length (slice_set (listed n f) i (h i)) ≡ length (listed n f) = length-set (listed n f) i (h i) in
    let there : i < length (listed n f) = omega arith in
    ext_get_or Hole (slice_set (listed n f) i (h i)) (listed n h) (c ∙ a ∙ sym b) (λ k lt. (
    let low : k < n = omega arith in
    elim (cases_eq k i) as (λ _. get_or (slice_set (listed n f) i (h i)) k Hole ≡ get_or (listed n h) k Hole) [
      | inl at ↦ ap (λ m. get_or (slice_set (listed n f) i (h i)) m Hole) at ∙ get_or-set_same (listed n f) i (h i) Hole there ∙ ap h (sym at) ∙ sym (get_or-map-range_with_len h 0 n k k Hole low (omega arith))
      | inr ne ↦ get_or-set_other (listed n f) i k (h i) Hole ne ∙ get_or-map-range_with_len f 0 n k k Hole low (omega arith) ∙ others k ne ∙ sym (get_or-map-range_with_len h 0 n k k Hole low (omega arith))
    ]))

-- a node with these blocks
abbrev pub of_blocks : Shape → ℕ → List Block → FlatNode
of_blocks shape now blocks = record { kind = shape.kind; content = record { size = shape.size; used = used_of shape.kind now; blocks = blocks } }

-- block j of a node with some blocks put
abbrev pub block_put : ℕ → ℕ → (ℕ → List ℕ) → Option FlatNode → ℕ → Block
block_put first end new was j = if nat_le first j && nat_lt j end then Here (new j) else old_block was j

-- NONE IS PUT of a node that is only reshaped
pub patched_none : (shape : Shape) (now first : ℕ) (new : ℕ → List ℕ) (was : Option FlatNode) → reshaped was now shape ≡ patched shape now first first new was
unfolding patched
patched_none shape now first new was = ap (of_blocks shape now) (listed_same (old_block was) (block_put first first new was) (blocks_of shape.size) (λ j lt. elim (cases_lt j first) as (λ _. old_block was j ≡ block_put first first new was j) [
  | inl low ↦ ap (λ b. if b then Here (new j) else old_block was j) (sym (below first first j low))
  | inr high ↦ ap (λ b. if b then Here (new j) else old_block was j) (sym (past first first j high))
]))

-- ONE MORE IS PUT behind those that were
pub patched_more : (shape : Shape) (now used first i : ℕ) (new : ℕ → List ℕ) (was : Option FlatNode) → first ≤ i → i < blocks_of shape.size → used ≡ now → with_block (patched shape now first i new was) i (Here (new i)) used ≡ patched shape now first (i + 1) new was
unfolding patched
patched_more shape now used first i new was low within at =
    let last : i < i + 1 = omega arith in
    let own : block_put first (i + 1) new was i ≡ Here (new i) = ap (λ b. if b then Here (new i) else old_block was i) (inside first (i + 1) i low last) in
    ap (λ u. of_blocks shape u (slice_set (listed (blocks_of shape.size) (block_put first i new was)) i (Here (new i)))) at
    ∙ ap (λ x. of_blocks shape now (slice_set (listed (blocks_of shape.size) (block_put first i new was)) i x)) (sym own)
    ∙ ap (of_blocks shape now) (listed_set (block_put first i new was) (block_put first (i + 1) new was) (blocks_of shape.size) i within (λ j ne. elim (cases_lt j first) as (λ _. block_put first i new was j ≡ block_put first (i + 1) new was j) [
      | inl under ↦ ap (λ b. if b then Here (new j) else old_block was j) (below first i j under ∙ sym (below first (i + 1) j under))
      | inr from ↦ elim (cases_lt j i) as (λ _. block_put first i new was j ≡ block_put first (i + 1) new was j) [
        | inl lt ↦
            let next : j < i + 1 = omega arith in
            ap (λ b. if b then Here (new j) else old_block was j) (inside first i j from lt ∙ sym (inside first (i + 1) j from next))
        | inr ge ↦
            let more : i + 1 ≤ j = omega arith in
            ap (λ b. if b then Here (new j) else old_block was j) (past first i j ge ∙ sym (past first (i + 1) j more))
      ]
    ]))

-- whether bytes touch a block
touched : (from to start : ℕ) → start < to → from < start + 4096 → from < to → (nat_lt from to && (nat_lt start to && nat_lt from (start + 4096))) ≡ true
touched from to start h k l = grind (arith, nat_tests)

untouched_low : (from to start : ℕ) → start + 4096 ≤ from → (nat_lt from to && (nat_lt start to && nat_lt from (start + 4096))) ≡ false
untouched_low from to start h = grind (arith, nat_tests)

untouched_high : (from to start : ℕ) → to ≤ start → (nat_lt from to && (nat_lt start to && nat_lt from (start + 4096))) ≡ false
untouched_high from to start h = grind (arith, nat_tests)

-- A FILE WRITTEN is one with each block put that the bytes touch
pub patched_written : (shelf : Shelf) (file : PlacedFile) (size at : ℕ) (bytes : List ℕ) (now : ℕ) (new : ℕ → List ℕ) → 0 < length bytes → size ≡ max file.size (at + length bytes)
    → ((j : ℕ) → at < 4096 * j + 4096 → 4096 * j < at + length bytes → new j ≡ padded_block (written (plain_bytes shelf file) at bytes) j)
    → patched (file_shape size) now (at / 4096) ((at + length bytes + 4095) / 4096) new (Some (file_node file)) ≡ file_node (written_file shelf file at bytes now)
unfolding patched written_file rewritten meets
patched_written shelf file size at bytes now new some size_is are =
    let w = written (plain_bytes shelf file) at bytes in
    let first = at / 4096 in
    let end = (at + length bytes + 4095) / 4096 in
    let was = Some (file_node file) in
    let test = λ (j : ℕ). nat_lt at (at + length bytes) && (nat_lt (4096 * j) (at + length bytes) && nat_lt at (4096 * j + 4096)) in
    let next = λ (j : ℕ). if test j then Here (padded_block w j) else file_block file j in
    let long : size ≡ length w = (let a = length-written (plain_bytes shelf file) at bytes in let b = length-plain_bytes shelf file in omega arith) in
    let grows : at < at + length bytes = omega arith in
    ap (λ n. of_blocks (file_shape n) now (listed (blocks_of n) (block_put first end new was))) long
    ∙ ap (of_blocks (file_shape (length w)) now) (listed_same (block_put first end new was) next (blocks_of (length w)) (λ j lt. elim (cases_lt at (4096 * j + 4096)) as (λ _. block_put first end new was j ≡ next j) [
      | inl begins ↦ elim (cases_lt (4096 * j) (at + length bytes)) as (λ _. block_put first end new was j ≡ next j) [
        | inl ends ↦
            let low : at / 4096 ≤ j = omega arith in
            let high : j < (at + length bytes + 4095) / 4096 = omega arith in
            ap (λ b. if b then Here (new j) else old_block was j) (inside first end j low high)
            ∙ ap Here (are j begins ends)
            ∙ ap (λ b. if b then Here (padded_block w j) else file_block file j) (sym (touched at (at + length bytes) (4096 * j) ends begins grows))
        | inr behind ↦
            let high : (at + length bytes + 4095) / 4096 ≤ j = omega arith in
            ap (λ b. if b then Here (new j) else old_block was j) (past first end j high)
            ∙ ap (λ b. if b then Here (padded_block w j) else file_block file j) (sym (untouched_high at (at + length bytes) (4096 * j) behind))
      ]
      | inr before ↦
          let low : j < at / 4096 = omega arith in
          ap (λ b. if b then Here (new j) else old_block was j) (below first end j low)
          ∙ ap (λ b. if b then Here (padded_block w j) else file_block file j) (sym (untouched_low at (at + length bytes) (4096 * j) before))
    ]))

-- whether a block is cut
never : (size file_size : ℕ) (x y : Bool) → file_size ≤ size → ((nat_lt size file_size && x) && y) ≡ false
never size file_size x y le = grind (arith, nat_tests)

ends_even : (start size : ℕ) (a x y : Bool) → size ≤ start → ((a && (nat_lt start size && x)) && y) ≡ false
ends_even start size true x y le = grind (arith, nat_tests)
ends_even start size false x y le = refl

ends_before : (start size : ℕ) (a x y : Bool) → start + 4096 ≤ size → ((a && (x && nat_lt size (start + 4096))) && y) ≡ false
ends_before start size false x y le = refl
ends_before start size true false y le = refl
ends_before start size true true y le = grind (arith, nat_tests)

ends_inside : (start size file_size : ℕ) (y : Bool) → size < file_size → start < size → size < start + 4096 → ((nat_lt size file_size && (nat_lt start size && nat_lt size (start + 4096))) && y) ≡ y
ends_inside start size file_size true a b c = grind (arith, nat_tests)
ends_inside start size file_size false a b c = grind (arith, nat_tests)

module _ (shelf : Shelf) (file : PlacedFile) (size : ℕ) (edge : List ℕ) where
  -- none is of a file that doesn't shrink, or where it ends at the end of a block
  pub none_cut : (file.size ≤ size) ⊎ (size % 4096 ≡ 0) → IsCutBlock shelf file size edge false
  unfolding ends_within
  none_cut why = record {
    cut = sym (elim why as (λ _. (cuts file size (size / 4096) && not (is_hole (file_block file (size / 4096)))) ≡ false) [
      | inl long ↦ never size file.size (nat_lt (4096 * (size / 4096)) size && nat_lt size (4096 * (size / 4096) + 4096)) (not (is_hole (file_block file (size / 4096)))) long
      | inr even ↦
          let le : size ≤ 4096 * (size / 4096) = omega arith in
          ends_even (4096 * (size / 4096)) size (nat_lt size file.size) (nat_lt size (4096 * (size / 4096) + 4096)) (not (is_hole (file_block file (size / 4096)))) le
    ]);
    is = λ e. absurd (true≢false (sym e));
  }

  -- else the block in which it ends is, if it is no hole
  pub some_cut : (is_own : Bool) → size < file.size → 0 < size % 4096 → is_own ≡ not (is_hole (file_block file (size / 4096))) → edge ≡ padded_block (resized (plain_bytes shelf file) size) (size / 4096) → IsCutBlock shelf file size edge is_own
  unfolding ends_within
  some_cut is_own short within own edge_is = record {
    cut = (
        let low : 4096 * (size / 4096) < size = omega arith in
        let high : size < 4096 * (size / 4096) + 4096 = omega arith in
        own ∙ sym (ends_inside (4096 * (size / 4096)) size file.size (not (is_hole (file_block file (size / 4096)))) short low high));
    is = λ e. edge_is;
  }

  -- no other block is
  other_kept : (j : ℕ) → j ≢ size / 4096 → (cuts file size j && not (is_hole (file_block file j))) ≡ false
  unfolding ends_within
  other_kept j ne = elim (cases_lt j (size / 4096)) as (λ _. (cuts file size j && not (is_hole (file_block file j))) ≡ false) [
    | inl lt ↦
        let le : 4096 * j + 4096 ≤ size = omega arith in
        ends_before (4096 * j) size (nat_lt size file.size) (nat_lt (4096 * j) size) (not (is_hole (file_block file j))) le
    | inr ge ↦
        let le : size ≤ 4096 * j = omega arith in
        ends_even (4096 * j) size (nat_lt size file.size) (nat_lt size (4096 * j + 4096)) (not (is_hole (file_block file j))) le
  ]

  -- A FILE CUT is one with that block put
  pub patched_cut : (now : ℕ) (is_cut : Bool) → IsCutBlock shelf file size edge is_cut → patched (file_shape size) now (size / 4096) (if is_cut then size / 4096 + 1 else size / 4096) (λ j. edge) (Some (file_node file)) ≡ file_node (cut_file shelf file size now)
  unfolding patched cut_file rewritten
  patched_cut now is_cut is =
      ap (λ n. of_blocks (file_shape n) now (listed (blocks_of n) (block_put (size / 4096) (if is_cut then size / 4096 + 1 else size / 4096) (λ j. edge) (Some (file_node file))))) (sym (length-resized (plain_bytes shelf file) size))
      ∙ ap (of_blocks (file_shape (length (resized (plain_bytes shelf file) size))) now) (listed_same (block_put (size / 4096) (if is_cut then size / 4096 + 1 else size / 4096) (λ j. edge) (Some (file_node file)))
      (λ j. if cuts file size j && not (is_hole (file_block file j)) then Here (padded_block (resized (plain_bytes shelf file) size) j) else file_block file j) (blocks_of (length (resized (plain_bytes shelf file) size)))
      (λ j lt. by is_cut refl j (cases_eq j (size / 4096))))
    where
      kept : (end j : ℕ) → j ≢ size / 4096 → (j < size / 4096) ⊎ (end ≤ j) → block_put (size / 4096) end (λ j. edge) (Some (file_node file)) j
          ≡ (if cuts file size j && not (is_hole (file_block file j)) then Here (padded_block (resized (plain_bytes shelf file) size) j) else file_block file j)
      kept end j ne out = elim out as (λ _. block_put (size / 4096) end (λ j. edge) (Some (file_node file)) j ≡ (if cuts file size j && not (is_hole (file_block file j)) then Here (padded_block (resized (plain_bytes shelf file) size) j) else file_block file j)) [
        | inl lt ↦ ap (λ b. if b then Here edge else file_block file j) (below (size / 4096) end j lt) ∙ ap (λ b. if b then Here (padded_block (resized (plain_bytes shelf file) size) j) else file_block file j) (sym (other_kept j ne))
        | inr ge ↦ ap (λ b. if b then Here edge else file_block file j) (past (size / 4096) end j ge) ∙ ap (λ b. if b then Here (padded_block (resized (plain_bytes shelf file) size) j) else file_block file j) (sym (other_kept j ne))
      ]

      out_of : (j : ℕ) → j ≢ size / 4096 → (j < size / 4096) ⊎ (size / 4096 + 1 ≤ j)
      out_of j ne = elim (cases_lt j (size / 4096)) as (λ _. (j < size / 4096) ⊎ (size / 4096 + 1 ≤ j)) [
        | inl lt ↦ inl lt
        | inr ge ↦ inr (omega arith)
      ]

      out_too : (j : ℕ) → (j < size / 4096) ⊎ (size / 4096 ≤ j)
      out_too j = cases_lt j (size / 4096)

      by : (b : Bool) → is_cut ≡ b → (j : ℕ) → (j ≡ size / 4096) ⊎ (j ≢ size / 4096) → block_put (size / 4096) (if b then size / 4096 + 1 else size / 4096) (λ j. edge) (Some (file_node file)) j
          ≡ (if cuts file size j && not (is_hole (file_block file j)) then Here (padded_block (resized (plain_bytes shelf file) size) j) else file_block file j)
      by true e j (inl at) =
          let low : size / 4096 ≤ j = omega arith in
          let high : j < size / 4096 + 1 = omega arith in
          ap (λ b. if b then Here edge else file_block file j) (inside (size / 4096) (size / 4096 + 1) j low high)
          ∙ ap Here (is.is e ∙ ap (padded_block (resized (plain_bytes shelf file) size)) (sym at))
          ∙ ap (λ b. if b then Here (padded_block (resized (plain_bytes shelf file) size) j) else file_block file j) (sym e ∙ is.cut ∙ ap (λ i. cuts file size i && not (is_hole (file_block file i))) (sym at))
      by true e j (inr ne) = kept (size / 4096 + 1) j ne (out_of j ne)
      by false e j (inl at) =
          let high : size / 4096 ≤ j = omega arith in
          ap (λ b. if b then Here edge else file_block file j) (past (size / 4096) (size / 4096) j high)
          ∙ ap (λ b. if b then Here (padded_block (resized (plain_bytes shelf file) size) j) else file_block file j) (sym e ∙ is.cut ∙ ap (λ i. cuts file size i && not (is_hole (file_block file i))) (sym at))
      by false e j (inr ne) = kept (size / 4096) j ne (out_too j)
