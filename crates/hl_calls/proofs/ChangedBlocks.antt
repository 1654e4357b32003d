-- Which blocks a write and a cut change, and what they leave in them.
use Rattle.std.proofs.Common.{◌≡◌, ◌≢◌, ◌⊎◌, inl, inr, ℕ, ◌+◌, ◌-◌, ◌*◌, ◌/◌, ◌%◌, ◌<◌, ◌≤◌, Bool, true, false, ◌&&◌, not, nat_lt, if◌then◌else◌, List, length, refl, sym, ◌∙◌, ap, subst, arith}
use Rattle.std.proofs.lemmas.Bool.{cases_lt}
use Rattle.std.proofs.lemmas.Bool.Decides.{nat_tests}
use Rattle.std.proofs.lemmas.List.{get_or_past}
use Rattle.std.proofs.lemmas.List.FromFn.{length-map-range_with_len}
use Rattle.hl_tree.specs.Contents.{resized, written}
use Rattle.hl_tree.proofs.Contents.{length-resized}
use Rattle.hl_tree_laws.proofs.Contents.{length-written}
use Rattle.hl_placed.specs.Blocks.{Away, Block, Here, Hole, IsPlacedFile, PlacedFile, Shelf, blocks_of, file_block, is_here, is_hole, padded_block, plain_bytes}
use Rattle.hl_placed.specs.Changes.{cut_file, cuts, ends_within, meets, rewritten, written_file}
use Rattle.hl_placed.proofs.Changes.{file_block-rewritten, length-plain_bytes}
use Rattle.hl_calls.specs.Residents.{away_edge, is_away}

-- a byte of a range is in a block that starts before its end and ends behind its start
met : (from to start : ℕ) → from < to → start < to → from < start + 4096 → (nat_lt from to && (nat_lt start to && nat_lt from (start + 4096))) ≡ true
met from to start h k l = grind (arith, nat_tests)

not_met_before : (from to start : ℕ) → start + 4096 ≤ from → (nat_lt from to && (nat_lt start to && nat_lt from (start + 4096))) ≡ false
not_met_before from to start h = grind (arith, nat_tests)

not_met_behind : (from to start : ℕ) → to ≤ start → (nat_lt from to && (nat_lt start to && nat_lt from (start + 4096))) ≡ false
not_met_behind from to start h = grind (arith, nat_tests)

meets-is : (from to k : ℕ) → from < to → 4096 * k < to → from < 4096 * k + 4096 → meets from to k ≡ true
unfolding meets
meets-is from to k h low high = met from to (4096 * k) h low high

meets-before : (from to k : ℕ) → 4096 * k + 4096 ≤ from → meets from to k ≡ false
unfolding meets
meets-before from to k h = not_met_before from to (4096 * k) h

meets-behind : (from to k : ℕ) → to ≤ 4096 * k → meets from to k ≡ false
unfolding meets
meets-behind from to k h = not_met_behind from to (4096 * k) h

-- a longer file has no fewer blocks
pub blocks_of-le : (n m : ℕ) → n ≤ m → blocks_of n ≤ blocks_of m
unfolding blocks_of
blocks_of-le n m le = omega arith

module _ (shelf : Shelf) (file : PlacedFile) (is : IsPlacedFile shelf file) where
  -- past its end a file has holes
  pub file_block-past : (k : ℕ) → blocks_of file.size ≤ k → file_block file k ≡ Hole
  file_block-past k le = let e = is.count in get_or_past file.blocks k Hole (omega arith)

  -- so has a file with other bytes
  module _ (bytes : List ℕ) (touched : ℕ → Bool) (now : ℕ) where
    pub length-rewritten : length (rewritten file bytes touched now).blocks ≡ blocks_of (length bytes)
    unfolding rewritten
    length-rewritten = length-map-range_with_len _ 0 (blocks_of (length bytes))

    pub rewritten-past : (k : ℕ) → blocks_of (length bytes) ≤ k → file_block (rewritten file bytes touched now) k ≡ Hole
    rewritten-past k le = let e = length-rewritten in get_or_past (rewritten file bytes touched now).blocks k Hole (omega arith)

    -- a block that is touched is here
    pub rewritten-touched : (k : ℕ) → k < blocks_of (length bytes) → touched k ≡ true → is_here (file_block (rewritten file bytes touched now) k) ≡ true
    rewritten-touched k lt e = ap is_here (file_block-rewritten shelf file bytes touched now k lt ∙ ap (λ b. if b then Here (padded_block bytes k) else file_block file k) e)

    -- another stays
    pub rewritten-other : (k : ℕ) → k < blocks_of (length bytes) → touched k ≡ false → file_block (rewritten file bytes touched now) k ≡ file_block file k
    rewritten-other k lt e = file_block-rewritten shelf file bytes touched now k lt ∙ ap (λ b. if b then Here (padded_block bytes k) else file_block file k) e

  -- A WRITE
  module _ (at : ℕ) (bytes : List ℕ) (now : ℕ) (some : 0 < length bytes) where
    abbrev end_size : ℕ
    end_size = length (written (plain_bytes shelf file) at bytes)

    end_size-is : end_size ≡ at + length bytes + (file.size - (at + length bytes))
    end_size-is = length-written (plain_bytes shelf file) at bytes ∙ ap (λ n. at + length bytes + (n - (at + length bytes))) (length-plain_bytes shelf file)

    -- how many blocks the file has then: no fewer than it had, and than the bytes reach
    pub blocks_then : ℕ
    blocks_then = blocks_of end_size

    pub length-written_file : length (written_file shelf file at bytes now).blocks ≡ blocks_then
    unfolding written_file blocks_then
    length-written_file = length-rewritten (written (plain_bytes shelf file) at bytes) (meets at (at + length bytes)) now

    pub blocks_then-old : blocks_of file.size ≤ blocks_then
    unfolding blocks_then
    blocks_then-old = let e = end_size-is in blocks_of-le file.size end_size (omega arith)

    pub blocks_then-end : blocks_of (at + length bytes) ≤ blocks_then
    unfolding blocks_then
    blocks_then-end = let e = end_size-is in blocks_of-le (at + length bytes) end_size (omega arith)

    -- each block with a byte of the write is here
    pub written-touched : (k : ℕ) → at / 4096 ≤ k → k < blocks_of (at + length bytes) → is_here (file_block (written_file shelf file at bytes now) k) ≡ true
    unfolding written_file blocks_then blocks_of
    written-touched k low high =
        let le = blocks_then-end in
        rewritten-touched (written (plain_bytes shelf file) at bytes) (meets at (at + length bytes)) now k (omega arith)
        (meets-is at (at + length bytes) k (omega arith) (omega arith) (omega arith))

    -- each other stays as it was
    pub written-other : (k : ℕ) → (k < at / 4096) ⊎ (blocks_of (at + length bytes) ≤ k) → file_block (written_file shelf file at bytes now) k ≡ file_block file k
    unfolding written_file blocks_then blocks_of
    written-other k out = elim (cases_lt k blocks_then) as (λ _. file_block (written_file shelf file at bytes now) k ≡ file_block file k) [
      | inl lt ↦ rewritten-other (written (plain_bytes shelf file) at bytes) (meets at (at + length bytes)) now k lt (missed out)
      | inr ge ↦
          let le = blocks_then-old in
          rewritten-past (written (plain_bytes shelf file) at bytes) (meets at (at + length bytes)) now k ge ∙ sym (file_block-past k (omega arith))
    ]
      where
        missed : (k < at / 4096) ⊎ (blocks_of (at + length bytes) ≤ k) → meets at (at + length bytes) k ≡ false
        missed (inl lt) = meets-before at (at + length bytes) k (omega arith)
        missed (inr ge) = meets-behind at (at + length bytes) k (omega arith)

  -- A CUT
  module _ (size now : ℕ) where
    abbrev cut_bytes : List ℕ
    cut_bytes = resized (plain_bytes shelf file) size

    abbrev is_cut : ℕ → Bool
    is_cut i = cuts file size i && not (is_hole (file_block file i))

    cut_size : length cut_bytes ≡ size
    cut_size = length-resized (plain_bytes shelf file) size

    pub length-cut_file : length (cut_file shelf file size now).blocks ≡ blocks_of size
    unfolding cut_file
    length-cut_file = length-rewritten cut_bytes is_cut now ∙ ap blocks_of cut_size

    -- a block past the new end is gone
    pub cut-past : (k : ℕ) → blocks_of size ≤ k → file_block (cut_file shelf file size now) k ≡ Hole
    unfolding cut_file
    cut-past k le = rewritten-past cut_bytes is_cut now k (subst (λ n. blocks_of n ≤ k) (sym cut_size) le)

    -- before it each block is what it was, or the one in which the file ends and no hole, and here
    pub cut-before : (k : ℕ) → k < blocks_of size → (b : Bool) → is_cut k ≡ b → file_block (cut_file shelf file size now) k ≡ (if b then Here (padded_block cut_bytes k) else file_block file k)
    unfolding cut_file
    cut-before k lt b e = file_block-rewritten shelf file cut_bytes is_cut now k (subst (λ n. k < blocks_of n) (sym cut_size) lt) ∙ ap (λ c. if c then Here (padded_block cut_bytes k) else file_block file k) e

    not_shorter : (a b c : Bool) → a ≡ false → ((a && b) && c) ≡ false
    not_shorter a b c e = rw e refl

    -- where a file doesn't become shorter each block stays
    pub cut-longer : file.size ≤ size → (k : ℕ) → file_block (cut_file shelf file size now) k ≡ file_block file k
    cut-longer le k = elim (cases_lt k (blocks_of size)) as (λ _. file_block (cut_file shelf file size now) k ≡ file_block file k) [
      | inl lt ↦ cut-before k lt false (not_shorter (nat_lt size file.size) (ends_within size k) (not (is_hole (file_block file k))) (grind (arith, nat_tests)))
      | inr ge ↦ let more = blocks_of-le file.size size le in cut-past k ge ∙ sym (file_block-past k (omega arith))
    ]

    holes_alike : (k : ℕ) (b : Bool) (block : Block) → (nat_lt size file.size && ends_within size k && not (is_hole block)) ≡ b → is_hole (if b then Here (padded_block cut_bytes k) else block) ≡ is_hole block
    holes_alike k false block e = refl
    holes_alike k true (Here bytes) e = refl
    holes_alike k true (Away serial position) e = refl
    holes_alike k true Hole e = none (nat_lt size file.size && ends_within size k) e
      where
        none : (c : Bool) → (c && false) ≡ true → false ≡ true
        none true e = e
        none false e = e

    -- holes stay holes, and no block before the new end becomes one
    pub cut-hole : (k : ℕ) → k < blocks_of size → is_hole (file_block (cut_file shelf file size now) k) ≡ is_hole (file_block file k)
    cut-hole k lt = ap is_hole (cut-before k lt (is_cut k) refl) ∙ holes_alike k (is_cut k) (file_block file k) refl

    -- before the block in which the file ends, none changes
    pub cut-earlier : (k : ℕ) → 4096 * k + 4096 ≤ size → file_block (cut_file shelf file size now) k ≡ file_block file k
    unfolding blocks_of ends_within
    cut-earlier k le = cut-before k (omega arith) false (both (nat_lt size file.size) (nat_lt (4096 * k) size) (nat_lt size (4096 * k + 4096)) (not (is_hole (file_block file k))) (late (4096 * k + 4096) le))
      where
        late : (m : ℕ) → m ≤ size → nat_lt size m ≡ false
        late m le = grind (arith, nat_tests)

        both : (a b c d : Bool) → c ≡ false → ((a && (b && c)) && d) ≡ false
        both true true c d e = rw e refl
        both true false c d e = refl
        both false b c d e = refl

    edge_here : (k : ℕ) (block : Block) (c : Bool) → c ≡ true → (if is_here (if c && not (is_hole block) then Here (padded_block cut_bytes k) else block) then 1 else 0)
        ≡ (if is_here block then 1 else 0) + (if is_away block then 1 else 0)
    edge_here k Hole true e = refl
    edge_here k (Here bytes) true e = refl
    edge_here k (Away serial position) true e = refl
    edge_here k block false e = cc

    -- the block in which the file ends is here, unless it is a hole
    pub cut-edge : size < file.size → 0 < size % 4096 → (if is_here (file_block (cut_file shelf file size now) (size / 4096)) then 1 else 0)
        ≡ (if is_here (file_block file (size / 4096)) then 1 else 0) + away_edge (file_block file) size
    unfolding blocks_of ends_within
    cut-edge less within =
        let lt : size / 4096 < blocks_of size = omega arith in
        ap (λ block. if is_here block then 1 else 0) (cut-before (size / 4096) lt (is_cut (size / 4096)) refl)
        ∙ edge_here (size / 4096) (file_block file (size / 4096)) (cuts file size (size / 4096)) ends
        ∙ ap (λ b. (if is_here (file_block file (size / 4096)) then 1 else 0) + (if b && is_away (file_block file (size / 4096)) then 1 else 0)) (sym (some (size % 4096) within))
      where
        some : (n : ℕ) → 0 < n → nat_lt 0 n ≡ true
        some n lt = grind (arith, nat_tests)

        all : (start : ℕ) → size < file.size → start < size → size < start + 4096 → (nat_lt size file.size && (nat_lt start size && nat_lt size (start + 4096))) ≡ true
        all start a b c = grind (arith, nat_tests)

        ends : cuts file size (size / 4096) ≡ true
        ends = all (4096 * (size / 4096)) less (omega arith) (omega arith)
