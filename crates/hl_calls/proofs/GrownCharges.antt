-- How much a write and a cut change what a file is charged.
use Rattle.std.proofs.Common.{◌≡◌, ◌⊎◌, inl, inr, ℕ, zero, suc, ◌+◌, ◌-◌, ◌*◌, ◌/◌, ◌%◌, ◌<◌, ◌≤◌, Bool, true, false, true≢false, ◌&&◌, not, nat_lt, if◌then◌else◌, List, length, refl, sym, ◌∙◌, ap, subst, arith}
use Rattle.std.proofs.lemmas.Bool.{cases_lt}
use Rattle.std.proofs.lemmas.Bool.Decides.{nat_tests}
use Rattle.hl_placed.specs.Blocks.{Away, Block, Here, Hole, IsPlacedFile, PlacedFile, Shelf, blocks_of, file_block, is_here, is_hole}
use Rattle.hl_placed.specs.Changes.{cut_file, written_file}
use Rattle.hl_placed.specs.Charges.{blocks_charge, parts_charge}
use Rattle.hl_calls.specs.Residents.{TellsBlocks, away_edge, here_below, is_away}
use Rattle.hl_calls.proofs.ResidentCounts.{charge-parts, here_below-alike, here_below-all, here_below-more, here_below-none, one_if, tells, tells-alike, tells-past}
use Rattle.hl_calls.proofs.ChangedBlocks.{blocks_of-le, blocks_then, blocks_then-end, blocks_then-old, cut-earlier, cut-edge, cut-hole, cut-longer, file_block-past, length-cut_file, length-written_file, written-other, written-touched}

none_yet : (block : ℕ → Block) → here_below block 0 ≡ 0
unfolding here_below
none_yet block = refl

-- blocks that are alike from one up to another
alike : (one other : ℕ → Block) (from to : ℕ) → from ≤ to → ((k : ℕ) → from ≤ k → k < to → one k ≡ other k) → here_below one to + here_below other from ≡ here_below other to + here_below one from
alike one other from to le same =
    let all : from + (to - from) ≡ to = omega arith in
    subst (λ n. here_below one n + here_below other from ≡ here_below other n + here_below one from) all
    (here_below-alike one other from (to - from) (λ k low high. ap is_here (same k low (omega arith))))

-- blocks that are alike up to one
alike_to : (one other : ℕ → Block) (to : ℕ) → ((k : ℕ) → k < to → one k ≡ other k) → here_below one to ≡ here_below other to
alike_to one other to same =
    let both = alike one other 0 to (omega arith) (λ k low high. same k high) in
    let a = none_yet one in
    let b = none_yet other in
    omega (arith, both, a, b)

-- resident blocks from one up to another
all_here : (block : ℕ → Block) (from to : ℕ) → from ≤ to → ((k : ℕ) → from ≤ k → k < to → is_here (block k) ≡ true) → here_below block to ≡ here_below block from + (to - from)
all_here block from to le each =
    let all : from + (to - from) ≡ to = omega arith in
    subst (λ n. here_below block n ≡ here_below block from + (to - from)) all (here_below-all block from (to - from) (λ k low high. each k low (omega arith)))

here_no_hole : (block : Block) → is_here block ≡ true → is_hole block ≡ false
here_no_hole Hole e = sym e
here_no_hole (Here bytes) e = refl
here_no_hole (Away serial position) e = refl

same_parts : (b : Bool) (before after touched here : ℕ) → here ≤ touched → after + here ≡ before + touched → parts_charge b after + 0 ≡ parts_charge b before + (touched - here)
same_parts true before after touched here le e = omega arith
same_parts false before after touched here le e = omega arith

new_parts : (b : Bool) (before after touched here : ℕ) → here ≤ touched → after + here ≡ before + touched → parts_charge true after + 0 ≡ parts_charge b before + (if b then touched - here else touched - here + 1)
new_parts true before after touched here le e = omega arith
new_parts false before after touched here le e = omega arith

-- A WRITE of some bytes, where so many of the blocks that they touch are resident
module _ (shelf : Shelf) (file : PlacedFile) (is : IsPlacedFile shelf file) (at : ℕ) (bytes : List ℕ) (now : ℕ) (some : 0 < length bytes)
    (here : ℕ) (few : here ≤ blocks_of (at + length bytes) - at / 4096)
    (counts : here_below (file_block file) (at / 4096) + here ≡ here_below (file_block file) (blocks_of (at + length bytes))) where
  abbrev new_blocks : ℕ → Block
  new_blocks = file_block (written_file shelf file at bytes now)

  abbrev most : ℕ
  most = blocks_then shelf file is at bytes now some

  in_order : at / 4096 ≤ blocks_of (at + length bytes)
  unfolding blocks_of
  in_order = omega arith

  last_touched : at / 4096 ≤ blocks_of (at + length bytes) - 1
  unfolding blocks_of
  last_touched = omega arith

  count-written : here_below new_blocks most + here ≡ here_below (file_block file) most + (blocks_of (at + length bytes) - at / 4096)
  count-written =
      let before = alike_to new_blocks (file_block file) (at / 4096) (λ k lt. written-other shelf file is at bytes now some k (inl lt)) in
      let within = all_here new_blocks (at / 4096) (blocks_of (at + length bytes)) in_order (λ k low high. written-touched shelf file is at bytes now some k low high) in
      let behind = alike new_blocks (file_block file) (blocks_of (at + length bytes)) most (blocks_then-end shelf file is at bytes now some) (λ k low high. written-other shelf file is at bytes now some k (inr low)) in
      omega (arith, before, within, behind, counts)

  length-old : length file.blocks ≤ most
  length-old = let e = is.count in let le = blocks_then-old shelf file is at bytes now some in omega arith

  length-new : length (written_file shelf file at bytes now).blocks ≤ most
  length-new = let e = length-written_file shelf file is at bytes now some in omega arith

  -- within the first 12 blocks
  pub write_grows-direct : blocks_of (at + length bytes) ≤ 12
      → blocks_charge (written_file shelf file at bytes now).blocks + 0 ≡ blocks_charge file.blocks + (blocks_of (at + length bytes) - at / 4096 - here)
  write_grows-direct low =
      let b = (tells (file_block file) 12 most).0 in
      let old : blocks_charge file.blocks ≡ parts_charge b (here_below (file_block file) most) = charge-parts file.blocks most b length-old (tells (file_block file) 12 most).1 in
      let new : blocks_charge (written_file shelf file at bytes now).blocks ≡ parts_charge b (here_below new_blocks most) =
      charge-parts (written_file shelf file at bytes now).blocks most b length-new
      (tells-alike (file_block file) new_blocks 12 most (λ k from lt. ap is_hole (written-other shelf file is at bytes now some k (inr (omega arith)))) b (tells (file_block file) 12 most).1) in
      let grown = same_parts b (here_below (file_block file) most) (here_below new_blocks most) (blocks_of (at + length bytes) - at / 4096) here few count-written in
      ap (λ n. n + 0) new ∙ grown ∙ ap (λ n. n + (blocks_of (at + length bytes) - at / 4096 - here)) (sym old)

  -- past them, where the file has a pointer block, or none
  pub write_grows-far : (b : Bool) → 12 < blocks_of (at + length bytes) → TellsBlocks (file_block file) 12 (blocks_of file.size) b
      → blocks_charge (written_file shelf file at bytes now).blocks + 0 ≡ blocks_charge file.blocks
      + (if b then blocks_of (at + length bytes) - at / 4096 - here else blocks_of (at + length bytes) - at / 4096 - here + 1)
  write_grows-far b far told =
      let told_most = tells-past (file_block file) 12 (blocks_of file.size) most (blocks_then-old shelf file is at bytes now some) (λ k le. ap is_hole (file_block-past shelf file is k le)) b told in
      let old : blocks_charge file.blocks ≡ parts_charge b (here_below (file_block file) most) = charge-parts file.blocks most b length-old told_most in
      let reach = blocks_then-end shelf file is at bytes now some in
      let last : at / 4096 ≤ blocks_of (at + length bytes) - 1 = last_touched in
      let new : blocks_charge (written_file shelf file at bytes now).blocks ≡ parts_charge true (here_below new_blocks most) =
      charge-parts (written_file shelf file at bytes now).blocks most true length-new
      (blocks_of (at + length bytes) - 1, omega arith, omega arith, here_no_hole (new_blocks (blocks_of (at + length bytes) - 1)) (written-touched shelf file is at bytes now some (blocks_of (at + length bytes) - 1) last (omega arith))) in
      let grown = new_parts b (here_below (file_block file) most) (here_below new_blocks most) (blocks_of (at + length bytes) - at / 4096) here few count-written in
      ap (λ n. n + 0) new ∙ grown ∙ ap (λ n. n + (if b then blocks_of (at + length bytes) - at / 4096 - here else blocks_of (at + length bytes) - at / 4096 - here + 1)) (sym old)

-- A CUT to a size
module _ (shelf : Shelf) (file : PlacedFile) (is : IsPlacedFile shelf file) (size now : ℕ) where
  abbrev cut_blocks : ℕ → Block
  cut_blocks = file_block (cut_file shelf file size now)

  -- of a file that is no longer than that
  pub cut_grows-none : file.size ≤ size → blocks_charge (cut_file shelf file size now).blocks + 0 ≡ blocks_charge file.blocks + 0
  cut_grows-none le =
      let b = (tells (file_block file) 12 (blocks_of size)).0 in
      let told = (tells (file_block file) 12 (blocks_of size)).1 in
      let count = is.count in
      let more = blocks_of-le file.size size le in
      let long = length-cut_file shelf file is size now in
      let same = alike_to cut_blocks (file_block file) (blocks_of size) (λ k lt. cut-longer shelf file is size now le k) in
      ap (λ n. n + 0) (charge-parts (cut_file shelf file size now).blocks (blocks_of size) b (omega arith) (tells-alike (file_block file) cut_blocks 12 (blocks_of size) (λ k low high. ap is_hole (cut-longer shelf file is size now le k)) b told)
      ∙ ap (parts_charge b) same
      ∙ sym (charge-parts file.blocks (blocks_of size) b (omega arith) told))

  even_edge : size % 4096 ≡ 0 → away_edge (file_block file) size ≡ 0
  even_edge e = rw e refl

  -- how many resident blocks are left
  count-cut : size < file.size → here_below cut_blocks (blocks_of size) ≡ here_below (file_block file) (blocks_of size) + away_edge (file_block file) size
  unfolding blocks_of
  count-cut less = elim (cases_lt 0 (size % 4096)) as (λ _. here_below cut_blocks (blocks_of size) ≡ here_below (file_block file) (blocks_of size) + away_edge (file_block file) size) [
    | inl within ↦
        let before = alike_to cut_blocks (file_block file) (size / 4096) (λ k lt. cut-earlier shelf file is size now k (omega arith)) in
        let next : blocks_of size ≡ size / 4096 + 1 = omega arith in
        let last : one_if (is_here (cut_blocks (size / 4096))) ≡ one_if (is_here (file_block file (size / 4096))) + away_edge (file_block file) size = cut-edge shelf file is size now less within in
        let new = here_below-more cut_blocks (size / 4096) in
        let old = here_below-more (file_block file) (size / 4096) in
        subst (λ n. here_below cut_blocks n ≡ here_below (file_block file) n + away_edge (file_block file) size) (sym next)
        (reckon (here_below cut_blocks (size / 4096 + 1)) (here_below cut_blocks (size / 4096)) (one_if (is_here (cut_blocks (size / 4096)))) (here_below (file_block file) (size / 4096 + 1)) (here_below (file_block file) (size / 4096)) (one_if (is_here (file_block file (size / 4096)))) (away_edge (file_block file) size) new old before last)
    | inr even ↦
        let zero_rest : size % 4096 ≡ 0 = omega arith in
        let none = even_edge zero_rest in
        let same = alike_to cut_blocks (file_block file) (blocks_of size) (λ k lt. cut-earlier shelf file is size now k (omega arith)) in
        omega (arith, none, same)
  ]
    where
      reckon : (new new' one old old' other edge : ℕ) → new ≡ new' + one → old ≡ old' + other → new' ≡ old' → one ≡ other + edge → new ≡ old + edge
      reckon new new' one old old' other edge a b c d = omega arith

  -- of a longer file, with so many resident blocks past the new end
  pub cut_grows : size < file.size → (gone : ℕ) → here_below (file_block file) (blocks_of size) + gone ≡ here_below (file_block file) (blocks_of file.size)
      → (had has : Bool) → TellsBlocks (file_block file) 12 (blocks_of file.size) had → TellsBlocks (file_block file) 12 (blocks_of size) has
      → blocks_charge (cut_file shelf file size now).blocks + (if had && not has then gone + 1 else gone) ≡ blocks_charge file.blocks + away_edge (file_block file) size
  cut_grows less gone counts had has told told_kept =
      let count = is.count in
      let long = length-cut_file shelf file is size now in
      let old : blocks_charge file.blocks ≡ parts_charge had (here_below (file_block file) (blocks_of file.size)) = charge-parts file.blocks (blocks_of file.size) had (omega arith) told in
      let new : blocks_charge (cut_file shelf file size now).blocks ≡ parts_charge has (here_below cut_blocks (blocks_of size)) =
      charge-parts (cut_file shelf file size now).blocks (blocks_of size) has (omega arith) (tells-alike (file_block file) cut_blocks 12 (blocks_of size) (λ k low high. cut-hole shelf file is size now k high) has told_kept) in
      ap (λ n. n + (if had && not has then gone + 1 else gone)) new
      ∙ by had has (both had has told told_kept) (here_below cut_blocks (blocks_of size)) (here_below (file_block file) (blocks_of size)) (here_below (file_block file) (blocks_of file.size)) (away_edge (file_block file) size) (count-cut less) counts
      ∙ ap (λ n. n + away_edge (file_block file) size) (sym old)
    where
      fewer : blocks_of size ≤ blocks_of file.size
      fewer = blocks_of-le size file.size (omega arith)

      -- a block that is left was there
      both : (had has : Bool) → TellsBlocks (file_block file) 12 (blocks_of file.size) had → TellsBlocks (file_block file) 12 (blocks_of size) has → has ≡ true → had ≡ true
      both true has told told_kept e = refl
      both false false told told_kept e = e
      both false true holes (k, low, high, some) e = let le = fewer in absurd (true≢false (sym (holes k low (omega arith)) ∙ some))

      by : (had has : Bool) → (has ≡ true → had ≡ true) → (new kept old edge : ℕ) → new ≡ kept + edge → kept + gone ≡ old
          → parts_charge has new + (if had && not has then gone + 1 else gone) ≡ parts_charge had old + edge
      by true true so new kept old edge a b = omega arith
      by true false so new kept old edge a b = omega arith
      by false false so new kept old edge a b = omega arith
      by false true so new kept old edge a b = absurd (true≢false (sym (so refl)))
