-- The blocks of a file that were counted so far, and those that were looked at.
use Rattle.std.proofs.Common.{◌≡◌, ℕ, ◌+◌, ◌-◌, ◌<◌, ◌≤◌, Bool, true, false, ◌⊎◌, inl, inr, Option, refl, sym, ◌∙◌, ap, subst, arith}
use Rattle.std.proofs.lemmas.Bool.{cases_lt}
use Rattle.hl_media.specs.History.{History}
use Rattle.hl_placed.specs.Blocks.{Away, Block, Here, Hole, PlacedFile, file_block, is_here, is_hole}
use Rattle.hl_store.specs.declared.answers.Placed.{Placed}
use Rattle.hl_store.specs.declared.answers.Placed.TheVariants as placed
use Rattle.hl_store.specs.Values.{StoreValue}
use Rattle.hl_store.specs.Lying.{block_of_number}
use Rattle.hl_store.specs.Finding.{BlockNow, FindsPlace, IsAwayAt, IsHere}
use Rattle.hl_ranges.specs.Files.{OfFile}
use Rattle.hl_calls.specs.Counting.{CountsHere, FindsBlocks}
use Rattle.hl_calls.specs.Residents.{TellsBlocks, here_below}
use Rattle.hl_calls.proofs.ResidentCounts.{here_below-more, one_if}
use Rattle.hl_calls.proofs.FileReads.{OnlyRead, of_block, of_file_before}

-- WHAT A PLACE SAYS of a block

here_is : (block : Block) → IsHere block → is_here block ≡ true
here_is Hole is = absurd is
here_is (Here bytes) is = refl
here_is (Away serial position) is = absurd is

here_no_hole : (block : Block) → IsHere block → is_hole block ≡ false
here_no_hole Hole is = absurd is
here_no_hole (Here bytes) is = refl
here_no_hole (Away serial position) is = absurd is

-- a place away
abbrev pub IsAwayPlace : Placed → Type 0
IsAwayPlace place = (tseg : ℕ) × (at : ℕ) × (place ≡ placed.Away tseg at)

module _ {M : Type 0} (v : StoreValue M) (tseg at : ℕ) where
  away_not_here : (block : Block) → IsAwayAt v tseg at block → is_here block ≡ false
  away_not_here Hole is = absurd is
  away_not_here (Here bytes) is = absurd is
  away_not_here (Away serial position) is = refl

  away_no_hole : (block : Block) → IsAwayAt v tseg at block → is_hole block ≡ false
  away_no_hole Hole is = absurd is
  away_no_hole (Here bytes) is = absurd is
  away_no_hole (Away serial position) is = refl

module _ {M : Type 0} (history : M → Option History) (faults : M → ℕ) (old new : StoreValue M) (ino i : ℕ) (place : Placed) (found : FindsPlace history faults old new ino i place) where
  -- here, a block is resident
  pub place_here : place ≡ placed.Here → BlockNow history old ino i (λ s block. is_here block ≡ true)
  place_here is = λ h e c lies. here_is (block_of_number old c ino i) (subst (FindsPlace history faults old new ino i) is found h e c lies)

  -- as a hole or away, none is
  pub place_not_here : (place ≡ placed.Hole) ⊎ IsAwayPlace place → BlockNow history old ino i (λ s block. is_here block ≡ false)
  place_not_here (inl is) = λ h e c lies. ap is_here (subst (FindsPlace history faults old new ino i) is found h e c lies)
  place_not_here (inr (tseg, at, is)) = λ h e c lies. away_not_here old tseg at (block_of_number old c ino i) (subst (FindsPlace history faults old new ino i) is found h e c lies)

  -- here or away, it is no hole
  pub place_no_hole : (place ≡ placed.Here) ⊎ IsAwayPlace place → BlockNow history old ino i (λ s block. is_hole block ≡ false)
  place_no_hole (inl is) = λ h e c lies. here_no_hole (block_of_number old c ino i) (subst (FindsPlace history faults old new ino i) is found h e c lies)
  place_no_hole (inr (tseg, at, is)) = λ h e c lies. away_no_hole old tseg at (block_of_number old c ino i) (subst (FindsPlace history faults old new ino i) is found h e c lies)

-- a block more is counted
one_more : (block : ℕ → Block) (from n count : ℕ) (b : Bool) → is_here (block n) ≡ b → here_below block from + count ≡ here_below block n → here_below block from + (count + one_if b) ≡ here_below block (n + 1)
one_more block from n count b is counts =
    let more = here_below-more block n in
    let last : one_if (is_here (block n)) ≡ one_if b = ap one_if is in
    omega (arith, more, last, counts)

-- a hole more is passed
hole_more : (block : ℕ → Block) (from n : ℕ) → is_hole (block n) ≡ true → TellsBlocks block from n false → TellsBlocks block from (n + 1) false
hole_more block from n is holes k low high = elim (cases_lt k n) as (λ _. is_hole (block k) ≡ true) [
  | inl lt ↦ holes k low lt
  | inr ge ↦ let e : k ≡ n = omega arith in ap (λ i. is_hole (block i)) e ∙ is
]

module _ {M : Type 0} {history : M → Option History} {blocks faults write_faults say_faults : M → ℕ} {old mid : StoreValue M} (behind : OnlyRead history blocks faults write_faults say_faults old mid) (ino from n : ℕ) where
  -- A COUNT GOES ON
  pub counted : (count next : ℕ) (b : Bool) → next ≡ count + one_if b → BlockNow history mid ino n (λ s block. is_here block ≡ b) → CountsHere history old ino from n count → CountsHere history old ino from (n + 1) next
  counted count next b is found counts = λ h e c lies shelf file lines has.
      ap (λ k. here_below (file_block file) from + k) is
      ∙ one_more (file_block file) from n count b
      (of_file_before behind ino (λ c shelf file. is_here (file_block file n) ≡ b) (of_block history mid ino n (λ block. is_here block ≡ b) found) h e c lies shelf file lines has)
      (counts h e c lies shelf file lines has)

  -- A SEARCH GOES ON past a hole
  pub passed_hole : BlockNow history mid ino n (λ s block. block ≡ Hole) → FindsBlocks history old ino from n false → FindsBlocks history old ino from (n + 1) false
  passed_hole found holes = λ h e c lies shelf file lines has.
      hole_more (file_block file) from n
      (ap is_hole (of_file_before behind ino (λ c shelf file. file_block file n ≡ Hole) (of_block history mid ino n (λ block. block ≡ Hole) found) h e c lies shelf file lines has))
      (holes h e c lies shelf file lines has)

  -- and ends at another block
  pub met : (end : ℕ) → from ≤ n → n < end → BlockNow history mid ino n (λ s block. is_hole block ≡ false) → FindsBlocks history old ino from end true
  met end low high found = λ h e c lies shelf file lines has.
      (n, low, high, of_file_before behind ino (λ c shelf file. is_hole (file_block file n) ≡ false) (of_block history mid ino n (λ block. is_hole block ≡ false) found) h e c lies shelf file lines has)
