-- How much a write and a cut change what a file of a store is charged.
use Rattle.std.proofs.Common.{◌≡◌, ◌⊎◌, inl, inr, ℕ, ◌+◌, ◌-◌, ◌/◌, ◌<◌, ◌≤◌, Bool, true, false, ◌&&◌, not, if◌then◌else◌, List, length, Option, refl, sym, ◌∙◌, ap, subst, arith}
use Rattle.std.specs.Int.{div_ceil}
use Rattle.hl_media.specs.History.{History}
use Rattle.hl_placed.specs.Blocks.{PlacedFile, Shelf, blocks_of, file_block}
use Rattle.hl_placed.specs.Changes.{cut_file, written_file}
use Rattle.hl_placed.specs.Charges.{blocks_charge}
use Rattle.hl_store.specs.Values.{StoreValue}
use Rattle.hl_ranges.specs.Files.{OfFile}
use Rattle.hl_calls.specs.declared.growth.Growth.{Growth}
use Rattle.hl_calls.specs.Counting.{CountsEdge, CountsHere, FindsBlocks, HasCount, HasSize}
use Rattle.hl_calls.specs.Growths.{GrowsByCut, GrowsByWrite}
use Rattle.hl_calls.specs.Residents.{TellsBlocks, away_edge, here_below}
use Rattle.hl_calls.proofs.GrownCharges.{cut_grows, cut_grows-none, write_grows-direct, write_grows-far}

-- a count of blocks by a size
pub count_of : {M : Type 0} (history : M → Option History) (v : StoreValue M) (ino size count : ℕ) → count ≡ div_ceil size 4096 → HasSize history v ino size → HasCount history v ino count
unfolding blocks_of
count_of history v ino size count is has_size = λ h e c lies shelf file lines has. is ∙ ap (λ n. div_ceil n 4096) (has_size h e c lies shelf file lines has)

-- a choice by a test whose outcome is known
pub chosen : (b : Bool) (x y : ℕ) → b ≡ true → x ≡ (if b then x else y)
chosen true x y e = refl
chosen false x y e = cc

pub other_chosen : (b : Bool) (x y : ℕ) → b ≡ false → y ≡ (if b then x else y)
other_chosen false x y e = refl
other_chosen true x y e = cc

-- whether a pointer block is lost
pub none_left : (had left : Bool) → had ≡ true → left ≡ false → (had && not left) ≡ true
none_left true false e f = refl
none_left true true e f = cc
none_left false left e f = cc

pub some_left : (had left : Bool) → (had ≡ false) ⊎ (left ≡ true) → (had && not left) ≡ false
some_left false left why = refl
some_left true true why = refl
some_left true false (inl e) = cc
some_left true false (inr e) = cc

module _ {M : Type 0} (history : M → Option History) (v : StoreValue M) (ino at : ℕ) (bytes : List ℕ) (some : 0 < length bytes) (end here : ℕ) (is_end : end ≡ blocks_of (at + length bytes))
    (few : here ≤ end - at / 4096) (counts : CountsHere history v ino (at / 4096) end here) where
  few_touched : here ≤ blocks_of (at + length bytes) - at / 4096
  few_touched = subst (λ n. here ≤ n - at / 4096) is_end few

  -- A WRITE within the first 12 blocks
  pub write_direct : end ≤ 12 → GrowsByWrite history v ino at bytes (record { added = end - at / 4096 - here; removed = 0 })
  write_direct low now = λ h e c lies shelf file lines has.
      subst (λ n. blocks_charge (written_file shelf file at bytes now).blocks + 0 ≡ blocks_charge file.blocks + (n - at / 4096 - here)) (sym is_end)
      (write_grows-direct shelf file has.placed at bytes now some here few_touched
      (subst (λ n. here_below (file_block file) (at / 4096) + here ≡ here_below (file_block file) n) is_end (counts h e c lies shelf file lines has))
      (subst (λ n. n ≤ 12) is_end low))

  -- past them
  pub write_far : (blocks : ℕ) (b : Bool) (added : ℕ) → 12 < end → HasCount history v ino blocks → FindsBlocks history v ino 12 blocks b
      → added ≡ (if b then end - at / 4096 - here else end - at / 4096 - here + 1) → GrowsByWrite history v ino at bytes (record { added = added; removed = 0 })
  write_far blocks b added far has_count found is now = λ h e c lies shelf file lines has.
      let told : TellsBlocks (file_block file) 12 (blocks_of file.size) b = subst (λ n. TellsBlocks (file_block file) 12 n b) (has_count h e c lies shelf file lines has) (found h e c lies shelf file lines has) in
      write_grows-far shelf file has.placed at bytes now some here few_touched
      (subst (λ n. here_below (file_block file) (at / 4096) + here ≡ here_below (file_block file) n) is_end (counts h e c lies shelf file lines has))
      b (subst (λ n. 12 < n) is_end far) told
      ∙ ap (λ n. blocks_charge file.blocks + n) (sym (is ∙ ap (λ n. if b then n - at / 4096 - here else n - at / 4096 - here + 1) is_end))

module _ {M : Type 0} (history : M → Option History) (v : StoreValue M) (ino size before : ℕ) (has_size : HasSize history v ino before) where
  -- A CUT to a size that a file doesn't exceed
  pub cut_none : before ≤ size → GrowsByCut history v ino size (record { added = 0; removed = 0 })
  cut_none le now = λ h e c lies shelf file lines has.
      cut_grows-none shelf file has.placed size now (subst (λ n. n ≤ size) (has_size h e c lies shelf file lines has) le)

  -- to one that it exceeds
  pub cut_some : (end kept gone added : ℕ) (had left : Bool) (removed : ℕ) → size < before → end ≡ blocks_of before → kept ≡ blocks_of size
      → CountsHere history v ino kept end gone → CountsEdge history v ino size added → FindsBlocks history v ino 12 end had → FindsBlocks history v ino 12 kept left
      → removed ≡ (if had && not left then gone + 1 else gone) → GrowsByCut history v ino size (record { added = added; removed = removed })
  cut_some end kept gone added had left removed less is_end is_kept counts edge found found_left is now = λ h e c lies shelf file lines has.
      let size_is = has_size h e c lies shelf file lines has in
      let end_is : end ≡ blocks_of file.size = is_end ∙ ap blocks_of size_is in
      ap (λ n. blocks_charge (cut_file shelf file size now).blocks + n) is
      ∙ cut_grows shelf file has.placed size now (subst (λ n. size < n) size_is less) gone
      (subst (λ n. here_below (file_block file) n + gone ≡ here_below (file_block file) (blocks_of file.size)) is_kept
      (subst (λ n. here_below (file_block file) kept + gone ≡ here_below (file_block file) n) end_is (counts h e c lies shelf file lines has)))
      had left
      (subst (λ n. TellsBlocks (file_block file) 12 n had) end_is (found h e c lies shelf file lines has))
      (subst (λ n. TellsBlocks (file_block file) 12 n left) is_kept (found_left h e c lies shelf file lines has))
      ∙ ap (λ n. blocks_charge file.blocks + n) (sym (edge h e c lies shelf file lines has))
