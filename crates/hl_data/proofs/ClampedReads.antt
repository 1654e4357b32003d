-- A read from beyond the greatest size of a file is one from there.
use Rattle.std.proofs.Common.{arith, ◌≡◌, inl, inr, ℕ, ◌+◌, ◌*◌, ◌<◌, ◌≤◌, min, Bool, false, ◌&&◌, nat_lt, List, [], ◌∷◌, length, take, Option, None, refl, ◌∙◌, ap, sym}
use Rattle.std.specs.List.{cons_option, filter_map, range_with_len}
use Rattle.std.proofs.lemmas.Bool.{cases_lt, le-ltb}
use Rattle.std.proofs.lemmas.List.{drop_all}
use Rattle.hl_tree.specs.Contents.{read_at}
use Rattle.hl_placed.specs.Blocks.{Away, Block, Here, Hole, PlacedFile, Shelf, file_block, plain_bytes}
use Rattle.hl_placed.specs.Calls.{read_needs, serial_if, serials}
use Rattle.hl_placed.specs.Changes.{meets}
use Rattle.hl_placed.proofs.Changes.{length-plain_bytes}

-- a block that isn't picked has no serial
serial-unpicked : (block : Block) → serial_if false block ≡ None
serial-unpicked Hole = refl
serial-unpicked (Here bytes) = refl
serial-unpicked (Away serial position) = refl

-- where no block is picked none has
pub serials-none : (picked : ℕ → Bool) → ((i : ℕ) → picked i ≡ false) → (file : PlacedFile) → serials picked file ≡ []
serials-none picked none file = all (range_with_len 0 (length file.blocks))
  where
    all : (is : List ℕ) → filter_map (λ i. serial_if (picked i) (file_block file i)) is ≡ []
    all [] = refl
    all (i ∷ is) = ap (λ (b : Bool). cons_option (serial_if b (file_block file i)) (filter_map (λ i. serial_if (picked i) (file_block file i)) is)) (none i)
        ∙ ap (λ (o : Option ℕ). cons_option o (filter_map (λ i. serial_if (picked i) (file_block file i)) is)) (serial-unpicked (file_block file i))
        ∙ all is

-- no block has a byte from one up to an earlier one
pub meets-none : (from to i : ℕ) → to ≤ from → meets from to i ≡ false
unfolding meets
meets-none from to i le = ap (λ (b : Bool). b && (nat_lt (4096 * i) to && nat_lt from (4096 * i + 4096))) (le-ltb from to le)

module _ (at most len : ℕ) where
  -- the bytes are the same
  pub read_at-clamped : (bytes : List ℕ) → length bytes ≤ most → read_at bytes (min at most) len ≡ read_at bytes at len
  unfolding read_at
  read_at-clamped bytes short = elim (cases_lt most at) as (λ _. read_at bytes (min at most) len ≡ read_at bytes at len) [
    | inl past ↦ ap (λ (xs : List ℕ). take (min len 32768) xs) (drop_all (min at most) bytes (omega arith) ∙ sym (drop_all at bytes (omega arith)))
    | inr low ↦ let same : min at most ≡ at = omega arith in ap (λ (n : ℕ). read_at bytes n len) same
  ]

  -- so are the segments that are needed
  pub read_needs-clamped : (file : PlacedFile) → file.size ≤ most → read_needs (min at most) len file ≡ read_needs at len file
  read_needs-clamped file short = elim (cases_lt most at) as (λ _. read_needs (min at most) len file ≡ read_needs at len file) [
    | inl past ↦ beyond past
    | inr low ↦ let same : min at most ≡ at = omega arith in ap (λ (n : ℕ). read_needs n len file) same
  ]
    where
      beyond : most < at → read_needs (min at most) len file ≡ read_needs at len file
      beyond past =
          let same : (i : ℕ) → meets (min at most) (min (min at most + min len 32768) file.size) i ≡ meets at (min (at + min len 32768) file.size) i =
          λ i. meets-none (min at most) (min (min at most + min len 32768) file.size) i (omega arith) ∙ sym (meets-none at (min (at + min len 32768) file.size) i (omega arith)) in
          λ i. serials (λ k. same k i) file

  -- by the bytes of a file
  pub read_bytes-clamped : (shelf : Shelf) (file : PlacedFile) → file.size ≤ most → read_at (plain_bytes shelf file) (min at most) len ≡ read_at (plain_bytes shelf file) at len
  read_bytes-clamped shelf file short =
      let long : length (plain_bytes shelf file) ≡ file.size = length-plain_bytes shelf file in
      read_at-clamped (plain_bytes shelf file) (omega arith)
