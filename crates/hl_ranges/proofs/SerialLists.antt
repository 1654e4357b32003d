-- The serials of the blocks below one.
use Rattle.std.proofs.Common.{◌≡◌, ℕ, zero, suc, ◌+◌, ◌-◌, ◌<◌, ◌≤◌, Bool, false, List, [], ◌∷◌, ◌++◌, length, Option, Some, None, refl, sym, ◌∙◌, ap, arith}
use Rattle.std.proofs.Common.{inl, inr}
use Rattle.std.proofs.lemmas.Bool.{cases_lt}
use Rattle.std.specs.List.{filter_map, cons_option, range_with_len}
use Rattle.std.proofs.lemmas.List.{append-nil, get_or_past}
use Rattle.std.proofs.lemmas.List.Elements.{filter_map-append}
use Rattle.std.proofs.lemmas.Option.{none-some}
use Rattle.hl_placed.specs.Blocks.{Away, Block, Here, Hole, PlacedFile, file_block}
use Rattle.hl_placed.specs.Calls.{serial_if, serials}

-- a range is its beginning, and the range behind
pub range-plus : (a m n : ℕ) → range_with_len a (m + n) ≡ range_with_len a m ++ range_with_len (a + m) n
range-plus a zero n = let e : a + 0 ≡ a = omega arith in let z : 0 + n ≡ n = omega arith in rw (e, z) refl
range-plus a (suc m) n =
    let e : a + suc m ≡ (a + 1) + m = omega arith in
    let s : suc m + n ≡ suc (m + n) = omega arith in
    rw (s, e) (ap (λ (xs : List ℕ). a ∷ xs) (range-plus (a + 1) m n))

-- a block that isn't picked has no serial
pub unpicked_block : (block : Block) → serial_if false block ≡ None
unpicked_block Hole = refl
unpicked_block (Here bytes) = refl
unpicked_block (Away serial position) = refl

module _ (picked : ℕ → Bool) (file : PlacedFile) where
  -- the serial of block i, if it is away and picked
  abbrev pub serial_at : ℕ → Option ℕ
  serial_at i = serial_if (picked i) (file_block file i)

  -- those of the n blocks from one on
  abbrev pub serials_from : ℕ → ℕ → List ℕ
  serials_from a n = filter_map serial_at (range_with_len a n)

  -- those of the blocks below n
  abbrev pub serials_below : ℕ → List ℕ
  serials_below n = serials_from 0 n

  -- the serials of m blocks, and of the n behind
  pub serials_from-plus : (a m n : ℕ) → serials_from a (m + n) ≡ serials_from a m ++ serials_from (a + m) n
  serials_from-plus a m n = ap (filter_map serial_at) (range-plus a m n) ∙ filter_map-append serial_at (range_with_len a m) (range_with_len (a + m) n)

  -- where no block has one, there are none
  pub serials_from-none : (a n : ℕ) → ((k : ℕ) → a ≤ k → k < a + n → serial_at k ≡ None) → serials_from a n ≡ []
  serials_from-none a zero none = refl
  serials_from-none a (suc n) none =
      ap (λ (o : Option ℕ). cons_option o (serials_from (a + 1) n)) (none a (omega arith) (omega arith))
      ∙ serials_from-none (a + 1) n (λ k low high. none k (omega arith) (omega arith))

  -- the blocks between two have none
  pub serials_below-skip : (m n : ℕ) → m ≤ n → ((k : ℕ) → m ≤ k → k < n → serial_at k ≡ None) → serials_below n ≡ serials_below m
  serials_below-skip m n le none =
      let e : n ≡ m + (n - m) = omega arith in
      ap serials_below e ∙ serials_from-plus 0 m (n - m)
      ∙ ap (λ (xs : List ℕ). serials_below m ++ xs) (serials_from-none (0 + m) (n - m) (λ k low high. none k (omega arith) (omega arith)))
      ∙ append-nil (serials_below m)

  -- one block more
  pub serials_below-more : (n : ℕ) → serials_below (n + 1) ≡ serials_below n ++ cons_option (serial_at n) []
  serials_below-more n = let e : 0 + n ≡ n = omega arith in rw (serials_from-plus 0 n 1, e) refl

  -- a block past the end has none
  pub serial_at-past : (k : ℕ) → length file.blocks ≤ k → serial_at k ≡ None
  serial_at-past k past = ap (λ (block : Block). serial_if (picked k) block) (get_or_past file.blocks k Hole past)

  -- those below one from which on no block is picked are all
  pub serials-from_below : (n : ℕ) → ((k : ℕ) → n ≤ k → serial_at k ≡ None) → serials picked file ≡ serials_below n
  serials-from_below n none = elim (cases_lt n (length file.blocks)) as (λ _. serials picked file ≡ serials_below n) [
    | inl less ↦ serials_below-skip n (length file.blocks) (omega arith) (λ k low high. none k low)
    | inr ge ↦ sym (serials_below-skip (length file.blocks) n ge (λ k low high. serial_at-past k low))
  ]

  -- a block within the file has blocks before and behind
  around : (n m serial : ℕ) → length file.blocks ≡ n + suc m → serial_at n ≡ Some serial → serials picked file ≡ serials_below n ++ serial ∷ serials_from (n + 1) m
  around n m serial long has =
      let e : 0 + n ≡ n = omega arith in
      ap serials_below long ∙ serials_from-plus 0 n (suc m)
      ∙ rw e (ap (λ (o : Option ℕ). serials_below n ++ cons_option o (serials_from (n + 1) m)) has)

  -- the serials before a block that has one, that, and those behind
  pub serials-around : (n serial : ℕ) → serial_at n ≡ Some serial → (behind : List ℕ) × (serials picked file ≡ serials_below n ++ serial ∷ behind)
  serials-around n serial has = elim (cases_lt n (length file.blocks)) as (λ _. (behind : List ℕ) × (serials picked file ≡ serials_below n ++ serial ∷ behind)) [
    | inl less ↦ (serials_from (n + 1) (length file.blocks - n - 1), around n (length file.blocks - n - 1) serial (omega arith) has)
    | inr past ↦ absurd (none-some serial (sym (serial_at-past n past) ∙ has))
  ]

-- a block that isn't picked has no serial
pub unpicked : (picked : ℕ → Bool) (file : PlacedFile) (k : ℕ) → picked k ≡ false → serial_at picked file k ≡ None
unpicked picked file k is = ap (λ (b : Bool). serial_if b (file_block file k)) is ∙ unpicked_block (file_block file k)
