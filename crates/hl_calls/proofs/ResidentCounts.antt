-- How many resident blocks a list has, and what blocks are charged by that.
use Rattle.std.proofs.Common.{◌≡◌, ℕ, zero, suc, ◌+◌, ◌-◌, ◌<◌, ◌≤◌, Bool, true, false, true≢false, cond, not, ◌||◌, if◌then◌else◌, List, [], ◌∷◌, length, drop, get_or, refl, sym, ◌∙◌, ap, subst, inl, inr, arith, length-drop, get_or-drop}
use Rattle.std.specs.List.{count_by, list_any, sum_by}
use Rattle.std.proofs.lemmas.Bool.{cases_lt}
use Rattle.std.proofs.lemmas.List.{get_or_past}
use Rattle.std.proofs.lemmas.List.Folds.{list_any_at}
use Rattle.std.proofs.lemmas.List.Sums.{sum_by-cons}
use Rattle.hl_placed.specs.Blocks.{Block, Hole, is_here, is_hole}
use Rattle.hl_placed.specs.Charges.{blocks_charge, parts_charge}
use Rattle.hl_calls.specs.Residents.{TellsBlocks, here_below}

-- one, if it is so
abbrev pub one_if : Bool → ℕ
one_if b = if b then 1 else 0

module _ (block : ℕ → Block) where
  -- the blocks before one, and that
  pub here_below-more : (n : ℕ) → here_below block (n + 1) ≡ here_below block n + one_if (is_here (block n))
  unfolding here_below
  here_below-more n = let e : n + 1 ≡ suc n = omega arith in rw e refl

  -- the first block, and those behind
  here_below-first : (n : ℕ) → here_below block (suc n) ≡ one_if (is_here (block 0)) + here_below (λ i. block (suc i)) n
  unfolding here_below
  here_below-first zero = omega arith
  here_below-first (suc n) = let e = here_below-first n in omega (arith, e)

module _ (one other : ℕ → Block) (from : ℕ) where
  -- where blocks are resident alike, equally many are
  pub here_below-alike : (n : ℕ) → ((k : ℕ) → from ≤ k → k < from + n → is_here (one k) ≡ is_here (other k))
      → here_below one (from + n) + here_below other from ≡ here_below other (from + n) + here_below one from
  here_below-alike zero same = let e : from + 0 ≡ from = omega arith in rw e (omega arith)
  here_below-alike (suc n) same =
      let next : from + suc n ≡ from + n + 1 = omega arith in
      let more = here_below-more one (from + n) in
      let others = here_below-more other (from + n) in
      let rest = here_below-alike n (λ k low high. same k low (omega arith)) in
      let last : one_if (is_here (one (from + n))) ≡ one_if (is_here (other (from + n))) = ap one_if (same (from + n) (omega arith) (omega arith)) in
      rw next (omega (arith, more, others, rest, last))

module _ (block : ℕ → Block) (from : ℕ) where
  -- where each is resident, all are
  pub here_below-all : (n : ℕ) → ((k : ℕ) → from ≤ k → k < from + n → is_here (block k) ≡ true) → here_below block (from + n) ≡ here_below block from + n
  here_below-all zero each = let e : from + 0 ≡ from = omega arith in rw e (omega arith)
  here_below-all (suc n) each =
      let next : from + suc n ≡ from + n + 1 = omega arith in
      let more = here_below-more block (from + n) in
      let rest = here_below-all n (λ k low high. each k low (omega arith)) in
      let last : one_if (is_here (block (from + n))) ≡ 1 = ap one_if (each (from + n) (omega arith) (omega arith)) in
      rw next (omega (arith, more, rest, last))

  -- where none is, none is
  pub here_below-none : (n : ℕ) → ((k : ℕ) → from ≤ k → k < from + n → is_here (block k) ≡ false) → here_below block (from + n) ≡ here_below block from
  here_below-none zero each = let e : from + 0 ≡ from = omega arith in rw e refl
  here_below-none (suc n) each =
      let next : from + suc n ≡ from + n + 1 = omega arith in
      let more = here_below-more block (from + n) in
      let rest = here_below-none n (λ k low high. each k low (omega arith)) in
      let last : one_if (is_here (block (from + n))) ≡ 0 = ap one_if (each (from + n) (omega arith) (omega arith)) in
      rw next (omega (arith, more, rest, last))

-- no more are resident than there are
pub here_below-most : (block : ℕ → Block) (n : ℕ) → here_below block n ≤ n
unfolding here_below
here_below-most block zero = omega arith
here_below-most block (suc n) = elim (is_here (block n)) as (λ b. here_below block n + one_if b ≤ suc n) [
  | true ↦ let e = here_below-most block n in omega (arith, e)
  | false ↦ let e = here_below-most block n in omega (arith, e)
]

-- block i of a list, and a hole past its end
abbrev pub block_at : List Block → ℕ → Block
block_at blocks i = get_or blocks i Hole

-- the resident blocks of a list
count-all : (blocks : List Block) → count_by is_here blocks ≡ here_below (block_at blocks) (length blocks)
unfolding here_below
count-all [] = refl
count-all (b ∷ blocks) =
    sum_by-cons (λ block. cond (is_here block) 1 0) b blocks
    ∙ ap (λ n. one_if (is_here b) + n) (count-all blocks)
    ∙ sym (here_below-first (block_at (b ∷ blocks)) (length blocks))

-- they are those up to any number that is past the end
pub count-below : (blocks : List Block) (n : ℕ) → length blocks ≤ n → count_by is_here blocks ≡ here_below (block_at blocks) n
count-below blocks n le =
    let past : here_below (block_at blocks) (length blocks + (n - length blocks)) ≡ here_below (block_at blocks) (length blocks) =
    here_below-none (block_at blocks) (length blocks) (n - length blocks) (λ k low high. ap is_here (get_or_past blocks k Hole low)) in
    let all : length blocks + (n - length blocks) ≡ n = omega arith in
    count-all blocks ∙ sym past ∙ ap (here_below (block_at blocks)) all

-- holes alone are no blocks
any-none : (blocks : List Block) → ((k : ℕ) → is_hole (block_at blocks k) ≡ true) → list_any (λ block. not (is_hole block)) blocks ≡ false
any-none [] holes = refl
any-none (b ∷ blocks) holes = (λ i. not (holes 0 i) || list_any (λ block. not (is_hole block)) blocks) ∙ any-none blocks (λ k. holes (suc k))

-- whether a list has a block that is no hole from block 12 on
any-tells : (blocks : List Block) (n : ℕ) (b : Bool) → length blocks ≤ n → TellsBlocks (block_at blocks) 12 n b → list_any (λ block. not (is_hole block)) (drop 12 blocks) ≡ b
any-tells blocks n true le (k, low, high, is) =
    let within : k < length blocks = elim (cases_lt k (length blocks)) as (λ _. k < length blocks) [
      | inl lt ↦ lt
      | inr ge ↦ absurd (true≢false (ap is_hole (sym (get_or_past blocks k Hole ge)) ∙ is))
    ] in
    let size = length-drop 12 blocks in
    let at : 12 + (k - 12) ≡ k = omega arith in
    list_any_at (λ block. not (is_hole block)) (drop 12 blocks) (k - 12) Hole (omega arith)
    (ap (λ block. not (is_hole block)) (get_or-drop 12 blocks (k - 12) Hole ∙ ap (block_at blocks) at) ∙ ap not is)
any-tells blocks n false le holes = any-none (drop 12 blocks) (λ k. ap is_hole (get_or-drop 12 blocks k Hole) ∙ (elim (cases_lt (12 + k) n) as (λ _. is_hole (block_at blocks (12 + k)) ≡ true) [
  | inl lt ↦ holes (12 + k) (omega arith) lt
  | inr ge ↦ ap is_hole (get_or_past blocks (12 + k) Hole (omega arith))
]))

-- WHAT BLOCKS ARE CHARGED, by how many are resident and whether one from block 12 on is no hole
pub charge-parts : (blocks : List Block) (n : ℕ) (b : Bool) → length blocks ≤ n → TellsBlocks (block_at blocks) 12 n b → blocks_charge blocks ≡ parts_charge b (here_below (block_at blocks) n)
charge-parts blocks n b le tells = λ i. parts_charge (any-tells blocks n b le tells i) (count-below blocks n le i)

-- what is told of blocks is told of others that are holes where they are
pub tells-alike : (one other : ℕ → Block) (from end : ℕ) → ((k : ℕ) → from ≤ k → k < end → is_hole (other k) ≡ is_hole (one k)) → (b : Bool) → TellsBlocks one from end b → TellsBlocks other from end b
tells-alike one other from end same true (k, low, high, is) = (k, low, high, same k low high ∙ is)
tells-alike one other from end same false holes = λ k low high. same k low high ∙ holes k low high

-- with holes behind, nothing else is told
pub tells-past : (block : ℕ → Block) (from end most : ℕ) → end ≤ most → ((k : ℕ) → end ≤ k → is_hole (block k) ≡ true) → (b : Bool) → TellsBlocks block from end b → TellsBlocks block from most b
tells-past block from end most le past true (k, low, high, is) = (k, low, omega arith, is)
tells-past block from end most le past false holes = λ k low high. elim (cases_lt k end) as (λ _. is_hole (block k) ≡ true) [
  | inl lt ↦ holes k low lt
  | inr ge ↦ past k ge
]

-- one or the other is told
pub tells : (block : ℕ → Block) (from end : ℕ) → (b : Bool) × TellsBlocks block from end b
tells block from zero = (false, λ k low high. absurd (omega arith))
tells block from (suc end) = elim (cases_lt end from) as (λ _. (b : Bool) × TellsBlocks block from (suc end) b) [
  | inl lt ↦ (false, λ k low high. absurd (omega arith))
  | inr ge ↦ next (is_hole (block end)) refl (tells block from end) ge
]
  where
    behind : (k : ℕ) → k < suc end → is_hole (block end) ≡ true → (k < end → is_hole (block k) ≡ true) → is_hole (block k) ≡ true
    behind k high is rest = elim (cases_lt k end) as (λ _. is_hole (block k) ≡ true) [
      | inl lt ↦ rest lt
      | inr ge ↦ let e : k ≡ end = omega arith in ap (λ i. is_hole (block i)) e ∙ is
    ]

    next : (hole : Bool) → is_hole (block end) ≡ hole → ((b : Bool) × TellsBlocks block from end b) → from ≤ end → (b : Bool) × TellsBlocks block from (suc end) b
    next false is before le = (true, (end, le, omega arith, is))
    next true is (true, (k, low, high, some)) le = (true, (k, low, omega arith, some))
    next true is (false, holes) le = (false, λ k low high. behind k high is (λ lt. holes k low lt))
