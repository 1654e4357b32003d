-- Which blocks have a byte of a range.
use Rattle.std.proofs.Common.{◌≡◌, ℕ, ◌+◌, ◌*◌, ◌<◌, ◌≤◌, Bool, true, false, ◌&&◌, not, nat_lt, nat_le, refl, arith}
use Rattle.std.proofs.lemmas.Bool.Decides.{nat_tests}
use Rattle.hl_placed.specs.Changes.{covers, meets}

-- a test that a block's start and a range pass
passed : (from to start : ℕ) → from < to → start < to → from < start + 4096 → (nat_lt from to && (nat_lt start to && nat_lt from (start + 4096))) ≡ true
passed from to start h k l = grind (arith, nat_tests)

-- where the block ends before the range
failed_low : (from to start : ℕ) → start + 4096 ≤ from → (nat_lt from to && (nat_lt start to && nat_lt from (start + 4096))) ≡ false
failed_low from to start h = grind (arith, nat_tests)

-- where it starts behind the range
failed_high : (from to start : ℕ) → to ≤ start → (nat_lt from to && (nat_lt start to && nat_lt from (start + 4096))) ≡ false
failed_high from to start h = grind (arith, nat_tests)

-- where the range is empty
failed_none : (from to start : ℕ) → to ≤ from → (nat_lt from to && (nat_lt start to && nat_lt from (start + 4096))) ≡ false
failed_none from to start h = grind (arith, nat_tests)

-- the range has a byte in a block that starts before its end and ends behind its start
pub meets-inside : (from to k : ℕ) → from < to → 4096 * k < to → from < 4096 * k + 4096 → meets from to k ≡ true
unfolding meets
meets-inside from to k h low high = passed from to (4096 * k) h low high

-- no byte of the range is in a block before it, behind it, or where it is empty
pub meets-before : (from to k : ℕ) → 4096 * k + 4096 ≤ from → meets from to k ≡ false
unfolding meets
meets-before from to k h = failed_low from to (4096 * k) h

-- nor in one behind it
pub meets-behind : (from to k : ℕ) → to ≤ 4096 * k → meets from to k ≡ false
unfolding meets
meets-behind from to k h = failed_high from to (4096 * k) h

-- nor where it is empty
pub meets-empty : (from to k : ℕ) → to ≤ from → meets from to k ≡ false
unfolding meets
meets-empty from to k h = failed_none from to (4096 * k) h

-- nothing is both something and false
both_false : (b : Bool) → (b && false) ≡ false
both_false true = refl
both_false false = refl

-- a block that the range covers isn't reached in part; another of its blocks is
pub partly-not : (from to k : ℕ) → covers from to k ≡ true → (meets from to k && not (covers from to k)) ≡ false
partly-not from to k is = rw is (both_false (meets from to k))

-- a block with a byte of the range that isn't covered is reached in part
pub partly-is : (from to k : ℕ) → from < to → 4096 * k < to → from < 4096 * k + 4096 → covers from to k ≡ false → (meets from to k && not (covers from to k)) ≡ true
partly-is from to k h low high is = rw (is, meets-inside from to k h low high) refl

-- a block that the range doesn't meet isn't reached in part
pub partly-none : (from to k : ℕ) → meets from to k ≡ false → (meets from to k && not (covers from to k)) ≡ false
partly-none from to k is = rw is refl

-- the tests of a block within a range
covered : (from to start : ℕ) → from ≤ start → start + 4096 ≤ to → (nat_le from start && nat_le (start + 4096) to) ≡ true
covered from to start low high = grind (arith, nat_tests)

-- a block within the range is covered
pub covers-between : (from to k : ℕ) → from ≤ 4096 * k → 4096 * k + 4096 ≤ to → covers from to k ≡ true
unfolding covers
covers-between from to k low high = covered from to (4096 * k) low high
