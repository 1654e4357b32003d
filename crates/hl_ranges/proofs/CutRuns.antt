-- The block that a cut fills up with zeros.
use Rattle.std.proofs.Common.{◌≡◌, ℕ, ◌+◌, ◌*◌, ◌/◌, ◌%◌, ◌<◌, ◌≤◌, true, false, ◌&&◌, nat_lt, List, Option, arith}
use Rattle.std.proofs.Common.{inl, inr}
use Rattle.std.proofs.lemmas.Bool.{cases_lt}
use Rattle.std.proofs.lemmas.Bool.Decides.{nat_tests}
use Rattle.hl_media.specs.History.{History}
use Rattle.hl_log.specs.Logs.{OnlyReads}
use Rattle.hl_placed.specs.Blocks.{PlacedFile}
use Rattle.hl_placed.specs.Calls as calls
use Rattle.hl_placed.specs.Changes.{cuts, ends_within}
use Rattle.hl_store.specs.Values.{StoreValue}
use Rattle.hl_store.specs.Finding.{ReadsNodes}
use Rattle.hl_store.proofs.ReadRuns.{rose_since}
use Rattle.hl_ranges.specs.declared.needs.Needed.{Needed}
use Rattle.hl_ranges.specs.declared.needs.Needed.TheVariants as needed
use Rattle.hl_ranges.specs.Files.{OfFile}
use Rattle.hl_ranges.specs.Needs.{FindsNeed, FindsNeeds}
use Rattle.hl_ranges.proofs.SerialLists.{unpicked}
use Rattle.hl_ranges.proofs.NeedRuns.{NeedsSoFar, so_far_all, so_far_missing, so_far_more, so_far_read, so_far_skip}

-- the tests of a block that is cut, where the file isn't longer
over : (size long start : ℕ) → long ≤ size → (nat_lt size long && (nat_lt start size && nat_lt size (start + 4096))) ≡ false
over size long start h = grind (arith, nat_tests)

-- where the block ends before the size
low : (size long start : ℕ) → start + 4096 ≤ size → (nat_lt size long && (nat_lt start size && nat_lt size (start + 4096))) ≡ false
low size long start h = grind (arith, nat_tests)

-- where it starts behind the size
high : (size long start : ℕ) → size ≤ start → (nat_lt size long && (nat_lt start size && nat_lt size (start + 4096))) ≡ false
high size long start h = grind (arith, nat_tests)

-- where the size is within it, and the file longer
inside : (size long start : ℕ) → size < long → start < size → size < start + 4096 → (nat_lt size long && (nat_lt start size && nat_lt size (start + 4096))) ≡ true
inside size long start h k l = grind (arith, nat_tests)

module _ (file : PlacedFile) (size : ℕ) where
  -- no block of a file that isn't longer is cut
  pub cuts-over : (k : ℕ) → file.size ≤ size → cuts file size k ≡ false
  unfolding ends_within
  cuts-over k h = over size file.size (4096 * k) h

  -- no block before the size, and none behind it
  pub cuts-before : (k : ℕ) → 4096 * k + 4096 ≤ size → cuts file size k ≡ false
  unfolding ends_within
  cuts-before k h = low size file.size (4096 * k) h

  -- nor one behind it
  pub cuts-behind : (k : ℕ) → size ≤ 4096 * k → cuts file size k ≡ false
  unfolding ends_within
  cuts-behind k h = high size file.size (4096 * k) h

  -- the block is cut that the size is within
  pub cuts-inside : (k : ℕ) → size < file.size → 4096 * k < size → size < 4096 * k + 4096 → cuts file size k ≡ true
  unfolding ends_within
  cuts-inside k h l m = inside size file.size (4096 * k) h l m

  -- no block where the size is whole blocks
  pub cuts-whole : (k : ℕ) → size % 4096 ≡ 0 → cuts file size k ≡ false
  cuts-whole k whole = elim (cases_lt k (size / 4096)) as (λ _. cuts file size k ≡ false) [
    | inl less ↦ cuts-before k (omega arith)
    | inr ge ↦ cuts-behind k (omega arith)
  ]

module _ {M : Type 0} (history : M → Option History) (blocks faults write_faults say_faults : M → ℕ) (old mid : StoreValue M) (ino size : ℕ) (before : List ℕ)
    (reads : ReadsNodes history old mid) (machine : OnlyReads history blocks faults write_faults say_faults old.log.machine mid.log.machine) where
  -- a run that has found nothing yet
  start : NeedsSoFar history blocks faults write_faults say_faults old mid ino (λ file. cuts file size) before before 0
  start = so_far_read history blocks faults write_faults say_faults old ino (λ file. cuts file size) before mid reads machine

  -- nothing is needed where no block is cut
  pub cut_none : (new : StoreValue M) → OfFile history old ino (λ c shelf file. (k : ℕ) → cuts file size k ≡ false) → FindsNeeds history faults old new ino (calls.cut_needs size) before before needed.AtHand
  cut_none new none =
      so_far_all history blocks faults write_faults say_faults old ino (λ file. cuts file size) before mid before 0
      (λ h e c lies shelf file lines has k low. unpicked (cuts file size) file k (none h e c lies shelf file lines has k)) start

  -- what is found of the block that is cut is found of all
  pub cut_found : (new : StoreValue M) (tsegs : List ℕ) → (size % 4096 ≡ 0 → ⊥) → OfFile history old ino (λ c shelf file. size < file.size) → (found : Needed)
      → FindsNeed history faults mid new ino (size / 4096) before tsegs found
      → ReadsNodes history mid new → OnlyReads history blocks faults write_faults say_faults mid.log.machine new.log.machine
      → FindsNeeds history faults old new ino (calls.cut_needs size) before tsegs found
  cut_found new tsegs part longer found finds more_reads more_machine = by_answer found finds
    where
      -- before the block that is cut
      run : NeedsSoFar history blocks faults write_faults say_faults old mid ino (λ file. cuts file size) before before (size / 4096)
      run = so_far_skip history blocks faults write_faults say_faults old ino (λ file. cuts file size) before mid before 0 (size / 4096) (omega arith)
          (λ h e c lies shelf file lines has k low high. unpicked (cuts file size) file k (cuts-before file size k (omega arith))) start

      -- that block is cut
      is : OfFile history old ino (λ c shelf file. cuts file size (size / 4096) ≡ true)
      is = λ h e c lies shelf file lines has. cuts-inside file size (size / 4096) (longer h e c lies shelf file lines has) (omega (arith, part)) (omega arith)

      -- by what was found of it
      by_answer : (found : Needed) → FindsNeed history faults mid new ino (size / 4096) before tsegs found → FindsNeeds history faults old new ino (calls.cut_needs size) before tsegs found
      by_answer needed.AtHand finds =
          so_far_all history blocks faults write_faults say_faults old ino (λ file. cuts file size) before new tsegs (size / 4096 + 1)
          (λ h e c lies shelf file lines has k low. unpicked (cuts file size) file k (cuts-behind file size k (omega arith)))
          (so_far_more history blocks faults write_faults say_faults old ino (λ file. cuts file size) before mid new before tsegs (size / 4096) true run is finds more_reads more_machine)
      by_answer (needed.Missing tseg) finds =
          so_far_missing history blocks faults write_faults say_faults old ino (λ file. cuts file size) before mid before tseg (size / 4096) run is finds
      by_answer needed.DiskFault finds = rose_since _ _ _ machine.faults_most finds
      by_answer needed.Memory finds = tt
