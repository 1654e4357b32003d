-- A run over the blocks of a file, for the segments that are needed.
use Rattle.std.proofs.Common.{◌≡◌, ℕ, ◌+◌, ◌<◌, ◌≤◌, Bool, true, false, List, Option, Some, None, refl}
use Rattle.hl_media.specs.History.{History}
use Rattle.hl_log.specs.Logs.{OnlyReads}
use Rattle.hl_placed.specs.Blocks.{Away, Block, Here, Hole, PlacedFile, file_block}
use Rattle.hl_placed.specs.Calls.{serials}
use Rattle.hl_store.specs.Values.{StoreValue}
use Rattle.hl_store.specs.Finding.{BlockNow, IsOutIn, ReadsNodes}
use Rattle.hl_store.proofs.ReadRuns.{reads_none, reads_then}
use Rattle.hl_ranges.specs.declared.needs.Needed.{Needed}
use Rattle.hl_ranges.specs.declared.needs.Needed.TheVariants as needed
use Rattle.hl_ranges.specs.Files.{OfFile}
use Rattle.hl_ranges.specs.Needs.{AddsBlock, AddsPicked, FindsNeed, FindsPicked, IsFirstMissing}
use Rattle.hl_ranges.proofs.ReadSteps.{holds_before, line_before, of_block, of_file_before, reads_nodes_none, reads_nodes_then}
use Rattle.hl_ranges.proofs.SerialLists.{serial_at}
use Rattle.hl_ranges.proofs.NeedSteps.{HasAll, HasBelow, has_all, has_more, has_none, has_skip, misses_first}

module _ {M : Type 0} {history : M → Option History} {old mid : StoreValue M} (reads : ReadsNodes history old mid) where
  -- what a block adds by a store that was read, it adds by the store before
  pub adds_before : (before tsegs : List ℕ) (block : Block) → AddsBlock mid before tsegs block → AddsBlock old before tsegs block
  adds_before before tsegs Hole adds = adds
  adds_before before tsegs (Here bytes) adds = adds
  adds_before before tsegs (Away serial position) adds =
      (adds.0, adds.1, record { holds = holds_before reads adds.0 serial adds.2.holds; line = adds.2.line; held = line_before reads adds.0 (Some adds.2.line) adds.2.held })

  -- so does a block that may be picked
  pub picked_before : (picks : Bool) (before tsegs : List ℕ) (block : Block) → AddsPicked mid picks before tsegs block → AddsPicked old picks before tsegs block
  picked_before true before tsegs block adds = adds_before before tsegs block adds
  picked_before false before tsegs block adds = adds

  -- a block whose segment no line held, no line held before
  pub out_before : (tseg : ℕ) (block : Block) → IsOutIn mid tseg block → IsOutIn old tseg block
  out_before tseg Hole out = out
  out_before tseg (Here bytes) out = out
  out_before tseg (Away serial position) out = record { holds = holds_before reads tseg serial out.holds; none = line_before reads tseg None out.none }

module _ {M : Type 0} (history : M → Option History) (faults : M → ℕ) (v : StoreValue M) (ino i : ℕ) where
  -- a block that isn't picked adds nothing
  pub finds_unpicked : (picks : Bool) (before : List ℕ) → picks ≡ false → FindsPicked history faults v v ino i picks before before needed.AtHand
  finds_unpicked true before is = absurd cc
  finds_unpicked false before is = λ h e c lies. refl

  -- what is found of a picked block
  pub finds_picked : (new : StoreValue M) (picks : Bool) (before tsegs : List ℕ) (found : Needed) → picks ≡ true
      → FindsNeed history faults v new ino i before tsegs found → FindsPicked history faults v new ino i picks before tsegs found
  finds_picked new false before tsegs found is finds = absurd cc
  finds_picked new true before tsegs needed.AtHand is finds = finds
  finds_picked new true before tsegs (needed.Missing tseg) is finds = (refl, finds)
  finds_picked new true before tsegs needed.DiskFault is finds = finds
  finds_picked new true before tsegs needed.Memory is finds = tt

-- only reads were made since, and the slots behind these are those of the picked blocks below n
pub record NeedsSoFar {M : Type 0} (history : M → Option History) (blocks faults write_faults say_faults : M → ℕ)
    (old mid : StoreValue M) (ino : ℕ) (picked : PlacedFile → ℕ → Bool) (before tsegs : List ℕ) (n : ℕ) : Type 0 where
  pub reads : ReadsNodes history old mid
  pub machine : OnlyReads history blocks faults write_faults say_faults old.log.machine mid.log.machine
  pub hands : OfFile history old ino (λ c shelf file. HasBelow old (picked file) file before tsegs n)

module _ {M : Type 0} (history : M → Option History) (blocks faults write_faults say_faults : M → ℕ) (old : StoreValue M) (ino : ℕ) (picked : PlacedFile → ℕ → Bool) (before : List ℕ) where
  -- a run from the first store
  abbrev SoFar : StoreValue M → List ℕ → ℕ → Type 0
  SoFar mid tsegs n = NeedsSoFar history blocks faults write_faults say_faults old mid ino picked before tsegs n

  -- nothing is found yet
  pub so_far_none : SoFar old before 0
  so_far_none = record {
    reads = reads_nodes_none;
    machine = reads_none;
    hands = λ h e c lies shelf file lines has. has_none old (picked file) file before;
  }

  -- behind other reads there are none either
  pub so_far_read : (mid : StoreValue M) → ReadsNodes history old mid → OnlyReads history blocks faults write_faults say_faults old.log.machine mid.log.machine → SoFar mid before 0
  so_far_read mid reads machine = record { reads = reads; machine = machine; hands = so_far_none.hands }

  -- no block between two has a serial
  pub so_far_skip : (mid : StoreValue M) (tsegs : List ℕ) (m n : ℕ) → m ≤ n
      → OfFile history old ino (λ c shelf file. (k : ℕ) → m ≤ k → k < n → serial_at (picked file) file k ≡ None) → SoFar mid tsegs m → SoFar mid tsegs n
  so_far_skip mid tsegs m n le none run = record {
    reads = run.reads;
    machine = run.machine;
    hands = λ h e c lies shelf file lines has. has_skip old (picked file) file before tsegs m n le (none h e c lies shelf file lines has) (run.hands h e c lies shelf file lines has);
  }

  -- block n isn't picked, or its segment is at hand
  pub so_far_more : (mid new : StoreValue M) (tsegs more : List ℕ) (n : ℕ) (picks : Bool) → SoFar mid tsegs n
      → OfFile history old ino (λ c shelf file. picked file n ≡ picks)
      → BlockNow history mid ino n (λ s block. AddsPicked mid picks tsegs more block)
      → ReadsNodes history mid new → OnlyReads history blocks faults write_faults say_faults mid.log.machine new.log.machine → SoFar new more (n + 1)
  so_far_more mid new tsegs more n picks run is adds reads machine =
      let added = of_file_before old mid ino (λ c shelf file. AddsPicked mid picks tsegs more (file_block file n)) run.reads run.machine
      (of_block history mid ino n (λ block. AddsPicked mid picks tsegs more block) adds) in
      record {
        reads = reads_nodes_then run.machine run.reads reads;
        machine = reads_then run.machine machine;
        hands = λ h e c lies shelf file lines has.
            has_more old (picked file) file before tsegs more n picks (is h e c lies shelf file lines has)
            (picked_before run.reads picks tsegs more (file_block file n) (added h e c lies shelf file lines has)) (run.hands h e c lies shelf file lines has);
      }

  -- block n is picked, and its segment isn't at hand
  pub so_far_missing : (mid : StoreValue M) (tsegs : List ℕ) (tseg n : ℕ) → SoFar mid tsegs n
      → OfFile history old ino (λ c shelf file. picked file n ≡ true)
      → BlockNow history mid ino n (λ s block. IsOutIn mid tseg block) → OfFile history old ino (λ c shelf file. IsFirstMissing old tseg (serials (picked file) file))
  so_far_missing mid tsegs tseg n run is out =
      let found = of_file_before old mid ino (λ c shelf file. IsOutIn mid tseg (file_block file n)) run.reads run.machine
      (of_block history mid ino n (λ block. IsOutIn mid tseg block) out) in
      λ h e c lies shelf file lines has.
      misses_first old (picked file) file before tsegs tseg n (is h e c lies shelf file lines has)
      (out_before run.reads tseg (file_block file n) (found h e c lies shelf file lines has)) (run.hands h e c lies shelf file lines has)

  -- no block from n on has a serial
  pub so_far_all : (mid : StoreValue M) (tsegs : List ℕ) (n : ℕ)
      → OfFile history old ino (λ c shelf file. (k : ℕ) → n ≤ k → serial_at (picked file) file k ≡ None) → SoFar mid tsegs n
      → OfFile history old ino (λ c shelf file. HasAll old (picked file) file before tsegs)
  so_far_all mid tsegs n none run = λ h e c lies shelf file lines has.
      has_all old (picked file) file before tsegs n (none h e c lies shelf file lines has) (run.hands h e c lies shelf file lines has)
