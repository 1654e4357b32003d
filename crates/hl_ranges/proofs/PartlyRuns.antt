-- The blocks that a range reaches in part: the first of its blocks and the last at most.
use Rattle.std.proofs.Common.{ℕ, ◌+◌, ◌-◌, ◌/◌, ◌<◌, ◌≤◌, Bool, ◌&&◌, not, List, Option, refl, arith}
use Rattle.hl_media.specs.History.{History}
use Rattle.hl_log.specs.Logs.{OnlyReads}
use Rattle.hl_placed.specs.Calls.{serials}
use Rattle.hl_placed.specs.Changes.{covers, meets}
use Rattle.hl_store.specs.Values.{StoreValue}
use Rattle.hl_store.specs.Finding.{ReadsNodes}
use Rattle.hl_store.proofs.ReadRuns.{rose_since}
use Rattle.hl_ranges.specs.declared.needs.Needed.{Needed}
use Rattle.hl_ranges.specs.declared.needs.Needed.TheVariants as needed
use Rattle.hl_ranges.specs.Needs.{FindsNeeds, FindsPicked}
use Rattle.hl_ranges.proofs.MeetLemmas.{covers-between, meets-before, meets-behind, meets-empty, partly-none, partly-not}
use Rattle.hl_ranges.proofs.SerialLists.{unpicked}
use Rattle.hl_ranges.proofs.NeedRuns.{NeedsSoFar, so_far_all, so_far_missing, so_far_more, so_far_none, so_far_skip}

-- the range reaches block k, and doesn't cover it
abbrev pub partly : ℕ → ℕ → ℕ → Bool
partly at end k = meets at end k && not (covers at end k)

module _ {M : Type 0} (history : M → Option History) (blocks faults write_faults say_faults : M → ℕ) (old : StoreValue M) (ino at end : ℕ) (before : List ℕ) where
  -- a run from the first store
  abbrev Partly : StoreValue M → List ℕ → ℕ → Type 0
  Partly mid tsegs n = NeedsSoFar history blocks faults write_faults say_faults old mid ino (λ file. partly at end) before tsegs n

  -- an empty range reaches none
  pub partly_empty : end ≤ at → FindsNeeds history faults old old ino (serials (partly at end)) before before needed.AtHand
  partly_empty le =
      so_far_all history blocks faults write_faults say_faults old ino (λ file. partly at end) before old before 0
      (λ h e c lies shelf file lines has k low. unpicked (partly at end) file k (partly-none at end k (meets-empty at end k le)))
      (so_far_none history blocks faults write_faults say_faults old ino (λ file. partly at end) before)

  -- before the first block
  pub partly_first : Partly old before (at / 4096)
  partly_first =
      so_far_skip history blocks faults write_faults say_faults old ino (λ file. partly at end) before old before 0 (at / 4096) (omega arith)
      (λ h e c lies shelf file lines has k low high. unpicked (partly at end) file k (partly-none at end k (meets-before at end k (omega arith))))
      (so_far_none history blocks faults write_faults say_faults old ino (λ file. partly at end) before)

  -- block n isn't at hand
  pub partly_missing : (mid new : StoreValue M) (tsegs : List ℕ) (more : List ℕ) (tseg n : ℕ) → Partly mid tsegs n
      → FindsPicked history faults mid new ino n (partly at end n) tsegs more (needed.Missing tseg) → FindsNeeds history faults old new ino (serials (partly at end)) before more (needed.Missing tseg)
  partly_missing mid new tsegs more tseg n run finds =
      so_far_missing history blocks faults write_faults say_faults old ino (λ file. partly at end) before mid tsegs tseg n run (λ h e c lies shelf file lines has. finds.0) finds.1

  -- block n is at hand, or isn't reached in part
  pub partly_more : (mid new : StoreValue M) (tsegs more : List ℕ) (n : ℕ) → Partly mid tsegs n
      → FindsPicked history faults mid new ino n (partly at end n) tsegs more needed.AtHand
      → ReadsNodes history mid new → OnlyReads history blocks faults write_faults say_faults mid.log.machine new.log.machine → Partly new more (n + 1)
  partly_more mid new tsegs more n run finds reads machine =
      so_far_more history blocks faults write_faults say_faults old ino (λ file. partly at end) before mid new tsegs more n (partly at end n) run (λ h e c lies shelf file lines has. refl) finds reads machine

  -- from the block behind the first to the last
  pub partly_last : (mid : StoreValue M) (tsegs : List ℕ) → at < end → (at / 4096) + 1 ≤ (end - 1) / 4096 → Partly mid tsegs (at / 4096 + 1) → Partly mid tsegs ((end - 1) / 4096)
  partly_last mid tsegs less le run =
      so_far_skip history blocks faults write_faults say_faults old ino (λ file. partly at end) before mid tsegs (at / 4096 + 1) ((end - 1) / 4096) le
      (λ h e c lies shelf file lines has k low high. unpicked (partly at end) file k (partly-not at end k (covers-between at end k (omega arith) (omega arith)))) run

  -- behind the last block
  pub partly_all : (mid new : StoreValue M) (tsegs : List ℕ) → at < end → Partly mid tsegs ((end - 1) / 4096 + 1) → FindsNeeds history faults old new ino (serials (partly at end)) before tsegs needed.AtHand
  partly_all mid new tsegs less run =
      so_far_all history blocks faults write_faults say_faults old ino (λ file. partly at end) before mid tsegs ((end - 1) / 4096 + 1)
      (λ h e c lies shelf file lines has k low. unpicked (partly at end) file k (partly-none at end k (meets-behind at end k (omega arith)))) run

  -- what is found of the last block is found of all
  pub partly_found : (mid new : StoreValue M) (tsegs more : List ℕ) → at < end → Partly mid tsegs ((end - 1) / 4096) → (found : Needed)
      → FindsPicked history faults mid new ino ((end - 1) / 4096) (partly at end ((end - 1) / 4096)) tsegs more found
      → ReadsNodes history mid new → OnlyReads history blocks faults write_faults say_faults mid.log.machine new.log.machine
      → FindsNeeds history faults old new ino (serials (partly at end)) before more found
  partly_found mid new tsegs more less run needed.AtHand finds reads machine =
      partly_all new new more less (partly_more mid new tsegs more ((end - 1) / 4096) run finds reads machine)
  partly_found mid new tsegs more less run (needed.Missing tseg) finds reads machine = partly_missing mid new tsegs more tseg ((end - 1) / 4096) run finds
  partly_found mid new tsegs more less run needed.DiskFault finds reads machine = rose_since _ _ _ run.machine.faults_most finds
  partly_found mid new tsegs more less run needed.Memory finds reads machine = tt
