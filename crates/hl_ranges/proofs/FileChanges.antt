-- A write and a cut, put together from their steps.
use Rattle.std.proofs.Common.{arith, ◌≡◌, ℕ, ◌+◌, ◌*◌, ◌/◌, ◌<◌, ◌≤◌, Bool, if◌then◌else◌, List, length, max, Option, Some, ◌∙◌, ap, sym, subst}
use Rattle.hl_media.specs.Causes.{Rose}
use Rattle.hl_media.specs.History.{History}
use Rattle.hl_media.specs.Moments.{Runs}
use Rattle.std.specs.Prelude.{slice_set}
use Rattle.hl_log.specs.Logs.{OnlyReads, with_machine}
use Rattle.hl_log.specs.Rest.{IsUnchanged}
use Rattle.hl_tree.specs.Contents.{written}
use Rattle.hl_placed.specs.Blocks.{PlacedFile, Shelf, padded_block, plain_bytes}
use Rattle.hl_placed.specs.Changes.{cut_file, written_file}
use Rattle.hl_store.specs.Values.{StoreValue}
use Rattle.hl_store.specs.Finding.{ReadsNodes}
use Rattle.hl_store.specs.Changes.{KeepsBeside}
use Rattle.hl_ranges.specs.declared.ranges.RangeStep.{RangeStep}
use Rattle.hl_ranges.specs.declared.ranges.RangeStep.TheVariants as step
use Rattle.hl_ranges.specs.Files.{OfFile, file_node, file_shape}
use Rattle.hl_ranges.specs.Ranges.{MakesChange, StaysBeside, UsesThen}
use Rattle.hl_ranges.specs.Writing.{CutsEdge, FindsSize, IsCutBlock, ReadsEdges, Stops, new_block, patched}
use Rattle.hl_ranges.proofs.FoundFiles.{of_file_before}
use Rattle.hl_ranges.proofs.PatchedNodes.{patched_cut, patched_written}
use Rattle.hl_ranges.proofs.PutSteps.{machine_stays}

module _ {M : Type 0} where
  -- WHERE IT STOPS no more than reads was made
  pub stopped : (history : M → Option History) (faults : M → ℕ) (old mid new : StoreValue M) (ino : ℕ) (change : Shelf → PlacedFile → PlacedFile) (why : RangeStep)
      → ReadsNodes history old new → faults old.log.machine ≤ faults mid.log.machine → Stops faults mid new why → MakesChange history faults old new ino change why
  stopped history faults old mid new ino change step.Done reads le why = absurd why
  stopped history faults old mid new ino change step.DiskFault reads le why = (reads, rose_since (faults old.log.machine) (faults mid.log.machine) (faults new.log.machine) le why)
    where
      rose_since : (a b c : ℕ) → a ≤ b → Rose b c → Rose a c
      rose_since a b c le rose = omega arith
  stopped history faults old mid new ino change step.Memory reads le why = reads

  -- nothing is said of last uses there
  pub unused_then : (faults : M → ℕ) (old mid new : StoreValue M) (ino now : ℕ) (why : RangeStep) → Stops faults mid new why → UsesThen old new ino now why
  unused_then faults old mid new ino now step.Done why = absurd why
  unused_then faults old mid new ino now step.DiskFault why = tt
  unused_then faults old mid new ino now step.Memory why = tt

  -- WHAT STAYS BESIDE a change behind reads
  pub beside_then : (history : M → Option History) (old mid new : StoreValue M) (ino now : ℕ) → ReadsNodes history old mid → KeepsBeside mid new → new.uses ≡ slice_set mid.uses ino now → StaysBeside old new ino now
  beside_then history old mid new ino now reads beside uses = record {
    same = beside
        ∙ ap (λ (v : StoreValue M). record v { overlay = new.overlay; uses = new.uses; tally = new.tally }) reads.same
        ∙ ap (λ m. record old { log = with_machine old.log m; overlay = new.overlay; uses = new.uses; tally = new.tally }) (sym (machine_stays mid new beside));
    uses = uses ∙ ap (λ (v : StoreValue M). slice_set v.uses ino now) reads.same;
  }

  -- the reads end where the changes do
  pub reads_beside : {history : M → Option History} {blocks faults write_faults say_faults : M → ℕ} (before : M) (mid new : StoreValue M) → KeepsBeside mid new → OnlyReads history blocks faults write_faults say_faults before mid.log.machine
      → OnlyReads history blocks faults write_faults say_faults before new.log.machine
  reads_beside {history} {blocks} {faults} {write_faults} {say_faults} before mid new beside reads = subst (λ m. OnlyReads history blocks faults write_faults say_faults before m) (sym (machine_stays mid new beside)) reads

  module _ (history : M → Option History) (old mid : StoreValue M) (ino : ℕ) (reads : ReadsNodes history old mid) (run : Runs (history old.log.machine) (history mid.log.machine) IsUnchanged) where
    -- A WRITE: what was put is the file written
    pub written_same : (at : ℕ) (bytes front back : List ℕ) (now before size : ℕ) → 0 < length bytes → FindsSize history old mid ino before → size ≡ max before (at + length bytes) → ReadsEdges history mid ino at bytes front back
        → OfFile history old ino (λ c shelf file. Some (patched (file_shape size) now (at / 4096) ((at + length bytes + 4095) / 4096) (new_block at bytes front back) (Some (file_node file))) ≡ Some (file_node (written_file shelf file at bytes now)))
    written_same at bytes front back now before size some found size_is edges h told c lies shelf file shows has =
        let before_is : before ≡ file.size = found.is h told c lies shelf file shows has in
        ap Some (patched_written shelf file size at bytes now (new_block at bytes front back) some (size_is ∙ ap (λ n. max n (at + length bytes)) before_is)
        (of_file_before history old mid reads ino (λ c shelf file. (i : ℕ) → at < 4096 * i + 4096 → 4096 * i < at + length bytes → new_block at bytes front back i ≡ padded_block (written (plain_bytes shelf file) at bytes) i) run edges
        h told c lies shelf file shows has))

    -- A CUT: so is it the file cut
    pub cut_same : (edge : List ℕ) (now before size : ℕ) (is_cut : Bool) → FindsSize history old mid ino before → CutsEdge history mid ino before size edge is_cut
        → OfFile history old ino (λ c shelf file. Some (patched (file_shape size) now (size / 4096) (if is_cut then size / 4096 + 1 else size / 4096) (λ j. edge) (Some (file_node file))) ≡ Some (file_node (cut_file shelf file size now)))
    cut_same edge now before size is_cut found cut h told c lies shelf file shows has =
        let before_is : before ≡ file.size = found.is h told c lies shelf file shows has in
        ap Some (patched_cut shelf file size edge now is_cut
        (of_file_before history old mid reads ino (λ c shelf file. before ≡ file.size → IsCutBlock shelf file size edge is_cut) run cut.1 h told c lies shelf file shows has before_is))
