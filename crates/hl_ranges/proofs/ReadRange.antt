-- A read of a range, part by part.
use Rattle.std.proofs.Common.{◌≡◌, ℕ, ◌+◌, ◌≤◌, List, [], ◌++◌, length, take, Option, sym, ◌∙◌, ap, append_assoc, arith, min}
use Rattle.std.proofs.lemmas.List.{append-nil, take-append-le, take_all}
use Rattle.hl_media.specs.History.{History}
use Rattle.hl_log.specs.Logs.{OnlyReads}
use Rattle.hl_store.specs.Values.{StoreValue}
use Rattle.hl_store.specs.Finding.{ReadsNodes}
use Rattle.hl_store.proofs.ReadRuns.{reads_none, reads_then, rose_since}
use Rattle.hl_ranges.specs.declared.ranges.RangeStep.{RangeStep}
use Rattle.hl_ranges.specs.declared.ranges.RangeStep.TheVariants as step
use Rattle.hl_ranges.specs.Files.{OfFile}
use Rattle.hl_ranges.specs.Ranges.{ReadsRange}
use Rattle.hl_ranges.specs.Reading.{ReadsPart, bytes_between}
use Rattle.hl_ranges.proofs.RangeBytes.{between-more, between-none, between-read_at}
use Rattle.hl_ranges.proofs.ReadSteps.{of_file_before, reads_nodes_none, reads_nodes_then}

-- only reads were made since, and what was appended are the bytes of the file from at up to here
pub record ReadSoFar {M : Type 0} (history : M → Option History) (blocks faults write_faults say_faults : M → ℕ)
    (old mid : StoreValue M) (ino at from : ℕ) (before out : List ℕ) : Type 0 where
  pub reads : ReadsNodes history old mid
  pub machine : OnlyReads history blocks faults write_faults say_faults old.log.machine mid.log.machine
  pub own : List ℕ
  pub is : out ≡ before ++ own
  pub are : OfFile history old ino (λ c shelf file. own ≡ bytes_between shelf file at from)

-- cut back to what there was
pub cut_back : (before own out : List ℕ) (n : ℕ) → out ≡ before ++ own → n ≡ length before → take n out ≡ before
cut_back before own out n is long =
    ap (take n) is ∙ ap (λ (k : ℕ). take k (before ++ own)) long ∙ take-append-le (length before) before own (omega arith) ∙ take_all (length before) before (omega arith)

module _ {M : Type 0} (history : M → Option History) (blocks faults write_faults say_faults : M → ℕ) (old : StoreValue M) (ino at : ℕ) (before : List ℕ) where
  -- a read from the first store
  abbrev SoFar : StoreValue M → ℕ → List ℕ → Type 0
  SoFar mid from out = ReadSoFar history blocks faults write_faults say_faults old mid ino at from before out

  -- nothing is read up to where the read begins
  pub read_none : (to : ℕ) → to ≤ at → ReadsPart history faults old old ino at to before before step.Done
  read_none to le = ([], sym (append-nil before), λ h e c lies shelf file lines has. sym (between-none shelf file at to le))

  -- nothing is read yet
  pub so_far_start : (out : List ℕ) → out ≡ before → SoFar old at out
  so_far_start out same =
      record {
        reads = reads_nodes_none;
        machine = reads_none;
        own = [];
        is = same ∙ sym (append-nil before);
        are = λ h e c lies shelf file lines has. sym (between-none shelf file at at (omega arith));
      }

  -- one part more
  pub so_far_part : (mid new : StoreValue M) (from to : ℕ) (out more : List ℕ) → at ≤ from → from ≤ to → SoFar mid from out
      → ReadsPart history faults mid new ino from to out more step.Done
      → ReadsNodes history mid new → OnlyReads history blocks faults write_faults say_faults mid.log.machine new.log.machine → SoFar new to more
  so_far_part mid new from to out more low high run part reads machine =
      let behind = of_file_before old mid ino (λ c shelf file. part.0 ≡ bytes_between shelf file from to) run.reads run.machine part.2 in
      record {
        reads = reads_nodes_then run.machine run.reads reads;
        machine = reads_then run.machine machine;
        own = run.own ++ part.0;
        is = part.1 ∙ ap (λ (xs : List ℕ). xs ++ part.0) run.is ∙ append_assoc before run.own part.0;
        are = λ h e c lies shelf file lines has.
            ap (λ (xs : List ℕ). xs ++ part.0) (run.are h e c lies shelf file lines has)
            ∙ ap (λ (xs : List ℕ). bytes_between shelf file at from ++ xs) (behind h e c lies shelf file lines has)
            ∙ between-more shelf file at from to low high;
      }

  -- all that was asked for
  pub so_far_done : (mid : StoreValue M) (from to : ℕ) (out : List ℕ) → from ≡ to → SoFar mid from out → ReadsPart history faults old mid ino at to before out step.Done
  so_far_done mid from to out same run = (run.own, run.is, λ h e c lies shelf file lines has. run.are h e c lies shelf file lines has ∙ ap (bytes_between shelf file at) same)

module _ {M : Type 0} {history : M → Option History} {blocks faults write_faults say_faults : M → ℕ} {old mid : StoreValue M} (reads : ReadsNodes history old mid)
    (machine : OnlyReads history blocks faults write_faults say_faults old.log.machine mid.log.machine) where
  -- the part up to the end of a read is what the read gives
  pub range_read : (new : StoreValue M) (ino at len size few end : ℕ) → end ≡ min (at + few) size → few ≡ min len 32768 → OfFile history old ino (λ c shelf file. size ≡ file.size)
      → (before out : List ℕ) (found : RangeStep) → ReadsPart history faults mid new ino at end before out found → ReadsRange history faults old new ino at len before out found
  range_read new ino at len size few end is most long before out step.Done part = λ h e c lies shelf file lines has.
      let end_is : end ≡ min (at + min len 32768) file.size = is ∙ ap (λ (n : ℕ). min (at + n) size) most ∙ ap (λ (n : ℕ). min (at + min len 32768) n) (long h e c lies shelf file lines has) in
      part.1 ∙ ap (λ (xs : List ℕ). before ++ xs)
      (of_file_before old mid ino (λ c shelf file. part.0 ≡ bytes_between shelf file at end) reads machine part.2 h e c lies shelf file lines has
      ∙ ap (bytes_between shelf file at) end_is ∙ between-read_at shelf file at len)
  range_read new ino at len size few end is most long before out step.DiskFault part = (part.0, rose_since _ _ _ machine.faults_most part.1)
  range_read new ino at len size few end is most long before out step.Memory part = part
