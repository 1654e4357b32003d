-- A call on a file by its path is what is done with the file of its number.
use Rattle.std.proofs.Common.{arith, inl, inr, ◌≡◌, ◌≢◌, ℕ, ◌+◌, ◌<◌, ◌≤◌, min, Bool, true, false, ◌&&◌, not, nat_eq, nat_lt, List, [], length, Option, Some, Ok, Err, ◌∙◌, ap, sym, subst}
use Rattle.std.specs.Prelude.{◌==◌}
use Rattle.std.specs.FinMap.{get}
use Rattle.std.proofs.lemmas.Bool.{le-ltb, lt-ltb}
use Rattle.std.proofs.lemmas.Bool.Decides.{eqb_tells, nat_tests}
use Rattle.hl_media.specs.History.{History}
use Rattle.hl_media.specs.Moments.{Runs}
use Rattle.hl_addr.specs.Layout.{Layout, quota}
use Rattle.hl_log.specs.Rest.{IsUnchanged}
use Rattle.hl_tree.specs.declared.call.Call.{Call}
use Rattle.hl_tree.specs.declared.call.Call.TheVariants as calls
use Rattle.hl_tree.specs.declared.call.Reply.TheVariants as replies
use Rattle.hl_tree.specs.declared.call.Refusal.{Refusal}
use Rattle.hl_tree.specs.declared.call.Refusal.TheVariants.{Efbig, Einval}
use Rattle.hl_placed.specs.Blocks.{PlacedFile, Shelf}
use Rattle.hl_placed.specs.Calls.{write_needs}
use Rattle.hl_placed.specs.Changes.{covers, meets}
use Rattle.hl_paths.specs.ByNumbers.{NumberedDone, file_at, needed, numbered_left, numbered_reply}
use Rattle.hl_paths.specs.Charges.{nodes_charge}
use Rattle.hl_paths.specs.Files.{is_taken}
use Rattle.hl_paths.specs.Numbered.{Leaf, Numbering}
use Rattle.hl_store.specs.Values.{StoreValue, layout}
use Rattle.hl_store.specs.Finding.{ReadsNodes}
use Rattle.hl_store.proofs.ReadRuns.{rose_since, unchanged_then}
use Rattle.hl_walk.specs.declared.walk.Halt.{Halt}
use Rattle.hl_walk.specs.declared.walk.Halt.TheVariants as halt
use Rattle.hl_walk.specs.Trees.{AreKnown}
use Rattle.hl_walk.specs.Walks.{Halts}
use Rattle.hl_walk.proofs.KeptTrees.{layout_kept, reads_both}
use Rattle.hl_calls.specs.declared.step.FileStep.{FileStep}
use Rattle.hl_calls.specs.declared.step.FileStep.TheVariants as step
use Rattle.hl_calls.specs.Calls.{MakesCall, UsesLines, done_by, halted_step, is_over, needed_by}
use Rattle.hl_calls.specs.Growths.{exceeds}
use Rattle.hl_calls.specs.Trees.{OfFiles, site_limits}
use Rattle.hl_calls.proofs.Ends.{ends_in_fault, ends_in_want, ends_needing, ends_refused, ends_without_space, keeps_tables}
use Rattle.hl_ranges.specs.Needs.{IsFirstMissing}
use Rattle.hl_data.specs.ByNumber.{DoesWork, FileWork, IsWorkDone, IsWorkNeeding, cutting, is_over_by, left_by, reading, writing}
use Rattle.hl_data.specs.Files.{IsFileAt, IsNoFileAt}
use Rattle.hl_data.proofs.Before.{missing_before, of_files_before, tables_both, uses_before}
use Rattle.hl_data.proofs.ClampedReads.{meets-none, read_bytes-clamped, read_needs-clamped, serials-none}
use Rattle.hl_data.proofs.DataExits.{cut_big, cut_done, cut_needed, file_found, read_done, read_needed, write_big, write_done, write_long, write_needed, write_none}

-- a number above zero isn't zero
not_zero : (n : ℕ) → 0 < n → nat_eq n 0 ≡ false
not_zero n some = grind (arith, nat_tests)

-- what a test for zero tells
pub is_none : (n : ℕ) (b : Bool) → b ≡ (n == 0) → b ≡ true → n ≡ 0
is_none n b tests is = elim (eqb_tells n 0) [ inl t ↦ t.1 | inr t ↦ let e = sym is ∙ tests ∙ t.0 in cc ]

pub is_some : (n : ℕ) (b : Bool) → b ≡ (n == 0) → b ≡ false → 0 < n
is_some n b tests is = elim (eqb_tells n 0) [ inl t ↦ let e = sym is ∙ tests ∙ t.0 in cc | inr t ↦ let ne : n ≢ 0 = t.1 in omega arith ]

-- no block is touched by no bytes
none_touched : (at n i : ℕ) → n ≡ 0 → (meets at (at + n) i && not (covers at (at + n) i)) ≡ false
none_touched at n i none = ap (λ (b : Bool). b && not (covers at (at + n) i)) (meets-none at (at + n) i (omega arith))

-- so none is needed
none_needed : (at : ℕ) (bytes : List ℕ) → length bytes ≡ 0 → (file : PlacedFile) → write_needs at bytes file ≡ []
none_needed at bytes none file = serials-none (λ i. meets at (at + length bytes) i && not (covers at (at + length bytes) i)) (λ i. none_touched at (length bytes) i none) file

-- the rules accept a call, which works on the file of a number
pub record IsWork (g : Layout) (now : ℕ) (call : Call) (work : FileWork) (number : ℕ) (shelf : Shelf) (numbered : Numbering PlacedFile) (done : NumberedDone PlacedFile) : Type 0 where
  pub file : PlacedFile
  pub there : get numbered number ≡ Some (Leaf file)
  pub is : done ≡ Ok (work.reply shelf file, left_by work number shelf numbered file)
  pub needs : needed numbered call ≡ work.needs file

module _ {M : Type 0} (history : M → Option History) (faults : M → ℕ) (old mid : StoreValue M) (reads : ReadsNodes history old mid)
    (run : Runs (history old.log.machine) (history mid.log.machine) IsUnchanged) (most : faults old.log.machine ≤ faults mid.log.machine) (now : ℕ) (call : Call) where
  -- WHERE NO FILE WAS FOUND the call is refused as that is
  pub ends_halted : (path : List (List ℕ)) (stop : Halt) → Halts history faults old mid (IsNoFileAt (layout old) path) stop
      → ((why : Refusal) (shelf : Shelf) (numbered : Numbering PlacedFile) → file_at (site_limits (layout old)) numbered path ≡ Err why → done_by old shelf numbered now call ≡ Err why)
      → MakesCall history faults old mid now call (halted_step stop)
  ends_halted path (halt.Refused why) is refused = ends_refused history old mid run reads faults now call why (λ h told c lies shelf numbered shows knows placed. refused why shelf numbered (is h told c lies numbered knows))
  ends_halted path halt.DiskFault rose refused = ends_in_fault history old mid run reads faults now call rose
  ends_halted path halt.Memory is refused = ends_in_want history old mid run reads faults now call

  -- WHERE ONE WAS FOUND it is what was done with the file
  module _ (new : StoreValue M) (more : Runs (history mid.log.machine) (history new.log.machine) IsUnchanged) (number : ℕ) (work : FileWork)
      (rules : OfFiles history old (λ c shelf numbered. IsWork (layout old) now call work number shelf numbered (done_by old shelf numbered now call))) where
    both : Runs (history old.log.machine) (history new.log.machine) IsUnchanged
    both = unchanged_then (history old.log.machine) (history mid.log.machine) (history new.log.machine) run more

    all : ReadsNodes history mid new → ReadsNodes history old new
    all = reads_both history old mid reads run new

    -- whether it is over the quota
    over_is : (shelf : Shelf) (numbered : Numbering PlacedFile) (r : IsWork (layout old) now call work number shelf numbered (done_by old shelf numbered now call))
        → is_over old numbered (done_by old shelf numbered now call) ≡ is_over_by mid work number shelf numbered r.file
    over_is shelf numbered r =
        ap (λ (d : NumberedDone PlacedFile). is_over old numbered d) r.is
        ∙ ap (λ (g : Layout). exceeds (quota g) (nodes_charge numbered) (nodes_charge (left_by work number shelf numbered r.file))) (sym (layout_kept history old mid reads))

    pub call_made : (answer : FileStep) → DoesWork history faults mid new number work answer → MakesCall history faults old new now call answer
    call_made (step.Done reply) done = (
      tables_both old mid new (keeps_tables history old mid run reads) done.0,
      λ h told c lies shelf numbered shows knows placed.
          let r = rules h told c lies shelf numbered shows knows placed in
          let w = of_files_before history old mid reads run (λ c shelf numbered. (file : PlacedFile) → get numbered number ≡ Some (Leaf file) → IsWorkDone history mid new reply work number c shelf numbered file)
          done.1 h told c lies shelf numbered shows knows placed r.file r.there in
          record {
            reply_is = w.reply_is ∙ sym (ap numbered_reply r.is);
            within = over_is shelf numbered r ∙ w.within;
            uses = subst (λ (d : NumberedDone PlacedFile). UsesLines old new (needed_by numbered call d)) (sym r.is)
                (subst (UsesLines old new) (sym r.needs) (uses_before history old mid reads new (work.needs r.file) w.uses));
            over = w.over;
            known = subst (AreKnown new c) (sym (ap (numbered_left numbered) r.is)) w.known;
          },
    )
    call_made (step.Needs tseg) needing = ends_needing history old new both (all needing.0) faults now call tseg (λ h told c lies shelf numbered shows knows placed.
        let r = rules h told c lies shelf numbered shows knows placed in
        let w = of_files_before history old mid reads run (λ c shelf numbered. (file : PlacedFile) → get numbered number ≡ Some (Leaf file) → IsWorkNeeding mid tseg work number shelf numbered file)
        needing.1 h told c lies shelf numbered shows knows placed r.file r.there in
        record {
          taken = ap is_taken r.is;
          within = over_is shelf numbered r ∙ w.within;
          first = subst (IsFirstMissing old tseg) (sym r.needs) (missing_before history old mid reads tseg (work.needs r.file) w.first);
        })
    call_made step.NoSpace over = ends_without_space history old new both (all over.0) faults now call (λ h told c lies shelf numbered shows knows placed.
        let r = rules h told c lies shelf numbered shows knows placed in
        let w = of_files_before history old mid reads run (λ c shelf numbered. (file : PlacedFile) → get numbered number ≡ Some (Leaf file) → true ≡ is_over_by mid work number shelf numbered file)
        over.1 h told c lies shelf numbered shows knows placed r.file r.there in
        over_is shelf numbered r ∙ sym w)
    call_made step.DiskFault fault = ends_in_fault history old new both (all fault.0) faults now call (rose_since (faults old.log.machine) (faults mid.log.machine) (faults new.log.machine) most fault.1)
    call_made step.Memory reads_more = ends_in_want history old new both (all reads_more) faults now call

-- THE FILE AT A PATH of a store
module _ {M : Type 0} (history : M → Option History) (old : StoreValue M) (now : ℕ) (path : List (List ℕ)) (number : ℕ) (found : IsFileAt history old path number) where
  -- a read of it is work on it, from where a file may end where it is from beyond
  pub read_work : (at len from : ℕ) → from ≡ min at 4243456 → OfFiles history old (λ c shelf numbered.
      IsWork (layout old) now (calls.Read path at len) (reading now from len) number shelf numbered (done_by old shelf numbered now (calls.Read path at len)))
  read_work at len from is h told c lies shelf numbered shows knows placed =
      let one = found h told c lies numbered knows in
      subst (λ (n : ℕ). IsWork (layout old) now (calls.Read path at len) (reading now n len) number shelf numbered (done_by old shelf numbered now (calls.Read path at len))) (sym is) (record {
        file = one.0;
        there = (file_found (site_limits (layout old)) numbered path number one.0 one.1).1;
        is = read_done (site_limits (layout old)) shelf numbered now path number one.0 one.1 at len
            ∙ ap (λ (bytes : List ℕ). Ok (replies.Data bytes, left_by (reading now at len) number shelf numbered one.0)) (sym (read_bytes-clamped at 4243456 len shelf one.0 one.2));
        needs = read_needed (site_limits (layout old)) shelf numbered now path number one.0 one.1 at len
            ∙ sym (read_needs-clamped at 4243456 len one.0 one.2);
      })

  -- a cut to a size that a file may have
  pub cut_work : (size : ℕ) → size ≤ 4243456 → OfFiles history old (λ c shelf numbered.
      IsWork (layout old) now (calls.Cut path size) (cutting now size) number shelf numbered (done_by old shelf numbered now (calls.Cut path size)))
  cut_work size fits h told c lies shelf numbered shows knows placed =
      let one = found h told c lies numbered knows in
      record {
        file = one.0;
        there = (file_found (site_limits (layout old)) numbered path number one.0 one.1).1;
        is = cut_done (site_limits (layout old)) shelf numbered now path number one.0 one.1 size (le-ltb 4243456 size fits);
        needs = cut_needed (site_limits (layout old)) shelf numbered now path number one.0 one.1 size;
      }

  -- to another
  pub cut_beyond : (size : ℕ) → 4243456 < size → OfFiles history old (λ c shelf numbered. done_by old shelf numbered now (calls.Cut path size) ≡ Err Efbig)
  cut_beyond size big h told c lies shelf numbered shows knows placed =
      let one = found h told c lies numbered knows in
      cut_big (site_limits (layout old)) shelf numbered now path number one.0 one.1 size (lt-ltb 4243456 size big)

  -- a write of too many bytes
  pub write_many : (at : ℕ) (bytes : List ℕ) → 65536 < length bytes → OfFiles history old (λ c shelf numbered. done_by old shelf numbered now (calls.Write path at bytes) ≡ Err Einval)
  write_many at bytes long h told c lies shelf numbered shows knows placed =
      let one = found h told c lies numbered knows in
      write_long (site_limits (layout old)) shelf numbered now path number one.0 one.1 at bytes (lt-ltb 65536 (length bytes) long)

  module _ (at : ℕ) (bytes : List ℕ) (short : length bytes ≤ 65536) where
    short_is : nat_lt 65536 (length bytes) ≡ false
    short_is = le-ltb 65536 (length bytes) short

    -- of none
    pub write_nothing : length bytes ≡ 0 → OfFiles history old (λ c shelf numbered.
        (done_by old shelf numbered now (calls.Write path at bytes) ≡ Ok (replies.Ok, numbered)) × (needed_by numbered (calls.Write path at bytes) (Ok (replies.Ok, numbered)) ≡ []))
    write_nothing none h told c lies shelf numbered shows knows placed =
        let one = found h told c lies numbered knows in (
          write_none (site_limits (layout old)) shelf numbered now path number one.0 one.1 at bytes short_is (ap (λ (n : ℕ). nat_eq n 0) none),
          write_needed (site_limits (layout old)) shelf numbered now path number one.0 one.1 at bytes ∙ none_needed at bytes none one.0,
        )

    module _ (some : 0 < length bytes) where
      some_is : nat_eq (length bytes) 0 ≡ false
      some_is = not_zero (length bytes) some

      -- to beyond what a file may have
      pub write_beyond : 4243456 < at + length bytes → OfFiles history old (λ c shelf numbered. done_by old shelf numbered now (calls.Write path at bytes) ≡ Err Efbig)
      write_beyond big h told c lies shelf numbered shows knows placed =
          let one = found h told c lies numbered knows in
          write_big (site_limits (layout old)) shelf numbered now path number one.0 one.1 at bytes short_is some_is (lt-ltb 4243456 (at + length bytes) big)

      -- one that it may have
      pub write_work : at + length bytes ≤ 4243456 → OfFiles history old (λ c shelf numbered.
          IsWork (layout old) now (calls.Write path at bytes) (writing now at bytes) number shelf numbered (done_by old shelf numbered now (calls.Write path at bytes)))
      write_work fits h told c lies shelf numbered shows knows placed =
          let one = found h told c lies numbered knows in
          record {
            file = one.0;
            there = (file_found (site_limits (layout old)) numbered path number one.0 one.1).1;
            is = write_done (site_limits (layout old)) shelf numbered now path number one.0 one.1 at bytes short_is some_is (le-ltb 4243456 (at + length bytes) fits);
            needs = write_needed (site_limits (layout old)) shelf numbered now path number one.0 one.1 at bytes;
          }
