-- What a file call answers, and what it leaves of a store.
use Rattle.std.specs.Prelude.{◌≡◌, ℕ, Bool, true, false, List, [], Option, Result, Ok, Err}
use Rattle.std.specs.List.{fold}
use Rattle.hl_media.specs.Causes.{Rose}
use Rattle.hl_media.specs.History.{History}
use Rattle.hl_media.specs.Moments.{Now}
use Rattle.hl_addr.specs.Layout.{quota}
use Rattle.hl_lines.specs.LineTable.{with_touched}
use Rattle.hl_log.specs.Logs.{with_machine}
use Rattle.hl_tree.specs.declared.call.Call.{Call}
use Rattle.hl_tree.specs.declared.call.Reply.{Reply}
use Rattle.hl_tree.specs.declared.call.Reply.TheVariants as replies
use Rattle.hl_placed.specs.Blocks.{PlacedFile, Shelf}
use Rattle.hl_paths.specs.ByNumbers.{NumberedDone, by_numbers, needed, numbered_left, numbered_reply}
use Rattle.hl_paths.specs.Files.{is_over_quota, is_taken}
use Rattle.hl_paths.specs.Numbered.{Numbering}
use Rattle.hl_nodes.specs.Contents.{Contents}
use Rattle.hl_store.specs.Values.{StoreValue, dirty_of, layout, nodes_of}
use Rattle.hl_store.specs.Lying.{LiesOver}
use Rattle.hl_store.specs.Finding.{OverNow}
use Rattle.hl_ranges.specs.declared.ranges.RangeStep.{RangeStep}
use Rattle.hl_ranges.specs.declared.ranges.RangeStep.TheVariants as range
use Rattle.hl_ranges.specs.Needs.{AreAtHand, IsFirstMissing}
use Rattle.hl_walk.specs.declared.walk.Halt.{Halt}
use Rattle.hl_walk.specs.declared.walk.Halt.TheVariants as halt
use Rattle.hl_walk.specs.Trees.{AreKnown}
use Rattle.hl_calls.specs.declared.step.FileStep.{FileStep}
use Rattle.hl_calls.specs.declared.step.FileStep.TheVariants as step
use Rattle.hl_calls.specs.Trees.{OfFiles, site_limits}

-- how a call ends whose walk halts, or whose reading or changing of bytes stops
abbrev pub halted_step : Halt → FileStep
halted_step (halt.Refused why) = step.Done (replies.Refused why)
halted_step halt.DiskFault = step.DiskFault
halted_step halt.Memory = step.Memory

abbrev pub stopped_step : RangeStep → FileStep
stopped_step range.Done = step.Memory
stopped_step range.DiskFault = step.DiskFault
stopped_step range.Memory = step.Memory

-- the segments whose bytes a call reads, if the rules accept it
abbrev pub needed_by : Numbering PlacedFile → Call → NumberedDone PlacedFile → List ℕ
needed_by numbered call (Ok done) = needed numbered call
needed_by numbered call (Err why) = []

module _ {M : Type 0} where
  -- what the rules make of a call on a tree of the site
  abbrev pub done_by : StoreValue M → Shelf → Numbering PlacedFile → ℕ → Call
      → NumberedDone PlacedFile
  done_by v shelf numbered now call = by_numbers (site_limits (layout v)) shelf numbered now call

  -- they accept it, but the charge is above the quota behind it, and grows
  abbrev pub is_over : StoreValue M → Numbering PlacedFile → NumberedDone PlacedFile → Bool
  is_over v numbered done = is_over_quota (quota (layout v)) numbered done

  -- the lines that hold these segments were used, one after another
  pub record UsesLines (old new : StoreValue M) (serials : List ℕ) : Type 0 where
    pub tsegs : List ℕ
    pub at_hand : AreAtHand old tsegs serials
    pub lines : new.lines ≡ fold with_touched old.lines tsegs

  -- The call was done: the reply is that of the rules, and the nodes that are left are theirs, with their last uses.
  pub record IsDone (history : M → Option History) (old new : StoreValue M) (reply : Reply)
      (call : Call) (c : Contents) (numbered : Numbering PlacedFile)
      (done : NumberedDone PlacedFile) : Type 0 where
    pub reply_is : reply ≡ numbered_reply done
    pub within : is_over old numbered done ≡ false
    pub uses : UsesLines old new (needed_by numbered call done)
    pub over : Now (history new.log.machine) (λ s. LiesOver new c s)
    pub known : AreKnown new c (numbered_left numbered done)

  -- at most the machine, drafts, what is counted of nodes, last uses and the order of lines have changed
  abbrev pub KeepsTables : StoreValue M → StoreValue M → Type 0
  KeepsTables old new = new ≡ record old {
    log = with_machine old.log new.log.machine;
    overlay = new.overlay;
    uses = new.uses;
    tally = new.tally;
    lines = new.lines;
  }

  -- nothing was done: no node changed, and no last use
  pub record LeavesNodes (history : M → Option History) (old new : StoreValue M) : Type 0 where
    pub same : new ≡ record old {
      log = with_machine old.log new.log.machine;
      overlay = new.overlay;
    }
    pub over : OverNow history old (λ s c. Now (history new.log.machine) (λ s. LiesOver new c s))
    pub nodes : OverNow history old (λ s c. nodes_of new c ≡ nodes_of old c)
    pub dirty : dirty_of new ≡ dirty_of old

  -- the rules accept the call, within the quota, and this slot's segment is the first that it needs and no line holds
  pub record IsNeed (old : StoreValue M) (tseg : ℕ) (call : Call) (numbered : Numbering PlacedFile)
      (done : NumberedDone PlacedFile) : Type 0 where
    pub taken : is_taken done ≡ true
    pub within : is_over old numbered done ≡ false
    pub first : IsFirstMissing old tseg (needed numbered call)

  -- What a call makes. It needs a segment, finds no space or is done exactly by the rules; a fault comes only where the count
  -- rose; and where it isn't done nothing has changed.
  abbrev pub MakesCall : (M → Option History) → (M → ℕ) → StoreValue M → StoreValue M → ℕ → Call
      → FileStep → Type 0
  MakesCall history faults old new now call (step.Done reply) = KeepsTables old new
      × OfFiles history old (λ c shelf numbered.
      IsDone history old new reply call c numbered (done_by old shelf numbered now call))
  MakesCall history faults old new now call (step.Needs tseg) = LeavesNodes history old new
      × OfFiles history old (λ c shelf numbered.
      IsNeed old tseg call numbered (done_by old shelf numbered now call))
  MakesCall history faults old new now call step.NoSpace = LeavesNodes history old new
      × OfFiles history old (λ c shelf numbered.
      is_over old numbered (done_by old shelf numbered now call) ≡ true)
  MakesCall history faults old new now call step.DiskFault = LeavesNodes history old new
      × Rose (faults old.log.machine) (faults new.log.machine)
  MakesCall history faults old new now call step.Memory = LeavesNodes history old new
