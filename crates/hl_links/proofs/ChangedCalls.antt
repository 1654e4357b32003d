-- A call that changed the tree as the rules do is done.
use Rattle.std.proofs.Common.{◌≡◌, ℕ, false, [], Option, Ok, ap, ◌∙◌, sym, subst}
use Rattle.hl_media.specs.History.{History}
use Rattle.hl_media.specs.Moments.{Runs}
use Rattle.hl_log.specs.Logs.{OnlyReads}
use Rattle.hl_log.specs.Rest.{IsUnchanged}
use Rattle.hl_tree.specs.declared.call.Call.{Call}
use Rattle.hl_tree.specs.declared.call.Reply.TheVariants as replies
use Rattle.hl_placed.specs.Blocks.{PlacedFile, Shelf}
use Rattle.hl_paths.specs.ByNumbers.{numbered_left, numbered_reply}
use Rattle.hl_paths.specs.Numbered.{Numbering}
use Rattle.hl_store.specs.Values.{StoreValue}
use Rattle.hl_store.specs.Finding.{ReadsNodes}
use Rattle.hl_store.proofs.ReadRuns.{reads_then}
use Rattle.hl_ranges.specs.Needs.{AreAtHand}
use Rattle.hl_walk.specs.Trees.{AreKnown}
use Rattle.hl_walk.proofs.KeptTrees.{reads_both}
use Rattle.hl_calls.specs.declared.step.FileStep.{FileStep}
use Rattle.hl_calls.specs.declared.step.FileStep.TheVariants as step
use Rattle.hl_calls.specs.Calls.{MakesCall, done_by, is_over, needed_by}
use Rattle.hl_calls.specs.Trees.{OfFiles}
use Rattle.hl_links.specs.Links.{ChangesOrStops, ChangesTree, StopsBefore}
use Rattle.hl_links.proofs.StoppedCalls.{ends_stopped, stops_since}
use Rattle.hl_links.proofs.LinkedTrees.{lines_tables, tree_behind}

module _ {M : Type 0} where
  -- the rules accept a call, within the quota and without need of a segment, and leave what the change leaves
  pub record IsByRules (old : StoreValue M) (now : ℕ) (call : Call) (Becomes : Numbering PlacedFile → Numbering PlacedFile → Type 0) (shelf : Shelf) (numbered : Numbering PlacedFile) : Type 0 where
    pub after : Numbering PlacedFile
    pub done : done_by old shelf numbered now call ≡ Ok (replies.Ok, after)
    pub within : is_over old numbered (Ok (replies.Ok, after)) ≡ false
    pub needs : needed_by numbered call (Ok (replies.Ok, after)) ≡ []
    pub becomes : Becomes numbered after

  -- A CHANGE BEHIND READS is the call's, where it is by the rules
  pub ends_changed : (history : M → Option History) (faults : M → ℕ) (old mid new : StoreValue M) → Runs (history old.log.machine) (history mid.log.machine) IsUnchanged → ReadsNodes history old mid
      → (Becomes : Numbering PlacedFile → Numbering PlacedFile → Type 0) → ChangesTree history mid new Becomes → (now : ℕ) (call : Call) → OfFiles history old (λ c shelf numbered. IsByRules old now call Becomes shelf numbered)
      → MakesCall history faults old new now call (step.Done replies.Ok)
  ends_changed history faults old mid new run reads Becomes change now call is = (
    lines_tables old new whole.lines,
    λ h told c lies shelf numbered shows knows placed.
        let by = is h told c lies shelf numbered shows knows placed in
        let behind = whole.tree h told c lies numbered by.after knows.known by.becomes in
        record {
          reply_is = sym (ap numbered_reply by.done);
          within = ap (is_over old numbered) by.done ∙ by.within;
          uses = record {
            tsegs = [];
            at_hand = subst (AreAtHand old []) (sym (ap (needed_by numbered call) by.done ∙ by.needs)) tt;
            lines = ap (λ (v : StoreValue M). v.lines) whole.lines;
          };
          over = behind.over;
          known = subst (AreKnown new c) (sym (ap (numbered_left numbered) by.done)) behind.known;
        },
  )
    where
      whole : ChangesTree history old new Becomes
      whole = tree_behind history old mid new Becomes run reads change

  module _ (history : M → Option History) (blocks faults write_faults say_faults : M → ℕ) (old mid new : StoreValue M) (reads : ReadsNodes history old mid) (machine : OnlyReads history blocks faults write_faults say_faults old.log.machine mid.log.machine)
      (more : OnlyReads history blocks faults write_faults say_faults mid.log.machine new.log.machine) (now : ℕ) (call : Call) where
    -- a change that stops behind reads leaves all as it was
    pub ends_stopped_since : (stop : FileStep) → ReadsNodes history mid new → StopsBefore faults mid new stop → MakesCall history faults old new now call stop
    ends_stopped_since stop then is =
        ends_stopped history faults old new (reads_then machine more).unchanged (reads_both history old mid reads machine.unchanged new then) now call stop
        (stops_since faults old mid new machine.faults_most stop is)

    -- HOW A CHANGE ENDS is how the call does
    pub ends_linked : (Becomes : Numbering PlacedFile → Numbering PlacedFile → Type 0) → OfFiles history old (λ c shelf numbered. IsByRules old now call Becomes shelf numbered)
        → (stop : FileStep) → ChangesOrStops history faults mid new Becomes stop → MakesCall history faults old new now call stop
    ends_linked Becomes by (step.Done reply) is = subst (λ r. MakesCall history faults old new now call (step.Done r)) (sym is.0) (ends_changed history faults old mid new machine.unchanged reads Becomes is.1 now call by)
    ends_linked Becomes by (step.Needs tseg) is = absurd is
    ends_linked Becomes by step.NoSpace is = absurd is
    ends_linked Becomes by step.DiskFault is = ends_stopped_since step.DiskFault is.0 is.1
    ends_linked Becomes by step.Memory is = ends_stopped_since step.Memory is tt
