-- How a call ends that changed nothing.
use Rattle.std.proofs.Common.{◌≡◌, ℕ, true, List, [], Option, Some, Result, Ok, Err, option_map, refl, ap, ◌∙◌, sym, subst}
use Rattle.std.specs.Prelude.{slice_index}
use Rattle.std.specs.FinMap.{get}
use Rattle.hl_media.specs.Causes.{Rose}
use Rattle.hl_media.specs.History.{History, MachineState, state_now}
use Rattle.hl_media.specs.Moments.{Now, Runs}
use Rattle.hl_media.proofs.Runs.{ends_of_run}
use Rattle.hl_addr.specs.Layout.{quota}
use Rattle.hl_log.specs.Logs.{with_machine}
use Rattle.hl_log.specs.Rest.{IsUnchanged}
use Rattle.hl_tree.specs.declared.call.Call.{Call}
use Rattle.hl_tree.specs.declared.call.Reply.{Reply}
use Rattle.hl_tree.specs.declared.call.Reply.TheVariants as replies
use Rattle.hl_tree.specs.declared.call.Refusal.{Refusal}
use Rattle.hl_placed.specs.Blocks.{PlacedFile, Shelf}
use Rattle.hl_paths.specs.ByNumbers.{NumberedDone, numbered_left, numbered_reply}
use Rattle.hl_paths.specs.Charges.{nodes_charge}
use Rattle.hl_paths.specs.Numbered.{Numbering}
use Rattle.hl_nodes.specs.Contents.{Contents}
use Rattle.hl_overlaid.specs.Changes.{node_used}
use Rattle.hl_store.specs.Values.{StoreValue, layout, nodes_of}
use Rattle.hl_store.specs.Lying.{LiesOver}
use Rattle.hl_store.specs.Finding.{KeepsNodes, ReadsNodes}
use Rattle.hl_ranges.specs.Needs.{AreAtHand}
use Rattle.hl_walk.specs.Trees.{AreKnown, KnowsTree, known_node}
use Rattle.hl_calls.specs.declared.step.FileStep.TheVariants as step
use Rattle.hl_calls.specs.Trees.{OfFiles}
use Rattle.hl_calls.proofs.Quotas.{is_over_quota-same}
use Rattle.hl_calls.specs.Calls.{IsDone, IsNeed, KeepsTables, LeavesNodes, MakesCall, UsesLines, done_by, is_over, needed_by}

module _ {M : Type 0} (history : M → Option History) (old new : StoreValue M)
    (run : Runs (history old.log.machine) (history new.log.machine) IsUnchanged) where
  -- what holds at the moment of before holds at that of now
  pub now_after : (P : MachineState → Type 0) (h : History) → history old.log.machine ≡ Some h → P (state_now h) → Now (history new.log.machine) P
  now_after P h told holds h' told' = subst P (sym (ends_of_run (history old.log.machine) (history new.log.machine) IsUnchanged run h told h' told')) holds

  module _ (reads : ReadsNodes history old new) where
    -- WHERE NO MORE THAN READS WAS MADE the nodes are left
    pub leaves_nodes : LeavesNodes history old new
    leaves_nodes = record {
      same = reads.same;
      over = λ h told c lies. now_after (λ s. LiesOver new c s) h told (reads.keeps h told c lies).over;
      nodes = λ h told c lies. (reads.keeps h told c lies).nodes;
      dirty = reads.dirty;
    }

    pub keeps_tables : KeepsTables old new
    keeps_tables = subst (λ (v : StoreValue M). v ≡ record old {
      log = with_machine old.log v.log.machine;
      overlay = v.overlay;
      uses = v.uses;
      tally = v.tally;
      lines = v.lines;
    }) (sym reads.same) refl

    -- the tree that was known is
    pub known_still : (h : History) → history old.log.machine ≡ Some h → (c : Contents) → LiesOver old c (state_now h)
        → (numbered : Numbering PlacedFile) → AreKnown old c numbered → AreKnown new c numbered
    known_still h told c lies numbered known number =
        ap (λ (v : StoreValue M). option_map (node_used (slice_index v.uses number)) (get (nodes_of new c) number)) reads.same
        ∙ ap (λ ns. option_map (known_node old number) (get ns number)) (reads.keeps h told c lies).nodes
        ∙ known number

    module _ (faults : M → ℕ) (now : ℕ) (call : Call) where
      -- A CALL THAT LEAVES ALL AS IT WAS is done
      pub ends_unchanged : (reply : Reply)
          → OfFiles history old (λ c shelf numbered. (reply ≡ numbered_reply (done_by old shelf numbered now call))
          × (numbered_left numbered (done_by old shelf numbered now call) ≡ numbered)
          × (needed_by numbered call (done_by old shelf numbered now call) ≡ []))
          → MakesCall history faults old new now call (step.Done reply)
      ends_unchanged reply is = (
        keeps_tables,
        λ h told c lies shelf numbered shows knows placed.
            let facts = is h told c lies shelf numbered shows knows placed in
            record {
              reply_is = facts.0;
              within = is_over_quota-same (quota (layout old)) numbered (done_by old shelf numbered now call) (ap nodes_charge facts.1);
              uses = record {
                tsegs = [];
                at_hand = subst (AreAtHand old []) (sym facts.2) tt;
                lines = ap (λ (v : StoreValue M). v.lines) reads.same;
              };
              over = now_after (λ s. LiesOver new c s) h told (reads.keeps h told c lies).over;
              known = subst (AreKnown new c) (sym facts.1) (known_still h told c lies numbered knows.known);
            },
      )

      -- so is one that the rules refuse
      pub ends_refused : (why : Refusal) → OfFiles history old (λ c shelf numbered. done_by old shelf numbered now call ≡ Err why)
          → MakesCall history faults old new now call (step.Done (replies.Refused why))
      ends_refused why is = ends_unchanged (replies.Refused why) (λ h told c lies shelf numbered shows knows placed.
          let refused = is h told c lies shelf numbered shows knows placed in
          (sym (ap numbered_reply refused), ap (numbered_left numbered) refused, ap (needed_by numbered call) refused))

      -- and one that is answered without a change, and needs nothing
      pub ends_answered : (reply : Reply) → OfFiles history old (λ c shelf numbered.
          (done_by old shelf numbered now call ≡ Ok (reply, numbered)) × (needed_by numbered call (Ok (reply, numbered)) ≡ []))
          → MakesCall history faults old new now call (step.Done reply)
      ends_answered reply is = ends_unchanged reply (λ h told c lies shelf numbered shows knows placed.
          let facts = is h told c lies shelf numbered shows knows placed in
          (sym (ap numbered_reply facts.0), ap (numbered_left numbered) facts.0, ap (needed_by numbered call) facts.0 ∙ facts.1))

      -- A CALL THAT ISN'T DONE changes nothing
      pub ends_needing : (tseg : ℕ) → OfFiles history old (λ c shelf numbered. IsNeed old tseg call numbered (done_by old shelf numbered now call))
          → MakesCall history faults old new now call (step.Needs tseg)
      ends_needing tseg is = (leaves_nodes, is)

      pub ends_without_space : OfFiles history old (λ c shelf numbered. is_over old numbered (done_by old shelf numbered now call) ≡ true)
          → MakesCall history faults old new now call step.NoSpace
      ends_without_space is = (leaves_nodes, is)

      pub ends_in_fault : Rose (faults old.log.machine) (faults new.log.machine) → MakesCall history faults old new now call step.DiskFault
      ends_in_fault rose = (leaves_nodes, rose)

      pub ends_in_want : MakesCall history faults old new now call step.Memory
      ends_in_want = leaves_nodes
