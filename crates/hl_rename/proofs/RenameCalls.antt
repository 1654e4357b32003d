-- How a rename ends.
use Rattle.std.proofs.Common.{◌≡◌, ℕ, true, false, nat_eq, List, length, is_some, Option, Ok, refl, ap, ◌∙◌, sym, subst}
use Rattle.std.specs.Prelude.{◌&&◌, Bool}
use Rattle.std.specs.Ordering.{eq_by_cmp}
use Rattle.hl_media.specs.History.{History, state_now}
use Rattle.hl_media.specs.Moments.{Runs}
use Rattle.hl_media.proofs.Runs.{starts}
use Rattle.hl_addr.specs.Layout.{quota}
use Rattle.hl_log.specs.Logs.{OnlyReads}
use Rattle.hl_log.specs.Rest.{IsUnchanged}
use Rattle.hl_inode.specs.declared.inode.Kind.{Kind}
use Rattle.hl_tree.specs.declared.call.Limits.{Limits}
use Rattle.hl_tree.specs.declared.call.Call.TheVariants as calls
use Rattle.hl_tree.specs.declared.call.Reply.TheVariants as replies
use Rattle.hl_tree.specs.declared.call.Refusal.{Refusal}
use Rattle.hl_tree.specs.declared.call.Refusal.TheVariants.{Einval, Enametoolong}
use Rattle.hl_tree.specs.Names.{below, is_too_long, path_cmp}
use Rattle.hl_placed.specs.Blocks.{PlacedFile, Shelf}
use Rattle.hl_paths.specs.ByNumbers.{renamed_nodes}
use Rattle.hl_paths.specs.Charges.{nodes_charge}
use Rattle.hl_paths.specs.Entries.{entry_number}
use Rattle.hl_paths.specs.Finding.{last_name}
use Rattle.hl_paths.specs.Numbered.{Numbering}
use Rattle.hl_store.specs.Values.{StoreValue, layout}
use Rattle.hl_store.specs.Finding.{ReadsNodes}
use Rattle.hl_store.proofs.ReadRuns.{reads_then, rose_since}
use Rattle.hl_walk.specs.declared.walk.Halt.{Halt}
use Rattle.hl_walk.specs.declared.walk.Halt.TheVariants as halt
use Rattle.hl_walk.specs.Trees.{OfTree}
use Rattle.hl_walk.specs.Walks.{Halts}
use Rattle.hl_walk.proofs.KeptTrees.{layout_kept, of_tree_before, reads_both, reads_nothing}
use Rattle.hl_calls.specs.declared.step.FileStep.{FileStep}
use Rattle.hl_calls.specs.declared.step.FileStep.TheVariants as step
use Rattle.hl_calls.specs.Calls.{MakesCall, done_by, halted_step, is_over}
use Rattle.hl_calls.specs.Growths.{exceeds}
use Rattle.hl_calls.specs.Trees.{site_limits}
use Rattle.hl_calls.proofs.Ends.{ends_answered, ends_refused, ends_without_space}
use Rattle.hl_calls.proofs.Quotas.{is_over_quota-taken, tally_charge-tree}
use Rattle.hl_links.proofs.ChangedCalls.{ends_changed, ends_stopped_since}
use Rattle.hl_links.proofs.FoundLinks.{parent_there}
use Rattle.hl_links.proofs.StoppedCalls.{ends_halted}
use Rattle.hl_rename.specs.declared.finding.Source.{Source}
use Rattle.hl_rename.specs.declared.finding.Target.{Target}
use Rattle.hl_rename.specs.Moves.{Moves, MovesOrStops, TellsQuota}
use Rattle.hl_rename.specs.RenameEnds.{HasNoSource, HasNoTarget, HasSource, HasTarget, IsSource, IsTarget, is_dir, root_kept}
use Rattle.hl_rename.proofs.RenameExits.{rename_from_long, rename_root, rename_to_long}
use Rattle.hl_rename.proofs.RenameRules.{source_below, source_lost, source_moves, source_onto_root, source_same, target_lost}

-- the nodes that a move leaves are those of the rules
moves_by : (limits : Limits) (from to : List (List ℕ)) (name to_name : List ℕ) → name ≡ last_name from → to_name ≡ last_name to → (numbered after : Numbering PlacedFile) (source : Source) (target : Target) (kind : Kind) → IsSource numbered from source → IsTarget numbered kind to target
    → after ≡ renamed_nodes limits numbered source.parent.number (last_name from) source.number target.parent.number (last_name to) target.number → Moves source name target to_name numbered after
moves_by limits from to name to_name name_is to_name_is numbered after source target kind is goal left = record {
  entries = is.entries;
  spelled = is.spelled;
  there = parent_there numbered from source.parent.number is.entries is.led;
  to_entries = goal.entries;
  to_spelled = goal.spelled;
  to_there = parent_there numbered to target.parent.number goal.entries goal.led;
  at = ap (entry_number goal.entries) to_name_is ∙ goal.at;
  left = left ∙ (λ i. renamed_nodes limits numbered source.parent.number (sym name_is i) source.number target.parent.number (sym to_name_is i) target.number);
}

module _ {M : Type 0} (history : M → Option History) (faults : M → ℕ) (old : StoreValue M) (now : ℕ) (from to : List (List ℕ)) where
  -- AT ONCE: a path that is too long, and the root
  at_once : Runs (history old.log.machine) (history old.log.machine) IsUnchanged
  at_once = starts (history old.log.machine) IsUnchanged (λ h e. refl)

  pub refused_long : is_too_long from ≡ true → MakesCall history faults old old now (calls.Rename from to) (step.Done (replies.Refused Enametoolong))
  refused_long long = ends_refused history old old at_once (reads_nothing history old) faults now (calls.Rename from to) Enametoolong
      (λ h told c lies shelf numbered shows knows placed. rename_from_long (site_limits (layout old)) numbered from to long)

  pub refused_to_long : is_too_long from ≡ false → is_too_long to ≡ true → MakesCall history faults old old now (calls.Rename from to) (step.Done (replies.Refused Enametoolong))
  refused_to_long short long = ends_refused history old old at_once (reads_nothing history old) faults now (calls.Rename from to) Enametoolong
      (λ h told c lies shelf numbered shows knows placed. rename_to_long (site_limits (layout old)) numbered from to short long)

  pub refused_root : is_too_long from ≡ false → is_too_long to ≡ false → nat_eq (length from) 0 ≡ true → MakesCall history faults old old now (calls.Rename from to) (step.Done (replies.Refused Einval))
  refused_root short to_short root = ends_refused history old old at_once (reads_nothing history old) faults now (calls.Rename from to) Einval
      (λ h told c lies shelf numbered shows knows placed. rename_root (site_limits (layout old)) numbered from to short to_short root)

  module _ (short : is_too_long from ≡ false) (to_short : is_too_long to ≡ false) (some : nat_eq (length from) 0 ≡ false) where
    -- NOTHING STANDS at the path
    pub ends_sourceless : (new : StoreValue M) → Runs (history old.log.machine) (history new.log.machine) IsUnchanged → ReadsNodes history old new → (stop : Halt) → Halts history faults old new (HasNoSource from) stop
        → MakesCall history faults old new now (calls.Rename from to) (halted_step stop)
    ends_sourceless new run reads stop halts = ends_halted history faults old new run reads now (calls.Rename from to) (HasNoSource from)
        (λ shelf numbered why is. source_lost (site_limits (layout old)) numbered from to short to_short some why is) stop halts

    module _ (mid : StoreValue M) (source : Source) (has : HasSource history old mid from source) (run : Runs (history old.log.machine) (history mid.log.machine) IsUnchanged) (reads : ReadsNodes history old mid) where
      -- both paths are the same
      pub ends_same : eq_by_cmp path_cmp from to ≡ true → MakesCall history faults old mid now (calls.Rename from to) (step.Done replies.Ok)
      ends_same same = ends_answered history old mid run reads faults now (calls.Rename from to) replies.Ok
          (λ h told c lies shelf numbered shows knows placed.
          (source_same (site_limits (layout old)) numbered from to short to_short some source (has.is h told c lies numbered knows) same, refl))

      module _ (other : eq_by_cmp path_cmp from to ≡ false) where
        -- a directory would come below itself
        pub refused_below : (is_dir source.kind && is_some (below from to)) ≡ true → MakesCall history faults old mid now (calls.Rename from to) (step.Done (replies.Refused Einval))
        refused_below under = ends_refused history old mid run reads faults now (calls.Rename from to) Einval
            (λ h told c lies shelf numbered shows knows placed.
            source_below (site_limits (layout old)) numbered from to short to_short some source (has.is h told c lies numbered knows) other under)

        module _ (apart : (is_dir source.kind && is_some (below from to)) ≡ false) where
          -- it would take the root's place
          pub refused_onto_root : nat_eq (length to) 0 ≡ true → MakesCall history faults old mid now (calls.Rename from to) (step.Done (replies.Refused (root_kept source.kind)))
          refused_onto_root root = ends_refused history old mid run reads faults now (calls.Rename from to) (root_kept source.kind)
              (λ h told c lies shelf numbered shows knows placed.
              source_onto_root (site_limits (layout old)) numbered from to short to_short some source (has.is h told c lies numbered knows) other apart root)

          module _ (named_to : nat_eq (length to) 0 ≡ false) (blocks write_faults say_faults : M → ℕ) (machine : OnlyReads history blocks faults write_faults say_faults old.log.machine mid.log.machine) where
            module _ (new : StoreValue M) (more : OnlyReads history blocks faults write_faults say_faults mid.log.machine new.log.machine) where
              -- NOTHING MAY STAND where it would go
              abbrev MovesNowhere : Numbering PlacedFile → Refusal → Type 0
              MovesNowhere numbered why = IsSource numbered from source × HasNoTarget source.kind to numbered why

              nowhere : (stop : Halt) → Halts history faults mid new (HasNoTarget source.kind to) stop → Halts history faults old new MovesNowhere stop
              nowhere (halt.Refused why) is = λ h told c lies numbered tree.
                  (has.is h told c lies numbered tree, of_tree_before history old mid reads run (λ c numbered. HasNoTarget source.kind to numbered why) is h told c lies numbered tree)
              nowhere halt.DiskFault is = rose_since (faults old.log.machine) (faults mid.log.machine) (faults new.log.machine) machine.faults_most is
              nowhere halt.Memory is = tt

              pub ends_targetless : ReadsNodes history mid new → (stop : Halt) → Halts history faults mid new (HasNoTarget source.kind to) stop → MakesCall history faults old new now (calls.Rename from to) (halted_step stop)
              ends_targetless then stop halts = ends_halted history faults old new (reads_then machine more).unchanged (reads_both history old mid reads machine.unchanged new then) now (calls.Rename from to) MovesNowhere
                  (λ shelf numbered why is. target_lost (site_limits (layout old)) numbered from to short to_short some source is.0 other apart named_to why is.1) stop (nowhere stop halts)

            module _ (next : StoreValue M) (target : Target) (goal : HasTarget history mid next source.kind to target) (behind : OnlyReads history blocks faults write_faults say_faults old.log.machine next.log.machine) (both : ReadsNodes history old next)
                (name to_name : List ℕ) (name_is : name ≡ last_name from) (to_name_is : to_name ≡ last_name to) where
              abbrev left_of : Numbering PlacedFile → Numbering PlacedFile
              left_of numbered = renamed_nodes (site_limits (layout old)) numbered source.parent.number (last_name from) source.number target.parent.number (last_name to) target.number

              goal_is : OfTree history old (λ c numbered. IsTarget numbered source.kind to target)
              goal_is = of_tree_before history old mid reads run (λ c numbered. IsTarget numbered source.kind to target) goal.is

              -- what the quota says behind reads it said before them
              quota_since : (over : Bool) → TellsQuota next (Moves source name target to_name) over → (numbered : Numbering PlacedFile) → nodes_charge numbered ≡ old.tally.charge → IsSource numbered from source → IsTarget numbered source.kind to target
                  → is_over old numbered (Ok (replies.Ok, left_of numbered)) ≡ over
              quota_since over tells numbered charge is at =
                  is_over_quota-taken (quota (layout old)) numbered (Ok (replies.Ok, left_of numbered)) refl
                  ∙ ap (λ g. exceeds (quota g) (nodes_charge numbered) (nodes_charge (left_of numbered))) (sym (layout_kept history old next both))
                  ∙ tells numbered (left_of numbered) (charge ∙ sym (ap (λ (v : StoreValue M). v.tally.charge) both.same))
                  (moves_by (site_limits (layout old)) from to name to_name name_is to_name_is numbered (left_of numbered) source target source.kind is at refl)

              done_is : (shelf : Shelf) (numbered : Numbering PlacedFile) → IsSource numbered from source → IsTarget numbered source.kind to target → done_by old shelf numbered now (calls.Rename from to) ≡ Ok (replies.Ok, left_of numbered)
              done_is shelf numbered is at = source_moves (site_limits (layout old)) numbered from to short to_short some source is other apart named_to target at

              -- HOW THE MOVE ENDS is how the call does
              pub ends_moved : (new : StoreValue M) → OnlyReads history blocks faults write_faults say_faults next.log.machine new.log.machine → (stop : FileStep) → MovesOrStops history faults next new (Moves source name target to_name) stop
                  → MakesCall history faults old new now (calls.Rename from to) stop
              ends_moved new more (step.Done reply) is = subst (λ r. MakesCall history faults old new now (calls.Rename from to) (step.Done r)) (sym is.0)
                  (ends_changed history faults old next new behind.unchanged both (Moves source name target to_name) is.2 now (calls.Rename from to)
                  (λ h told c lies shelf numbered shows knows placed.
                  let from_is = has.is h told c lies numbered knows in
                  let to_is = goal_is h told c lies numbered knows in
                  record {
                    after = left_of numbered;
                    done = done_is shelf numbered from_is to_is;
                    within = quota_since false is.1 numbered (sym (tally_charge-tree old c (state_now h) lies numbered knows)) from_is to_is;
                    needs = refl;
                    becomes = moves_by (site_limits (layout old)) from to name to_name name_is to_name_is numbered (left_of numbered) source target source.kind from_is to_is refl;
                  }))
              ends_moved new more (step.Needs tseg) is = absurd is
              ends_moved new more step.NoSpace is = ends_without_space history old new (reads_then behind more).unchanged (reads_both history old next both behind.unchanged new is.0) faults now (calls.Rename from to)
                  (λ h told c lies shelf numbered shows knows placed.
                  let from_is = has.is h told c lies numbered knows in
                  let to_is = goal_is h told c lies numbered knows in
                  ap (is_over old numbered) (done_is shelf numbered from_is to_is)
                  ∙ quota_since true is.1 numbered (sym (tally_charge-tree old c (state_now h) lies numbered knows)) from_is to_is)
              ends_moved new more step.DiskFault is = ends_stopped_since history blocks faults write_faults say_faults old next new both behind more now (calls.Rename from to) step.DiskFault is.0 is.1
              ends_moved new more step.Memory is = ends_stopped_since history blocks faults write_faults say_faults old next new both behind more now (calls.Rename from to) step.Memory is tt
