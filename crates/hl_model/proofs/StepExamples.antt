-- Worked examples of whole steps: right rows, and wrong steps that are none.
use Rattle.std.proofs.Common.{arith, ◌≡◌, ℕ, ◌-◌, ◌^◌, ◌⊎◌, Bool, true, false, nat_lt, List, [], ◌∷◌, ◌++◌, ◌&&◌, ◌||◌, not, is_ok, Some, None, Ok, refl, ap, sym, ◌∙◌, subst, inl, inr}
use Rattle.std.specs.Prelude.{Contains}
use Rattle.std.specs.FinMap.{get}
use Rattle.hl_tree.specs.declared.call.Call.TheVariants as calls
use Rattle.hl_tree.specs.declared.call.Refusal.TheVariants as refusals
use Rattle.hl_tree.specs.declared.call.Reply.TheVariants as replies
use Rattle.hl_tree.specs.declared.node.Node.TheVariants.{Dir, File}
use Rattle.hl_tree.specs.Tree.{content_at, walk, walk_to_parent}
use Rattle.hl_placed.specs.Blocks.{Shelf}
use Rattle.hl_placed.specs.Placed.{PlacedTree}
use Rattle.hl_placed.specs.Staging.{put_away}
use Rattle.hl_model.specs.Answers.{SiteAnswer}
use Rattle.hl_model.specs.Answers as answers
use Rattle.hl_model.specs.Cleaning.{Live, LogUse, clean_one}
use Rattle.hl_model.specs.Dues.{finds_full, is_due}
use Rattle.hl_model.specs.Events.{SiteEvent, FileCall, Stage, BeginCopy, Eject, CleanOne, Checkpoint}
use Rattle.hl_model.specs.Ruled.{told_of}
use Rattle.hl_model.specs.Site.{SiteState}
use Rattle.hl_model.specs.Stagings.{stage}
use Rattle.hl_model.specs.Steps.{State, SiteStep, HasBroken, RunsOn, told_behind}
use Rattle.hl_model.specs.Units.{AreEmptied, Cleans, CleansMore, LeavesLog, WritesMore, LogGoesOn, Middles, writes_more}
use Rattle.hl_model.proofs.ClaimedBlocks.{in_cons, in_head, in_none}
use Rattle.hl_model.proofs.WorkedExamples.{site_a, fresh_site, log_with, no_log, one_block, path, staged_site, the_first_staging_takes_slot_0_and_line_0}

-- a log segment in which so many blocks of the tree lie
abbrev used : ℕ → ℕ → Live
used n charge = record { segment = n; charge = charge; tables = 0 }

-- that log, with so many clean segments
abbrev clean : ℕ → LogUse → LogUse
clean n log = record log { clean = n }

-- a block of it waits for a unit
abbrev dirty : LogUse → LogUse
dirty log = record log { dirty = 1; tidy = false }

abbrev with_record : ℕ → LogUse → LogUse
with_record n log = record log { number = n }

-- a site with that log, whose machine met no fault
abbrev at_rest : SiteState → LogUse → State
at_rest s log = record { site = s; log = log; faults = 0; write_faults = 0 }

one_then : {A : Type 0} (x y : A) → x ∷ [] ≡ y ∷ [] → x ≡ y
one_then x y e = cc

module _ (shelf : Shelf) (t : PlacedTree) where
  abbrev s : SiteState
  s = fresh_site t

  abbrev Steps : Middles → LogUse → SiteEvent → SiteAnswer → LogUse → Type 0
  Steps mid before event answer after = SiteStep site_a shelf mid (at_rest s before) event answer (at_rest s after)

  -- CLEANING

  abbrev little : LogUse
  little = log_with [] (used 1 9 ∷ [])

  abbrev moved : LogUse
  moved = log_with (1 ∷ []) (used 1 0 ∷ [])

  pub a_segment_is_cleaned : (segment : List ℕ) → Steps (record { first = little; unit = moved; segment = segment }) little CleanOne (answers.Cleaned 1) moved
  unfolding clean_one
  a_segment_is_cleaned segment = record {
    first = record { room = refl; goes = refl };
    told = refl;
    leaves = record {
      room = record { clean = omega arith; ran = refl };
      number = refl;
      cleaned = refl;
      tidy = refl;
      ran = refl;
      emptied = λ n listed. in_cons n 1 [] listed
          (λ is. record { one = used 1 0; listed = in_head (used 1 0) []; same = is; empty = refl })
          (λ no. in_none n no);
      passes = refl;
    };
    calm = refl;
    later = record { faults = omega arith; write_faults = omega arith; still = λ no. refl };
  }

  -- no log in between makes a segment cleaned of which most is live
  pub a_segment_that_is_mostly_live_is_not_cleaned : (mid : Middles) (after : LogUse) → Steps mid (log_with [] (used 1 60 ∷ [])) CleanOne (answers.Cleaned 1) after → ⊥
  unfolding clean_one
  a_segment_that_is_mostly_live_is_not_cleaned mid after step =
      let told = subst (λ log. told_behind site_a shelf log s CleanOne ≡ (answers.Cleaned 1, s)) step.first.goes step.told in
      let wrong : answers.NoneLeft ≡ answers.Cleaned 1 = ap (λ p. p.0) told in cc

  pub a_cleaning_moves_the_blocks : (mid : Middles) → Steps mid little CleanOne (answers.Cleaned 1) little → ⊥
  a_cleaning_moves_the_blocks mid step = by_passes (nat_lt mid.unit.clean 10) step.leaves.passes
    where
      listed : mid.unit.cleaned ≡ 1 ∷ []
      listed = step.leaves.cleaned ∙ ap (λ (log : LogUse). log.cleaned ++ 1 ∷ []) step.first.goes

      number : mid.unit.number ≡ 1
      number = step.leaves.number ∙ ap (λ (log : LogUse). log.number) step.first.goes

      more_than_none : (more : List ℕ) → [] ≡ mid.unit.cleaned ++ more → ⊥
      more_than_none more e = let wrong : [] ≡ 1 ∷ more = e ∙ ap (λ (ns : List ℕ). ns ++ more) listed in cc

      by_more : (more : List ℕ) → CleansMore more mid.unit little → ⊥
      by_more more (inl kept) = more_than_none more kept.1
      by_more more (inr anew) = let later = anew.0 in let was = number in omega arith

      by_passes : (b : Bool) → LogGoesOn b mid.unit little → ⊥
      by_passes true passes = by_more passes.more passes.cleaned
      by_passes false same = let wrong : ◌≡◌ {A = List ℕ} [] (1 ∷ []) = ap (λ (log : LogUse). log.cleaned) same ∙ listed in cc

  -- UNITS AND CHECKPOINTS

  -- a unit that follows a cleaning keeps the mark, since no record was written
  pub a_unit_keeps_what_was_cleaned : (mid : Middles) → Steps mid (dirty (log_with (1 ∷ []) (used 1 0 ∷ []))) CleanOne answers.NoneLeft (log_with [] (used 1 0 ∷ [])) → ⊥
  a_unit_keeps_what_was_cleaned mid step = by_more step.first.goes.more step.first.goes.cleaned
    where
      none : mid.first.cleaned ≡ []
      none = sym (ap (λ (log : LogUse). log.cleaned) step.leaves)

      by_more : (more : List ℕ) → CleansMore more (log_with (1 ∷ []) (used 1 0 ∷ [])) mid.first → ⊥
      by_more more (inl kept) = let wrong : [] ≡ 1 ∷ more = sym none ∙ kept.1 in cc
      by_more more (inr anew) = let later = anew.0 in let was = ap (λ (log : LogUse). log.number) step.leaves in omega arith

  abbrev marked : LogUse
  marked = log_with (1 ∷ []) (used 1 0 ∷ [])

  -- the segment 1 of a log holds no block of the tree
  one_is_empty : (log : LogUse) → log.live ≡ used 1 0 ∷ [] → log.cleaned ≡ 1 ∷ [] → AreEmptied log
  one_is_empty log live cleaned n listed = in_cons n 1 [] (subst (λ ns. Contains ns n) cleaned listed)
      (λ is. record { one = used 1 0; listed = subst (λ ones. Contains ones (used 1 0)) (sym live) (in_head (used 1 0) []); same = is; empty = refl })
      (λ no. in_none n no)

  pub a_unit_is_written_first : (unit : LogUse) (segment : List ℕ) → Steps (record { first = marked; unit = unit; segment = segment }) (dirty marked) CleanOne answers.NoneLeft marked
  unfolding clean_one
  a_unit_is_written_first unit segment = record {
    first = record { room = refl; goes = record { more = []; cleaned = inl (refl, refl); few = omega arith; none = λ ran. refl; tidy = refl; emptied = one_is_empty marked refl refl } };
    told = refl;
    leaves = refl;
    calm = refl;
    later = record { faults = omega arith; write_faults = omega arith; still = λ no. refl };
  }

  pub a_pass_ends_with_a_checkpoint : Cleans (dirty marked) (with_record 2 (log_with [] []))
  a_pass_ends_with_a_checkpoint = record { more = []; cleaned = inr (omega arith, refl); few = omega arith; none = λ ran. refl; tidy = refl; emptied = λ n listed. in_none n listed }

  abbrev left : LogUse → LogUse
  left log = record log { left = true }

  pub a_pass_that_is_left_may_have_cleaned : Cleans (dirty little) (left marked)
  a_pass_that_is_left_may_have_cleaned = record { more = 1 ∷ []; cleaned = inl (refl, refl); few = omega arith; none = λ ran. cc; tidy = refl; emptied = one_is_empty (left marked) refl refl }

  pub a_unit_cleans_no_segment : Cleans (dirty little) marked → ⊥
  a_unit_cleans_no_segment cleans = by_more cleans.more (cleans.none refl) cleans.cleaned
    where
      by_more : (more : List ℕ) → more ≡ [] → CleansMore more (dirty little) marked → ⊥
      by_more more none (inl kept) = let wrong : 1 ∷ [] ≡ [] = kept.1 ∙ none in cc
      by_more more none (inr anew) = let later = anew.0 in omega arith

  pub a_unit_leaves_nothing_dirty : Cleans (dirty little) (dirty little) → ⊥
  a_unit_leaves_nothing_dirty cleans = let wrong : false ≡ true = cleans.tidy in cc

  pub no_unit_is_written_while_passes_are_left : (before after : LogUse) → WritesMore (left before) after → ⊥
  no_unit_is_written_while_passes_are_left before after writes = let wrong : true ≡ false = writes.room.ran in cc

  pub a_checkpoint_begins_anew : (segment : List ℕ) → Steps (record { first = moved; unit = moved; segment = segment }) moved Checkpoint answers.Checkpointed (with_record 2 (log_with [] []))
  a_checkpoint_begins_anew segment = record {
    first = record { room = refl; goes = refl };
    told = refl;
    leaves = record {
      room = record { clean = omega arith; ran = refl };
      number = omega arith;
      few = omega arith;
      none = λ ran. refl;
      tidy = refl;
      emptied = λ n listed. in_none n listed;
    };
    calm = refl;
    later = record { faults = omega arith; write_faults = omega arith; still = λ no. refl };
  }

  pub a_checkpoint_writes_a_record : (mid : Middles) → Steps mid moved Checkpoint answers.Checkpointed (log_with [] []) → ⊥
  a_checkpoint_writes_a_record mid step = let later = step.leaves.number in let was = ap (λ (log : LogUse). log.number) step.first.goes in omega arith

  -- a write takes a block out of a segment before its unit is written; none comes into one
  pub a_file_call_takes_a_block_out_of_a_segment : (unit : LogUse) (segment : List ℕ) → LeavesLog (answers.Done replies.Ok) (record { first = little; unit = unit; segment = segment }) (dirty (log_with [] (used 1 8 ∷ [])))
  a_file_call_takes_a_block_out_of_a_segment unit segment = record { number = refl; cleaned = refl; clean = refl; left = refl; live = (refl, omega arith, tt); quiet = λ left. cc }

  pub no_file_call_fills_a_segment : (unit : LogUse) (segment : List ℕ) → LeavesLog (answers.Done replies.Ok) (record { first = little; unit = unit; segment = segment }) (dirty (log_with [] (used 1 10 ∷ []))) → ⊥
  no_file_call_fills_a_segment unit segment changed = let less = changed.live.1 in omega arith

  pub a_file_call_that_is_refused_leaves_the_log : (unit : LogUse) (segment : List ℕ) → LeavesLog (answers.Done (replies.Refused refusals.Enoent)) (record { first = little; unit = unit; segment = segment }) (dirty little) → ⊥
  a_file_call_that_is_refused_leaves_the_log unit segment same = let wrong : false ≡ true = ap (λ (log : LogUse). log.tidy) same in cc

  -- A FULL LOG

  pub a_log_with_six_clean_segments_is_not_full : (mid : Middles) → Steps mid (clean 6 little) CleanOne answers.LogFull (clean 6 little) → ⊥
  a_log_with_six_clean_segments_is_not_full mid (inl (full, same), given_up) = cc
  a_log_with_six_clean_segments_is_not_full mid (inr behind, given_up) = let few = behind.full in let was = ap (λ (log : LogUse). log.clean) behind.first.goes in omega arith

  pub five_clean_segments_are_a_full_log : (unit : LogUse) (segment : List ℕ) → Steps (record { first = clean 5 little; unit = unit; segment = segment }) (clean 5 little) CleanOne answers.LogFull (clean 5 little)
  unfolding clean_one
  five_clean_segments_are_a_full_log unit segment = (
    inr (record { first = record { room = refl; goes = refl }; more = refl; full = omega arith; stays = refl }),
    record { left = refl; log = inl refl; calm = refl; later = record { faults = omega arith; write_faults = omega arith; still = λ no. refl } },
  )

  pub nothing_is_cleaned_in_a_full_log : (mid : Middles) (after : LogUse) → Steps mid (clean 5 little) CleanOne (answers.Cleaned 1) after → ⊥
  nothing_is_cleaned_in_a_full_log mid after step = let many = step.leaves.room.clean in let was = ap (λ (log : LogUse). log.clean) step.first.goes in omega arith

  -- a log that is full is no matter to what begins no unit
  pub none_is_left_in_a_full_log : (unit : LogUse) (segment : List ℕ) → Steps (record { first = clean 5 no_log; unit = unit; segment = segment }) (clean 5 no_log) CleanOne answers.NoneLeft (clean 5 no_log)
  unfolding clean_one
  none_is_left_in_a_full_log unit segment = record {
    first = record { room = refl; goes = refl };
    told = refl;
    leaves = refl;
    calm = refl;
    later = record { faults = omega arith; write_faults = omega arith; still = λ no. refl };
  }

  pub a_sync_finds_the_log_full : (mid : Middles) → Steps mid (dirty (clean 5 no_log)) (FileCall 0 calls.Sync) answers.LogFull (dirty (clean 5 no_log))
  a_sync_finds_the_log_full mid = (
    inl (refl, refl),
    record { left = refl; log = inl refl; calm = refl; later = record { faults = omega arith; write_faults = omega arith; still = λ no. refl } },
  )

  pub a_sync_is_not_done_in_a_full_log : (mid : Middles) (after : LogUse) → Steps mid (dirty (clean 5 no_log)) (FileCall 0 calls.Sync) (answers.Done replies.Ok) after → ⊥
  a_sync_is_not_done_in_a_full_log mid after step = let wrong : true ≡ false = step.first.room in cc

  -- a sync leaves nothing dirty behind its unit
  pub a_sync_writes_its_unit : (mid : Middles) (after : LogUse) → Steps mid (dirty no_log) (FileCall 0 calls.Sync) (answers.Done replies.Ok) after → mid.first.tidy ≡ true
  a_sync_writes_its_unit mid after step = step.first.goes.tidy

  -- STAGING

  module _ (root : get t [] ≡ Some Dir) where
    pub a_staging_that_is_refused_finds_no_full_log : (mid : Middles) → Steps mid (dirty (clean 5 no_log)) (Stage ([] ∷ [])) answers.LogFull (dirty (clean 5 no_log)) → ⊥
    unfolding stage content_at walk walk_to_parent
    a_staging_that_is_refused_finds_no_full_log mid (inl (full, same), given_up) = let no : finds_full site_a s (dirty (clean 5 no_log)) (Stage ([] ∷ [])) ≡ false = simp root refl in let wrong : true ≡ false = sym full ∙ no in cc
    a_staging_that_is_refused_finds_no_full_log mid (inr behind, given_up) =
        let no : writes_more (told_behind site_a shelf mid.first s (Stage ([] ∷ []))).0 ≡ false = simp root refl in
        let wrong : true ≡ false = sym behind.more ∙ no in cc

  module _ (root : get t [] ≡ Some Dir) (x : List ℕ) (there : get t (path 97) ≡ Some (File (one_block x))) where
    abbrev staging : SiteEvent
    staging = Stage (path 97 ∷ [])

    abbrev staged : SiteState
    staged = staged_site 1 (put_away 1 1 ((path 97, 0) ∷ []) t)

    its_rules : stage site_a (staged_site 0 t) (path 97 ∷ []) ≡ Ok (answers.Staged 1 0 0 0, staged)
    its_rules = the_first_staging_takes_slot_0_and_line_0 x t root there

    none_due : (log : LogUse) → log.tidy ≡ true → log.left ≡ false → is_due site_a (staged_site 0 t) log staging ≡ false
    none_due log tidy left = (λ i. (is_ok (its_rules i) && not (tidy i)) || (is_ok (its_rules i) && left i))

    pub a_segment_is_staged : (unit : LogUse) (segment : List ℕ) → SiteStep site_a shelf (record { first = no_log; unit = unit; segment = segment }) (at_rest (staged_site 0 t) no_log) staging (answers.Staged 1 0 0 0) (at_rest staged no_log)
    a_segment_is_staged unit segment = record {
      first = record { room = (λ i. (is_ok (its_rules i) && false) && false); goes = subst (λ b. LogGoesOn b no_log no_log) (sym (none_due no_log refl refl)) refl };
      told = ap (told_of (staged_site 0 t)) its_rules;
      leaves = record {
        room = record { clean = omega arith; ran = refl };
        cleans = record { more = []; cleaned = inl (refl, refl); few = omega arith; none = λ ran. refl; tidy = refl; emptied = λ n listed. in_none n listed };
      };
      calm = refl;
      later = record { faults = omega arith; write_faults = omega arith; still = λ no. refl };
    }

    pub nothing_is_staged_in_a_full_log : (mid : Middles) (after : LogUse) → SiteStep site_a shelf mid (at_rest (staged_site 0 t) (clean 5 no_log)) staging (answers.Staged 1 0 0 0) (at_rest staged after) → ⊥
    nothing_is_staged_in_a_full_log mid after step =
        let first = subst (λ b. LogGoesOn b (clean 5 no_log) mid.first) (none_due (clean 5 no_log) refl refl) step.first.goes in
        let many = step.leaves.room.clean in
        let was = ap (λ (log : LogUse). log.clean) first in
        omega arith

  -- WANT OF MEMORY

  pub memory_is_wanting_before_a_unit : (mid : Middles) → Steps mid (dirty no_log) CleanOne answers.Memory (dirty no_log)
  memory_is_wanting_before_a_unit mid = (refl, record { left = refl; log = inl refl; calm = refl; later = record { faults = omega arith; write_faults = omega arith; still = λ no. refl } })

  pub memory_is_wanting_behind_a_unit : (mid : Middles) → Steps mid (dirty no_log) CleanOne answers.Memory no_log
  memory_is_wanting_behind_a_unit mid = (
    refl,
    record {
      left = refl;
      log = inr (record { room = refl; goes = record { more = []; cleaned = inl (refl, refl); few = omega arith; none = λ ran. refl; tidy = refl; emptied = λ n listed. in_none n listed } });
      calm = refl;
      later = record { faults = omega arith; write_faults = omega arith; still = λ no. refl };
    },
  )

  -- COUNTS AND FAILED CALLS

  pub an_ejection_calls_no_device : (mid : Middles) (log after : LogUse) → SiteStep site_a shelf mid (at_rest s log) (Eject 0) answers.Empty (record (at_rest s after) { faults = 1 }) → ⊥
  an_ejection_calls_no_device mid log after step = let wrong : ◌≡◌ {A = ℕ} 1 0 = step.later.still refl in cc

  -- the count of failed writes can't tell whether one failed
  abbrev worn : State
  worn = record (at_rest s no_log) { faults = 2 ^ 64 - 1; write_faults = 2 ^ 64 - 1 }

  pub a_checkpoint_that_failed_at_the_greatest_count_stops_the_site : (mid : Middles) → SiteStep site_a shelf mid worn Checkpoint answers.Eio worn → ⊥
  a_checkpoint_that_failed_at_the_greatest_count_stops_the_site mid step = by_leaves step.leaves
    where
      by_leaves : RunsOn site_a worn Checkpoint worn ⊎ HasBroken site_a shelf mid.segment worn Checkpoint worn → ⊥
      by_leaves (inl on) = on.none_failed refl (omega arith)
      by_leaves (inr broken) = let wrong : None ≡ Some (2 ^ 64 - 1) = broken.stopped in cc

  pub a_copy_that_fails_to_begin_leaves_the_site_running : (mid : Middles) → SiteStep site_a shelf mid worn BeginCopy answers.Eio worn
  a_copy_that_fails_to_begin_leaves_the_site_running mid = record {
    may = refl;
    rose = omega arith;
    leaves = inl (record {
      given_up = record { left = refl; log = inl refl; calm = refl; later = record { faults = omega arith; write_faults = omega arith; still = λ no. refl } };
      none_failed = λ may rose. let wrong : false ≡ true = may in cc;
    });
  }
