-- Worked examples of steps, computed by the rules.
use Rattle.std.proofs.Common.{◌≡◌, ℕ, ◌+◌, true, false, List, [], ◌∷◌, replicate, map, if◌then◌else◌, nat_lt, Option, Some, None, Ok, Err, refl}
use Rattle.std.specs.List.{range_with_len}
use Rattle.std.specs.FinMap.{get}
use Rattle.hl_addr.specs.Layout.{Layout}
use Rattle.hl_tree.specs.declared.call.Refusal.TheVariants as refusals
use Rattle.hl_tree.specs.declared.node.Node.TheVariants.{Dir, File}
use Rattle.hl_tree.specs.Tree.{content_at, walk, walk_to_parent}
use Rattle.hl_tseg.specs.declared.slot.Slot.{Slot}
use Rattle.hl_tseg.specs.declared.slot.Slot.TheVariants.{Free, Staged, Home}
use Rattle.hl_placed.specs.Blocks.{Shelf, PlacedFile}
use Rattle.hl_placed.specs.Blocks as blocks
use Rattle.hl_placed.specs.Placed.{PlacedTree}
use Rattle.hl_placed.specs.Staging.{put_away}
use Rattle.hl_model.specs.Answers.{SiteAnswer}
use Rattle.hl_model.specs.Answers as answers
use Rattle.hl_model.specs.Begins.{begin_copy, begin_need}
use Rattle.hl_model.specs.Ends.{end_job, eject}
use Rattle.hl_model.specs.Events.{SiteEvent, BeginCopy, BeginNeed, EndJob, Eject, Post, NextRequest, Settle, Look}
use Rattle.hl_model.specs.Cleaning.{Live, LogUse, clean_one}
use Rattle.hl_model.specs.Causes.{may_want, may_fail, may_break, may_write}
use Rattle.hl_model.specs.Requests.{post, next_one, settle, look}
use Rattle.hl_model.specs.Rules.{rules}
use Rattle.hl_model.specs.Site.{SiteState}
use Rattle.hl_model.specs.Site as site
use Rattle.hl_model.specs.Stagings.{stage}
use Rattle.hl_model.specs.Ruled.{told_of}
use Rattle.hl_media.specs.declared.job.Carried.{Carried}
use Rattle.hl_media.specs.declared.job.JobNote.{JobNote}
use Rattle.hl_media.specs.declared.job.JobKind.{JobKind}
use Rattle.hl_media.specs.declared.job.Carried.TheVariants.{Done, EndOfMedium, Fault}
use Rattle.hl_media.specs.declared.job.JobKind.TheVariants.{Copy, Fetch}
use Rattle.hl_lines.specs.declared.state.LineState.{LineState}
use Rattle.hl_lines.specs.declared.state.LineState.TheVariants.{Empty, Staging}

-- site A
abbrev pub site_a : Layout
site_a = record { k = 64; log = 16; lines = 16; inodes = 512; volumes = 4 ∷ 4 ∷ [] }

-- a log with ten clean segments in which nothing is dirty
abbrev pub log_with : List ℕ → List Live → LogUse
log_with cleaned live = record { number = 1; cleaned = cleaned; live = live; clean = 10; dirty = 0; tidy = true; left = false }

abbrev pub no_log : LogUse
no_log = log_with [] []

-- a site just mounted, with that tree
abbrev pub fresh_site : PlacedTree → SiteState
fresh_site tree = record {
  tree = tree;
  slots = replicate 8 Free;
  full = replicate 2 false;
  lines = replicate 16 Empty;
  order = [];
  jobs = [];
  requests = [];
  next_serial = 1;
  next_job = 1;
  next_request = 1;
  counts = replicate 2 0;
  stopped = None;
}

abbrev pub and_then : (SiteState → List SiteAnswer) → SiteAnswer × SiteState → List SiteAnswer
and_then rest told = told.0 ∷ rest told.1

abbrev pub answers_to : Layout → Shelf → SiteState → List SiteEvent → List SiteAnswer
answers_to g shelf s [] = []
answers_to g shelf s (event ∷ events) = and_then (λ next. answers_to g shelf next events) (told_of s (rules g s no_log shelf event))

abbrev pub path : ℕ → List (List ℕ)
path name = (name ∷ []) ∷ []

-- a file of one block
abbrev pub one_block : List ℕ → PlacedFile
one_block x = record { size = 1; used = 0; blocks = blocks.Here x ∷ [] }

-- site A with that tree, its first slots staged in its first lines
abbrev pub slots_with : ℕ → List Slot
slots_with n = map (λ i. if nat_lt i n then Staged i (i + 1) else Free) (range_with_len 0 8)

abbrev pub lines_with : ℕ → List LineState
lines_with n = map (λ i. if nat_lt i n then Staging i else Empty) (range_with_len 0 16)

abbrev pub staged_site : ℕ → PlacedTree → SiteState
staged_site n tree = record (fresh_site tree) { slots = slots_with n; lines = lines_with n; next_serial = n + 1 }

-- stagings of one block each
module _ (x : List ℕ) (t : PlacedTree) (root : get t [] ≡ Some Dir) (there : get t (path 97) ≡ Some (File (one_block x))) where
  pub the_first_staging_takes_slot_0_and_line_0 : stage site_a (staged_site 0 t) (path 97 ∷ []) ≡ Ok (answers.Staged 1 0 0 0, staged_site 1 (put_away 1 1 ((path 97, 0) ∷ []) t))
  unfolding stage content_at walk walk_to_parent
  the_first_staging_takes_slot_0_and_line_0 = simp (root, there) refl

  pub the_fourth_takes_slot_3_and_line_3 : stage site_a (staged_site 3 t) (path 97 ∷ []) ≡ Ok (answers.Staged 1 0 3 3, staged_site 4 (put_away 4 1 ((path 97, 0) ∷ []) t))
  unfolding stage content_at walk walk_to_parent
  the_fourth_takes_slot_3_and_line_3 = simp (root, there) refl

  pub a_fifth_finds_no_line : stage site_a (staged_site 4 t) (path 97 ∷ []) ≡ Err answers.NoLine
  unfolding stage content_at walk walk_to_parent
  a_fifth_finds_no_line = simp (root, there) refl

  pub a_directory_is_not_staged : stage site_a (staged_site 4 t) ([] ∷ []) ≡ Err (answers.PathRefused refusals.Eisdir)
  unfolding stage content_at walk walk_to_parent
  a_directory_is_not_staged = simp root refl

-- A job that comes back, of volume 0, as the site noted it. Its buffer carries what it should.
abbrev pub job : ℕ → JobKind → ℕ → ℕ → ℕ → JobNote
job number kind t serial line = record { number = number; kind = kind; tseg = t; slot = t; serial = serial; line = line; volume = 0; faults = 0 }

-- its volume's count: one more where a fault was met
abbrev count : Option Carried → ℕ
count (Some (Fault faults)) = faults
count carried = 0

abbrev back : JobNote → Option Carried → SiteEvent
back note carried = EndJob (record { note = note; carried = carried; digest = []; found = record { serial = note.serial; digest = [] }; faults = count carried })

module _ (shelf : Shelf) (t : PlacedTree) where
  pub a_second_copy_finds_the_volume_busy : answers_to site_a shelf (staged_site 4 t) (BeginCopy ∷ BeginCopy ∷ back (job 1 Copy 0 1 0) None ∷ back (job 1 Copy 0 1 0) (Some Done) ∷ BeginCopy ∷ [])
      ≡ answers.Job (job 1 Copy 0 1 0) ∷ answers.Busy 0 1 ∷ answers.Unmoved ∷ answers.Home ∷ answers.Job (job 2 Copy 1 2 1) ∷ []
  unfolding begin_copy end_job
  a_second_copy_finds_the_volume_busy = refl

  pub a_staging_line_is_not_ejected : answers_to site_a shelf (staged_site 1 t) (Eject 0 ∷ BeginCopy ∷ Eject 0 ∷ Eject 5 ∷ Eject 99 ∷ [])
      ≡ answers.Staging ∷ answers.Job (job 1 Copy 0 1 0) ∷ answers.InJob ∷ answers.Empty ∷ answers.Empty ∷ []
  unfolding begin_copy eject
  a_staging_line_is_not_ejected = refl

  pub a_full_volume_sends_its_segment_to_the_next : answers_to site_a shelf (staged_site 1 t) (BeginCopy ∷ back (job 1 Copy 0 1 0) (Some EndOfMedium) ∷ BeginCopy ∷ [])
      ≡ answers.Job (job 1 Copy 0 1 0) ∷ answers.Moved 1 0 ∷ answers.Job (record (job 2 Copy 4 1 0) { slot = 0; volume = 1 }) ∷ []
  unfolding begin_copy end_job
  a_full_volume_sends_its_segment_to_the_next = refl

  pub a_segment_that_was_ejected_is_fetched : answers_to site_a shelf (staged_site 1 t) (BeginCopy ∷ back (job 1 Copy 0 1 0) (Some Done) ∷ Eject 0 ∷ BeginNeed 0 [] ∷ BeginNeed 0 [] ∷ back (job 2 Fetch 0 1 0) (Some Done) ∷ BeginNeed 0 [] ∷ [])
      ≡ answers.Job (job 1 Copy 0 1 0) ∷ answers.Home ∷ answers.Ejected ∷ answers.Job (job 2 Fetch 0 1 0) ∷ answers.Busy 0 2 ∷ answers.Bound ∷ answers.Here ∷ []
  unfolding begin_copy begin_need end_job eject
  a_segment_that_was_ejected_is_fetched = refl

  pub a_copy_that_failed_is_begun_again : answers_to site_a shelf (staged_site 4 t) (BeginCopy ∷ back (job 1 Copy 0 1 0) (Some (Fault 1)) ∷ BeginCopy ∷ [])
      ≡ answers.Job (job 1 Copy 0 1 0) ∷ answers.Evol ∷ answers.Job (record (job 2 Copy 0 1 0) { faults = 1 }) ∷ []
  unfolding begin_copy end_job
  a_copy_that_failed_is_begun_again = refl

  pub two_jobs_take_both_drives : answers_to (record site_a { volumes = 1 ∷ 1 ∷ 1 ∷ [] }) shelf (record (staged_site 3 t) { slots = Staged 0 1 ∷ Staged 1 2 ∷ Staged 2 3 ∷ [] }) (BeginCopy ∷ BeginCopy ∷ BeginCopy ∷ [])
      ≡ answers.Job (job 1 Copy 0 1 0) ∷ answers.Job (record (job 2 Copy 1 2 1) { slot = 0; volume = 1 }) ∷ answers.Drives ∷ []
  unfolding begin_copy
  two_jobs_take_both_drives = refl

  pub a_segment_without_a_slot_is_stuck : answers_to (record site_a { volumes = 1 ∷ [] }) shelf (record (staged_site 1 t) { slots = Staged 0 1 ∷ []; full = false ∷ [] }) (BeginCopy ∷ back (job 1 Copy 0 1 0) (Some EndOfMedium) ∷ BeginCopy ∷ Eject 0 ∷ [])
      ≡ answers.Job (job 1 Copy 0 1 0) ∷ answers.Stuck ∷ answers.NoneLeft ∷ answers.Staging ∷ []
  unfolding begin_copy end_job eject
  a_segment_without_a_slot_is_stuck = refl

  pub a_request_is_told_once : answers_to site_a shelf (record (staged_site 1 t) { slots = Home 1 ∷ replicate 7 Free; lines = replicate 16 Empty }) (Post 0 [] ∷ NextRequest ∷ NextRequest ∷ Settle 1 ∷ BeginNeed 0 [] ∷ back (job 1 Fetch 0 1 0) (Some (Fault 1)) ∷ Settle 1 ∷ Settle 1 ∷ Look 1 ∷ Look 1 ∷ [])
      ≡ answers.Posted 1 ∷ answers.Request 1 0 [] ∷ answers.NoneLeft ∷ answers.Waiting ∷ answers.Job (job 1 Fetch 0 1 0) ∷ answers.Evol ∷ answers.Settled (site.Evol 0 1) ∷ answers.NoneLeft ∷ answers.Settled (site.Evol 0 1) ∷ answers.Waiting ∷ []
  unfolding begin_need end_job post next_one settle look
  a_request_is_told_once = refl

  pub a_request_that_was_told_is_gone : look site_a (record (fresh_site t) { requests = (record { number = 1; tseg = 0; keep = []; given = true; settled = true; noted = None; outcome = Some site.Bound }) ∷ [] }) 1
      ≡ Ok (answers.Settled site.Bound, fresh_site t)
  unfolding look
  a_request_that_was_told_is_gone = refl

  pub a_wrong_segment_is_never_written : may_break site_a (record (staged_site 1 t) { slots = Home 1 ∷ replicate 7 Free }) (EndJob (record { note = job 1 Fetch 0 1 3; carried = Some Done; digest = 7 ∷ []; found = record { serial = 1; digest = 8 ∷ [] }; faults = 0 })) ≡ false
  a_wrong_segment_is_never_written = refl

  -- a log segment in which so many blocks of the tree and of the tables lie
  abbrev segment : ℕ → ℕ → ℕ → Live
  segment n charge tables = record { segment = n; charge = charge; tables = tables }

  pub the_least_live_segment_is_cleaned : clean_one site_a (staged_site 0 t) (log_with (2 ∷ []) (segment 1 9 0 ∷ segment 2 0 0 ∷ segment 3 2 1 ∷ segment 4 3 0 ∷ segment 5 1 2 ∷ [])) ≡ Ok (answers.Cleaned 3, staged_site 0 t)
  unfolding clean_one
  the_least_live_segment_is_cleaned = refl

  pub a_quarter_at_most_is_live : clean_one site_a (staged_site 0 t) (log_with [] (segment 1 16 1 ∷ segment 2 0 40 ∷ [])) ≡ Err answers.NoneLeft
  unfolding clean_one
  a_quarter_at_most_is_live = refl

  pub an_ejection_is_never_given_up : may_want site_a (staged_site 1 t) (Eject 0) ≡ false
  an_ejection_is_never_given_up = refl

  pub a_stopped_site_calls_no_device : may_fail site_a (record (staged_site 1 t) { stopped = Some 3 }) BeginCopy ≡ false
  a_stopped_site_calls_no_device = refl

  pub a_fetch_may_fail_and_leaves_the_log : (may_break site_a (record (staged_site 1 t) { slots = Home 1 ∷ replicate 7 Free }) (back (job 1 Fetch 0 1 3) (Some Done)) ≡ true)
      × (may_write site_a (record (staged_site 1 t) { slots = Home 1 ∷ replicate 7 Free }) (back (job 1 Fetch 0 1 3) (Some Done)) ≡ false)
  a_fetch_may_fail_and_leaves_the_log = (refl, refl)
