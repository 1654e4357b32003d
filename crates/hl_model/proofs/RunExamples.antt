-- Worked examples of runs, of lines and of closings, and some that are none.
use Rattle.std.proofs.Common.{arith, ◌≡◌, ℕ, ◌⊎◌, true, false, List, [], ◌∷◌, replicate, Option, Some, None, refl, ap, inl, inr}
use Rattle.std.specs.FinMap.{get, insert}
use Rattle.hl_tree.specs.declared.node.Node.TheVariants.{Dir, File}
use Rattle.hl_tree.specs.Tree.{content_at, walk, walk_to_parent}
use Rattle.hl_media.specs.declared.job.Carried.{Carried}
use Rattle.hl_media.specs.declared.job.Carried.TheVariants.{Done, EndOfMedium}
use Rattle.hl_media.specs.declared.job.JobKind.TheVariants.{Copy, Fetch}
use Rattle.hl_media.specs.declared.job.JobNote.{JobNote}
use Rattle.hl_lines.specs.declared.state.LineState.TheVariants.{Clean, Empty, Staging, Stuck}
use Rattle.hl_script.specs.declared.line.Line.{Line}
use Rattle.hl_script.specs.declared.line.Line.TheVariants as line
use Rattle.hl_script.specs.declared.said.Said.TheVariants as said
use Rattle.hl_tseg.specs.declared.slot.Slot.TheVariants.{Free, Home, Spoilt, Staged}
use Rattle.hl_placed.specs.Blocks.{Shelf}
use Rattle.hl_placed.specs.Placed.{PlacedTree}
use Rattle.hl_placed.specs.Staging.{IsNewSerial}
use Rattle.hl_placed.proofs.Staging.{plain-new_serial}
use Rattle.hl_model.specs.Answers.{SiteAnswer}
use Rattle.hl_model.specs.Answers as answers
use Rattle.hl_model.specs.Begins.{begin_copy}
use Rattle.hl_model.specs.Causes.{may_break}
use Rattle.hl_model.specs.Cleaning.{LogUse}
use Rattle.hl_model.specs.Closed.{HasCheckpointed, HasNothingToWrite, IsClosed}
use Rattle.hl_model.specs.Ends.{end_job}
use Rattle.hl_model.specs.Events.{SiteEvent, Back, BeginCopy, Checkpoint, Eject, EndJob, Stage}
use Rattle.hl_model.specs.LineRuns.{LineRun, Next, NoMore, TimedLine}
use Rattle.hl_model.specs.Runs.{Run, Stepped, Takes}
use Rattle.hl_model.specs.Serving.{in_the_way}
use Rattle.hl_model.specs.Site.{SiteState}
use Rattle.hl_model.specs.Stagings.{stage}
use Rattle.hl_model.specs.Steps.{SiteStep, State}
use Rattle.hl_model.specs.Units.{Middles, WritesMore}
use Rattle.hl_model.specs.Worlds.{HeldJob, WorldState}
use Rattle.hl_model.proofs.ClaimedBlocks.{in_head, in_none}
use Rattle.hl_model.proofs.WorkedExamples.{site_a, fresh_site, job, no_log, one_block, path, staged_site}

abbrev at : SiteState → LogUse → State
at s log = record { site = s; log = log; faults = 0; write_faults = 0 }

abbrev mid : List ℕ → Middles
mid segment = record { first = no_log; unit = no_log; segment = segment }

abbrev entry : SiteEvent → SiteAnswer → List ℕ → Stepped
entry event answer segment = record { event = event; answer = answer; mid = mid segment }

-- a job that comes back as it went, its buffer as it should be
abbrev back : JobNote → Option Carried → Back
back note carried = record { note = note; carried = carried; digest = []; found = record { serial = note.serial; digest = [] }; faults = 0 }

module _ (shelf : Shelf) (t : PlacedTree) where
  -- RUNS

  pub a_job_that_is_not_out_does_not_come_back : (after : State) (answer : SiteAnswer) → Takes site_a shelf (at (staged_site 1 t) no_log) (entry (EndJob (back (job 1 Copy 0 1 0) (Some Done))) answer []) after → ⊥
  a_job_that_is_not_out_does_not_come_back after answer takes = takes.allowed.out

  -- a write failed, and the machine's count is 1
  abbrev stopped_at_1 : SiteState → State
  stopped_at_1 s = record { site = record s { stopped = Some 1 }; log = no_log; faults = 1; write_faults = 1 }

  pub a_failed_checkpoint_stops_the_site : Run site_a shelf (at (fresh_site t) no_log) (entry Checkpoint answers.Eio [] ∷ entry (Eject 0) (answers.Stopped 1) [] ∷ []) shelf (stopped_at_1 (fresh_site t))
  a_failed_checkpoint_stops_the_site = (
    stopped_at_1 (fresh_site t),
    record {
      allowed = tt;
      room = omega arith;
      writes = tt;
      step = record {
        may = refl;
        rose = omega arith;
        leaves = inr (record {
          writes = refl;
          rose = omega arith;
          stopped = refl;
          plain = refl;
          jobs = refl;
          counts = refl;
          requests = refl;
          serial = omega arith;
          next_job = refl;
          next_request = refl;
          later = record { faults = omega arith; write_faults = omega arith; still = λ no. cc };
        });
      };
    },
    (
      stopped_at_1 (fresh_site t),
      record {
        allowed = tt;
        room = omega arith;
        writes = tt;
        step = record {
          first = record { room = refl; goes = refl };
          told = refl;
          leaves = refl;
          calm = refl;
          later = record { faults = omega arith; write_faults = omega arith; still = λ no. refl };
        };
      },
      (refl, refl),
    ),
  )

  module _ (root : get t [] ≡ Some Dir) (x : List ℕ) (there : get t (path 97) ≡ Some (File (one_block x))) (fresh : IsNewSerial 1 t) (segment : List ℕ) where
    abbrev staging : SiteEvent
    staging = Stage (path 97 ∷ [])

    may : may_break site_a (staged_site 0 t) staging ≡ true
    unfolding stage content_at walk walk_to_parent
    may = simp (root, there) refl

    -- its unit failed behind the line
    pub a_staging_that_broke_brings_its_segment : Run site_a shelf (at (staged_site 0 t) no_log) (entry staging answers.Eio segment ∷ []) (insert shelf 1 segment) (stopped_at_1 (staged_site 0 t))
    a_staging_that_broke_brings_its_segment = (
      stopped_at_1 (staged_site 0 t),
      record {
        allowed = (omega arith, omega arith);
        room = omega arith;
        writes = tt;
        step = record {
          may = refl;
          rose = omega arith;
          leaves = inr (record {
            writes = may;
            rose = omega arith;
            stopped = refl;
            plain = plain-new_serial shelf 1 segment t fresh;
            jobs = refl;
            counts = refl;
            requests = refl;
            serial = omega arith;
            next_job = refl;
            next_request = refl;
            later = record { faults = omega arith; write_faults = omega arith; still = λ no. cc };
          });
        };
      },
      (refl, refl),
    )

  -- LINES

  abbrev copied : JobNote
  copied = job 1 Copy 0 1 0

  abbrev before : SiteState
  before = staged_site 1 t

  abbrev copying : SiteState
  copying = record before { jobs = copied ∷ []; next_job = 2 }

  abbrev home : SiteState
  home = record before { next_job = 2; slots = Home 1 ∷ replicate 7 Free; lines = Clean 0 ∷ replicate 15 Empty; order = 0 ∷ [] }

  abbrev world : SiteState → List HeldJob → WorldState
  world s held = record { state = at s no_log; shelf = shelf; held = held }

  abbrev out : Option Carried → HeldJob
  out carried = record { note = copied; carried = carried }

  begins : Takes site_a shelf (at before no_log) (entry BeginCopy (answers.Job copied) []) (at copying no_log)
  unfolding begin_copy
  begins = record {
    allowed = tt;
    room = omega arith;
    writes = tt;
    step = record { first = record { room = refl; goes = refl }; told = refl; leaves = refl; calm = refl; later = record { faults = omega arith; write_faults = omega arith; still = λ no. refl } };
  }

  ends : Takes site_a shelf (at copying no_log) (entry (EndJob (back copied (Some Done))) answers.Home []) (at home no_log)
  unfolding end_job
  ends = record {
    allowed = record { out = inl refl; later = omega arith; fault = λ faults e. cc; medium = λ e. cc };
    room = omega arith;
    writes = tt;
    step = record {
      first = record { room = refl; goes = refl };
      told = refl;
      leaves = record {
        room = record { clean = omega arith; ran = refl };
        cleans = record { more = []; cleaned = inl (refl, refl); few = omega arith; none = λ ran. refl; tidy = refl; emptied = λ n listed. in_none n listed };
      };
      calm = refl;
      later = record { faults = omega arith; write_faults = omega arith; still = λ no. refl };
    };
  }

  pub a_segment_is_not_home_in_a_full_log : (middle : Middles) (after : LogUse) → SiteStep site_a shelf middle (at copying (record no_log { clean = 5 })) (EndJob (back copied (Some Done))) answers.Home (at home after) → ⊥
  a_segment_is_not_home_in_a_full_log middle after step = let many = step.leaves.room.clean in let was = ap (λ (log : LogUse). log.clean) step.first.goes in omega arith

  -- volume 0 is full, and the segment goes to volume 1, or, where there is no other, is stuck
  writes_a_unit : WritesMore no_log no_log
  writes_a_unit = record {
    room = record { clean = omega arith; ran = refl };
    cleans = record { more = []; cleaned = inl (refl, refl); few = omega arith; none = λ ran. refl; tidy = refl; emptied = λ n listed. in_none n listed };
  }

  pub a_segment_goes_to_another_volume : SiteStep site_a shelf (mid []) (at copying no_log) (EndJob (back copied (Some EndOfMedium))) (answers.Moved 1 0)
      (at (record before { next_job = 2; full = true ∷ false ∷ []; slots = Spoilt ∷ Free ∷ Free ∷ Free ∷ Staged 0 1 ∷ replicate 3 Free; lines = Staging 4 ∷ replicate 15 Empty }) no_log)
  unfolding end_job
  a_segment_goes_to_another_volume = record { first = record { room = refl; goes = refl }; told = refl; leaves = writes_a_unit; calm = refl; later = record { faults = omega arith; write_faults = omega arith; still = λ no. refl } }

  pub a_segment_without_another_volume_is_stuck : SiteStep (record site_a { volumes = 8 ∷ [] }) shelf (mid []) (at copying no_log) (EndJob (back copied (Some EndOfMedium))) answers.Stuck
      (at (record before { next_job = 2; full = true ∷ false ∷ []; lines = Stuck 0 ∷ replicate 15 Empty }) no_log)
  unfolding end_job
  a_segment_without_another_volume_is_stuck = record { first = record { room = refl; goes = refl }; told = refl; leaves = writes_a_unit; calm = refl; later = record { faults = omega arith; write_faults = omega arith; still = λ no. refl } }

  abbrev timed : Line → TimedLine
  timed l = record { line = l; now = 0 }

  pub a_copy_is_begun_moved_and_ended : LineRun site_a (world before []) (timed line.Copy ∷ timed (line.Move 1) ∷ timed (line.Move 1) ∷ timed (line.End 1) ∷ timed (line.End 1) ∷ [])
      (said.Job 1 ∷ said.Moved ∷ said.NoJob ∷ said.Home ∷ said.NoJob ∷ []) (world home [])
  a_copy_is_begun_moved_and_ended =
      Next _ (world copying (out None ∷ [])) _ _ _ _ _ (record { answer = answers.Job copied; asks = record { mid = mid []; takes = begins; shelf = refl; held = refl }; said_is = refl }) refl (
      Next _ (world copying (out (Some Done) ∷ [])) _ _ _ _ _ (Done, record { held = in_head (out None) []; fresh = refl; medium = λ e. refl; leaves = refl }, refl) refl (
      Next _ (world copying (out (Some Done) ∷ [])) _ _ _ _ _ (refl, refl) refl (
      Next _ (world home []) _ _ _ _ _ (record { answer = answers.Home; comes_back = record { job = back copied (Some Done); note = refl; carried = refl; asks = record { mid = mid []; takes = ends; shelf = refl; held = refl } }; said_is = refl }) refl (
      Next _ (world home []) _ _ _ _ _ (refl, refl) refl (
      NoMore (world home [])
      )))))

  -- WHAT IS IN THE WAY OF A FETCH

  -- a job of segment 0, of volume 0, and one of segment 4, of volume 1
  abbrev two : List HeldJob
  two = record { note = job 1 Fetch 0 1 2; carried = None } ∷ record { note = record (job 2 Fetch 4 2 3) { volume = 1 }; carried = None } ∷ []

  pub the_job_with_the_volume_is_in_the_way : in_the_way site_a 5 two ≡ Some (record { note = record (job 2 Fetch 4 2 3) { volume = 1 }; carried = None })
  the_job_with_the_volume_is_in_the_way = refl

  pub of_two_jobs_the_lower_is_in_the_way : in_the_way (record site_a { volumes = 4 ∷ 4 ∷ 4 ∷ [] }) 9 two ≡ Some (record { note = job 1 Fetch 0 1 2; carried = None })
  of_two_jobs_the_lower_is_in_the_way = refl

  pub one_job_with_another_volume_is_not_in_the_way : in_the_way site_a 5 ((record { note = job 1 Fetch 0 1 2; carried = None }) ∷ []) ≡ None
  one_job_with_another_volume_is_not_in_the_way = refl

  -- CLOSINGS

  abbrev with_record : ℕ → LogUse → LogUse
  with_record n log = record log { number = n }

  pub a_site_with_a_job_out_is_closed : IsClosed (at copying no_log) (at (record copying { jobs = [] }) (with_record 2 no_log))
  a_site_with_a_job_out_is_closed = record {
    running = refl;
    tree = refl;
    tables = refl;
    jobs = refl;
    log = inl (record { room = λ ran. omega arith; number = omega arith; cleaned = refl; tidy = refl; ran = refl });
    calm = refl;
  }

  pub a_tidy_site_closes_on_a_full_log : IsClosed (at before (record no_log { clean = 5 })) (at before (record no_log { clean = 5 }))
  a_tidy_site_closes_on_a_full_log = record { running = refl; tree = refl; tables = refl; jobs = refl; log = inr (record { tidy = refl; ran = refl; full = omega arith; stays = refl }); calm = refl }

  pub a_closing_with_six_clean_segments_writes_a_record : IsClosed (at before no_log) (at before no_log) → ⊥
  a_closing_with_six_clean_segments_writes_a_record closed = by_log closed.log
    where
      by_log : HasCheckpointed no_log no_log ⊎ HasNothingToWrite no_log no_log → ⊥
      by_log (inl written) = let more = written.number in omega arith
      by_log (inr nothing) = let few = nothing.full in omega arith
