-- A stopped site changes neither its tree nor its shelf, and stays stopped.
use Rattle.std.proofs.Common.{arith, ◌≡◌, ℕ, Bool, true, false, ◌&&◌, List, Option, Some, None, Ok, Err, ok_or, is_none, refl, ap, sym, ◌∙◌, subst, T}
use Rattle.hl_addr.specs.Layout.{Layout}
use Rattle.hl_media.specs.declared.job.Carried.{Carried}
use Rattle.hl_tree.specs.Refusals.{◌>>=◌}
use Rattle.hl_tree.specs.Rules.{Files}
use Rattle.hl_placed.specs.Blocks.{Shelf}
use Rattle.hl_model.specs.Answers.{SiteAnswer}
use Rattle.hl_model.specs.Answers as answers
use Rattle.hl_model.specs.Causes.{calls_device, may_fail}
use Rattle.hl_model.specs.Cleaning.{LogUse}
use Rattle.hl_model.specs.Ends.{end_job, end_running}
use Rattle.hl_model.specs.Events.{SiteEvent, Back, FileCall, Rank, Stage, BeginCopy, BeginFetch, BeginNeed, EndJob, Eject, CleanOne, Checkpoint, Post, NextRequest, Settle, Look}
use Rattle.hl_model.specs.Requests.{post, next_one, settle}
use Rattle.hl_model.specs.Ruled.{Ruled, told_of}
use Rattle.hl_model.specs.Rules.{rules, running}
use Rattle.hl_model.specs.Runs.{IsReply, plain_after, shelf_behind}
use Rattle.hl_model.specs.Site.{SiteState}
use Rattle.hl_model.specs.Steps.{State, IsGivenUp, given_up}
use Rattle.hl_model.proofs.Steps.{core}

-- the site is stopped
abbrev pub IsStopped : SiteState → Type 0
IsStopped s = (faults : ℕ) × (s.stopped ≡ Some faults)

-- an answer of a stopped site is none of these
abbrev pub is_calm : SiteAnswer → Bool
is_calm (answers.Done reply) = false
is_calm (answers.Staged blocks volume slot line) = false
is_calm answers.Eio = false
is_calm answer = true

-- the tree stays, and the next serial, and whether the site is stopped
pub record IsStill (g : Layout) (before after : SiteState) : Type 0 where
  pub core : core g before after ≡ core g before before
  pub stopped : after.stopped ≡ before.stopped

pub record IsCalm (g : Layout) (s : SiteState) (told : SiteAnswer × SiteState) : Type 0 where
  pub still : IsStill g s told.1
  pub says : is_calm told.0 ≡ true

module _ (g : Layout) (files : Files) (event : SiteEvent) where
  no_done : (answer : SiteAnswer) → is_calm answer ≡ true → (said : _) → answer ≡ answers.Done said → ⊥
  no_done (answers.Done reply) calm said e = subst T (sym calm) tt
  no_done answer calm said e = cc

  pub calm_reply : (answer : SiteAnswer) → is_calm answer ≡ true → IsReply g files event answer
  calm_reply answer calm now call said e f = absurd (no_done answer calm said f)

module _ (g : Layout) (files : Files) where
  call_stays : (now : ℕ) (call : _) (answer : SiteAnswer) → is_calm answer ≡ true → plain_after g files (FileCall now call) answer ≡ files
  call_stays now call (answers.Done reply) calm = absurd (subst T (sym calm) tt)
  call_stays now call answer calm = refl

  pub calm_plain : (event : SiteEvent) (answer : SiteAnswer) → is_calm answer ≡ true → plain_after g files event answer ≡ files
  calm_plain (FileCall now call) answer calm = call_stays now call answer calm
  calm_plain event answer calm = refl

pub calm_shelf : (g : Layout) (shelf : Shelf) (event : SiteEvent) (answer : SiteAnswer) → is_calm answer ≡ true → (stopped : Option ℕ) (serial : ℕ) (segment : List ℕ) → shelf_behind event answer stopped shelf serial segment ≡ shelf
calm_shelf g shelf event (answers.Done reply) calm stopped serial segment = absurd (subst T (sym calm) tt)
calm_shelf g shelf event (answers.Staged blocks volume slot line) calm stopped serial segment = absurd (subst T (sym calm) tt)
calm_shelf g shelf event answers.Eio calm stopped serial segment = absurd (subst T (sym calm) tt)
calm_shelf g shelf event answer calm stopped serial segment = refl

pub given_up_still : (g : Layout) (before : State) (event : SiteEvent) (after : State) → IsGivenUp g before event after → IsStill g before.site after.site
given_up_still g before event after up = subst (IsStill g before.site) (sym up.left) (left_by event)
  where
    left_by : (event : SiteEvent) → IsStill g before.site (given_up g before.site event)
    left_by (EndJob job) = record { core = refl; stopped = refl }
    left_by event = record { core = refl; stopped = refl }

pub stopped_calls_none : (g : Layout) (s : SiteState) (event : SiteEvent) (faults : ℕ) → s.stopped ≡ Some faults → may_fail g s event ≡ true → ⊥
stopped_calls_none g s event faults stopped may = let wrong : true ≡ false = sym may ∙ ap (λ o. is_none o && calls_device g s event) stopped in subst T wrong tt

module _ (g : Layout) (s : SiteState) (faults : ℕ) (stopped : s.stopped ≡ Some faults) where
  abbrev Calm : Ruled → Type 0
  Calm told = IsCalm g s (told_of s told)

  calm_running : (o : Option ℕ) (told : Ruled) → o ≡ Some faults → Calm (running o told)
  calm_running None told e = cc
  calm_running (Some n) told e = record { still = record { core = refl; stopped = refl }; says = refl }

  calm_end_running : (job : Back) (carried : Carried) (o : Option ℕ) → o ≡ Some faults → Calm (end_running g s job carried o)
  calm_end_running job carried None e = cc
  calm_end_running job carried (Some n) e = record { still = record { core = refl; stopped = refl }; says = refl }

  calm_end : (job : Back) (o : Option Carried) → Calm (ok_or o answers.Unmoved >>= (λ carried. end_running g s job carried s.stopped))
  calm_end job None = record { still = record { core = refl; stopped = refl }; says = refl }
  calm_end job (Some carried) = calm_end_running job carried s.stopped stopped

  calm_end_job : (job : Back) → Calm (end_job g s job)
  unfolding end_job
  calm_end_job job = calm_end job job.carried

  -- an answer that changes requests alone
  abbrev Facts : SiteAnswer → SiteState → Type 0
  Facts answer new = (core g s new ≡ core g s s) × (new.stopped ≡ s.stopped) × (is_calm answer ≡ true)

  calm_told : (told : Ruled) → ((answer : SiteAnswer) (new : SiteState) → told ≡ Ok (answer, new) → Facts answer new) → ((answer : SiteAnswer) → told ≡ Err answer → is_calm answer ≡ true) → Calm told
  calm_told (Ok told) ok err = let facts = ok told.0 told.1 refl in record { still = record { core = facts.0; stopped = facts.1 }; says = facts.2 }
  calm_told (Err answer) ok err = record { still = record { core = refl; stopped = refl }; says = err answer refl }

  calm_post : (t : ℕ) (keep : List ℕ) → Calm (post g s t keep)
  unfolding post
  calm_post t keep = record { still = record { core = refl; stopped = refl }; says = refl }

  next_one_changes : (answer : SiteAnswer) (new : SiteState) → next_one g s ≡ Ok (answer, new) → Facts answer new
  unfolding next_one
  next_one_changes answer new e = (grind arith, grind arith, grind arith)

  next_one_refuses : (answer : SiteAnswer) → next_one g s ≡ Err answer → is_calm answer ≡ true
  unfolding next_one
  next_one_refuses answer e = grind arith

  settle_changes : (number : ℕ) (answer : SiteAnswer) (new : SiteState) → settle g s number ≡ Ok (answer, new) → Facts answer new
  unfolding settle
  settle_changes number answer new e = (grind arith, grind arith, grind arith)

  settle_refuses : (number : ℕ) (answer : SiteAnswer) → settle g s number ≡ Err answer → is_calm answer ≡ true
  unfolding settle
  settle_refuses number answer e = grind arith

  pub stopped_calm : (log : LogUse) (shelf : Shelf) (event : SiteEvent) → Calm (rules g s log shelf event)
  stopped_calm log shelf (EndJob job) = calm_end_job job
  stopped_calm log shelf (Post t keep) = calm_post t keep
  stopped_calm log shelf NextRequest = calm_told (next_one g s) next_one_changes next_one_refuses
  stopped_calm log shelf (Settle number) = calm_told (settle g s number) (settle_changes number) (settle_refuses number)
  stopped_calm log shelf (FileCall now call) = calm_running s.stopped _ stopped
  stopped_calm log shelf (Rank now count) = calm_running s.stopped _ stopped
  stopped_calm log shelf (Stage paths) = calm_running s.stopped _ stopped
  stopped_calm log shelf BeginCopy = calm_running s.stopped _ stopped
  stopped_calm log shelf (BeginFetch path block) = calm_running s.stopped _ stopped
  stopped_calm log shelf (BeginNeed t keep) = calm_running s.stopped _ stopped
  stopped_calm log shelf (Eject line) = calm_running s.stopped _ stopped
  stopped_calm log shelf CleanOne = calm_running s.stopped _ stopped
  stopped_calm log shelf Checkpoint = calm_running s.stopped _ stopped
  stopped_calm log shelf (Look number) = calm_running s.stopped _ stopped
