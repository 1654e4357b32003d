-- A step in plain: file calls are those of plain files, and nothing else changes the plain tree.
use Rattle.std.proofs.Common.{arith, ◌≡◌, ℕ, Bool, true, false, List, Option, Some, None, Result, Ok, Err, refl, ap, ◌∙◌, sym, subst, if◌then◌else◌, ok_or, get_or, T}
use Rattle.std.specs.FinMap.{insert}
use Rattle.hl_tree.specs.declared.call.Call.{Call}
use Rattle.hl_tree.specs.declared.call.Reply.{Reply}
use Rattle.hl_tree.specs.declared.call.Reply.TheVariants as replies
use Rattle.hl_tree.specs.Tree.{IsTree}
use Rattle.hl_tree.specs.Rules.{Files, outcome, after, reply, tree_of, reply_of}
use Rattle.hl_model.specs.Answers as answers
use Rattle.hl_placed.proofs.Plain.{plain-placed_after}
use Rattle.hl_placed.proofs.Staging.{plain-new_serial, plain-staged}
use Rattle.hl_placed.specs.Blocks.{Shelf}
use Rattle.hl_placed.specs.Placed.{PlacedTree, plain, ArePlaced}
use Rattle.hl_placed.specs.Calls.{placed_after}
use Rattle.hl_placed.specs.Staging.{IsNewSerial, HoldsBlocks, put_away}
use Rattle.hl_addr.specs.Layout.{Layout}
use Rattle.hl_model.specs.Site.{SiteState, RequestOutcome}
use Rattle.hl_model.specs.Events.{SiteEvent, Back, FileCall, Rank, Stage, BeginCopy, BeginFetch, BeginNeed, EndJob, Eject, CleanOne, Checkpoint, Post, NextRequest, Settle, Look}
use Rattle.hl_model.specs.Answers.{SiteAnswer}
use Rattle.hl_model.specs.Ruled.{Ruled, limits_of, told_of}
use Rattle.hl_model.specs.Cleaning.{LogUse, clean_one}
use Rattle.hl_tree.specs.Refusals.{◌>>=◌}
use Rattle.hl_model.specs.FileCalls.{file_call}
use Rattle.hl_model.specs.Stagings.{stage, chosen}
use Rattle.hl_model.specs.Begins.{begin_copy, begin_need, begin_fetch}
use Rattle.hl_model.specs.Ends.{end_job, eject, over, arrived, moved_to, bound, is_stale, end_carried, end_running, eject_line, noted}
use Rattle.hl_model.specs.Requests.{post, next_one, settle, look}
use Rattle.hl_model.specs.Rules.{rules, running}
use Rattle.hl_model.specs.Runs.{shelf_after, plain_after, IsReply, Writes, InPlain}
use Rattle.hl_media.specs.declared.job.JobKind.{JobKind}
use Rattle.hl_media.specs.declared.job.Carried.{Carried}
use Rattle.hl_media.specs.declared.job.Carried.TheVariants.{Done, EndOfMedium, Fault}
use Rattle.hl_media.specs.declared.job.JobKind.TheVariants.{Copy, Fetch}
use Rattle.hl_lines.specs.declared.state.LineState.{LineState}
use Rattle.hl_lines.specs.declared.state.LineState.TheVariants.{Empty, Clean, Staging, Stuck, Aside}

module _ (g : Layout) (s : SiteState) where
  -- the tree stays, and the next serial
  abbrev pub core : SiteState → PlacedTree × ℕ
  core site = (site.tree, site.next_serial)

  abbrev pub Keeps : Ruled → Type 0
  Keeps told = (answer : SiteAnswer) (new : SiteState) → told ≡ Ok (answer, new) → core new ≡ core s

  pub told_keeps : (told : Ruled) → Keeps told → core (told_of s told).1 ≡ core s
  told_keeps (Ok told) keeps = keeps told.0 told.1 refl
  told_keeps (Err answer) keeps = refl

  keeps_running : (stopped : Option ℕ) (told : Ruled) → Keeps told → Keeps (running stopped told)
  keeps_running None told k answer new e = k answer new e
  keeps_running (Some faults) told k answer new e = cc

  keeps_begin_copy : Keeps (begin_copy g s)
  unfolding begin_copy
  keeps_begin_copy answer new e = grind arith

  keeps_begin_need : (t : ℕ) (keep : List ℕ) → Keeps (begin_need g s t keep)
  unfolding begin_need
  keeps_begin_need t keep answer new e = grind arith

  keeps_begin_fetch : (path : List (List ℕ)) (block : ℕ) → Keeps (begin_fetch g s path block)
  unfolding begin_fetch
  keeps_begin_fetch path block answer new e = grind (arith, keeps_begin_need)

  keeps_noted : (job : Back) (kind : JobKind) (t : ℕ) (how : RequestOutcome) → core (noted g s kind t how (over g s job)) ≡ core s
  keeps_noted job Copy t how = refl
  keeps_noted job Fetch t how = refl

  keeps_moved_to : (job : Back) (full : List Bool) (o : Option ℕ) → Keeps (moved_to g s job full o)
  keeps_moved_to job full None answer new e = grind arith
  keeps_moved_to job full (Some t) answer new e = grind arith

  keeps_bound : (job : Back) → Keeps (bound g s job)
  keeps_bound job answer new e = grind arith

  keeps_arrived : (job : Back) (kind : JobKind) (carried : Carried) → Keeps (arrived g s job kind carried)
  keeps_arrived job Copy Done answer new e = grind arith
  keeps_arrived job Copy EndOfMedium answer new e = keeps_moved_to job _ _ answer new e
  keeps_arrived job Copy (Fault faults) answer new e = grind arith
  keeps_arrived job Fetch Done answer new e = keeps_bound job answer new e
  keeps_arrived job Fetch EndOfMedium answer new e = grind arith
  keeps_arrived job Fetch (Fault faults) answer new e = grind arith

  keeps_either : (b : Bool) (one other : Ruled) → Keeps one → Keeps other → Keeps (if b then one else other)
  keeps_either true one other k l = k
  keeps_either false one other k l = l

  keeps_over : (job : Back) (why : SiteAnswer) → Keeps (Ok (why, over g s job))
  keeps_over job why answer new e = grind arith

  keeps_end_carried : (job : Back) (carried : Carried) → Keeps (end_carried g s job carried)
  keeps_end_carried job (Fault faults) answer new e = grind (arith, keeps_noted)
  keeps_end_carried job Done answer new e = keeps_either (is_stale g s job) _ _ (keeps_over job answers.Stale) (keeps_arrived job job.note.kind Done) answer new e
  keeps_end_carried job EndOfMedium answer new e = keeps_either (is_stale g s job) _ _ (keeps_over job answers.Stale) (keeps_arrived job job.note.kind EndOfMedium) answer new e

  keeps_end_running : (job : Back) (carried : Carried) (stopped : Option ℕ) → Keeps (end_running g s job carried stopped)
  keeps_end_running job carried None answer new e = keeps_end_carried job carried answer new e
  keeps_end_running job carried (Some faults) answer new e = grind arith

  keeps_end_of : (job : Back) (o : Result Carried SiteAnswer) → Keeps (o >>= (λ carried. end_running g s job carried s.stopped))
  keeps_end_of job (Ok carried) answer new e = keeps_end_running job carried s.stopped answer new e
  keeps_end_of job (Err why) answer new e = cc

  keeps_end_job : (job : Back) → Keeps (end_job g s job)
  unfolding end_job
  keeps_end_job job = keeps_end_of job (ok_or job.carried answers.Unmoved)

  keeps_eject_line : (line : ℕ) (state : LineState) → Keeps (eject_line g s line state)
  keeps_eject_line line Empty answer new e = cc
  keeps_eject_line line (Clean t) answer new e = grind arith
  keeps_eject_line line (Staging t) answer new e = cc
  keeps_eject_line line (Stuck t) answer new e = cc
  keeps_eject_line line Aside answer new e = cc

  keeps_eject : (line : ℕ) → Keeps (eject g s line)
  unfolding eject
  keeps_eject line = keeps_eject_line line (get_or s.lines line Empty)

  keeps_post : (t : ℕ) (keep : List ℕ) → Keeps (post g s t keep)
  unfolding post
  keeps_post t keep answer new e = grind arith

  keeps_next_one : Keeps (next_one g s)
  unfolding next_one
  keeps_next_one answer new e = grind arith

  keeps_settle : (number : ℕ) → Keeps (settle g s number)
  unfolding settle
  keeps_settle number answer new e = grind arith

  keeps_look : (number : ℕ) → Keeps (look g s number)
  unfolding look
  keeps_look number answer new e = grind arith

  keeps_clean_one : (log : LogUse) → Keeps (clean_one g s log)
  unfolding clean_one
  keeps_clean_one log answer new e = grind arith

  keeps_itself : (why : SiteAnswer) → Keeps (Ok (why, s))
  keeps_itself why answer new e = grind arith

module _ (g : Layout) (shelf : Shelf) (s : SiteState) (segment : List ℕ) (is : IsTree (plain shelf s.tree)) (are : ArePlaced shelf s.tree) (fresh : IsNewSerial s.next_serial s.tree) where
  -- the site as it is has one plain tree, whatever the answer
  as_it_is : (answer : SiteAnswer) → plain (shelf_after shelf s.next_serial segment answer) s.tree ≡ plain shelf s.tree
  as_it_is (answers.Staged blocks volume slot line) = plain-new_serial shelf s.next_serial segment s.tree fresh
  as_it_is answer = refl

  abbrev Fits : SiteEvent → Ruled → Type 0
  Fits event told = InPlain g shelf s segment event (told_of s told).0 (told_of s told).1

  -- any event but a file call
  kept : (event : SiteEvent) → ((answer : SiteAnswer) → plain_after g (plain shelf s.tree) event answer ≡ plain shelf s.tree) → ((answer : SiteAnswer) → IsReply g (plain shelf s.tree) event answer) → (told : Ruled) → Keeps g s told → Fits event told
  kept event plain_stays replies told keeps = record {
    tree = ap (plain (shelf_after shelf s.next_serial segment (told_of s told).0)) (ap (λ c. c.0) (told_keeps g s told keeps)) ∙ as_it_is (told_of s told).0 ∙ sym (plain_stays (told_of s told).0);
    reply = replies (told_of s told).0;
  }

  abbrev files : Files
  files = plain shelf s.tree

  fits_told : (event : SiteEvent) (told : Ruled) → ((answer : SiteAnswer) → told ≡ Err answer → InPlain g shelf s segment event answer s) → ((answer : SiteAnswer) (new : SiteState) → told ≡ Ok (answer, new) → InPlain g shelf s segment event answer new) → Fits event told
  fits_told event (Ok told) err ok = ok told.0 told.1 refl
  fits_told event (Err answer) err ok = err answer refl

  no_call : (event : SiteEvent) → ((now : ℕ) (call : Call) → event ≡ FileCall now call → ⊥) → (answer : SiteAnswer) → IsReply g files event answer
  no_call event other answer now call said e f = absurd (other now call e)

  -- a staging that is told says Staged
  abbrev is_staged : SiteAnswer → Bool
  is_staged (answers.Staged blocks volume slot line) = true
  is_staged answer = false

  staged_says : (paths : List (List (List ℕ))) (answer : SiteAnswer) (new : SiteState) → stage g s paths ≡ Ok (answer, new) → is_staged answer ≡ true
  unfolding stage
  staged_says paths answer new e = grind arith

  held_by : (paths : List (List (List ℕ))) (answer : SiteAnswer) → is_staged answer ≡ true → Writes g shelf s segment (Stage paths) answer → HoldsBlocks files segment 1 (chosen g s paths)
  held_by paths (answers.Staged blocks volume slot line) is writes = writes
  held_by paths answer is writes = absurd (subst T (sym is) tt)

  -- so it holds the blocks
  pub held_in : (paths : List (List (List ℕ))) (answer : SiteAnswer) (new : SiteState) → stage g s paths ≡ Ok (answer, new) → Writes g shelf s segment (Stage paths) answer → HoldsBlocks files segment 1 (chosen g s paths)
  held_in paths answer new e writes = held_by paths answer (staged_says paths answer new e) writes

  pub staged : (paths : List (List (List ℕ))) → HoldsBlocks files segment 1 (chosen g s paths) → (answer : SiteAnswer) (new : SiteState) → stage g s paths ≡ Ok (answer, new) → InPlain g shelf s segment (Stage paths) answer new
  unfolding stage
  staged paths holds answer new e =
      let tree : new.tree ≡ put_away s.next_serial 1 (chosen g s paths) s.tree = grind arith in
      let grown : shelf_after shelf s.next_serial segment answer ≡ insert shelf s.next_serial segment = grind arith in
      record {
        tree = (λ i. plain (grown i) (tree i)) ∙ plain-staged shelf s.next_serial segment s.tree (chosen g s paths) are fresh holds;
        reply = no_call (Stage paths) (λ now call f. cc) answer;
      }

  fits_stage : (paths : List (List (List ℕ))) (told : Ruled) → stage g s paths ≡ told → Writes g shelf s segment (Stage paths) (told_of s told).0 → Fits (Stage paths) told
  fits_stage paths (Ok told) e writes = staged paths (held_in paths told.0 told.1 e writes) told.0 told.1 e
  fits_stage paths (Err answer) e writes = record { tree = as_it_is answer; reply = no_call (Stage paths) (λ now call f. cc) answer }

  fits_stage_if : (paths : List (List (List ℕ))) (stopped : Option ℕ) → Writes g shelf s segment (Stage paths) (told_of s (running stopped (stage g s paths))).0 → Fits (Stage paths) (running stopped (stage g s paths))
  fits_stage_if paths None writes = fits_stage paths (stage g s paths) refl writes
  fits_stage_if paths (Some faults) writes = record { tree = refl; reply = no_call (Stage paths) (λ now call f. cc) (answers.Stopped faults) }

  said_by : (now : ℕ) (call : Call) (answer : SiteAnswer) (r : Reply) → answer ≡ answers.Done r → reply (limits_of g) files call ≡ r → IsReply g files (FileCall now call) answer
  said_by now call answer r says is_reply now2 call2 said same h =
      let one : call ≡ call2 = cc in
      let two : r ≡ said = cc in
      sym two ∙ sym is_reply ∙ ap (reply (limits_of g) files) one

  not_done : (now : ℕ) (call : Call) (answer : SiteAnswer) → ((said : Reply) → answer ≡ answers.Done said → ⊥) → plain_after g files (FileCall now call) answer ≡ files
  not_done now call (answers.Done said) other = absurd (other said refl)
  not_done now call answer other = refl

  pub called : (now : ℕ) (call : Call) (answer : SiteAnswer) (new : SiteState) → file_call g s shelf now call ≡ Ok (answer, new) → InPlain g shelf s segment (FileCall now call) answer new
  unfolding file_call
  called now call answer new e =
      elim (outcome (limits_of g) files call) as (λ o. outcome (limits_of g) files call ≡ o → InPlain g shelf s segment (FileCall now call) answer new) [
        | Err why ↦ λ f. let no : ⊥ = grind arith in absurd no
        | Ok done ↦ λ f.
            let tree : new.tree ≡ placed_after (limits_of g) shelf s.tree now call = grind arith in
            let says : answer ≡ answers.Done done.0 = grind arith in
            let same : shelf_after shelf s.next_serial segment answer ≡ shelf = ap (shelf_after shelf s.next_serial segment) says in
            let goes : plain_after g files (FileCall now call) answer ≡ after (limits_of g) files call = ap (plain_after g files (FileCall now call)) says in
            record {
              tree = (λ i. plain (same i) (tree i)) ∙ plain-placed_after shelf s.tree (limits_of g) are now call ∙ sym goes;
              reply = said_by now call answer done.0 says (ap reply_of f);
            }
      ] refl

  refused : (now : ℕ) (call : Call) (answer : SiteAnswer) → file_call g s shelf now call ≡ Err answer → InPlain g shelf s segment (FileCall now call) answer s
  unfolding file_call
  refused now call answer e =
      elim (outcome (limits_of g) files call) as (λ o. outcome (limits_of g) files call ≡ o → InPlain g shelf s segment (FileCall now call) answer s) [
        | Err why ↦ λ f.
            let says : answer ≡ answers.Done (replies.Refused why) = grind arith in
            record {
              tree = as_it_is answer ∙ sym (ap (plain_after g files (FileCall now call)) says ∙ ap (tree_of files) f);
              reply = said_by now call answer (replies.Refused why) says (ap reply_of f);
            }
        | Ok done ↦ λ f.
            let other : (said : Reply) → answer ≡ answers.Done said → ⊥ = λ said h. grind arith in
            record {
              tree = as_it_is answer ∙ sym (not_done now call answer other);
              reply = λ now2 call2 said same h. absurd (other said h);
            }
      ] refl

  fits_call : (now : ℕ) (call : Call) → Fits (FileCall now call) (file_call g s shelf now call)
  fits_call now call = fits_told (FileCall now call) (file_call g s shelf now call) (refused now call) (called now call)

  fits_running : (event : SiteEvent) (stopped : Option ℕ) (told : Ruled) → Fits event told → ((faults : ℕ) → InPlain g shelf s segment event (answers.Stopped faults) s) → Fits event (running stopped told)
  fits_running event None told fits other = fits
  fits_running event (Some faults) told fits other = other faults

  pub fits_rules : (log : LogUse) (event : SiteEvent) → Writes g shelf s segment event (told_of s (rules g s log shelf event)).0 → Fits event (rules g s log shelf event)
  fits_rules log (FileCall now call) writes = fits_running (FileCall now call) s.stopped (file_call g s shelf now call) (fits_call now call) (λ faults. record { tree = refl; reply = λ now2 call2 said same h. cc })
  fits_rules log (Stage paths) writes = fits_stage_if paths s.stopped writes
  fits_rules log (Rank now count) writes = kept _ (λ answer. refl) (no_call _ (λ now call f. cc)) _ (keeps_running g s s.stopped _ (keeps_itself g s _))
  fits_rules log BeginCopy writes = kept _ (λ answer. refl) (no_call _ (λ now call f. cc)) _ (keeps_running g s s.stopped _ (keeps_begin_copy g s))
  fits_rules log (BeginFetch path block) writes = kept _ (λ answer. refl) (no_call _ (λ now call f. cc)) _ (keeps_running g s s.stopped _ (keeps_begin_fetch g s path block))
  fits_rules log (BeginNeed t keep) writes = kept _ (λ answer. refl) (no_call _ (λ now call f. cc)) _ (keeps_running g s s.stopped _ (keeps_begin_need g s t keep))
  fits_rules log (EndJob job) writes = kept _ (λ answer. refl) (no_call _ (λ now call f. cc)) _ (keeps_end_job g s job)
  fits_rules log (Eject line) writes = kept _ (λ answer. refl) (no_call _ (λ now call f. cc)) _ (keeps_running g s s.stopped _ (keeps_eject g s line))
  fits_rules log CleanOne writes = kept _ (λ answer. refl) (no_call _ (λ now call f. cc)) _ (keeps_running g s s.stopped _ (keeps_clean_one g s log))
  fits_rules log Checkpoint writes = kept _ (λ answer. refl) (no_call _ (λ now call f. cc)) _ (keeps_running g s s.stopped _ (keeps_itself g s _))
  fits_rules log (Post t keep) writes = kept _ (λ answer. refl) (no_call _ (λ now call f. cc)) _ (keeps_post g s t keep)
  fits_rules log NextRequest writes = kept _ (λ answer. refl) (no_call _ (λ now call f. cc)) _ (keeps_next_one g s)
  fits_rules log (Settle number) writes = kept _ (λ answer. refl) (no_call _ (λ now call f. cc)) _ (keeps_settle g s number)
  fits_rules log (Look number) writes = kept _ (λ answer. refl) (no_call _ (λ now call f. cc)) _ (keeps_running g s s.stopped _ (keeps_look g s number))

-- an event that is no file call and no staging
abbrev pub is_other : SiteEvent → Bool
is_other (FileCall now call) = false
is_other (Stage paths) = false
is_other event = true

module _ (g : Layout) (s : SiteState) where
  pub keeps_rules : (log : LogUse) (shelf : Shelf) (event : SiteEvent) → is_other event ≡ true → Keeps g s (rules g s log shelf event)
  keeps_rules log shelf (FileCall now call) other = absurd (subst T (sym other) tt)
  keeps_rules log shelf (Stage paths) other = absurd (subst T (sym other) tt)
  keeps_rules log shelf (Rank now count) other = keeps_running g s s.stopped _ (keeps_itself g s _)
  keeps_rules log shelf BeginCopy other = keeps_running g s s.stopped _ (keeps_begin_copy g s)
  keeps_rules log shelf (BeginFetch path block) other = keeps_running g s s.stopped _ (keeps_begin_fetch g s path block)
  keeps_rules log shelf (BeginNeed t keep) other = keeps_running g s s.stopped _ (keeps_begin_need g s t keep)
  keeps_rules log shelf (EndJob job) other = keeps_end_job g s job
  keeps_rules log shelf (Eject line) other = keeps_running g s s.stopped _ (keeps_eject g s line)
  keeps_rules log shelf CleanOne other = keeps_running g s s.stopped _ (keeps_clean_one g s log)
  keeps_rules log shelf Checkpoint other = keeps_running g s s.stopped _ (keeps_itself g s _)
  keeps_rules log shelf (Post t keep) other = keeps_post g s t keep
  keeps_rules log shelf NextRequest other = keeps_next_one g s
  keeps_rules log shelf (Settle number) other = keeps_settle g s number
  keeps_rules log shelf (Look number) other = keeps_running g s s.stopped _ (keeps_look g s number)
