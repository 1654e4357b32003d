-- A shelf that is kept stays kept.
use Rattle.std.proofs.Common.{arith, ◌≡◌, ℕ, ◌-◌, ◌^◌, ◌<◌, ◌⊎◌, Bool, true, false, cond, ◌&&◌, not, nat_eq, nat_le, List, [], get_or, set, filter, length, unwrap_or, Option, Some, None, Result, Ok, Err, ok_or, is_none, is_some, refl, ap, ◌∙◌, sym, subst, inl, inr, T, if◌then◌else◌}
use Rattle.std.specs.Prelude.{Contains, IsSome}
use Rattle.std.specs.List.{find}
use Rattle.std.specs.Ordering.{nat_cmp, eq_by_cmp}
use Rattle.std.specs.Cmp.{nat_cmp_total}
use Rattle.std.specs.FinMap.{get, insert, get-insert, nat_cmp-IsAntisymmetric}
use Rattle.hl_addr.specs.Layout.{Layout, quota}
use Rattle.hl_addr.specs.Slots.{volume_of}
use Rattle.hl_tree.specs.declared.call.Call.{Call}
use Rattle.hl_tree.specs.declared.call.Reply.TheVariants as replies
use Rattle.hl_tree.specs.Refusals.{◌>>=◌, refused_if}
use Rattle.hl_tree.specs.Rules.{outcome}
use Rattle.hl_tree.specs.Tree.{content_at}
use Rattle.hl_tseg.specs.Slots.{serial_of}
use Rattle.hl_tseg.specs.declared.slot.Slot.{Slot}
use Rattle.hl_tseg.specs.declared.slot.Slot.TheVariants.{Free, Staged, Home, Spoilt}
use Rattle.hl_placed.specs.Blocks.{Shelf, file_block}
use Rattle.hl_placed.specs.Calls.{need}
use Rattle.hl_placed.specs.Charges.{is_over}
use Rattle.hl_placed.specs.Placed.{plain}
use Rattle.hl_placed.specs.Staging.{resident}
use Rattle.hl_model.specs.Allowed.{IsAllowed, IsBack}
use Rattle.hl_model.specs.Answers.{SiteAnswer}
use Rattle.hl_model.specs.Answers as answers
use Rattle.hl_model.specs.Begins.{begin_copy, begin_need, begin_fetch, job_for, next_copy, serial_at, serial_away, drive_free, needs_no_fetch}
use Rattle.hl_model.specs.Cache.{IsOut, IsCache, IsJobOf, slot_in, state_in}
use Rattle.hl_model.specs.Cleaning.{LogUse, clean_one, least, may_clean}
use Rattle.hl_model.specs.Ends.{lines_left, is_same, kept_mark, over, moved_to, arrived, end_carried, end_running, end_job, eject, eject_line, noted, is_stale}
use Rattle.hl_model.specs.Events.{SiteEvent, Back, FileCall, Rank, Stage, BeginCopy, BeginFetch, BeginNeed, EndJob, Eject, CleanOne, Checkpoint, Post, NextRequest, Settle, Look}
use Rattle.hl_model.specs.FileCalls.{file_call, line_of_serial, all_there}
use Rattle.hl_media.specs.declared.job.JobNote.{JobNote}
use Rattle.hl_media.specs.declared.job.JobKind.{JobKind}
use Rattle.hl_media.specs.declared.job.Carried.{Carried}
use Rattle.hl_media.specs.declared.job.Carried.TheVariants.{Done, EndOfMedium, Fault}
use Rattle.hl_media.specs.declared.job.JobKind.TheVariants.{Copy, Fetch}
use Rattle.hl_model.specs.Keeping.{Follow, JobsFollow, AreHeld, BringsBack, GoesOut}
use Rattle.hl_lines.specs.declared.state.LineState.{LineState}
use Rattle.hl_lines.specs.declared.state.LineState.TheVariants.{Empty, Clean, Staging, Stuck, Aside}
use Rattle.hl_lines.specs.Lines.{held_segment, clean_segment, is_empty, is_staging, segment_of, victim}
use Rattle.hl_model.specs.Lines.{count_held, job_of_line, next_free, slot_with, staged_line, is_home}
use Rattle.hl_model.specs.Requests.{post, next_one, settle, look}
use Rattle.hl_model.specs.Ruled.{Ruled, by_rules, limits_of}
use Rattle.hl_model.specs.Rules.{rules, running}
use Rattle.hl_model.specs.Runs.{shelf_after}
use Rattle.hl_model.specs.Shelves.{AreLined, IsHomeSlot, JobOut, KeepsBuffers, KeepsPlaces, KeepsShelf}
use Rattle.hl_model.specs.Site.{SiteState, Request, RequestOutcome, Bound, Evol, Ebad}
use Rattle.hl_model.specs.Stagings.{stage, are_files}
use Rattle.hl_model.proofs.CacheSteps.{found_passes, free_slot, ok_found, staged_is, staging_is}
use Rattle.hl_model.proofs.Sets.{is_there, left_true, set_alike}
use Rattle.hl_model.proofs.Shelves.{keeps_bound, keeps_dropped, keeps_home, keeps_moved, keeps_staged}
use Rattle.hl_model.proofs.Victims.{victim_state}
use Rattle.hl_tree.proofs.NamesBelow.{equal}

-- a line that holds the same segment claims the same
keeps_alike : (may : ℕ → List ℕ → Type 0) (line_bytes : ℕ → List ℕ) (slots : List Slot) (lines : List LineState) (shelf : Shelf) → KeepsPlaces may line_bytes slots lines shelf
    → (i : ℕ) (state : LineState) → segment_of state ≡ segment_of (get_or lines i Empty) → KeepsPlaces may line_bytes slots (set lines i state) shelf
keeps_alike may line_bytes slots lines shelf keeps i state same = record {
  homes = keeps.homes;
  cached = λ line serial has. keeps.cached line serial (record { tseg = has.tseg; holds = sym (set_alike segment_of lines i state Empty same line) ∙ has.holds; serial_is = has.serial_is });
}

T_of : (b : Bool) → b ≡ true → T b
T_of true e = tt
T_of false e = cc

-- another serial's segment stays
pub kept_segment : (shelf : Shelf) (next : ℕ) (segment : List ℕ) (serial : ℕ) → serial < next → get (insert shelf next segment) serial ≡ get shelf serial
kept_segment shelf next segment serial less = get-insert nat_cmp_total shelf next segment serial ∙ elim (eq_by_cmp nat_cmp serial next) as (λ b. eq_by_cmp nat_cmp serial next ≡ b → cond b (Some segment) (get shelf serial) ≡ get shelf serial) [
  | true ↦ λ e. let same : serial ≡ next = nat_cmp-IsAntisymmetric serial next (equal (nat_cmp serial next) (T_of (eq_by_cmp nat_cmp serial next) e)) in absurd (omega arith)
  | false ↦ λ e. refl
] refl

serial_there : (slot : Slot) (line : ℕ) → staged_line slot ≡ Some line → IsSome (serial_of slot)
serial_there Free line e = cc
serial_there (Staged n serial) line e = refl
serial_there (Home serial) line e = refl
serial_there Spoilt line e = cc

home_there : (slot : Slot) → is_home slot ≡ true → IsSome (serial_of slot)
home_there Free e = cc
home_there (Staged n serial) e = refl
home_there (Home serial) e = refl
home_there Spoilt e = cc

module _ (g : Layout) (shelf : Shelf) (s : SiteState) (cache : IsCache g s) (event : SiteEvent) (may may_after : ℕ → List ℕ → Type 0) (before after : ℕ → List ℕ) (segment buffer : List ℕ) (jobs jobs_after : List JobOut)
    (held : AreHeld s jobs) (keeps : KeepsShelf may before s.slots s.lines jobs shelf) where
  -- each line's segment has a slot with a serial
  lined : AreLined s.slots s.lines s.next_serial
  lined = record { there = λ line t e. by_state line t (get_or s.lines line Empty) refl e; below = cache.matched.below }
    where
      by_state : (line t : ℕ) (state : LineState) → get_or s.lines line Empty ≡ state → segment_of state ≡ Some t → IsSome (serial_of (get_or s.slots t Free))
      by_state line t Empty is e = cc
      by_state line t (Clean u) is e = home_there (get_or s.slots t Free) (cache.matched.homes line t (ap clean_segment is ∙ e))
      by_state line t (Staging u) is e = serial_there (get_or s.slots t Free) line (cache.matched.staged line t (ap held_segment is ∙ e))
      by_state line t (Stuck u) is e = serial_there (get_or s.slots t Free) line (cache.matched.staged line t (ap held_segment is ∙ e))
      by_state line t Aside is e = cc

  abbrev Kept : SiteAnswer → List Slot → List LineState → Type 0
  Kept answer slots lines = Follow may may_after before after segment buffer s event answer → JobsFollow answer before jobs jobs_after
      → KeepsShelf may_after after slots lines jobs_after (shelf_after shelf s.next_serial segment answer)

  abbrev pub Keeps : Ruled → Type 0
  Keeps told = (answer : SiteAnswer) (new : SiteState) → told ≡ Ok (answer, new) → Kept answer new.slots new.lines

  keeps_found : {A : Type 0} (o : Result A SiteAnswer) (f : A → Ruled) → ((a : A) → o ≡ Ok a → Keeps (f a)) → Keeps (o >>= f)
  keeps_found (Ok a) f keep answer new e = keep a refl answer new e
  keeps_found (Err why) f keep answer new e = cc

  keeps_ok : (answer : SiteAnswer) (new : SiteState) → Kept answer new.slots new.lines → Keeps (Ok (answer, new))
  keeps_ok answer new kept other last e = let same : ◌≡◌ {A = SiteAnswer × SiteState} (answer, new) (other, last) = cc in subst (λ (p : SiteAnswer × SiteState). Kept p.0 p.1.slots p.1.lines) same kept

  keeps_either : (b : Bool) (one other : Ruled) → Keeps one → Keeps other → Keeps (if b then one else other)
  keeps_either true one other k l = k
  keeps_either false one other k l = l

  -- the places, once the devices have gone on
  later_places : ((t serial : ℕ) → IsHomeSlot s.slots t serial → (bytes : List ℕ) → may_after t bytes → may t bytes) → ((line : ℕ) → after line ≡ before line) → KeepsPlaces may_after after s.slots s.lines shelf
  later_places homes lines = record {
    homes = λ t serial is bytes h. keeps.places.homes t serial is bytes (homes t serial is bytes h);
    cached = λ line serial has. keeps.places.cached line serial has ∙ ap Some (sym (lines line));
  }

  serial_in : (kind : JobKind) (line serial : ℕ) → serial_of (slot_in kind line serial) ≡ Some serial
  serial_in Copy line serial = refl
  serial_in Fetch line serial = refl

  job_serial : (note : JobNote) → IsOut note s.jobs → serial_of (get_or s.slots note.tseg Free) ≡ Some note.serial
  job_serial note out = ap serial_of (cache.jobs.each note out).slot ∙ serial_in note.kind note.line note.serial

  -- a buffer goes on having what it has
  old_buffer : (slots : List Slot) (out : JobOut) → Contains jobs out → (out.note.kind ≡ Copy) ⊎ ((out.carried ≡ Some Done) × (serial_of (get_or slots out.note.tseg Free) ≡ Some out.note.serial)) → get shelf out.note.serial ≡ Some out.buffer
  old_buffer slots out listed (inl copy) = keeps.buffers out listed (inl copy)
  old_buffer slots out listed (inr (done, its)) = keeps.buffers out listed (inr (done, job_serial out.note (held out listed)))

  same_buffers : (answer : SiteAnswer) (slots : List Slot) → ((note : JobNote) → answer ≡ answers.Job note → ⊥) → JobsFollow answer before jobs jobs_after → KeepsBuffers slots jobs_after shelf
  same_buffers answer slots no_job follow out listed has = elim (follow out listed) as (λ _. get shelf out.note.serial ≡ Some out.buffer) [
    | inl was ↦ old_buffer slots out was has
    | inr new ↦ absurd (no_job out.note new.said)
  ]

  -- lines and slots stay, and no job goes out
  kept_same : (answer : SiteAnswer) (slots : List Slot) (lines : List LineState) → shelf_after shelf s.next_serial segment answer ≡ shelf → (Follow may may_after before after segment buffer s event answer → (line : ℕ) → after line ≡ before line) → ((note : JobNote) → answer ≡ answers.Job note → ⊥)
      → (KeepsPlaces may_after after s.slots s.lines shelf → Follow may may_after before after segment buffer s event answer → KeepsPlaces may_after after slots lines shelf) → Kept answer slots lines
  kept_same answer slots lines stays same no_job places follow jobs_follow = subst (KeepsShelf may_after after slots lines jobs_after) (sym stays) (record {
    places = places (later_places follow.homes (same follow)) follow;
    buffers = same_buffers answer slots no_job jobs_follow;
  })

  keeps_file_call : (now : ℕ) (call : Call) → Keeps (file_call g s shelf now call)
  unfolding file_call
  keeps_file_call now call = keeps_found (by_rules (outcome (limits_of g) (plain shelf s.tree) call) (λ why. answers.Done (replies.Refused why))) _ (λ done _.
      keeps_found (refused_if (is_over (quota g) (limits_of g) s.tree now call) answers.NoSpace) _ (λ _ space.
      keeps_found (all_there g s (find (λ serial. is_none (line_of_serial g s serial)) (need s.tree call))) _ (λ _ there.
      keeps_ok (answers.Done done.0) _ (kept_same (answers.Done done.0) _ _ refl (λ follow. follow.lines) (λ note e. cc) (λ places follow. places)))))

  keeps_stage : s.next_serial < 2 ^ 64 - 1 → (paths : List (List (List ℕ))) → Keeps (stage g s paths)
  unfolding stage
  keeps_stage room paths = keeps_found (are_files g s paths) _ (λ _ files.
      keeps_found (refused_if (nat_eq (length (resident s.tree paths)) 0) answers.Nothing) _ (λ _ some.
      keeps_found (refused_if (nat_le (g.lines - 12) (count_held s.lines)) answers.NoLine) _ (λ u fits.
      keeps_found (ok_or (next_free g s.slots s.full) answers.NoSlot) _ (λ t f.
      keeps_found (ok_or (victim s.lines s.order []) answers.NoLine) _ (λ v h.
      keeps_ok (answers.Staged _ _ _ v) _ (λ follow jobs_follow. record {
        places = subst (λ bytes. KeepsPlaces may_after after (set s.slots t (Staged v s.next_serial)) (set s.lines v (Staging t)) (insert shelf s.next_serial bytes)) follow.lines.here
            (keeps_staged may_after before s.slots s.lines shelf (record { homes = λ t serial is bytes h. keeps.places.homes t serial is bytes (follow.homes t serial is bytes h); cached = keeps.places.cached })
            after v t s.next_serial follow.lines.others (victim_state g s cache [] v (ok_found (victim s.lines s.order []) answers.NoLine v h)).0 s.next_serial lined (free_slot g s.slots s.full t (ok_found (next_free g s.slots s.full) answers.NoSlot t f)).1);
        buffers = λ out listed has. elim (jobs_follow out listed) as (λ _. get (insert shelf s.next_serial segment) out.note.serial ≡ Some out.buffer) [
          | inl was ↦ kept_segment shelf s.next_serial segment out.note.serial (cache.matched.below out.note.tseg out.note.serial (job_serial out.note (held out was))) ∙ old_buffer (set s.slots t (Staged v s.next_serial)) out was has
          | inr new ↦ let wrong : answers.Staged _ _ _ v ≡ answers.Job out.note = new.said in cc
        ];
      }))))))

  -- a job goes out: its buffer claims nothing, or has its line
  kept_begun : (note : JobNote) (slots : List Slot) (lines : List LineState) → (KeepsPlaces may_after after s.slots s.lines shelf → KeepsPlaces may_after after slots lines shelf) → (note.kind ≡ Copy → get shelf note.serial ≡ Some (before note.line)) → Kept (answers.Job note) slots lines
  kept_begun note slots lines places has_line follow jobs_follow = record {
    places = places (later_places follow.homes follow.lines);
    buffers = λ out listed has. elim (jobs_follow out listed) as (λ _. get shelf out.note.serial ≡ Some out.buffer) [
      | inl was ↦ old_buffer slots out was has
      | inr new_job ↦ by_kind out (job_is note out.note new_job.said) new_job has
    ];
  }
    where
      job_is : (a b : JobNote) → answers.Job a ≡ answers.Job b → b ≡ a
      job_is a b e = cc

      by_kind : (out : JobOut) → out.note ≡ note → GoesOut (answers.Job note) before out → (out.note.kind ≡ Copy) ⊎ ((out.carried ≡ Some Done) × (serial_of (get_or slots out.note.tseg Free) ≡ Some out.note.serial)) → get shelf out.note.serial ≡ Some out.buffer
      by_kind out same goes (inl copy) = ap (λ (n : JobNote). get shelf n.serial) same ∙ has_line (sym (ap (λ (n : JobNote). n.kind) same) ∙ copy) ∙ ap (λ (n : JobNote). Some (before n.line)) (sym same) ∙ ap Some (sym (goes.buffer copy))
      by_kind out same goes (inr (done, its)) = let wrong : None ≡ Some Done = sym goes.fresh ∙ done in cc

  keeps_begin_need : (t : ℕ) (keep : List ℕ) → Keeps (begin_need g s t keep)
  unfolding begin_need
  keeps_begin_need t keep = keeps_found (refused_if (needs_no_fetch g s t) answers.Here) _ (λ u here.
      keeps_found (drive_free g s (volume_of g.volumes t)) _ (λ w drive.
      keeps_found (ok_or (victim s.lines s.order keep) answers.NoLine) _ (λ v f.
      keeps_ok (answers.Job (job_for g s Fetch t (serial_at g s t) v)) _
      (kept_begun (job_for g s Fetch t (serial_at g s t) v) _ _ (λ places. keeps_dropped may_after after s.slots s.lines shelf places v Aside refl) (λ e. cc)))))

  keeps_begin_fetch : (path : List (List ℕ)) (block : ℕ) → Keeps (begin_fetch g s path block)
  unfolding begin_fetch
  keeps_begin_fetch path block = keeps_found (by_rules (content_at s.tree path) answers.PathRefused) _ (λ file there.
      keeps_found (serial_away g s (file_block file block)) _ (λ serial away. keeps_begin_need (slot_with s.slots serial) []))

  keeps_begin_copy : Keeps (begin_copy g s)
  unfolding begin_copy
  keeps_begin_copy = keeps_found (ok_or (next_copy g s) answers.NoneLeft) _ (λ line f.
      keeps_found (drive_free g s (volume_of g.volumes (unwrap_or (segment_of (get_or s.lines line Empty)) 0))) _ (λ w drive.
      keeps_ok (answers.Job (job_for g s Copy (unwrap_or (segment_of (get_or s.lines line Empty)) 0) (serial_at g s (unwrap_or (segment_of (get_or s.lines line Empty)) 0)) line)) _
      (kept_begun (job_for g s Copy (unwrap_or (segment_of (get_or s.lines line Empty)) 0) (serial_at g s (unwrap_or (segment_of (get_or s.lines line Empty)) 0)) line) _ _ (λ places. places)
      (λ e. has_line line (unwrap_or (segment_of (get_or s.lines line Empty)) 0) refl (ok_found (next_copy g s) answers.NoneLeft line f)))))
    where
      has_line : (line t : ℕ) → unwrap_or (segment_of (get_or s.lines line Empty)) 0 ≡ t → next_copy g s ≡ Some line → get shelf (serial_at g s t) ≡ Some (before line)
      has_line line t is f =
          let passes = found_passes (λ line. is_staging (get_or s.lines line Empty) && not (job_of_line s line)) 0 (length s.lines) line f in
          let staging : get_or s.lines line Empty ≡ Staging t = staging_is (get_or s.lines line Empty) (left_true (is_staging (get_or s.lines line Empty)) _ passes.0) ∙ ap Staging is in
          let slot = staged_is (get_or s.slots t Free) line (cache.matched.staged line t (ap held_segment staging)) in
          keeps.places.cached line (serial_at g s t) (record { tseg = t; holds = ap segment_of staging; serial_is = ap serial_of slot })

  keeps_eject_line : (line : ℕ) (state : LineState) → Keeps (eject_line g s line state)
  keeps_eject_line line Empty answer new e = cc
  keeps_eject_line line (Staging u) answer new e = cc
  keeps_eject_line line (Stuck u) answer new e = cc
  keeps_eject_line line Aside answer new e = cc
  keeps_eject_line line (Clean u) answer new e = keeps_ok answers.Ejected _ (kept_same answers.Ejected _ _ refl (λ follow. follow.lines) (λ note e. cc) (λ places follow. keeps_dropped may_after after s.slots s.lines shelf places line Empty refl)) answer new e

  -- nothing of lines and slots changes
  keeps_plainly : (answer : SiteAnswer) → shelf_after shelf s.next_serial segment answer ≡ shelf → (Follow may may_after before after segment buffer s event answer → (line : ℕ) → after line ≡ before line)
      → ((note : JobNote) → answer ≡ answers.Job note → ⊥) → Kept answer s.slots s.lines
  keeps_plainly answer stays same no_job = kept_same answer s.slots s.lines stays same no_job (λ places follow. places)

  keeps_post : (t : ℕ) (keep : List ℕ) → Keeps (post g s t keep)
  unfolding post
  keeps_post t keep = keeps_ok _ _ (keeps_plainly (answers.Posted s.next_request) refl (λ follow. follow.lines) (λ note e. cc))

  keeps_next_one : Keeps (next_one g s)
  unfolding next_one
  keeps_next_one = keeps_found (ok_or (find (λ (request : Request). not request.given) s.requests) answers.NoneLeft) _ (λ request e. keeps_ok _ _ (keeps_plainly (answers.Request request.number request.tseg request.keep) refl (λ follow. follow.lines) (λ note e. cc)))

  told_settled : (how : RequestOutcome) → Kept (answers.Settled how) s.slots s.lines
  told_settled how = keeps_plainly (answers.Settled how) refl (λ follow. follow.lines) (λ note e. cc)

  keeps_settle : (number : ℕ) → Keeps (settle g s number)
  unfolding settle
  keeps_settle number = keeps_found (ok_or (find (λ (request : Request). nat_eq request.number number && (request.given && not request.settled)) s.requests) answers.NoneLeft) _ (λ request e. keeps_either (needs_no_fetch g s request.tseg) _ _
      (keeps_ok _ _ (told_settled Bound))
      (keeps_found (ok_or request.noted answers.Waiting) _ (λ how f. keeps_ok _ _ (told_settled how))))

  keeps_look : (number : ℕ) → Keeps (look g s number)
  unfolding look
  keeps_look number = keeps_found (ok_or (find (λ (request : Request). nat_eq request.number number && is_some request.outcome) s.requests) answers.Waiting) _ (λ request e. keeps_found (ok_or request.outcome answers.Waiting) _ (λ how f. keeps_ok _ _ (told_settled how)))

  keeps_clean_one : (log : LogUse) → Keeps (clean_one g s log)
  unfolding clean_one
  keeps_clean_one log = keeps_found (ok_or (least (filter (may_clean g s log) log.live)) answers.NoneLeft) _ (λ one e. keeps_ok _ _ (keeps_plainly (answers.Cleaned one) refl (λ follow. follow.lines) (λ note e. cc)))

  keeps_running : (stopped : Option ℕ) (told : Ruled) → Keeps told → Keeps (running stopped told)
  keeps_running None told keep answer new e = keep answer new e
  keeps_running (Some faults) told keep answer new e = cc

-- THE ENDS

module _ (g : Layout) (shelf : Shelf) (s : SiteState) (cache : IsCache g s) (job : Back) (back : IsBack s job) (may may_after : ℕ → List ℕ → Type 0) (before after : ℕ → List ℕ) (segment buffer : List ℕ) (jobs jobs_after : List JobOut)
    (held : AreHeld s jobs) (brings : BringsBack (EndJob job) buffer jobs) (keeps : KeepsShelf may before s.slots s.lines jobs shelf) where
  abbrev i : ℕ
  i = job.note.line

  abbrev t : ℕ
  t = job.note.tseg

  abbrev KeptEnd : SiteAnswer → List Slot → List LineState → Type 0
  KeptEnd answer slots lines = Follow may may_after before after segment buffer s (EndJob job) answer → JobsFollow answer before jobs jobs_after
      → KeepsShelf may_after after slots lines jobs_after (shelf_after shelf s.next_serial segment answer)

  abbrev KeepsEnd : Ruled → Type 0
  KeepsEnd told = Keeps g shelf s cache (EndJob job) may may_after before after segment buffer jobs jobs_after held keeps told

  end_ok : (answer : SiteAnswer) (new : SiteState) → KeptEnd answer new.slots new.lines → KeepsEnd (Ok (answer, new))
  end_ok answer new kept = keeps_ok g shelf s cache (EndJob job) may may_after before after segment buffer jobs jobs_after held keeps answer new kept

  end_same : (answer : SiteAnswer) (slots : List Slot) (lines : List LineState) → shelf_after shelf s.next_serial segment answer ≡ shelf → (Follow may may_after before after segment buffer s (EndJob job) answer → (line : ℕ) → after line ≡ before line)
      → ((note : JobNote) → answer ≡ answers.Job note → ⊥)
      → (KeepsPlaces may_after after s.slots s.lines shelf → Follow may may_after before after segment buffer s (EndJob job) answer → KeepsPlaces may_after after slots lines shelf) → KeptEnd answer slots lines
  end_same = kept_same g shelf s cache (EndJob job) may may_after before after segment buffer jobs jobs_after held keeps

  of : IsJobOf g s.slots s.lines job.note
  of = cache.jobs.each job.note back.out

  -- the job is over: a fetch's line is empty, and a copy's stays
  over_places : (kind : JobKind) → KeepsPlaces may_after after s.slots s.lines shelf → KeepsPlaces may_after after s.slots (lines_left g s kind i) shelf
  over_places Copy places = places
  over_places Fetch places = keeps_dropped may_after after s.slots s.lines shelf places i Empty refl

  noted_places : (kind : JobKind) (how : RequestOutcome) (answer : SiteAnswer) → KeptEnd answer s.slots (lines_left g s job.note.kind i) → KeptEnd answer (noted g s kind t how (over g s job)).slots (noted g s kind t how (over g s job)).lines
  noted_places Copy how answer kept = kept
  noted_places Fetch how answer kept = kept

  left_over : (answer : SiteAnswer) → shelf_after shelf s.next_serial segment answer ≡ shelf → (Follow may may_after before after segment buffer s (EndJob job) answer → (line : ℕ) → after line ≡ before line)
      → ((note : JobNote) → answer ≡ answers.Job note → ⊥) → KeptEnd answer s.slots (lines_left g s job.note.kind i)
  left_over answer stays same no_job = end_same answer _ _ stays same no_job (λ places follow. over_places job.note.kind places)

  buffer_is : (job.note.kind ≡ Copy) ⊎ ((job.carried ≡ Some Done) × (serial_of (get_or s.slots t Free) ≡ Some job.note.serial)) → get shelf job.note.serial ≡ Some buffer
  buffer_is has = keeps.buffers (record { note = job.note; carried = job.carried; buffer = buffer }) brings has

  job_in : (kind : JobKind) (line serial : ℕ) → serial_of (slot_in kind line serial) ≡ Some serial
  job_in Copy line serial = refl
  job_in Fetch line serial = refl

  its_serial : serial_of (get_or s.slots t Free) ≡ Some job.note.serial
  its_serial = ap serial_of of.slot ∙ job_in job.note.kind i job.note.serial

  module _ (copy : job.note.kind ≡ Copy) where
    staging : get_or s.lines i Empty ≡ Staging t
    staging = of.line ∙ ap (λ k. state_in k t) copy

    staged : get_or s.slots t Free ≡ Staged i job.note.serial
    staged = of.slot ∙ ap (λ k. slot_in k i job.note.serial) copy

    kept_home : KeptEnd answers.Home (set s.slots t (Home job.note.serial)) (set s.lines i (Clean t))
    kept_home = end_same answers.Home _ _ refl (λ follow. follow.lines) (λ note e. cc)
        (λ places follow. keeps_home may_after after s.slots s.lines shelf places i t job.note.serial staging staged (λ bytes h. buffer_is (inl copy) ∙ ap Some (sym (follow.copied bytes h))))

    kept_stuck : KeptEnd answers.Stuck s.slots (set s.lines i (Stuck t))
    kept_stuck = end_same answers.Stuck _ _ refl (λ follow. follow.lines) (λ note e. cc)
        (λ places follow. keeps_alike may_after after s.slots s.lines shelf places i (Stuck t) (sym (ap segment_of staging)))

    kept_moved : (u volume slot : ℕ) → get_or s.slots u Free ≡ Free → KeptEnd (answers.Moved volume slot) (set (set s.slots t Spoilt) u (Staged i job.note.serial)) (set s.lines i (Staging u))
    kept_moved u volume slot free = end_same (answers.Moved volume slot) _ _ refl (λ follow. follow.lines) (λ note e. cc)
        (λ places follow. keeps_moved may_after after s.slots s.lines shelf places s.next_serial i t u job.note.serial
        (lined g shelf s cache (EndJob job) may may_after before after segment buffer jobs jobs_after held keeps) staging staged free)

  end_moved_to : job.note.kind ≡ Copy → (full : List Bool) (o : Option ℕ) → next_free g s.slots full ≡ o → KeepsEnd (moved_to g s job full o)
  end_moved_to copy full None f = end_ok answers.Stuck _ (kept_stuck copy)
  end_moved_to copy full (Some u) f = end_ok (answers.Moved _ _) _ (kept_moved copy u _ _ (free_slot g s.slots full u f).1)

  -- a fetch that is bound has its buffer in its line
  kept_bound : job.carried ≡ Some Done → KeptEnd answers.Bound s.slots (set s.lines i (Clean t))
  kept_bound done follow jobs_follow = record {
    places = keeps_bound may_after before s.slots s.lines shelf (record { homes = λ u serial is bytes h. keeps.places.homes u serial is bytes (follow.homes u serial is bytes h); cached = keeps.places.cached })
        after i t job.note.serial follow.lines.others
        (is_there is_empty s.lines i Empty (λ e. not_empty job.note.kind (sym (ap is_empty of.line) ∙ e)))
        its_serial (buffer_is (inr (done, its_serial)) ∙ ap Some (sym follow.lines.here));
    buffers = same_buffers g shelf s cache (EndJob job) may may_after before after segment buffer jobs jobs_after held keeps answers.Bound s.slots (λ note e. cc) jobs_follow;
  }
    where
      not_empty : (kind : JobKind) → is_empty (state_in kind t) ≡ true → ⊥
      not_empty Copy e = cc
      not_empty Fetch e = cc

  end_either : (b : Bool) (one other : Ruled) → KeepsEnd one → KeepsEnd other → KeepsEnd (if b then one else other)
  end_either true one other k l = k
  end_either false one other k l = l

  end_stale : KeepsEnd (Ok (answers.Stale, over g s job))
  end_stale = end_ok answers.Stale _ (left_over answers.Stale refl (λ follow. follow.lines) (λ note e. cc))

  end_arrived : (kind : JobKind) (carried : Carried) → job.note.kind ≡ kind → job.carried ≡ Some carried → KeepsEnd (arrived g s job kind carried)
  end_arrived Copy Done e is = end_ok answers.Home _ (kept_home e)
  end_arrived Copy EndOfMedium e is = end_moved_to e (set s.full job.note.volume true) (next_free g s.slots (set s.full job.note.volume true)) refl
  end_arrived Copy (Fault faults) e is = end_stale
  end_arrived Fetch Done e is = end_either (is_same g s (kept_mark g s job) job.found) _ _
      (end_ok answers.Bound _ (kept_bound is))
      (end_ok (answers.Ebad (kept_mark g s job) job.found) _ (noted_places Fetch (Ebad t (kept_mark g s job) job.found) (answers.Ebad (kept_mark g s job) job.found) (left_over (answers.Ebad (kept_mark g s job) job.found) refl (λ follow. follow.lines) (λ note e. cc))))
  end_arrived Fetch EndOfMedium e is = end_stale
  end_arrived Fetch (Fault faults) e is = end_stale

  end_by_carried : (carried : Carried) → job.carried ≡ Some carried → KeepsEnd (end_carried g s job carried)
  end_by_carried (Fault faults) is = end_ok answers.Evol _ (noted_places job.note.kind (Evol t job.faults) answers.Evol (left_over answers.Evol refl (λ follow. follow.lines) (λ note e. cc)))
  end_by_carried Done is = end_either (is_stale g s job) _ _ end_stale (end_arrived job.note.kind Done refl is)
  end_by_carried EndOfMedium is = end_either (is_stale g s job) _ _ end_stale (end_arrived job.note.kind EndOfMedium refl is)

  end_by_running : (carried : Carried) (stopped : Option ℕ) → job.carried ≡ Some carried → KeepsEnd (end_running g s job carried stopped)
  end_by_running carried None is = end_by_carried carried is
  end_by_running carried (Some faults) is = end_ok (answers.Stopped faults) _ (left_over (answers.Stopped faults) refl (λ follow. follow.lines) (λ note e. cc))

  pub keeps_end_job : KeepsEnd (end_job g s job)
  unfolding end_job
  keeps_end_job = keeps_found g shelf s cache (EndJob job) may may_after before after segment buffer jobs jobs_after held keeps (ok_or job.carried answers.Unmoved) _
      (λ carried e. end_by_running carried s.stopped (ok_found job.carried answers.Unmoved carried e))

-- EACH EVENT

module _ (g : Layout) (shelf : Shelf) (s : SiteState) (cache : IsCache g s) (room : s.next_serial < 2 ^ 64 - 1) (may may_after : ℕ → List ℕ → Type 0) (before after : ℕ → List ℕ) (segment buffer : List ℕ) (jobs jobs_after : List JobOut)
    (held : AreHeld s jobs) (keeps : KeepsShelf may before s.slots s.lines jobs shelf) where
  abbrev On : SiteEvent → Ruled → Type 0
  On event told = Keeps g shelf s cache event may may_after before after segment buffer jobs jobs_after held keeps told

  on_running : (event : SiteEvent) (stopped : Option ℕ) (told : Ruled) → On event told → On event (running stopped told)
  on_running event = keeps_running g shelf s cache event may may_after before after segment buffer jobs jobs_after held keeps

  on_eject : (event : SiteEvent) (line : ℕ) → On event (eject g s line)
  unfolding eject
  on_eject event line = keeps_eject_line g shelf s cache event may may_after before after segment buffer jobs jobs_after held keeps line (get_or s.lines line Empty)

  on_plainly : (event : SiteEvent) (answer : SiteAnswer) → shelf_after shelf s.next_serial segment answer ≡ shelf → (Follow may may_after before after segment buffer s event answer → (line : ℕ) → after line ≡ before line)
      → ((note : JobNote) → answer ≡ answers.Job note → ⊥) → On event (Ok (answer, s))
  on_plainly event answer stays same no_job = keeps_ok g shelf s cache event may may_after before after segment buffer jobs jobs_after held keeps answer s
      (keeps_plainly g shelf s cache event may may_after before after segment buffer jobs jobs_after held keeps answer stays same no_job)

  pub keeps_shelf : (log : LogUse) (event : SiteEvent) → IsAllowed s event → BringsBack event buffer jobs → On event (rules g s log shelf event)
  keeps_shelf log (FileCall now call) allowed brings = on_running (FileCall now call) s.stopped _ (keeps_file_call g shelf s cache (FileCall now call) may may_after before after segment buffer jobs jobs_after held keeps now call)
  keeps_shelf log (Rank now count) allowed brings = on_running (Rank now count) s.stopped _ (on_plainly (Rank now count) (answers.Ranked _) refl (λ follow. follow.lines) (λ note e. cc))
  keeps_shelf log (Stage paths) allowed brings = on_running (Stage paths) s.stopped _ (keeps_stage g shelf s cache (Stage paths) may may_after before after segment buffer jobs jobs_after held keeps room paths)
  keeps_shelf log BeginCopy allowed brings = on_running BeginCopy s.stopped _ (keeps_begin_copy g shelf s cache BeginCopy may may_after before after segment buffer jobs jobs_after held keeps)
  keeps_shelf log (BeginFetch path block) allowed brings = on_running (BeginFetch path block) s.stopped _ (keeps_begin_fetch g shelf s cache (BeginFetch path block) may may_after before after segment buffer jobs jobs_after held keeps path block)
  keeps_shelf log (BeginNeed t keep) allowed brings = on_running (BeginNeed t keep) s.stopped _ (keeps_begin_need g shelf s cache (BeginNeed t keep) may may_after before after segment buffer jobs jobs_after held keeps t keep)
  keeps_shelf log (EndJob job) back brings = keeps_end_job g shelf s cache job back may may_after before after segment buffer jobs jobs_after held brings keeps
  keeps_shelf log (Eject line) allowed brings = on_running (Eject line) s.stopped _ (on_eject (Eject line) line)
  keeps_shelf log CleanOne allowed brings = on_running CleanOne s.stopped _ (keeps_clean_one g shelf s cache CleanOne may may_after before after segment buffer jobs jobs_after held keeps log)
  keeps_shelf log Checkpoint allowed brings = on_running Checkpoint s.stopped _ (on_plainly Checkpoint answers.Checkpointed refl (λ follow. follow.lines) (λ note e. cc))
  keeps_shelf log (Post t keep) allowed brings = keeps_post g shelf s cache (Post t keep) may may_after before after segment buffer jobs jobs_after held keeps t keep
  keeps_shelf log NextRequest allowed brings = keeps_next_one g shelf s cache NextRequest may may_after before after segment buffer jobs jobs_after held keeps
  keeps_shelf log (Settle number) allowed brings = keeps_settle g shelf s cache (Settle number) may may_after before after segment buffer jobs jobs_after held keeps number
  keeps_shelf log (Look number) allowed brings = on_running (Look number) s.stopped _ (keeps_look g shelf s cache (Look number) may may_after before after segment buffer jobs jobs_after held keeps number)
