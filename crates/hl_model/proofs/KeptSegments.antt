-- Each step keeps each away block in a segment that a slot holds.
use Rattle.std.proofs.Common.{arith, length-set, ◌≡◌, ℕ, ◌<◌, ◌⊎◌, Bool, true, false, not, List, [], get_or, set, length, Option, Some, None, Result, Ok, Err, ok_or, refl, ap, ◌∙◌, sym, subst, inl, inr, if◌then◌else◌, T}
use Rattle.std.proofs.lemmas.Bool.Decides.{nat_tests}
use Rattle.std.proofs.lemmas.List.{get_or-set_same}
use Rattle.hl_addr.specs.Layout.{Layout}
use Rattle.hl_tree.specs.Refusals.{◌>>=◌}
use Rattle.hl_tseg.specs.declared.slot.Slot.{Slot}
use Rattle.hl_tseg.specs.declared.slot.Slot.TheVariants.{Free, Staged, Home, Spoilt}
use Rattle.hl_placed.specs.Blocks.{Shelf}
use Rattle.hl_model.specs.Answers.{SiteAnswer}
use Rattle.hl_model.specs.Answers as answers
use Rattle.hl_model.specs.Begins.{begin_copy, begin_need, begin_fetch}
use Rattle.hl_model.specs.InSlots.{IsInSlot}
use Rattle.hl_model.specs.Ends.{over, is_same, kept_mark, moved_to, arrived, end_carried, end_running, end_job, eject, eject_line, noted, is_stale}
use Rattle.hl_model.specs.Events.{SiteEvent, Back, FileCall, Rank, Stage, BeginCopy, BeginFetch, BeginNeed, EndJob, Eject, CleanOne, Checkpoint, Post, NextRequest, Settle, Look}
use Rattle.hl_tseg.specs.Slots.{serial_of}
use Rattle.hl_lines.specs.Lines.{is, used}
use Rattle.hl_model.specs.Lines.{next_free}
use Rattle.hl_model.specs.Cleaning.{LogUse, clean_one}
use Rattle.hl_model.specs.Requests.{post, next_one, settle, look}
use Rattle.hl_model.specs.Rules.{rules, running}
use Rattle.hl_model.specs.Site.{SiteState, RequestOutcome, Evol, Ebad}
use Rattle.hl_model.specs.Ruled.{Ruled}
use Rattle.hl_model.proofs.CacheSteps.{free_slot}
use Rattle.hl_model.proofs.Sets.{set_either}
use Rattle.hl_model.proofs.Steps.{is_other}
use Rattle.hl_media.specs.declared.job.Carried.{Carried}
use Rattle.hl_media.specs.declared.job.JobKind.{JobKind}
use Rattle.hl_media.specs.declared.job.Carried.TheVariants.{Done, EndOfMedium, Fault}
use Rattle.hl_media.specs.declared.job.JobKind.TheVariants.{Copy, Fetch}
use Rattle.hl_lines.specs.declared.state.LineState.{LineState}
use Rattle.hl_lines.specs.declared.state.LineState.TheVariants.{Empty, Clean, Staging, Stuck, Aside}

-- each serial that the one slots hold the others hold
abbrev pub KeepSerials : List Slot → List Slot → Type 0
KeepSerials old new = (serial : ℕ) → IsInSlot old serial → IsInSlot new serial

true_is : (b : Bool) → not b ≡ false → b ≡ true
true_is true e = refl
true_is false e = sym e

is_some_of : (o : Option ℕ) (n : ℕ) → is o n ≡ true → o ≡ Some n
is_some_of None n e = let no : ⊥ = subst T (sym e) tt in absurd no
is_some_of (Some m) n e = let same : m ≡ n = grind (arith, nat_tests) in ap Some same

module _ (g : Layout) (s : SiteState) where
  abbrev Keeps : Ruled → Type 0
  Keeps told = (answer : SiteAnswer) (new : SiteState) → told ≡ Ok (answer, new) → KeepSerials s.slots new.slots

  same : (new : SiteState) → new.slots ≡ s.slots → KeepSerials s.slots new.slots
  same new e serial kept = (kept.0, ap (λ sl. serial_of (get_or sl kept.0 Free)) e ∙ kept.1)

  keeps_ok : (answer : SiteAnswer) (new : SiteState) → KeepSerials s.slots new.slots → Keeps (Ok (answer, new))
  keeps_ok answer new keep other after e = let pair : ◌≡◌ {A = SiteAnswer × SiteState} (answer, new) (other, after) = cc in subst (λ (p : SiteAnswer × SiteState). KeepSerials s.slots p.1.slots) pair keep

  keeps_same : (answer : SiteAnswer) (new : SiteState) → new.slots ≡ s.slots → Keeps (Ok (answer, new))
  keeps_same answer new e = keeps_ok answer new (same new e)

  -- THE ENDS

  module _ (job : Back) where
    abbrev t : ℕ
    t = job.note.tseg

    module _ (fresh : is_stale g s job ≡ false) where
      held : serial_of (get_or s.slots t Free) ≡ Some job.note.serial
      held = is_some_of (serial_of (get_or s.slots t Free)) job.note.serial (true_is (is (serial_of (get_or s.slots t Free)) job.note.serial) fresh)

      one_serial : (u serial : ℕ) → u ≡ t → serial_of (get_or s.slots u Free) ≡ Some serial → job.note.serial ≡ serial
      one_serial u serial e has = let both : Some job.note.serial ≡ Some serial = sym held ∙ ap (λ n. serial_of (get_or s.slots n Free)) (sym e) ∙ has in cc

      homes : KeepSerials s.slots (set s.slots t (Home job.note.serial))
      homes serial kept = elim (set_either s.slots t (Home job.note.serial) Free kept.0) as (λ _. IsInSlot (set s.slots t (Home job.note.serial)) serial) [
        | inl h ↦ (kept.0, ap serial_of h.1 ∙ ap Some (one_serial kept.0 serial h.0 kept.1))
        | inr h ↦ (kept.0, ap serial_of h ∙ kept.1)
      ]

      moves : (full : List Bool) (n : ℕ) → next_free g s.slots full ≡ Some n → KeepSerials s.slots (set (set s.slots t Spoilt) n (Staged job.note.line job.note.serial))
      moves full n f serial kept =
          let free = free_slot g s.slots full n f in
          let long = length-set s.slots t Spoilt in
          let there : n < length (set s.slots t Spoilt) = (let high = free.0 in omega arith) in
          elim (set_either (set s.slots t Spoilt) n (Staged job.note.line job.note.serial) Free kept.0) as (λ _. IsInSlot (set (set s.slots t Spoilt) n (Staged job.note.line job.note.serial)) serial) [
            | inl h ↦ let none : None ≡ Some serial = ap serial_of (sym free.1) ∙ ap (λ k. serial_of (get_or s.slots k Free)) (sym h.0) ∙ kept.1 in cc
            | inr h ↦ elim (set_either s.slots t Spoilt Free kept.0) as (λ _. IsInSlot (set (set s.slots t Spoilt) n (Staged job.note.line job.note.serial)) serial) [
              | inl k ↦ (n, ap serial_of (get_or-set_same (set s.slots t Spoilt) n (Staged job.note.line job.note.serial) Free there) ∙ ap Some (one_serial kept.0 serial k.0 kept.1))
              | inr k ↦ (kept.0, ap serial_of h ∙ ap serial_of k ∙ kept.1)
            ]
          ]

      keeps_moved_to : (full : List Bool) (o : Option ℕ) → next_free g s.slots full ≡ o → Keeps (moved_to g s job full o)
      keeps_moved_to full None f = keeps_same answers.Stuck _ refl
      keeps_moved_to full (Some n) f = keeps_ok _ _ (moves full n f)

      keeps_bound : (b : Bool) → Keeps (if b then Ok (answers.Bound, record (over g s job) { lines = set s.lines job.note.line (Clean t); order = used job.note.line s.order }) else Ok (answers.Ebad (kept_mark g s job) job.found, noted g s Fetch t (Ebad t (kept_mark g s job) job.found) (over g s job)))
      keeps_bound true = keeps_same answers.Bound _ refl
      keeps_bound false = keeps_same (answers.Ebad (kept_mark g s job) job.found) _ refl

      keeps_arrived : (kind : JobKind) (carried : Carried) → Keeps (arrived g s job kind carried)
      keeps_arrived Copy Done = keeps_ok answers.Home _ homes
      keeps_arrived Copy EndOfMedium = keeps_moved_to (set s.full job.note.volume true) (next_free g s.slots (set s.full job.note.volume true)) refl
      keeps_arrived Copy (Fault faults) = keeps_same answers.Stale _ refl
      keeps_arrived Fetch Done = keeps_bound (is_same g s (kept_mark g s job) job.found)
      keeps_arrived Fetch EndOfMedium = keeps_same answers.Stale _ refl
      keeps_arrived Fetch (Fault faults) = keeps_same answers.Stale _ refl

    noted_slots : (kind : JobKind) (u : ℕ) (how : RequestOutcome) → (noted g s kind u how (over g s job)).slots ≡ s.slots
    noted_slots Copy u how = refl
    noted_slots Fetch u how = refl

    keeps_fresh : (carried : Carried) (stale : Bool) → is_stale g s job ≡ stale → Keeps (if stale then Ok (answers.Stale, over g s job) else arrived g s job job.note.kind carried)
    keeps_fresh carried true e = keeps_same answers.Stale _ refl
    keeps_fresh carried false e = keeps_arrived e job.note.kind carried

    keeps_end_carried : (carried : Carried) → Keeps (end_carried g s job carried)
    keeps_end_carried (Fault faults) = keeps_same answers.Evol _ (noted_slots job.note.kind t (Evol t job.faults))
    keeps_end_carried Done = keeps_fresh Done (is_stale g s job) refl
    keeps_end_carried EndOfMedium = keeps_fresh EndOfMedium (is_stale g s job) refl

    keeps_end_running : (carried : Carried) (stopped : Option ℕ) → Keeps (end_running g s job carried stopped)
    keeps_end_running carried None = keeps_end_carried carried
    keeps_end_running carried (Some faults) = keeps_same (answers.Stopped faults) _ refl

    keeps_end_of : (o : Result Carried SiteAnswer) → Keeps (o >>= (λ carried. end_running g s job carried s.stopped))
    keeps_end_of (Ok carried) answer new e = keeps_end_running carried s.stopped answer new e
    keeps_end_of (Err why) answer new e = cc

    keeps_end_job : Keeps (end_job g s job)
    unfolding end_job
    keeps_end_job = keeps_end_of (ok_or job.carried answers.Unmoved)

  -- ALL OTHER EVENTS

  keeps_running : (stopped : Option ℕ) (told : Ruled) → Keeps told → Keeps (running stopped told)
  keeps_running None told keeps answer new e = keeps answer new e
  keeps_running (Some faults) told keeps answer new e = cc

  keeps_begin_need : (u : ℕ) (keep : List ℕ) → Keeps (begin_need g s u keep)
  unfolding begin_need
  keeps_begin_need u keep answer new e = same new (grind arith)

  slots_begin_need : (u : ℕ) (keep : List ℕ) (answer : SiteAnswer) (new : SiteState) → begin_need g s u keep ≡ Ok (answer, new) → new.slots ≡ s.slots
  unfolding begin_need
  slots_begin_need u keep answer new e = grind arith

  keeps_begin_fetch : (path : List (List ℕ)) (block : ℕ) → Keeps (begin_fetch g s path block)
  unfolding begin_fetch
  keeps_begin_fetch path block answer new e = same new (grind (arith, slots_begin_need))

  keeps_begin_copy : Keeps (begin_copy g s)
  unfolding begin_copy
  keeps_begin_copy answer new e = same new (grind arith)

  keeps_eject_line : (line : ℕ) (state : LineState) → Keeps (eject_line g s line state)
  keeps_eject_line line Empty answer new e = cc
  keeps_eject_line line (Staging u) answer new e = cc
  keeps_eject_line line (Stuck u) answer new e = cc
  keeps_eject_line line Aside answer new e = cc
  keeps_eject_line line (Clean u) answer new e = same new (grind arith)

  keeps_eject : (line : ℕ) → Keeps (eject g s line)
  unfolding eject
  keeps_eject line = keeps_eject_line line (get_or s.lines line Empty)

  keeps_request : (number u : ℕ) (keep : List ℕ) (answer : SiteAnswer) (new : SiteState) → (post g s u keep ≡ Ok (answer, new)) ⊎ ((next_one g s ≡ Ok (answer, new)) ⊎ ((settle g s number ≡ Ok (answer, new)) ⊎ (look g s number ≡ Ok (answer, new)))) → KeepSerials s.slots new.slots
  unfolding post next_one settle look
  keeps_request number u keep answer new (inl e) = same new (grind arith)
  keeps_request number u keep answer new (inr (inl e)) = same new (grind arith)
  keeps_request number u keep answer new (inr (inr (inl e))) = same new (grind arith)
  keeps_request number u keep answer new (inr (inr (inr e))) = same new (grind arith)

  keeps_clean_one : (log : LogUse) → Keeps (clean_one g s log)
  unfolding clean_one
  keeps_clean_one log answer new e = same new (grind arith)

  pub keeps_serials : (log : LogUse) (shelf : Shelf) (event : SiteEvent) → is_other event ≡ true → Keeps (rules g s log shelf event)
  keeps_serials log shelf (FileCall now call) other answer new e = absurd (subst T (sym other) tt)
  keeps_serials log shelf (Stage paths) other answer new e = absurd (subst T (sym other) tt)
  keeps_serials log shelf (Rank now count) other answer new e = keeps_running s.stopped _ (keeps_same _ s refl) answer new e
  keeps_serials log shelf BeginCopy other answer new e = keeps_running s.stopped _ keeps_begin_copy answer new e
  keeps_serials log shelf (BeginFetch path block) other answer new e = keeps_running s.stopped _ (keeps_begin_fetch path block) answer new e
  keeps_serials log shelf (BeginNeed u keep) other answer new e = keeps_running s.stopped _ (keeps_begin_need u keep) answer new e
  keeps_serials log shelf (EndJob job) other answer new e = keeps_end_job job answer new e
  keeps_serials log shelf (Eject line) other answer new e = keeps_running s.stopped _ (keeps_eject line) answer new e
  keeps_serials log shelf CleanOne other answer new e = keeps_running s.stopped _ (keeps_clean_one log) answer new e
  keeps_serials log shelf Checkpoint other answer new e = keeps_running s.stopped _ (keeps_same answers.Checkpointed s refl) answer new e
  keeps_serials log shelf (Post u keep) other answer new e = keeps_request 0 u keep answer new (inl e)
  keeps_serials log shelf NextRequest other answer new e = keeps_request 0 0 [] answer new (inr (inl e))
  keeps_serials log shelf (Settle number) other answer new e = keeps_request number 0 [] answer new (inr (inr (inl e)))
  keeps_serials log shelf (Look number) other answer new e = keeps_running s.stopped _ (λ answer new e. keeps_request number 0 [] answer new (inr (inr (inr e)))) answer new e
