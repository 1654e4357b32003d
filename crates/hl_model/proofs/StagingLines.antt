-- A line leaves staging by the end of a job alone.
use Rattle.std.proofs.Common.{arith, ◌≡◌, ℕ, ◌⊎◌, Bool, true, false, cond, List, [], ◌∷◌, get_or, set, Option, Some, None, Ok, refl, ap, ◌∙◌, sym, subst, T, inl, inr}
use Rattle.std.specs.List.{find, position}
use Rattle.std.proofs.lemmas.List.Quantifiers.{position-Some}
use Rattle.hl_tree.specs.declared.call.Call.{Call}
use Rattle.hl_model.proofs.Sets.{set_either}
use Rattle.hl_placed.specs.Blocks.{Shelf}
use Rattle.hl_addr.specs.Layout.{Layout}
use Rattle.hl_model.specs.Site.{SiteState}
use Rattle.hl_lines.specs.Lines.{is_empty, is_clean, is_spared, first_of, victim}
use Rattle.hl_model.specs.Lines.{next_free}
use Rattle.hl_model.specs.Cache.{AreCleanLines}
use Rattle.hl_model.specs.Events.{SiteEvent, FileCall, Rank, Stage, BeginCopy, BeginFetch, BeginNeed, EndJob, Eject, CleanOne, Checkpoint, Post, NextRequest, Settle, Look, ends_no_job}
use Rattle.hl_model.specs.Answers.{SiteAnswer}
use Rattle.hl_model.specs.Ruled.{Ruled}
use Rattle.hl_model.specs.Cleaning.{LogUse, clean_one}
use Rattle.hl_model.specs.FileCalls.{file_call}
use Rattle.hl_model.specs.Stagings.{stage}
use Rattle.hl_model.specs.Begins.{begin_copy, begin_need, begin_fetch}
use Rattle.hl_model.specs.Ends.{eject, eject_line}
use Rattle.hl_model.specs.Requests.{post, next_one, settle, look}
use Rattle.hl_model.specs.Rules.{rules, running}
use Rattle.hl_lines.specs.declared.state.LineState.{LineState}
use Rattle.hl_lines.specs.declared.state.LineState.TheVariants.{Empty, Clean, Staging, Stuck, Aside}

module _ (g : Layout) (s : SiteState) (clean : AreCleanLines s.lines s.order) (i t : ℕ) (staging : get_or s.lines i Empty ≡ Staging t) where
  found_clean : (p : ℕ → Bool) (order : List ℕ) (v : ℕ) → AreCleanLines s.lines order → find p order ≡ Some v → is_clean (get_or s.lines v Empty) ≡ true
  found_clean p [] v are e = cc
  found_clean p (line ∷ order) v are e = elim (p line) as (λ b. cond b (Some line) (find p order) ≡ Some v → is_clean (get_or s.lines v Empty) ≡ true) [
    | true ↦ λ f. let same : line ≡ v = cc in subst (λ n. is_clean (get_or s.lines n Empty) ≡ true) same are.0
    | false ↦ λ f. found_clean p order v are.1 f
  ] e

  not_clean : (v : ℕ) → is_clean (get_or s.lines v Empty) ≡ true → i ≡ v → ⊥
  not_clean v is e = subst T (sym (sym (ap (λ n. is_clean (get_or s.lines n Empty)) (sym e) ∙ ap is_clean staging) ∙ is)) tt

  not_empty : (v : ℕ) → is_empty (get_or s.lines v Empty) ≡ true → i ≡ v → ⊥
  not_empty v is e = subst T (sym (sym (ap (λ n. is_empty (get_or s.lines n Empty)) (sym e) ∙ ap is_empty staging) ∙ is)) tt

  -- the line that is taken isn't a staging one
  not_victim : (keep : List ℕ) (v : ℕ) → victim s.lines s.order keep ≡ Some v → i ≡ v → ⊥
  not_victim keep v e = elim (position is_empty s.lines) as (λ o. position is_empty s.lines ≡ o → i ≡ v → ⊥) [
    | None ↦ λ f. not_clean v (found_clean (is_spared s.lines keep) s.order v clean
        (sym (ap (λ o. first_of o (find (is_spared s.lines keep) s.order)) f) ∙ e))
    | Some w ↦ λ f. let same : Some w ≡ Some v = sym (ap (λ o. first_of o (find (is_spared s.lines keep) s.order)) f) ∙ e in
        not_empty v (position-Some is_empty s.lines v Empty (f ∙ same)).1
  ] refl

  abbrev Stays : Ruled → Type 0
  Stays told = (answer : SiteAnswer) (new : SiteState) → told ≡ Ok (answer, new) → get_or new.lines i Empty ≡ Staging t

  set_other : (v : ℕ) (state : LineState) → (i ≡ v → ⊥) → get_or (set s.lines v state) i Empty ≡ Staging t
  set_other v state other = elim (set_either s.lines v state Empty i) as (λ _. get_or (set s.lines v state) i Empty ≡ Staging t) [
    | inl h ↦ absurd (other h.0)
    | inr h ↦ h ∙ staging
  ]

  same_lines : (new : SiteState) → new.lines ≡ s.lines → get_or new.lines i Empty ≡ Staging t
  same_lines new e = ap (λ lines. get_or lines i Empty) e ∙ staging

  stays_begin_need : (u : ℕ) (keep : List ℕ) (answer : SiteAnswer) (new : SiteState) → begin_need g s u keep ≡ Ok (answer, new) → get_or new.lines i Empty ≡ Staging t
  unfolding begin_need
  stays_begin_need u keep answer new e = elim (victim s.lines s.order keep) as (λ o. victim s.lines s.order keep ≡ o → get_or new.lines i Empty ≡ Staging t) [
    | None ↦ λ f. let wrong : ⊥ = grind arith in absurd wrong
    | Some v ↦ λ f. let lines : new.lines ≡ set s.lines v Aside = grind arith in ap (λ ls. get_or ls i Empty) lines ∙ set_other v Aside (not_victim keep v f)
  ] refl

  stays_stage : (paths : List (List (List ℕ))) (answer : SiteAnswer) (new : SiteState) → stage g s paths ≡ Ok (answer, new) → get_or new.lines i Empty ≡ Staging t
  unfolding stage
  stays_stage paths answer new e = elim (victim s.lines s.order []) as (λ o. victim s.lines s.order [] ≡ o → get_or new.lines i Empty ≡ Staging t) [
    | None ↦ λ f. let wrong : ⊥ = grind arith in absurd wrong
    | Some v ↦ λ f. elim (next_free g s.slots s.full) as (λ o. next_free g s.slots s.full ≡ o → get_or new.lines i Empty ≡ Staging t) [
      | None ↦ λ h. let wrong : ⊥ = grind arith in absurd wrong
      | Some u ↦ λ h. let lines : new.lines ≡ set s.lines v (Staging u) = grind arith in ap (λ ls. get_or ls i Empty) lines ∙ set_other v (Staging u) (not_victim [] v f)
    ] refl
  ] refl

  stays_eject_line : (line : ℕ) (state : LineState) → get_or s.lines line Empty ≡ state → (answer : SiteAnswer) (new : SiteState) → eject_line g s line state ≡ Ok (answer, new) → get_or new.lines i Empty ≡ Staging t
  stays_eject_line line Empty is answer new e = cc
  stays_eject_line line (Staging u) is answer new e = cc
  stays_eject_line line (Stuck u) is answer new e = cc
  stays_eject_line line Aside is answer new e = cc
  stays_eject_line line (Clean u) is answer new e = let lines : new.lines ≡ set s.lines line Empty = grind arith in ap (λ ls. get_or ls i Empty) lines ∙ set_other line Empty (not_clean line (ap is_clean is))

  stays_begin_fetch : (path : List (List ℕ)) (block : ℕ) (answer : SiteAnswer) (new : SiteState) → begin_fetch g s path block ≡ Ok (answer, new) → get_or new.lines i Empty ≡ Staging t
  unfolding begin_fetch
  stays_begin_fetch path block answer new e = grind (arith, stays_begin_need)

  stays_running : (stopped : Option ℕ) (told : Ruled) → Stays told → (answer : SiteAnswer) (new : SiteState) → running stopped told ≡ Ok (answer, new) → get_or new.lines i Empty ≡ Staging t
  stays_running None told stays answer new e = stays answer new e
  stays_running (Some faults) told stays answer new e = cc

  stays_file_call : (shelf : Shelf) (now : ℕ) (call : Call) (answer : SiteAnswer) (new : SiteState) → file_call g s shelf now call ≡ Ok (answer, new) → get_or new.lines i Empty ≡ Staging t
  unfolding file_call
  stays_file_call shelf now call answer new e = same_lines new (grind arith)

  stays_begin_copy : (answer : SiteAnswer) (new : SiteState) → begin_copy g s ≡ Ok (answer, new) → get_or new.lines i Empty ≡ Staging t
  unfolding begin_copy
  stays_begin_copy answer new e = same_lines new (grind arith)

  stays_eject : (line : ℕ) (answer : SiteAnswer) (new : SiteState) → eject g s line ≡ Ok (answer, new) → get_or new.lines i Empty ≡ Staging t
  unfolding eject
  stays_eject line = stays_eject_line line (get_or s.lines line Empty) refl

  stays_clean_one : (log : LogUse) (answer : SiteAnswer) (new : SiteState) → clean_one g s log ≡ Ok (answer, new) → get_or new.lines i Empty ≡ Staging t
  unfolding clean_one
  stays_clean_one log answer new e = same_lines new (grind arith)

  stays_request : (number u : ℕ) (keep : List ℕ) (answer : SiteAnswer) (new : SiteState) → (post g s u keep ≡ Ok (answer, new)) ⊎ ((next_one g s ≡ Ok (answer, new)) ⊎ ((settle g s number ≡ Ok (answer, new)) ⊎ (look g s number ≡ Ok (answer, new)))) → get_or new.lines i Empty ≡ Staging t
  unfolding post next_one settle look
  stays_request number u keep answer new (inl e) = same_lines new (grind arith)
  stays_request number u keep answer new (inr (inl e)) = same_lines new (grind arith)
  stays_request number u keep answer new (inr (inr (inl e))) = same_lines new (grind arith)
  stays_request number u keep answer new (inr (inr (inr e))) = same_lines new (grind arith)

  stays_itself : (why : SiteAnswer) → Stays (Ok (why, s))
  stays_itself why answer new e = same_lines new (grind arith)

  -- no event but the end of a job takes a line out of staging
  pub staging_stays : (log : LogUse) (shelf : Shelf) (event : SiteEvent) → ends_no_job event ≡ true → (answer : SiteAnswer) (new : SiteState) → rules g s log shelf event ≡ Ok (answer, new) → get_or new.lines i Empty ≡ Staging t
  staging_stays log shelf (EndJob job) other answer new e = absurd (subst T (sym other) tt)
  staging_stays log shelf (FileCall now call) other answer new e = stays_running s.stopped (file_call g s shelf now call) (stays_file_call shelf now call) answer new e
  staging_stays log shelf (Rank now count) other answer new e = stays_running s.stopped _ (stays_itself _) answer new e
  staging_stays log shelf (Stage paths) other answer new e = stays_running s.stopped (stage g s paths) (stays_stage paths) answer new e
  staging_stays log shelf BeginCopy other answer new e = stays_running s.stopped (begin_copy g s) stays_begin_copy answer new e
  staging_stays log shelf (BeginFetch path block) other answer new e = stays_running s.stopped (begin_fetch g s path block) (stays_begin_fetch path block) answer new e
  staging_stays log shelf (BeginNeed u keep) other answer new e = stays_running s.stopped (begin_need g s u keep) (stays_begin_need u keep) answer new e
  staging_stays log shelf (Eject line) other answer new e = stays_running s.stopped (eject g s line) (stays_eject line) answer new e
  staging_stays log shelf CleanOne other answer new e = stays_running s.stopped (clean_one g s log) (stays_clean_one log) answer new e
  staging_stays log shelf Checkpoint other answer new e = stays_running s.stopped _ (stays_itself _) answer new e
  staging_stays log shelf (Post u keep) other answer new e = stays_request 0 u keep answer new (inl e)
  staging_stays log shelf NextRequest other answer new e = stays_request 0 0 [] answer new (inr (inl e))
  staging_stays log shelf (Settle number) other answer new e = stays_request number 0 [] answer new (inr (inr (inl e)))
  staging_stays log shelf (Look number) other answer new e = stays_running s.stopped (look g s number) (λ a n h. stays_request number 0 [] a n (inr (inr (inr h)))) answer new e
