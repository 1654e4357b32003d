-- A step in which no write failed keeps each away block in a segment that a slot holds.
use Rattle.std.proofs.Common.{arith, ◌≡◌, ℕ, true, ◌<◌, List, [], get_or, set, length, Option, Some, None, Ok, Err, refl, ap, ◌∙◌, sym, subst, inl, inr}
use Rattle.std.proofs.lemmas.List.{get_or-set_same}
use Rattle.hl_addr.specs.Layout.{Layout}
use Rattle.hl_tree.specs.declared.call.Call.{Call}
use Rattle.hl_tseg.specs.declared.slot.Slot.{Slot}
use Rattle.hl_tseg.specs.declared.slot.Slot.TheVariants.{Free, Staged}
use Rattle.hl_placed.specs.Blocks.{Shelf, SerialsAre}
use Rattle.hl_placed.specs.Calls.{placed_after}
use Rattle.hl_placed.specs.Placed.{PlacedTree, EachFile}
use Rattle.hl_placed.specs.Staging.{put_away}
use Rattle.hl_placed.proofs.Kept.{serials-placed_after}
use Rattle.hl_placed.proofs.Staging.{serials-put_away}
use Rattle.hl_model.specs.Answers.{SiteAnswer}
use Rattle.hl_model.specs.Answers as answers
use Rattle.hl_model.specs.InSlots.{IsInSlot, AreInSlots}
use Rattle.hl_model.specs.Events.{SiteEvent, FileCall, Stage, EndJob}
use Rattle.hl_model.specs.FileCalls.{file_call}
use Rattle.hl_tseg.specs.Slots.{serial_of}
use Rattle.hl_lines.specs.Lines.{victim}
use Rattle.hl_model.specs.Lines.{next_free}
use Rattle.hl_model.specs.Cleaning.{LogUse}
use Rattle.hl_model.specs.Rules.{rules, running}
use Rattle.hl_model.specs.Runs.{IsSite}
use Rattle.hl_model.specs.Site.{SiteState}
use Rattle.hl_model.specs.Stagings.{stage, chosen}
use Rattle.hl_model.specs.Units.{Middles}
use Rattle.hl_model.proofs.Failing.{failed_gives_up}
use Rattle.hl_model.specs.Steps.{State, SiteStep, IsRuled, IsGivenUp, given_up}
use Rattle.hl_model.specs.Ruled.{Ruled, limits_of, told_of}
use Rattle.hl_model.proofs.CacheSteps.{free_slot}
use Rattle.hl_model.proofs.KeptSegments.{KeepSerials, keeps_serials}
use Rattle.hl_model.proofs.Sets.{set_either}
use Rattle.hl_model.proofs.Steps.{is_other, keeps_rules}

each_kept : (old new : List Slot) (tree : PlacedTree) → KeepSerials old new → EachFile (SerialsAre (IsInSlot old)) tree → EachFile (SerialsAre (IsInSlot new)) tree
each_kept old new tree keep are path file there i serial position e = keep serial (are path file there i serial position e)

module _ (g : Layout) (shelf : Shelf) (s : SiteState) (site : IsSite shelf s) (kept : AreInSlots s) where
  abbrev pub Keeps : Ruled → Type 0
  Keeps told = (answer : SiteAnswer) (new : SiteState) → told ≡ Ok (answer, new) → AreInSlots new

  by_tree : (new : SiteState) (tree : PlacedTree) → new.tree ≡ tree → EachFile (SerialsAre (IsInSlot new.slots)) tree → AreInSlots new
  by_tree new tree e are = subst (EachFile (SerialsAre (IsInSlot new.slots))) (sym e) are

  keeps_running : (stopped : Option ℕ) (told : Ruled) → Keeps told → Keeps (running stopped told)
  keeps_running None told keeps answer new e = keeps answer new e
  keeps_running (Some faults) told keeps answer new e = cc

  keeps_file_call : (now : ℕ) (call : Call) → Keeps (file_call g s shelf now call)
  unfolding file_call
  keeps_file_call now call answer new e =
      let tree : new.tree ≡ placed_after (limits_of g) shelf s.tree now call = grind arith in
      let slots : new.slots ≡ s.slots = grind arith in
      by_tree new _ tree (subst (λ sl. EachFile (SerialsAre (IsInSlot sl)) (placed_after (limits_of g) shelf s.tree now call)) (sym slots)
      (serials-placed_after (limits_of g) shelf s.tree site.files site.tree (IsInSlot s.slots) kept now call))

  staged : (t v : ℕ) → (t < length s.slots) × (get_or s.slots t Free ≡ Free) → KeepSerials s.slots (set s.slots t (Staged v s.next_serial))
  staged t v free serial was = elim (set_either s.slots t (Staged v s.next_serial) Free was.0) as (λ _. IsInSlot (set s.slots t (Staged v s.next_serial)) serial) [
    | inl h ↦ let none : None ≡ Some serial = ap serial_of (sym free.1) ∙ ap (λ k. serial_of (get_or s.slots k Free)) (sym h.0) ∙ was.1 in cc
    | inr h ↦ (was.0, ap serial_of h ∙ was.1)
  ]

  keeps_stage : (paths : List (List (List ℕ))) → Keeps (stage g s paths)
  unfolding stage
  keeps_stage paths answer new e = elim (victim s.lines s.order []) as (λ o. victim s.lines s.order [] ≡ o → AreInSlots new) [
    | None ↦ λ f. let wrong : ⊥ = grind arith in absurd wrong
    | Some v ↦ λ f. elim (next_free g s.slots s.full) as (λ o. next_free g s.slots s.full ≡ o → AreInSlots new) [
      | None ↦ λ h. let wrong : ⊥ = grind arith in absurd wrong
      | Some t ↦ λ h.
          let slots : new.slots ≡ set s.slots t (Staged v s.next_serial) = grind arith in
          let tree : new.tree ≡ put_away s.next_serial 1 (chosen g s paths) s.tree = grind arith in
          let free = free_slot g s.slots s.full t h in
          let here : IsInSlot new.slots s.next_serial = (t, ap (λ sl. serial_of (get_or sl t Free)) slots ∙ ap serial_of (get_or-set_same s.slots t (Staged v s.next_serial) Free free.0)) in
          by_tree new _ tree (serials-put_away shelf (IsInSlot new.slots) s.next_serial here (chosen g s paths) 1 s.tree
          (each_kept s.slots new.slots s.tree (subst (KeepSerials s.slots) (sym slots) (staged t v free)) kept))
    ] refl
  ] refl

  keeps_others : (log : LogUse) (event : SiteEvent) → is_other event ≡ true → Keeps (rules g s log shelf event)
  keeps_others log event other answer new e =
      by_tree new s.tree (ap (λ (c : PlacedTree × ℕ). c.0) (keeps_rules g s log shelf event other answer new e))
      (each_kept s.slots new.slots s.tree (keeps_serials g s log shelf event other answer new e) kept)

  pub keeps : (log : LogUse) (event : SiteEvent) → Keeps (rules g s log shelf event)
  keeps log (FileCall now call) = keeps_running s.stopped _ (keeps_file_call now call)
  keeps log (Stage paths) = keeps_running s.stopped _ (keeps_stage paths)
  keeps log event = keeps_others log event refl

module _ (g : Layout) (shelf : Shelf) (mid : Middles) (before : State) (event : SiteEvent) (after : State) (site : IsSite shelf before.site) (kept : AreInSlots before.site) (runs : after.site.stopped ≡ None) where
  by_told : (answer : SiteAnswer) (told : Ruled) → Keeps g shelf before.site site kept told → told_of before.site told ≡ (answer, after.site) → AreInSlots after.site
  by_told answer (Ok told) keeping e = keeping answer after.site (ap Ok e)
  by_told answer (Err why) keeping e = subst (λ (p : SiteAnswer × SiteState). AreInSlots p.1) e kept

  by_rules : (answer : SiteAnswer) → IsRuled g shelf mid before event answer after → AreInSlots after.site
  by_rules answer told = by_told answer (rules g before.site mid.first shelf event) (keeps g shelf before.site site kept mid.first event) told.told

  left_by : (event : SiteEvent) → AreInSlots (given_up g before.site event)
  left_by (EndJob job) = kept
  left_by event = kept

  gives_up : IsGivenUp g before event after → AreInSlots after.site
  gives_up up = subst AreInSlots (sym up.left) (left_by event)

  pub step_keeps_serials : (answer : SiteAnswer) → SiteStep g shelf mid before event answer after → AreInSlots after.site
  step_keeps_serials answers.Memory (may, step) = gives_up step
  step_keeps_serials answers.LogFull (full, step) = gives_up step
  step_keeps_serials answers.Eio step = gives_up (failed_gives_up g shelf mid before event after runs step)
  step_keeps_serials answer step = by_rules answer step
