-- Whole runs in plain.
use Rattle.std.proofs.Common.{arith, ◌≡◌, ℕ, ◌-◌, ◌^◌, ◌<◌, List, [], ◌∷◌, ◌⊎◌, Option, Some, None, Ok, Err, refl, ap, ◌∙◌, sym, subst, inl, inr}
use Rattle.std.specs.FinMap.{insert}
use Rattle.hl_tree.specs.declared.call.Call.{Call}
use Rattle.hl_tree.specs.Tree.{IsTree}
use Rattle.hl_tree.specs.Rules.{outcome, after}
use Rattle.hl_tree_laws.proofs.After.{IsTree-after}
use Rattle.hl_model.specs.Answers as answers
use Rattle.hl_placed.proofs.Kept.{ArePlaced-placed_after, serials-placed_after}
use Rattle.hl_placed.proofs.Staging.{ArePlaced-new_serial, ArePlaced-staged, serials-put_away}
use Rattle.hl_model.proofs.Steps.{core, Keeps, told_keeps, held_in, keeps_rules, fits_rules}
use Rattle.hl_model.proofs.Stopped.{IsCalm, IsStill, IsStopped, calm_plain, calm_reply, calm_shelf, given_up_still, stopped_calls_none, stopped_calm}
use Rattle.hl_placed.specs.Blocks.{Shelf, SerialsBelow}
use Rattle.hl_placed.specs.Placed.{PlacedTree, plain, ArePlaced, EachFile}
use Rattle.hl_placed.specs.Calls.{placed_after}
use Rattle.hl_placed.specs.Staging.{IsNewSerial, put_away}
use Rattle.hl_addr.specs.Layout.{Layout}
use Rattle.hl_model.specs.Site.{SiteState, next}
use Rattle.hl_model.specs.Events.{SiteEvent, FileCall, Stage, EndJob}
use Rattle.hl_model.specs.Answers.{SiteAnswer}
use Rattle.hl_model.specs.Ruled.{Ruled, limits_of, told_of}
use Rattle.hl_model.specs.Cleaning.{LogUse}
use Rattle.hl_model.specs.FileCalls.{file_call}
use Rattle.hl_model.specs.Stagings.{stage, chosen}
use Rattle.hl_model.specs.Rules.{rules, running}
use Rattle.hl_model.specs.Units.{Middles}
use Rattle.hl_model.proofs.Failing.{failed_gives_up}
use Rattle.hl_model.specs.Steps.{State, SiteStep, IsRuled, HasBroken, RunsOn, IsGivenUp, given_up}
use Rattle.hl_model.specs.Runs.{shelf_after, plain_after, Writes, InPlain, IsSite, Stepped, Run, plain_run, AreReplies, IsReply, StaysStopped, Takes, shelf_behind, shelf_failed}

module _ (g : Layout) (shelf : Shelf) (s : SiteState) (segment : List ℕ) (site : IsSite shelf s) (room : s.next_serial < 2 ^ 64 - 1) where
  fresh : IsNewSerial s.next_serial s.tree
  fresh path file i position there e = let less : s.next_serial < s.next_serial = site.serials path file there i s.next_serial position e in omega arith

  -- the files and the serials of a site
  abbrev Good : SiteAnswer → PlacedTree × ℕ → Type 0
  Good answer c = ArePlaced (shelf_after shelf s.next_serial segment answer) c.0 × EachFile (SerialsBelow c.1) c.0

  good_still : (answer : SiteAnswer) → Good answer (core g s s)
  good_still (answers.Staged blocks volume slot line) = (ArePlaced-new_serial shelf s.next_serial segment s.tree fresh site.files, site.serials)
  good_still answer = (site.files, site.serials)

  good_told : (told : Ruled) → Keeps g s told → Good (told_of s told).0 (core g s (told_of s told).1)
  good_told told keeps = subst (Good (told_of s told).0) (sym (told_keeps g s told keeps)) (good_still (told_of s told).0)

  rises : s.next_serial < next s.next_serial
  rises = omega arith

  good_staged : (paths : List (List (List ℕ))) (told : Ruled) → stage g s paths ≡ told → Writes g shelf s segment (Stage paths) (told_of s told).0 → Good (told_of s told).0 (core g s (told_of s told).1)
  unfolding stage
  good_staged paths (Err answer) e writes = good_still answer
  good_staged paths (Ok told) e writes =
      let holds = held_in g shelf s segment site.tree site.files fresh paths told.0 told.1 e writes in
      let tree : told.1.tree ≡ put_away s.next_serial 1 (chosen g s paths) s.tree = grind arith in
      let serial : told.1.next_serial ≡ next s.next_serial = grind arith in
      let grown : shelf_after shelf s.next_serial segment told.0 ≡ insert shelf s.next_serial segment = grind arith in (
        subst (λ sh. ArePlaced sh told.1.tree) (sym grown) (subst (ArePlaced (insert shelf s.next_serial segment)) (sym tree) (ArePlaced-staged shelf s.next_serial segment s.tree (chosen g s paths) site.files fresh holds)),
        subst (λ n. EachFile (SerialsBelow n) told.1.tree) (sym serial) (subst (EachFile (SerialsBelow (next s.next_serial))) (sym tree)
            (serials-put_away shelf (λ n. n < next s.next_serial) s.next_serial rises (chosen g s paths) 1 s.tree
            (λ path file there i other position h. let less : other < s.next_serial = site.serials path file there i other position h in let up = rises in omega arith))),
      )

  good_called : (now : ℕ) (call : Call) (told : Ruled) → file_call g s shelf now call ≡ told → Good (told_of s told).0 (core g s (told_of s told).1)
  unfolding file_call
  good_called now call (Err answer) e = good_still answer
  good_called now call (Ok told) e =
      elim (outcome (limits_of g) (plain shelf s.tree) call) as (λ o. outcome (limits_of g) (plain shelf s.tree) call ≡ o → Good told.0 (core g s told.1)) [
        | Err why ↦ λ f. let wrong : ⊥ = grind arith in absurd wrong
        | Ok done ↦ λ f.
            let tree : told.1.tree ≡ placed_after (limits_of g) shelf s.tree now call = grind arith in
            let serial : told.1.next_serial ≡ s.next_serial = grind arith in
            let says : told.0 ≡ answers.Done done.0 = grind arith in
            let same : shelf_after shelf s.next_serial segment told.0 ≡ shelf = ap (shelf_after shelf s.next_serial segment) says in (
              subst (λ sh. ArePlaced sh told.1.tree) (sym same) (subst (ArePlaced shelf) (sym tree) (ArePlaced-placed_after (limits_of g) shelf s.tree site.files site.tree now call)),
              subst (λ n. EachFile (SerialsBelow n) told.1.tree) (sym serial) (subst (EachFile (SerialsBelow s.next_serial)) (sym tree) (serials-placed_after (limits_of g) shelf s.tree site.files site.tree (λ n. n < s.next_serial) site.serials now call)),
            )
      ] refl

  good_running : (stopped : Option ℕ) (told : Ruled) → Good (told_of s told).0 (core g s (told_of s told).1) → Good (told_of s (running stopped told)).0 (core g s (told_of s (running stopped told)).1)
  good_running None told good = good
  good_running (Some faults) told good = good_still (answers.Stopped faults)

  good_staged_if : (paths : List (List (List ℕ))) (stopped : Option ℕ) → Writes g shelf s segment (Stage paths) (told_of s (running stopped (stage g s paths))).0 → Good (told_of s (running stopped (stage g s paths))).0 (core g s (told_of s (running stopped (stage g s paths))).1)
  good_staged_if paths None writes = good_staged paths (stage g s paths) refl writes
  good_staged_if paths (Some faults) writes = good_still (answers.Stopped faults)

  good_rules : (log : LogUse) (event : SiteEvent) → Writes g shelf s segment event (told_of s (rules g s log shelf event)).0 → Good (told_of s (rules g s log shelf event)).0 (core g s (told_of s (rules g s log shelf event)).1)
  good_rules log (FileCall now call) writes = good_running s.stopped (file_call g s shelf now call) (good_called now call (file_call g s shelf now call) refl)
  good_rules log (Stage paths) writes = good_staged_if paths s.stopped writes
  good_rules log event writes = good_told (rules g s log shelf event) (keeps_rules g s log shelf event refl)

  -- what a step that is told leaves is a site
  plain_is_tree : (event : SiteEvent) (answer : SiteAnswer) → IsTree (plain_after g (plain shelf s.tree) event answer)
  plain_is_tree (FileCall now call) (answers.Done said) = IsTree-after (limits_of g) (plain shelf s.tree) site.tree call
  plain_is_tree event answer = site.tree

  abbrev Next : SiteEvent → SiteAnswer × SiteState → Type 0
  Next event told = InPlain g shelf s segment event told.0 told.1 × IsSite (shelf_after shelf s.next_serial segment told.0) told.1

  next_by : (event : SiteEvent) (told : SiteAnswer × SiteState) → InPlain g shelf s segment event told.0 told.1 → Good told.0 (core g s told.1) → Next event told
  next_by event told fits good = (fits, record { tree = subst IsTree (sym fits.tree) (plain_is_tree event told.0); files = good.0; serials = good.1 })

  next_rules : (log : LogUse) (event : SiteEvent) → Writes g shelf s segment event (told_of s (rules g s log shelf event)).0 → Next event (told_of s (rules g s log shelf event))
  next_rules log event writes = next_by event (told_of s (rules g s log shelf event)) (fits_rules g shelf s segment site.tree site.files fresh log event writes) (good_rules log event writes)

  -- what a step that gives up leaves is a site with the same tree
  next_given_up : (event : SiteEvent) (answer : SiteAnswer) → (plain_after g (plain shelf s.tree) event answer ≡ plain shelf s.tree) → ((said : _) → answer ≡ answers.Done said → ⊥) → (shelf_after shelf s.next_serial segment answer ≡ shelf) → (new : SiteState) → core g s new ≡ core g s s → Next event (answer, new)
  next_given_up event answer stays other same new keeps =
      next_by event (answer, new) (record {
        tree = (λ i. plain (same i) (keeps i).0) ∙ sym stays;
        reply = λ now call said e f. absurd (other said f);
      }) (subst (Good answer) (sym keeps) (good_still answer))

  given_up_core : (event : SiteEvent) → core g s (given_up g s event) ≡ core g s s
  given_up_core (EndJob job) = refl
  given_up_core event = refl

  memory_stays : (event : SiteEvent) → plain_after g (plain shelf s.tree) event answers.Memory ≡ plain shelf s.tree
  memory_stays (FileCall now call) = refl
  memory_stays event = refl

  full_stays : (event : SiteEvent) → plain_after g (plain shelf s.tree) event answers.LogFull ≡ plain shelf s.tree
  full_stays (FileCall now call) = refl
  full_stays event = refl

  fault_stays : (event : SiteEvent) → plain_after g (plain shelf s.tree) event answers.Eio ≡ plain shelf s.tree
  fault_stays (FileCall now call) = refl
  fault_stays event = refl

module _ (g : Layout) (shelf : Shelf) (mid : Middles) (before : State) (event : SiteEvent) (after : State) (site : IsSite shelf before.site) (room : before.site.next_serial < 2 ^ 64 - 1) where
  abbrev NextTo : SiteAnswer → Type 0
  NextTo answer = Next g shelf before.site mid.segment site room event (answer, after.site)

  gives_up : (answer : SiteAnswer) → (plain_after g (plain shelf before.site.tree) event answer ≡ plain shelf before.site.tree) → ((said : _) → answer ≡ answers.Done said → ⊥) → (shelf_after shelf before.site.next_serial mid.segment answer ≡ shelf)
      → IsGivenUp g before event after → NextTo answer
  gives_up answer stays other same up = next_given_up g shelf before.site mid.segment site room event answer stays other same after.site
      (ap (core g before.site) up.left ∙ given_up_core g shelf before.site mid.segment site room event)

  pub wanting : IsGivenUp g before event after → NextTo answers.Memory
  wanting up = gives_up answers.Memory (memory_stays g shelf before.site mid.segment site room event) (λ said e. cc) refl up

  pub full : IsGivenUp g before event after → NextTo answers.LogFull
  full up = gives_up answers.LogFull (full_stays g shelf before.site mid.segment site room event) (λ said e. cc) refl up

  pub failed : IsGivenUp g before event after → NextTo answers.Eio
  failed up = gives_up answers.Eio (fault_stays g shelf before.site mid.segment site room event) (λ said e. cc) refl up

  pub by_rules : (answer : SiteAnswer) → Writes g shelf before.site mid.segment event answer → IsRuled g shelf mid before event answer after → NextTo answer
  by_rules answer writes told = subst (Next g shelf before.site mid.segment site room event) told.told
      (next_rules g shelf before.site mid.segment site room mid.first event (subst (λ (p : SiteAnswer × SiteState). Writes g shelf before.site mid.segment event p.0) (sym told.told) writes))

  -- one step in which no write failed
  pub step_in_plain : (answer : SiteAnswer) → Writes g shelf before.site mid.segment event answer → after.site.stopped ≡ None → SiteStep g shelf mid before event answer after
      → InPlain g shelf before.site mid.segment event answer after.site × IsSite (shelf_after shelf before.site.next_serial mid.segment answer) after.site
  step_in_plain answers.Memory writes runs (may, step) = wanting step
  step_in_plain answers.LogFull writes runs (finds, step) = full step
  step_in_plain answers.Eio writes runs step = failed (failed_gives_up g shelf mid before event after runs step)
  step_in_plain answer writes runs step = by_rules answer writes step

-- WHOLE RUNS

module _ (g : Layout) where
  -- a site stands over a shelf, or it is stopped
  abbrev Stands : Shelf → SiteState → Type 0
  Stands shelf s = ((s.stopped ≡ None) × IsSite shelf s) ⊎ IsStopped s

  stands : (shelf : Shelf) (s : SiteState) → IsSite shelf s → (stopped : Option ℕ) → s.stopped ≡ stopped → Stands shelf s
  stands shelf s site None e = inl (e, site)
  stands shelf s site (Some faults) e = inr (faults, e)

  pub stands_now : (shelf : Shelf) (s : SiteState) → IsSite shelf s → Stands shelf s
  stands_now shelf s site = stands shelf s site s.stopped refl

  -- what a step does, whether or not a write failed
  pub record Goes (shelf : Shelf) (before : State) (entry : Stepped) (after : State) : Type 0 where
    pub tree : plain (shelf_behind entry.event entry.answer after.site.stopped shelf before.site.next_serial entry.mid.segment) after.site.tree ≡ plain_after g (plain shelf before.site.tree) entry.event entry.answer
    pub reply : IsReply g (plain shelf before.site.tree) entry.event entry.answer
    pub stands : Stands (shelf_behind entry.event entry.answer after.site.stopped shelf before.site.next_serial entry.mid.segment) after.site

  module _ (shelf : Shelf) (mid : Middles) (before : State) (event : SiteEvent) (after : State) where
    abbrev GoesBy : SiteAnswer → Type 0
    GoesBy answer = Goes shelf before (record { event = event; answer = answer; mid = mid }) after

    -- ON A RUNNING SITE

    module _ (runs : before.site.stopped ≡ None) (site : IsSite shelf before.site) (room : before.site.next_serial < 2 ^ 64 - 1) where
      goes_next : (answer : SiteAnswer) → shelf_behind event answer after.site.stopped shelf before.site.next_serial mid.segment ≡ shelf_after shelf before.site.next_serial mid.segment answer
          → InPlain g shelf before.site mid.segment event answer after.site × IsSite (shelf_after shelf before.site.next_serial mid.segment answer) after.site → GoesBy answer
      goes_next answer same next = record {
        tree = ap (λ sh. plain sh after.site.tree) same ∙ next.0.tree;
        reply = next.0.reply;
        stands = subst (λ sh. Stands sh after.site) (sym same) (stands_now (shelf_after shelf before.site.next_serial mid.segment answer) after.site next.1);
      }

      given_up_runs : (event : SiteEvent) → (given_up g before.site event).stopped ≡ before.site.stopped
      given_up_runs (EndJob job) = refl
      given_up_runs event = refl

      goes_failed : RunsOn g before event after ⊎ HasBroken g shelf mid.segment before event after → GoesBy answers.Eio
      goes_failed (inl on) = goes_next answers.Eio
          (ap (λ o. shelf_failed event o shelf before.site.next_serial mid.segment) (ap (λ (s : SiteState). s.stopped) on.given_up.left ∙ given_up_runs event ∙ runs))
          (failed g shelf mid before event after site room on.given_up)
      goes_failed (inr broken) = record {
        tree = ap (λ o. plain (shelf_failed event o shelf before.site.next_serial mid.segment) after.site.tree) broken.stopped ∙ broken.plain ∙ sym (fault_stays g shelf before.site mid.segment site room event);
        reply = λ now call said e f. cc;
        stands = inr (after.faults, broken.stopped);
      }

      goes_running : (answer : SiteAnswer) → Writes g shelf before.site mid.segment event answer → SiteStep g shelf mid before event answer after → GoesBy answer
      goes_running answers.Memory writes (may, step) = goes_next answers.Memory refl (wanting g shelf mid before event after site room step)
      goes_running answers.LogFull writes (finds, step) = goes_next answers.LogFull refl (full g shelf mid before event after site room step)
      goes_running answers.Eio writes step = goes_failed step.leaves
      goes_running answer writes step = goes_next answer refl (by_rules g shelf mid before event after site room answer writes step)

    -- ON A STOPPED SITE

    module _ (faults : ℕ) (stopped : before.site.stopped ≡ Some faults) where
      goes_calm : (answer : SiteAnswer) → shelf_behind event answer after.site.stopped shelf before.site.next_serial mid.segment ≡ shelf → plain_after g (plain shelf before.site.tree) event answer ≡ plain shelf before.site.tree
          → IsReply g (plain shelf before.site.tree) event answer → IsStill g before.site after.site → GoesBy answer
      goes_calm answer same stays reply still = record {
        tree = ap (λ sh. plain sh after.site.tree) same ∙ ap (plain shelf) (ap (λ (c : PlacedTree × ℕ). c.0) still.core) ∙ sym stays;
        reply = reply;
        stands = inr (faults, still.stopped ∙ stopped);
      }

      goes_told : (answer : SiteAnswer) → IsRuled g shelf mid before event answer after → GoesBy answer
      goes_told answer told = let calm = subst (IsCalm g before.site) told.told (stopped_calm g before.site faults stopped mid.first shelf event) in
          goes_calm answer (calm_shelf g shelf event answer calm.says after.site.stopped before.site.next_serial mid.segment) (calm_plain g (plain shelf before.site.tree) event answer calm.says)
          (calm_reply g (plain shelf before.site.tree) event answer calm.says) calm.still

      goes_stopped : (answer : SiteAnswer) → SiteStep g shelf mid before event answer after → GoesBy answer
      goes_stopped answers.Memory (may, step) = goes_calm answers.Memory refl (calm_plain g (plain shelf before.site.tree) event answers.Memory refl) (λ now call said e f. cc) (given_up_still g before event after step)
      goes_stopped answers.LogFull (finds, step) = goes_calm answers.LogFull refl (calm_plain g (plain shelf before.site.tree) event answers.LogFull refl) (λ now call said e f. cc) (given_up_still g before event after step)
      goes_stopped answers.Eio step = absurd (stopped_calls_none g before.site event faults stopped step.may)
      goes_stopped answer step = goes_told answer step

    pub goes : (answer : SiteAnswer) → Stands shelf before.site → Takes g shelf before (record { event = event; answer = answer; mid = mid }) after → GoesBy answer
    goes answer (inl (runs, site)) takes = goes_running runs site takes.room answer takes.writes takes.step
    goes answer (inr (faults, stopped)) takes = goes_stopped faults stopped answer takes.step

  -- In a run each reply is that of plain files, and the plain tree is that which the calls leave.
  pub run_in_plain : (shelf : Shelf) (before : State) (entries : List Stepped) (last : Shelf) (after : State) → Stands shelf before.site → Run g shelf before entries last after
      → (plain last after.site.tree ≡ plain_run g (plain shelf before.site.tree) entries) × AreReplies g (plain shelf before.site.tree) entries × Stands last after.site
  run_in_plain shelf before [] last after standing run =
      ((λ i. plain (run.0 i) (run.1 i).site.tree), tt, subst (λ sh. Stands sh after.site) (sym run.0) (subst (λ (st : State). Stands shelf st.site) (sym run.1) standing))
  run_in_plain shelf before (entry ∷ entries) last after standing (mid, takes, rest) =
      let one = goes shelf entry.mid before entry.event mid entry.answer standing takes in
      let more = run_in_plain (shelf_behind entry.event entry.answer mid.site.stopped shelf before.site.next_serial entry.mid.segment) mid entries last after one.stands rest in (
        more.0 ∙ ap (λ t. plain_run g t entries) one.tree,
        (one.reply, subst (λ t. AreReplies g t entries) one.tree more.1),
        more.2,
      )

  pub running_site : (shelf : Shelf) (s : SiteState) → Stands shelf s → s.stopped ≡ None → IsSite shelf s
  running_site shelf s (inl (runs, site)) none = site
  running_site shelf s (inr (faults, stopped)) none = let wrong : Some faults ≡ None = sym stopped ∙ none in cc

  pub run_keeps_site : (shelf : Shelf) (before : State) (entries : List Stepped) (last : Shelf) (after : State) → IsSite shelf before.site → Run g shelf before entries last after → after.site.stopped ≡ None → IsSite last after.site
  run_keeps_site shelf before entries last after site run none = running_site last after.site (run_in_plain shelf before entries last after (stands_now shelf before.site site) run).2 none

  -- behind a stop neither the tree nor the shelf changes
  module _ (shelf : Shelf) (mid : Middles) (before : State) (event : SiteEvent) (after : State) (faults : ℕ) (stopped : before.site.stopped ≡ Some faults) where
    abbrev StaysBy : SiteAnswer → Type 0
    StaysBy answer = IsStill g before.site after.site × (shelf_behind event answer after.site.stopped shelf before.site.next_serial mid.segment ≡ shelf)

    stays_told : (answer : SiteAnswer) → IsRuled g shelf mid before event answer after → StaysBy answer
    stays_told answer told = let calm = subst (IsCalm g before.site) told.told (stopped_calm g before.site faults stopped mid.first shelf event) in
        (calm.still, calm_shelf g shelf event answer calm.says after.site.stopped before.site.next_serial mid.segment)

    step_stays : (answer : SiteAnswer) → SiteStep g shelf mid before event answer after → StaysBy answer
    step_stays answers.Memory (may, step) = (given_up_still g before event after step, refl)
    step_stays answers.LogFull (finds, step) = (given_up_still g before event after step, refl)
    step_stays answers.Eio step = absurd (stopped_calls_none g before.site event faults stopped step.may)
    step_stays answer step = stays_told answer step

  pub run_stays_stopped : (shelf : Shelf) (before : State) (entries : List Stepped) (last : Shelf) (after : State) (faults : ℕ) → before.site.stopped ≡ Some faults → Run g shelf before entries last after → StaysStopped faults shelf before last after
  run_stays_stopped shelf before [] last after faults stopped run = record {
    stopped = ap (λ (s : State). s.site.stopped) run.1 ∙ stopped;
    tree = ap (λ (s : State). s.site.tree) run.1;
    shelf = run.0;
  }
  run_stays_stopped shelf before (entry ∷ entries) last after faults stopped (mid, takes, rest) =
      let one = step_stays shelf entry.mid before entry.event mid faults stopped entry.answer takes.step in
      let more = run_stays_stopped (shelf_behind entry.event entry.answer mid.site.stopped shelf before.site.next_serial entry.mid.segment) mid entries last after faults (one.0.stopped ∙ stopped) rest in
      record { stopped = more.stopped; tree = more.tree ∙ ap (λ (c : PlacedTree × ℕ). c.0) one.0.core; shelf = more.shelf ∙ one.1 }
