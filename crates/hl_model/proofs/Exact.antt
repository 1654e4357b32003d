-- What follows for answers: a fetch finds a line, no job is stale, a segment has one line; and the site that a mount gives.
use Rattle.std.proofs.Common.{arith, ◌≡◌, ℕ, ◌+◌, ◌<◌, ◌≤◌, nat_le, ◌⊎◌, Bool, true, false, not, nat_eq, List, get_or, length, Option, Some, None, Result, Ok, Err, ok_or, refl, ap, ◌∙◌, sym, subst, inl, inr, if◌then◌else◌}
use Rattle.std.proofs.lemmas.Bool.Decides.{nat_tests}
use Rattle.std.proofs.lemmas.Bool.{cases_lt}
use Rattle.std.proofs.lemmas.List.{get_or_past}
use Rattle.std.proofs.lemmas.List.FromFn.{length-map-range_with_len, get_or-map-range_with_len}
use Rattle.std.specs.List.{find}
use Rattle.hl_addr.specs.Layout.{Layout, IsLineCount}
use Rattle.hl_addr.specs.Slots.{volume_of}
use Rattle.hl_tree.specs.Refusals.{◌>>=◌, refused_if}
use Rattle.hl_tseg.specs.Slots.{serial_of}
use Rattle.hl_tseg.specs.declared.slot.Slot.{Slot}
use Rattle.hl_tseg.specs.declared.slot.Slot.TheVariants.{Free, Staged, Home, Spoilt}
use Rattle.hl_placed.specs.Placed.{PlacedTree}
use Rattle.hl_model.specs.Allowed.{IsBack}
use Rattle.hl_model.specs.Answers.{SiteAnswer}
use Rattle.hl_model.specs.Answers as answers
use Rattle.hl_model.specs.Begins.{begin_need, drive_free, needs_no_fetch, volume_there}
use Rattle.hl_model.specs.Cache.{IsCache, slot_in}
use Rattle.hl_model.specs.Ends.{arrived, end_carried, end_running, end_job, is_same, is_stale, kept_mark, moved_to, over}
use Rattle.hl_model.specs.Events.{Back}
use Rattle.hl_media.specs.declared.job.JobNote.{JobNote}
use Rattle.hl_media.specs.declared.job.JobKind.{JobKind}
use Rattle.hl_media.specs.declared.job.Carried.{Carried}
use Rattle.hl_media.specs.declared.job.Carried.TheVariants.{Done, EndOfMedium, Fault}
use Rattle.hl_media.specs.declared.job.JobKind.TheVariants.{Copy, Fetch}
use Rattle.hl_lines.specs.declared.state.LineState.{LineState}
use Rattle.hl_lines.specs.declared.state.LineState.TheVariants.{Empty, Clean, Staging, Stuck, Aside}
use Rattle.hl_lines.specs.Lines.{clean_segment, held_segment, is, is_aside, is_clean, segment_of, victim}
use Rattle.hl_model.specs.Lines.{is_home, staged_line}
use Rattle.hl_model.specs.Mounted.{AreOpeningTables, OpeningTables, line_of_slot, mounted, opening_lines}
use Rattle.hl_model.specs.Ruled.{Ruled, told_of}
use Rattle.hl_model.specs.Site.{SiteState}
use Rattle.hl_model.proofs.Sets.{is_there, true_false}
use Rattle.hl_model.proofs.StagedAt.{at_staged, found_at, slot_of_line}
use Rattle.hl_model.proofs.Victims.{victim_there}

module _ (g : Layout) (s : SiteState) (cache : IsCache g s) where
  -- ONE LINE A SEGMENT

  either_segment : (line : LineState) (t : ℕ) → segment_of line ≡ Some t → (held_segment line ≡ Some t) ⊎ (clean_segment line ≡ Some t)
  either_segment Empty t e = cc
  either_segment (Clean u) t e = inr e
  either_segment (Staging u) t e = inl e
  either_segment (Stuck u) t e = inl e
  either_segment Aside t e = cc

  home_not_staged : (slot : Slot) (line : ℕ) → staged_line slot ≡ Some line → is_home slot ≡ true → ⊥
  home_not_staged Free line e f = cc
  home_not_staged (Staged n serial) line e f = cc
  home_not_staged (Home serial) line e f = cc
  home_not_staged Spoilt line e f = cc

  pub one_line_of : (line other t : ℕ) → segment_of (get_or s.lines line Empty) ≡ Some t → segment_of (get_or s.lines other Empty) ≡ Some t → line ≡ other
  one_line_of line other t e f = elim (either_segment (get_or s.lines line Empty) t e) as (λ _. line ≡ other) [
    | inl held ↦ elim (either_segment (get_or s.lines other Empty) t f) as (λ _. line ≡ other) [
      | inl same ↦ let one = cache.matched.staged line t held in let two = cache.matched.staged other t same in let both : Some line ≡ Some other = sym one ∙ two in cc
      | inr clean ↦ absurd (home_not_staged (get_or s.slots t Free) line (cache.matched.staged line t held) (cache.matched.homes other t clean))
    ]
    | inr clean ↦ elim (either_segment (get_or s.lines other Empty) t f) as (λ _. line ≡ other) [
      | inl held ↦ absurd (home_not_staged (get_or s.slots t Free) other (cache.matched.staged other t held) (cache.matched.homes line t clean))
      | inr same ↦ cache.matched.one_line line other t clean same
    ]
  ]

  -- A FETCH FINDS A LINE

  not_no_line : {A : Type 0} (o : Result A SiteAnswer) (f : A → Ruled) → (o ≡ Err answers.NoLine → ⊥) → ((a : A) → f a ≡ Err answers.NoLine → ⊥) → (o >>= f) ≡ Err answers.NoLine → ⊥
  not_no_line (Ok a) f no_first no_rest e = no_rest a e
  not_no_line (Err why) f no_first no_rest e = let same : why ≡ answers.NoLine = cc in no_first (ap Err same)

  drive_says : (volume : ℕ) → drive_free g s volume ≡ Err answers.NoLine → ⊥
  drive_says volume e = by_find (find (λ (job : JobNote). nat_eq job.volume volume) s.jobs) e
    where
      refused : (b : Bool) → refused_if b answers.Drives ≡ Err answers.NoLine → ⊥
      refused true e = cc
      refused false e = cc

      by_find : (o : Option JobNote) → (volume_there g s volume o >>= (λ _. refused_if (nat_le 2 (length s.jobs)) answers.Drives)) ≡ Err answers.NoLine → ⊥
      by_find None h = refused (nat_le 2 (length s.jobs)) h
      by_find (Some job) h = cc

  pub fetch_finds_line : IsLineCount g.lines → (t : ℕ) (keep : List ℕ) → length keep ≤ 8 → begin_need g s t keep ≡ Err answers.NoLine → ⊥
  unfolding begin_need
  fetch_finds_line many t keep few = not_no_line (refused_if (needs_no_fetch g s t) answers.Here) _ (here (needs_no_fetch g s t)) (λ _.
      not_no_line (drive_free g s (volume_of g.volumes t)) _ (drive_says (volume_of g.volumes t)) (λ _.
      not_no_line (ok_or (victim s.lines s.order keep) answers.NoLine) _ (by_victim (victim s.lines s.order keep) refl) (λ v e. let wrong : ⊥ = cc in wrong)))
    where
      here : (b : Bool) → refused_if b answers.Here ≡ Err answers.NoLine → ⊥
      here true e = cc
      here false e = cc

      by_victim : (o : Option ℕ) → victim s.lines s.order keep ≡ o → ok_or o answers.NoLine ≡ Err answers.NoLine → ⊥
      by_victim None f e = victim_there g s cache many.0 keep few f
      by_victim (Some v) f e = cc

  -- NO JOB IS STALE

  module _ (job : Back) (back : IsBack s job) where
    serial_in : (kind : JobKind) (line serial : ℕ) → serial_of (slot_in kind line serial) ≡ Some serial
    serial_in Copy line serial = refl
    serial_in Fetch line serial = refl

    pub fresh_job : is_stale g s job ≡ false
    fresh_job =
        let has = ap serial_of (cache.jobs.each job.note back.out).slot ∙ serial_in job.note.kind job.note.line job.note.serial in
        let holds : is (serial_of (get_or s.slots job.note.tseg Free)) job.note.serial ≡ true = ap (λ o. is o job.note.serial) has ∙ (let same : nat_eq job.note.serial job.note.serial ≡ true = grind (arith, nat_tests) in same) in
        ap not holds

    NotStale : Ruled → Type 0
    NotStale told = (told_of s told).0 ≡ answers.Stale → ⊥

    moved_says : (full : List Bool) (o : Option ℕ) → (told_of s (moved_to g s job full o)).0 ≡ answers.Stale → ⊥
    moved_says full None e = cc
    moved_says full (Some n) e = cc

    bound_says : (b : Bool) (one other : SiteState) (kept found : _) → (told_of s (if b then Ok (answers.Bound, one) else Ok (answers.Ebad kept found, other))).0 ≡ answers.Stale → ⊥
    bound_says true one other kept found e = cc
    bound_says false one other kept found e = cc

    medium_says : (kind : JobKind) → kind ≡ Copy → (told_of s (arrived g s job kind EndOfMedium)).0 ≡ answers.Stale → ⊥
    medium_says Copy f e = moved_says _ _ e
    medium_says Fetch f e = cc

    done_says : (kind : JobKind) → (told_of s (arrived g s job kind Done)).0 ≡ answers.Stale → ⊥
    done_says Copy e = cc
    done_says Fetch e = bound_says (is_same g s (kept_mark g s job) job.found) _ _ _ _ e

    carried_says : (carried : Carried) → job.carried ≡ Some carried → (told_of s (end_carried g s job carried)).0 ≡ answers.Stale → ⊥
    carried_says (Fault faults) is e = cc
    carried_says Done is e = done_says job.note.kind (subst (λ b. (told_of s (if b then Ok (answers.Stale, over g s job) else arrived g s job job.note.kind Done)).0 ≡ answers.Stale) fresh_job e)
    carried_says EndOfMedium is e = medium_says job.note.kind (back.medium is) (subst (λ b. (told_of s (if b then Ok (answers.Stale, over g s job) else arrived g s job job.note.kind EndOfMedium)).0 ≡ answers.Stale) fresh_job e)

    running_says : (carried : Carried) (stopped : Option ℕ) → job.carried ≡ Some carried → (told_of s (end_running g s job carried stopped)).0 ≡ answers.Stale → ⊥
    running_says carried None is e = carried_says carried is e
    running_says carried (Some faults) is e = cc

    by_carried : (o : Option Carried) → job.carried ≡ o → (told_of s (ok_or o answers.Unmoved >>= (λ carried. end_running g s job carried s.stopped))).0 ≡ answers.Stale → ⊥
    by_carried None is e = cc
    by_carried (Some carried) is e = running_says carried s.stopped is e

    pub job_not_stale : (told_of s (end_job g s job)).0 ≡ answers.Stale → ⊥
    unfolding end_job
    job_not_stale = by_carried job.carried refl

-- THE SITE THAT A MOUNT GIVES

module _ (g : Layout) (tree : PlacedTree) (tables : OpeningTables) (counts : List ℕ) (are : AreOpeningTables g tables) (long : length counts ≡ length g.volumes) where
  abbrev at : ℕ → Option ℕ
  at line = slot_of_line tables.slots line

  abbrev lines : List LineState
  lines = opening_lines g tables.slots

  line_is : (line : ℕ) → line < g.lines → get_or lines line Empty ≡ line_of_slot (at line)
  line_is line low = get_or-map-range_with_len (λ line. line_of_slot (at line)) 0 g.lines line line Empty low (let same : 0 + line ≡ line = omega arith in same)

  there_of : (line t : ℕ) (f : LineState → Option ℕ) → f Empty ≡ None → f (get_or lines line Empty) ≡ Some t → line < g.lines
  there_of line t f none e = subst (λ n. line < n) (length-map-range_with_len (λ line. line_of_slot (at line)) 0 g.lines) (is_there f lines line Empty (λ same. let wrong : None ≡ Some t = sym none ∙ sym same ∙ e in cc))

  no_clean : (o : Option ℕ) → clean_segment (line_of_slot o) ≡ None
  no_clean None = refl
  no_clean (Some t) = refl

  held_is : (o : Option ℕ) → held_segment (line_of_slot o) ≡ o
  held_is None = refl
  held_is (Some t) = refl

  never_clean : (line t : ℕ) → clean_segment (get_or lines line Empty) ≡ Some t → ⊥
  never_clean line t e =
      let low = there_of line t clean_segment refl e in
      let wrong : None ≡ Some t = sym (no_clean (at line)) ∙ sym (ap clean_segment (line_is line low)) ∙ e in cc

  no_aside : (o : Option ℕ) → is_aside (line_of_slot o) ≡ false
  no_aside None = refl
  no_aside (Some t) = refl

  none_clean : (o : Option ℕ) → is_clean (line_of_slot o) ≡ false
  none_clean None = refl
  none_clean (Some t) = refl

  -- a test that no opening line passes
  never : (p : LineState → Bool) → ((o : Option ℕ) → p (line_of_slot o) ≡ false) → (line : ℕ) → p (get_or lines line Empty) ≡ false
  never p fails line = elim (cases_lt line g.lines) as (λ _. p (get_or lines line Empty) ≡ false) [
    | inl low ↦ ap p (line_is line low) ∙ fails (at line)
    | inr high ↦ ap p (get_or_past lines line Empty (let size = length-map-range_with_len (λ line. line_of_slot (at line)) 0 g.lines in omega arith)) ∙ fails None
  ]

  pub mounted_cache : IsCache g (mounted g tree tables counts)
  unfolding mounted
  mounted_cache = record {
    sizes = record { lines = length-map-range_with_len (λ line. line_of_slot (at line)) 0 g.lines; slots = are.slots; full = are.full; counts = long };
    order = record { clean = tt; all = λ line e. true_false (is_clean (get_or lines line Empty)) e (never is_clean none_clean line); once = tt };
    matched = record {
      staged = λ line t e. at_staged tables.slots line t (sym (held_is (at line)) ∙ sym (ap held_segment (line_is line (there_of line t held_segment refl e))) ∙ e);
      staging = λ line t e. ap held_segment (line_is line (are.there t line e)) ∙ held_is (at line) ∙ found_at tables.slots are.one_line line t e;
      homes = λ line t e. absurd (never_clean line t e);
      one_line = λ line other t e f. absurd (never_clean line t e);
      one_slot = are.one_slot;
      below = are.below;
    };
    held = are.few;
    jobs = record {
      each = λ job out. absurd out;
      aside = λ line e. true_false (is_aside (get_or lines line Empty)) e (never is_aside no_aside line);
      apart = tt;
      two = omega arith;
    };
  }
