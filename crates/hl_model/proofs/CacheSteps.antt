-- Each event keeps what holds of lines, slots and jobs.
use Rattle.std.proofs.Common.{arith, ◌≡◌, ◌≢◌, ℕ, zero, suc, ◌+◌, ◌-◌, ◌^◌, cond, unwrap_or, ◌<◌, ◌≤◌, nat_le, ◌⊎◌, Bool, true, false, ◌&&◌, ◌||◌, not, nat_eq, List, [], ◌∷◌, ◌++◌, get_or, set, length, length-set, Option, Some, None, Result, Ok, Err, ok_or, is_some, is_none, refl, ap, ◌∙◌, sym, subst, inl, inr, if◌then◌else◌}
use Rattle.std.proofs.lemmas.Bool.Decides.{nat_tests}
use Rattle.std.proofs.lemmas.List.{get_or_default}
use Rattle.std.specs.List.{find, position, range_with_len}
use Rattle.hl_addr.specs.Layout.{Layout}
use Rattle.hl_addr.specs.Slots.{volume_of}
use Rattle.hl_tree.specs.declared.call.Call.{Call}
use Rattle.hl_tree.specs.Refusals.{◌>>=◌, refused_if}
use Rattle.hl_tree.specs.Tree.{content_at}
use Rattle.hl_tseg.specs.Slots.{is_free, serial_of}
use Rattle.hl_tseg.specs.declared.slot.Slot.{Slot}
use Rattle.hl_tseg.specs.declared.slot.Slot.TheVariants.{Free, Staged, Home, Spoilt}
use Rattle.hl_placed.specs.Blocks.{Shelf, file_block}
use Rattle.hl_placed.specs.Calls.{need}
use Rattle.hl_placed.specs.Placed.{plain}
use Rattle.hl_placed.specs.Staging.{resident}
use Rattle.hl_placed.specs.Charges.{is_over}
use Rattle.hl_tree.specs.declared.call.Reply.TheVariants as replies
use Rattle.hl_tree.specs.Rules.{outcome}
use Rattle.hl_addr.specs.Layout.{quota}
use Rattle.hl_model.specs.Allowed.{IsAllowed, IsBack}
use Rattle.hl_model.specs.Answers.{SiteAnswer}
use Rattle.hl_model.specs.Answers as answers
use Rattle.hl_model.specs.Begins.{begin_copy, begin_need, begin_fetch, job_for, next_copy, serial_at, serial_away, drive_free, volume_there, needs_no_fetch}
use Rattle.hl_model.specs.Cache.{IsOut, IsOrder, AreMatched, AreJobs, IsCache, HaveSizes}
use Rattle.hl_model.specs.Cleaning.{LogUse, clean_one}
use Rattle.hl_model.specs.Ends.{lines_left, is_same, kept_mark, over, moved_to, arrived, end_carried, end_running, end_job, eject, eject_line, noted, is_stale}
use Rattle.hl_model.specs.Events.{SiteEvent, Back, FileCall, Rank, Stage, BeginCopy, BeginFetch, BeginNeed, EndJob, Eject, CleanOne, Checkpoint, Post, NextRequest, Settle, Look}
use Rattle.hl_model.specs.FileCalls.{file_call, line_of_serial, all_there}
use Rattle.hl_media.specs.declared.job.JobNote.{JobNote}
use Rattle.hl_media.specs.declared.job.JobKind.{JobKind}
use Rattle.hl_media.specs.declared.job.Carried.{Carried}
use Rattle.hl_media.specs.declared.job.Carried.TheVariants.{Done, EndOfMedium, Fault}
use Rattle.hl_media.specs.declared.job.JobKind.TheVariants.{Copy, Fetch}
use Rattle.hl_lines.specs.declared.state.LineState.{LineState}
use Rattle.hl_lines.specs.declared.state.LineState.TheVariants.{Empty, Clean, Staging, Stuck, Aside}
use Rattle.hl_lines.specs.Lines.{all_but, clean_segment, held_segment, is, is_clean, is_staging, line_with, segment_of, victim}
use Rattle.hl_model.specs.Lines.{count_held, job_of_line, next_free, slot_with, staged_line}
use Rattle.hl_model.specs.Requests.{post, next_one, settle, look}
use Rattle.hl_model.specs.Ruled.{Ruled, by_rules, limits_of}
use Rattle.hl_model.specs.Rules.{rules, running}
use Rattle.hl_model.specs.Site.{SiteState, RequestOutcome, Evol, Ebad, next}
use Rattle.hl_model.specs.Stagings.{stage, are_files}
use Rattle.hl_model.proofs.CacheLines.{IsIdle, Parts, parts-dropped, parts-staged, parts-fetching, parts-copying, parts-fetched, parts-bound, parts-copied, parts-homed, parts-stuck, parts-moved}
use Rattle.hl_model.proofs.Counting.{held-set}
use Rattle.hl_model.proofs.Orders.{order-fold}
use Rattle.hl_model.proofs.Outs.{line_free}
use Rattle.hl_model.proofs.Sets.{at_set, set-set, is_there, left_true, right_true, turned, true_false}
use Rattle.hl_model.proofs.Victims.{victim_state, clean_there}

-- WHAT IS FOUND

-- a number that is found passes, and is one of those that were tried
pub found_passes : (p : ℕ → Bool) (a n k : ℕ) → find p (range_with_len a n) ≡ Some k → (p k ≡ true) × (k < a + n)
found_passes p a zero k e = cc
found_passes p a (suc n) k e = elim (p a) as (λ b. p a ≡ b → cond b (Some a) (find p (range_with_len (a + 1) n)) ≡ Some k → (p k ≡ true) × (k < a + suc n)) [
  | true ↦ λ t f. let same : a ≡ k = cc in (ap p (sym same) ∙ t, omega arith)
  | false ↦ λ t f. let later = found_passes p (a + 1) n k f in let high = later.1 in (later.0, omega arith)
] refl e

free_is : (slot : Slot) → is_free slot ≡ true → slot ≡ Free
free_is Free e = refl
free_is (Staged line serial) e = cc
free_is (Home serial) e = cc
free_is Spoilt e = cc

pub staging_is : (state : LineState) → is_staging state ≡ true → state ≡ Staging (unwrap_or (segment_of state) 0)
staging_is Empty e = cc
staging_is (Clean t) e = cc
staging_is (Staging t) e = refl
staging_is (Stuck t) e = cc
staging_is Aside e = cc

-- a slot that waits for a line, and one whose segment has no line
pub staged_is : (slot : Slot) (line : ℕ) → staged_line slot ≡ Some line → slot ≡ Staged line (unwrap_or (serial_of slot) 0)
staged_is Free line e = cc
staged_is (Staged other serial) line e = let same : other ≡ line = cc in ap (λ n. Staged n serial) same
staged_is (Home serial) line e = cc
staged_is Spoilt line e = cc

home_is : (slot : Slot) → is_none (serial_of slot) ≡ false → ((line : ℕ) → staged_line slot ≡ Some line → ⊥) → slot ≡ Home (unwrap_or (serial_of slot) 0)
home_is Free e none = cc
home_is (Staged line serial) e none = absurd (none line refl)
home_is (Home serial) e none = refl
home_is Spoilt e none = cc

clean_holds : (line : LineState) (t : ℕ) → clean_segment line ≡ Some t → segment_of line ≡ Some t
clean_holds Empty t e = cc
clean_holds (Clean u) t e = e
clean_holds (Staging u) t e = cc
clean_holds (Stuck u) t e = cc
clean_holds Aside t e = cc

held_holds : (line : LineState) (t : ℕ) → held_segment line ≡ Some t → segment_of line ≡ Some t
held_holds Empty t e = cc
held_holds (Clean u) t e = cc
held_holds (Staging u) t e = e
held_holds (Stuck u) t e = e
held_holds Aside t e = cc

no_place : (p : LineState → Bool) (lines : List LineState) → position p lines ≡ None → (i : ℕ) → i < length lines → p (get_or lines i Empty) ≡ false
no_place p [] e i low = absurd (omega arith)
no_place p (line ∷ lines) e zero low = elim (p line) as (λ b. p line ≡ b → p line ≡ false) [
  | true ↦ λ f. let wrong : ⊥ = grind arith in absurd wrong
  | false ↦ λ f. f
] refl
no_place p (line ∷ lines) e (suc i) low = elim (p line) as (λ b. p line ≡ b → p (get_or lines i Empty) ≡ false) [
  | true ↦ λ f. let wrong : ⊥ = grind arith in absurd wrong
  | false ↦ λ f. no_place p lines (grind arith) i (omega arith)
] refl

pub ok_found : {A : Type 0} (o : Option A) (why : SiteAnswer) (a : A) → ok_or o why ≡ Ok a → o ≡ Some a
ok_found None why a e = cc
ok_found (Some x) why a e = cc

pub not_refused : (b : Bool) (why : SiteAnswer) (u : Unit {0}) → refused_if b why ≡ Ok u → b ≡ false
not_refused true why u e = cc
not_refused false why u e = refl

-- no job has a volume that none was found with
volume_free : (volume : ℕ) (jobs : List JobNote) → find (λ (job : JobNote). nat_eq job.volume volume) jobs ≡ None → (job : JobNote) → IsOut job jobs → job.volume ≢ volume
volume_free volume [] none job out e = out
volume_free volume (first ∷ jobs) none job (inl here) e =
    let same : first.volume ≡ volume = ap (λ (j : JobNote). j.volume) (sym here) ∙ e in
    let yes_it : nat_eq first.volume volume ≡ true = grind (arith, nat_tests) in
    let wrong : ⊥ = grind arith in wrong
volume_free volume (first ∷ jobs) none job (inr out) e = elim (nat_eq first.volume volume) as (λ b. nat_eq first.volume volume ≡ b → ⊥) [
  | true ↦ λ f. let wrong : ⊥ = grind arith in wrong
  | false ↦ λ f. volume_free volume jobs (grind arith) job out e
] refl

pub free_slot : (g : Layout) (slots : List Slot) (full : List Bool) (t : ℕ) → next_free g slots full ≡ Some t → (t < length slots) × (get_or slots t Free ≡ Free)
free_slot g slots full t e =
    let passes = found_passes (λ t. is_free (get_or slots t Spoilt) && not (get_or full (volume_of g.volumes t) false)) 0 (length slots) t e in
    let within : t < length slots = (let high = passes.1 in omega arith) in
    (within, free_is (get_or slots t Free) (ap is_free (get_or_default slots t Free Spoilt within) ∙ left_true (is_free (get_or slots t Spoilt)) _ passes.0))

module _ (g : Layout) (s : SiteState) (cache : IsCache g s) where
  abbrev pub Keeps : Ruled → Type 0
  Keeps told = (answer : SiteAnswer) (new : SiteState) → told ≡ Ok (answer, new) → IsCache g new

  pub keeps_found : {A : Type 0} (o : Result A SiteAnswer) (f : A → Ruled) → ((a : A) → o ≡ Ok a → Keeps (f a)) → Keeps (o >>= f)
  keeps_found (Ok a) f keeps answer new e = keeps a refl answer new e
  keeps_found (Err why) f keeps answer new e = cc

  pub keeps_ok : (answer : SiteAnswer) (new : SiteState) → IsCache g new → Keeps (Ok (answer, new))
  keeps_ok answer new is other after e = let same : ◌≡◌ {A = SiteAnswer × SiteState} (answer, new) (other, after) = cc in subst (λ (p : SiteAnswer × SiteState). IsCache g p.1) same is

  -- nothing but the order changes
  keeps_order : (new : SiteState) → IsOrder s.lines new.order → new.lines ≡ s.lines → new.slots ≡ s.slots → new.jobs ≡ s.jobs → new.next_serial ≡ s.next_serial → new.full ≡ s.full → new.counts ≡ s.counts → IsCache g new
  keeps_order new order lines slots jobs serial full counts = record {
    sizes = record {
      lines = ap length lines ∙ cache.sizes.lines;
      slots = ap length slots ∙ cache.sizes.slots;
      full = ap length full ∙ cache.sizes.full;
      counts = ap length counts ∙ cache.sizes.counts;
    };
    order = subst (λ ls. IsOrder ls new.order) (sym lines) order;
    matched = matched_same;
    held = subst (λ ls. count_held ls ≤ g.lines - 12) (sym lines) cache.held;
    jobs = jobs_same;
  }
    where
      matched_same : AreMatched new.slots new.lines new.next_serial
      matched_same = subst (λ (c : (List Slot × List LineState) × ℕ). AreMatched c.0.0 c.0.1 c.1) (λ k. ((sym slots k, sym lines k), sym serial k)) cache.matched

      jobs_same : AreJobs g new.slots new.lines new.jobs
      jobs_same = subst (λ (c : (List Slot × List LineState) × List JobNote). AreJobs g c.0.0 c.0.1 c.1) (λ k. ((sym slots k, sym lines k), sym jobs k)) cache.jobs

  pub same : (new : SiteState) → new.lines ≡ s.lines → new.slots ≡ s.slots → new.jobs ≡ s.jobs → new.order ≡ s.order → new.next_serial ≡ s.next_serial → new.full ≡ s.full → new.counts ≡ s.counts → IsCache g new
  same new lines slots jobs order serial full counts = keeps_order new (subst (IsOrder s.lines) (sym order) cache.order) lines slots jobs serial full counts

  parts : Parts g s.slots s.lines s.order s.jobs s.next_serial
  parts = record { ordered = cache.order; matched = cache.matched; held = cache.held; outs = cache.jobs }

  -- a site of these parts
  by_parts : (new : SiteState) → HaveSizes g new → Parts g new.slots new.lines new.order new.jobs new.next_serial → IsCache g new
  by_parts new sizes p = record { sizes = sizes; order = p.ordered; matched = p.matched; held = p.held; jobs = p.outs }

  -- FILE CALLS

  pub keeps_file_call : (shelf : Shelf) (now : ℕ) (call : Call) → Keeps (file_call g s shelf now call)
  unfolding file_call
  keeps_file_call shelf now call = keeps_found (by_rules (outcome (limits_of g) (plain shelf s.tree) call) (λ why. answers.Done (replies.Refused why))) _ (λ done _.
      keeps_found (refused_if (is_over (quota g) (limits_of g) s.tree now call) answers.NoSpace) _ (λ _ space.
      keeps_found (all_there g s (find (λ serial. is_none (line_of_serial g s serial)) (need s.tree call))) _ (λ _ there.
      keeps_ok (answers.Done done.0) _ (keeps_order _ (order-fold s.lines (line_of_serial g s) (need s.tree call) s.order cache.order) refl refl refl refl refl refl))))

  -- THE LINE THAT IS TAKEN

  module _ (v : ℕ) (idle : (v < length s.lines) × IsIdle (get_or s.lines v Empty)) where
    dropped : Parts g s.slots (set s.lines v Empty) (all_but v s.order) s.jobs s.next_serial
    dropped = parts-dropped g s.slots s.lines s.order s.jobs s.next_serial parts v idle.0 idle.1

    is_empty_now : get_or (set s.lines v Empty) v Empty ≡ Empty
    is_empty_now = at_set s.lines v Empty Empty v idle.0 (λ _ set. set) (λ differ _. absurd (differ refl))

    within_now : v < length (set s.lines v Empty)
    within_now = let long = length-set s.lines v Empty in let low = idle.0 in omega arith

    long_lines : (state : LineState) → length (set s.lines v state) ≡ g.lines
    long_lines state = length-set s.lines v state ∙ cache.sizes.lines

  -- STAGING

  pub keeps_stage : s.next_serial < 2 ^ 64 - 1 → (paths : List (List (List ℕ))) → Keeps (stage g s paths)
  unfolding stage
  keeps_stage room paths = keeps_found (are_files g s paths) _ (λ _ files.
      keeps_found (refused_if (nat_eq (length (resident s.tree paths)) 0) answers.Nothing) _ (λ _ some.
      keeps_found (refused_if (nat_le (g.lines - 12) (count_held s.lines)) answers.NoLine) _ (λ u fits.
      keeps_found (ok_or (next_free g s.slots s.full) answers.NoSlot) _ (λ t f.
      keeps_found (ok_or (victim s.lines s.order []) answers.NoLine) _ (λ v h.
      keeps_ok _ _ (staged v t (victim_state g s cache [] v (ok_found (victim s.lines s.order []) answers.NoLine v h)) (free_slot g s.slots s.full t (ok_found (next_free g s.slots s.full) answers.NoSlot t f))
      (not_refused (nat_le (g.lines - 12) (count_held s.lines)) answers.NoLine u fits) _))))))
    where
      rises : s.next_serial < next s.next_serial
      rises = omega arith

      new_serial : (u : ℕ) → serial_of (get_or s.slots u Free) ≡ Some s.next_serial → ⊥
      new_serial u e = let less : s.next_serial < s.next_serial = cache.matched.below u s.next_serial e in omega arith

      staged : (v t : ℕ) → (v < length s.lines) × IsIdle (get_or s.lines v Empty) → (t < length s.slots) × (get_or s.slots t Free ≡ Free) → nat_le (g.lines - 12) (count_held s.lines) ≡ false → (tree : _)
          → IsCache g (record s { tree = tree; slots = set s.slots t (Staged v s.next_serial); lines = set s.lines v (Staging t); order = all_but v s.order; next_serial = next s.next_serial })
      staged v t idle free few tree = by_parts _ (record { lines = long_lines v idle (Staging t); slots = length-set s.slots t (Staged v s.next_serial) ∙ cache.sizes.slots; full = cache.sizes.full; counts = cache.sizes.counts })
          (subst (λ ls. Parts g (set s.slots t (Staged v s.next_serial)) ls (all_but v s.order) s.jobs (next s.next_serial)) (set-set s.lines v Empty (Staging t))
          (parts-staged g s.slots (set s.lines v Empty) (all_but v s.order) s.jobs s.next_serial (dropped v idle) v t s.next_serial (next s.next_serial) (within_now v idle) (is_empty_now v idle) free.0 free.1 new_serial rises
          (let up = rises in omega arith)
          (let one = held-set s.lines v (Staging t) in let same = ap count_held (set-set s.lines v Empty (Staging t)) in let less : count_held s.lines < g.lines - 12 = grind (arith, nat_tests) in omega arith)))

  -- BEGINNINGS

  drive_is : (volume : ℕ) (u : Unit {0}) → drive_free g s volume ≡ Ok u → (length s.jobs < 2) × ((job : JobNote) → IsOut job s.jobs → job.volume ≢ volume)
  drive_is volume u e = by_find (find (λ (job : JobNote). nat_eq job.volume volume) s.jobs) refl e
    where
      by_find : (o : Option JobNote) → find (λ (job : JobNote). nat_eq job.volume volume) s.jobs ≡ o → (volume_there g s volume o >>= (λ _. refused_if (nat_le 2 (length s.jobs)) answers.Drives)) ≡ Ok u
          → (length s.jobs < 2) × ((job : JobNote) → IsOut job s.jobs → job.volume ≢ volume)
      by_find None f h =
          let few = not_refused (nat_le 2 (length s.jobs)) answers.Drives u h in
          let less : length s.jobs < 2 = grind (arith, nat_tests) in
          (less, volume_free volume s.jobs f)
      by_find (Some job) f h = cc

  -- a segment that is to be fetched is home, and no line holds it
  fetched_is : (t : ℕ) → needs_no_fetch g s t ≡ false → (get_or s.slots t Free ≡ Home (serial_at g s t)) × ((i : ℕ) → segment_of (get_or s.lines i Empty) ≡ Some t → ⊥)
  fetched_is t e = (home_is (get_or s.slots t Free) (both (is_some (line_with s.lines t)) (is_none (serial_of (get_or s.slots t Free))) e).1 (λ line f. alone line (held_holds (get_or s.lines line Empty) t (cache.matched.staging line t f))), alone)
    where
      both : (a b : Bool) → (a || b) ≡ false → (a ≡ false) × (b ≡ false)
      both true b e = cc
      both false b e = (refl, e)

      none : (o : Option ℕ) → is_some o ≡ false → o ≡ None
      none None e = refl
      none (Some n) e = cc

      alone : (i : ℕ) → segment_of (get_or s.lines i Empty) ≡ Some t → ⊥
      alone i holds =
          let low = is_there segment_of s.lines i Empty (λ f. let wrong : None ≡ Some t = sym f ∙ holds in cc) in
          let isnt = no_place (λ line. is (segment_of line) t) s.lines (none (line_with s.lines t) (both (is_some (line_with s.lines t)) _ e).0) i low in
          let does : is (segment_of (get_or s.lines i Empty)) t ≡ true = ap (λ o. is o t) holds ∙ (let same_number : nat_eq t t ≡ true = grind (arith, nat_tests) in same_number) in
          true_false (is (segment_of (get_or s.lines i Empty)) t) does isnt

  pub keeps_begin_need : (t : ℕ) (keep : List ℕ) → Keeps (begin_need g s t keep)
  unfolding begin_need
  keeps_begin_need t keep = keeps_found (refused_if (needs_no_fetch g s t) answers.Here) _ (λ u here.
      keeps_found (drive_free g s (volume_of g.volumes t)) _ (λ w drive.
      keeps_found (ok_or (victim s.lines s.order keep) answers.NoLine) _ (λ v f.
      keeps_ok (answers.Job (job_for g s Fetch t (serial_at g s t) v)) _
      (fetching v (victim_state g s cache keep v (ok_found (victim s.lines s.order keep) answers.NoLine v f)) (fetched_is t (not_refused (needs_no_fetch g s t) answers.Here u here)) (drive_is (volume_of g.volumes t) w drive)))))
    where
      fetching : (v : ℕ) → (v < length s.lines) × IsIdle (get_or s.lines v Empty) → (get_or s.slots t Free ≡ Home (serial_at g s t)) × ((i : ℕ) → segment_of (get_or s.lines i Empty) ≡ Some t → ⊥)
          → (length s.jobs < 2) × ((job : JobNote) → IsOut job s.jobs → job.volume ≢ volume_of g.volumes t)
          → IsCache g (record s { jobs = s.jobs ++ job_for g s Fetch t (serial_at g s t) v ∷ []; next_job = next s.next_job; lines = set s.lines v Aside; order = all_but v s.order })
      fetching v idle home drive = by_parts _ (record { lines = long_lines v idle Aside; slots = cache.sizes.slots; full = cache.sizes.full; counts = cache.sizes.counts })
          (subst (λ ls. Parts g s.slots ls (all_but v s.order) (s.jobs ++ job_for g s Fetch t (serial_at g s t) v ∷ []) s.next_serial) (set-set s.lines v Empty Aside)
          (parts-fetching g s.slots (set s.lines v Empty) (all_but v s.order) s.jobs s.next_serial (dropped v idle) (job_for g s Fetch t (serial_at g s t) v) drive.0 drive.1 refl (within_now v idle) (is_empty_now v idle) home.0 refl refl
          (λ i e. at_set s.lines v Empty Empty i idle.0 (λ _ set. let wrong : None ≡ Some t = sym (ap clean_segment set) ∙ e in cc)
          (λ _ old. home.1 i (clean_holds (get_or s.lines i Empty) t (sym (ap clean_segment old) ∙ e))))))

  pub keeps_begin_fetch : (path : List (List ℕ)) (block : ℕ) → Keeps (begin_fetch g s path block)
  unfolding begin_fetch
  keeps_begin_fetch path block = keeps_found (by_rules (content_at s.tree path) answers.PathRefused) _ (λ file there.
      keeps_found (serial_away g s (file_block file block)) _ (λ serial away. keeps_begin_need (slot_with s.slots serial) []))

  pub keeps_begin_copy : Keeps (begin_copy g s)
  unfolding begin_copy
  keeps_begin_copy = keeps_found (ok_or (next_copy g s) answers.NoneLeft) _ (λ line f.
      keeps_found (drive_free g s (volume_of g.volumes (unwrap_or (segment_of (get_or s.lines line Empty)) 0))) _ (λ w drive.
      keeps_ok (answers.Job (job_for g s Copy (unwrap_or (segment_of (get_or s.lines line Empty)) 0) (serial_at g s (unwrap_or (segment_of (get_or s.lines line Empty)) 0)) line)) _
      (copying line (unwrap_or (segment_of (get_or s.lines line Empty)) 0) refl (ok_found (next_copy g s) answers.NoneLeft line f) (drive_is (volume_of g.volumes (unwrap_or (segment_of (get_or s.lines line Empty)) 0)) w drive))))
    where
      copying : (line t : ℕ) → unwrap_or (segment_of (get_or s.lines line Empty)) 0 ≡ t → next_copy g s ≡ Some line → (length s.jobs < 2) × ((job : JobNote) → IsOut job s.jobs → job.volume ≢ volume_of g.volumes t)
          → IsCache g (record s { jobs = s.jobs ++ job_for g s Copy t (serial_at g s t) line ∷ []; next_job = next s.next_job })
      copying line t is f drive =
          let passes = found_passes (λ line. is_staging (get_or s.lines line Empty) && not (job_of_line s line)) 0 (length s.lines) line f in
          let staging : get_or s.lines line Empty ≡ Staging t = staging_is (get_or s.lines line Empty) (left_true (is_staging (get_or s.lines line Empty)) _ passes.0) ∙ ap Staging is in
          let alone = turned (job_of_line s line) (right_true (is_staging (get_or s.lines line Empty)) _ passes.0) in
          let slot = staged_is (get_or s.slots t Free) line (cache.matched.staged line t (ap held_segment staging)) in
          by_parts _ (record { lines = cache.sizes.lines; slots = cache.sizes.slots; full = cache.sizes.full; counts = cache.sizes.counts })
          (parts-copying g s.slots s.lines s.order s.jobs s.next_serial parts (job_for g s Copy t (serial_at g s t) line) drive.0 drive.1 refl staging slot refl refl (λ other was e. line_free line other s.jobs alone was e))

  -- ENDS

  module _ (job : Back) (back : IsBack s job) where
    abbrev i : ℕ
    i = job.note.line

    abbrev t : ℕ
    t = job.note.tseg

    counts_long : length (set s.counts job.note.volume job.faults) ≡ length g.volumes
    counts_long = length-set s.counts job.note.volume job.faults ∙ cache.sizes.counts

    line_long : (state : LineState) → length (set s.lines i state) ≡ g.lines
    line_long state = length-set s.lines i state ∙ cache.sizes.lines

    left_long : (kind : JobKind) → length (lines_left g s kind i) ≡ g.lines
    left_long Copy = cache.sizes.lines
    left_long Fetch = line_long Empty

    left_parts : (kind : JobKind) → job.note.kind ≡ kind → Parts g s.slots (lines_left g s kind i) s.order (over g s job).jobs s.next_serial
    left_parts Copy e = parts-copied g s.slots s.lines s.order s.jobs s.next_serial parts job.note back.out e
    left_parts Fetch e = parts-fetched g s.slots s.lines s.order s.jobs s.next_serial parts job.note back.out e

    pub cache-over : IsCache g (over g s job)
    cache-over = by_parts (over g s job) (record { lines = left_long job.note.kind; slots = cache.sizes.slots; full = cache.sizes.full; counts = counts_long }) (left_parts job.note.kind refl)

    noted_is : (kind : JobKind) (how : RequestOutcome) → IsCache g (noted g s kind t how (over g s job))
    noted_is Copy how = cache-over
    noted_is Fetch how = record { sizes = record { lines = cache-over.sizes.lines; slots = cache-over.sizes.slots; full = cache-over.sizes.full; counts = cache-over.sizes.counts }; order = cache-over.order; matched = cache-over.matched; held = cache-over.held; jobs = cache-over.jobs }

    keeps_moved_to : job.note.kind ≡ Copy → (full : List Bool) → length full ≡ length g.volumes → (o : Option ℕ) → next_free g s.slots full ≡ o → Keeps (moved_to g s job full o)
    keeps_moved_to copy full long None f = keeps_ok answers.Stuck _ (by_parts _ (record { lines = line_long (Stuck t); slots = cache.sizes.slots; full = long; counts = counts_long })
        (parts-stuck g s.slots s.lines s.order s.jobs s.next_serial parts job.note back.out copy))
    keeps_moved_to copy full long (Some n) f = let free = free_slot g s.slots full n f in keeps_ok _ _ (by_parts _ (record {
      lines = line_long (Staging n);
      slots = length-set (set s.slots t Spoilt) n (Staged i job.note.serial) ∙ length-set s.slots t Spoilt ∙ cache.sizes.slots;
      full = long;
      counts = counts_long;
    })
        (parts-moved g s.slots s.lines s.order s.jobs s.next_serial parts job.note back.out copy n free.0 free.1))

    keeps_either : (b : Bool) (one other : Ruled) → Keeps one → Keeps other → Keeps (if b then one else other)
    keeps_either true one other k l = k
    keeps_either false one other k l = l

    keeps_arrived : (kind : JobKind) (carried : Carried) → job.note.kind ≡ kind → Keeps (arrived g s job kind carried)
    keeps_arrived Copy Done e = keeps_ok answers.Home _ (by_parts _ (record { lines = line_long (Clean t); slots = length-set s.slots t (Home job.note.serial) ∙ cache.sizes.slots; full = cache.sizes.full; counts = counts_long })
        (parts-homed g s.slots s.lines s.order s.jobs s.next_serial parts job.note back.out e))
    keeps_arrived Copy EndOfMedium e = keeps_moved_to e (set s.full job.note.volume true) (length-set s.full job.note.volume true ∙ cache.sizes.full) (next_free g s.slots (set s.full job.note.volume true)) refl
    keeps_arrived Copy (Fault faults) e = keeps_ok answers.Stale _ cache-over
    keeps_arrived Fetch Done e = keeps_either (is_same g s (kept_mark g s job) job.found) _ _
        (keeps_ok answers.Bound _ (by_parts _ (record { lines = line_long (Clean t); slots = cache.sizes.slots; full = cache.sizes.full; counts = counts_long })
        (parts-bound g s.slots s.lines s.order s.jobs s.next_serial parts job.note back.out e)))
        (keeps_ok (answers.Ebad (kept_mark g s job) job.found) _ (noted_is Fetch (Ebad t (kept_mark g s job) job.found)))
    keeps_arrived Fetch EndOfMedium e = keeps_ok answers.Stale _ cache-over
    keeps_arrived Fetch (Fault faults) e = keeps_ok answers.Stale _ cache-over

    keeps_end_carried : (carried : Carried) → Keeps (end_carried g s job carried)
    keeps_end_carried (Fault faults) = keeps_ok answers.Evol _ (noted_is job.note.kind (Evol t job.faults))
    keeps_end_carried Done = keeps_either (is_stale g s job) _ _ (keeps_ok answers.Stale _ cache-over) (keeps_arrived job.note.kind Done refl)
    keeps_end_carried EndOfMedium = keeps_either (is_stale g s job) _ _ (keeps_ok answers.Stale _ cache-over) (keeps_arrived job.note.kind EndOfMedium refl)

    keeps_end_running : (carried : Carried) (stopped : Option ℕ) → Keeps (end_running g s job carried stopped)
    keeps_end_running carried None = keeps_end_carried carried
    keeps_end_running carried (Some faults) = keeps_ok (answers.Stopped faults) _ cache-over

    pub keeps_end_job : Keeps (end_job g s job)
    unfolding end_job
    keeps_end_job = keeps_found (ok_or job.carried answers.Unmoved) _ (λ carried e. keeps_end_running carried s.stopped)

  -- ALL OTHER EVENTS

  keeps_running : (stopped : Option ℕ) (told : Ruled) → Keeps told → Keeps (running stopped told)
  keeps_running None told keeps answer new e = keeps answer new e
  keeps_running (Some faults) told keeps answer new e = cc

  keeps_eject_line : (line : ℕ) (state : LineState) → get_or s.lines line Empty ≡ state → Keeps (eject_line g s line state)
  keeps_eject_line line Empty at answer new e = cc
  keeps_eject_line line (Staging u) at answer new e = cc
  keeps_eject_line line (Stuck u) at answer new e = cc
  keeps_eject_line line Aside at answer new e = cc
  keeps_eject_line line (Clean u) at answer new e = keeps_ok answers.Ejected _ (
      by_parts _ (record { lines = length-set s.lines line Empty ∙ cache.sizes.lines; slots = cache.sizes.slots; full = cache.sizes.full; counts = cache.sizes.counts })
      (dropped line (clean_there g s cache line (ap is_clean at), inr (ap is_clean at)))
      ) answer new e

  keeps_eject : (line : ℕ) → Keeps (eject g s line)
  unfolding eject
  keeps_eject line = keeps_eject_line line (get_or s.lines line Empty) refl

  keeps_request : (number u : ℕ) (keep : List ℕ) (answer : SiteAnswer) (new : SiteState) → (post g s u keep ≡ Ok (answer, new)) ⊎ ((next_one g s ≡ Ok (answer, new)) ⊎ ((settle g s number ≡ Ok (answer, new)) ⊎ (look g s number ≡ Ok (answer, new)))) → IsCache g new
  unfolding post next_one settle look
  keeps_request number u keep answer new (inl e) = same new (grind arith) (grind arith) (grind arith) (grind arith) (grind arith) (grind arith) (grind arith)
  keeps_request number u keep answer new (inr (inl e)) = same new (grind arith) (grind arith) (grind arith) (grind arith) (grind arith) (grind arith) (grind arith)
  keeps_request number u keep answer new (inr (inr (inl e))) = same new (grind arith) (grind arith) (grind arith) (grind arith) (grind arith) (grind arith) (grind arith)
  keeps_request number u keep answer new (inr (inr (inr e))) = same new (grind arith) (grind arith) (grind arith) (grind arith) (grind arith) (grind arith) (grind arith)

  keeps_clean_one : (log : LogUse) → Keeps (clean_one g s log)
  unfolding clean_one
  keeps_clean_one log = keeps_found _ _ (λ segment e. keeps_ok (answers.Cleaned segment) s cache)

  -- each event by the rules
  pub keeps_rules : s.next_serial < 2 ^ 64 - 1 → (log : LogUse) (shelf : Shelf) (event : SiteEvent) → IsAllowed s event → Keeps (rules g s log shelf event)
  keeps_rules room log shelf (FileCall now call) allowed answer new e = keeps_running s.stopped _ (keeps_file_call shelf now call) answer new e
  keeps_rules room log shelf (Rank now count) allowed answer new e = keeps_running s.stopped _ (keeps_ok _ s cache) answer new e
  keeps_rules room log shelf (Stage paths) allowed answer new e = keeps_running s.stopped _ (keeps_stage room paths) answer new e
  keeps_rules room log shelf BeginCopy allowed answer new e = keeps_running s.stopped _ keeps_begin_copy answer new e
  keeps_rules room log shelf (BeginFetch path block) allowed answer new e = keeps_running s.stopped _ (keeps_begin_fetch path block) answer new e
  keeps_rules room log shelf (BeginNeed u keep) allowed answer new e = keeps_running s.stopped _ (keeps_begin_need u keep) answer new e
  keeps_rules room log shelf (EndJob job) back answer new e = keeps_end_job job back answer new e
  keeps_rules room log shelf (Eject line) allowed answer new e = keeps_running s.stopped _ (keeps_eject line) answer new e
  keeps_rules room log shelf CleanOne allowed answer new e = keeps_running s.stopped _ (keeps_clean_one log) answer new e
  keeps_rules room log shelf Checkpoint allowed answer new e = keeps_running s.stopped _ (keeps_ok answers.Checkpointed s cache) answer new e
  keeps_rules room log shelf (Post u keep) allowed answer new e = keeps_request 0 u keep answer new (inl e)
  keeps_rules room log shelf NextRequest allowed answer new e = keeps_request 0 0 [] answer new (inr (inl e))
  keeps_rules room log shelf (Settle number) allowed answer new e = keeps_request number 0 [] answer new (inr (inr (inl e)))
  keeps_rules room log shelf (Look number) allowed answer new e = keeps_running s.stopped _ (λ answer new e. keeps_request number 0 [] answer new (inr (inr (inr e)))) answer new e
