-- No step makes the claim of another job greater.
use Rattle.std.proofs.Common.{arith, ◌≡◌, ℕ, ◌-◌, ◌^◌, ◌<◌, ◌≤◌, ◌⊎◌, Bool, true, false, not, nat_eq, List, [], get_or, set, filter, length, Option, Some, None, Result, Ok, Err, ok_or, refl, ap, ◌∙◌, sym, subst, inl, inr, if◌then◌else◌}
use Rattle.std.proofs.lemmas.Bool.Decides.{nat_tests}
use Rattle.std.specs.Prelude.{Contains}
use Rattle.std.specs.List.{range_with_len}
use Rattle.std.specs.FinMap.{get}
use Rattle.hl_addr.specs.Layout.{Layout}
use Rattle.hl_addr.specs.Slots.{volume_of, place_of}
use Rattle.hl_media.specs.declared.job.Carried.{Carried}
use Rattle.hl_media.specs.declared.job.Carried.TheVariants.{Done, EndOfMedium, Fault}
use Rattle.hl_media.specs.declared.job.JobKind.{JobKind}
use Rattle.hl_media.specs.declared.job.JobKind.TheVariants.{Copy, Fetch}
use Rattle.hl_media.specs.declared.job.JobNote.{JobNote}
use Rattle.hl_tree.specs.declared.call.Call.{Call}
use Rattle.hl_tree.specs.Refusals.{◌>>=◌}
use Rattle.hl_tree.specs.Rules.{Files}
use Rattle.hl_tseg.specs.Slots.{serial_of}
use Rattle.hl_tseg.specs.declared.slot.Slot.{Slot}
use Rattle.hl_tseg.specs.declared.slot.Slot.TheVariants.{Free, Staged, Home, Spoilt}
use Rattle.hl_placed.specs.Blocks.{AwaysAre, Shelf}
use Rattle.hl_placed.specs.Calls.{placed_after}
use Rattle.hl_placed.specs.Laws.{HasAway}
use Rattle.hl_placed.specs.Placed.{EachFile, PlacedTree, plain}
use Rattle.hl_placed.specs.Staging.{put_away}
use Rattle.hl_placed.proofs.Kept.{aways-placed_after}
use Rattle.hl_placed.proofs.Staging.{aways-put_away}
use Rattle.hl_model.specs.Allowed.{IsAllowed, IsBack}
use Rattle.hl_model.specs.Answers.{SiteAnswer}
use Rattle.hl_model.specs.Answers as answers
use Rattle.hl_model.specs.Begins.{begin_copy, begin_need, begin_fetch}
use Rattle.hl_model.specs.Cache.{IsCache, IsOut, slot_in}
use Rattle.hl_model.specs.Claims.{ClaimedSlot, CopyWithin, IsNoGreater, SegmentWithin, SlotWithin, claim_of, copied_by, home_if, claimed_home, segment_claimed}
use Rattle.hl_model.specs.Cleaning.{LogUse, clean_one}
use Rattle.hl_model.specs.Ends.{over, is_same, kept_mark, moved_to, arrived, end_carried, end_running, end_job, eject, eject_line, noted, is_stale}
use Rattle.hl_model.specs.Events.{SiteEvent, Back, FileCall, Rank, Stage, BeginCopy, BeginFetch, BeginNeed, EndJob, Eject, CleanOne, Checkpoint, Post, NextRequest, Settle, Look}
use Rattle.hl_model.specs.FileCalls.{file_call}
use Rattle.hl_lines.specs.declared.state.LineState.{LineState}
use Rattle.hl_lines.specs.declared.state.LineState.TheVariants.{Empty, Clean, Staging, Stuck, Aside}
use Rattle.hl_lines.specs.Lines.{used, victim}
use Rattle.hl_model.specs.Lines.{next_free}
use Rattle.hl_model.specs.Requests.{post, next_one, settle, look}
use Rattle.hl_model.specs.Ruled.{Ruled, limits_of, told_of}
use Rattle.hl_model.specs.Rules.{rules, running}
use Rattle.hl_model.specs.Runs.{IsSite, Writes, shelf_after}
use Rattle.hl_model.specs.Site.{SiteState, RequestOutcome, Evol, Ebad}
use Rattle.hl_model.specs.Stagings.{stage, chosen}
use Rattle.hl_model.specs.Units.{Middles}
use Rattle.hl_model.proofs.Failing.{failed_gives_up}
use Rattle.hl_model.specs.Steps.{State, SiteStep, IsRuled, IsGivenUp, given_up}
use Rattle.hl_model.proofs.ClaimedBlocks.{in_filter_map, in_range, out_filter_map, segment-within}
use Rattle.hl_model.proofs.Keeping.{kept_segment}
use Rattle.hl_model.proofs.Outs.{is_of_other, out-filter}
use Rattle.hl_model.proofs.Runs.{step_in_plain}
use Rattle.hl_model.proofs.Sets.{is_there, set_either}
use Rattle.hl_model.proofs.Steps.{is_other, keeps_rules}

-- SLOTS THAT ARE HOME

module _ (g : Layout) (s : SiteState) where
  -- a slot that is home was before, or is on a volume of which no job is out
  abbrev pub Homes : SiteState → Type 0
  Homes new = (t serial : ℕ) → get_or new.slots t Free ≡ Home serial → (get_or s.slots t Free ≡ Home serial) ⊎ ((job : JobNote) → IsOut job new.jobs → job.volume ≡ volume_of g.volumes t → ⊥)

  abbrev pub Keeps : Ruled → Type 0
  Keeps told = (answer : SiteAnswer) (new : SiteState) → told ≡ Ok (answer, new) → Homes new

  same_slots : (new : SiteState) → new.slots ≡ s.slots → Homes new
  same_slots new e t serial is = inl (sym (ap (λ sl. get_or sl t Free) e) ∙ is)

  keeps_ok : (answer : SiteAnswer) (new : SiteState) → Homes new → Keeps (Ok (answer, new))
  keeps_ok answer new keep other after e = let pair : ◌≡◌ {A = SiteAnswer × SiteState} (answer, new) (other, after) = cc in subst (λ (p : SiteAnswer × SiteState). Homes p.1) pair keep

  keeps_same : (answer : SiteAnswer) (new : SiteState) → new.slots ≡ s.slots → Keeps (Ok (answer, new))
  keeps_same answer new e = keeps_ok answer new (same_slots new e)

  staged_home : (slots : List Slot) (t line serial : ℕ) (u n : ℕ) → get_or (set slots t (Staged line serial)) u Free ≡ Home n → get_or slots u Free ≡ Home n
  staged_home slots t line serial u n e = elim (set_either slots t (Staged line serial) Free u) as (λ _. get_or slots u Free ≡ Home n) [
    | inl h ↦ let wrong : Staged line serial ≡ Home n = sym h.1 ∙ e in cc
    | inr h ↦ sym h ∙ e
  ]

  -- THE ENDS

  module _ (cache : IsCache g s) (job : Back) (back : IsBack s job) where
    abbrev t : ℕ
    t = job.note.tseg

    homed : (lines : List LineState) (order : List ℕ) → Homes (record (over g s job) { slots = set s.slots t (Home job.note.serial); lines = lines; order = order })
    homed lines order u serial is = elim (set_either s.slots t (Home job.note.serial) Free u) as (λ _. (get_or s.slots u Free ≡ Home serial) ⊎ ((other : JobNote) → IsOut other (filter (is_of_other job.note.volume) s.jobs) → other.volume ≡ volume_of g.volumes u → ⊥)) [
      | inl h ↦ inr (λ other out on.
          let differ : not (nat_eq other.volume job.note.volume) ≡ true = (out-filter (is_of_other job.note.volume) other s.jobs out).1 in
          let volume : other.volume ≡ job.note.volume = on ∙ ap (volume_of g.volumes) h.0 ∙ sym (cache.jobs.each job.note back.out).volume in
          grind (arith, nat_tests))
      | inr h ↦ inl (sym h ∙ is)
    ]

    moved : (n u serial : ℕ) → get_or (set (set s.slots t Spoilt) n (Staged job.note.line job.note.serial)) u Free ≡ Home serial → get_or s.slots u Free ≡ Home serial
    moved n u serial is = let once = staged_home (set s.slots t Spoilt) n job.note.line job.note.serial u serial is in
        elim (set_either s.slots t Spoilt Free u) as (λ _. get_or s.slots u Free ≡ Home serial) [
          | inl h ↦ let wrong : Spoilt ≡ Home serial = sym h.1 ∙ once in cc
          | inr h ↦ sym h ∙ once
        ]

    keeps_moved_to : (full : List Bool) (o : Option ℕ) → Keeps (moved_to g s job full o)
    keeps_moved_to full None = keeps_same answers.Stuck _ refl
    keeps_moved_to full (Some n) = keeps_ok _ _ (λ u serial is. inl (moved n u serial is))

    keeps_bound : (b : Bool) → Keeps (if b then Ok (answers.Bound, record (over g s job) { lines = set s.lines job.note.line (Clean t); order = used job.note.line s.order }) else Ok (answers.Ebad (kept_mark g s job) job.found, noted g s Fetch t (Ebad t (kept_mark g s job) job.found) (over g s job)))
    keeps_bound true = keeps_same answers.Bound _ refl
    keeps_bound false = keeps_same (answers.Ebad (kept_mark g s job) job.found) _ refl

    keeps_arrived : (kind : JobKind) (carried : Carried) → Keeps (arrived g s job kind carried)
    keeps_arrived Copy Done = keeps_ok answers.Home _ (homed (set s.lines job.note.line (Clean t)) (used job.note.line s.order))
    keeps_arrived Copy EndOfMedium = keeps_moved_to (set s.full job.note.volume true) (next_free g s.slots (set s.full job.note.volume true))
    keeps_arrived Copy (Fault faults) = keeps_same answers.Stale _ refl
    keeps_arrived Fetch Done = keeps_bound (is_same g s (kept_mark g s job) job.found)
    keeps_arrived Fetch EndOfMedium = keeps_same answers.Stale _ refl
    keeps_arrived Fetch (Fault faults) = keeps_same answers.Stale _ refl

    noted_slots : (kind : JobKind) (how : RequestOutcome) → (noted g s kind t how (over g s job)).slots ≡ s.slots
    noted_slots Copy how = refl
    noted_slots Fetch how = refl

    keeps_either : (b : Bool) (one other : Ruled) → Keeps one → Keeps other → Keeps (if b then one else other)
    keeps_either true one other k l = k
    keeps_either false one other k l = l

    keeps_end_carried : (carried : Carried) → Keeps (end_carried g s job carried)
    keeps_end_carried (Fault faults) = keeps_same answers.Evol _ (noted_slots job.note.kind (Evol t job.faults))
    keeps_end_carried Done = keeps_either (is_stale g s job) _ _ (keeps_same answers.Stale _ refl) (keeps_arrived job.note.kind Done)
    keeps_end_carried EndOfMedium = keeps_either (is_stale g s job) _ _ (keeps_same answers.Stale _ refl) (keeps_arrived job.note.kind EndOfMedium)

    keeps_end_running : (carried : Carried) (stopped : Option ℕ) → Keeps (end_running g s job carried stopped)
    keeps_end_running carried None = keeps_end_carried carried
    keeps_end_running carried (Some faults) = keeps_same (answers.Stopped faults) _ refl

    keeps_end_of : (o : Result Carried SiteAnswer) → Keeps (o >>= (λ carried. end_running g s job carried s.stopped))
    keeps_end_of (Ok carried) answer new e = keeps_end_running carried s.stopped answer new e
    keeps_end_of (Err why) answer new e = cc

    keeps_end_job : Keeps (end_job g s job)
    unfolding end_job
    keeps_end_job = keeps_end_of (ok_or job.carried answers.Unmoved)

  -- ALL OTHER EVENTS

  keeps_running : (stopped : Option ℕ) (told : Ruled) → Keeps told → Keeps (running stopped told)
  keeps_running None told keeps answer new e = keeps answer new e
  keeps_running (Some faults) told keeps answer new e = cc

  keeps_file_call : (shelf : Shelf) (now : ℕ) (call : Call) → Keeps (file_call g s shelf now call)
  unfolding file_call
  keeps_file_call shelf now call answer new e = same_slots new (grind arith)

  keeps_stage : (paths : List (List (List ℕ))) → Keeps (stage g s paths)
  unfolding stage
  keeps_stage paths answer new e = elim (victim s.lines s.order []) as (λ o. victim s.lines s.order [] ≡ o → Homes new) [
    | None ↦ λ f. let wrong : ⊥ = grind arith in absurd wrong
    | Some v ↦ λ f. elim (next_free g s.slots s.full) as (λ o. next_free g s.slots s.full ≡ o → Homes new) [
      | None ↦ λ h. let wrong : ⊥ = grind arith in absurd wrong
      | Some t ↦ λ h.
          let slots : new.slots ≡ set s.slots t (Staged v s.next_serial) = grind arith in
          λ u serial is. inl (staged_home s.slots t v s.next_serial u serial (sym (ap (λ sl. get_or sl u Free) slots) ∙ is))
    ] refl
  ] refl

  slots_begin_need : (u : ℕ) (keep : List ℕ) (answer : SiteAnswer) (new : SiteState) → begin_need g s u keep ≡ Ok (answer, new) → new.slots ≡ s.slots
  unfolding begin_need
  slots_begin_need u keep answer new e = grind arith

  keeps_begin_fetch : (path : List (List ℕ)) (block : ℕ) → Keeps (begin_fetch g s path block)
  unfolding begin_fetch
  keeps_begin_fetch path block answer new e = same_slots new (grind (arith, slots_begin_need))

  keeps_begin_copy : Keeps (begin_copy g s)
  unfolding begin_copy
  keeps_begin_copy answer new e = same_slots new (grind arith)

  keeps_eject_line : (line : ℕ) (state : LineState) → Keeps (eject_line g s line state)
  keeps_eject_line line Empty answer new e = cc
  keeps_eject_line line (Staging u) answer new e = cc
  keeps_eject_line line (Stuck u) answer new e = cc
  keeps_eject_line line Aside answer new e = cc
  keeps_eject_line line (Clean u) answer new e = same_slots new (grind arith)

  keeps_eject : (line : ℕ) → Keeps (eject g s line)
  unfolding eject
  keeps_eject line = keeps_eject_line line (get_or s.lines line Empty)

  keeps_request : (number u : ℕ) (keep : List ℕ) (answer : SiteAnswer) (new : SiteState) → (post g s u keep ≡ Ok (answer, new)) ⊎ ((next_one g s ≡ Ok (answer, new)) ⊎ ((settle g s number ≡ Ok (answer, new)) ⊎ (look g s number ≡ Ok (answer, new)))) → Homes new
  unfolding post next_one settle look
  keeps_request number u keep answer new (inl e) = same_slots new (grind arith)
  keeps_request number u keep answer new (inr (inl e)) = same_slots new (grind arith)
  keeps_request number u keep answer new (inr (inr (inl e))) = same_slots new (grind arith)
  keeps_request number u keep answer new (inr (inr (inr e))) = same_slots new (grind arith)

  keeps_clean_one : (log : LogUse) → Keeps (clean_one g s log)
  unfolding clean_one
  keeps_clean_one log answer new e = same_slots new (grind arith)

  pub keeps_homes : (cache : IsCache g s) (log : LogUse) (shelf : Shelf) (event : SiteEvent) → IsAllowed s event → Keeps (rules g s log shelf event)
  keeps_homes cache log shelf (FileCall now call) allowed answer new e = keeps_running s.stopped _ (keeps_file_call shelf now call) answer new e
  keeps_homes cache log shelf (Rank now count) allowed answer new e = keeps_running s.stopped _ (keeps_same (answers.Ranked _) s refl) answer new e
  keeps_homes cache log shelf (Stage paths) allowed answer new e = keeps_running s.stopped _ (keeps_stage paths) answer new e
  keeps_homes cache log shelf BeginCopy allowed answer new e = keeps_running s.stopped _ keeps_begin_copy answer new e
  keeps_homes cache log shelf (BeginFetch path block) allowed answer new e = keeps_running s.stopped _ (keeps_begin_fetch path block) answer new e
  keeps_homes cache log shelf (BeginNeed u keep) allowed answer new e = keeps_running s.stopped _ (λ answer new e. same_slots new (slots_begin_need u keep answer new e)) answer new e
  keeps_homes cache log shelf (EndJob job) back answer new e = keeps_end_job cache job back answer new e
  keeps_homes cache log shelf (Eject line) allowed answer new e = keeps_running s.stopped _ (keeps_eject line) answer new e
  keeps_homes cache log shelf CleanOne allowed answer new e = keeps_running s.stopped _ (keeps_clean_one log) answer new e
  keeps_homes cache log shelf Checkpoint allowed answer new e = keeps_running s.stopped _ (keeps_same answers.Checkpointed s refl) answer new e
  keeps_homes cache log shelf (Post u keep) allowed answer new e = keeps_request 0 u keep answer new (inl e)
  keeps_homes cache log shelf NextRequest allowed answer new e = keeps_request 0 0 [] answer new (inr (inl e))
  keeps_homes cache log shelf (Settle number) allowed answer new e = keeps_request number 0 [] answer new (inr (inr (inl e)))
  keeps_homes cache log shelf (Look number) allowed answer new e = keeps_running s.stopped _ (λ answer new e. keeps_request number 0 [] answer new (inr (inr (inr e)))) answer new e

-- AWAY BLOCKS

module _ (g : Layout) (shelf : Shelf) (s : SiteState) (site : IsSite shelf s) where
  -- a block is away in a new segment, or was away before
  abbrev pub WasAway : ℕ → ℕ → Type 0
  WasAway serial position = (serial ≡ s.next_serial) ⊎ HasAway s.tree serial position

  abbrev pub Aways : SiteState → Type 0
  Aways new = EachFile (AwaysAre WasAway) new.tree

  aways_before : EachFile (AwaysAre WasAway) s.tree
  aways_before path file there i serial position e = inr (path, file, i, there, e)

  by_tree : (new : SiteState) (tree : PlacedTree) → new.tree ≡ tree → EachFile (AwaysAre WasAway) tree → Aways new
  by_tree new tree e are = subst (EachFile (AwaysAre WasAway)) (sym e) are

  aways_file_call : (now : ℕ) (call : Call) (answer : SiteAnswer) (new : SiteState) → file_call g s shelf now call ≡ Ok (answer, new) → Aways new
  unfolding file_call
  aways_file_call now call answer new e =
      let tree : new.tree ≡ placed_after (limits_of g) shelf s.tree now call = grind arith in
      by_tree new _ tree (aways-placed_after (limits_of g) shelf s.tree site.files site.tree WasAway aways_before now call)

  aways_stage : (paths : List (List (List ℕ))) (answer : SiteAnswer) (new : SiteState) → stage g s paths ≡ Ok (answer, new) → Aways new
  unfolding stage
  aways_stage paths answer new e =
      let tree : new.tree ≡ put_away s.next_serial 1 (chosen g s paths) s.tree = grind arith in
      by_tree new _ tree (aways-put_away shelf WasAway s.next_serial (λ position. inl refl) (chosen g s paths) 1 s.tree aways_before)

  aways_running : (stopped : Option ℕ) (told : Ruled) → ((answer : SiteAnswer) (new : SiteState) → told ≡ Ok (answer, new) → Aways new) → (answer : SiteAnswer) (new : SiteState) → running stopped told ≡ Ok (answer, new) → Aways new
  aways_running None told keeps answer new e = keeps answer new e
  aways_running (Some faults) told keeps answer new e = cc

  aways_others : (log : LogUse) (event : SiteEvent) → is_other event ≡ true → (answer : SiteAnswer) (new : SiteState) → rules g s log shelf event ≡ Ok (answer, new) → Aways new
  aways_others log event other answer new e = by_tree new s.tree (ap (λ (c : PlacedTree × ℕ). c.0) (keeps_rules g s log shelf event other answer new e)) aways_before

  pub keeps_aways : (log : LogUse) (event : SiteEvent) (answer : SiteAnswer) (new : SiteState) → rules g s log shelf event ≡ Ok (answer, new) → Aways new
  keeps_aways log (FileCall now call) = aways_running s.stopped _ (aways_file_call now call)
  keeps_aways log (Stage paths) = aways_running s.stopped _ (aways_stage paths)
  keeps_aways log event = aways_others log event refl

-- CLAIMS

old_segment : (shelf : Shelf) (next : ℕ) (segment : List ℕ) (answer : SiteAnswer) (serial : ℕ) → serial < next → get (shelf_after shelf next segment answer) serial ≡ get shelf serial
old_segment shelf next segment (answers.Staged blocks volume slot line) serial less = kept_segment shelf next segment serial less
old_segment shelf next segment answer serial less = refl

home_is : (placed : PlacedTree) (files : Files) (place : ℕ) (slot : Slot) (claimed : ClaimedSlot) → claimed_home placed files place slot ≡ Some claimed → (serial : ℕ) × (slot ≡ Home serial) × (claimed ≡ record { place = place; segment = segment_claimed placed files serial })
home_is placed files place Free claimed e = cc
home_is placed files place (Staged line serial) claimed e = cc
home_is placed files place (Home serial) claimed e = let is : claimed ≡ record { place = place; segment = segment_claimed placed files serial } = cc in (serial, refl, is)
home_is placed files place Spoilt claimed e = cc

if_home : (b : Bool) (placed : PlacedTree) (files : Files) (place : ℕ) (slot : Slot) (claimed : ClaimedSlot) → home_if b placed files place slot ≡ Some claimed → (b ≡ true) × (claimed_home placed files place slot ≡ Some claimed)
if_home true placed files place slot claimed e = (refl, e)
if_home false placed files place slot claimed e = cc

module _ (g : Layout) (shelf last : Shelf) (s new : SiteState) (site : IsSite shelf s) (cache : IsCache g s) (after : IsSite last new) (same_shelf : (serial : ℕ) → serial < s.next_serial → get last serial ≡ get shelf serial)
    (homes : Homes g s new) (aways : Aways g shelf s site new) (job : JobNote) (out : IsOut job s.jobs) (still : IsOut job new.jobs) where
  serial_in : (kind : JobKind) (line serial : ℕ) → serial_of (slot_in kind line serial) ≡ Some serial
  serial_in Copy line serial = refl
  serial_in Fetch line serial = refl

  within : (serial : ℕ) → serial < s.next_serial → SegmentWithin (segment_claimed new.tree (plain last new.tree) serial) (segment_claimed s.tree (plain shelf s.tree) serial)
  within serial less = segment-within last shelf new.tree s.tree after.files site.files serial
      (λ position (path, file, i, there, is). was position (aways path file there i serial position is))
      (same_shelf serial less)
    where
      was : (position : ℕ) → (serial ≡ s.next_serial) ⊎ HasAway s.tree serial position → HasAway s.tree serial position
      was position (inl e) = absurd (omega arith)
      was position (inr is) = is

  slot_within : (claimed : ClaimedSlot) → Contains (claim_of g new (plain last new.tree) job).homes claimed → SlotWithin claimed (claim_of g s (plain shelf s.tree) job).homes
  unfolding claim_of
  slot_within claimed listed =
      let found = out_filter_map (λ t. home_if (nat_eq (volume_of g.volumes t) job.volume) new.tree (plain last new.tree) (place_of g.volumes t) (get_or new.slots t Free)) (range_with_len 0 (length new.slots)) claimed listed in
      let both = if_home (nat_eq (volume_of g.volumes found.0) job.volume) new.tree (plain last new.tree) (place_of g.volumes found.0) (get_or new.slots found.0 Free) claimed found.2 in
      let home = home_is new.tree (plain last new.tree) (place_of g.volumes found.0) (get_or new.slots found.0 Free) claimed both.1 in
      by_home found.0 home.0 both.0 home.2 (elim (homes found.0 home.0 home.1) as (λ _. get_or s.slots found.0 Free ≡ Home home.0) [
        | inl was ↦ was
        | inr none ↦ let volume : volume_of g.volumes found.0 ≡ job.volume = (let test = both.0 in grind (arith, nat_tests)) in absurd (none job still (sym volume))
      ])
    where
      by_home : (t serial : ℕ) → nat_eq (volume_of g.volumes t) job.volume ≡ true → claimed ≡ record { place = place_of g.volumes t; segment = segment_claimed new.tree (plain last new.tree) serial } → get_or s.slots t Free ≡ Home serial → SlotWithin claimed (claim_of g s (plain shelf s.tree) job).homes
      by_home t serial on is was = record {
        other = record { place = place_of g.volumes t; segment = segment_claimed s.tree (plain shelf s.tree) serial };
        listed = in_filter_map (λ t. home_if (nat_eq (volume_of g.volumes t) job.volume) s.tree (plain shelf s.tree) (place_of g.volumes t) (get_or s.slots t Free)) (range_with_len 0 (length s.slots)) t _
            (in_range 0 (length s.slots) t (let low : 0 ≤ t = omega arith in low) (let high = is_there serial_of s.slots t Free (λ e. let wrong : Some serial ≡ None = sym (ap serial_of was) ∙ e in cc) in omega arith))
            (ap (λ b. home_if b s.tree (plain shelf s.tree) (place_of g.volumes t) (get_or s.slots t Free)) on ∙ ap (claimed_home s.tree (plain shelf s.tree) (place_of g.volumes t)) was);
        place = ap (λ (c : ClaimedSlot). c.place) is;
        segment = subst (λ (c : ClaimedSlot). SegmentWithin c.segment (segment_claimed s.tree (plain shelf s.tree) serial)) (sym is) (within serial (cache.matched.below t serial (ap serial_of was)));
      }

  copy_within : (kind : JobKind) → CopyWithin (copied_by kind new.tree (plain last new.tree) job.serial) (copied_by kind s.tree (plain shelf s.tree) job.serial)
  copy_within Copy = within job.serial (cache.matched.below job.tseg job.serial (ap serial_of (cache.jobs.each job out).slot ∙ serial_in job.kind job.line job.serial))
  copy_within Fetch = tt

  pub claim_within : IsNoGreater (claim_of g new (plain last new.tree) job) (claim_of g s (plain shelf s.tree) job)
  unfolding claim_of
  claim_within = record { homes = slot_within; copied = copy_within job.kind }

module _ (g : Layout) (shelf : Shelf) (mid : Middles) (before : State) (event : SiteEvent) (after : State) (site : IsSite shelf before.site) (cache : IsCache g before.site) (allowed : IsAllowed before.site event) (room : before.site.next_serial < 2 ^ 64 - 1)
    (runs : after.site.stopped ≡ None) where
  abbrev Facts : SiteState → Type 0
  Facts new = Homes g before.site new × Aways g shelf before.site site new

  by_told : (log : LogUse) (answer : SiteAnswer) (told : Ruled) → rules g before.site log shelf event ≡ told → told_of before.site told ≡ (answer, after.site) → Facts after.site
  by_told log answer (Ok told) is e = let same : rules g before.site log shelf event ≡ Ok (answer, after.site) = is ∙ ap Ok e in
      (keeps_homes g before.site cache log shelf event allowed answer after.site same, keeps_aways g shelf before.site site log event answer after.site same)
  by_told log answer (Err why) is e = subst (λ (p : SiteAnswer × SiteState). Facts p.1) e (same_slots g before.site before.site refl, aways_before g shelf before.site site)

  by_rules : (answer : SiteAnswer) → IsRuled g shelf mid before event answer after → Facts after.site
  by_rules answer told = by_told mid.first answer (rules g before.site mid.first shelf event) refl told.told

  left_by : (event : SiteEvent) → Facts (given_up g before.site event)
  left_by (EndJob job) = (same_slots g before.site (given_up g before.site (EndJob job)) refl, aways_before g shelf before.site site)
  left_by event = (same_slots g before.site before.site refl, aways_before g shelf before.site site)

  gives_up : IsGivenUp g before event after → Facts after.site
  gives_up up = subst Facts (sym up.left) (left_by event)

  facts : (answer : SiteAnswer) → SiteStep g shelf mid before event answer after → Facts after.site
  facts answers.Memory (may, step) = gives_up step
  facts answers.LogFull (full, step) = gives_up step
  facts answers.Eio step = gives_up (failed_gives_up g shelf mid before event after runs step)
  facts answer step = by_rules answer step

  -- the claim of a job that stays out is no greater behind a step
  pub step_keeps_claims : (answer : SiteAnswer) → Writes g shelf before.site mid.segment event answer → SiteStep g shelf mid before event answer after → (job : JobNote) → IsOut job before.site.jobs → IsOut job after.site.jobs
      → IsNoGreater (claim_of g after.site (plain (shelf_after shelf before.site.next_serial mid.segment answer) after.site.tree) job) (claim_of g before.site (plain shelf before.site.tree) job)
  step_keeps_claims answer writes step job out still =
      let both = facts answer step in
      claim_within g shelf (shelf_after shelf before.site.next_serial mid.segment answer) before.site after.site site cache
      (step_in_plain g shelf mid before event after site room answer writes runs step).1
      (λ serial less. old_segment shelf before.site.next_serial mid.segment answer serial less) both.0 both.1 job out still
