-- What a site leaves of its lines, slots and jobs is theirs again: the shapes of change.
use Rattle.std.proofs.Common.{arith, ◌≡◌, ◌≢◌, ℕ, ◌-◌, ◌<◌, ◌≤◌, ◌⊎◌, true, false, List, [], ◌∷◌, ◌++◌, get_or, set, filter, length, length-set, Some, None, refl, ap, ◌∙◌, sym, subst, inl, inr}
use Rattle.hl_addr.specs.Layout.{Layout}
use Rattle.hl_addr.specs.Slots.{volume_of, place_of}
use Rattle.hl_tseg.specs.Slots.{serial_of}
use Rattle.hl_tseg.specs.declared.slot.Slot.{Slot}
use Rattle.hl_tseg.specs.declared.slot.Slot.TheVariants.{Free, Staged, Home, Spoilt}
use Rattle.hl_model.specs.Cache.{IsOut, IsOrder, AreMatched, AreJobs, IsJobOf, state_in, slot_in}
use Rattle.hl_media.specs.declared.job.JobNote.{JobNote}
use Rattle.hl_media.specs.declared.job.JobKind.{JobKind}
use Rattle.hl_media.specs.declared.job.JobKind.TheVariants.{Copy, Fetch}
use Rattle.hl_lines.specs.declared.state.LineState.{LineState}
use Rattle.hl_lines.specs.declared.state.LineState.TheVariants.{Empty, Clean, Staging, Stuck, Aside}
use Rattle.hl_lines.specs.Lines.{all_but, clean_segment, held_segment, is_clean, is_empty, is_held, used}
use Rattle.hl_model.specs.Lines.{count_held, is_home}
use Rattle.hl_model.proofs.Counting.{held-dropped, held-kept}
use Rattle.hl_model.proofs.Matching.{matched-alike, matched-dropped, matched-staged, matched-bound, matched-homed, matched-spoilt, gone_serial}
use Rattle.hl_model.proofs.Orders.{order-out, order-set, order-in}
use Rattle.hl_model.proofs.Outs.{is_of_other, jobs-set, jobs-copied, jobs-fetched, jobs-copying, jobs-fetching, left-others}
use Rattle.hl_model.proofs.Sets.{at_set, set-set, is_there, true_false}

-- WHAT A LINE THAT MAY BE TAKEN IS

abbrev pub IsIdle : LineState → Type 0
IsIdle line = (is_empty line ≡ true) ⊎ (is_clean line ≡ true)

idle_held : (line : LineState) → IsIdle line → held_segment line ≡ None
idle_held Empty idle = refl
idle_held (Clean t) idle = refl
idle_held (Staging t) (inl e) = cc
idle_held (Staging t) (inr e) = cc
idle_held (Stuck t) (inl e) = cc
idle_held (Stuck t) (inr e) = cc
idle_held Aside idle = refl

job_idle : (kind : JobKind) (t : ℕ) → IsIdle (state_in kind t) → ⊥
job_idle Copy t (inl e) = cc
job_idle Copy t (inr e) = cc
job_idle Fetch t (inl e) = cc
job_idle Fetch t (inr e) = cc

job_not_clean : (kind : JobKind) (t : ℕ) → is_clean (state_in kind t) ≡ false
job_not_clean Copy t = refl
job_not_clean Fetch t = refl

job_not_empty : (kind : JobKind) (t : ℕ) → is_empty (state_in kind t) ≡ false
job_not_empty Copy t = refl
job_not_empty Fetch t = refl

slot_not_free : (kind : JobKind) (line serial : ℕ) → slot_in kind line serial ≡ Free → ⊥
slot_not_free Copy line serial e = cc
slot_not_free Fetch line serial e = cc

-- the parts that say where lines, slots and jobs stand, of lines, slots and jobs alone
pub record Parts (g : Layout) (slots : List Slot) (lines : List LineState) (order : List ℕ) (jobs : List JobNote) (next : ℕ) : Type 0 where
  pub ordered : IsOrder lines order
  pub matched : AreMatched slots lines next
  pub held : count_held lines ≤ g.lines - 12
  pub outs : AreJobs g slots lines jobs

module _ (g : Layout) (slots : List Slot) (lines : List LineState) (order : List ℕ) (jobs : List JobNote) (next : ℕ) (p : Parts g slots lines order jobs next) where
  -- a job has no line that may be taken
  pub no_job : (v : ℕ) → IsIdle (get_or lines v Empty) → (job : JobNote) → IsOut job jobs → job.line ≢ v
  no_job v idle job out e = job_idle job.kind job.tseg (subst IsIdle (p.outs.each job out).line (subst (λ n. IsIdle (get_or lines n Empty)) (sym e) idle))

  -- such a line is empty, and out of the order
  pub parts-dropped : (v : ℕ) → v < length lines → IsIdle (get_or lines v Empty) → Parts g slots (set lines v Empty) (all_but v order) jobs next
  parts-dropped v within idle = record {
    ordered = order-out lines order p.ordered v Empty within refl;
    matched = matched-dropped slots lines next p.matched v within (idle_held (get_or lines v Empty) idle);
    held = let less = held-dropped lines v Empty refl in let was = p.held in omega arith;
    outs = jobs-set g slots lines jobs p.outs slots v Empty within refl (no_job v idle) (λ job out. refl) (λ job out fetch e. let wrong : None ≡ Some job.tseg = e in cc);
  }

  -- a job's slot isn't free
  pub not_free : (t : ℕ) → get_or slots t Free ≡ Free → (job : JobNote) → IsOut job jobs → job.tseg ≢ t
  not_free t free job out e = slot_not_free job.kind job.line job.serial (sym (p.outs.each job out).slot ∙ ap (λ n. get_or slots n Free) e ∙ free)

  -- an empty line takes the segment of a free slot
  pub parts-staged : (v t serial later : ℕ) → v < length lines → get_or lines v Empty ≡ Empty → t < length slots → get_or slots t Free ≡ Free
      → ((u : ℕ) → serial_of (get_or slots u Free) ≡ Some serial → ⊥) → serial < later → next ≤ later → count_held (set lines v (Staging t)) ≤ g.lines - 12
      → Parts g (set slots t (Staged v serial)) (set lines v (Staging t)) order jobs later
  parts-staged v t serial later within empty there free fresh low up few = record {
    ordered = order-set lines order p.ordered v (Staging t) within (ap is_clean empty) refl;
    matched = matched-staged slots lines next p.matched v t serial later within (ap held_segment empty) there free fresh low up;
    held = few;
    outs = jobs-set g slots lines jobs p.outs (set slots t (Staged v serial)) v (Staging t) within refl
        (no_job v (inl (ap is_empty empty)))
        (λ job out. at_set slots t (Staged v serial) Free job.tseg there (λ same _. absurd (not_free t free job out same)) (λ _ old. old))
        (λ job out fetch e. let wrong : None ≡ Some job.tseg = e in cc);
  }

  module _ (new : JobNote) (few : length jobs < 2) (volumes : (job : JobNote) → IsOut job jobs → job.volume ≢ new.volume) where
    -- an empty line is set aside for a fetch
    pub parts-fetching : new.kind ≡ Fetch → new.line < length lines → get_or lines new.line Empty ≡ Empty → get_or slots new.tseg Free ≡ Home new.serial
        → new.volume ≡ volume_of g.volumes new.tseg → new.slot ≡ place_of g.volumes new.tseg → ((i : ℕ) → clean_segment (get_or lines i Empty) ≡ Some new.tseg → ⊥)
        → Parts g slots (set lines new.line Aside) order (jobs ++ new ∷ []) next
    parts-fetching kind within empty home volume place alone = record {
      ordered = order-set lines order p.ordered new.line Aside within (ap is_clean empty) refl;
      matched = matched-alike slots lines next p.matched new.line Aside (sym (ap held_segment empty)) (sym (ap clean_segment empty));
      held = let less = held-dropped lines new.line Aside refl in let was = p.held in omega arith;
      outs = jobs-fetching g slots lines jobs p.outs new few volumes (no_job new.line (inl (ap is_empty empty))) within (record {
        line = at_set lines new.line Aside Empty new.line within (λ _ set. set) (λ differ _. absurd (differ refl)) ∙ ap (λ k. state_in k new.tseg) (sym kind);
        slot = home ∙ ap (λ k. slot_in k new.line new.serial) (sym kind);
        volume = volume;
        place = place;
        alone = λ fetch i e. at_set lines new.line Aside Empty i within (λ _ set. let wrong : None ≡ Some new.tseg = sym (ap clean_segment set) ∙ e in cc) (λ _ old. alone i (sym (ap clean_segment old) ∙ e));
      });
    }

    -- a copy goes out
    pub parts-copying : new.kind ≡ Copy → get_or lines new.line Empty ≡ Staging new.tseg → get_or slots new.tseg Free ≡ Staged new.line new.serial
        → new.volume ≡ volume_of g.volumes new.tseg → new.slot ≡ place_of g.volumes new.tseg → ((job : JobNote) → IsOut job jobs → job.line ≢ new.line)
        → Parts g slots lines order (jobs ++ new ∷ []) next
    parts-copying kind staging slot volume place alone = record {
      ordered = p.ordered;
      matched = p.matched;
      held = p.held;
      outs = jobs-copying g slots lines jobs p.outs new few volumes alone (record {
        line = staging ∙ ap (λ k. state_in k new.tseg) (sym kind);
        slot = slot ∙ ap (λ k. slot_in k new.line new.serial) (sym kind);
        volume = volume;
        place = place;
        alone = λ fetch i e. no_kind new.kind kind fetch;
      });
    }
      where
        no_kind : (k : JobKind) → k ≡ Copy → k ≡ Fetch → ⊥
        no_kind k e f = cc

  -- THE ENDS OF A JOB

  module _ (over : JobNote) (out : IsOut over jobs) where
    abbrev i : ℕ
    i = over.line

    abbrev t : ℕ
    t = over.tseg

    abbrev rest : List JobNote
    rest = filter (is_of_other over.volume) jobs

    of : IsJobOf g slots lines over
    of = p.outs.each over out

    pub line_there : i < length lines
    line_there = is_there is_empty lines i Empty (λ e. true_false (is_empty (get_or lines i Empty)) e (ap is_empty of.line ∙ job_not_empty over.kind t))

    -- a fetch is over
    pub parts-fetched : over.kind ≡ Fetch → Parts g slots (set lines i Empty) order rest next
    parts-fetched fetch = record {
      ordered = order-set lines order p.ordered i Empty line_there (ap is_clean of.line ∙ job_not_clean over.kind t) refl;
      matched = matched-alike slots lines next p.matched i Empty (sym (ap held_segment aside)) (sym (ap clean_segment aside));
      held = let less = held-dropped lines i Empty refl in let was = p.held in omega arith;
      outs = jobs-fetched g slots lines jobs p.outs over out line_there;
    }
      where
        aside : get_or lines i Empty ≡ Aside
        aside = of.line ∙ ap (λ k. state_in k t) fetch

    -- its line takes the segment
    pub parts-bound : over.kind ≡ Fetch → Parts g slots (set lines i (Clean t)) (used i order) rest next
    parts-bound fetch = subst (λ ls. Parts g slots ls (used i order) rest next) (set-set lines i Empty (Clean t)) (record {
      ordered = order-in (set lines i Empty) order fetched.ordered i (Clean t) within refl;
      matched = matched-bound slots (set lines i Empty) next fetched.matched i t within (ap held_segment empty) (ap is_home home) none;
      held = let less = held-dropped (set lines i Empty) i (Clean t) refl in let was = fetched.held in omega arith;
      outs = jobs-set g slots (set lines i Empty) rest fetched.outs slots i (Clean t) within refl
          (λ job is. (left-others g slots lines jobs p.outs over out job is).1)
          (λ job is. refl)
          (λ job is kind e. let others = left-others g slots lines jobs p.outs over out job is in
          let same : t ≡ job.tseg = some_same t job.tseg e in
          others.2 ((p.outs.each job others.0).volume ∙ ap (volume_of g.volumes) (sym same) ∙ sym of.volume));
    })
      where
        fetched : Parts g slots (set lines i Empty) order rest next
        fetched = parts-fetched fetch

        within : i < length (set lines i Empty)
        within = let long = length-set lines i Empty in let low = line_there in omega arith

        empty : get_or (set lines i Empty) i Empty ≡ Empty
        empty = at_set lines i Empty Empty i line_there (λ _ set. set) (λ differ _. absurd (differ refl))

        home : get_or slots t Free ≡ Home over.serial
        home = of.slot ∙ ap (λ k. slot_in k i over.serial) fetch

        none : (j : ℕ) → clean_segment (get_or (set lines i Empty) j Empty) ≡ Some t → ⊥
        none j e = at_set lines i Empty Empty j line_there (λ _ set. let wrong : None ≡ Some t = sym (ap clean_segment set) ∙ e in cc) (λ _ old. of.alone fetch j (sym (ap clean_segment old) ∙ e))

        some_same : (a b : ℕ) → Some a ≡ Some b → a ≡ b
        some_same a b e = cc

    module _ (copy : over.kind ≡ Copy) where
      staging : get_or lines i Empty ≡ Staging t
      staging = of.line ∙ ap (λ k. state_in k t) copy

      staged : get_or slots t Free ≡ Staged i over.serial
      staged = of.slot ∙ ap (λ k. slot_in k i over.serial) copy

      slot_there : t < length slots
      slot_there = is_there serial_of slots t Free (λ e. let wrong : Some over.serial ≡ None = sym (ap serial_of staged) ∙ e in cc)

      -- the copy is over, and its line stays
      pub parts-copied : Parts g slots lines order rest next
      parts-copied = record { ordered = p.ordered; matched = p.matched; held = p.held; outs = jobs-copied g slots lines jobs p.outs over out copy }

      no_line : (job : JobNote) → IsOut job rest → job.line ≢ i
      no_line job is = (left-others g slots lines jobs p.outs over out job is).1

      -- no job that is left has its slot
      no_slot : (job : JobNote) → IsOut job rest → job.tseg ≢ t
      no_slot job is e = let others = left-others g slots lines jobs p.outs over out job is in
          others.2 ((p.outs.each job others.0).volume ∙ ap (volume_of g.volumes) e ∙ sym of.volume)

      -- the segment is home
      pub parts-homed : Parts g (set slots t (Home over.serial)) (set lines i (Clean t)) (used i order) rest next
      parts-homed = record {
        ordered = order-in lines order p.ordered i (Clean t) line_there refl;
        matched = matched-homed slots lines next p.matched i t over.serial line_there slot_there staging staged;
        held = let less = held-dropped lines i (Clean t) refl in let was = p.held in omega arith;
        outs = jobs-set g slots lines rest parts-copied.outs (set slots t (Home over.serial)) i (Clean t) line_there refl no_line
            (λ job is. at_set slots t (Home over.serial) Free job.tseg slot_there (λ same _. absurd (no_slot job is same)) (λ _ old. old))
            (λ job is fetch e. let same : t ≡ job.tseg = some_same t job.tseg e in no_slot job is (sym same));
      }
        where
          some_same : (a b : ℕ) → Some a ≡ Some b → a ≡ b
          some_same a b e = cc

      -- the line is stuck
      pub parts-stuck : Parts g slots (set lines i (Stuck t)) order rest next
      parts-stuck = record {
        ordered = order-set lines order p.ordered i (Stuck t) line_there (ap is_clean staging) refl;
        matched = matched-alike slots lines next p.matched i (Stuck t) (sym (ap held_segment staging)) (sym (ap clean_segment staging));
        held = let less = held-kept lines i (Stuck t) (ap is_held staging) in let was = p.held in omega arith;
        outs = jobs-set g slots lines rest parts-copied.outs slots i (Stuck t) line_there refl no_line (λ job is. refl) (λ job is fetch e. let wrong : None ≡ Some job.tseg = e in cc);
      }

      -- the segment has another slot, with its line and its serial
      pub parts-moved : (u : ℕ) → u < length slots → get_or slots u Free ≡ Free → Parts g (set (set slots t Spoilt) u (Staged i over.serial)) (set lines i (Staging u)) order rest next
      parts-moved u low free = subst (λ ls. Parts g (set (set slots t Spoilt) u (Staged i over.serial)) ls order rest next) (set-set lines i Empty (Staging u))
          (parts-staged-again (record {
            ordered = order-set lines order p.ordered i Empty line_there (ap is_clean staging) refl;
            matched = matched-spoilt slots lines next p.matched i t over.serial line_there slot_there staging staged;
            held = let less = held-dropped lines i Empty refl in let was = p.held in omega arith;
            outs = jobs-set g slots lines rest parts-copied.outs (set slots t Spoilt) i Empty line_there refl no_line
                (λ job is. at_set slots t Spoilt Free job.tseg slot_there (λ same _. absurd (no_slot job is same)) (λ _ old. old))
                (λ job is fetch e. let wrong : None ≡ Some job.tseg = e in cc);
          }))
        where
          within : i < length (set lines i Empty)
          within = let long = length-set lines i Empty in let low = line_there in omega arith

          empty : get_or (set lines i Empty) i Empty ≡ Empty
          empty = at_set lines i Empty Empty i line_there (λ _ set. set) (λ differ _. absurd (differ refl))

          still_free : get_or (set slots t Spoilt) u Free ≡ Free
          still_free = at_set slots t Spoilt Free u slot_there
              (λ same _. let wrong : Free ≡ Staged i over.serial = sym free ∙ ap (λ n. get_or slots n Free) same ∙ staged in cc)
              (λ _ old. old ∙ free)

          few : count_held (set (set lines i Empty) i (Staging u)) ≤ g.lines - 12
          few = let less = held-kept lines i (Staging u) (ap is_held staging) in let was = p.held in let same = ap count_held (set-set lines i Empty (Staging u)) in omega arith

          parts-staged-again : Parts g (set slots t Spoilt) (set lines i Empty) order rest next → Parts g (set (set slots t Spoilt) u (Staged i over.serial)) (set (set lines i Empty) i (Staging u)) order rest next
          parts-staged-again q = record {
            ordered = order-set (set lines i Empty) order q.ordered i (Staging u) within (ap is_clean empty) refl;
            matched = matched-staged (set slots t Spoilt) (set lines i Empty) next q.matched i u over.serial next within (ap held_segment empty) (let long = length-set slots t Spoilt in omega arith) still_free
                (gone_serial slots lines next p.matched i t over.serial line_there slot_there staging staged)
                (p.matched.below t over.serial (ap serial_of staged)) (let same : next ≤ next = omega arith in same);
            held = few;
            outs = jobs-set g (set slots t Spoilt) (set lines i Empty) rest q.outs (set (set slots t Spoilt) u (Staged i over.serial)) i (Staging u) within refl no_line
                (λ job is. at_set (set slots t Spoilt) u (Staged i over.serial) Free job.tseg (let long = length-set slots t Spoilt in omega arith)
                (λ same _. absurd (slot_not_free job.kind job.line job.serial (sym (q.outs.each job is).slot ∙ ap (λ n. get_or (set slots t Spoilt) n Free) same ∙ still_free))) (λ _ old. old))
                (λ job is fetch e. let wrong : None ≡ Some job.tseg = e in cc);
          }
