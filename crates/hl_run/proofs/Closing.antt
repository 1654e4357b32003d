-- A run between its mount and its closing.
use Rattle.std.proofs.Common.{◌≡◌, ◌+◌, inl, inr, ⊎_elim, ℕ, true, false, IsTrue, List, [], ◌∷◌, ◌++◌, length, Option, Some, None, Result, Ok, Err, OnOk, refl, sym, ap, subst, ◌∙◌, arith, append-nil}
use Rattle.std.specs.Prelude.{IfSome}
use Rattle.std.proofs.lemmas.List.{append_cancel_left}
use Rattle.hl_media.specs.History.{DeviceCall, History, MachineState, state_now, with_calls}
use Rattle.hl_media.specs.Moments.{AtEach, AtEachMomentSince, Now, Runs}
use Rattle.hl_media.specs.Moments.{Ends as LastMoment}
use Rattle.hl_media.proofs.Runs.{goes_on, ends_then, ends_of_run, at_each_moment, AtEach-map}
use Rattle.hl_tree.specs.PlainValue.{Plain}
use Rattle.hl_tree.specs.Rules.{Files}
use Rattle.hl_tree.specs.declared.call.Limits.{Limits}
use Rattle.hl_dump.specs.Dumps.{dump_limits}
use Rattle.hl_disk.specs.Disks.{StandsFor}
use Rattle.hl_disk.specs.Saves.{IsSaving, HasSaved}
use Rattle.hl_disk.specs.Stops.{IsSettled}
use Rattle.hl_run.specs.Run.{DoneLine, Ends, Ran, RanBy, OpensWith, Moment, IsPoint, KeepsLines, closes, tree_after, tree_at, last_sync, answers, whole_lines}
use Rattle.hl_run.specs.Turn.{Held}
use Rattle.hl_run.specs.Runs.{Rests, LeavesLines}
use Rattle.hl_run.proofs.Hearing.{whole_lines-append, whole_lines-answers}
use Rattle.hl_run.proofs.Points.{reaches_either, last_sync_le, last_sync-past, tree_at-all}
use Rattle.hl_run.proofs.Turning.{now_then, never}
use Rattle.hl_run.specs.declared.end.End.{End}
use Rattle.hl_run.specs.declared.end.End.TheVariants.{Finished, BadLine, Output, Broken, Input, Memory, TooLong}

-- what holds at the first of some moments
AtEach-here : (P : MachineState → Type 0) (s : MachineState) (calls : List DeviceCall) → AtEach P s calls → P s
AtEach-here P s [] each = each
AtEach-here P s (call ∷ calls) each = each.0

-- what the disk stands for stays where it is only read
pub opens_behind : (blocks n : ℕ) (tree : Files) (before mid : Option History) → Now before (λ s. StandsFor blocks s.content n tree) → Runs before mid (λ first s. s ≡ first) → Now mid (λ s. StandsFor blocks s.content n tree)
opens_behind blocks n tree before mid stands still = now_then before mid still.calls still.is (λ s. StandsFor blocks s.content n tree) (λ first s. s ≡ first) (λ s. StandsFor blocks s.content n tree)
    stands (ends_of_run before mid (λ first s. s ≡ first) still) (λ m s p same. subst (λ (x : MachineState). StandsFor blocks x.content n tree) (sym same) p)

-- the ends, by other causes
ends_map : (C C' B B' : Type 0) → (C → C') → (B → B') → (limits : Limits) (limit : ℕ) (opening : Files) (input : List ℕ) (done more : List DoneLine) (rest last : List ℕ) (end : End)
    → Ends C B limits limit opening input done more rest last end → Ends C' B' limits limit opening input done more rest last end
ends_map C C' B B' c b limits limit opening input done more rest last Finished e = e
ends_map C C' B B' c b limits limit opening input done more rest last BadLine e =
    (e.0, (e.1.0, e.1.1, e.1.2, e.1.3, ⊎_elim (λ whole. inl whole) (λ part. inr (c part.0, part.1)) e.1.4))
ends_map C C' B B' c b limits limit opening input done more rest last Output e = (e.0, e.1, e.2, e.3, c e.4, e.5)
ends_map C C' B B' c b limits limit opening input done more rest last Broken e =
    (e.0, e.1, e.2, e.3, b e.4, ⊎_elim (λ whole. inl whole) (λ part. inr (c part.0, part.1)) e.5)
ends_map C C' B B' c b limits limit opening input done more rest last Input e = e
ends_map C C' B B' c b limits limit opening input done more rest last Memory e = e
ends_map C C' B B' c b limits limit opening input done more rest last TooLong e = e

-- behind an end that closes no line is left without its answer
no_more : (C B : Type 0) (limits : Limits) (limit : ℕ) (opening : Files) (input : List ℕ) (done more : List DoneLine) (rest last : List ℕ) (end : End)
    → IsTrue (closes end) → Ends C B limits limit opening input done more rest last end → more ≡ []
no_more C B limits limit opening input done more rest last Finished closed e = e.0
no_more C B limits limit opening input done more rest last BadLine closed e = e.0
no_more C B limits limit opening input done more rest last Output closed e = absurd (never closed)
no_more C B limits limit opening input done more rest last Broken closed e = absurd (never closed)
no_more C B limits limit opening input done more rest last Input closed e = e.0
no_more C B limits limit opening input done more rest last Memory closed e = e.0
no_more C B limits limit opening input done more rest last TooLong closed e = e.0

module _ (blocks : ℕ) (old new : Held) (Clocked : List DoneLine → Type 0) (C C' B B' : Type 0) (c : C → C') (b : B → B') (limit : ℕ) (input : List ℕ) (end : End) (before mid now : Option History)
    (opens : Now before (λ s. StandsFor blocks s.content old.number old.files.tree)) (still : Runs before mid (λ first s. s ≡ first))
    (ran : RanBy Runs C B (LeavesLines blocks old new mid now end) Clocked blocks dump_limits limit old.files.tree input end mid now) where
  abbrev opening : Files
  opening = old.files.tree

  abbrev r : Ran C B dump_limits limit opening input end ran.0
  r = ran.1

  abbrev lines : List DoneLine
  lines = r.done ++ r.more

  abbrev ran_so : Ran C' B' dump_limits limit opening input end ran.0
  ran_so = record {
    done = r.done;
    more = r.more;
    rest = r.rest;
    last = r.last;
    cut = r.cut;
    within = r.within;
    good = r.good;
    plain = r.plain;
    said = r.said;
    ends = ends_map C C' B B' c b dump_limits limit opening input r.done r.more r.rest r.last end r.ends;
  }

  abbrev P : MachineState → MachineState → Type 0
  P = Moment blocks dump_limits opening lines ran.0

  -- what holds as the run begins
  at_first : (h : History) → before ≡ Some h → P (state_now h) (state_now h)
  at_first h e =
      let h' : History = record { opening = h.opening; calls = h.calls ++ still.calls } in
      let told : mid ≡ Some h' = still.is ∙ ap (with_calls still.calls) e in
      let last : state_now h' ≡ state_now h = ends_of_run before mid (λ first s. s ≡ first) still h e h' told in
      subst (λ (x : MachineState). P x x) last (AtEach-here (P (state_now h')) (state_now h') ran.3.calls (ran.3.each h' told))

  mounting_moments : Runs before mid P
  mounting_moments = record {
    calls = still.calls;
    is = still.is;
    each = λ h e. AtEach-map (λ s. s ≡ state_now h) (P (state_now h)) (λ s same. subst (λ (x : MachineState). P (state_now h) x) (sym same) (at_first h e)) (state_now h) still.calls (still.each h e);
  }

  same_first : LastMoment before mid (λ first s. s ≡ first)
  same_first = ends_of_run before mid (λ first s. s ≡ first) still

  -- the moments since the mount began
  moments_since : Runs before now P
  moments_since = goes_on before mid now P P (λ first s. s ≡ first) mounting_moments same_first ran.3
      (λ first m s same moment. subst (λ (x : MachineState). P x s) same moment)

  spoken_since : LastMoment before now (λ first s. s.said ≡ first.said ++ ran.0)
  spoken_since = ends_then before mid now ran.3.calls ran.3.is (λ first s. s ≡ first) (λ m s. s.said ≡ m.said ++ ran.0) (λ first s. s.said ≡ first.said ++ ran.0) same_first ran.2
      (λ first m s same told. told ∙ ap (λ (x : MachineState). x.said ++ ran.0) same)

  opens_with : OpensWith blocks before opening
  opens_with h e = (old.number, opens h e)

  -- a run that isn't closed
  pub unclosed : closes end ≡ false
      → (opening : Files) × OpensWith blocks before opening × RanBy AtEachMomentSince C' B' (KeepsLines blocks now end opening) Clocked blocks dump_limits limit opening input end before now
  unclosed open_end = (
    opening,
    opens_with,
    (ran.0, ran_so, spoken_since, at_each_moment before now P moments_since, λ closed. absurd (let h : false ≡ true = sym open_end ∙ closed in never h), ran.5),
  )

  -- ---- closing

  module _ (last : Option History) (closed : IsTrue (closes end)) (saving : Runs now last (IsSaving blocks new.number new.files.tree)) where
    leaves : (new.files ≡ record { limits = dump_limits; tree = tree_after dump_limits opening r.done }) × Rests blocks old new mid now r.done
    leaves = ran.4 closed

    tree_is : new.files.tree ≡ tree_after dump_limits opening r.done
    tree_is = ap (λ (p : Plain). p.tree) leaves.0

    alone_lines : lines ≡ r.done
    alone_lines = ap (λ l. r.done ++ l) (no_more C B dump_limits limit opening input r.done r.more r.rest r.last end closed r.ends) ∙ append-nil r.done

    abbrev T : Files
    T = tree_at dump_limits opening r.done (last_sync r.done (length r.done))

    -- what is known as the closing begins
    record Before (first m : MachineState) : Type 0 where
      moment : P first m
      said : m.said ≡ first.said ++ ran.0
      settled : (number : ℕ) → IsSettled blocks number opening first → IsSettled blocks new.number T m

    before_closing : LastMoment before now Before
    before_closing h e h' e' = record {
      moment = ends_of_run before now P moments_since h e h' e';
      said = spoken_since h e h' e';
      settled = ends_then before mid now ran.3.calls ran.3.is (λ first s. s ≡ first) (λ m s. (number : ℕ) → IsSettled blocks number opening m → IsSettled blocks new.number T s)
          (λ first s. (number : ℕ) → IsSettled blocks number opening first → IsSettled blocks new.number T s) same_first leaves.1.settled
          (λ first m s same settled number at_first. settled number (subst (λ (x : MachineState). IsSettled blocks number opening x) (sym same) at_first)) h e h' e';
    }

    closing_moment : (first m s : MachineState) → Before first m → IsSaving blocks new.number new.files.tree m s → P first s
    closing_moment first m s known saves =
        let has = known.moment.said in
        let same_text : has.text ≡ ran.0 = append_cancel_left first.said has.text ran.0 (sym has.said ∙ known.said) in
        let count : whole_lines has.text ≡ length r.done + whole_lines r.last =
        (let both = whole_lines-append (answers r.done) r.last in let all = whole_lines-answers r.done in let e : whole_lines has.text ≡ whole_lines (answers r.done ++ r.last) = ap whole_lines (same_text ∙ r.said) in omega (arith, both, all, e)) in
        let n = length r.done in
        let at_most = last_sync_le r.done n in
        let past = last_sync-past r.done (whole_lines r.last) in
        record {
          said = record { text = has.text; part = has.part; said = saves.said ∙ has.said; line_by_line = has.line_by_line; within = has.within };
          safe = λ number settled. subst (λ (l : List DoneLine). IsPoint blocks dump_limits opening l (whole_lines has.text) s) (sym alone_lines) (subst (λ (k : ℕ). IsPoint blocks dump_limits opening r.done k s) (sym count)
              (reaches_either dump_limits opening blocks r.done (last_sync r.done (n + whole_lines r.last)) (last_sync r.done n) n (n + whole_lines r.last) new.number T new.files.tree s
              (omega (arith, past)) (omega (arith, at_most)) (omega (arith, past, at_most)) (omega arith) refl (tree_is ∙ sym (tree_at-all dump_limits opening r.done n (omega arith)))
              (saves.leaves T (known.settled number settled))));
        }

    closing_moments : Runs before last P
    closing_moments = goes_on before now last P (IsSaving blocks new.number new.files.tree) Before moments_since before_closing saving closing_moment

    spoken_last : LastMoment before last (λ first s. s.said ≡ first.said ++ ran.0)
    spoken_last = ends_then before now last saving.calls saving.is (λ first s. s.said ≡ first.said ++ ran.0) (IsSaving blocks new.number new.files.tree) (λ first s. s.said ≡ first.said ++ ran.0) spoken_since
        (ends_of_run now last (IsSaving blocks new.number new.files.tree) saving) (λ first m s b q. q.said ∙ b)

    -- a run whose files couldn't be kept behind it
    pub closing_failed : (opening : Files) × OpensWith blocks before opening × RanBy AtEachMomentSince C' B' (λ done. Unit {0}) Clocked blocks dump_limits limit opening input end before last
    closing_failed = (opening, opens_with, (ran.0, ran_so, spoken_last, at_each_moment before last P closing_moments, tt, ran.5))

    -- a run that is closed
    pub closing_done : LastMoment now last (HasSaved blocks new.number new.files.tree)
        → (opening : Files) × OpensWith blocks before opening × RanBy AtEachMomentSince C' B' (KeepsLines blocks last end opening) Clocked blocks dump_limits limit opening input end before last
    closing_done saved = (
      opening,
      opens_with,
      (
        ran.0,
        ran_so,
        spoken_last,
        at_each_moment before last P closing_moments,
        λ _. now_then now last saving.calls saving.is (λ m. StandsFor blocks m.content new.number T) (HasSaved blocks new.number new.files.tree) (λ s. (number : ℕ) × IsSettled blocks number (tree_after dump_limits opening r.done) s)
            leaves.1.stands saved (λ m s stands kept. (new.number + 1, subst (λ (t : Files). IsSettled blocks (new.number + 1) t s) tree_is (kept T stands))),
        ran.5,
      ),
    )

-- where the input is known
pub if_known : {A : Type 0} {P Q : A → Type 0} (o : Option A) → ((x : A) → P x → Q x) → IfSome o P → IfSome o Q
if_known None step p = tt
if_known (Some x) step p = step x p

-- what holds of a result that is Ok
pub of_ok : {E X : Type 0} (r : Result (Unit {0}) E) (u : Unit {0}) → r ≡ Ok u → OnOk r X → X
of_ok (Ok u) v is x = x
of_ok (Err e) v is x = cc
