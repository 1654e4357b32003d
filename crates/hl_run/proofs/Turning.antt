-- A run, turn by turn.
use Rattle.std.proofs.Common.{suc, zero, ◌≡◌, ◌⊎◌, ◌≤◌, ◌+◌, ℕ, Bool, true, false, IsTrue, if◌then◌else◌, List, [], ◌∷◌, ◌++◌, length, map, Some, None, Ok, Err, Option, refl, sym, ap, subst, ◌∙◌, arith, append_assoc, append-nil, length-append, inl, inr, ⊎_elim}
use Rattle.std.specs.Prelude.{IfSome, All, option_map, ◌-◌}
use Rattle.std.specs.Option.{ForSome}
use Rattle.std.specs.Io.KnownBytes.{prepend_known}
use Rattle.std.proofs.lemmas.List.{map-append}
use Rattle.std.proofs.lemmas.List.Elements.{All-append, All-cons, All-nil}
use Rattle.std.proofs.lemmas.Grind.{flat_map-append}
use Rattle.hl_media.specs.History.{DeviceCall, History, Image, MachineState, state_now, with_calls}
use Rattle.hl_media.specs.History.DeviceCall.{Say}
use Rattle.hl_media.specs.Moments.{Now, Runs}
use Rattle.hl_media.specs.Moments.{Ends as LastMoment}
use Rattle.hl_media.specs.Saying.{Says}
use Rattle.hl_media.proofs.Runs.{goes_on, ends_then, ends_of_run, starts, told_before, AtEach-map}
use Rattle.hl_tree.specs.PlainValue.{Plain}
use Rattle.hl_tree.specs.Rules.{Files}
use Rattle.hl_tree.specs.declared.call.Call.TheVariants as calls
use Rattle.hl_tree.specs.declared.call.Limits.{Limits}
use Rattle.hl_script.specs.declared.line.Line.{Line}
use Rattle.hl_script.specs.declared.line.Line.TheVariants as line
use Rattle.hl_script.specs.declared.said.Said.{Said}
use Rattle.hl_script.specs.Spelling.{spelling}
use Rattle.hl_script.specs.Answer.{answer_line}
use Rattle.hl_script.specs.Input.{Ahead, lines_of, beyond}
use Rattle.hl_dump.specs.Dumps.{dump_limits}
use Rattle.hl_disk.specs.Disks.{StandsFor}
use Rattle.hl_disk.specs.Saves.{IsSaving, HasSaved}
use Rattle.hl_disk.specs.Stops.{IsSettled}
use Rattle.hl_disk.proofs.Settled.{nothing_saved}
use Rattle.hl_world.proofs.Lines.{acknowledged_is}
use Rattle.hl_world.specs.Worlds.{Does, KeepsDisk, is_eio}
use Rattle.hl_run.specs.Clocks.{times_after, time_at, IsAsked, Asks}
use Rattle.hl_run.proofs.Clocks.{place_of, timed_more, clocked_still, clocked_more, clocked_wanting, took_none}
use Rattle.hl_run.specs.Run.{AreTimed, IsClocked, DoneLine, IsGood, IsNext, IsPlain, IsBroken, ArePlain, is_reply, tree_after_line, tree_after, tree_at, last_sync, is_kept, answers, whole_lines, IsPart, Ends, Ran, IsPoint, Moment, RanBy, closes, KeepsLimits, PassesLimit, bad_text}
use Rattle.hl_run.specs.Turn.{Held, IsFirstLine, Step, Turns}
use Rattle.hl_run.specs.Runs.{OpensAs, Rests, LeavesLines}
use Rattle.hl_run.proofs.Hearing.{Heard, HasTold, says_end, text_heard, whole_lines-append, whole_lines-answers, whole_lines-part, part_of_answer, has_said, part_of_more, part_behind}
use Rattle.hl_run.proofs.Points.{same_number, same_settled, Reaches, wider, same_reach, more_lines, reaches_settled, reaches_either, last_sync_le, last_sync-more, last_sync-past, last_sync-kept, last_sync-other, tree_at-more, tree_at-all}
use Rattle.hl_run.specs.declared.end.End.{End}
use Rattle.hl_run.specs.declared.end.End.TheVariants.{Finished, BadLine, Output, Broken, Input, Memory, TooLong}

-- ---- one more line done

-- a line that is done is plain and leaves the tree after it, or the disk failed it and the files stay
done_line : (before now : Plain) (l : Line) (answer : Said) (time : ℕ) → Does before l answer now
    → (IsPlain before.limits before.tree (record { line = l; answer = answer; time = time }) × (is_eio answer ≡ false) ⊎ IsBroken (record { line = l; answer = answer; time = time }) × (is_eio answer ≡ true))
    × (now ≡ record { limits = before.limits; tree = tree_after_line before.limits before.tree l answer })
done_line before now (line.File call) answer time (inl (inl rules)) =
    (inl ((call, refl, inl (rules.0, rules.2)), ap is_eio rules.0), rules.1 ∙ (rw rules.0 refl))
done_line before now (line.File call) answer time (inl (inr full)) =
    (inl ((call, refl, inr (full.0, full.2)), ap is_eio full.0), full.1 ∙ (rw full.0 refl))
done_line before now (line.File call) answer time (inr broken) =
    (inr ((ap (λ c. line.File c) broken.0, broken.1), ap is_eio broken.1), broken.2 ∙ (rw broken.1 refl))
done_line before now (line.Rank count) answer time does = absurd does
done_line before now (line.Stage paths) answer time does = absurd does
done_line before now line.Copy answer time does = absurd does
done_line before now (line.Fetch path block) answer time does = absurd does
done_line before now (line.Move job) answer time does = absurd does
done_line before now (line.End job) answer time does = absurd does
done_line before now (line.Eject number) answer time does = absurd does
done_line before now line.Clean answer time does = absurd does
done_line before now line.Checkpoint answer time does = absurd does

-- a sync leaves the tree, whatever it is answered
sync_stays : (limits : Limits) (t : Files) (l : Line) (answer : Said) → l ≡ line.File calls.Sync → tree_after_line limits t l answer ≡ t
sync_stays limits t l answer is = rw is (elim (is_reply answer) as (λ b. (if b then t else t) ≡ t) [ true ↦ refl | false ↦ refl ])

module _ (limits : Limits) where
  plain_more : (tree : Files) (done : List DoneLine) (d : DoneLine) → ArePlain limits tree done → IsPlain limits (tree_after limits tree done) d
      → ArePlain limits tree (done ++ d ∷ [])
  plain_more tree [] d plain next zero = next
  plain_more tree [] d plain next (suc j) = tt
  plain_more tree (x ∷ done) d plain next zero = plain 0
  plain_more tree (x ∷ done) d plain next (suc j) = plain_more (tree_after_line limits tree x.line x.answer) done d (λ k. plain (suc k)) next j

  pub tree_after-more : (tree : Files) (done : List DoneLine) (d : DoneLine)
      → tree_after limits tree (done ++ d ∷ []) ≡ tree_after_line limits (tree_after limits tree done) d.line d.answer
  tree_after-more tree [] d = refl
  tree_after-more tree (x ∷ done) d = tree_after-more (tree_after_line limits tree x.line x.answer) done d

pub answers-more : (done : List DoneLine) (d : DoneLine) → answers (done ++ d ∷ []) ≡ answers done ++ answer_line d.answer
answers-more done d = flat_map-append (λ (x : DoneLine). answer_line x.answer) done (d ∷ []) ∙ ap (λ l. answers done ++ l) (append-nil (answer_line d.answer))

answers-append : (done more : List DoneLine) → answers (done ++ more) ≡ answers done ++ answers more
answers-append done more = flat_map-append (λ (x : DoneLine). answer_line x.answer) done more

-- ---- where a run stands before a turn

-- the lines done and their times, what is left of an input of so many bytes, and what was said and kept by each moment
pub record HasDone (times : Option (List ℕ)) (blocks : ℕ) (old held : Held) (input rest : List ℕ) (n used : ℕ) (start now : Option History) : Type 0 where
  pub done : List DoneLine
  pub cut : lines_of input ≡ map (λ d. spelling d.line) done ++ lines_of rest
  pub good : All (λ d. IsGood d.line) done
  pub plain : ArePlain dump_limits old.files.tree done
  pub files_are : held.files ≡ record { limits = dump_limits; tree = tree_after dump_limits old.files.tree done }
  pub number : length done + 1 ≡ n
  pub size : used + length rest ≡ length input
  pub moments : Runs start now (Moment blocks dump_limits old.files.tree done (answers done))
  pub spoken : LastMoment start now (λ first s. s.said ≡ first.said ++ answers done)
  pub rests : Rests blocks old held start now done
  pub timed : AreTimed times done

abbrev pub Stands : Option (List ℕ) → ℕ → Held → Held → Option (List ℕ) → Option (List ℕ) → ℕ → ℕ → Option History → Option History → Type 0
Stands times blocks old held None rest n used start now = Unit {0}
Stands times blocks old held (Some input) None n used start now = ⊥
Stands times blocks old held (Some input) (Some rest) n used start now = HasDone times blocks old held input rest n used start now

module _ (blocks : ℕ) (opening : Files) where
  abbrev M : List DoneLine → List ℕ → MachineState → MachineState → Type 0
  M = Moment blocks dump_limits opening

  abbrev T : List DoneLine → Files
  T done = tree_at dump_limits opening done (last_sync done (length done))

  -- the answers of lines done are a first part of those of more
  more_said : (done more : List DoneLine) (text : List ℕ) → (part : IsPart text (answers done)) → answers (done ++ more) ++ [] ≡ text ++ (part.0 ++ answers more)
  more_said done more text part =
      append-nil (answers (done ++ more)) ∙ answers-append done more ∙ ap (λ l. l ++ answers more) part.1 ∙ append_assoc text part.0 (answers more)

  -- what held of an earlier moment holds with more lines to come
  moment_more : (done more : List DoneLine) (last : List ℕ) (first s : MachineState) → M done (answers done) first s → M (done ++ more) (answers done ++ last) first s
  moment_more done more last first s m =
      let text = m.said.text in
      let part : IsPart text (answers done) = m.said.within in
      let few : whole_lines text ≤ length done = (let le = whole_lines-part text (answers done) part in let all = whole_lines-answers done in omega (arith, le, all)) in
      record {
        said = has_said (done ++ more) [] (answers done ++ last) first s text (part.0 ++ answers more) m.said.said (more_said done more text part) (part_of_more text (answers done) last part);
        safe = λ number settled.
            more_lines dump_limits opening blocks done more (last_sync (done ++ more) (whole_lines text)) (whole_lines text) s few
            (wider dump_limits opening blocks done (last_sync done (whole_lines text)) (whole_lines text) (last_sync (done ++ more) (whole_lines text)) (whole_lines text) s
            (let same = last_sync-more done more (whole_lines text) few in omega (arith, same)) (omega arith)
            (m.safe number settled));
      }

  -- a moment at which all lines done are said, and no more
  at_rest : (done more : List DoneLine) (last : List ℕ) (first s : MachineState) → s.said ≡ first.said ++ answers done
      → ((number : ℕ) → IsSettled blocks number opening first → Reaches dump_limits opening blocks (done ++ more) (last_sync done (length done)) (length done) s)
      → M (done ++ more) (answers done ++ last) first s
  at_rest done more last first s said safe =
      let all = whole_lines-answers done in
      let part : IsPart (answers done) (answers done) = ([], sym (append-nil (answers done))) in
      let same = last_sync-more done more (length done) (omega arith) in
      record {
        said = has_said (done ++ more) [] (answers done ++ last) first s (answers done) ([] ++ answers more) said (more_said done more (answers done) part) (part_of_more (answers done) (answers done) last part);
        safe = λ number settled. subst (λ (k : ℕ). IsPoint blocks dump_limits opening (done ++ more) k s) (sym all)
            (wider dump_limits opening blocks (done ++ more) (last_sync done (length done)) (length done) (last_sync (done ++ more) (length done)) (length done) s (omega (arith, same)) (omega arith) (safe number settled));
      }

  -- a moment while a line behind them is answered
  answered : (done : List DoneLine) (d : DoneLine) (last p : List ℕ) (first s : MachineState) → IsPart last (answer_line d.answer) → IsPart p last → s.said ≡ first.said ++ (answers done ++ p)
      → ((number : ℕ) → IsSettled blocks number opening first → Reaches dump_limits opening blocks (done ++ d ∷ []) (last_sync done (length done)) (length done) s)
      → ((number : ℕ) → IsSettled blocks number opening first → is_kept (Some d) ≡ true → Reaches dump_limits opening blocks (done ++ d ∷ []) (suc (length done)) (suc (length done)) s)
      → M (done ++ d ∷ []) (answers done ++ last) first s
  answered done d last p first s is_last is_p said safe kept =
      let lines = done ++ d ∷ [] in
      let n = length done in
      let text = answers done ++ p in
      let p_of : IsPart p (answer_line d.answer) = (is_p.0 ++ is_last.0, is_last.1 ∙ ap (λ l. l ++ is_last.0) is_p.1 ∙ append_assoc p is_p.0 is_last.0) in
      let few : whole_lines p ≤ 1 = part_of_answer p d.answer p_of in
      let count : whole_lines text ≡ n + whole_lines p = (let both = whole_lines-append (answers done) p in let all = whole_lines-answers done in omega (arith, both, all)) in
      let cut : answers lines ++ [] ≡ text ++ p_of.0 =
      append-nil (answers lines) ∙ answers-more done d ∙ ap (λ l. answers done ++ l) p_of.1 ∙ sym (append_assoc (answers done) p p_of.0) in
      let same = last_sync-more done (d ∷ []) n (omega arith) in
      record {
        said = has_said lines [] (answers done ++ last) first s text p_of.0 said cut (part_behind (answers done) p last is_p);
        safe = λ number settled. subst (λ (k : ℕ). IsPoint blocks dump_limits opening lines k s) (sym count) (by_count number settled (whole_lines p) few same);
      }
    where
      by_kept : (number : ℕ) → IsSettled blocks number opening first → (b : Bool) → is_kept (Some d) ≡ b → IsPoint blocks dump_limits opening (done ++ d ∷ []) (suc (length done)) s
      by_kept number settled true is =
          let low = last_sync-kept done d is in
          wider dump_limits opening blocks (done ++ d ∷ []) (suc (length done)) (suc (length done)) (last_sync (done ++ d ∷ []) (suc (length done))) (suc (length done)) s (omega (arith, low)) (omega arith) (kept number settled is)
      by_kept number settled false is =
          let low = last_sync-other done d is in
          wider dump_limits opening blocks (done ++ d ∷ []) (last_sync done (length done)) (length done) (last_sync (done ++ d ∷ []) (suc (length done))) (suc (length done)) s (omega (arith, low)) (omega arith) (safe number settled)

      by_count : (number : ℕ) → IsSettled blocks number opening first → (k : ℕ) → k ≤ 1 → last_sync (done ++ d ∷ []) (length done) ≡ last_sync done (length done) → IsPoint blocks dump_limits opening (done ++ d ∷ []) (length done + k) s
      by_count number settled zero le same =
          let e : length done + 0 ≡ length done = omega arith in
          subst (λ (k : ℕ). IsPoint blocks dump_limits opening (done ++ d ∷ []) k s) (sym e)
          (wider dump_limits opening blocks (done ++ d ∷ []) (last_sync done (length done)) (length done) (last_sync (done ++ d ∷ []) (length done)) (length done) s (omega (arith, same)) (omega arith) (safe number settled))
      by_count number settled (suc zero) le same =
          let e : length done + 1 ≡ suc (length done) = omega arith in
          subst (λ (k : ℕ). IsPoint blocks dump_limits opening (done ++ d ∷ []) k s) (sym e) (by_kept number settled (is_kept (Some d)) refl)
      by_count number settled (suc (suc k)) le same = absurd (omega arith)

  -- a moment while other words are said behind the lines done
  other_words : (done : List DoneLine) (last p : List ℕ) (first s : MachineState) → IsPart p last → s.said ≡ first.said ++ (answers done ++ p)
      → ((number : ℕ) → IsSettled blocks number opening first → Reaches dump_limits opening blocks done (last_sync done (length done)) (length done) s)
      → M done (answers done ++ last) first s
  other_words done last p first s is_p said safe =
      let n = length done in
      let text = answers done ++ p in
      let count : whole_lines text ≡ n + whole_lines p = (let both = whole_lines-append (answers done) p in let all = whole_lines-answers done in omega (arith, both, all)) in
      let past = last_sync-past done (whole_lines p) in
      record {
        said = has_said done p (answers done ++ last) first s text [] said (sym (append-nil text)) (part_behind (answers done) p last is_p);
        safe = λ number settled. subst (λ (k : ℕ). IsPoint blocks dump_limits opening done k s) (sym count)
            (wider dump_limits opening blocks done (last_sync done n) n (last_sync done (n + whole_lines p)) (n + whole_lines p) s (omega (arith, past)) (omega arith) (safe number settled));
      }

-- ---- a turn, moment by moment

module _ {times : Option (List ℕ)} (blocks : ℕ) (old held : Held) (input rest : List ℕ) (n used : ℕ) (start now : Option History) (has : HasDone times blocks old held input rest n used start now) where
  abbrev opening : Files
  opening = old.files.tree

  abbrev done : List DoneLine
  done = has.done

  -- what is known of the last moment before the turn
  record Before (first m : MachineState) : Type 0 where
    said : m.said ≡ first.said ++ answers done
    settled : (number : ℕ) → IsSettled blocks number opening first → IsSettled blocks held.number (T blocks opening done) m

  before_turn : LastMoment start now Before
  before_turn h e h' e' = record { said = has.spoken h e h' e'; settled = has.rests.settled h e h' e' }

  -- the files are those after the lines done
  tree_is : held.files.tree ≡ tree_after dump_limits opening done
  tree_is = ap (λ (p : Plain). p.tree) has.files_are

  module _ (more : List DoneLine) (last : List ℕ) where
    earlier_moments : Runs start now (M blocks opening (done ++ more) (answers done ++ last))
    earlier_moments = record {
      calls = has.moments.calls;
      is = has.moments.is;
      each = λ h e. AtEach-map (M blocks opening done (answers done) (state_now h)) (M blocks opening (done ++ more) (answers done ++ last) (state_now h)) (moment_more blocks opening done more last (state_now h)) (state_now h) has.moments.calls (has.moments.each h e);
    }

    -- while the line behind them may keep the files on the disk
    reach_saving : (first m s : MachineState) → Before first m → IsSaving blocks held.number held.files.tree m s → (number : ℕ) → IsSettled blocks number opening first
        → Reaches dump_limits opening blocks (done ++ more) (last_sync done (length done)) (length done) s
    reach_saving first m s before saving number settled =
        let at_most = last_sync_le done (length done) in
        reaches_either dump_limits opening blocks (done ++ more) (last_sync done (length done)) (last_sync done (length done)) (length done) (length done) held.number
        (T blocks opening done) held.files.tree s (omega arith) (omega (arith, at_most)) (omega (arith, at_most)) (omega arith)
        (sym (tree_at-more dump_limits opening done more (last_sync done (length done)) at_most))
        (tree_is ∙ sym (tree_at-more dump_limits opening done more (length done) (omega arith) ∙ tree_at-all dump_limits opening done (length done) (omega arith)))
        (saving.leaves (T blocks opening done) (before.settled number settled))

    saving_moments : (middle : Option History) → Runs now middle (IsSaving blocks held.number held.files.tree) → Runs start middle (M blocks opening (done ++ more) (answers done ++ last))
    saving_moments middle saving = goes_on start now middle (M blocks opening (done ++ more) (answers done ++ last)) (IsSaving blocks held.number held.files.tree) Before
        earlier_moments before_turn saving
        (λ first m s before s_is. at_rest blocks opening done more last first s (s_is.said ∙ before.said) (reach_saving first m s before s_is))

  -- what is known behind the doing of a line
  record Behind (d : DoneLine) (held' : Held) (first m : MachineState) : Type 0 where
    said : m.said ≡ first.said ++ answers done
    safe : (number : ℕ) → IsSettled blocks number opening first → Reaches dump_limits opening blocks (done ++ d ∷ []) (last_sync done (length done)) (length done) m
    kept : (number : ℕ) → IsSettled blocks number opening first → is_kept (Some d) ≡ true → IsSettled blocks held'.number held.files.tree m

  module _ (d : DoneLine) (held' : Held) (middle : Option History) (saving : Runs now middle (IsSaving blocks held.number held.files.tree))
      (keeps : KeepsDisk blocks held.number held.files d.line d.answer now middle held'.number) where
    saved_settled : (first m s : MachineState) → Before first m → HasSaved blocks held.number held.files.tree m s → (number : ℕ) → IsSettled blocks number opening first → IsSettled blocks (held.number + 1) held.files.tree s
    saved_settled first m s before saved number settled = saved (T blocks opening done) (before.settled number settled).holds.stands

    behind_line : LastMoment start middle (Behind d held')
    behind_line h e h' e' =
        let run = ends_then start now middle saving.calls saving.is Before (IsSaving blocks held.number held.files.tree) (λ first s. (s.said ≡ first.said ++ answers done) × ((number : ℕ) → IsSettled blocks number opening first → Reaches dump_limits opening blocks (done ++ d ∷ []) (last_sync done (length done)) (length done) s))
        before_turn (ends_of_run now middle (IsSaving blocks held.number held.files.tree) saving)
        (λ first m s before s_is. (s_is.said ∙ before.said, reach_saving (d ∷ []) [] first m s before s_is)) h e h' e' in
        record { said = run.0; safe = run.1; kept = kept_by keeps }
      where
        kept_by : KeepsDisk blocks held.number held.files d.line d.answer now middle held'.number → (number : ℕ) → IsSettled blocks number opening (state_now h) → is_kept (Some d) ≡ true → IsSettled blocks held'.number held.files.tree (state_now h')
        kept_by (inl acknowledged) number settled is =
            let all = ends_then start now middle saving.calls saving.is Before (HasSaved blocks held.number held.files.tree) (λ first s. (number : ℕ) → IsSettled blocks number opening first → IsSettled blocks (held.number + 1) held.files.tree s)
            before_turn acknowledged.2 saved_settled h e h' e' in
            subst (λ (k : ℕ). IsSettled blocks k held.files.tree (state_now h')) (sym acknowledged.1) (all number settled)
        kept_by (inr other) number settled is = absurd (let h : true ≡ false = sym is ∙ other.0 in cc)

    -- while it is answered
    answering_moments : (last : List ℕ) (next : Option History) → IsPart last (answer_line d.answer) → Runs middle next (Heard last)
        → (is_kept (Some d) ≡ true → tree_after dump_limits opening (done ++ d ∷ []) ≡ held.files.tree)
        → Runs start next (M blocks opening (done ++ d ∷ []) (answers done ++ last))
    answering_moments last next is_last heard stays = goes_on start middle next (M blocks opening (done ++ d ∷ []) (answers done ++ last)) (Heard last) (Behind d held')
        (saving_moments (d ∷ []) last middle saving) behind_line heard
        (λ first m s behind s_is. answered blocks opening done d last s_is.part first s is_last s_is.is_part
        (s_is.said ∙ ap (λ l. l ++ s_is.part) behind.said ∙ append_assoc first.said (answers done) s_is.part)
        (λ number settled. same_reach dump_limits opening blocks (done ++ d ∷ []) (last_sync done (length done)) (length done) m s s_is.content s_is.pending (behind.safe number settled))
        (λ number settled kept. same_reach dump_limits opening blocks (done ++ d ∷ []) (suc (length done)) (suc (length done)) m s s_is.content s_is.pending
        (let size = length-append done (d ∷ []) in
        reaches_settled dump_limits opening blocks (done ++ d ∷ []) (suc (length done)) (suc (length done)) (suc (length done)) held'.number held.files.tree m (omega arith) (omega arith)
        (sym (tree_at-all dump_limits opening (done ++ d ∷ []) (suc (length done)) (omega (arith, size)) ∙ stays kept)) (behind.kept number settled kept))))

    -- and behind its answer
    answered_end : (last : List ℕ) (next : Option History) → LastMoment middle next (λ m s. s.said ≡ m.said ++ last) → (calls : List DeviceCall) → next ≡ with_calls calls middle
        → LastMoment start next (λ first s. s.said ≡ first.said ++ (answers done ++ last))
    answered_end last next told calls is = ends_then start middle next calls is (Behind d held') (λ m s. s.said ≡ m.said ++ last) (λ first s. s.said ≡ first.said ++ (answers done ++ last)) behind_line told
        (λ first m s behind s_is. s_is ∙ ap (λ l. l ++ last) behind.said ∙ append_assoc first.said (answers done) last)

-- a fact of what holds now, beside the moment before
pub now_then : (before now : Option History) (calls : List DeviceCall) → now ≡ with_calls calls before → (P : MachineState → Type 0) (B : MachineState → MachineState → Type 0) (Q : MachineState → Type 0)
    → Now before P → LastMoment before now B → ((m s : MachineState) → P m → B m s → Q s) → Now now Q
now_then before now calls is P B Q p b step h' e' =
    let told = told_before before calls h' (sym is ∙ e') in
    step (state_now told.0) (state_now h') (p told.0 told.1) (b told.0 told.1 h' e')

pub never : IsTrue false → ⊥
never closed = let h : false ≡ true = closed in cc

part_itself : (text : List ℕ) → IsPart text text
part_itself text = ([], sym (append-nil text))

module _ (blocks : ℕ) (old : Held) where
  -- before the first turn
  pub stands_first : (times input : Option (List ℕ)) (start : Option History) → old.files.limits ≡ dump_limits → OpensAs blocks start old
      → Stands times blocks old old input (prepend_known [] input) 1 0 start start
  stands_first times None start limits opens = tt
  stands_first times (Some input) start limits opens = record {
    done = [];
    cut = refl;
    good = All-nil (λ d. IsGood d.line);
    plain = λ j. tt;
    files_are = ap (λ (l : Limits). record { limits = l; tree = old.files.tree }) limits;
    number = refl;
    size = omega arith;
    moments = starts start (M blocks old.files.tree [] []) (λ h e. at_rest blocks old.files.tree [] [] [] (state_now h) (state_now h) (sym (append-nil (state_now h).said))
        (λ number settled. reaches_settled dump_limits old.files.tree blocks [] 0 0 0 number old.files.tree (state_now h) (omega arith) (omega arith) refl settled));
    spoken = λ h e h' e'. (let same : h' ≡ h = cc in ap (λ (x : History). (state_now x).said) same ∙ sym (append-nil (state_now h).said));
    rests = record {
      stands = opens;
      settled = λ h e h' e' number settled.
          let same : h' ≡ h = cc in
          let is = same_number blocks (state_now h).content number old.number old.files.tree old.files.tree settled.holds.stands (opens h e) in
          subst (λ (x : History). IsSettled blocks old.number old.files.tree (state_now x)) (sym same) (subst (λ (k : ℕ). IsSettled blocks k old.files.tree (state_now h)) is settled);
    };
    timed = λ times e j. tt;
  }

  module _ {times : Option (List ℕ)} (held held' : Held) (input rest : List ℕ) (n used : ℕ) (start now next : Option History) (has : HasDone times blocks old held input rest n used start now)
      (d : DoneLine) where
    abbrev lines : List DoneLine
    lines = has.done ++ d ∷ []

    abbrev both : Does held.files d.line d.answer held'.files → (IsPlain dump_limits (tree_after dump_limits old.files.tree has.done) d × (is_eio d.answer ≡ false) ⊎ IsBroken d × (is_eio d.answer ≡ true))
        × (held'.files ≡ record { limits = dump_limits; tree = tree_after_line dump_limits (tree_after dump_limits old.files.tree has.done) d.line d.answer })
    both does = done_line (record { limits = dump_limits; tree = tree_after dump_limits old.files.tree has.done }) held'.files d.line d.answer d.time (subst (λ (f : Plain). Does f d.line d.answer held'.files) has.files_are does)

    is_plain : Does held.files d.line d.answer held'.files → is_eio d.answer ≡ false → IsPlain dump_limits (tree_after dump_limits old.files.tree has.done) d
    is_plain does quiet = ⊎_elim (λ plain. plain.0) (λ broken. absurd (let h : true ≡ false = sym broken.1 ∙ quiet in cc)) (both does).0

    is_broken : Does held.files d.line d.answer held'.files → is_eio d.answer ≡ true → IsBroken d
    is_broken does eio = ⊎_elim (λ plain. absurd (let h : true ≡ false = sym eio ∙ plain.1 in cc)) (λ broken. broken.0) (both does).0

    -- a sync that is answered ok leaves the tree
    stays : is_kept (Some d) ≡ true → tree_after dump_limits old.files.tree lines ≡ held.files.tree
    stays kept = tree_after-more dump_limits old.files.tree has.done d ∙ sync_stays dump_limits (tree_after dump_limits old.files.tree has.done) d.line d.answer (acknowledged_is d.line d.answer kept)
        ∙ sym (ap (λ (p : Plain). p.tree) has.files_are)

    one_more : length lines ≡ suc (length has.done)
    one_more = let size = length-append has.done (d ∷ []) in omega (arith, size)

    -- the tree that the disk keeps behind the line
    kept_tree : is_kept (Some d) ≡ true → T blocks old.files.tree lines ≡ held.files.tree
    kept_tree kept =
        ap (λ (k : ℕ). tree_at dump_limits old.files.tree lines (last_sync lines k)) one_more
        ∙ ap (λ (k : ℕ). tree_at dump_limits old.files.tree lines k) (last_sync-kept has.done d kept)
        ∙ tree_at-all dump_limits old.files.tree lines (suc (length has.done)) (let size = one_more in omega (arith, size)) ∙ stays kept

    other_tree : is_kept (Some d) ≡ false → T blocks old.files.tree lines ≡ T blocks old.files.tree has.done
    other_tree other =
        ap (λ (k : ℕ). tree_at dump_limits old.files.tree lines (last_sync lines k)) one_more
        ∙ ap (λ (k : ℕ). tree_at dump_limits old.files.tree lines k) (last_sync-other has.done d other)
        ∙ tree_at-more dump_limits old.files.tree has.done (d ∷ []) (last_sync has.done (length has.done)) (last_sync_le has.done (length has.done))

    -- how the disk rests behind a line that was answered
    rests_more : (step : Step blocks held held' now next Says d) → is_eio d.answer ≡ false → Rests blocks old held' start next lines
    rests_more step quiet = by_keeping step.kept
      where
        told : LastMoment step.middle next (HasTold (answer_line d.answer))
        told = says_end step.middle next (answer_line d.answer) step.says

        by_keeping : KeepsDisk blocks held.number held.files d.line d.answer now step.middle held'.number → Rests blocks old held' start next lines
        by_keeping (inl keeps) =
            let tree = kept_tree keeps.0 in
            let settles : LastMoment now step.middle (λ m s. StandsFor blocks m.content held.number (T blocks old.files.tree has.done) → IsSettled blocks held'.number held.files.tree s) =
            λ h e h' e' stands. subst (λ (k : ℕ). IsSettled blocks k held.files.tree (state_now h')) (sym keeps.1) (keeps.2 h e h' e' (T blocks old.files.tree has.done) stands) in
            let settled_now : Now step.middle (λ s. IsSettled blocks held'.number held.files.tree s) =
            now_then now step.middle step.saving.calls step.saving.is (λ m. StandsFor blocks m.content held.number (T blocks old.files.tree has.done)) (λ m s. StandsFor blocks m.content held.number (T blocks old.files.tree has.done) → IsSettled blocks held'.number held.files.tree s) (λ s. IsSettled blocks held'.number held.files.tree s)
            has.rests.stands settles (λ m s p b. b p) in
            let settled_next : Now next (λ s. IsSettled blocks held'.number held.files.tree s) =
            now_then step.middle next (map Say step.says.pieces) step.says.is (λ s. IsSettled blocks held'.number held.files.tree s) (HasTold (answer_line d.answer)) (λ s. IsSettled blocks held'.number held.files.tree s)
            settled_now told (λ m s p b. same_settled blocks held'.number held.files.tree m s p b.1 b.2) in
            record {
              stands = λ h e. subst (λ (t : Files). StandsFor blocks (state_now h).content held'.number t) (sym tree) (settled_next h e).holds.stands;
              settled = λ h e h' e' number settled. subst (λ (t : Files). IsSettled blocks held'.number t (state_now h')) (sym tree) (settled_next h' e');
            }
        by_keeping (inr (other, number, inl eio)) = absurd (let h : true ≡ false = sym (ap is_eio eio) ∙ quiet in cc)
        by_keeping (inr (other, number, inr same)) =
            let tree = other_tree other in
            let told_now : LastMoment now next (HasTold (answer_line d.answer)) = subst (λ (m : Option History). LastMoment m next (HasTold (answer_line d.answer))) same told in
            let is : next ≡ with_calls (map Say step.says.pieces) now = step.says.is ∙ ap (with_calls (map Say step.says.pieces)) same in
            record {
              stands = λ h e. subst (λ (t : Files). StandsFor blocks (state_now h).content held'.number t) (sym tree) (subst (λ (k : ℕ). StandsFor blocks (state_now h).content k (T blocks old.files.tree has.done)) (sym number)
                  (now_then now next (map Say step.says.pieces) is (λ m. StandsFor blocks m.content held.number (T blocks old.files.tree has.done)) (HasTold (answer_line d.answer)) (λ s. StandsFor blocks s.content held.number (T blocks old.files.tree has.done))
                  has.rests.stands told_now (λ m s p b. subst (λ (i : Image). StandsFor blocks i held.number (T blocks old.files.tree has.done)) (sym b.1) p) h e));
              settled = λ h e h' e' k settled. subst (λ (t : Files). IsSettled blocks held'.number t (state_now h')) (sym tree) (subst (λ (k : ℕ). IsSettled blocks k (T blocks old.files.tree has.done) (state_now h')) (sym number)
                  (ends_then start now next (map Say step.says.pieces) is (λ a m. (k : ℕ) → IsSettled blocks k old.files.tree a → IsSettled blocks held.number (T blocks old.files.tree has.done) m) (HasTold (answer_line d.answer)) (λ a s. (k : ℕ) → IsSettled blocks k old.files.tree a → IsSettled blocks held.number (T blocks old.files.tree has.done) s)
                  has.rests.settled told_now (λ a m s b q k settled. same_settled blocks held.number (T blocks old.files.tree has.done) m s (b k settled) q.1 q.2) h e h' e' k settled));
            }

    -- one more line done
    one_done : (limit used' : ℕ) → IsFirstLine limit used rest d.line → used' + length (beyond rest) ≡ used + length rest → Step blocks held held' now next Says d → is_eio d.answer ≡ false
        → ForSome times (λ ts. held'.time ≡ time_at (n - 1) ts) → HasDone times blocks old held' input (beyond rest) (n + 1) used' start next
    one_done limit used' first size step quiet asked =
        let counted = length-append has.done (d ∷ []) in
        let a = answer_line d.answer in
        record {
          done = lines;
          cut = has.cut ∙ ap (λ l. map (λ (x : DoneLine). spelling x.line) has.done ++ l) first.first
              ∙ sym (append_assoc (map (λ (x : DoneLine). spelling x.line) has.done) (spelling d.line ∷ []) (lines_of (beyond rest)))
              ∙ ap (λ l. l ++ lines_of (beyond rest)) (sym (map-append (λ (x : DoneLine). spelling x.line) has.done (d ∷ [])));
          good = All-append (λ (x : DoneLine). IsGood x.line) has.done (d ∷ []) has.good (All-cons (λ (x : DoneLine). IsGood x.line) d [] first.good (All-nil (λ (x : DoneLine). IsGood x.line)));
          plain = plain_more dump_limits old.files.tree has.done d has.plain (is_plain step.does quiet);
          files_are = (both step.does).1 ∙ ap (λ (t : Files). record { limits = dump_limits; tree = t }) (sym (tree_after-more dump_limits old.files.tree has.done d));
          number = let k = has.number in omega (arith, counted, k);
          size = size ∙ has.size;
          moments = subst (λ (l : List ℕ). Runs start next (M blocks old.files.tree lines l)) (sym (answers-more has.done d))
              (answering_moments blocks old held input rest n used start now has d held' step.middle step.saving step.kept a next (part_itself a) (text_heard step.middle next a step.says) stays);
          spoken = subst (λ (l : List ℕ). LastMoment start next (λ first s. s.said ≡ first.said ++ l)) (sym (answers-more has.done d))
              (answered_end blocks old held input rest n used start now has d held' step.middle step.saving step.kept a next (λ h e h' e'. (says_end step.middle next a step.says h e h' e').0) (map Say step.says.pieces) step.says.is);
          rests = rests_more step quiet;
          timed = timed_more times has.done d has.timed (λ ts e. step.time ∙ asked ts e ∙ ap (λ (k : ℕ). time_at k ts) (sym (place_of (length has.done) n has.number)));
        }

  -- a turn that did a line
  pub stands_more : (times : Option (List ℕ)) (Cut : Type 0) (held held' : Held) (input rest left : Option (List ℕ)) (n : ℕ) (ahead ahead' : Ahead) (start now next : Option History)
      → Stands times blocks old held input rest n ahead.used start now
      → IfSome rest (λ bytes. Turns Cut blocks n ahead ahead' held held' bytes left now next (Ok true))
      → ForSome times (λ ts. held'.time ≡ time_at (n - 1) ts)
      → Stands times blocks old held' input left (n + 1) ahead'.used start next
  stands_more times Cut held held' None rest left n ahead ahead' start now next s t asked = tt
  stands_more times Cut held held' (Some input) None left n ahead ahead' start now next s t asked = absurd s
  stands_more times Cut held held' (Some input) (Some rest) left n ahead ahead' start now next s t asked =
      rw t.2 (one_done held held' input rest n ahead.used start now next s t.0 ahead.limit ahead'.used t.1 t.3 t.4 t.5 asked)

  -- ---- the end

  module _ {times : Option (List ℕ)} (times' : Option (List ℕ)) (Cut Broke : Type 0) (limit : ℕ) (held held' : Held) (input rest : List ℕ) (n used : ℕ) (start now next : Option History) (has : HasDone times blocks old held input rest n used start now) (fits : used ≤ limit) where
    abbrev E : List DoneLine → List ℕ → End → Type 0
    E more last end = Ends Cut Broke dump_limits limit old.files.tree input has.done more rest last end

    abbrev ran_with : (end : End) (more : List DoneLine) (last : List ℕ) → E more last end → Ran Cut Broke dump_limits limit old.files.tree input end (answers has.done ++ last)
    ran_with end more last ends =
        let size = has.size in
        record { done = has.done; more = more; rest = rest; last = last; cut = has.cut; within = omega (arith, size, fits); good = has.good; plain = has.plain; said = refl; ends = ends }

    -- a run that ends with other words behind the lines done, and leaves the files
    idle_end : (end : End) (last : List ℕ) → Says now next last → held' ≡ held → E [] last end → IsClocked times times' end has.done
        → RanBy Runs Cut Broke (LeavesLines blocks old held' start next end) (IsClocked times times' end) blocks dump_limits limit old.files.tree input end start next
    idle_end end last says same ends clocked =
        let told = says_end now next last says in
        let calls = map Say says.pieces in (
          answers has.done ++ last,
          ran_with end [] last ends,
          ends_then start now next calls says.is (λ first s. s.said ≡ first.said ++ answers has.done) (HasTold last) (λ first s. s.said ≡ first.said ++ (answers has.done ++ last)) has.spoken told
              (λ first m s b q. q.0 ∙ ap (λ l. l ++ last) b ∙ append_assoc first.said (answers has.done) last),
          (goes_on start now next (M blocks old.files.tree (has.done ++ []) (answers has.done ++ last)) (Heard last) (Before blocks old held input rest n used start now has)
              (earlier_moments blocks old held input rest n used start now has [] last) (before_turn blocks old held input rest n used start now has) (text_heard now next last says)
              (λ first m s before s_is. subst (λ (l : List DoneLine). M blocks old.files.tree l (answers has.done ++ last) first s) (sym (append-nil has.done))
              (other_words blocks old.files.tree has.done last s_is.part first s s_is.is_part
              (s_is.said ∙ ap (λ l. l ++ s_is.part) before.said ∙ append_assoc first.said (answers has.done) s_is.part)
              (λ number settled. same_reach dump_limits old.files.tree blocks has.done (last_sync has.done (length has.done)) (length has.done) m s s_is.content s_is.pending
              (let at_most = last_sync_le has.done (length has.done) in
              reaches_settled dump_limits old.files.tree blocks has.done (last_sync has.done (length has.done)) (last_sync has.done (length has.done)) (length has.done) held.number (T blocks old.files.tree has.done) m
              (omega arith) (omega (arith, at_most)) refl (before.settled number settled)))))),
          λ closed. (
            ap (λ (h : Held). h.files) same ∙ has.files_are,
            subst (λ (h : Held). Rests blocks old h start next has.done) (sym same) (record {
              stands = now_then now next calls says.is (λ m. StandsFor blocks m.content held.number (T blocks old.files.tree has.done)) (HasTold last) (λ s. StandsFor blocks s.content held.number (T blocks old.files.tree has.done))
                  has.rests.stands told (λ m s p b. subst (λ (i : Image). StandsFor blocks i held.number (T blocks old.files.tree has.done)) (sym b.1) p);
              settled = ends_then start now next calls says.is (λ a m. (k : ℕ) → IsSettled blocks k old.files.tree a → IsSettled blocks held.number (T blocks old.files.tree has.done) m) (HasTold last) (λ a s. (k : ℕ) → IsSettled blocks k old.files.tree a → IsSettled blocks held.number (T blocks old.files.tree has.done) s)
                  has.rests.settled told (λ a m s b q k settled. same_settled blocks held.number (T blocks old.files.tree has.done) m s (b k settled) q.1 q.2);
            }),
          ),
          subst (IsClocked times times' end) (sym (append-nil has.done)) clocked,
        )

    -- a run that ends with a line done, whose answer is said or some first part of it
    done_end : (end : End) (d : DoneLine) (middle : Option History) → Runs now middle (IsSaving blocks held.number held.files.tree) → KeepsDisk blocks held.number held.files d.line d.answer now middle held'.number
        → (last : List ℕ) → Says middle next last → IsPart last (answer_line d.answer) → E (d ∷ []) last end → (IsTrue (closes end) → ⊥) → IsClocked times times' end (has.done ++ d ∷ [])
        → RanBy Runs Cut Broke (LeavesLines blocks old held' start next end) (IsClocked times times' end) blocks dump_limits limit old.files.tree input end start next
    done_end end d middle saving keeps last says is_last ends unclosed clocked = (
      answers has.done ++ last,
      ran_with end (d ∷ []) last ends,
      answered_end blocks old held input rest n used start now has d held' middle saving keeps last next (λ h e h' e'. (says_end middle next last says h e h' e').0) (map Say says.pieces) says.is,
      (answering_moments blocks old held input rest n used start now has d held' middle saving keeps last next is_last (text_heard middle next last says) (stays held held' input rest n used start now next has d)),
      λ closed. absurd (unclosed closed),
      clocked,
    )

    -- a run that wanted memory
    memory_end : Runs now next (IsSaving blocks held.number held.files.tree) → IsClocked times times' Memory has.done → RanBy Runs Cut Broke (LeavesLines blocks old held' start next Memory) (IsClocked times times' Memory) blocks dump_limits limit old.files.tree input Memory start next
    memory_end saving clocked = (
      answers has.done ++ [],
      ran_with Memory [] [] (refl, refl),
      ends_then start now next saving.calls saving.is (λ first s. s.said ≡ first.said ++ answers has.done) (IsSaving blocks held.number held.files.tree) (λ first s. s.said ≡ first.said ++ (answers has.done ++ [])) has.spoken
          (ends_of_run now next (IsSaving blocks held.number held.files.tree) saving) (λ first m s b q. q.said ∙ b ∙ ap (λ l. first.said ++ l) (sym (append-nil (answers has.done)))),
      (saving_moments blocks old held input rest n used start now has [] [] next saving),
      λ closed. absurd (never closed),
      subst (IsClocked times times' Memory) (sym (append-nil has.done)) clocked,
    )

    -- the limits, as the run has them
    fitting : (ahead : Ahead) → ahead.limit ≡ limit → ahead.used ≡ used → KeepsLimits ahead.limit (ahead.used + length rest) rest → KeepsLimits limit (length input) rest
    fitting ahead l u kept = subst (λ (k : ℕ). KeepsLimits limit k rest) (ap (λ (k : ℕ). k + length rest) u ∙ has.size) (subst (λ (k : ℕ). KeepsLimits k (ahead.used + length rest) rest) l kept)

    next_line : (ahead : Ahead) → ahead.limit ≡ limit → ahead.used ≡ used → (d : DoneLine) → IsFirstLine ahead.limit ahead.used rest d.line → IsNext limit input rest d
    next_line ahead l u d first = (first.first, first.good, fitting ahead l u first.within)

    -- the clock, where no line was done since
    still : (end : End) → times' ≡ option_map (times_after (n - 1)) times → IsClocked times times' end has.done
    still end same = clocked_still times times' end has.done (n - 1) (place_of (length has.done) n has.number) has.timed same

    -- and where one was
    more : (end : End) (d : DoneLine) → d.time ≡ held'.time → IsAsked (option_map (times_after (n - 1)) times) times' held'.time → IsClocked times times' end (has.done ++ d ∷ [])
    more end d is asked = clocked_more times times' end has.done d (n - 1) held'.time (place_of (length has.done) n has.number) has.timed is asked

    -- a run, from its last turn
    end_from_turn : (Failed : Type 0) → (Failed → Cut) → (ahead ahead' : Ahead) (left : Option (List ℕ)) (end : End) → (end ≡ Broken → Broke) → ahead.limit ≡ limit → ahead.used ≡ used
        → Turns Failed blocks n ahead ahead' held held' rest left now next (Err end)
        → Asks (option_map (times_after (n - 1)) times) times' held'.time (Err end)
        → RanBy Runs Cut Broke (LeavesLines blocks old held' start next end) (IsClocked times times' end) blocks dump_limits limit old.files.tree input end start next
    end_from_turn Failed causes ahead ahead' left Finished broke limit_is used_is t asks = absurd t
    end_from_turn Failed causes ahead ahead' left BadLine broke limit_is used_is t asks =
        let number = ap bad_text has.number in
        let kept = fitting ahead limit_is used_is t.3 in
        elim t.4 [
          | inl says ↦ idle_end BadLine (bad_text n) says t.5 (refl, (t.0, t.1, t.2, kept, inl (sym number))) (still BadLine asks)
          | inr some ↦ idle_end BadLine some.1.part some.1.says t.5 (refl, (t.0, t.1, t.2, kept, inr (causes some.0, (some.1.rest, number ∙ some.1.cut)))) (still BadLine asks)
        ]
    end_from_turn Failed causes ahead ahead' left Output broke limit_is used_is t asks =
        let d = t.0 in
        let step = t.2 in
        let some = step.says in
        done_end Output d step.middle step.saving step.kept some.part some.says (some.rest, some.cut)
        (d, refl, next_line ahead limit_is used_is d t.1, is_plain held held' input rest n used start now next has d step.does t.3, causes t.4, (some.rest, some.cut)) never (more Output d step.time asks)
    end_from_turn Failed causes ahead ahead' left Broken broke limit_is used_is t asks =
        let d = t.0 in
        let step = t.2 in
        let broken = is_broken held held' input rest n used start now next has d step.does t.3 in
        let first = next_line ahead limit_is used_is d t.1 in
        elim step.says [
          | inl says ↦ done_end Broken d step.middle step.saving step.kept (answer_line d.answer) says (part_itself (answer_line d.answer)) (d, refl, first, broken, broke refl, inl refl) never (more Broken d step.time asks)
          | inr some ↦ done_end Broken d step.middle step.saving step.kept some.1.part some.1.says (some.1.rest, some.1.cut) (d, refl, first, broken, broke refl, inr (causes some.0, (some.1.rest, some.1.cut))) never (more Broken d step.time asks)
        ]
    end_from_turn Failed causes ahead ahead' left Input broke limit_is used_is t asks = idle_end Input [] t.0 t.1 (refl, refl) (still Input asks)
    end_from_turn Failed causes ahead ahead' left Memory broke limit_is used_is t asks = memory_end t (clocked_wanting times times' has.done (n - 1) (place_of (length has.done) n has.number) has.timed asks)
    end_from_turn Failed causes ahead ahead' left TooLong broke limit_is used_is t asks =
        idle_end TooLong [] t.1 t.2 (refl, subst (λ (k : ℕ). PassesLimit limit k rest) (ap (λ (k : ℕ). k + length rest) used_is ∙ has.size) (subst (λ (k : ℕ). PassesLimit k (ahead.used + length rest) rest) limit_is t.0), refl) (still TooLong asks)

    -- a run to the input's end
    finished_end : rest ≡ [] → Says now next [] → held' ≡ held → times' ≡ option_map (times_after (n - 1)) times → RanBy Runs Cut Broke (LeavesLines blocks old held' start next Finished) (IsClocked times times' Finished) blocks dump_limits limit old.files.tree input Finished start next
    finished_end none says same asks =
        let size = has.size in
        let empty : length rest ≡ 0 = ap length none in
        idle_end Finished [] says same (refl, none, omega (arith, size, empty, fits), refl) (still Finished asks)

  pub ran_from_turn : (times times' : Option (List ℕ)) (Failed Cut Broke : Type 0) → (Failed → Cut) → (limit : ℕ) (held held' : Held) (input rest left : Option (List ℕ)) (n : ℕ) (ahead ahead' : Ahead) (start now next : Option History) (end : End) → (end ≡ Broken → Broke)
      → ahead.limit ≡ limit → ahead.used ≤ limit
      → Stands times blocks old held input rest n ahead.used start now
      → IfSome rest (λ bytes. Turns Failed blocks n ahead ahead' held held' bytes left now next (Err end))
      → Asks (option_map (times_after (n - 1)) times) times' held'.time (Err end)
      → IfSome input (λ bytes. RanBy Runs Cut Broke (LeavesLines blocks old held' start next end) (IsClocked times times' end) blocks dump_limits limit old.files.tree bytes end start next)
  ran_from_turn times times' Failed Cut Broke causes limit held held' None rest left n ahead ahead' start now next end broke limit_is fits s t asks = tt
  ran_from_turn times times' Failed Cut Broke causes limit held held' (Some input) None left n ahead ahead' start now next end broke limit_is fits s t asks = absurd s
  ran_from_turn times times' Failed Cut Broke causes limit held held' (Some input) (Some rest) left n ahead ahead' start now next end broke limit_is fits s t asks =
      end_from_turn times' Cut Broke limit held held' input rest n ahead.used start now next s fits Failed causes ahead ahead' left end broke limit_is refl t asks

  pub ran_to_the_end : (times times' : Option (List ℕ)) (Failed Cut Broke : Type 0) (limit : ℕ) (held held' : Held) (input rest left : Option (List ℕ)) (n : ℕ) (ahead ahead' : Ahead) (start now next : Option History)
      → ahead.used ≤ limit
      → Stands times blocks old held input rest n ahead.used start now
      → IfSome rest (λ bytes. Turns Failed blocks n ahead ahead' held held' bytes left now next (Ok false))
      → times' ≡ option_map (times_after (n - 1)) times
      → IfSome input (λ bytes. RanBy Runs Cut Broke (LeavesLines blocks old held' start next Finished) (IsClocked times times' Finished) blocks dump_limits limit old.files.tree bytes Finished start next)
  ran_to_the_end times times' Failed Cut Broke limit held held' None rest left n ahead ahead' start now next fits s t asks = tt
  ran_to_the_end times times' Failed Cut Broke limit held held' (Some input) None left n ahead ahead' start now next fits s t asks = absurd s
  ran_to_the_end times times' Failed Cut Broke limit held held' (Some input) (Some rest) left n ahead ahead' start now next fits s t asks =
      finished_end times' Cut Broke limit held held' input rest n ahead.used start now next s fits t.0 t.1 t.2 asks

  -- a run that ends before its first line
  pub ran_not_at_all : (times : Option (List ℕ)) (Cut Broke : Type 0) (limit : ℕ) (held' : Held) (input : Option (List ℕ)) (start : Option History) → old.files.limits ≡ dump_limits → OpensAs blocks start old
      → IfSome input (λ bytes. RanBy Runs Cut Broke (LeavesLines blocks old held' start start Memory) (IsClocked times times Memory) blocks dump_limits limit old.files.tree bytes Memory start start)
  ran_not_at_all times Cut Broke limit held' None start limits opens = tt
  ran_not_at_all times Cut Broke limit held' (Some input) start limits opens =
      let has : HasDone times blocks old old input input 1 0 start start = stands_first times (Some input) start limits opens in
      memory_end times Cut Broke limit old held' input input 1 0 start start start has (omega arith)
      (starts start (IsSaving blocks old.number old.files.tree) (λ h e. nothing_saved blocks old.number old.files.tree (state_now h)))
      (clocked_still times times Memory has.done (1 - 1) (place_of (length has.done) 1 has.number) has.timed (took_none times))
