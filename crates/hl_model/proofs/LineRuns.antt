-- The lines of a script are one run of steps, and answer as plain files do.
use Rattle.std.proofs.Common.{◌≡◌, ℕ, Bool, true, false, List, [], ◌∷◌, ◌++◌, Option, Some, None, ok_or, if◌then◌else◌, refl, ap, sym, ◌∙◌, subst, inl, inr, T}
use Rattle.hl_addr.specs.Layout.{Layout}
use Rattle.hl_media.specs.declared.job.Carried.{Carried}
use Rattle.hl_media.specs.declared.job.Carried.TheVariants.{Done, EndOfMedium, Fault}
use Rattle.hl_media.specs.declared.job.JobKind.{JobKind}
use Rattle.hl_media.specs.declared.job.JobKind.TheVariants.{Copy, Fetch}
use Rattle.hl_script.specs.declared.line.Line.{Line}
use Rattle.hl_script.specs.declared.line.Line.TheVariants as line
use Rattle.hl_script.specs.declared.said.Said.{Said}
use Rattle.hl_script.specs.declared.said.Said.TheVariants as said
use Rattle.hl_tree.specs.Refusals.{◌>>=◌}
use Rattle.hl_tree.specs.Rules.{Files}
use Rattle.hl_tree.specs.declared.call.Call.{Call}
use Rattle.hl_tree.specs.declared.call.Reply.{Reply}
use Rattle.hl_placed.specs.Blocks.{Shelf}
use Rattle.hl_placed.specs.Placed.{plain}
use Rattle.hl_model.specs.Answers.{SiteAnswer}
use Rattle.hl_model.specs.Answers as answers
use Rattle.hl_model.specs.Ends.{arrived, end_carried, end_job, end_running, is_same, is_stale, kept_mark, moved_to}
use Rattle.hl_model.specs.Events.{SiteEvent, Back, FileCall, BeginNeed, EndJob}
use Rattle.hl_model.specs.LineRuns.{ArePlain, BringsIfOut, DoesLine, IsOneStep, IsReplyOf, LineRun, Last, MovesJob, Next, NoMore, TimedLine, files_after, files_behind, job_out, job_to_move}
use Rattle.hl_model.specs.Ruled.{Ruled, told_of}
use Rattle.hl_model.specs.Runs.{AreReplies, IsSite, Run, Stepped, plain_after, plain_run, shelf_behind}
use Rattle.hl_model.specs.SaidLines.{said_of}
use Rattle.hl_model.specs.Serving.{Answers, Blocked, BreaksOff, Brought, EndsOne, Failed, Fetched, Fetches, IsFree, MakesRoom, NeedsSegment, Refused, ServesCall, ends_line}
use Rattle.hl_model.specs.Site.{SiteState}
use Rattle.hl_model.specs.Steps.{State, SiteStep, IsRuled}
use Rattle.hl_model.specs.Units.{Middles}
use Rattle.hl_model.specs.Worlds.{Asks, EndsJob, HeldJob, IsCarried, WorldState}
use Rattle.hl_model.proofs.Runs.{run_in_plain, stands_now}

-- WHAT IS SAID OF ANSWERS

abbrev is_done : SiteAnswer → Bool
is_done (answers.Done reply) = true
is_done answer = false

done_of : (answer : SiteAnswer) (r : Reply) → said_of answer ≡ Some (said.Reply r) → answer ≡ answers.Done r
done_of (answers.Done reply) r e = let same : reply ≡ r = cc in ap answers.Done same
done_of answer r e = cc

-- no end of a job answers as a file call
module _ (g : Layout) (s : SiteState) (job : Back) where
  abbrev NotDone : Ruled → Type 0
  NotDone told = is_done (told_of s told).0 ≡ false

  either : (b : Bool) (one other : Ruled) → NotDone one → NotDone other → NotDone (if b then one else other)
  either true one other k l = k
  either false one other k l = l

  moved_says : (full : List Bool) (o : Option ℕ) → NotDone (moved_to g s job full o)
  moved_says full None = refl
  moved_says full (Some t) = refl

  arrived_says : (kind : JobKind) (carried : Carried) → NotDone (arrived g s job kind carried)
  arrived_says Copy Done = refl
  arrived_says Copy EndOfMedium = moved_says _ _
  arrived_says Copy (Fault faults) = refl
  arrived_says Fetch Done = either (is_same g s (kept_mark g s job) job.found) _ _ refl refl
  arrived_says Fetch EndOfMedium = refl
  arrived_says Fetch (Fault faults) = refl

  carried_says : (carried : Carried) → NotDone (end_carried g s job carried)
  carried_says (Fault faults) = refl
  carried_says Done = either (is_stale g s job) _ _ refl (arrived_says job.note.kind Done)
  carried_says EndOfMedium = either (is_stale g s job) _ _ refl (arrived_says job.note.kind EndOfMedium)

  running_says : (carried : Carried) (stopped : Option ℕ) → NotDone (end_running g s job carried stopped)
  running_says carried None = carried_says carried
  running_says carried (Some faults) = refl

  by_carried : (o : Option Carried) → NotDone (ok_or o answers.Unmoved >>= (λ carried. end_running g s job carried s.stopped))
  by_carried None = refl
  by_carried (Some carried) = running_says carried s.stopped

  pub end_says : NotDone (end_job g s job)
  unfolding end_job
  end_says = by_carried job.carried

module _ (g : Layout) (shelf : Shelf) (mid : Middles) (before : State) (job : Back) (after : State) where
  ruled_says : (answer : SiteAnswer) → IsRuled g shelf mid before (EndJob job) answer after → is_done answer ≡ false
  ruled_says answer told = sym (ap (λ (p : SiteAnswer × SiteState). is_done p.0) told.told) ∙ end_says g before.site job

  end_step_says : (answer : SiteAnswer) → SiteStep g shelf mid before (EndJob job) answer after → is_done answer ≡ false
  end_step_says answers.Memory step = refl
  end_step_says answers.LogFull step = refl
  end_step_says answers.Eio step = refl
  end_step_says answer step = ruled_says answer step

ending_is_not_done : (answer : SiteAnswer) → ends_line answer ≡ true → is_done answer ≡ false
ending_is_not_done (answers.Done reply) e = absurd (subst T (sym e) tt)
ending_is_not_done answer e = refl

not_reply : (answer : SiteAnswer) (answered : Said) → is_done answer ≡ false → said_of answer ≡ Some answered → (r : Reply) → answered ≡ said.Reply r → ⊥
not_reply answer answered none e r f = let wrong : true ≡ false = sym (ap is_done (done_of answer r (e ∙ ap Some f))) ∙ none in subst T wrong tt

-- RUNS, ONE AFTER ANOTHER

module _ (g : Layout) where
  run-append : (shelf : Shelf) (a : State) (xs : List Stepped) (mid : Shelf) (b : State) (ys : List Stepped) (last : Shelf) (c : State) → Run g shelf a xs mid b → Run g mid b ys last c → Run g shelf a (xs ++ ys) last c
  run-append shelf a [] mid b ys last c here run = subst (λ sh. Run g sh a ys last c) here.0 (subst (λ st. Run g mid st ys last c) here.1 run)
  run-append shelf a (x ∷ xs) mid b ys last c (one, takes, rest) run = (one, takes, run-append (shelf_behind x.event x.answer one.site.stopped shelf a.site.next_serial x.mid.segment) one xs mid b ys last c rest run)

  plain-append : (files : Files) (xs ys : List Stepped) → plain_run g files (xs ++ ys) ≡ plain_run g (plain_run g files xs) ys
  plain-append files [] ys = refl
  plain-append files (x ∷ xs) ys = plain-append (plain_after g files x.event x.answer) xs ys

  replies-front : (files : Files) (xs ys : List Stepped) → AreReplies g files (xs ++ ys) → AreReplies g files xs
  replies-front files [] ys are = tt
  replies-front files (x ∷ xs) ys are = (are.0, replies-front (plain_after g files x.event x.answer) xs ys are.1)

  replies-back : (files : Files) (xs ys : List Stepped) → AreReplies g files (xs ++ ys) → AreReplies g (plain_run g files xs) ys
  replies-back files [] ys are = are
  replies-back files (x ∷ xs) ys are = replies-back (plain_after g files x.event x.answer) xs ys are.1

  -- steps that leave the files
  record Quietly (w z : WorldState) : Type 0 where
    steps : List Stepped
    run : Run g w.shelf w.state steps z.shelf z.state
    files : (f : Files) → plain_run g f steps ≡ f

  quiet_still : (w z : WorldState) → z.shelf ≡ w.shelf → z.state ≡ w.state → Quietly w z
  quiet_still w z e f = record { steps = []; run = (e, f); files = λ f. refl }

  quiet_then : (a b c : WorldState) → Quietly a b → Quietly b c → Quietly a c
  quiet_then a b c p q = record {
    steps = p.steps ++ q.steps;
    run = run-append a.shelf a.state p.steps b.shelf b.state q.steps c.shelf c.state p.run q.run;
    files = λ f. plain-append f p.steps q.steps ∙ ap (λ h. plain_run g h q.steps) (p.files f) ∙ q.files f;
  }

  quiet_step : (w : WorldState) (event : SiteEvent) (answer : SiteAnswer) (z : WorldState) → Asks g w event answer z → ((f : Files) → plain_after g f event answer ≡ f) → Quietly w z
  quiet_step w event answer z asks same = record {
    steps = (record { event = event; answer = answer; mid = asks.mid }) ∷ [];
    run = (z.state, asks.takes, (asks.shelf, refl));
    files = same;
  }

  -- JOBS ON THE WAY

  quiet_carried : (w : WorldState) (job : HeldJob) (how : Carried) (z : WorldState) → IsCarried w job how z → Quietly w z
  quiet_carried w job how z (inl was) = quiet_still w z (ap (λ (x : WorldState). x.shelf) was.1) (ap (λ (x : WorldState). x.state) was.1)
  quiet_carried w job how z (inr carries) = quiet_still w z (ap (λ (x : WorldState). x.shelf) carries.leaves) (ap (λ (x : WorldState). x.state) carries.leaves)

  quiet_end : (w : WorldState) (job : HeldJob) (answer : SiteAnswer) (z : WorldState) → EndsJob g w job answer z → Quietly w z
  quiet_end w job answer z ends = quiet_then w ends.mid z (quiet_carried w job ends.how ends.mid ends.carries)
      (quiet_step ends.mid (EndJob ends.comes_back.job) answer z ends.comes_back.asks (λ f. refl))

  quiet_room : (t : ℕ) (w : WorldState) (end : Option SiteAnswer) (z : WorldState) → MakesRoom g t w end z → Quietly w z
  quiet_room t w1 end1 z1 (IsFree w free) = quiet_still w w refl refl
  quiet_room t w1 end1 z1 (EndsOne w mid z job answer end way ends goes room) = quiet_then w mid z (quiet_end w job answer mid ends) (quiet_room t mid end z room)
  quiet_room t w1 end1 z1 (BreaksOff w z job answer way ends breaks) = quiet_end w job answer z ends

  room_ends : (t : ℕ) (w : WorldState) (answer : SiteAnswer) (end : Option SiteAnswer) (z : WorldState) → MakesRoom g t w end z → end ≡ Some answer → ends_line answer ≡ true
  room_ends t w1 said end1 z1 (IsFree w free) e = cc
  room_ends t w1 said end1 z1 (EndsOne w mid z job answer end way ends goes room) e = room_ends t mid said end z room e
  room_ends t w1 said end1 z1 (BreaksOff w z job answer way ends breaks) e = let same : answer ≡ said = cc in ap ends_line (sym same) ∙ breaks

  quiet_need : (now : ℕ) (call : Call) (t : ℕ) (w : WorldState) (end : Option SiteAnswer) (z : WorldState) → NeedsSegment g now call t w end z → Quietly w z
  quiet_need now call t w end z needs = quiet_then w needs.mid z (quiet_step w (FileCall now call) (answers.Needs t) needs.mid needs.asks (λ f. refl)) (quiet_room t needs.mid end z needs.room)

  quiet_fetch : (t : ℕ) (keep : List ℕ) (w : WorldState) (answer : SiteAnswer) (z : WorldState) → Fetches g t keep w answer z → Quietly w z
  quiet_fetch t keep w answer z fetches = quiet_then w fetches.mid z (quiet_step w (BeginNeed t keep) (answers.Job fetches.note) fetches.mid fetches.begins (λ f. refl)) (quiet_end fetches.mid _ answer z fetches.ends)

  -- LINES

  -- steps that do a line as plain files do
  record Plainly (w : WorldState) (l : Line) (answered : Said) (z : WorldState) : Type 0 where
    steps : List Stepped
    run : Run g w.shelf w.state steps z.shelf z.state
    files : (f : Files) → plain_run g f steps ≡ files_after g f l answered
    replies : (f : Files) → AreReplies g f steps → IsReplyOf g f l answered

  quiet_before : (a b c : WorldState) (l : Line) (answered : Said) → Quietly a b → Plainly b l answered c → Plainly a l answered c
  quiet_before a b c l answered p q = record {
    steps = p.steps ++ q.steps;
    run = run-append a.shelf a.state p.steps b.shelf b.state q.steps c.shelf c.state p.run q.run;
    files = λ f. plain-append f p.steps q.steps ∙ ap (λ h. plain_run g h q.steps) (p.files f) ∙ q.files f;
    replies = λ f are. q.replies f (subst (λ h. AreReplies g h q.steps) (p.files f) (replies-back f p.steps q.steps are));
  }

  no_reply_after : (f : Files) (call : Call) (answered : Said) → ((r : Reply) → answered ≡ said.Reply r → ⊥) → files_after g f (line.File call) answered ≡ f
  no_reply_after f call (said.Reply r) none = absurd (none r refl)
  no_reply_after f call answered none = refl

  -- a call that no reply answers
  quiet_call : (w z : WorldState) (call : Call) (answer : SiteAnswer) (answered : Said) → Quietly w z → is_done answer ≡ false → said_of answer ≡ Some answered → Plainly w (line.File call) answered z
  quiet_call w z call answer answered quiet none e = record {
    steps = quiet.steps;
    run = quiet.run;
    files = λ f. quiet.files f ∙ sym (no_reply_after f call answered (not_reply answer answered none e));
    replies = λ f are r h. absurd (not_reply answer answered none e r h);
  }

  abbrev files_of : Files → Call → Option Said → Files
  files_of f call None = f
  files_of f call (Some answered) = files_after g f (line.File call) answered

  called : (f : Files) (now : ℕ) (call : Call) (answer : SiteAnswer) → plain_after g f (FileCall now call) answer ≡ files_of f call (said_of answer)
  called f now call (answers.Done reply) = refl
  called f now call answer = refl

  answered_call : (now : ℕ) (call : Call) (w z : WorldState) (answer : SiteAnswer) (answered : Said) → Asks g w (FileCall now call) answer z → said_of answer ≡ Some answered → Plainly w (line.File call) answered z
  answered_call now call w z answer answered asks e = record {
    steps = (record { event = FileCall now call; answer = answer; mid = asks.mid }) ∷ [];
    run = (z.state, asks.takes, (asks.shelf, refl));
    files = λ f. called f now call answer ∙ ap (files_of f call) e;
    replies = λ f are r h. are.0 now call r refl (done_of answer r (e ∙ ap Some h));
  }

  serves : (now : ℕ) (call : Call) (keep : List ℕ) (w : WorldState) (answered : Said) (z : WorldState) → ServesCall g now call keep w answered z → Plainly w (line.File call) answered z
  serves now call keep1 w1 answered1 z1 (Answers keep w z answer answered asks e) = answered_call now call w z answer answered asks e
  serves now call keep1 w1 answered1 z1 (Blocked keep w z t answer answered needs e) =
      quiet_call w z call answer answered (quiet_need now call t w (Some answer) z needs) (ending_is_not_done answer (room_ends t needs.mid answer (Some answer) z needs.room refl)) e
  serves now call keep1 w1 answered1 z1 (Brought keep w room mid z t answered needs here rest) =
      quiet_before w room z (line.File call) answered (quiet_need now call t w None room needs)
      (quiet_before room mid z (line.File call) answered (quiet_step room (BeginNeed t keep) answers.Here mid here (λ f. refl)) (serves now call (keep ++ t ∷ []) mid answered z rest))
  serves now call keep1 w1 answered1 z1 (Fetched keep w room mid z t answered needs fetches rest) =
      quiet_before w room z (line.File call) answered (quiet_need now call t w None room needs)
      (quiet_before room mid z (line.File call) answered (quiet_fetch t keep room answers.Bound mid fetches) (serves now call (keep ++ t ∷ []) mid answered z rest))
  serves now call keep1 w1 answered1 z1 (Failed keep w room z t answer answered needs fetches other e) =
      quiet_call w z call answer answered (quiet_then w room z (quiet_need now call t w None room needs) (quiet_fetch t keep room answer z fetches))
      (end_step_says g fetches.ends.mid.shelf fetches.ends.comes_back.asks.mid fetches.ends.mid.state fetches.ends.comes_back.job z.state answer fetches.ends.comes_back.asks.takes.step) e
  serves now call keep1 w1 answered1 z1 (Refused keep w room z t answer answered needs asks ends e) =
      quiet_call w z call answer answered (quiet_then w room z (quiet_need now call t w None room needs) (quiet_step room (BeginNeed t keep) answer z asks (λ f. refl))) (ending_is_not_done answer ends) e

  -- a line that is no file call, done by steps that leave the files
  plainly : (w z : WorldState) (l : Line) (answered : Said) → ((f : Files) → files_after g f l answered ≡ f) → ((f : Files) → IsReplyOf g f l answered) → Quietly w z → Plainly w l answered z
  plainly w z l answered same free quiet = record { steps = quiet.steps; run = quiet.run; files = λ f. quiet.files f ∙ sym (same f); replies = λ f are. free f }

  quiet_one : (w : WorldState) (event : SiteEvent) (answered : Said) (z : WorldState) → ((f : Files) (answer : SiteAnswer) → plain_after g f event answer ≡ f) → IsOneStep g w event answered z → Quietly w z
  quiet_one w event answered z same one = quiet_step w event one.answer z one.asks (λ f. same f one.answer)

  quiet_move : (w : WorldState) (o : Option HeldJob) (answered : Said) (z : WorldState) → MovesJob w o answered z → Quietly w z
  quiet_move w None answered z moves = quiet_still w z (ap (λ (x : WorldState). x.shelf) moves.1) (ap (λ (x : WorldState). x.state) moves.1)
  quiet_move w (Some job) answered z (how, carries, says) = quiet_carried w job how z (inr carries)

  quiet_bring : (w : WorldState) (o : Option HeldJob) (answered : Said) (z : WorldState) → BringsIfOut g w o answered z → Quietly w z
  quiet_bring w None answered z brings = quiet_still w z (ap (λ (x : WorldState). x.shelf) brings.1) (ap (λ (x : WorldState). x.state) brings.1)
  quiet_bring w (Some job) answered z brings = quiet_step w (EndJob brings.comes_back.job) brings.answer z brings.comes_back.asks (λ f. refl)

  does : (w : WorldState) (l : Line) (now : ℕ) (answered : Said) (z : WorldState) → DoesLine g w l now answered z → Plainly w l answered z
  does w (line.File call) now answered z served = serves now call [] w answered z served
  does w (line.Rank count) now answered z one = plainly w z _ answered (λ f. refl) (λ f. tt) (quiet_one w _ answered z (λ f answer. refl) one)
  does w (line.Stage paths) now answered z one = plainly w z _ answered (λ f. refl) (λ f. tt) (quiet_one w _ answered z (λ f answer. refl) one)
  does w line.Copy now answered z one = plainly w z _ answered (λ f. refl) (λ f. tt) (quiet_one w _ answered z (λ f answer. refl) one)
  does w (line.Fetch path block) now answered z one = plainly w z _ answered (λ f. refl) (λ f. tt) (quiet_one w _ answered z (λ f answer. refl) one)
  does w (line.Move number) now answered z moves = plainly w z _ answered (λ f. refl) (λ f. tt) (quiet_move w (job_to_move number w.held) answered z moves)
  does w (line.End number) now answered z brings = plainly w z _ answered (λ f. refl) (λ f. tt) (quiet_bring w (job_out number w.held) answered z brings)
  does w (line.Eject n) now answered z one = plainly w z _ answered (λ f. refl) (λ f. tt) (quiet_one w _ answered z (λ f answer. refl) one)
  does w line.Clean now answered z one = plainly w z _ answered (λ f. refl) (λ f. tt) (quiet_one w _ answered z (λ f answer. refl) one)
  does w line.Checkpoint now answered z one = plainly w z _ answered (λ f. refl) (λ f. tt) (quiet_one w _ answered z (λ f answer. refl) one)

  -- WHOLE RUNS

  record RunsPlainly (w : WorldState) (lines : List TimedLine) (said : List Said) (z : WorldState) : Type 0 where
    steps : List Stepped
    run : Run g w.shelf w.state steps z.shelf z.state
    files : (f : Files) → plain_run g f steps ≡ files_behind g f lines said
    replies : (f : Files) → AreReplies g f steps → ArePlain g f lines said

  none_behind : (f : Files) (rest : List TimedLine) → files_behind g f rest [] ≡ f
  none_behind f [] = refl
  none_behind f (first ∷ rest) = refl

  none_plain : (f : Files) (rest : List TimedLine) → ArePlain g f rest []
  none_plain f [] = tt
  none_plain f (first ∷ rest) = tt

  runs_plainly : (w : WorldState) (lines : List TimedLine) (said : List Said) (z : WorldState) → LineRun g w lines said z → RunsPlainly w lines said z
  runs_plainly w1 lines1 said1 z1 (NoMore w) = record { steps = []; run = (refl, refl); files = λ f. refl; replies = λ f are. tt }
  runs_plainly w1 lines1 said1 z1 (Next w mid z first rest answered more line_does goes rest_run) =
      let one = does w first.line first.now answered mid line_does in
      let others = runs_plainly mid rest more z rest_run in
      record {
        steps = one.steps ++ others.steps;
        run = run-append w.shelf w.state one.steps mid.shelf mid.state others.steps z.shelf z.state one.run others.run;
        files = λ f. plain-append f one.steps others.steps ∙ ap (λ h. plain_run g h others.steps) (one.files f) ∙ others.files (files_after g f first.line answered);
        replies = λ f are. (
          one.replies f (replies-front f one.steps others.steps are),
          others.replies (files_after g f first.line answered) (subst (λ h. AreReplies g h others.steps) (one.files f) (replies-back f one.steps others.steps are)),
        );
      }
  runs_plainly w1 lines1 said1 z1 (Last w z first rest answered line_does ends) =
      let one = does w first.line first.now answered z line_does in
      record {
        steps = one.steps;
        run = one.run;
        files = λ f. one.files f ∙ sym (none_behind (files_after g f first.line answered) rest);
        replies = λ f are. (one.replies f are, none_plain (files_after g f first.line answered) rest);
      }

  pub lines_in_plain : (w : WorldState) (lines : List TimedLine) (said : List Said) (z : WorldState) → IsSite w.shelf w.state.site → LineRun g w lines said z
      → (plain z.shelf z.state.site.tree ≡ files_behind g (plain w.shelf w.state.site.tree) lines said) × ArePlain g (plain w.shelf w.state.site.tree) lines said
  lines_in_plain w lines said z site run =
      let all = runs_plainly w lines said z run in
      let plainly = run_in_plain g w.shelf w.state all.steps z.shelf z.state (stands_now g w.shelf w.state.site site) all.run in
      (plainly.0 ∙ all.files (plain w.shelf w.state.site.tree), all.replies (plain w.shelf w.state.site.tree) plainly.1)

  pub lines_are_one_run : (w : WorldState) (lines : List TimedLine) (said : List Said) (z : WorldState) → LineRun g w lines said z → (steps : List Stepped) × Run g w.shelf w.state steps z.shelf z.state
  lines_are_one_run w lines said z run = let all = runs_plainly w lines said z run in (all.steps, all.run)
