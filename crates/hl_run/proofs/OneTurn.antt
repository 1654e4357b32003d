-- What a turn makes of the line that it is given.
use Rattle.std.proofs.Common.{inl, inr, ◌≡◌, ◌≤◌, ℕ, Bool, true, false, IsTrue, List, ◌∷◌, length, Option, Some, None, Ok, Err, refl, sym, ap, subst, ◌∙◌, arith}
use Rattle.std.specs.Prelude.{◌⊎◌, Result, OnOk, OnErr, IfSome, ◌≢◌}
use Rattle.hl_media.specs.Causes.{Rose}
use Rattle.hl_media.specs.History.{History}
use Rattle.hl_media.specs.Moments.{Runs}
use Rattle.hl_media.specs.Saying.{Says, SaysSome}
use Rattle.hl_script.specs.declared.line.Line.{Line}
use Rattle.hl_script.specs.declared.said.Said.{Said}
use Rattle.hl_script.specs.declared.said.Said.TheVariants as said
use Rattle.hl_script.specs.Spelling.{IsLine, spelling}
use Rattle.hl_script.specs.Answer.{answer_line, is_memory}
use Rattle.hl_script.specs.Input.{Ahead, Gives, Cuts, lines_of, beyond}
use Rattle.hl_disk.specs.Saves.{IsSaving}
use Rattle.hl_world.specs.Worlds.{Does, KeepsDisk, is_eio}
use Rattle.hl_run.specs.Served.{is_served}
use Rattle.hl_run.specs.Turn.{Held, Answers, IsFirstLine, SaysOrFails, Step, Tells, Turns}
use Rattle.hl_run.specs.declared.end.End.{End}
use Rattle.hl_run.specs.declared.end.End.TheVariants.{Finished, BadLine, Output, Broken, Input, Memory, TooLong}

-- whatever a call answered, one of two holds
pub either : {T E A B F : Type 0} (r : Result T E) → OnOk r A → OnErr r B → OnErr r F → A ⊎ (F × B)
either (Ok x) a b f = inl a
either (Err e) a b f = inr (f, b)

not_memory : (s : Said) → is_memory s ≡ false → s ≢ said.Memory
not_memory s f e = let h : true ≡ false = sym (ap is_memory e) ∙ f in cc

-- the text of an answer to a line that was read and is served
pub answers : (blocks : ℕ) (old new : Held) (bytes out : List ℕ) (broken : Bool) (before now : Option History) (l : Line) (s : Said) (served memory : Bool) → IsLine l → bytes ≡ spelling l
    → served ≡ is_served l → served ≡ true → memory ≡ is_memory s → memory ≡ false
    → (s ≢ said.Memory → Does old.files l s new.files) → KeepsDisk blocks old.number old.files l s before now new.number → out ≡ answer_line s → broken ≡ is_eio s
    → (x : Line) × Answers blocks old new bytes out broken before now x
answers blocks old new bytes out broken before now l s served memory fits spelled is does_serve memory_is has_memory does kept text broken_is = (
  l,
  record {
    fits = fits;
    served = sym is ∙ does_serve;
    spelled = spelled;
    answer = s;
    text = text;
    does = does (not_memory s (sym memory_is ∙ has_memory));
    kept = kept;
    is_broken = broken_is;
  },
)

-- the line that is given is the first of what is left
first_line : (bytes out : List ℕ) (left : Option (List ℕ)) (old new : Ahead) (l : Line) → Gives old new bytes left true out → Cuts old new bytes true out
    → new.used ≤ old.limit → IsLine l → IsTrue (is_served l) → out ≡ spelling l → IsFirstLine old.limit old.used bytes l
first_line bytes out left old new l gives cuts counted fits served spelled = record {
  first = cuts.lines ∙ ap (λ x. x ∷ lines_of (beyond bytes)) spelled;
  good = record { fits = fits; served = served; short = subst (λ (x : List ℕ). length x ≤ 140000) spelled cuts.short };
  within = record {
    line = subst (λ (x : List ℕ). length x ≤ 140000) gives.line cuts.short;
    whole = let size = cuts.size in omega arith;
  };
}

-- a line that was read, done and told
module _ (blocks n : ℕ) (after : Option (List ℕ)) (old new : Ahead) (out text : List ℕ) (broken : Bool) (held held' : Held) (before middle now : Option History) (Cut : Type 0) where
  step : {Saying : Option History → Option History → List ℕ → Type 0} (l : Line) (a : Answers blocks held held' out text broken before middle l) → Runs before middle (IsSaving blocks held.number held.files.tree)
      → Saying middle now text → Step blocks held held' before now Saying (record { line = l; answer = a.answer; time = held'.time })
  step {Saying} l a saving says = record { middle = middle; does = a.does; saving = saving; kept = a.kept; says = subst (Saying middle now) a.text says; time = refl }

  told_by : (bytes : List ℕ) (result : Result Bool End) → Gives old new bytes after true out → Cuts old new bytes true out → new.used ≤ old.limit
      → (x : Line) × Answers blocks held held' out text broken before middle x → Runs before middle (IsSaving blocks held.number held.files.tree)
      → Tells Cut text broken middle now result → Turns Cut blocks n old new held held' bytes after before now result
  told_by bytes (Ok true) gives cuts counted done saving tells =
      let a = done.1 in (
        record { line = done.0; answer = a.answer; time = held'.time },
        first_line bytes out after old new done.0 gives cuts counted a.fits a.served a.spelled,
        gives.left,
        cuts.size,
        step {Saying = Says} done.0 a saving tells.0,
        sym a.is_broken ∙ tells.1,
      )
  told_by bytes (Ok false) gives cuts counted done saving tells = absurd tells
  told_by bytes (Err Output) gives cuts counted done saving tells =
      let a = done.1 in (
        record { line = done.0; answer = a.answer; time = held'.time },
        first_line bytes out after old new done.0 gives cuts counted a.fits a.served a.spelled,
        step {Saying = SaysSome} done.0 a saving tells.0,
        sym a.is_broken ∙ tells.1,
        tells.2,
      )
  told_by bytes (Err Broken) gives cuts counted done saving tells =
      let a = done.1 in (
        record { line = done.0; answer = a.answer; time = held'.time },
        first_line bytes out after old new done.0 gives cuts counted a.fits a.served a.spelled,
        step {Saying = SaysOrFails Cut} done.0 a saving tells.0,
        sym a.is_broken ∙ tells.1,
      )
  told_by bytes (Err Finished) gives cuts counted done saving tells = absurd tells
  told_by bytes (Err BadLine) gives cuts counted done saving tells = absurd tells
  told_by bytes (Err Input) gives cuts counted done saving tells = absurd tells
  told_by bytes (Err Memory) gives cuts counted done saving tells = absurd tells
  told_by bytes (Err TooLong) gives cuts counted done saving tells = absurd tells

  pub told : (left : Option (List ℕ)) (result : Result Bool End) → IfSome left (λ bytes. Gives old new bytes after true out) → IfSome left (λ bytes. Cuts old new bytes true out) → new.used ≤ old.limit
      → (x : Line) × Answers blocks held held' out text broken before middle x → Runs before middle (IsSaving blocks held.number held.files.tree)
      → Tells Cut text broken middle now result → IfSome left (λ bytes. Turns Cut blocks n old new held held' bytes after before now result)
  told None result gives cuts counted done saving tells = tt
  told (Some bytes) result gives cuts counted done saving tells = told_by bytes result gives cuts counted done saving tells

-- the same with the counts and the bytes as a turn has them
pub told_at : (blocks n : ℕ) (after : Option (List ℕ)) (old new : Ahead) (bytes out text : List ℕ) (broken : Bool) (held middle_held held' : Held) (before middle now : Option History) (said said_middle said' : ℕ)
    (left : Option (List ℕ)) (result : Result Bool End) → IfSome left (λ bytes. Gives old new bytes after true out) → IfSome left (λ bytes. Cuts old new bytes true out) → new.used ≤ old.limit
    → bytes ≡ out → (x : Line) × Answers blocks held middle_held bytes text broken before middle x → Runs before middle (IsSaving blocks held.number held.files.tree)
    → said_middle ≡ said → held' ≡ middle_held → Tells (Rose said_middle said') text broken middle now result
    → IfSome left (λ bytes. Turns (Rose said said') blocks n old new held held' bytes after before now result)
told_at blocks n after old new bytes out text broken held middle_held held' before middle now said said_middle said' left result gives cuts counted is done saving same held_is tells =
    told blocks n after old new out text broken held held' before middle now (Rose said said') left result gives cuts counted
    (subst (λ (h : Held). (x : Line) × Answers blocks held h out text broken before middle x) (sym held_is) (subst (λ (b : List ℕ). (x : Line) × Answers blocks held middle_held b text broken before middle x) is done)) saving
    (subst (λ (k : ℕ). Tells (Rose k said') text broken middle now result) same tells)

-- a turn that wanted memory
pub wanted : {P : Type 0} (left : Option (List ℕ)) → P → IfSome left (λ bytes. P)
wanted None p = tt
wanted (Some bytes) p = p
