-- What a run asks of its clock.
use Rattle.std.specs.Prelude.{◌≡◌, ◌⊎◌, ℕ, zero, suc, Bool, true, false, List, Option, Result, Ok, Err, option_map}
use Rattle.std.specs.Option.{ForSome}
use Rattle.hl_media.specs.Times.{first_time, later_times}
use Rattle.hl_script.specs.declared.line.BadLine.{BadLine}
use Rattle.hl_script.specs.declared.line.BadLine.TheVariants as line
use Rattle.hl_run.specs.declared.answering.Told.{Told}
use Rattle.hl_run.specs.declared.end.End.{End}
use Rattle.hl_run.specs.declared.end.End.TheVariants.{Output, Broken, Memory}

-- the times that are left after so many answers
abbrev pub times_after : ℕ → List ℕ → List ℕ
times_after zero times = times
times_after (suc n) times = later_times (times_after n times)

-- the answer behind the first n
abbrev pub time_at : ℕ → List ℕ → ℕ
time_at n times = first_time (times_after n times)

-- the clock was asked once, and gave this time
abbrev pub IsAsked : Option (List ℕ) → Option (List ℕ) → ℕ → Type 0
IsAsked before after time = ForSome before (λ times. time ≡ first_time times) × (after ≡ option_map later_times before)

-- it wasn't asked, or once
abbrev pub MayBeAsked : Option (List ℕ) → Option (List ℕ) → Type 0
MayBeAsked before after = (after ≡ before) ⊎ (after ≡ option_map later_times before)

-- Before a line is done the clock is asked once; for a bad line it isn't asked.
abbrev pub AsksFor : Option (List ℕ) → Option (List ℕ) → ℕ → Result Told BadLine → Type 0
AsksFor before after time (Ok told) = IsAsked before after time
AsksFor before after time (Err line.Bad) = after ≡ before
AsksFor before after time (Err line.Memory) = MayBeAsked before after

-- a turn asks once where it does a line, and else not
abbrev pub Asks : Option (List ℕ) → Option (List ℕ) → ℕ → Result Bool End → Type 0
Asks before after time (Ok true) = IsAsked before after time
Asks before after time (Err Output) = IsAsked before after time
Asks before after time (Err Broken) = IsAsked before after time
Asks before after time (Err Memory) = MayBeAsked before after
Asks before after time _ = after ≡ before
