-- One turn of a run.
use Rattle.std.specs.Prelude.{◌≡◌, ◌⊎◌, ℕ, ◌+◌, Bool, true, false, IsTrue, List, [], ◌∷◌, length, Option, Some, Result, Ok, Err}
use Rattle.hl_media.specs.History.{History}
use Rattle.hl_media.specs.Moments.{Runs}
use Rattle.hl_media.specs.Saying.{Says, SaysSome}
use Rattle.hl_tree.specs.PlainValue.{Plain}
use Rattle.hl_script.specs.declared.line.Line.{Line}
use Rattle.hl_script.specs.declared.said.Said.{Said}
use Rattle.hl_script.specs.Spelling.{IsLine, spelling}
use Rattle.hl_script.specs.Answer.{answer_line}
use Rattle.hl_script.specs.Input.{Ahead, lines_of, beyond}
use Rattle.hl_disk.specs.Saves.{IsSaving}
use Rattle.hl_world.specs.Worlds.{Standing, Does, KeepsDisk, is_eio}
use Rattle.hl_run.specs.Served.{is_served}
use Rattle.hl_run.specs.Run.{DoneLine, IsGood, IsBad, KeepsLimits, PassesLimit, bad_text}
use Rattle.hl_run.specs.declared.end.End.{End}
use Rattle.hl_run.specs.declared.end.End.TheVariants.{Finished, BadLine, Output, Broken, Input, Memory, TooLong}

-- the files in memory, the number under which the disk keeps files, and the time that the last line was given
pub record Held : Type 0 where
  pub files : Plain
  pub number : ℕ
  pub time : ℕ

-- These bytes are a line that is served, and this text is its answer on these files. It is broken where the disk failed it.
pub record Answers (blocks : ℕ) (old new : Held) (bytes out : List ℕ) (broken : Bool) (before now : Option History) (line : Line) : Type 0 where
  pub fits : IsLine line
  pub served : IsTrue (is_served line)
  pub spelled : bytes ≡ spelling line
  pub answer : Said
  pub text : out ≡ answer_line answer
  pub does : Does old.files line answer new.files
  pub kept : KeepsDisk blocks old.number old.files line answer before now new.number
  pub is_broken : broken ≡ is_eio answer

-- the first line of what is left is good, and ends within the limits
pub record IsFirstLine (limit used : ℕ) (bytes : List ℕ) (line : Line) : Type 0 where
  pub first : lines_of bytes ≡ spelling line ∷ lines_of (beyond bytes)
  pub good : IsGood line
  pub within : KeepsLimits limit (used + length bytes) bytes

-- the whole text is said, or saying failed, and some first part of it
abbrev pub SaysOrFails : Type 0 → Option History → Option History → List ℕ → Type 0
SaysOrFails Cut before now text = Says before now text ⊎ (Cut × SaysSome before now text)

-- A line is done, which may keep the files on the disk, and then its answer is said, whole or not.
pub record Step (blocks : ℕ) (old new : Held) (before now : Option History) (Saying : Option History → Option History → List ℕ → Type 0) (d : DoneLine) : Type 0 where
  pub middle : Option History
  pub does : Does old.files d.line d.answer new.files
  pub saving : Runs before middle (IsSaving blocks old.number old.files.tree)
  pub kept : KeepsDisk blocks old.number old.files d.line d.answer before middle new.number
  pub says : Saying middle now (answer_line d.answer)
  pub time : d.time ≡ new.time

-- What a turn does to the bytes that are left, to the files, to the disk and to what is said.
abbrev pub Turns : Type 0 → ℕ → ℕ → Ahead → Ahead → Held → Held → List ℕ → Option (List ℕ) → Option History → Option History → Result Bool End → Type 0
Turns Cut blocks n old new held held' bytes left before now (Ok true) =
    (d : DoneLine) × IsFirstLine old.limit old.used bytes d.line × (left ≡ Some (beyond bytes)) × (new.used + length (beyond bytes) ≡ old.used + length bytes)
    × Step blocks held held' before now Says d × (is_eio d.answer ≡ false)
Turns Cut blocks n old new held held' bytes left before now (Ok false) = (bytes ≡ []) × Says before now [] × (held' ≡ held)
Turns Cut blocks n old new held held' bytes left before now (Err BadLine) =
    (text : List ℕ) × (lines_of bytes ≡ text ∷ lines_of (beyond bytes)) × IsBad text × KeepsLimits old.limit (old.used + length bytes) bytes × SaysOrFails Cut before now (bad_text n) × (held' ≡ held)
Turns Cut blocks n old new held held' bytes left before now (Err Output) =
    (d : DoneLine) × IsFirstLine old.limit old.used bytes d.line × Step blocks held held' before now SaysSome d × (is_eio d.answer ≡ false) × Cut
Turns Cut blocks n old new held held' bytes left before now (Err Broken) =
    (d : DoneLine) × IsFirstLine old.limit old.used bytes d.line × Step blocks held held' before now (SaysOrFails Cut) d × (is_eio d.answer ≡ true)
Turns Cut blocks n old new held held' bytes left before now (Err Input) = Says before now [] × (held' ≡ held)
Turns Cut blocks n old new held held' bytes left before now (Err Memory) = Runs before now (IsSaving blocks held.number held.files.tree)
Turns Cut blocks n old new held held' bytes left before now (Err TooLong) = PassesLimit old.limit (old.used + length bytes) bytes × Says before now [] × (held' ≡ held)
Turns Cut blocks n old new held held' bytes left before now (Err Finished) = ⊥

-- What telling an answer does: it is said, or as much of it as could be, and the run goes on or ends.
abbrev pub Tells : Type 0 → List ℕ → Bool → Option History → Option History → Result Bool End → Type 0
Tells Cut text broken before now (Ok true) = Says before now text × (broken ≡ false)
Tells Cut text broken before now (Err Output) = SaysSome before now text × (broken ≡ false) × Cut
Tells Cut text broken before now (Err Broken) = SaysOrFails Cut before now text × (broken ≡ true)
Tells Cut text broken before now _ = ⊥

-- what a world has besides its machine
abbrev pub held : {M : Type 0} → Standing M → Held
held world = record { files = world.files; number = world.number; time = world.time }
