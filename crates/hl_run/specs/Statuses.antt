-- The statuses of the program.
use Rattle.std.specs.Prelude.{◌≡◌, ◌⊎◌, ℕ}
use Rattle.hl_run.specs.Makes.{status_of_making}
use Rattle.hl_run.specs.Run.{status_of}
use Rattle.hl_run.specs.declared.end.Finish.{Finish}
use Rattle.hl_run.specs.declared.making.Making.{Making}

-- no other status comes
abbrev pub IsStatus : ℕ → Type 0
IsStatus status = (status ≡ 2) ⊎ ((status ≡ 9) ⊎ (((finish : Finish) × (status ≡ status_of finish)) ⊎ ((making : Making) × (status ≡ status_of_making making))))
