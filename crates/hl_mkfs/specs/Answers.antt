-- How the making of a site ends.
use Rattle.std.specs.Prelude.{◌≡◌, ℕ, ◌≤◌, Result, Ok, Err}
use Rattle.hl_media.specs.Causes.{Rose}
use Rattle.hl_mkfs.specs.declared.making.MkfsError.{MkfsError}
use Rattle.hl_mkfs.specs.declared.making.MkfsError.TheVariants.{DiskFault, Memory}

-- the machine that is handed back
abbrev pub machine_of : {M : Type 0} → Result M (MkfsError × M) → M
machine_of (Ok m) = m
machine_of (Err e) = e.1

-- a fault is answered only where the count rose; else it stays
abbrev pub HasCauseOf : MkfsError → ℕ → ℕ → Type 0
HasCauseOf DiskFault before now = (before ≤ now) × Rose before now
HasCauseOf Memory before now = now ≡ before

abbrev pub HasCause : {M : Type 0} → (M → ℕ) → M → Result M (MkfsError × M) → Type 0
HasCause count before (Ok m) = count m ≡ count before
HasCause count before (Err e) = HasCauseOf e.0 (count before) (count e.1)

-- the same of counts before and after, where the machine is kept
abbrev pub HasCauseIn : ℕ → ℕ → Result (Unit {0}) MkfsError → Type 0
HasCauseIn before now (Ok u) = now ≡ before
HasCauseIn before now (Err e) = HasCauseOf e before now
