-- What the devices of the system are made of.
use Rattle.std.specs.Prelude.{◌≡◌, ℕ, ◌*◌, List, length, Option, Some, None}
use Rattle.hl_host.specs.Places.{ChangesAt, PutsAt, StandsAt}

-- of a disk in a file: the file, if it could be opened, how many blocks it has, the output, and the counts
pub record Opened (F W : Type 0) : Type 0 where
  pub file : Option F
  pub blocks : ℕ
  pub output : W
  pub faults : ℕ
  pub write_faults : ℕ
  pub say_faults : ℕ

-- of a volume in a file: the file, if it could be opened, the blocks of a slot, the slots, and the count
pub record OpenedVolume (F : Type 0) : Type 0 where
  pub file : Option F
  pub slot_blocks : ℕ
  pub slots : ℕ
  pub faults : ℕ

-- what is told of a file that was opened
abbrev pub told_of : {F : Type 0} → (F → Option (List ℕ)) → Option F → Option (List ℕ)
told_of tells None = None
told_of tells (Some file) = tells file

-- of an input: the reader, if it could be opened, and the count
pub record OpenedInput (R : Type 0) : Type 0 where
  pub input : Option R
  pub faults : ℕ

-- what is read from a file that may not have been opened, and written to it
module _ {F : Type 0} (tells : F → Option (List ℕ)) where
  -- these bytes stand in it from this byte on
  abbrev pub ReadsFrom : Option F → ℕ → List ℕ → Type 0
  ReadsFrom file from bytes = StandsAt (told_of tells file) from (length bytes) bytes

  -- they took the place of as many
  abbrev pub WritesTo : Option F → Option F → ℕ → List ℕ → Type 0
  WritesTo before now from bytes = PutsAt (told_of tells before) (told_of tells now) from bytes

  -- only as many bytes from there on may have changed
  abbrev pub MayWriteTo : Option F → Option F → ℕ → ℕ → Type 0
  MayWriteTo before now from n = ChangesAt (told_of tells before) (told_of tells now) from n

  -- it holds what it held
  abbrev pub HoldsOn : Option F → Option F → Type 0
  HoldsOn before now = told_of tells now ≡ told_of tells before

-- the first byte of a slot of so many blocks
abbrev pub first_byte : ℕ → ℕ → ℕ
first_byte blocks slot = 4096 * blocks * slot
