-- The bytes of one entry.
use Rattle.std.proofs.Common.{◌≡◌, ℕ, ◌<◌, ◌^◌, ◌==◌, length, Bool, true, false, refl, lit<}
use Rattle.hl_bytes.specs.Fields.{le32, le64}
use Rattle.hl_tseg.specs.declared.slot.Slot.{Slot}
use Rattle.hl_tseg.specs.declared.slot.Slot.TheVariants.{Free, Staged, Home, Spoilt}
use Rattle.hl_tables.specs.Entries.{flag_code, flag_bytes, slot_bytes, state_field}

pub length-flag_bytes : (flag : Bool) → length (flag_bytes flag) ≡ 4
unfolding flag_bytes le32
length-flag_bytes flag = refl

pub length-slot_bytes : (slot : Slot) → length (slot_bytes slot) ≡ 16
unfolding slot_bytes le32 le64
length-slot_bytes slot = refl

-- the numbers of an entry fit their fields, and a flag is read from its number
pub code_fits : (flag : Bool) → flag_code flag < 2 ^ 32
code_fits true = lit< tt
code_fits false = lit< tt

pub read_flag : (n : ℕ) (flag : Bool) → n ≡ flag_code flag → (n == 1) ≡ flag
read_flag n true is = rw is refl
read_flag n false is = rw is refl

pub state_fits : (slot : Slot) → state_field slot < 2 ^ 32
state_fits Free = lit< tt
state_fits (Staged line serial) = lit< tt
state_fits (Home serial) = lit< tt
state_fits Spoilt = lit< tt
