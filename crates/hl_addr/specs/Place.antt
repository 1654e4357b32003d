-- The address map: what each address stands for.
use Rattle.std.specs.Prelude.{◌≡◌, ◌≢◌, ℕ, ◌+◌, ◌-◌, ◌/◌, ◌%◌, ◌^◌, ◌<◌, ◌≤◌}
use Rattle.hl_addr.specs.Layout.{Layout}
use Rattle.hl_addr.specs.Slots.{HasSlot, slot_number}
use Rattle.hl_addr.specs.declared.place.Place.{Place}
use Rattle.hl_addr.specs.declared.place.Place.TheVariants.{Label, Log, Line, Tertiary, Dead, Nothing}

-- the last of the segments that 2^32 addresses make
abbrev pub top : Layout → ℕ
top g = 2 ^ 32 / g.k - 1

-- the segment of a slot: its volume ends just below the volumes before it, which end below the top
abbrev pub slot_segment : Layout → ℕ → ℕ → ℕ
slot_segment g volume slot = top g - slot_number g.volumes (volume + 1) 0 + slot

-- the address lies in this segment, at this block of it
pub record IsIn (g : Layout) (address segment block : ℕ) : Type 0 where
  pub segment_is : address / g.k ≡ segment
  pub block_is : address % g.k ≡ block

-- an address of no block: behind the lines, and in no slot of the rack
pub record IsDead (g : Layout) (address : ℕ) : Type 0 where
  pub is_some : address ≢ 4294967295
  pub behind_lines : g.log + g.lines < address / g.k
  pub in_no_slot : (volume slot : ℕ) → HasSlot g.volumes volume slot → address / g.k ≢ slot_segment g volume slot

-- what stands at an address
abbrev pub IsAt : Layout → ℕ → Place → Type 0
IsAt g address (Label block) = IsIn g address 0 block
IsAt g address (Log seg block) = (1 ≤ seg) × (seg ≤ g.log) × IsIn g address seg block
IsAt g address (Line line block) = (line < g.lines) × IsIn g address (g.log + 1 + line) block
IsAt g address (Tertiary volume slot block) = HasSlot g.volumes volume slot × IsIn g address (slot_segment g volume slot) block
IsAt g address Dead = IsDead g address
IsAt g address Nothing = address ≡ 4294967295

-- the site has this place
abbrev pub LiesIn : Layout → Place → Type 0
LiesIn g (Label block) = block < g.k
LiesIn g (Log seg block) = (1 ≤ seg) × (seg ≤ g.log) × (block < g.k)
LiesIn g (Line line block) = (line < g.lines) × (block < g.k)
LiesIn g (Tertiary volume slot block) = HasSlot g.volumes volume slot × (block < g.k)
LiesIn g Dead = ⊥
LiesIn g Nothing = Unit {0}
