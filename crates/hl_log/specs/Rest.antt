-- The log at rest, and what a stop leaves of it.
use Rattle.std.specs.Prelude.{◌≡◌, ℕ, ◌+◌, ◌≤◌, Bool, true, false, List, [], ◌∷◌, ◌++◌, length}
use Rattle.hl_media.specs.History.{Image, PendingWrite, MachineState, MayLeave, IsUntouched}
use Rattle.hl_addr.specs.Layout.{Layout}
use Rattle.hl_bytes.specs.Fields.{zeros}
use Rattle.hl_summary.specs.declared.parts.Summary.{Summary}
use Rattle.hl_image.specs.Places.{block_at, log_end, IsLogPlace}
use Rattle.hl_image.specs.Chain.{Walk, IsChain, cut, end_of, Covers}
use Rattle.hl_image.specs.Chance.{NoChance}
use Rattle.hl_log.specs.declared.position.Position.{Position}
use Rattle.hl_log.specs.Free.{IsFree, AreClean}

-- whatever a stop leaves, unless by chance, has P
abbrev pub StopLeaves : Layout → Position → (Image → Type 0) → MachineState → Type 0
StopLeaves g p P s = (image : Image) → MayLeave s image → NoChance g p.start p.first s.pending image
    → P image

-- nothing is pending below this block
abbrev pub OnlyFrom : ℕ → List PendingWrite → Type 0
OnlyFrom b [] = Unit {0}
OnlyFrom b (w ∷ pending) = (b ≤ w.at) × OnlyFrom b pending

-- what stands behind the chain: until the log's first part any parts that end no unit, later zeros
abbrev pub AtHead : Layout → Position → List Summary → Image → Bool → Type 0
AtHead g p parts image true = (beyond : List Summary)
    × IsChain g image p.start p.first (parts ++ beyond) × (cut beyond ≡ []) × (cut parts ≡ parts)
AtHead g p parts image false = image (block_at g p.head) ≡ zeros 4096

-- The log is at rest: nothing is pending in it, these parts stand from its start on, the head is behind them, and
-- neither what is ahead in the head's segment nor the clean segments hold a block of theirs.
pub record IsAtRest (g : Layout) (p : Position) (clean : List ℕ) (parts : List Summary)
    (s : MachineState) : Type 0 where
  pub quiet : OnlyFrom (log_end g) s.pending
  pub start : IsLogPlace g p.start
  pub head : IsLogPlace g p.head
  pub cleans : AreClean g p.head.seg clean
  pub walk : Walk g s.content p.start p.first parts
  pub head_is : end_of p.start parts ≡ p.head
  pub serial_is : p.first + length parts ≡ p.serial
  pub behind : (b : ℕ) → Covers g p.start parts b → IsFree g p.head clean b → ⊥
  pub at_head : AtHead g p parts s.content p.fresh

-- the chain has these parts, and behind them only parts that end no unit
pub record Has (g : Layout) (p : Position) (parts : List Summary) (image : Image) : Type 0 where
  pub beyond : List Summary
  pub chain : IsChain g image p.start p.first (parts ++ beyond)
  pub open_ended : cut beyond ≡ []

-- no block but those that are free and those of writes that were pending differs from what reads gave at first
abbrev pub Keeps : Layout → Position → List ℕ → MachineState → Image → Type 0
Keeps g p clean first image = (k : ℕ) → (IsFree g p.head clean k → ⊥) → IsUntouched first.pending k
    → image k ≡ first.content k

-- what reads give differs only in free blocks, and no write is pending that wasn't at first
pub record IsSame (g : Layout) (p : Position) (clean : List ℕ)
    (first s : MachineState) : Type 0 where
  pub content : (k : ℕ) → (IsFree g p.head clean k → ⊥) → s.content k ≡ first.content k
  pub pending : (k : ℕ) → IsUntouched first.pending k → IsUntouched s.pending k

-- whatever a stop leaves has Q, unless by chance, and nothing but free blocks has changed
abbrev pub Leaves : Layout → Position → List ℕ → (Image → Type 0) → MachineState → MachineState
    → Type 0
Leaves g p clean Q first s = StopLeaves g p (λ image. Q image × Keeps g p clean first image) s

-- the log stays at rest
abbrev pub Stays : Layout → Position → MachineState → MachineState → Type 0
Stays g p first s = (clean : List ℕ) (parts : List Summary) → IsAtRest g p clean parts first
    → IsAtRest g p clean parts s

-- nothing on the machine changes
abbrev pub IsUnchanged : MachineState → MachineState → Type 0
IsUnchanged first s = s ≡ first

-- nothing is said
abbrev pub SaysNothing : MachineState → MachineState → Type 0
SaysNothing first s = s.said ≡ first.said

-- every write is synced
abbrev pub IsSynced : MachineState → Type 0
IsSynced s = s.pending ≡ []
