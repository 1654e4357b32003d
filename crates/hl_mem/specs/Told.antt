-- What devices in memory tell.
use Rattle.std.specs.Prelude.{ℕ, ◌*◌, ◌/◌, List, [], length, replicate, Some}
use Rattle.std.specs.Option.{ForSome}
use Rattle.hl_bytes.specs.Buffers.{block_of}
use Rattle.hl_mem.specs.Failing.{Plan, no_plan}
use Rattle.hl_media.specs.History.{History, DeviceCall, Adds, HoldsAt, content, state_now}

-- of a machine: what was on its disk at first, the calls since, the first of them first, which calls are to fail, and the counts
pub record Told : Type 0 where
  pub blocks : ℕ
  pub opening : List ℕ
  pub calls : List DeviceCall
  pub plan : Plan
  pub faults : ℕ
  pub write_faults : ℕ
  pub say_faults : ℕ

-- its history
abbrev pub history_of : Told → History
history_of told = record { opening = block_of told.opening; calls = told.calls }

-- its history goes on by calls of this kind
abbrev pub GoesOn : Told → Told → (List DeviceCall → Type 0) → Type 0
GoesOn before now Did = Adds (Some (history_of before)) (Some (history_of now)) Did

-- the blocks that a read gives
abbrev pub Reads : Told → ℕ → List ℕ → Type 0
Reads before at bytes = ForSome (Some (history_of before)) (λ h. HoldsAt (content h) at bytes)

-- the bytes that it has said
abbrev pub said_by : Told → List ℕ
said_by told = (state_now (history_of told)).said

-- a machine with these bytes on its disk, of which no call was made
abbrev pub opened_on : List ℕ → Told
opened_on bytes = record { blocks = length bytes / 4096; opening = bytes; calls = []; plan = no_plan; faults = 0; write_faults = 0; say_faults = 0 }

-- the bytes of so many blocks of zeros
abbrev pub zeros : ℕ → List ℕ
zeros blocks = replicate (4096 * blocks) 0

-- of a source: the bytes that are left, which reads are to fail, and how often one has failed
pub record Input : Type 0 where
  pub left : List ℕ
  pub plan : Plan
  pub faults : ℕ

-- a source of these bytes, of which nothing was read
abbrev pub input_of : List ℕ → Input
input_of bytes = record { left = bytes; plan = no_plan; faults = 0 }
