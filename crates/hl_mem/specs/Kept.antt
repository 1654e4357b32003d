-- What a machine in memory keeps true.
use Rattle.std.specs.Prelude.{◌≡◌, ◌⊎◌, ℕ, ◌+◌, ◌*◌, ◌/◌, ◌<◌, ◌≤◌, List, length, All}
use Rattle.hl_bytes.specs.Buffers.{block_of}
use Rattle.hl_media.specs.History.{MachineState, MayLeave, DeviceCall, IsWhole, content}
use Rattle.hl_mem.specs.declared.tear.Tear.{Tear}
use Rattle.hl_mem.specs.Tears.{IsTorn}
use Rattle.hl_media.specs.History.DeviceCall.{Read, Write, Sync, Say}

-- a write is of whole blocks, within this many bytes
abbrev pub IsFit : ℕ → DeviceCall → Type 0
IsFit size Read = Unit {0}
IsFit size (Write at bytes after) = IsWhole bytes × (length after ≡ length bytes) × (4096 * at + length bytes ≤ size)
IsFit size (Sync succeeded) = Unit {0}
IsFit size (Say bytes) = Unit {0}

-- the disk has these many blocks, the calls lie within it, and the bytes are what a read gives
pub record IsKept (blocks : ℕ) (opening : List ℕ) (calls : List DeviceCall) (bytes : List ℕ) : Type 0 where
  pub opening_size : length opening ≡ 4096 * blocks
  pub size : length bytes ≡ 4096 * blocks
  pub fit : All (IsFit (4096 * blocks)) calls
  pub current : (k : ℕ) → content (record { opening = block_of opening; calls = calls }) k ≡ block_of bytes k

-- the first is what a read gives, the second what a stop leaves that tears like this
pub record Shows (tear : Tear) (s : MachineState) (now left : List ℕ) : Type 0 where
  pub content : (k : ℕ) → s.content k ≡ block_of now k
  pub image : MayLeave s (block_of left)
  pub torn : IsTorn tear s left

-- bytes of which only the blocks of a write have changed
abbrev pub SameOutside : ℕ → List ℕ → List ℕ → List ℕ → Type 0
SameOutside at bytes before now = (k : ℕ) → (k < at) ⊎ (at + length bytes / 4096 ≤ k) → block_of now k ≡ block_of before k
