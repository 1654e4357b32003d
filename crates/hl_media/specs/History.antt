-- What has been done to a machine, and what follows from it of each moment.
use Rattle.std.specs.Prelude.{◌≡◌, ◌⊎◌, ℕ, zero, suc, ◌+◌, ◌-◌, ◌*◌, ◌/◌, ◌<◌, ◌≤◌, Bool, true, false, ◌&&◌, nat_le, nat_lt, if◌then◌else◌, List, [], ◌∷◌, ◌++◌, length, take, Option, option_map, Result, MatchResult}
use Rattle.hl_bytes.specs.Buffers.{block_of}
use Rattle.hl_media.specs.declared.failed.Failed.{Failed}

-- what a disk holds: the bytes of each block, by its number
abbrev pub Image : Type 0
Image = ℕ → List ℕ

-- these bytes are whole blocks
abbrev pub IsWhole : List ℕ → Type 0
IsWhole bytes = 4096 * (length bytes / 4096) ≡ length bytes

-- the image with other bytes in the blocks from this one on
unfoldable pub overwritten : Image → ℕ → ℕ → List ℕ → Image
overwritten image at count bytes = λ k. if nat_le at k && nat_lt k (at + count) then block_of bytes (k - at) else image k

-- the image has these bytes in the blocks from this one on
abbrev pub HoldsAt : Image → ℕ → List ℕ → Type 0
HoldsAt image at bytes = (k : ℕ) → k < length bytes / 4096 → image (at + k) ≡ block_of bytes k

-- the bytes of n blocks, from this one on
abbrev pub area : Image → ℕ → ℕ → List ℕ
area image start zero = []
area image start (suc n) = image start ++ area image (suc start) n

-- A call of a device. A write has the bytes that it was given and those that a read gives in their place afterwards,
-- a sync whether it succeeded, a `say` the bytes that were said.
pub data DeviceCall : Type 0 where
  Read : DeviceCall
  Write : ℕ → List ℕ → List ℕ → DeviceCall
  Sync : Bool → DeviceCall
  Say : List ℕ → DeviceCall

-- a write that no sync has followed, and what reads gave before it
pub record PendingWrite : Type 0 where
  pub at : ℕ
  pub bytes : List ℕ
  pub before : Image

-- What holds of a machine at a moment: what a read gives, the writes that no sync has followed, the last first,
-- and the bytes said.
pub record MachineState : Type 0 where
  pub content : Image
  pub pending : List PendingWrite
  pub said : List ℕ

-- while the call is under way
abbrev pub begun : MachineState → DeviceCall → MachineState
begun s (Write at bytes after) = record { content = s.content; pending = record { at = at; bytes = bytes; before = s.content } ∷ s.pending; said = s.said }
begun s Read = s
begun s (Sync succeeded) = s
begun s (Say bytes) = s

-- after the call
abbrev pub ended : MachineState → DeviceCall → MachineState
ended s (Write at bytes after) = record {
  content = overwritten s.content at (length bytes / 4096) after;
  pending = record { at = at; bytes = bytes; before = s.content } ∷ s.pending;
  said = s.said;
}
ended s (Sync true) = record { content = s.content; pending = []; said = s.said }
ended s (Sync false) = s
ended s Read = s
ended s (Say bytes) = record { content = s.content; pending = s.pending; said = s.said ++ bytes }

-- after these calls, the first of them first
abbrev pub state_after : MachineState → List DeviceCall → MachineState
state_after s [] = s
state_after s (call ∷ calls) = state_after (ended s call) calls

-- at a moment: 2n - 1 while the nth call is under way, 2n after it
abbrev pub state_at : MachineState → List DeviceCall → ℕ → MachineState
state_at s [] m = s
state_at s (call ∷ calls) zero = s
state_at s (call ∷ calls) (suc zero) = begun s call
state_at s (call ∷ calls) (suc (suc m)) = state_at (ended s call) calls m

-- what was on the disk at first, and the calls since, the first of them first
pub record History : Type 0 where
  pub opening : Image
  pub calls : List DeviceCall

abbrev pub opened : History → MachineState
opened h = record { content = h.opening; pending = []; said = [] }

-- what holds now
abbrev pub state_now : History → MachineState
state_now h = state_after (opened h) h.calls

-- what a read gives
abbrev pub content : History → Image
content h = (state_now h).content

-- the number of moments so far
abbrev pub moment : History → ℕ
moment h = 2 * length h.calls

-- what held at a moment
abbrev pub at_moment : History → ℕ → MachineState
at_moment h m = state_at (opened h) h.calls m

-- no pending write is of this block
abbrev pub IsUntouched : List PendingWrite → ℕ → Type 0
IsUntouched [] k = Unit {0}
IsUntouched (w ∷ pending) k = ((k < w.at) ⊎ (w.at + length w.bytes / 4096 ≤ k)) × IsUntouched pending k

-- A stop at such a moment may leave the image: any bytes in the blocks of pending writes.
abbrev pub MayLeave : MachineState → Image → Type 0
MayLeave s image = (k : ℕ) → IsUntouched s.pending k → image k ≡ s.content k

abbrev pub with_calls : List DeviceCall → Option History → Option History
with_calls calls told = option_map (λ h. record { opening = h.opening; calls = h.calls ++ calls }) told

-- the history goes on by calls of this kind, none or one
pub record Adds (before now : Option History) (Did : List DeviceCall → Type 0) : Type 0 where
  pub calls : List DeviceCall
  pub did : Did calls
  pub is : now ≡ with_calls calls before

-- one call where it succeeded, and no more than one where it failed
abbrev pub OneOrNone : Result (Unit {0}) Failed → (DeviceCall → Type 0) → (DeviceCall → Type 0) → List DeviceCall → Type 0
OneOrNone result Done Tried calls = MatchResult result
    (λ _. (call : DeviceCall) × (calls ≡ call ∷ []) × Done call)
    (λ _. (calls ≡ []) ⊎ ((call : DeviceCall) × (calls ≡ call ∷ []) × Tried call))

abbrev pub DidRead : Result (Unit {0}) Failed → List DeviceCall → Type 0
DidRead result calls = OneOrNone result (λ call. call ≡ Read) (λ call. call ≡ Read) calls

abbrev pub DidWrite : ℕ → List ℕ → Result (Unit {0}) Failed → List DeviceCall → Type 0
DidWrite at bytes result calls = OneOrNone result (λ call. call ≡ Write at bytes bytes) (λ call. (after : List ℕ) × (length after ≡ length bytes) × (call ≡ Write at bytes after)) calls

abbrev pub DidSync : Result (Unit {0}) Failed → List DeviceCall → Type 0
DidSync result calls = OneOrNone result (λ call. call ≡ Sync true) (λ call. call ≡ Sync false) calls

abbrev pub DidSay : List ℕ → Result (Unit {0}) Failed → List DeviceCall → Type 0
DidSay bytes result calls = OneOrNone result (λ call. call ≡ Say bytes) (λ call. (n : ℕ) × (call ≡ Say (take n bytes))) calls
