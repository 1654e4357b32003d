-- The calls of a volume in memory.
use Rattle.std.specs.Prelude.{◌≡◌, ◌≢◌, ◌<◌, ◌^◌, ℕ, zero, suc, ◌*◌, Bool, true, false, nat_eq, if◌then◌else◌, List, [], ◌∷◌, ◌++◌, map, length, get_or, replicate, All, Some, Result, MatchResult}
use Rattle.std.specs.declared.alloc.AllocError.{AllocError}
use Rattle.hl_media.specs.Volumes.{VolumeCall, VolumeHistory, AddsCalls, held}
use Rattle.hl_media.specs.Volumes.VolumeCall.{WriteSlot, SyncSlots}
use Rattle.hl_bytes.specs.Fields.{zeros}
use Rattle.hl_mem.specs.declared.tear.Tear.{Tear}
use Rattle.hl_mem.specs.declared.transfer.Transfer.{Transfer}
use Rattle.hl_mem.specs.declared.transfer.Transfer.TheVariants.{Writing, FailedWriting, Syncing}
use Rattle.hl_mem.specs.Failing.{Plan, no_plan}
use Rattle.hl_mem.specs.Tears.{torn_bytes}

-- A call of a volume in memory: a write of a slot with the bytes that it was given and those that the slot holds
-- afterwards, or a sync and whether it succeeded.
pub data TriedCall : Type 0 where
  TriedWrite : ℕ → List ℕ → List ℕ → TriedCall
  TriedSync : Bool → TriedCall

-- the call as the volume's history has it
abbrev pub volume_call : TriedCall → VolumeCall
volume_call (TriedWrite slot bytes after) = WriteSlot slot after
volume_call (TriedSync succeeded) = SyncSlots succeeded

-- the call that a kept one stands for
abbrev pub tried : Transfer → TriedCall
tried (Writing slot bytes) = TriedWrite slot bytes bytes
tried (FailedWriting slot bytes after) = TriedWrite slot bytes after
tried (Syncing succeeded) = TriedSync succeeded

-- the call was added, or nothing was for want of memory
abbrev pub AddsTried : Result (Unit {0}) AllocError → List TriedCall → List TriedCall → TriedCall → Type 0
AddsTried result before now call = MatchResult result (λ _. now ≡ before ++ call ∷ []) (λ _. now ≡ before)

-- the bytes of a write are one segment of this size
abbrev pub IsSized : ℕ → TriedCall → Type 0
IsSized size (TriedWrite slot bytes after) = (length bytes ≡ size) × (length after ≡ size)
IsSized size (TriedSync succeeded) = Unit {0}

-- what a slot holds, and what a stop leaves in it
pub record SlotLeft : Type 0 where
  pub held : List ℕ
  pub left : List ℕ

-- while a call is under way: a write of the slot is torn over what the earlier ones leave
abbrev pub left_begun : Tear → ℕ → SlotLeft → TriedCall → SlotLeft
left_begun tear slot s (TriedWrite at bytes after) = if nat_eq at slot then record { held = s.held; left = torn_bytes tear bytes s.left } else s
left_begun tear slot s (TriedSync succeeded) = s

-- and after it: a sync that succeeds leaves what the slot holds
abbrev pub left_ended : Tear → ℕ → SlotLeft → TriedCall → SlotLeft
left_ended tear slot s (TriedWrite at bytes after) = if nat_eq at slot then record { held = after; left = torn_bytes tear bytes s.left } else s
left_ended tear slot s (TriedSync true) = record { held = s.held; left = s.held }
left_ended tear slot s (TriedSync false) = s

-- after these calls
abbrev pub left_after : Tear → ℕ → SlotLeft → List TriedCall → SlotLeft
left_after tear slot s [] = s
left_after tear slot s (call ∷ calls) = left_after tear slot (left_ended tear slot s call) calls

-- at a moment: 2n - 1 while the nth call is under way, 2n after it
abbrev pub left_at : Tear → ℕ → SlotLeft → List TriedCall → ℕ → SlotLeft
left_at tear slot s [] m = s
left_at tear slot s (call ∷ calls) zero = s
left_at tear slot s (call ∷ calls) (suc zero) = left_begun tear slot s call
left_at tear slot s (call ∷ calls) (suc (suc m)) = left_at tear slot (left_ended tear slot s call) calls m

-- what a stop at a moment leaves in a slot that held these bytes at first
abbrev pub torn_slot : Tear → ℕ → List ℕ → List TriedCall → ℕ → List ℕ
torn_slot tear slot opening calls m = (left_at tear slot (record { held = opening; left = opening }) calls m).left

-- Of a volume in memory: the blocks of a slot, the capacity, what its slots held at first, the calls since, which calls
-- are to fail, and how often one has failed.
pub record ToldVolume : Type 0 where
  pub slot_blocks : ℕ
  pub capacity : ℕ
  pub opening : List (List ℕ)
  pub calls : List TriedCall
  pub plan : Plan
  pub faults : ℕ

-- its history
abbrev pub volume_history : ToldVolume → VolumeHistory
volume_history told = record { opening = λ n. get_or told.opening n []; calls = map volume_call told.calls }

-- its history goes on by calls of this kind
abbrev pub VolumeGoesOn : ToldVolume → ToldVolume → (List VolumeCall → Type 0) → Type 0
VolumeGoesOn before now Did = AddsCalls (Some (volume_history before)) (Some (volume_history now)) Did

-- its history stays
abbrev pub SameHistory : ToldVolume → ToldVolume → Type 0
SameHistory before now = Some (volume_history now) ≡ Some (volume_history before)

-- a volume whose slots hold these bytes, of which no call was made
abbrev pub opened_volume : ℕ → ℕ → List (List ℕ) → ToldVolume
opened_volume slot_blocks capacity opening = record {
  slot_blocks = slot_blocks;
  capacity = capacity;
  opening = opening;
  calls = [];
  plan = no_plan;
  faults = 0;
}

-- so many slots of zeros
abbrev pub zero_slots : ℕ → ℕ → List (List ℕ)
zero_slots blocks slots = replicate slots (zeros (4096 * blocks))

-- The volume is opened anew: its slots hold what they held, but for one of them, and no call was made.
pub record Reopens (before now : ToldVolume) (slot : ℕ) (bytes : List ℕ) : Type 0 where
  pub slot_blocks : now.slot_blocks ≡ before.slot_blocks
  pub capacity : now.capacity ≡ before.capacity
  pub slots : length now.opening ≡ length before.opening
  pub calls : now.calls ≡ []
  pub there : get_or now.opening slot [] ≡ bytes
  pub others : (n : ℕ) → n ≢ slot → get_or now.opening n [] ≡ held (volume_history before) n
  pub plan : now.plan ≡ before.plan
  pub faults : now.faults ≡ before.faults

-- what a volume in memory keeps true
pub record IsKeptVolume (bytes : ℕ) (opening now : List (List ℕ)) (calls : List TriedCall) : Type 0 where
  pub few : length now < 2 ^ 32
  pub as_many : length opening ≡ length now
  pub opening_sizes : All (λ slot. length slot ≡ bytes) opening
  pub sizes : All (λ slot. length slot ≡ bytes) now
  pub sized : All (IsSized bytes) calls
  pub current : (n : ℕ) → held (record { opening = λ k. get_or opening k []; calls = map volume_call calls }) n ≡ get_or now n []
