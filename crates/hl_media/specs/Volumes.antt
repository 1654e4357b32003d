-- What has been done to a volume, and what follows from it of each moment.
use Rattle.std.specs.Prelude.{◌≡◌, ◌≢◌, ℕ, zero, suc, ◌*◌, ◌≤◌, Bool, true, false, nat_eq, nat_lt, if◌then◌else◌, List, [], ◌∷◌, ◌++◌, length, Option, option_map, Result, Ok, Err, ◌⊎◌}
use Rattle.std.specs.Option.{ForSome}
use Rattle.hl_media.specs.declared.failed.Failed.{Failed}
use Rattle.hl_media.specs.declared.written.Written.{Written}
use Rattle.hl_media.specs.declared.written.Written.TheVariants.{Done, EndOfMedium}

-- what the slots hold: the bytes of each, by its number
abbrev pub Slots : Type 0
Slots = ℕ → List ℕ

-- these bytes are a segment of so many blocks
abbrev pub IsSegment : ℕ → List ℕ → Type 0
IsSegment blocks bytes = 4096 * blocks ≡ length bytes

-- the slots with other bytes in one of them
unfoldable pub with_slot : Slots → ℕ → List ℕ → Slots
with_slot slots slot bytes = λ k. if nat_eq k slot then bytes else slots k

-- A call that may change a volume. A write of a slot has the bytes that the slot holds afterwards, a sync whether it
-- succeeded. A read changes nothing.
pub data VolumeCall : Type 0 where
  WriteSlot : ℕ → List ℕ → VolumeCall
  SyncSlots : Bool → VolumeCall

-- What holds of a volume at a moment: what its slots hold, and the slots of the writes that no sync has followed, the
-- last first.
pub record VolumeState : Type 0 where
  pub slots : Slots
  pub unsynced : List ℕ

-- while the call is under way
abbrev pub volume_begun : VolumeState → VolumeCall → VolumeState
volume_begun s (WriteSlot slot after) = record { slots = s.slots; unsynced = slot ∷ s.unsynced }
volume_begun s (SyncSlots succeeded) = s

-- after the call
abbrev pub volume_ended : VolumeState → VolumeCall → VolumeState
volume_ended s (WriteSlot slot after) = record { slots = with_slot s.slots slot after; unsynced = slot ∷ s.unsynced }
volume_ended s (SyncSlots true) = record { slots = s.slots; unsynced = [] }
volume_ended s (SyncSlots false) = s

-- after these calls, the first of them first
abbrev pub volume_after : VolumeState → List VolumeCall → VolumeState
volume_after s [] = s
volume_after s (call ∷ calls) = volume_after (volume_ended s call) calls

-- at a moment: 2n - 1 while the nth call is under way, 2n after it
abbrev pub volume_at : VolumeState → List VolumeCall → ℕ → VolumeState
volume_at s [] m = s
volume_at s (call ∷ calls) zero = s
volume_at s (call ∷ calls) (suc zero) = volume_begun s call
volume_at s (call ∷ calls) (suc (suc m)) = volume_at (volume_ended s call) calls m

-- what the slots held at first, and the calls since, the first of them first
pub record VolumeHistory : Type 0 where
  pub opening : Slots
  pub calls : List VolumeCall

abbrev pub volume_opened : VolumeHistory → VolumeState
volume_opened h = record { slots = h.opening; unsynced = [] }

-- what holds now
abbrev pub volume_now : VolumeHistory → VolumeState
volume_now h = volume_after (volume_opened h) h.calls

-- the number of moments so far
abbrev pub volume_moment : VolumeHistory → ℕ
volume_moment h = 2 * length h.calls

-- what held at a moment
abbrev pub volume_at_moment : VolumeHistory → ℕ → VolumeState
volume_at_moment h m = volume_at (volume_opened h) h.calls m

-- what a slot holds now
abbrev pub held : VolumeHistory → ℕ → List ℕ
held h slot = (volume_now h).slots slot

-- each write of the slot has been followed by a sync
abbrev pub IsSynced : List ℕ → ℕ → Type 0
IsSynced [] k = Unit {0}
IsSynced (slot ∷ unsynced) k = (k ≢ slot) × IsSynced unsynced k

-- A stop at such a moment may leave these bytes in the slot: any bytes where a write of it waits for its sync.
abbrev pub MayHold : VolumeState → ℕ → List ℕ → Type 0
MayHold s slot bytes = IsSynced s.unsynced slot → bytes ≡ s.slots slot

-- whatever a stop leaves, the slot has these bytes
abbrev pub Lasts : VolumeState → ℕ → List ℕ → Type 0
Lasts s slot bytes = (left : List ℕ) → MayHold s slot left → left ≡ bytes

-- the slot holds what it held, and a stop leaves nothing in it that it might not have left before
pub record SlotStays (before now : VolumeState) (slot : ℕ) : Type 0 where
  pub holds : now.slots slot ≡ before.slots slot
  pub leaves : (bytes : List ℕ) → MayHold now slot bytes → MayHold before slot bytes

-- every other slot stays
abbrev pub OthersStay : ℕ → VolumeState → VolumeState → Type 0
OthersStay slot before now = (k : ℕ) → k ≢ slot → SlotStays before now k

-- P holds before the calls, during each and after each
abbrev pub AtEachCall : (VolumeState → Type 0) → VolumeState → List VolumeCall → Type 0
AtEachCall P s [] = P s
AtEachCall P s (call ∷ calls) = P s × P (volume_begun s call) × AtEachCall P (volume_ended s call) calls

abbrev pub with_volume_calls : List VolumeCall → Option VolumeHistory → Option VolumeHistory
with_volume_calls calls told = option_map (λ h. record { opening = h.opening; calls = h.calls ++ calls }) told

-- P holds now, where it is told
abbrev pub VolumeNow : Option VolumeHistory → (VolumeState → Type 0) → Type 0
VolumeNow told P = ForSome told (λ h. P (volume_now h))

-- Calls were made since, and each moment of them stands to the first by P.
pub record VolumeRuns (before now : Option VolumeHistory) (P : VolumeState → VolumeState → Type 0) : Type 0 where
  pub calls : List VolumeCall
  pub is : now ≡ with_volume_calls calls before
  pub each : ForSome before (λ h. AtEachCall (P (volume_now h)) (volume_now h) calls)

-- each moment since stands to the first by P
abbrev pub AtEachVolumeMomentSince : Option VolumeHistory → Option VolumeHistory → (VolumeState → VolumeState → Type 0) → Type 0
AtEachVolumeMomentSince before now P = ForSome before (λ h. ForSome now (λ h'. (m : ℕ) → volume_moment h ≤ m → P (volume_now h) (volume_at_moment h' m)))

-- the slot holds these bytes now, where it is told
abbrev pub Gives : Option VolumeHistory → ℕ → List ℕ → Type 0
Gives told slot bytes = ForSome told (λ h. bytes ≡ held h slot)

-- the slot has these bytes whatever a stop leaves now, where it is told
abbrev pub NowLasts : Option VolumeHistory → ℕ → List ℕ → Type 0
NowLasts told slot bytes = VolumeNow told (λ s. Lasts s slot bytes)

-- calls were made since, and at each moment of them every other slot is as it was
abbrev pub KeepsOthers : Option VolumeHistory → Option VolumeHistory → ℕ → Type 0
KeepsOthers before now slot = VolumeRuns before now (OthersStay slot)

-- the history goes on by calls of this kind
pub record AddsCalls (before now : Option VolumeHistory) (Did : List VolumeCall → Type 0) : Type 0 where
  pub calls : List VolumeCall
  pub did : Did calls
  pub is : now ≡ with_volume_calls calls before

-- no call, or one write of the slot that leaves any bytes of a segment in it
abbrev pub MayWriteSlot : ℕ → List ℕ → List VolumeCall → Type 0
MayWriteSlot slot bytes calls = (calls ≡ []) ⊎ ((after : List ℕ) × (length after ≡ length bytes) × (calls ≡ WriteSlot slot after ∷ []))

-- the slot has the bytes where it was written, and any where it wasn't
abbrev pub DidWriteSlot : ℕ → List ℕ → Result Written Failed → List VolumeCall → Type 0
DidWriteSlot slot bytes (Ok Done) calls = calls ≡ WriteSlot slot bytes ∷ []
DidWriteSlot slot bytes (Ok EndOfMedium) calls = MayWriteSlot slot bytes calls
DidWriteSlot slot bytes (Err failed) calls = MayWriteSlot slot bytes calls

-- a sync that succeeded, or one that failed or wasn't made
abbrev pub DidSyncSlots : Result (Unit {0}) Failed → List VolumeCall → Type 0
DidSyncSlots (Ok done) calls = calls ≡ SyncSlots true ∷ []
DidSyncSlots (Err failed) calls = (calls ≡ []) ⊎ (calls ≡ SyncSlots false ∷ [])

-- P where the bytes are no segment of so many blocks
abbrev pub UnlessSegment : ℕ → List ℕ → Type 0 → Type 0
UnlessSegment blocks bytes P = 4096 * blocks ≢ length bytes → P

-- what the write of a slot answers on a medium of this capacity, where it doesn't fail
abbrev pub written_on : ℕ → ℕ → Written
written_on capacity slot = if nat_lt slot capacity then Done else EndOfMedium

-- what it answers, where the capacity is told
abbrev pub MeetsMedium : Option ℕ → ℕ → Written → Type 0
MeetsMedium capacity slot met = ForSome capacity (λ c. met ≡ written_on c slot)
