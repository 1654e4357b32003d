-- What the carrying of a job does, by its kind and its answer.
use Rattle.std.specs.Prelude.{◌≡◌, ◌<◌, ◌≤◌, ℕ, List, [], ◌++◌, Option, Some, Result, Ok, Err}
use Rattle.std.specs.Option.{ForSome}
use Rattle.hl_media.specs.declared.failed.Failed.{Failed}
use Rattle.hl_media.specs.declared.written.Written.{Written}
use Rattle.hl_media.specs.declared.written.Written.TheVariants as met
use Rattle.hl_media.specs.declared.job.JobKind.{JobKind}
use Rattle.hl_media.specs.declared.job.JobKind.TheVariants.{Copy, Fetch}
use Rattle.hl_media.specs.declared.job.Carried.{Carried}
use Rattle.hl_media.specs.declared.job.Carried.TheVariants.{Done, EndOfMedium, Fault}
use Rattle.hl_media.specs.declared.job.Job.{Job}
use Rattle.hl_media.specs.Causes.{Rose}
use Rattle.hl_media.specs.Volumes.{VolumeCall, VolumeHistory, DidWriteSlot, DidSyncSlots, Gives, IsSegment, KeepsOthers, NowLasts, with_volume_calls}

-- P of a copy
abbrev pub OnCopy : JobKind → Type 0 → Type 0
OnCopy Copy P = P
OnCopy Fetch P = Unit {0}

-- P of a fetch
abbrev pub OnFetch : JobKind → Type 0 → Type 0
OnFetch Copy P = Unit {0}
OnFetch Fetch P = P

-- P where the segment was carried
abbrev pub OnDone : Carried → Type 0 → Type 0
OnDone Done P = P
OnDone EndOfMedium P = Unit {0}
OnDone (Fault faults) P = Unit {0}

-- the count stays, or it rose and a fault has the new count
abbrev pub CountsFault : ℕ → ℕ → Carried → Type 0
CountsFault before now Done = now ≡ before
CountsFault before now EndOfMedium = now ≡ before
CountsFault before now (Fault faults) = (faults ≡ now) × (before ≤ now) × Rose before now

-- a copy ends with the medium exactly where its slot isn't below the capacity, and a fetch never
abbrev pub EndsBy : JobKind → ℕ → Option ℕ → Carried → Type 0
EndsBy Copy slot capacity Done = ForSome capacity (λ c. slot < c)
EndsBy Copy slot capacity EndOfMedium = ForSome capacity (λ c. c ≤ slot)
EndsBy Fetch slot capacity Done = Unit {0}
EndsBy Fetch slot capacity EndOfMedium = ⊥
EndsBy kind slot capacity (Fault faults) = Unit {0}

-- the volume of a job that left with one and is now with the other
module _ {V : Type 0} where
  -- with this buffer, volume and answer, and all else as it was
  abbrev pub carried_job : Job V → List ℕ → V → Carried → Job V
  carried_job job buf volume carried = record job {
    buf = buf;
    loaded = record { number = job.loaded.number; volume = volume };
    carried = Some carried;
  }

  -- this of the volume stays
  abbrev pub StaysOf : {A : Type 0} → (V → A) → Job V → Job V → Type 0
  StaysOf of before now = of now.loaded.volume ≡ of before.loaded.volume

  -- a copied segment lasts: whatever a stop leaves of the volume, its slot has the buffer
  abbrev pub CopyLasts : (V → Option VolumeHistory) → Job V → Job V → Carried → Type 0
  CopyLasts history before now carried =
      OnCopy before.kind (OnDone carried (NowLasts (history now.loaded.volume) before.slot before.buf))

  -- a fetched segment is what its slot holds
  abbrev pub FetchHolds : (V → Option VolumeHistory) → Job V → Job V → Carried → Type 0
  FetchHolds history before now carried =
      OnFetch before.kind (OnDone carried (Gives (history before.loaded.volume) before.slot now.buf))

  -- calls were made of the volume, and at each moment of them every other slot is as it was
  abbrev pub OtherSlotsStay : (V → Option VolumeHistory) → Job V → Job V → Type 0
  OtherSlotsStay history before now = KeepsOthers (history before.loaded.volume) (history now.loaded.volume) before.slot

  -- a segment that was carried has as many blocks as a slot
  abbrev pub FitsSlot : (V → ℕ) → Job V → Carried → Type 0
  FitsSlot slot_blocks before carried = OnDone carried (IsSegment (slot_blocks before.loaded.volume) before.buf)

  -- the medium ends a copy exactly where its slot isn't below the capacity
  abbrev pub MediumEnds : (V → Option ℕ) → Job V → Carried → Type 0
  MediumEnds capacity before carried = EndsBy before.kind before.slot (capacity before.loaded.volume) carried

  -- a fault has the count to which the volume's rose, and without one it stays
  abbrev pub FaultCounts : (V → ℕ) → Job V → Job V → Carried → Type 0
  FaultCounts faults before now carried = CountsFault (faults before.loaded.volume) (faults now.loaded.volume) carried

-- the write of a slot and its sync: the write gave the result, or it was done and the sync failed or succeeded
abbrev pub EndsSync : List VolumeCall → Result Written Failed → Result Written Failed → Type 0
EndsSync synced (Ok met.Done) (Ok met.Done) = DidSyncSlots (Ok tt) synced
EndsSync synced (Ok met.Done) (Ok met.EndOfMedium) = ⊥
EndsSync synced (Ok met.Done) (Err failed) = DidSyncSlots (Err failed) synced
EndsSync synced (Ok met.EndOfMedium) result = (synced ≡ []) × (result ≡ Ok met.EndOfMedium)
EndsSync synced (Err failed) result = (synced ≡ []) × (result ≡ Err failed)

-- the calls of a write and its sync
pub record AddsSyncedSlot (before now : Option VolumeHistory) (slot : ℕ) (bytes : List ℕ) (result : Result Written Failed) : Type 0 where
  pub written : List VolumeCall
  pub synced : List VolumeCall
  pub is : now ≡ with_volume_calls (written ++ synced) before
  pub write_result : Result Written Failed
  pub write : DidWriteSlot slot bytes write_result written
  pub sync : EndsSync synced write_result result
