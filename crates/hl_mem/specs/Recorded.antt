-- The calls of a machine as its recording keeps them.
use Rattle.std.specs.Prelude.{◌≡◌, ℕ, ◌+◌, ◌≤◌, List, [], ◌∷◌, ◌++◌, map, take, drop, length, All, Result, MatchResult}
use Rattle.std.specs.declared.alloc.AllocError.{AllocError}
use Rattle.hl_media.specs.History.{DeviceCall, MachineState, state_after}
use Rattle.hl_media.specs.History.DeviceCall.{Read, Write, Sync, Say}
use Rattle.hl_mem.specs.declared.call.Call.{Call}
use Rattle.hl_mem.specs.declared.call.Call.TheVariants.{Reading, Writing, FailedWriting, Syncing, Saying}

-- the call that a kept call stands for, where these bytes were said
abbrev pub call_of : List ℕ → Call → DeviceCall
call_of said Reading = Read
call_of said (Writing at bytes) = Write at bytes.items bytes.items
call_of said (FailedWriting at bytes after) = Write at bytes.items after.items
call_of said (Syncing succeeded) = Sync succeeded
call_of said (Saying start count) = Say (take count (drop start said))

abbrev pub calls_of : List ℕ → List Call → List DeviceCall
calls_of said calls = map (call_of said) calls

-- a call's bytes are among those said
abbrev pub IsWithin : ℕ → Call → Type 0
IsWithin size Reading = Unit {0}
IsWithin size (Writing at bytes) = Unit {0}
IsWithin size (FailedWriting at bytes after) = Unit {0}
IsWithin size (Syncing succeeded) = Unit {0}
IsWithin size (Saying start count) = start + count ≤ size

-- a call that says nothing
abbrev pub IsQuiet : Call → Type 0
IsQuiet Reading = Unit {0}
IsQuiet (Writing at bytes) = Unit {0}
IsQuiet (FailedWriting at bytes after) = Unit {0}
IsQuiet (Syncing succeeded) = Unit {0}
IsQuiet (Saying start count) = ⊥

-- these calls say these bytes
abbrev pub Says : List DeviceCall → List ℕ → Type 0
Says calls bytes = (s : MachineState) → (state_after s calls).said ≡ s.said ++ bytes

-- what a recording keeps true
pub record IsRecorded (said : List ℕ) (calls : List Call) : Type 0 where
  pub within : All (IsWithin (length said)) calls
  pub says : Says (calls_of said calls) said

-- the call was added, or nothing was for want of memory
abbrev pub AddsCall : Result (Unit {0}) AllocError → List DeviceCall → List DeviceCall → DeviceCall → Type 0
AddsCall result before now call = MatchResult result (λ _. now ≡ before ++ call ∷ []) (λ _. now ≡ before)
