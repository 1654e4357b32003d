-- Facts of each moment of a run of calls.
use Rattle.std.specs.Prelude.{◌≡◌, ℕ, ◌≤◌, List, [], ◌∷◌, Option}
use Rattle.std.specs.Option.{ForSome}
use Rattle.hl_media.specs.History.{DeviceCall, MachineState, begun, ended, History, state_now, at_moment, moment, with_calls}

-- P holds before the calls, during each and after each
abbrev pub AtEach : (MachineState → Type 0) → MachineState → List DeviceCall → Type 0
AtEach P s [] = P s
AtEach P s (call ∷ calls) = P s × P (begun s call) × AtEach P (ended s call) calls

-- P holds now, where it is told
abbrev pub Now : Option History → (MachineState → Type 0) → Type 0
Now told P = ForSome told (λ h. P (state_now h))

-- Calls were made since, and each moment of them stands to the first by P.
pub record Runs (before now : Option History) (P : MachineState → MachineState → Type 0) : Type 0 where
  pub calls : List DeviceCall
  pub is : now ≡ with_calls calls before
  pub each : ForSome before (λ h. AtEach (P (state_now h)) (state_now h) calls)

-- each moment since stands to the first by P
abbrev pub AtEachMomentSince : Option History → Option History → (MachineState → MachineState → Type 0) → Type 0
AtEachMomentSince before now P = ForSome before (λ h. ForSome now (λ h'. (m : ℕ) → moment h ≤ m → P (state_now h) (at_moment h' m)))

-- the last moment stands to the first by B
abbrev pub Ends : Option History → Option History → (MachineState → MachineState → Type 0) → Type 0
Ends before now B = ForSome before (λ h. ForSome now (λ h'. B (state_now h) (state_now h')))
