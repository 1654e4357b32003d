-- What making a disk does.
use Rattle.std.specs.Prelude.{◌≡◌, ◌⊎◌, ℕ, zero, suc, Bool, true, false, IsTrue, List, [], ◌∷◌, Option}
use Rattle.std.specs.Option.{ForSome}
use Rattle.hl_media.specs.History.{Image, DeviceCall, History, state_now, state_at, with_calls}
use Rattle.hl_media.specs.History.DeviceCall.{Sync}
use Rattle.hl_tree.specs.Tree.{root_alone}
use Rattle.hl_disk.specs.Disks.{HasLabel, Holds}
use Rattle.hl_disk.specs.Stops.{StopLeaves}

abbrev pub is_good_sync : DeviceCall → Bool
is_good_sync (Sync true) = true
is_good_sync _ = false

-- whether a sync has succeeded by a moment of these calls: 2n - 1 while call n is under way, 2n after it
abbrev pub has_synced : List DeviceCall → ℕ → Bool
has_synced [] m = false
has_synced (call ∷ calls) zero = false
has_synced (call ∷ calls) (suc zero) = false
has_synced (call ∷ calls) (suc (suc m)) = if_synced (is_good_sync call) (has_synced calls m)
  where
    if_synced : Bool → Bool → Bool
    if_synced true later = true
    if_synced false later = later

-- an image of a disk that is being made: it has no label yet, or it holds the root alone
abbrev pub IsNew : ℕ → Image → Type 0
IsNew blocks image = (HasLabel blocks image → ⊥) ⊎ Holds blocks image 1 root_alone

-- Calls were made since, and at each moment from the first sync that succeeded on a stop leaves a new disk.
pub record Formats (blocks : ℕ) (before now : Option History) : Type 0 where
  pub calls : List DeviceCall
  pub is : now ≡ with_calls calls before
  pub each : ForSome before (λ h. (m : ℕ) → IsTrue (has_synced calls m) → StopLeaves blocks (IsNew blocks) (state_at (state_now h) calls m))
