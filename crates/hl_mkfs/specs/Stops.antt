-- What a stop may leave of a site that is being made.
use Rattle.std.specs.Prelude.{◌≡◌, ℕ, zero, suc, Bool, true, false, IsTrue, List, [], ◌∷◌, Option}
use Rattle.std.specs.Option.{ForSome}
use Rattle.hl_media.specs.History.{Image, DeviceCall, History, MachineState, MayLeave, state_now, state_at, with_calls}
use Rattle.hl_media.specs.History.DeviceCall.{Sync}
use Rattle.hl_addr.specs.Layout.{Layout}
use Rattle.hl_image.specs.Chance.{NoChance, NoLabelByChance}
use Rattle.hl_mkfs.specs.Parts.{log_start}
use Rattle.hl_mkfs.specs.Sites.{IsNewSite, IsNoneOrNew}

-- whatever a stop leaves has P, unless a torn write checks by chance
abbrev pub StopLeaves : ℕ → Layout → (Image → Type 0) → MachineState → Type 0
StopLeaves blocks g P s = (image : Image) → MayLeave s image → NoChance g log_start 1 s.pending image
    → NoLabelByChance blocks s.pending image → P image

-- nothing is pending, and the site is made
pub record IsMade (blocks : ℕ) (g : Layout) (s : MachineState) : Type 0 where
  pub synced : s.pending ≡ []
  pub site : IsNewSite blocks g s.content

abbrev pub is_good_sync : DeviceCall → Bool
is_good_sync (Sync true) = true
is_good_sync _ = false

-- whether a sync has succeeded by a moment of these calls: 2n - 1 while call n is under way, 2n after it
abbrev pub has_synced : List DeviceCall → ℕ → Bool
has_synced [] m = false
has_synced (call ∷ calls) zero = false
has_synced (call ∷ calls) (suc zero) = false
has_synced (call ∷ calls) (suc (suc m)) = if_synced (is_good_sync call) (has_synced calls m)
  where
    if_synced : Bool → Bool → Bool
    if_synced true later = true
    if_synced false later = later

-- Calls were made since, and at each moment from the first sync that succeeded on a stop leaves no label or the new site.
pub record Makes (blocks : ℕ) (g : Layout) (before now : Option History) : Type 0 where
  pub calls : List DeviceCall
  pub is : now ≡ with_calls calls before
  pub each : ForSome before (λ h. (m : ℕ) → IsTrue (has_synced calls m)
      → StopLeaves blocks g (IsNoneOrNew blocks g) (state_at (state_now h) calls m))
