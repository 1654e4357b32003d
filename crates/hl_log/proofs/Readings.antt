-- Calls that read alone.
use Rattle.std.proofs.Common.{◌≡◌, ℕ, ◌+◌, ◌/◌, ◌<◌, List, length, Option, Result, Ok, Err, refl, sym, ◌∙◌, ap, arith}
use Rattle.std.specs.Prelude.{OnOk}
use Rattle.std.specs.Option.{ForSome}
use Rattle.hl_media.specs.declared.failed.Failed.{Failed}
use Rattle.hl_media.specs.History.{Adds, DidRead, History, HoldsAt, Image, content, state_now}
use Rattle.hl_media.specs.Moments.{Now, Runs}
use Rattle.hl_media.proofs.Images.{block_of_one}
use Rattle.hl_media.proofs.Runs.{each_read}
use Rattle.hl_log.specs.Rest.{IsUnchanged}

-- a read changes nothing
pub only_read : (before now : Option History) (r : Result (Unit {0}) Failed) → Adds before now (DidRead r) → Runs before now IsUnchanged
only_read before now r adds = record { calls = adds.calls; is = adds.is; each = λ h e. each_read (IsUnchanged (state_now h)) (state_now h) r adds.calls adds.did refl }

one_block : (image : Image) (at : ℕ) (out : List ℕ) → length out ≡ 4096 → HoldsAt image at out → image at ≡ out
one_block image at out size holds =
    let some : 0 < length out / 4096 = omega (arith, size) in
    let e : at + 0 ≡ at = omega arith in
    sym (ap image e) ∙ holds 0 some ∙ block_of_one out size

-- what a read of one block gives
pub read_tells : (r : Result (Unit {0}) Failed) (told : Option History) (at : ℕ) (out : List ℕ) → length out ≡ 4096 → OnOk r (ForSome told (λ h. HoldsAt (content h) at out)) → OnOk r (Now told (λ s. s.content at ≡ out))
read_tells (Ok u) told at out size holds = λ h e. one_block (content h) at out size (holds h e)
read_tells (Err e) told at out size holds = tt
