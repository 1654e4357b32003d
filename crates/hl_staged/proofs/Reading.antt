-- What a read of a whole buffer gives.
use Rattle.std.proofs.Common.{◌≡◌, ℕ, ◌*◌, List, length, Option, Result, Ok, Err, OnOk, sym, ◌∙◌, subst, arith}
use Rattle.std.specs.Option.{ForSome}
use Rattle.hl_bytes.specs.Buffers.{with_part}
use Rattle.hl_bytes.proofs.WholeParts.{whole_written}
use Rattle.hl_media.specs.declared.failed.Failed.{Failed}
use Rattle.hl_media.specs.History.{History, HoldsAt, area, content}
use Rattle.hl_media.specs.Moments.{Now}
use Rattle.hl_media.proofs.Images.{area_holds}

-- the bytes of an area, where a buffer was read from its start
pub area_read : (told : Option History) (r : Result (Unit {0}) Failed) (at start k : ℕ) (bytes part : List ℕ) → at ≡ start → length bytes ≡ 4096 * k → length part ≡ 4096 * k
    → OnOk r (ForSome told (λ h. HoldsAt (content h) at part)) → OnOk r (Now told (λ s. area s.content start k ≡ with_part bytes 0 part))
area_read told (Ok u) at start k bytes part place size same holds = λ h e.
    subst (λ (n : ℕ). area (content h) n k ≡ with_part bytes 0 part) place
    (area_holds (content h) at k part same (λ i lt. holds h e i (omega arith)) ∙ sym (whole_written bytes part (same ∙ sym size)))
area_read told (Err e) at start k bytes part place size same holds = tt
