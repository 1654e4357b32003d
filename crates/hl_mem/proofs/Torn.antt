-- The blocks of bytes after a torn write.
use Rattle.std.proofs.Common.{◌≡◌, ℕ, ◌+◌, ◌-◌, ◌*◌, ◌/◌, ◌≤◌, ◌&&◌, nat_le, nat_lt, if◌then◌else◌, List, length, take, drop, refl, sym, ◌∙◌, ap, arith, length-take, length-drop}
use Rattle.hl_bytes.specs.Buffers.{block_of}
use Rattle.hl_media.specs.History.{Image, MachineState, begun, area, overwritten}
use Rattle.hl_media.specs.History.DeviceCall.{Write}
use Rattle.hl_media.proofs.Images.{area_holds, area_same}
use Rattle.hl_mem.specs.declared.tear.Tear.{Tear}
use Rattle.hl_mem.specs.Tears.{IsTorn, TearsWrite, torn, torn_bytes}
use Rattle.hl_mem.proofs.Parts.{put, slice_block}
use Rattle.hl_mem.proofs.Writes.{put_shows}

-- what was torn over a part
pub put_torn : (tear : Tear) (xs ys bytes : List ℕ) (at m : ℕ) → length ys ≡ m → m ≡ 4096 * (length bytes / 4096) → 4096 * at + m ≤ length xs
    → ys ≡ torn_bytes tear bytes (take m (drop (4096 * at) xs)) → TearsWrite tear at bytes xs (put xs ys at m)
put_torn tear xs ys bytes at m size whole fits is k =
    let count = length bytes / 4096 in
    let part = take m (drop (4096 * at) xs) in
    let long : length part ≡ 4096 * count = omega (arith, length-take m (drop (4096 * at) xs), length-drop (4096 * at) xs) in
    let same : area (block_of xs) at count ≡ part = area_holds (block_of xs) at count part long (λ j lt. sym (slice_block xs at m j (omega arith))) in
    let over : ys ≡ torn_bytes tear bytes (area (block_of xs) at count) = is ∙ ap (torn_bytes tear bytes) (sym same) in
    sym (put_shows xs ys at m count size whole fits (block_of xs) (λ j. refl) k) ∙ ap (λ (l : List ℕ). overwritten (block_of xs) at count l k) over

overwritten_same : (a b : Image) (at count : ℕ) (ys : List ℕ) (k : ℕ) → a k ≡ b k → overwritten a at count ys k ≡ overwritten b at count ys k
unfolding overwritten
overwritten_same a b at count ys k same = ap (λ (x : List ℕ). if nat_le at k && nat_lt k (at + count) then block_of ys (k - at) else x) same

-- a torn write over what another has
pub torn_then : (tear : Tear) (s : MachineState) (at : ℕ) (bytes after left new : List ℕ) → TearsWrite tear at bytes left new → IsTorn tear s left → IsTorn tear (begun s (Write at bytes after)) new
torn_then tear s at bytes after left new tears is k =
    let count = length bytes / 4096 in
    let part : area (block_of left) at count ≡ area (torn tear s) at count = area_same (block_of left) (torn tear s) at count (λ j le lt. is j) in
    tears k
    ∙ ap (λ (l : List ℕ). overwritten (block_of left) at count (torn_bytes tear bytes l) k) part
    ∙ overwritten_same (block_of left) (torn tear s) at count (torn_bytes tear bytes (area (torn tear s) at count)) k (is k)
