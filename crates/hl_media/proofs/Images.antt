-- Blocks of images.
use Rattle.std.proofs.Common.{◌≡◌, ◌⊎◌, inl, inr, ℕ, zero, suc, ◌+◌, ◌-◌, ◌*◌, ◌/◌, ◌<◌, ◌≤◌, List, ◌++◌, length, take, drop, refl, sym, ◌∙◌, ap, arith, length-drop, take-append-drop}
use Rattle.std.proofs.lemmas.List.{take_all, drop-drop, nil_from_length}
use Rattle.std.proofs.lemmas.Bool.Decides.{nat_tests}
use Rattle.hl_bytes.specs.Buffers.{block_of}
use Rattle.hl_media.specs.History.{Image, overwritten, area, IsWhole}

pub overwritten_in : (image : Image) (at count : ℕ) (bytes : List ℕ) (k : ℕ) → at ≤ k → k < at + count → overwritten image at count bytes k ≡ block_of bytes (k - at)
unfolding overwritten
overwritten_in image at count bytes k le lt = grind (arith, nat_tests)

pub overwritten_out : (image : Image) (at count : ℕ) (bytes : List ℕ) (k : ℕ) → (k < at) ⊎ (at + count ≤ k) → overwritten image at count bytes k ≡ image k
unfolding overwritten
overwritten_out image at count bytes k (inl lt) = grind (arith, nat_tests)
overwritten_out image at count bytes k (inr le) = grind (arith, nat_tests)

-- a block that is all of the bytes
pub block_of_one : (bytes : List ℕ) → length bytes ≡ 4096 → block_of bytes 0 ≡ bytes
unfolding block_of
block_of_one bytes whole = take_all 4096 bytes (omega arith)

pub block_of-drop : (bytes : List ℕ) (k : ℕ) → block_of (drop 4096 bytes) k ≡ block_of bytes (suc k)
unfolding block_of
block_of-drop bytes k =
    let e : 4096 + 4096 * k ≡ 4096 * suc k = omega arith in
    ap (λ (l : List ℕ). take 4096 l) (drop-drop (4096 * k) 4096 bytes ∙ ap (λ (n : ℕ). drop n bytes) e)

-- two images with the same blocks there
pub area_same : (a b : Image) (start n : ℕ) → ((k : ℕ) → start ≤ k → k < start + n → a k ≡ b k) → area a start n ≡ area b start n
area_same a b start zero same = refl
area_same a b start (suc n) same =
    ap (λ (l : List ℕ). l ++ area a (suc start) n) (same start (omega arith) (omega arith))
    ∙ ap (λ (l : List ℕ). b start ++ l) (area_same a b (suc start) n (λ k le lt. same k (omega arith) (omega arith)))

-- an image that holds these bytes there
pub area_holds : (image : Image) (at n : ℕ) (bytes : List ℕ) → length bytes ≡ 4096 * n → ((k : ℕ) → k < n → image (at + k) ≡ block_of bytes k) → area image at n ≡ bytes
unfolding block_of
area_holds image at zero bytes whole holds = sym (nil_from_length bytes (omega arith))
area_holds image at (suc n) bytes whole holds =
    let first : image at ≡ take 4096 bytes =
    (let e : at ≡ at + 0 = omega arith in ap image e) ∙ holds 0 (omega arith) in
    let rest : area image (suc at) n ≡ drop 4096 bytes = area_holds image (suc at) n (drop 4096 bytes) (omega (arith, length-drop 4096 bytes))
    (λ k lt. (let e : suc at + k ≡ at + suc k = omega arith in ap image e) ∙ holds (suc k) (omega arith) ∙ sym (block_of-drop bytes k)) in
    ap (λ (l : List ℕ). l ++ area image (suc at) n) first ∙ ap (λ (l : List ℕ). take 4096 bytes ++ l) rest ∙ take-append-drop 4096 bytes

-- after a write of whole blocks
pub area_overwritten : (image : Image) (at : ℕ) (bytes : List ℕ) → IsWhole bytes → area (overwritten image at (length bytes / 4096) bytes) at (length bytes / 4096) ≡ bytes
area_overwritten image at bytes whole = area_holds _ at (length bytes / 4096) bytes (sym whole) (λ k lt.
    let e : at + k - at ≡ k = omega arith in
    overwritten_in image at (length bytes / 4096) bytes (at + k) (omega arith) (omega arith) ∙ ap (block_of bytes) e)
