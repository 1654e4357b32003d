-- A part, what is written through one, and the blocks of both agree.
use Rattle.std.proofs.Common.{◌≡◌, ℕ, ◌+◌, ◌-◌, ◌*◌, ◌<◌, ◌≤◌, List, ◌++◌, length, take, drop, refl, sym, ap, ◌∙◌, arith, append_assoc, length-append, length-drop}
use Rattle.std.proofs.lemmas.List.{take_at, drop_at, take_all, take-append-le, drop-append-le, drop-drop, length-take-le}
use Rattle.hl_bytes.specs.Fields.{written}
use Rattle.hl_bytes.proofs.Decoding.{part_front}
use Rattle.hl_bytes.specs.Buffers.{part_of, with_part, block_of}

-- one block as a part
pub part-one : (bytes : List ℕ) (k : ℕ) → part_of bytes k 1 ≡ block_of bytes k
unfolding part_of block_of
part-one bytes k = refl

-- a write through a part leaves the size
pub length-with_part : (bytes part : List ℕ) (from : ℕ) → 4096 * from ≤ length bytes → length (with_part bytes from part) ≡ length bytes
unfolding with_part
length-with_part bytes part from low =
    let W = written bytes (4096 * from) part in
    let size : length bytes ≤ length W =
    omega (arith, length-append (take (4096 * from) bytes) (part ++ drop (4096 * from + length part) bytes), length-append part (drop (4096 * from + length part) bytes), length-drop (4096 * from + length part) bytes, length-take-le (4096 * from) bytes low) in
    length-take-le (length bytes) W size

-- a block of a part is a block of the buffer
pub block_of-part : (bytes : List ℕ) (from count k : ℕ) → k < count → block_of (part_of bytes from count) k ≡ block_of bytes (from + k)
unfolding part_of block_of
block_of-part bytes from count k lt =
    let e : 4096 * from + 4096 * k ≡ 4096 * (from + k) = omega arith in
    part_front (drop (4096 * from) bytes) (4096 * k) 4096 (4096 * count) (omega arith) ∙ ap (take 4096) (drop-drop (4096 * k) (4096 * from) bytes ∙ ap (λ (n : ℕ). drop n bytes) e)

-- a part that lies within the buffer is written whole
pub with_part_is : (bytes part : List ℕ) (from : ℕ) → 4096 * from + length part ≤ length bytes → with_part bytes from part ≡ written bytes (4096 * from) part
unfolding with_part
with_part_is bytes part from le =
    let low : 4096 * from ≤ length bytes = omega arith in
    let size : length (written bytes (4096 * from) part) ≤ length bytes =
    omega (arith, length-append (take (4096 * from) bytes) (part ++ drop (4096 * from + length part) bytes), length-append part (drop (4096 * from + length part) bytes), length-drop (4096 * from + length part) bytes, length-take-le (4096 * from) bytes low) in
    take_all (length bytes) (written bytes (4096 * from) part) size

-- a block that was written is the part's
pub written-inside : (bytes part : List ℕ) (from k : ℕ) → 4096 * from + length part ≤ length bytes → 4096 * (k + 1) ≤ length part → block_of (with_part bytes from part) (from + k) ≡ block_of part k
unfolding block_of
written-inside bytes part from k le lt =
    let W = written bytes (4096 * from) part in
    let rest = drop (4096 * from + length part) bytes in
    let low : 4096 * from ≤ length bytes = omega arith in
    let e : 4096 * (from + k) ≡ 4096 * from + 4096 * k = omega arith in
    let at : drop (4096 * from) W ≡ part ++ rest = drop_at (take (4096 * from) bytes) (part ++ rest) (4096 * from) (length-take-le (4096 * from) bytes low) in
    ap (λ (l : List ℕ). take 4096 (drop (4096 * (from + k)) l)) (with_part_is bytes part from le) ∙ ap (λ (n : ℕ). take 4096 (drop n W)) e ∙ ap (take 4096) (sym (drop-drop (4096 * k) (4096 * from) W) ∙ ap (drop (4096 * k)) at ∙ drop-append-le (4096 * k) part rest (omega arith))
    ∙ take-append-le 4096 (drop (4096 * k) part) rest (omega (arith, length-drop (4096 * k) part))

-- a block before the part stays
pub written-below : (bytes part : List ℕ) (from k : ℕ) → 4096 * from + length part ≤ length bytes → k < from → block_of (with_part bytes from part) k ≡ block_of bytes k
unfolding block_of
written-below bytes part from k le lt =
    let W = written bytes (4096 * from) part in
    let low : 4096 * from ≤ length bytes = omega arith in
    let front : take (4096 * from) W ≡ take (4096 * from) bytes = take_at (take (4096 * from) bytes) (part ++ drop (4096 * from + length part) bytes) (4096 * from) (length-take-le (4096 * from) bytes low) in
    ap (λ (l : List ℕ). take 4096 (drop (4096 * k) l)) (with_part_is bytes part from le) ∙ sym (part_front W (4096 * k) 4096 (4096 * from) (omega arith)) ∙ ap (λ (l : List ℕ). take 4096 (drop (4096 * k) l)) front
    ∙ part_front bytes (4096 * k) 4096 (4096 * from) (omega arith)

-- a block behind the part stays
pub written-above : (bytes part : List ℕ) (from k : ℕ) → 4096 * from + length part ≤ length bytes → 4096 * from + length part ≤ 4096 * k → block_of (with_part bytes from part) k ≡ block_of bytes k
unfolding block_of
written-above bytes part from k le past =
    let W = written bytes (4096 * from) part in
    let stop = 4096 * from + length part in
    let low : 4096 * from ≤ length bytes = omega arith in
    let size : length (take (4096 * from) bytes ++ part) ≡ stop = omega (arith, length-append (take (4096 * from) bytes) part, length-take-le (4096 * from) bytes low) in
    let rest : drop stop W ≡ drop stop bytes = ap (drop stop) (sym (append_assoc (take (4096 * from) bytes) part (drop stop bytes))) ∙ drop_at (take (4096 * from) bytes ++ part) (drop stop bytes) stop size in
    let e : stop + (4096 * k - stop) ≡ 4096 * k = omega arith in
    ap (λ (l : List ℕ). take 4096 (drop (4096 * k) l)) (with_part_is bytes part from le)
    ∙ ap (take 4096) (ap (λ (n : ℕ). drop n W) (sym e) ∙ sym (drop-drop (4096 * k - stop) stop W) ∙ ap (drop (4096 * k - stop)) rest ∙ drop-drop (4096 * k - stop) stop bytes ∙ ap (λ (n : ℕ). drop n bytes) e)
