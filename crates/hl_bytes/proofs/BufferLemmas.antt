-- Parts of a buffer.
use Rattle.std.proofs.Common.{◌≡◌, ℕ, ◌+◌, ◌-◌, ◌*◌, ◌≤◌, List, [], ◌++◌, length, take, drop, sym, ap, ◌∙◌, arith, length-drop, length-append}
use Rattle.std.proofs.lemmas.List.{length-take-le, take_all, drop_all, drop-drop, append-nil}
use Rattle.hl_bytes.specs.Fields.{written, zeros}
use Rattle.hl_bytes.specs.Buffers.{part_of}

pub part_is : (bytes : List ℕ) (from count : ℕ) → take (4096 * from + 4096 * count - 4096 * from) (drop (4096 * from) bytes) ≡ part_of bytes from count
unfolding part_of
part_is bytes from count = let e : 4096 * from + 4096 * count - 4096 * from ≡ 4096 * count = omega arith in ap (λ (n : ℕ). take n (drop (4096 * from) bytes)) e

-- what a vector holds after a write through a part of it
pub cut : (items w : List ℕ) (start n : ℕ) → start ≤ length items → n ≡ length items
    → (let all : List ℕ = take start items ++ (w ++ drop (length w) (drop start items)) in take n (all ++ drop (length all) items)) ≡ take (length items) (written items start w)
cut items w start n le e =
    let all = take start items ++ (w ++ drop (length w) (drop start items)) in
    let back : length (drop (length w) (drop start items)) ≡ length items - start - length w = length-drop (length w) (drop start items) ∙ ap (λ (k : ℕ). k - length w) (length-drop start items) in
    let size : length items ≤ length all =
    omega (arith, length-append (take start items) (w ++ drop (length w) (drop start items)), length-append w (drop (length w) (drop start items)), back, length-take-le start items le) in
    let none : drop (length all) items ≡ [] = drop_all (length all) items size in
    let same : all ≡ written items start w = ap (λ (l : List ℕ). take start items ++ (w ++ l)) (drop-drop (length w) start items) in
    rw (none, e) (ap (take (length items)) (append-nil all ∙ same))

pub length-part : (bytes : List ℕ) (from count : ℕ) → 4096 * (from + count) ≤ length bytes → length (part_of bytes from count) ≡ 4096 * count
unfolding part_of
length-part bytes from count le = length-take-le (4096 * count) (drop (4096 * from) bytes) (omega (arith, length-drop (4096 * from) bytes))

-- a part that is all zeros
pub zeroed : (new : List ℕ) → length new ≡ 4096 → take 4096 new ≡ [] ++ zeros 4096 → new ≡ zeros 4096
zeroed new size is = sym (take_all 4096 new (omega arith)) ∙ is
