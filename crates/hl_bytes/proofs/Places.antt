-- What stands at places of a list of bytes.
use Rattle.std.proofs.Common.{◌≡◌, ℕ, ◌+◌, ◌-◌, ◌<◌, ◌≤◌, ◌^◌, List, [], ◌∷◌, ◌++◌, length, get_or, take, drop, inl, inr, lit<, Bool, true, refl, sym, ap, ◌∙◌, arith, append_assoc, length-append, length-drop, length-take}
use Rattle.std.specs.Int.{from_le_bytes, w32, w64}
use Rattle.std.proofs.Math.Seq.{take-add}
use Rattle.std.proofs.lemmas.List.{drop_more, take_at, drop_at, drop_all, take-append-drop, get_or-take, get_or-drop, append-nil, length-take-le, drop-drop, get_or_past, get_or-replicate, take_more, replicate_more, append_cancel_left, take_all, length-replicate}
use Rattle.std.proofs.Math.ListN.{replicate}
use Rattle.std.specs.Bool.{Decides}
use Rattle.std.proofs.lemmas.Bool.{cases_lt}
use Rattle.std.proofs.lemmas.Nat.{le_bytes_4, le_bytes_8, from_le_bytes-to_le_bytes_4, from_le_bytes-to_le_bytes_8}
use borrow.Rule.Slice.PartMut.{put_mid}
use Rattle.hl_bytes.specs.Fields.{u32_at, u64_at, le32, le64, zeros, written}

-- each item is a byte
abbrev pub IsBytes : List ℕ → Type 0
IsBytes bytes = (i : ℕ) → get_or bytes i 0 < 256

more : (xs : List ℕ) (i j : ℕ) → j ≡ i + 1 → i < length xs → drop i xs ≡ get_or xs i 0 ∷ drop j xs
more xs i j e lt = rw e (drop_more xs i 0 lt)

four : (xs : List ℕ) (at : ℕ) → at + 4 ≤ length xs → take 4 (drop at xs) ≡ get_or xs at 0 ∷ get_or xs (at + 1) 0 ∷ get_or xs (at + 2) 0 ∷ get_or xs (at + 3) 0 ∷ []
four xs at le =
    let e0 = more xs at (at + 1) (omega arith) (omega arith) in
    let e1 = more xs (at + 1) (at + 2) (omega arith) (omega arith) in
    let e2 = more xs (at + 2) (at + 3) (omega arith) (omega arith) in
    let e3 = more xs (at + 3) (at + 4) (omega arith) (omega arith) in
    rw (e0, e1, e2, e3) refl

eight : (xs : List ℕ) (at : ℕ) → at + 8 ≤ length xs
    → take 8 (drop at xs) ≡ get_or xs at 0 ∷ get_or xs (at + 1) 0 ∷ get_or xs (at + 2) 0 ∷ get_or xs (at + 3) 0 ∷ get_or xs (at + 4) 0 ∷ get_or xs (at + 5) 0 ∷ get_or xs (at + 6) 0 ∷ get_or xs (at + 7) 0 ∷ []
eight xs at le =
    let e0 = more xs at (at + 1) (omega arith) (omega arith) in
    let e1 = more xs (at + 1) (at + 2) (omega arith) (omega arith) in
    let e2 = more xs (at + 2) (at + 3) (omega arith) (omega arith) in
    let e3 = more xs (at + 3) (at + 4) (omega arith) (omega arith) in
    let e4 = more xs (at + 4) (at + 5) (omega arith) (omega arith) in
    let e5 = more xs (at + 5) (at + 6) (omega arith) (omega arith) in
    let e6 = more xs (at + 6) (at + 7) (omega arith) (omega arith) in
    let e7 = more xs (at + 7) (at + 8) (omega arith) (omega arith) in
    rw (e0, e1, e2, e3, e4, e5, e6, e7) refl

-- a part of bytes is bytes
pub part_bytes : (xs : List ℕ) (n at : ℕ) → IsBytes xs → IsBytes (take n (drop at xs))
part_bytes xs n at fits = λ i. elim (cases_lt i n) [
  | inl lt ↦ rw (get_or-take n (drop at xs) i 0 lt, get_or-drop at xs i 0) (fits (at + i))
  | inr ge ↦ rw (get_or_past (take n (drop at xs)) i 0 (omega (arith, length-take n (drop at xs)))) (lit< tt)
]

-- what is read byte by byte is the number at the place
pub number32 : (xs : List ℕ) (at n : ℕ) → at + 4 ≤ length xs → n ≡ from_le_bytes w32 (get_or xs at 0 ∷ get_or xs (at + 1) 0 ∷ get_or xs (at + 2) 0 ∷ get_or xs (at + 3) 0 ∷ []) → n ≡ u32_at at xs
unfolding u32_at
number32 xs at n le is = is ∙ ap (from_le_bytes w32) (sym (four xs at le))

pub number64 : (xs : List ℕ) (at n : ℕ) → at + 8 ≤ length xs
    → n ≡ from_le_bytes w64 (get_or xs at 0 ∷ get_or xs (at + 1) 0 ∷ get_or xs (at + 2) 0 ∷ get_or xs (at + 3) 0 ∷ get_or xs (at + 4) 0 ∷ get_or xs (at + 5) 0 ∷ get_or xs (at + 6) 0 ∷ get_or xs (at + 7) 0 ∷ [])
    → n ≡ u64_at at xs
unfolding u64_at
number64 xs at n le is = is ∙ ap (from_le_bytes w64) (sym (eight xs at le))

-- the bytes of a number that stands at a place
pub front32 : (xs : List ℕ) (at n : ℕ) → at + 4 ≤ length xs → IsBytes xs → n ≡ u32_at at xs → take (at + 4) xs ≡ take at xs ++ le32 n
unfolding u32_at le32
front32 xs at n le fits is =
    take-add at 4 xs ∙ ap (λ (l : List ℕ). take at xs ++ l) (sym (le_bytes_4 (take 4 (drop at xs)) n (ap length (four xs at le)) (part_bytes xs 4 at fits) is))

pub front64 : (xs : List ℕ) (at n : ℕ) → at + 8 ≤ length xs → IsBytes xs → n ≡ u64_at at xs → take (at + 8) xs ≡ take at xs ++ le64 n
unfolding u64_at le64
front64 xs at n le fits is =
    take-add at 8 xs ∙ ap (λ (l : List ℕ). take at xs ++ l) (sym (le_bytes_8 (take 8 (drop at xs)) n (ap length (eight xs at le)) (part_bytes xs 8 at fits) is))

-- a number that was written is read
pub back32 : (xs : List ℕ) (at n : ℕ) → n < 2 ^ 32 → take 4 (drop at xs) ≡ le32 n → u32_at at xs ≡ n
unfolding u32_at le32
back32 xs at n lt is = ap (from_le_bytes w32) is ∙ from_le_bytes-to_le_bytes_4 n lt

pub back64 : (xs : List ℕ) (at n : ℕ) → n < 2 ^ 64 → take 8 (drop at xs) ≡ le64 n → u64_at at xs ≡ n
unfolding u64_at le64
back64 xs at n lt is = ap (from_le_bytes w64) is ∙ from_le_bytes-to_le_bytes_8 n lt

-- what a write to a part leaves
pub put_part : (xs ys : List ℕ) (at k : ℕ) → at ≤ length xs → length ys ≡ k → put_mid at k xs ys ≡ written xs at ys
put_part xs ys at k le size = rw (drop-drop k at xs) (rw size refl)

-- what stands before the end of a write
pub put_front : (xs ys : List ℕ) (at n : ℕ) → at ≤ length xs → n ≡ at + length ys → take n (written xs at ys) ≡ take at xs ++ ys
put_front xs ys at n le e =
    let size : length (take at xs ++ ys) ≡ n = omega (arith, length-append (take at xs) ys, length-take-le at xs le) in
    ap (take n) (sym (append_assoc (take at xs) ys (drop (at + length ys) xs))) ∙ take_at (take at xs ++ ys) (drop (at + length ys) xs) n size

-- nothing is written
pub written_none : (bytes : List ℕ) (at : ℕ) → bytes ≡ written bytes at []
written_none bytes at = let e : at + 0 ≡ at = omega arith in sym (ap (λ (k : ℕ). take at bytes ++ drop k bytes) e ∙ take-append-drop at bytes)

-- two writes, one behind the other, are one
pub written_more : (bytes xs ys : List ℕ) (at m : ℕ) → m ≡ at + length xs → at ≤ length bytes → written (written bytes at xs) m ys ≡ written bytes at (xs ++ ys)
written_more bytes xs ys at m e le =
    let b = written bytes at xs in
    let front : take m b ≡ take at bytes ++ xs = put_front bytes xs at m le e in
    let size : length (take at bytes ++ xs) ≡ m = omega (arith, length-append (take at bytes) xs, length-take-le at bytes le) in
    let rest : drop m b ≡ drop (at + length xs) bytes = ap (drop m) (sym (append_assoc (take at bytes) xs (drop (at + length xs) bytes))) ∙ drop_at (take at bytes ++ xs) (drop (at + length xs) bytes) m size in
    let sum : at + length xs + length ys ≡ at + length (xs ++ ys) = omega (arith, length-append xs ys) in
    let back : drop (m + length ys) b ≡ drop (at + length (xs ++ ys)) bytes =
    sym (drop-drop (length ys) m b) ∙ ap (drop (length ys)) rest ∙ drop-drop (length ys) (at + length xs) bytes ∙ ap (λ (k : ℕ). drop k bytes) sum in
    ap (λ (l : List ℕ). l ++ (ys ++ drop (m + length ys) b)) front ∙ ap (λ (l : List ℕ). (take at bytes ++ xs) ++ (ys ++ l)) back ∙ append_assoc (take at bytes) xs (ys ++ drop (at + length (xs ++ ys)) bytes)
    ∙ ap (λ (l : List ℕ). take at bytes ++ l) (sym (append_assoc xs ys (drop (at + length (xs ++ ys)) bytes)))

-- a write that goes on where another ended
pub written_on : (bytes b new xs ys : List ℕ) (at m : ℕ) → b ≡ written bytes at xs → new ≡ written b m ys → m ≡ at + length xs → at ≤ length bytes → new ≡ written bytes at (xs ++ ys)
written_on bytes b new xs ys at m first next e le = next ∙ ap (λ (l : List ℕ). written l m ys) first ∙ written_more bytes xs ys at m e le

-- what a write leaves behind it
pub drop-written : (xs ys : List ℕ) (at n : ℕ) → at ≤ length xs → at + length ys ≤ n → drop n (written xs at ys) ≡ drop n xs
drop-written xs ys at n le past =
    let stop = at + length ys in
    let size : length (take at xs ++ ys) ≡ stop = omega (arith, length-append (take at xs) ys, length-take-le at xs le) in
    let rest : drop stop (written xs at ys) ≡ drop stop xs = ap (drop stop) (sym (append_assoc (take at xs) ys (drop stop xs))) ∙ drop_at (take at xs ++ ys) (drop stop xs) stop size in
    let e : stop + (n - stop) ≡ n = omega arith in
    ap (λ (k : ℕ). drop k (written xs at ys)) (sym e) ∙ sym (drop-drop (n - stop) stop (written xs at ys)) ∙ ap (drop (n - stop)) rest ∙ drop-drop (n - stop) stop xs ∙ ap (λ (k : ℕ). drop k xs) e

-- what a write to the end of a list leaves
pub put_end : (xs ys : List ℕ) (at : ℕ) → put_mid at (length xs - at) xs ys ≡ take at xs ++ ys
put_end xs ys at =
    let nothing : drop (length xs - at) (drop at xs) ≡ [] = drop_all (length xs - at) (drop at xs) (omega (arith, length-drop at xs)) in
    rw nothing (ap (λ (l : List ℕ). take at xs ++ l) (append-nil ys))

-- zeros, one byte at a time
pub zeros_first : (xs : List ℕ) (i : ℕ) → i < length xs → xs ≡ zeros (length xs) → get_or xs i 0 ≡ 0
unfolding zeros
zeros_first xs i lt is = ap (λ (l : List ℕ). get_or l i 0) is ∙ get_or-replicate (length xs) i 0 0 lt

pub zeros_more : (xs : List ℕ) (i : ℕ) → i < length xs → get_or xs i 0 ≡ 0 → take i xs ≡ zeros i → take (i + 1) xs ≡ zeros (i + 1)
unfolding zeros
zeros_more xs i lt here is = rw (take_more xs i 0 lt, here, is) (replicate_more i 0)

-- a part is zeros exactly where zeros stand there
pub part_zero : (xs : List ℕ) (at end n : ℕ) → at ≤ end → end ≤ length xs → n ≡ length (take (end - at) (drop at xs)) → (take (end - at) (drop at xs) ≡ zeros n → take end xs ≡ take at xs ++ zeros (end - at)) × (take end xs ≡ take at xs ++ zeros (end - at) → take (end - at) (drop at xs) ≡ zeros n)
part_zero xs at end n le within is =
    let sum : end ≡ at + (end - at) = omega arith in
    let size : n ≡ end - at = is ∙ length-take-le (end - at) (drop at xs) (omega (arith, length-drop at xs)) in
    let split : take end xs ≡ take at xs ++ take (end - at) (drop at xs) = ap (λ (k : ℕ). take k xs) sum ∙ take-add at (end - at) xs in
    (λ z. split ∙ ap (λ (l : List ℕ). take at xs ++ l) (z ∙ ap zeros size), λ z. append_cancel_left (take at xs) _ _ (sym split ∙ z) ∙ ap zeros (sym size))

pub whole_zeros : (xs : List ℕ) (i : ℕ) → length xs ≤ i → i ≤ length xs → take i xs ≡ zeros i → xs ≡ zeros (length xs)
whole_zeros xs i le ge is = let e : i ≡ length xs = omega arith in sym (take_all i xs le) ∙ is ∙ ap zeros e

-- what a fill of a part leaves
pub put_zeros : (xs ys : List ℕ) (at end : ℕ) → at ≤ end → end ≤ length xs → ys ≡ replicate (length (take (end - at) (drop at xs))) 0
    → (put_mid at (end - at) xs ys ≡ written xs at (zeros (end - at))) × (take end (put_mid at (end - at) xs ys) ≡ take at xs ++ zeros (end - at))
unfolding zeros
put_zeros xs ys at end le within is =
    let size : length (take (end - at) (drop at xs)) ≡ end - at = length-take-le (end - at) (drop at xs) (omega (arith, length-drop at xs)) in
    let filled : ys ≡ replicate (end - at) 0 = is ∙ ap (λ (n : ℕ). replicate n 0) size in
    let count : length (replicate {A = ℕ} (end - at) 0) ≡ end - at = length-replicate (end - at) 0 in
    let low : at ≤ length xs = omega arith in
    let stop : end ≡ at + length (replicate (end - at) 0) = omega (arith, count) in
    let whole : put_mid at (end - at) xs ys ≡ written xs at (replicate (end - at) 0) = rw filled (put_part xs (replicate (end - at) 0) at (end - at) low count) in
    (whole, rw whole (put_front xs (replicate (end - at) 0) at end low stop))

-- whether bytes stand at a place
pub part_is : (xs from part : List ℕ) (at n : ℕ) (r : Bool) → Decides r (part ≡ from) → part ≡ take n (drop at xs) → n ≡ length from
    → (r ≡ true → take (at + length from) xs ≡ take at xs ++ from) × (take (at + length from) xs ≡ take at xs ++ from → r ≡ true)
part_is xs from part at n r decides is size =
    let split : take (at + length from) xs ≡ take at xs ++ part = take-add at (length from) xs ∙ ap (λ (l : List ℕ). take at xs ++ l) (ap (λ (k : ℕ). take k (drop at xs)) (sym size) ∙ sym is) in
    (λ t. split ∙ ap (λ (l : List ℕ). take at xs ++ l) (decides.0 t), λ e. decides.1 (append_cancel_left (take at xs) _ _ (sym split ∙ e)))

-- bytes that stand at a place are spelled by the number that is read there
pub respelled32 : (xs : List ℕ) (at : ℕ) → at + 4 ≤ length xs → IsBytes xs → le32 (u32_at at xs) ≡ take 4 (drop at xs)
respelled32 xs at le fits = append_cancel_left (take at xs) (le32 (u32_at at xs)) (take 4 (drop at xs)) (sym (front32 xs at (u32_at at xs) le fits refl) ∙ take-add at 4 xs)

pub respelled64 : (xs : List ℕ) (at : ℕ) → at + 8 ≤ length xs → IsBytes xs → le64 (u64_at at xs) ≡ take 8 (drop at xs)
respelled64 xs at le fits = append_cancel_left (take at xs) (le64 (u64_at at xs)) (take 8 (drop at xs)) (sym (front64 xs at (u64_at at xs) le fits refl) ∙ take-add at 8 xs)
