-- Runs of values of one width, and of numbers of four bytes.
use Rattle.std.proofs.Common.{◌≡◌, ℕ, zero, suc, ◌+◌, ◌*◌, ◌<◌, ◌≤◌, ◌^◌, List, [], ◌∷◌, ◌++◌, length, get_or, take, drop, set, refl, sym, ap, ◌∙◌, arith, append_assoc, length-append}
use Rattle.std.specs.List.{AllByRecursion}
use Rattle.std.specs.Int.{from_le_bytes, w32}
use Rattle.std.proofs.Math.Nat.{mul-suc}
use Rattle.std.proofs.lemmas.Grind.{flat_map-append}
use Rattle.std.proofs.lemmas.Nat.{mul-le}
use Rattle.std.proofs.lemmas.List.{take_at, drop_at, take_more, take_more_set, take_all, append-nil, drop-drop, drop-take, take-take, length-take-le}
use Rattle.hl_bytes.specs.Fields.{le32, u32_at, u64_at, written}
use Rattle.hl_bytes.specs.Runs.{run_bytes, run_at, numbers32, u32s_at}
use Rattle.hl_bytes.proofs.Places.{IsBytes, part_bytes, put_front, front32, back32, written_none, written_more, drop-written}
use Rattle.hl_bytes.proofs.Decoding.{part_front}

-- runs one after the other are one
pub run_bytes-append : {A : Type 0} (spell : A → List ℕ) (xs ys : List A) → run_bytes spell (xs ++ ys) ≡ run_bytes spell xs ++ run_bytes spell ys
unfolding run_bytes
run_bytes-append spell xs ys = flat_map-append spell xs ys

-- a run of one value
pub run_bytes-one : {A : Type 0} (spell : A → List ℕ) (x : A) → run_bytes spell (x ∷ []) ≡ spell x
unfolding run_bytes
run_bytes-one spell x = append-nil (spell x)

-- how long a run is
pub length-run_bytes : {A : Type 0} (spell : A → List ℕ) (width : ℕ) → ((x : A) → length (spell x) ≡ width) → (xs : List A) → length (run_bytes spell xs) ≡ width * length xs
unfolding run_bytes
length-run_bytes spell width wide [] = omega arith
length-run_bytes spell width wide (x ∷ xs) = omega (arith, length-append (spell x) (run_bytes spell xs), wide x, length-run_bytes spell width wide xs, mul-suc width (length xs))

-- how many values a run that is read has
pub length-run_at : {A : Type 0} (read : ℕ → List ℕ → A) (width at n : ℕ) (bytes : List ℕ) → length (run_at read width at n bytes) ≡ n
unfolding run_at
length-run_at read width at zero bytes = refl
length-run_at read width at (suc n) bytes = ap suc (length-run_at read width (at + width) n bytes)

-- one value more is read
pub run_at-more : {A : Type 0} (read : ℕ → List ℕ → A) (width at n : ℕ) (bytes : List ℕ) → run_at read width at (n + 1) bytes ≡ run_at read width at n bytes ++ read (at + width * n) bytes ∷ []
unfolding run_at
run_at-more read width at zero bytes = let e : at ≡ at + width * 0 = omega arith in ap (λ (i : ℕ). read i bytes ∷ []) e
run_at-more {A} read width at (suc n) bytes =
    let e : at + width + width * n ≡ at + width * suc n = omega (arith, mul-suc width n) in
    let k : suc n + 1 ≡ suc (n + 1) = omega arith in
    ap (λ (m : ℕ). run_at read width at m bytes) k
    ∙ ap (λ (l : List A). read at bytes ∷ l) (run_at-more read width (at + width) n bytes ∙ ap (λ (i : ℕ). run_at read width (at + width) n bytes ++ read i bytes ∷ []) e)

-- a loop that writes a run: at its start, over one turn, and at its end
pub put_init : {A : Type 0} (spell : A → List ℕ) (start : List ℕ) (at : ℕ) → start ≡ written start at (run_bytes spell [])
unfolding run_bytes
put_init spell start at = written_none start at

pub put_step : {A : Type 0} (spell : A → List ℕ) (width : ℕ) → ((x : A) → length (spell x) ≡ width) → (start b new : List ℕ) (xs : List A) (x : A) (at i : ℕ)
    → i ≤ length xs → at ≤ length start → take (i + 1) xs ≡ take i xs ++ x ∷ [] → b ≡ written start at (run_bytes spell (take i xs)) → new ≡ written b (at + width * i) (spell x)
    → new ≡ written start at (run_bytes spell (take (i + 1) xs))
put_step {A} spell width wide start b new xs x at i le low more so_far is =
    let done = run_bytes spell (take i xs) in
    let count : width * length (take i xs) ≡ width * i = ap (λ (n : ℕ). width * n) (length-take-le i xs le) in
    let size : at + width * i ≡ at + length done = omega (arith, length-run_bytes spell width wide (take i xs), count) in
    let grown : done ++ spell x ≡ run_bytes spell (take (i + 1) xs) =
    ap (λ (l : List ℕ). done ++ l) (sym (run_bytes-one spell x)) ∙ sym (run_bytes-append spell (take i xs) (x ∷ [])) ∙ ap (λ (l : List A). run_bytes spell l) (sym more) in
    is ∙ ap (λ (l : List ℕ). written l (at + width * i) (spell x)) so_far ∙ written_more start done (spell x) at (at + width * i) size low ∙ ap (λ (l : List ℕ). written start at l) grown

pub put_done : {A : Type 0} (spell : A → List ℕ) (start new : List ℕ) (xs : List A) (at i : ℕ) → length xs ≤ i → new ≡ written start at (run_bytes spell (take i xs)) → new ≡ written start at (run_bytes spell xs)
put_done {A} spell start new xs at i all is = is ∙ ap (λ (l : List A). written start at (run_bytes spell l)) (take_all i xs all)

-- what stands before a run's end
pub put_run_front : {A : Type 0} (spell : A → List ℕ) (width : ℕ) → ((x : A) → length (spell x) ≡ width) → (start new : List ℕ) (xs : List A) (at i : ℕ)
    → at + width * length xs ≤ length start → length xs ≤ i → new ≡ written start at (run_bytes spell (take i xs)) → take (at + width * length xs) new ≡ take at start ++ run_bytes spell xs
put_run_front spell width wide start new xs at i le all is =
    let low : at ≤ length start = omega arith in
    let size : at + width * length xs ≡ at + length (run_bytes spell xs) = omega (arith, length-run_bytes spell width wide xs) in
    ap (take (at + width * length xs)) (put_done spell start new xs at i all is) ∙ put_front start (run_bytes spell xs) at (at + width * length xs) low size

-- a loop that reads a run: at its start, and over one turn
pub get_init : {A : Type 0} (read : ℕ → List ℕ → A) (width at : ℕ) (bytes : List ℕ) → (let n : List A = [] in n ≡ run_at read width at 0 bytes)
unfolding run_at
get_init read width at bytes = refl

pub get_step : {A : Type 0} (read : ℕ → List ℕ → A) (width : ℕ) (bytes : List ℕ) (out : List A) (at i : ℕ) (x : A) → i < length out → take i out ≡ run_at read width at i bytes → x ≡ read (at + width * i) bytes
    → take (i + 1) (set out i x) ≡ run_at read width at (i + 1) bytes
get_step {A} read width bytes out at i x lt so_far is =
    take_more_set out i x lt ∙ ap (λ (l : List A). l ++ x ∷ []) so_far ∙ ap (λ (y : A). run_at read width at i bytes ++ y ∷ []) is ∙ sym (run_at-more read width at i bytes)

-- a loop that pushes what it reads, over one turn
pub push_step : {A : Type 0} (read : ℕ → List ℕ → A) (width : ℕ) (bytes : List ℕ) (out new : List A) (at i : ℕ) (x : A) → out ≡ run_at read width at i bytes → x ≡ read (at + width * i) bytes → new ≡ out ++ x ∷ [] → new ≡ run_at read width at (i + 1) bytes
push_step {A} read width bytes out new at i x so_far is grown =
    grown ∙ ap (λ (l : List A). l ++ x ∷ []) so_far ∙ ap (λ (y : A). run_at read width at i bytes ++ y ∷ []) is ∙ sym (run_at-more read width at i bytes)

-- a run that was written is read, where each value that was written is
pub read_written : {A : Type 0} (spell : A → List ℕ) (read : ℕ → List ℕ → A) (width : ℕ) (Fits : A → Type 0) → ((x : A) → length (spell x) ≡ width)
    → ((bytes : List ℕ) (at : ℕ) (x : A) → Fits x → take width (drop at bytes) ≡ spell x → read at bytes ≡ x)
    → (bytes : List ℕ) (xs : List A) (at : ℕ) → AllByRecursion Fits xs → take (width * length xs) (drop at bytes) ≡ run_bytes spell xs → run_at read width at (length xs) bytes ≡ xs
unfolding run_bytes run_at
read_written spell read width Fits wide back bytes [] at fits is = refl
read_written {A} spell read width Fits wide back bytes (x ∷ xs) at fits is =
    let size : width * length (x ∷ xs) ≡ width + width * length xs = omega (arith, mul-suc width (length xs)) in
    let whole : take (width + width * length xs) (drop at bytes) ≡ spell x ++ run_bytes spell xs = ap (λ (k : ℕ). take k (drop at bytes)) (sym size) ∙ is in
    let first : take width (drop at bytes) ≡ spell x =
    sym (take-take width (width + width * length xs) (drop at bytes) (omega arith)) ∙ ap (take width) whole ∙ take_at (spell x) (run_bytes spell xs) width (wide x) in
    let rest : take (width * length xs) (drop (at + width) bytes) ≡ run_bytes spell xs =
    ap (take (width * length xs)) (sym (drop-drop width at bytes)) ∙ sym (drop-take width (width * length xs) (drop at bytes)) ∙ ap (drop width) whole ∙ drop_at (spell x) (run_bytes spell xs) width (wide x) in
    ap (λ (y : A). y ∷ run_at read width (at + width) (length xs) bytes) (back bytes at x fits.0 first) ∙ ap (λ (l : List A). x ∷ l) (read_written spell read width Fits wide back bytes xs (at + width) fits.1 rest)

-- a run of a block that spells it
pub read_run_of : {A : Type 0} (spell : A → List ℕ) (read : ℕ → List ℕ → A) (width : ℕ) (Fits : A → Type 0) → ((x : A) → length (spell x) ≡ width)
    → ((bytes : List ℕ) (at : ℕ) (x : A) → Fits x → take width (drop at bytes) ≡ spell x → read at bytes ≡ x)
    → (block fields : List ℕ) (xs : List A) (at n : ℕ) → take n block ≡ fields → at + width * length xs ≤ n → AllByRecursion Fits xs → take (width * length xs) (drop at fields) ≡ run_bytes spell xs
    → run_at read width at (length xs) block ≡ xs
read_run_of spell read width Fits wide back block fields xs at n front le fits is =
    read_written spell read width Fits wide back block xs at fits (sym (part_front block at (width * length xs) n le) ∙ ap (λ (l : List ℕ). take (width * length xs) (drop at l)) front ∙ is)

-- a run that stands at a place, where each value that is read stands there
pub front_run_of : {A : Type 0} (spell : A → List ℕ) (read : ℕ → List ℕ → A) (width : ℕ)
    → ((xs : List ℕ) (at : ℕ) → at + width ≤ length xs → IsBytes xs → take (at + width) xs ≡ take at xs ++ spell (read at xs))
    → (xs : List ℕ) (at n : ℕ) → at + width * n ≤ length xs → IsBytes xs → take (at + width * n) xs ≡ take at xs ++ run_bytes spell (run_at read width at n xs)
unfolding run_at run_bytes
front_run_of spell read width front xs at zero le fits = let e : at + width * 0 ≡ at = omega arith in ap (λ (k : ℕ). take k xs) e ∙ sym (append-nil (take at xs))
front_run_of {A} spell read width front xs at (suc n) le fits =
    let wide = mul-suc width n in
    let e : at + width * suc n ≡ at + width + width * n = omega (arith, wide) in
    let one : take (at + width) xs ≡ take at xs ++ spell (read at xs) = front xs at (omega (arith, wide)) fits in
    ap (λ (k : ℕ). take k xs) e ∙ front_run_of spell read width front xs (at + width) n (omega (arith, wide)) fits ∙ ap (λ (l : List ℕ). l ++ run_bytes spell (run_at read width (at + width) n xs)) one
    ∙ append_assoc (take at xs) (spell (read at xs)) (run_bytes spell (run_at read width (at + width) n xs))

-- all values of a run fit, where each value that is read fits
pub run_fits : {A : Type 0} (read : ℕ → List ℕ → A) (width : ℕ) (Fits : A → Type 0) → ((xs : List ℕ) (at : ℕ) → IsBytes xs → Fits (read at xs)) → (xs : List ℕ) (at n : ℕ) → IsBytes xs → AllByRecursion Fits (run_at read width at n xs)
unfolding run_at
run_fits read width Fits each xs at zero fits = tt
run_fits read width Fits each xs at (suc n) fits = (each xs at fits, run_fits read width Fits each xs (at + width) n fits)

-- the value that was read at a place of a run
pub get_or-run_at : {A : Type 0} (read : ℕ → List ℕ → A) (width at n : ℕ) (bytes : List ℕ) (i : ℕ) (d : A) → i < n → get_or (run_at read width at n bytes) i d ≡ read (at + width * i) bytes
unfolding run_at
get_or-run_at read width at zero bytes i d lt = absurd (omega arith)
get_or-run_at read width at (suc n) bytes zero d lt = let e : at ≡ at + width * 0 = omega arith in ap (λ (k : ℕ). read k bytes) e
get_or-run_at read width at (suc n) bytes (suc i) d lt =
    let e : at + width + width * i ≡ at + width * suc i = omega (arith, mul-suc width i) in
    get_or-run_at read width (at + width) n bytes i d (omega arith) ∙ ap (λ (k : ℕ). read k bytes) e

-- a part that was written, and one before it
pub part-written : (xs ys : List ℕ) (at k : ℕ) → at ≤ length xs → length ys ≡ k → take k (drop at (written xs at ys)) ≡ ys
part-written xs ys at k le size = ap (take k) (drop_at (take at xs) (ys ++ drop (at + length ys) xs) at (length-take-le at xs le)) ∙ take_at ys (drop (at + length ys) xs) k size

pub part-written_below : (xs ys : List ℕ) (at p k : ℕ) → at ≤ length xs → p + k ≤ at → take k (drop p (written xs at ys)) ≡ take k (drop p xs)
part-written_below xs ys at p k le low =
    let W = written xs at ys in
    let front : take at W ≡ take at xs = take_at (take at xs) (ys ++ drop (at + length ys) xs) at (length-take-le at xs le) in
    sym (part_front W p k at low) ∙ ap (λ (l : List ℕ). take k (drop p l)) front ∙ part_front xs p k at low

-- runs of bytes that are the same from a place on
run_at-same : {A : Type 0} (read : ℕ → List ℕ → A) (width : ℕ) → ((xs ys : List ℕ) (p : ℕ) → take width (drop p xs) ≡ take width (drop p ys) → read p xs ≡ read p ys)
    → (xs ys : List ℕ) (at n q : ℕ) → ((p : ℕ) → q ≤ p → drop p xs ≡ drop p ys) → q ≤ at → run_at read width at n xs ≡ run_at read width at n ys
unfolding run_at
run_at-same read width local xs ys at zero q same le = refl
run_at-same {A} read width local xs ys at (suc n) q same le =
    ap (λ (x : A). x ∷ run_at read width (at + width) n xs) (local xs ys at (ap (take width) (same at le)))
    ∙ ap (λ (l : List A). read at ys ∷ l) (run_at-same read width local xs ys (at + width) n q same (omega arith))

-- a value that is written into a run, where what is read at a place depends on the bytes there alone
pub run_at-written : {A : Type 0} (spell : A → List ℕ) (read : ℕ → List ℕ → A) (width : ℕ) → ((x : A) → length (spell x) ≡ width)
    → ((xs ys : List ℕ) (p : ℕ) → take width (drop p xs) ≡ take width (drop p ys) → read p xs ≡ read p ys)
    → (bytes : List ℕ) (x : A) → ((xs : List ℕ) (p : ℕ) → take width (drop p xs) ≡ spell x → read p xs ≡ x)
    → (at n i m : ℕ) → m ≡ at + width * i → i < n → at + width * n ≤ length bytes → run_at read width at n (written bytes m (spell x)) ≡ set (run_at read width at n bytes) i x
unfolding run_at
run_at-written spell read width wide local bytes x back at zero i m e lt le = absurd (omega arith)
run_at-written {A} spell read width wide local bytes x back at (suc n) zero m e lt le =
    let grown = mul-suc width n in
    let here : m ≡ at = omega arith in
    let low : m ≤ length bytes = omega (arith, grown) in
    let W = written bytes m (spell x) in
    let head : read at W ≡ x = back W at (ap (λ (k : ℕ). take width (drop k W)) (sym here) ∙ part-written bytes (spell x) m width low (wide x)) in
    let tail : run_at read width (at + width) n W ≡ run_at read width (at + width) n bytes =
    run_at-same read width local W bytes (at + width) n (at + width) (λ p past. drop-written bytes (spell x) m p low (omega (arith, wide x))) (omega arith) in
    ap (λ (y : A). y ∷ run_at read width (at + width) n W) head ∙ ap (λ (l : List A). x ∷ l) tail
run_at-written {A} spell read width wide local bytes x back at (suc n) (suc i) m e lt le =
    let grown = mul-suc width n in
    let along = mul-suc width i in
    let within : width * suc i ≤ width * suc n = mul-le width (suc i) width (suc n) (omega arith) (omega arith) in
    let low : m ≤ length bytes = omega (arith, within) in
    let W = written bytes m (spell x) in
    let head : read at W ≡ read at bytes = local W bytes at (part-written_below bytes (spell x) m at width low (omega (arith, along))) in
    let tail = run_at-written spell read width wide local bytes x back (at + width) n i m (omega (arith, along)) (omega arith) (omega (arith, grown)) in
    ap (λ (y : A). y ∷ run_at read width (at + width) n W) head ∙ ap (λ (l : List A). read at bytes ∷ l) tail

-- the same of numbers of four bytes
pub length-le32 : (n : ℕ) → length (le32 n) ≡ 4
unfolding le32
length-le32 n = refl

pub length-numbers32 : (ns : List ℕ) → length (numbers32 ns) ≡ 4 * length ns
length-numbers32 ns = length-run_bytes le32 4 length-le32 ns

pub length-u32s : (at n : ℕ) (bytes : List ℕ) → length (u32s_at at n bytes) ≡ n
length-u32s at n bytes = length-run_at u32_at 4 at n bytes

-- a loop that writes numbers, over one turn and at its end
pub put_numbers_step : (start b new ns : List ℕ) (at i : ℕ) → i < length ns → at + 4 * length ns ≤ length start → b ≡ written start at (numbers32 (take i ns)) → new ≡ written b (at + 4 * i) (le32 (get_or ns i 0))
    → new ≡ written start at (numbers32 (take (i + 1) ns))
put_numbers_step start b new ns at i lt le so_far is = let low : at ≤ length start = omega arith in put_step le32 4 length-le32 start b new ns (get_or ns i 0) at i (omega arith) low (take_more ns i 0 lt) so_far is

pub put_numbers_done : (start new ns : List ℕ) (at i : ℕ) → at + 4 * length ns ≤ length start → length ns ≤ i → new ≡ written start at (numbers32 (take i ns)) → take (at + 4 * length ns) new ≡ take at start ++ numbers32 ns
put_numbers_done start new ns at i le all is = put_run_front le32 4 length-le32 start new ns at i le all is

-- what is read has room in its field
pub u32_fits : (xs : List ℕ) (at : ℕ) → IsBytes xs → u32_at at xs < 2 ^ 32
unfolding u32_at
u32_fits xs at fits = let p = part_bytes xs 4 at fits in omega (arith, p 0, p 1, p 2, p 3)

pub u64_fits : (xs : List ℕ) (at : ℕ) → IsBytes xs → u64_at at xs < 2 ^ 64
unfolding u64_at
u64_fits xs at fits = let p = part_bytes xs 8 at fits in omega (arith, p 0, p 1, p 2, p 3, p 4, p 5, p 6, p 7)

pub u32s_fit : (xs : List ℕ) (at n : ℕ) → IsBytes xs → AllByRecursion (λ n. n < 2 ^ 32) (u32s_at at n xs)
u32s_fit xs at n fits = run_fits u32_at 4 (λ n. n < 2 ^ 32) u32_fits xs at n fits

-- numbers of a block that spells them
pub read_run : (block fields ns : List ℕ) (at n : ℕ) → take n block ≡ fields → at + 4 * length ns ≤ n → AllByRecursion (λ n. n < 2 ^ 32) ns → take (4 * length ns) (drop at fields) ≡ numbers32 ns
    → u32s_at at (length ns) block ≡ ns
read_run block fields ns at n front le fits is = read_run_of le32 u32_at 4 (λ n. n < 2 ^ 32) length-le32 (λ bytes p x lt e. back32 bytes p x lt e) block fields ns at n front le fits is

-- numbers that stand at a place
pub front_run : (xs : List ℕ) (at n : ℕ) → at + 4 * n ≤ length xs → IsBytes xs → take (at + 4 * n) xs ≡ take at xs ++ numbers32 (u32s_at at n xs)
front_run xs at n le fits = front_run_of le32 u32_at 4 (λ ys p low b. front32 ys p (u32_at p ys) low b refl) xs at n le fits

-- a number that is written into a run of numbers
pub u32s_at-written : (bytes : List ℕ) (x at n i m : ℕ) → x < 2 ^ 32 → m ≡ at + 4 * i → i < n → at + 4 * n ≤ length bytes → u32s_at at n (written bytes m (le32 x)) ≡ set (u32s_at at n bytes) i x
unfolding u32_at
u32s_at-written bytes x at n i m fits e lt le = run_at-written le32 u32_at 4 length-le32 (λ xs ys p same. ap (from_le_bytes w32) same) bytes x (λ xs p is. back32 xs p x fits is) at n i m e lt le
