-- Blocks of entries of one width, and blocks of lists that stand one after the other.
use Rattle.std.proofs.Common.{◌≡◌, ℕ, min, replicate, zero, suc, ◌+◌, ◌-◌, ◌*◌, ◌<◌, ◌≤◌, List, [], ◌∷◌, ◌++◌, length, take, drop, inl, inr, refl, sym, ap, ◌∙◌, arith, length-drop}
use Rattle.std.specs.Int.{div_ceil}
use Rattle.std.proofs.lemmas.Bool.{cases_lt}
use Rattle.std.proofs.lemmas.Nat.{mul-le}
use Rattle.std.proofs.lemmas.List.{take_at, drop_at, take_all, take-append-drop, take-append-le, drop-append-le, drop-drop, take-replicate, take_min, length-take-le}
use Rattle.hl_bytes.specs.Fields.{zeros}
use Rattle.hl_bytes.specs.Runs.{run_bytes}
use Rattle.hl_bytes.specs.Pages.{padded, plain_page}
use Rattle.hl_bytes.specs.Buffers.{block_of}
use Rattle.hl_bytes.proofs.PageLemmas.{length-padded}
use Rattle.hl_bytes.proofs.RunLemmas.{run_bytes-append, length-run_bytes}
use Rattle.hl_tables.specs.TableBlocks.{in_blocks}

-- a run in two
split : {A : Type 0} (spell : A → List ℕ) (xs : List A) (m : ℕ) → run_bytes spell xs ≡ run_bytes spell (take m xs) ++ run_bytes spell (drop m xs)
split spell xs m = ap (run_bytes spell) (sym (take-append-drop m xs)) ∙ run_bytes-append spell (take m xs) (drop m xs)

size_of : {A : Type 0} (spell : A → List ℕ) (width : ℕ) → ((x : A) → length (spell x) ≡ width) → (xs : List A) (m : ℕ) → m ≤ length xs → length (run_bytes spell (take m xs)) ≡ width * m
size_of spell width wide xs m le = length-run_bytes spell width wide (take m xs) ∙ ap (λ (n : ℕ). width * n) (length-take-le m xs le)

pub drop-run : {A : Type 0} (spell : A → List ℕ) (width : ℕ) → ((x : A) → length (spell x) ≡ width) → (xs : List A) (m : ℕ) → m ≤ length xs → drop (width * m) (run_bytes spell xs) ≡ run_bytes spell (drop m xs)
drop-run spell width wide xs m le =
    ap (drop (width * m)) (split spell xs m) ∙ drop_at (run_bytes spell (take m xs)) (run_bytes spell (drop m xs)) (width * m) (size_of spell width wide xs m le)

pub take-run : {A : Type 0} (spell : A → List ℕ) (width : ℕ) → ((x : A) → length (spell x) ≡ width) → (xs : List A) (m : ℕ) → take (width * m) (run_bytes spell xs) ≡ run_bytes spell (take m xs)
take-run spell width wide xs m =
    elim (cases_lt m (length xs)) [
      | inl lt ↦ ap (take (width * m)) (split spell xs m) ∙ take_at (run_bytes spell (take m xs)) (run_bytes spell (drop m xs)) (width * m) (size_of spell width wide xs m (omega arith))
      | inr ge ↦
          let all : length (run_bytes spell xs) ≤ width * m = omega (arith, length-run_bytes spell width wide xs, mul-le width (length xs) width m (omega arith) ge) in
          take_all (width * m) (run_bytes spell xs) all ∙ ap (run_bytes spell) (sym (take_all m xs ge))
    ]

-- the front of bytes with enough zeros behind them
padded_cut : (ys : List ℕ) (size z : ℕ) → size ≤ length ys + z → take size (ys ++ zeros z) ≡ padded size (take size ys)
unfolding padded zeros
padded_cut ys zero z le = refl
padded_cut [] (suc s) z le =
    let e : suc s ≡ suc s - 0 = omega arith in
    let enough : suc s ≤ z = omega arith in
    take-replicate (suc s) z 0 enough ∙ ap (λ (n : ℕ). replicate n 0) e
padded_cut (y ∷ ys) (suc s) z le =
    let e : s - length (take s ys) ≡ suc s - length (y ∷ take s ys) = omega arith in
    ap (λ (l : List ℕ). y ∷ l) (padded_cut ys s z (omega arith)) ∙ ap (λ (n : ℕ). y ∷ (take s ys ++ zeros n)) e

-- a block of a run that is filled up to whole blocks: its entries, and zeros
pub entry_block :
    {A : Type 0} (spell : A → List ℕ) (width : ℕ)
    → ((x : A) → length (spell x) ≡ width)
    → (xs : List A) (n from block : ℕ)
    → width * n ≡ 4096 → width * from ≡ 4096 * block → from ≤ length xs → 4096 * block < width * length xs
    → block_of (in_blocks (run_bytes spell xs)) block ≡ plain_page (run_bytes spell (take n (drop from xs)))
unfolding block_of in_blocks padded plain_page
entry_block spell width wide xs n from block whole place low inside =
    let R = run_bytes spell xs in
    let Y = run_bytes spell (drop from xs) in
    let z = 4096 * div_ceil (length R) 4096 - length R in
    let size : length R ≡ width * length xs = length-run_bytes spell width wide xs in
    let rest : drop (4096 * block) R ≡ Y = ap (λ (k : ℕ). drop k R) (sym place) ∙ drop-run spell width wide xs from low in
    let left : length Y ≡ length R - 4096 * block = ap length (sym rest) ∙ length-drop (4096 * block) R in
    let there : drop (4096 * block) (R ++ zeros z) ≡ Y ++ zeros z = drop-append-le (4096 * block) R (zeros z) (omega arith) ∙ ap (λ (l : List ℕ). l ++ zeros z) rest in
    let cut : take 4096 Y ≡ run_bytes spell (take n (drop from xs)) = ap (λ (k : ℕ). take k Y) (sym whole) ∙ take-run spell width wide (drop from xs) n in
    ap (take 4096) there ∙ padded_cut Y 4096 z (omega arith) ∙ ap (padded 4096) cut

-- a list in whole blocks has whole blocks
pub length-in_blocks : (bytes : List ℕ) (n : ℕ) → length bytes ≡ n → length (in_blocks bytes) ≡ 4096 * div_ceil n 4096
unfolding in_blocks
length-in_blocks bytes n size = length-padded (4096 * div_ceil (length bytes) 4096) bytes (omega arith) ∙ ap (λ (k : ℕ). 4096 * div_ceil k 4096) size

-- a block of the first list, and one of the second
pub block_left : (xs ys : List ℕ) (a i : ℕ) → length xs ≡ 4096 * a → i < a → block_of (xs ++ ys) i ≡ block_of xs i
unfolding block_of
block_left xs ys a i size lt =
    ap (take 4096) (drop-append-le (4096 * i) xs ys (omega arith)) ∙ take-append-le 4096 (drop (4096 * i) xs) ys (omega (arith, length-drop (4096 * i) xs))

pub block_right : (xs ys : List ℕ) (a i j : ℕ) → length xs ≡ 4096 * a → i ≡ a + j → block_of (xs ++ ys) i ≡ block_of ys j
unfolding block_of
block_right xs ys a i j size is =
    let e : 4096 * i ≡ 4096 * a + 4096 * j = omega arith in
    ap (λ (k : ℕ). take 4096 (drop k (xs ++ ys))) e ∙ ap (take 4096) (sym (drop-drop (4096 * j) (4096 * a) (xs ++ ys)) ∙ ap (drop (4096 * j)) (drop_at xs ys (4096 * a) size))

-- a block of entries that were written, and zeros behind them
pub block_written :
    {A : Type 0} (spell : A → List ℕ) (width : ℕ)
    → ((x : A) → length (spell x) ≡ width)
    → (xs part : List A) (old b new : List ℕ) (n from block count stop : ℕ)
    → new ≡ plain_page (take stop b) → take (0 + width * length part) b ≡ take 0 old ++ run_bytes spell part
    → part ≡ take count (drop from xs) → count ≡ min (length xs - from) n → stop ≡ width * count
    → width * n ≡ 4096 → width * from ≡ 4096 * block → from ≤ length xs → 4096 * block < width * length xs
    → new ≡ block_of (in_blocks (run_bytes spell xs)) block
block_written {A} spell width wide xs part old b new n from block count stop ended front is cut end whole place low inside =
    let left : length (drop from xs) ≡ length xs - from = length-drop from xs in
    let few : count ≡ min n (length (drop from xs)) = omega arith in
    let own : part ≡ take n (drop from xs) = is ∙ ap (λ (k : ℕ). take k (drop from xs)) few ∙ take_min n (drop from xs) in
    let size : length part ≡ count = ap length is ∙ length-take-le count (drop from xs) (omega arith) in
    let e : stop ≡ 0 + width * length part = omega (arith, ap (λ (k : ℕ). width * k) size) in
    ended ∙ ap (λ (k : ℕ). plain_page (take k b)) e ∙ ap plain_page front ∙ ap (λ (l : List A). plain_page (run_bytes spell l)) own
    ∙ sym (entry_block spell width wide xs n from block whole place low inside)
