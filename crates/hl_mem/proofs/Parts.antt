-- The blocks of a list of bytes, a part of which is read or written.
use Rattle.std.proofs.Common.{◌≡◌, ℕ, ◌+◌, ◌-◌, ◌*◌, ◌<◌, ◌≤◌, List, ◌++◌, length, take, drop, sym, ◌∙◌, ap, arith, length-drop}
use Rattle.std.proofs.lemmas.List.{take-append-le, drop-append-le, drop-take, take-take, drop-drop, drop_at, length-take-le}
use Rattle.hl_bytes.specs.Buffers.{block_of}

-- what was read from there
pub slice_block : (xs : List ℕ) (at m k : ℕ) → 4096 * k + 4096 ≤ m → block_of (take m (drop (4096 * at) xs)) k ≡ block_of xs (at + k)
unfolding block_of
slice_block xs at m k fits =
    let rest = m - 4096 * k in
    let e : m ≡ 4096 * k + rest = omega arith in
    let f : 4096 * at + 4096 * k ≡ 4096 * (at + k) = omega arith in
    ap (λ (n : ℕ). take 4096 (drop (4096 * k) (take n (drop (4096 * at) xs)))) e
    ∙ ap (take 4096) (drop-take (4096 * k) rest (drop (4096 * at) xs))
    ∙ take-take 4096 rest (drop (4096 * k) (drop (4096 * at) xs)) (omega arith)
    ∙ ap (take 4096) (drop-drop (4096 * k) (4096 * at) xs ∙ ap (λ (n : ℕ). drop n xs) f)

-- the list with other bytes in a part
abbrev pub put : List ℕ → List ℕ → ℕ → ℕ → List ℕ
put xs ys at m = take (4096 * at) xs ++ (ys ++ drop m (drop (4096 * at) xs))

module _ (xs ys : List ℕ) (at m : ℕ) (size : length ys ≡ m) (fits : 4096 * at + m ≤ length xs) where
  front : length (take (4096 * at) xs) ≡ 4096 * at
  front = length-take-le (4096 * at) xs (omega arith)

  pub below : (k : ℕ) → k < at → block_of (put xs ys at m) k ≡ block_of xs k
  unfolding block_of
  below k lt =
      let rest = 4096 * at - 4096 * k in
      let e : 4096 * at ≡ 4096 * k + rest = omega arith in
      let a = take (4096 * at) xs in
      let r = ys ++ drop m (drop (4096 * at) xs) in
      let cut : drop (4096 * k) a ≡ take rest (drop (4096 * k) xs) = ap (λ (n : ℕ). drop (4096 * k) (take n xs)) e ∙ drop-take (4096 * k) rest xs in
      ap (take 4096) (drop-append-le (4096 * k) a r (omega (arith, front)))
      ∙ take-append-le 4096 (drop (4096 * k) a) r (omega (arith, front, length-drop (4096 * k) a))
      ∙ ap (take 4096) cut
      ∙ take-take 4096 rest (drop (4096 * k) xs) (omega arith)

  -- what stands from the part on
  from : (k : ℕ) → drop (4096 * (at + k)) (put xs ys at m) ≡ drop (4096 * k) (ys ++ drop m (drop (4096 * at) xs))
  from k =
      let e : 4096 * (at + k) ≡ 4096 * at + 4096 * k = omega arith in
      ap (λ (n : ℕ). drop n (put xs ys at m)) e ∙ sym (drop-drop (4096 * k) (4096 * at) (put xs ys at m))
      ∙ ap (drop (4096 * k)) (drop_at (take (4096 * at) xs) (ys ++ drop m (drop (4096 * at) xs)) (4096 * at) front)

  pub inside : (k : ℕ) → 4096 * k + 4096 ≤ m → block_of (put xs ys at m) (at + k) ≡ block_of ys k
  unfolding block_of
  inside k lt =
      ap (take 4096) (from k ∙ drop-append-le (4096 * k) ys (drop m (drop (4096 * at) xs)) (omega arith))
      ∙ take-append-le 4096 (drop (4096 * k) ys) (drop m (drop (4096 * at) xs)) (omega (arith, length-drop (4096 * k) ys))

  pub above : (k : ℕ) → m ≤ 4096 * k → block_of (put xs ys at m) (at + k) ≡ block_of xs (at + k)
  unfolding block_of
  above k le =
      let rest = 4096 * k - m in
      let e : 4096 * k ≡ m + rest = omega arith in
      let f : 4096 * at + (m + rest) ≡ 4096 * (at + k) = omega arith in
      let d = drop m (drop (4096 * at) xs) in
      let past : drop (4096 * k) (ys ++ d) ≡ drop rest d =
      ap (λ (n : ℕ). drop n (ys ++ d)) e ∙ sym (drop-drop rest m (ys ++ d)) ∙ ap (drop rest) (drop_at ys d m size) in
      ap (take 4096) (from k ∙ past ∙ drop-drop rest m (drop (4096 * at) xs) ∙ drop-drop (m + rest) (4096 * at) xs ∙ ap (λ (n : ℕ). drop n xs) f)
