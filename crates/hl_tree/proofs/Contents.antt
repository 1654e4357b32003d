-- The bytes of a file that is cut or written.
use Rattle.std.proofs.Common.{arith, ◌≡◌, ℕ, ◌+◌, ◌-◌, ◌≤◌, max, List, ◌++◌, length, take, drop, replicate, ap, ◌∙◌, sym, length-append, inl, inr}
use Rattle.std.proofs.lemmas.Bool.{cases_lt}
use Rattle.std.proofs.lemmas.List.{append_assoc, append-nil, drop_all, take_all, take_at, take-append-le, drop-drop, replicate-append-replicate, length-take, length-drop, length-replicate}
use Rattle.hl_tree.specs.Contents.{resized, written}

pub length-resized : (bytes : List ℕ) (size : ℕ) → length (resized bytes size) ≡ size
unfolding resized
length-resized bytes size = simp (length-append, length-take, length-replicate) (omega arith)

-- bytes that end within the old ones
pub written_within : (old : List ℕ) (at : ℕ) (bytes : List ℕ) → at + length bytes ≤ length old → written old at bytes ≡ take at old ++ (bytes ++ drop (at + length bytes) old)
unfolding written resized
written_within old at bytes h =
    let none : at - length old ≡ 0 = omega arith in
    append_assoc (take at old ++ replicate (at - length old) 0) bytes (drop (at + length bytes) old)
    ∙ ap (λ n. (take at old ++ replicate n 0) ++ (bytes ++ drop (at + length bytes) old)) none
    ∙ ap (λ front. front ++ (bytes ++ drop (at + length bytes) old)) (append-nil (take at old))

-- what is filled up further begins as what is filled up to there
take-resized : (old : List ℕ) (at size : ℕ) → at ≤ size → length old ≤ size → take at (resized old size) ≡ resized old at
unfolding resized
take-resized old at size h long =
    ap (λ front. take at (front ++ replicate (size - length old) 0)) (take_all size old long) ∙ elim (cases_lt at (length old)) as (λ _. take at (old ++ replicate (size - length old) 0) ≡ take at old ++ replicate (at - length old) 0) [
      | inl short ↦
          let within : at ≤ length old = omega arith in
          let none : at - length old ≡ 0 = omega arith in
          take-append-le at old (replicate (size - length old) 0) within
          ∙ sym (ap (λ n. take at old ++ replicate n 0) none ∙ append-nil (take at old))
      | inr past ↦
          let parts : size - length old ≡ (at - length old) + (size - at) = omega arith in
          let front : length (old ++ replicate (at - length old) 0) ≡ at = (let a = length-append old (replicate (at - length old) 0) in let b = length-replicate {A = ℕ} (at - length old) 0 in omega arith) in
          ap (λ n. take at (old ++ replicate n 0)) parts
          ∙ ap (λ back. take at (old ++ back)) (sym (replicate-append-replicate (at - length old) (size - at) 0))
          ∙ ap (take at) (sym (append_assoc old (replicate (at - length old) 0) (replicate (size - at) 0)))
          ∙ take_at (old ++ replicate (at - length old) 0) (replicate (size - at) 0) at front
          ∙ sym (ap (λ begin. begin ++ replicate (at - length old) 0) (take_all at old past))
    ]

-- bytes that end past the old ones, which were filled up before
pub written_past : (old : List ℕ) (at : ℕ) (bytes : List ℕ) → length old ≤ at + length bytes
    → written old at bytes ≡ take at (resized old (at + length bytes)) ++ (bytes ++ drop (at + length bytes) (resized old (at + length bytes)))
unfolding written
written_past old at bytes h =
    let fits : at ≤ at + length bytes = omega arith in
    let size : length (resized old (at + length bytes)) ≤ at + length bytes = (let e = length-resized old (at + length bytes) in omega arith) in
    append_assoc (resized old at) bytes (drop (at + length bytes) old)
    ∙ (λ i. sym (take-resized old at (at + length bytes) fits h) i ++ (bytes ++ (drop_all (at + length bytes) old h ∙ sym (drop_all (at + length bytes) (resized old (at + length bytes)) size)) i))

whole : (old : List ℕ) → resized old (length old) ≡ old
unfolding resized
whole old =
    let none : length old - length old ≡ 0 = omega arith in
    let all : length old ≤ length old = omega arith in
    ap (λ n. take (length old) old ++ replicate n 0) none ∙ append-nil (take (length old) old) ∙ take_all (length old) old all

-- a write is a copy into the bytes, which were filled up before if they were too short
pub written_in_place : (old : List ℕ) (at : ℕ) (bytes : List ℕ) (room : List ℕ) → room ≡ resized old (max (length old) (at + length bytes))
    → written old at bytes ≡ take at room ++ (bytes ++ drop (at + length bytes) room)
written_in_place old at bytes room is = elim (cases_lt (length old) (at + length bytes)) as (λ _. written old at bytes ≡ take at room ++ (bytes ++ drop (at + length bytes) room)) [
  | inl past ↦
      let size : max (length old) (at + length bytes) ≡ at + length bytes = omega arith in
      let long : length old ≤ at + length bytes = omega arith in
      written_past old at bytes long ∙ ap (λ r. take at r ++ (bytes ++ drop (at + length bytes) r)) (sym (is ∙ ap (resized old) size))
  | inr within ↦
      let size : max (length old) (at + length bytes) ≡ length old = omega arith in
      written_within old at bytes within ∙ ap (λ r. take at r ++ (bytes ++ drop (at + length bytes) r)) (sym (is ∙ ap (resized old) size ∙ whole old))
]

pub resized_to_itself : (old : List ℕ) (size : ℕ) → size ≤ length old → resized old (max (length old) size) ≡ old
resized_to_itself old size h = let e : max (length old) size ≡ length old = omega arith in ap (resized old) e ∙ whole old

-- what a copy into the bytes leaves, as a part of a slice that is written
pub copied : (at : ℕ) (part xs ys old : List ℕ) → xs ≡ resized old (max (length old) (at + length part)) → ys ≡ part
    → take at xs ++ (ys ++ drop ((at + length part) - at) (drop at xs)) ≡ written old at part
copied at part xs ys old room same =
    let end : at + ((at + length part) - at) ≡ at + length part = omega arith in
    (λ i. take at xs ++ (same i ++ (drop-drop ((at + length part) - at) at xs ∙ ap (λ n. drop n xs) end) i))
    ∙ sym (written_in_place old at part xs room)

pub length-copied : (at : ℕ) (part xs ys : List ℕ) → at + length part ≤ length xs → ys ≡ part → length (take at xs ++ (ys ++ drop ((at + length part) - at) (drop at xs))) ≡ length xs
length-copied at part xs ys fits same = let n : length ys ≡ length part = ap length same in simp (length-append, length-take, length-drop) (omega arith)
