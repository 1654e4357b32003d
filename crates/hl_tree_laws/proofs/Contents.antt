-- The bytes of a file that is cut, written or read, one by one.
use Rattle.std.proofs.Common.{arith, ◌≡◌, ℕ, ◌+◌, ◌-◌, ◌<◌, ◌≤◌, List, ◌++◌, length, take, drop, replicate, get_or, ap, ◌∙◌, sym, length-append, inl, inr}
use Rattle.std.proofs.lemmas.Bool.{cases_lt}
use Rattle.std.proofs.lemmas.List.{get_or-take, get_or-drop, get_or_append_left, get_or-append_right, get_or-replicate, get_or_past, length-take, length-drop, length-replicate}
use Rattle.hl_tree.specs.Contents.{resized, written}
use Rattle.hl_tree.proofs.Contents.{length-resized}

zeros_there : (n j : ℕ) → get_or (replicate {A = ℕ} n 0) j 0 ≡ 0
zeros_there n j = elim (cases_lt j n) as (λ _. get_or (replicate {A = ℕ} n 0) j 0 ≡ 0) [
  | inl h ↦ get_or-replicate {A = ℕ} n j 0 0 h
  | inr h ↦ get_or_past (replicate {A = ℕ} n 0) j 0 (let e = length-replicate {A = ℕ} n 0 in omega arith)
]

-- a byte of what is cut or filled up
pub get_or-resized : (bytes : List ℕ) (size j : ℕ) → j < size → get_or (resized bytes size) j 0 ≡ get_or bytes j 0
unfolding resized
get_or-resized bytes size j h = elim (cases_lt j (length bytes)) as (λ _. get_or (resized bytes size) j 0 ≡ get_or bytes j 0) [
  | inl k ↦ get_or_append_left (take size bytes) (replicate (size - length bytes) 0) 0 j (simp length-take (omega arith)) ∙ get_or-take size bytes j 0 h
  | inr k ↦ get_or-append_right (take size bytes) (replicate (size - length bytes) 0) (length bytes) j 0 (simp length-take (omega arith)) k
      ∙ zeros_there (size - length bytes) (j - length bytes) ∙ sym (get_or_past bytes j 0 k)
]

pub length-written : (old : List ℕ) (at : ℕ) (bytes : List ℕ) → length (written old at bytes) ≡ at + length bytes + (length old - (at + length bytes))
unfolding written resized
length-written old at bytes = simp (length-append, length-take, length-replicate, length-drop) (omega arith)

pub written_before : (old : List ℕ) (at : ℕ) (bytes : List ℕ) (j : ℕ) → j < at → get_or (written old at bytes) j 0 ≡ get_or old j 0
unfolding written
written_before old at bytes j h =
    get_or_append_left (resized old at ++ bytes) (drop (at + length bytes) old) 0 j (let e = length-append (resized old at) bytes in let f = length-resized old at in omega arith)
    ∙ get_or_append_left (resized old at) bytes 0 j (let f = length-resized old at in omega arith)
    ∙ get_or-resized old at j h

pub written_behind : (old : List ℕ) (at : ℕ) (bytes : List ℕ) (j : ℕ) → at + length bytes ≤ j → get_or (written old at bytes) j 0 ≡ get_or old j 0
unfolding written
written_behind old at bytes j h =
    get_or-append_right (resized old at ++ bytes) (drop (at + length bytes) old) (at + length bytes) j 0 (length-append (resized old at) bytes ∙ ap (λ n. n + length bytes) (length-resized old at)) h
    ∙ get_or-drop (at + length bytes) old (j - (at + length bytes)) 0
    ∙ ap (λ i. get_or old i 0) (omega arith)
