-- A piece taken off bytes.
use Rattle.std.proofs.Common.{◌≡◌, ◌≤◌, ◌+◌, ℕ, List, ◌++◌, length, take, drop, sym, ap, ◌∙◌, arith, length-take, length-drop}
use Rattle.std.proofs.lemmas.List.{take_at, drop-drop, take-append-drop}

pub taken : (bytes out piece : List ℕ) (at count : ℕ) → piece ≡ take count (drop at bytes) → at + count ≤ length bytes
    → drop at bytes ≡ take count (piece ++ drop count out) ++ drop (at + count) bytes
taken bytes out piece at count is fits =
    let len : length piece ≡ count =
    ap length is ∙ (let l = length-take count (drop at bytes) in let d = length-drop at bytes in omega arith) in
    sym (
    ap (λ l. l ++ drop (at + count) bytes) (take_at piece (drop count out) count len ∙ is)
    ∙ ap (λ l. take count (drop at bytes) ++ l) (sym (drop-drop count at bytes))
    ∙ take-append-drop count (drop at bytes)
    )
