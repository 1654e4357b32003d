-- Buffers that are read and written whole.
use Rattle.std.proofs.Common.{◌≡◌, ℕ, ◌+◌, ◌*◌, List, [], ◌++◌, length, take, drop, ◌∙◌, ap, arith, append-nil}
use Rattle.std.proofs.lemmas.List.{take_all, drop_all, nil_from_length, length-take-le}
use Rattle.hl_bytes.specs.Buffers.{part_of, with_part}
use Rattle.hl_bytes.proofs.Parts.{with_part_is}

-- all blocks are the whole
pub whole_part : (bytes : List ℕ) (n : ℕ) → 4096 * n ≡ length bytes → part_of bytes 0 n ≡ bytes
unfolding part_of
whole_part bytes n whole = take_all (4096 * n) bytes (omega arith)

-- as many bytes as there are take the place of all
pub whole_written : (bytes part : List ℕ) → length part ≡ length bytes → with_part bytes 0 part ≡ part
whole_written bytes part size =
    let front : take (4096 * 0) bytes ≡ [] = nil_from_length (take (4096 * 0) bytes) (length-take-le 0 bytes (omega arith)) in
    let back : drop (4096 * 0 + length part) bytes ≡ [] = drop_all (4096 * 0 + length part) bytes (omega arith) in
    with_part_is bytes part 0 (omega arith)
    ∙ ap (λ (l : List ℕ). l ++ (part ++ drop (4096 * 0 + length part) bytes)) front
    ∙ ap (λ (l : List ℕ). part ++ l) back ∙ append-nil part
