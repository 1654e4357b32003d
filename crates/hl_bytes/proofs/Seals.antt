-- Bytes with their digest.
use Rattle.std.proofs.Common.{◌≡◌, ◌↔◌, ℕ, ◌+◌, ◌-◌, ◌≤◌, Bool, List, ◌++◌, length, take, drop, refl, sym, ap, ◌∙◌, arith, append_assoc, length-append}
use Rattle.std.specs.Bool.{IsTrue, Decides}
use Rattle.std.proofs.lemmas.List.{take_at, take_rest, take-append-drop, append_cancel_left, length-take-le}
use Rattle.sha2.specs.Sha256.{sha256, digest_bytes}
use Rattle.hl_bytes.specs.Fields.{written}
use Rattle.hl_bytes.specs.Sealing.{sealed, sealed_over}

-- whether the digest is kept is whether the bytes are sealed
pub is_sealed_by : (xs kept digest : List ℕ) (r : Bool) (n : ℕ) → Decides r (kept ≡ digest) → kept ≡ take (length xs - n) (drop n xs) → digest ≡ sha256 (take n xs)
    → (IsTrue r → xs ≡ sealed (take n xs)) × (xs ≡ sealed (take n xs) → IsTrue r)
unfolding sealed
is_sealed_by xs kept digest r n decides is_kept is_digest =
    let split : xs ≡ take n xs ++ drop n xs = sym (take-append-drop n xs) in
    let rest : kept ≡ drop n xs = is_kept ∙ take_rest xs n in
    (λ t. split ∙ ap (λ (l : List ℕ). take n xs ++ l) (sym rest ∙ decides.0 t ∙ is_digest), λ e. decides.1 (rest ∙ append_cancel_left (take n xs) _ _ (sym split ∙ e) ∙ sym is_digest))

pub length-sha256 : (m : List ℕ) → length (sha256 m) ≡ 32
unfolding sha256 digest_bytes
length-sha256 m = refl

-- the digest stands there exactly where the bytes are sealed
pub sealed_over_by : (bytes digest : List ℕ) → digest ≡ sha256 (take 4064 bytes ++ drop 4096 bytes) → 4096 ≤ length bytes
    → (take (4064 + length digest) bytes ≡ take 4064 bytes ++ digest) ↔ (bytes ≡ sealed_over (take 4064 bytes) (drop 4096 bytes))
unfolding sealed_over
sealed_over_by bytes digest is le =
    let size : length digest ≡ 32 = ap length is ∙ length-sha256 (take 4064 bytes ++ drop 4096 bytes) in
    let stop : 4064 + length digest ≡ 4096 = omega (arith, size) in
    let front : length (take 4064 bytes ++ digest) ≡ 4096 = omega (arith, length-append (take 4064 bytes) digest, length-take-le 4064 bytes (omega arith), size) in (
      λ e. sym (take-append-drop 4096 bytes) ∙ ap (λ (l : List ℕ). l ++ drop 4096 bytes) (ap (λ (n : ℕ). take n bytes) (sym stop) ∙ e ∙ ap (λ (l : List ℕ). take 4064 bytes ++ l) is),
      λ h. ap (λ (n : ℕ). take n bytes) stop ∙ ap (take 4096) (h ∙ ap (λ (l : List ℕ). (take 4064 bytes ++ l) ++ drop 4096 bytes) (sym is)) ∙ take_at (take 4064 bytes ++ digest) (drop 4096 bytes) 4096 front,
    )

-- the digest that was written seals the bytes
pub written_over : (old new digest : List ℕ) → digest ≡ sha256 (take 4064 old ++ drop 4096 old) → new ≡ written old 4064 digest → new ≡ sealed_over (take 4064 old) (drop 4096 old)
unfolding sealed_over
written_over old new digest is put =
    let size : length digest ≡ 32 = ap length is ∙ length-sha256 (take 4064 old ++ drop 4096 old) in
    let stop : 4064 + length digest ≡ 4096 = omega (arith, size) in
    put ∙ sym (append_assoc (take 4064 old) digest (drop (4064 + length digest) old)) ∙ ap (λ (n : ℕ). (take 4064 old ++ digest) ++ drop n old) stop ∙ ap (λ (l : List ℕ). (take 4064 old ++ l) ++ drop 4096 old) is
