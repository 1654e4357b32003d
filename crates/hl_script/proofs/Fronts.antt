-- What was there before stays at the front.
use Rattle.std.proofs.Common.{Result, Ok, Err, OnErr, ◌≡◌, ◌≤◌, ◌+◌, ℕ, List, ◌++◌, length, take, drop, refl, sym, ap, ◌∙◌, arith, length-append}
use Rattle.std.proofs.Math.Seq.{take-add}
use Rattle.std.proofs.lemmas.List.{take-take, take-append-le, take_all, drop-append-le, length-take-le}
use Rattle.std.specs.Io.{StartsWith}

-- what begins with a longer text begins with its front
pub starts_behind : (old more mid new : List ℕ) → mid ≡ old ++ more → StartsWith new mid → StartsWith new old
starts_behind old more mid new e h =
    let len = length-append old more in
    let same = ap length e in
    let short : length old ≤ length mid = omega arith in
    sym (take-take (length old) (length mid) new short) ∙ ap (take (length old)) (h ∙ e)
    ∙ take-append-le (length old) old more (omega arith) ∙ take_all (length old) old (omega arith)

-- bytes that are put behind an end stand behind what lies before it
pub behind_end : (before now held : List ℕ) (start end count : ℕ) → start ≤ end → end ≤ length now
    → take end now ≡ take end before → drop start (take end before) ≡ held
    → drop start (take (end + count) now) ≡ held ++ take count (drop end now)
behind_end before now held start end count ordered within front is =
    let len : length (take end now) ≡ end = length-take-le end now within in
    ap (drop start) (take-add end count now)
    ∙ drop-append-le start (take end now) (take count (drop end now)) (omega arith)
    ∙ ap (λ l. drop start l ++ take count (drop end now)) front
    ∙ ap (λ l. l ++ take count (drop end now)) is

-- what holds anyhow holds after an error
pub OnErr-from : {T E : Type 0} {P : Type 0} (r : Result T E) → P → OnErr r P
OnErr-from (Ok x) p = tt
OnErr-from (Err e) p = p
