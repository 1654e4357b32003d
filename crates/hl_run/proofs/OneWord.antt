-- The words of a command.
use Rattle.std.proofs.Common.{◌≡◌, ◌<◌, ◌≤◌, ℕ, Bool, true, List, [], ◌∷◌, length, get_or, map, sym, ap, ◌∙◌, arith}
use Rattle.std.proofs.lemmas.Slice.Eq.{bytes_eq-Decides}
use Rattle.std.specs.Prelude.{bytes_eq}

-- the one word of a command
pub one_word : {W : Type 0} (view : W → List ℕ) (words : List W) (w : W) (text key : List ℕ) (r : Bool)
    → 1 ≤ length words → length words < 2 → w ≡ get_or words 0 w → text ≡ view w → r ≡ bytes_eq text key
    → (r ≡ true → map view words ≡ key ∷ []) × (map view words ≡ key ∷ [] → r ≡ true)
one_word view [] w text key r low high is seen e = absurd (omega arith)
one_word view (x ∷ []) w text key r low high is seen e =
    let d = bytes_eq-Decides text key in (
      λ t. ap (λ l. l ∷ []) (ap view (sym is) ∙ sym seen ∙ d.0 (sym e ∙ t)),
      λ h.
          let same : view x ≡ key = cc in
          e ∙ d.1 (seen ∙ ap view is ∙ same),
    )
one_word view (x ∷ y ∷ ys) w text key r low high is seen e = absurd (omega arith)
