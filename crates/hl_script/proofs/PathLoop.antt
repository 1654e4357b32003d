-- Paths, read one after another.
use Rattle.std.proofs.Common.{◌≡◌, ◌<◌, ◌+◌, ℕ, List, [], ◌∷◌, ◌++◌, length, get_or, drop, Some, None, Option, refl, sym, ap, ◌∙◌, arith, append_assoc, append-nil}
use Rattle.std.proofs.lemmas.List.{drop_more, drop_all}
use Rattle.hl_script.specs.Words.{path_at}
use Rattle.hl_script.specs.Reading.{◌>>=◌, Names, Refuses, paths_at}
use Rattle.hl_script.specs.declared.line.BadLine.{BadLine}
use Rattle.hl_script.specs.declared.line.BadLine.TheVariants.{Bad, Memory}

-- what was read so far, and then the rest
abbrev pub with_front : List Names → Option (List Names) → Option (List Names)
with_front front read = read >>= λ ps. Some (front ++ ps)

front_more : (front : List Names) (p : Names) (read : Option (List Names))
    → with_front front (read >>= λ ps. Some (p ∷ ps)) ≡ with_front (front ++ p ∷ []) read
front_more front p None = refl
front_more front p (Some ps) = ap Some (sym (append_assoc front (p ∷ []) ps))

at_word : (ws : List (List ℕ)) (i : ℕ) (w : List ℕ) → i < length ws → get_or ws i [] ≡ w
    → paths_at (drop i ws) ≡ (path_at w >>= λ p. paths_at (drop (i + 1) ws) >>= λ ps. Some (p ∷ ps))
unfolding paths_at
at_word ws i w lt e = ap paths_at (drop_more ws i [] lt ∙ ap (λ x. x ∷ drop (i + 1) ws) e)

pub path_more : (front : List Names) (ws : List (List ℕ)) (i : ℕ) (w : List ℕ) (p : Names) → i < length ws → get_or ws i [] ≡ w
    → path_at w ≡ Some p → with_front front (paths_at (drop i ws)) ≡ paths_at ws
    → with_front (front ++ p ∷ []) (paths_at (drop (i + 1) ws)) ≡ paths_at ws
path_more front ws i w p lt e is h =
    sym (front_more front p (paths_at (drop (i + 1) ws)))
    ∙ ap (λ r. with_front front (r >>= λ p. paths_at (drop (i + 1) ws) >>= λ ps. Some (p ∷ ps))) (sym is)
    ∙ ap (with_front front) (sym (at_word ws i w lt e)) ∙ h

pub path_bad : (front : List Names) (ws : List (List ℕ)) (i : ℕ) (w : List ℕ) → i < length ws → get_or ws i [] ≡ w
    → path_at w ≡ None → with_front front (paths_at (drop i ws)) ≡ paths_at ws → paths_at ws ≡ None
path_bad front ws i w lt e is h =
    sym h ∙ ap (with_front front) (at_word ws i w lt e)
    ∙ ap (λ r. with_front front (r >>= λ p. paths_at (drop (i + 1) ws) >>= λ ps. Some (p ∷ ps))) is

pub path_all : (front : List Names) (ws : List (List ℕ)) (i : ℕ) → length ws ≡ i
    → with_front front (paths_at (drop i ws)) ≡ paths_at ws → paths_at ws ≡ Some front
unfolding paths_at
path_all front ws i e h =
    sym h ∙ ap (λ l. with_front front (paths_at l)) (drop_all i ws (omega arith)) ∙ ap Some (append-nil front)

pub path_refused : (e : BadLine) (front : List Names) (ws : List (List ℕ)) (i : ℕ) (w : List ℕ) → i < length ws → get_or ws i [] ≡ w
    → Refuses e (path_at w) → with_front front (paths_at (drop i ws)) ≡ paths_at ws → Refuses e (paths_at ws)
path_refused Bad front ws i w lt e is h = path_bad front ws i w lt e is h
path_refused Memory front ws i w lt e is h = tt
