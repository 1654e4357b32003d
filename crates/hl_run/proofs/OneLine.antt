-- The answers that are said, cut into lines.
use Rattle.std.proofs.Common.{◌≡◌, ℕ, zero, suc, false, ◌⊎◌, inl, inr, List, [], ◌∷◌, ◌++◌, take, refl, sym, ap, subst, ◌∙◌, append_assoc}
use Rattle.hl_script.specs.declared.said.Said.{Said}
use Rattle.hl_script.specs.Input.{is_newline, HasNoNewline}
use Rattle.hl_script.specs.Answer.{answer_text, answer_line}
use Rattle.hl_script.proofs.OneLine.{none_text}
use Rattle.hl_run.specs.Run.{DoneLine, answers, whole_lines}

-- a whole line is counted
counts : (t more : List ℕ) → HasNoNewline t → whole_lines (t ++ 10 ∷ more) ≡ suc (whole_lines more)
counts [] more a = refl
counts (b ∷ t) more a = rw a.0 (counts t more a.1)

-- A first part of a line and what follows: it ends within the line, or goes on behind it.
heads : (t rest p q : List ℕ) → HasNoNewline t → p ++ q ≡ t ++ 10 ∷ rest
    → (whole_lines p ≡ 0) ⊎ ((more : List ℕ) × (p ≡ t ++ 10 ∷ more) × (more ++ q ≡ rest))
heads [] rest [] q a e = inl refl
heads [] rest (x ∷ p) q a e =
    let first : x ≡ 10 = cc in
    let others : p ++ q ≡ rest = cc in
    inr (p, ap (λ b. b ∷ p) first, others)
heads (b ∷ t) rest [] q a e = inl refl
heads (b ∷ t) rest (x ∷ p) q a e =
    let first : x ≡ b = cc in
    let others : p ++ q ≡ t ++ 10 ∷ rest = cc in
    let other : is_newline x ≡ false = ap is_newline first ∙ a.0 in
    elim (heads t rest p q a.1 others) [
      | inl none ↦ inl (rw other none)
      | inr more ↦ inr (more.0, ap (λ y. y ∷ p) first ∙ ap (λ l. b ∷ l) more.1, more.2)
    ]

-- an answer is one line
pub one_line : (a : Said) → whole_lines (answer_line a) ≡ 1
one_line a = counts (answer_text a) [] (none_text a)

take_none : (n : ℕ) → take {A = DoneLine} n [] ≡ []
take_none zero = refl
take_none (suc n) = refl

-- a first part of answers is those of the whole lines in it, and a part
pub by_lines : (done : List DoneLine) (last p q : List ℕ) → p ++ q ≡ answers done ++ last → (part : List ℕ) × (p ≡ answers (take (whole_lines p) done) ++ part)
by_lines [] last p q e = (p, rw (take_none (whole_lines p)) refl)
by_lines (d ∷ done) last p q e =
    let t = answer_text d.answer in
    let line : (answer_line d.answer ++ answers done) ++ last ≡ t ++ 10 ∷ (answers done ++ last) =
    append_assoc (answer_line d.answer) (answers done) last ∙ append_assoc t (10 ∷ []) (answers done ++ last) in
    elim (heads t (answers done ++ last) p q (none_text d.answer) (e ∙ line)) [
      | inl none ↦ (p, subst (λ (n : ℕ). p ≡ answers (take n (d ∷ done)) ++ p) (sym none) refl)
      | inr more ↦
          let rest = by_lines done last more.0 q more.2 in
          let count : whole_lines p ≡ suc (whole_lines more.0) = ap whole_lines more.1 ∙ counts t more.0 (none_text d.answer) in
          let had = answers (take (whole_lines more.0) done) in
          let whole : (answer_line d.answer ++ had) ++ rest.0 ≡ t ++ 10 ∷ (had ++ rest.0) =
          append_assoc (answer_line d.answer) had rest.0 ∙ append_assoc t (10 ∷ []) (had ++ rest.0) in (
            rest.0,
            subst (λ (n : ℕ). p ≡ answers (take n (d ∷ done)) ++ rest.0) (sym count)
                (more.1 ∙ ap (λ l. t ++ 10 ∷ l) rest.1 ∙ sym whole),
          )
    ]
