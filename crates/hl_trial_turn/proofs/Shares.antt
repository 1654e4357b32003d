-- What each step of the desk does to the pages that are out.
use Rattle.std.proofs.Common.{◌≡◌, ℕ, zero, suc, ◌++◌, inl, List, [], ◌∷◌, Option, Some, None, refl, sym, ap, ◌∙◌, subst}
use mathlib.Core.Option.{some-injective, some-ne-none}
use Rattle.hl_turn.specs.Jobs.{Has, Distinct, without, held_after, AllMeet, Shifts}
use Rattle.hl_turn.specs.Asking.{MayAsk}
use Rattle.hl_turn.proofs.Jobs.{shifts_same, shifts_leaves, shifts_returns}
use Rattle.hl_trial_turn.specs.declared.slip.Slip.{Slip}
use Rattle.hl_trial_turn.specs.declared.desk.Page.{Page}
use Rattle.hl_trial_turn.specs.declared.desk.Ask.{Ask}
use Rattle.hl_trial_turn.specs.declared.desk.Ask.TheVariants.{Lend, Back}
use Rattle.hl_trial_turn.specs.declared.desk.Said.{Said}
use Rattle.hl_trial_turn.specs.declared.desk.Said.TheVariants.{Lent, Taken, Out, Memory}
use Rattle.hl_trial_turn.specs.Pages.{pages_out, names, brought, comes_back, taken, Lends}

abbrev pub same : ℕ → ℕ → Type 0
same x c = x ≡ c

has_none : (n c : ℕ) → Has (pages_out None) n c → ⊥
has_none n c h = some-ne-none (n, c) (sym h.1)

-- the one page that is out
the_one : (p : Page) (n c : ℕ) → Has (pages_out (Some p)) n c → (p.number ≡ n) × (p.text ≡ c)
the_one p n c (zero, e) = let q : (p.number, p.text) ≡ (n, c) = some-injective (p.number, p.text) (n, c) e in (ap (λ z. z.0) q, ap (λ z. z.1) q)
the_one p n c (suc k, e) = absurd (some-ne-none (n, c) (sym e))

-- one page is out at most
pages_once : (out : Option Page) → Distinct (pages_out out)
pages_once None = tt
pages_once (Some p) = (λ c h. some-ne-none (p.number, c) (sym h.1), tt)

unchanged : (h : List (ℕ × ℕ)) (out out' : Option Page) → out' ≡ out → AllMeet same (pages_out out) h → Distinct h → Shifts same h (pages_out out) h (pages_out out')
unchanged h out out' e met apart = subst (λ o. Shifts same h (pages_out out) h (pages_out o)) (sym e) (shifts_same same h (pages_out out) (pages_out out) met apart (pages_once out) (λ n c g. (c, g, λ x m. m)) (λ n c g. (c, g)))

lends : (h : List (ℕ × ℕ)) (p : Page) → AllMeet same [] h → Distinct h → Shifts same h [] (h ++ (p.number, p.text) ∷ []) (pages_out (Some p))
lends h p met apart = shifts_leaves same h [] (pages_out (Some p)) p.number p.text p.text met apart (pages_once (Some p)) (λ c g. has_none p.number c g) (λ k c g. absurd (has_none k c g)) (zero, refl) refl (λ k d g. inl (sym (the_one p k d g).0))

backs : (h : List (ℕ × ℕ)) (out : Option Page) (p : Page) (x : ℕ) → AllMeet same (pages_out out) h → Distinct h → Has h p.number x → Shifts same h (pages_out out) (without p.number h) (pages_out None)
backs h None p x met apart here = absurd (let m = met p.number x here in has_none p.number m.0 m.1)
backs h (Some q) p x met apart here = let m = met p.number x here in let is = (the_one q p.number m.0 m.1).0 in
    shifts_returns same h (pages_out (Some q)) (pages_out None) p.number x met apart tt here (λ k ne c g. absurd (ne (sym (the_one q k c g).0 ∙ is))) (λ k d g. absurd (has_none k d g))

pub desk_shifts : (n : ℕ) (loans loans' : List Slip) (out : Option Page) (event : Ask) (answer : Said) (out' : Option Page) (h : List (ℕ × ℕ)) → Lends loans out event answer loans' out' → MayAsk names brought comes_back n h event → AllMeet same (pages_out out) h → Distinct h
    → Shifts same h (pages_out out) (held_after brought (λ (e : Ask). taken) h event answer) (pages_out out')
desk_shifts n loans loans' out (Lend w) (Lent p) out' h l may met apart = subst (λ o. Shifts same h (pages_out o) (h ++ (p.number, p.text) ∷ []) (pages_out out')) (sym l.0)
    (subst (λ o. Shifts same h [] (h ++ (p.number, p.text) ∷ []) (pages_out o)) (sym l.1) (lends h p (subst (λ o. AllMeet same (pages_out o) h) l.0 met) apart))
desk_shifts n loans loans' out (Lend w) Taken out' h l may met apart = absurd l
desk_shifts n loans loans' out (Lend w) Out out' h l may met apart = unchanged h out out' l.2 met apart
desk_shifts n loans loans' out (Lend w) Memory out' h l may met apart = unchanged h out out' l.1 met apart
desk_shifts n loans loans' out (Back p) (Lent q) out' h l may met apart = absurd l
desk_shifts n loans loans' out (Back p) Taken out' h l may met apart = subst (λ o. Shifts same h (pages_out out) (without p.number h) (pages_out o)) (sym l.1) (backs h out p may.held.0 met apart may.held.1)
desk_shifts n loans loans' out (Back p) Out out' h l may met apart = absurd l
desk_shifts n loans loans' out (Back p) Memory out' h l may met apart = absurd l
