-- The three things that a step does to the jobs that are out: nothing, one leaves, one comes back.
use Rattle.std.proofs.Common.{◌≡◌, ◌≢◌, ◌⊎◌, ⊎_elim, inl, inr, ℕ, zero, suc, true, false, cond, eqb, eq-eqb, ne_eqb, List, [], ◌∷◌, ◌++◌, length, refl, sym, ap, ◌∙◌, subst}
use mathlib.Core.Logic.{dite}
use native.Mathlib.Decide.{ℕ_discrete}
use mathlib.Core.Option.{some, some-injective, some-ne-none}
use Rattle.atomic_table.proofs.Lists.{at_longer}
use Rattle.hl_turn.specs.Jobs.{Has, Lacks, Distinct, without, AllMeet, Shifts}
use Rattle.hl_turn.proofs.Lists.{at_end, at_middle}

module _ {X : Type 0} where
  has_tail : (p : ℕ × X) (ps : List (ℕ × X)) (n : ℕ) (x : X) → Has ps n x → Has (p ∷ ps) n x
  has_tail p ps n x h = (suc h.0, h.1)

  -- the first is it, or the others have it
  pub has_cases : (p : ℕ × X) (ps : List (ℕ × X)) (n : ℕ) (x : X) → Has (p ∷ ps) n x → (p ≡ (n, x)) ⊎ Has ps n x
  has_cases p ps n x (zero, e) = inl (some-injective p (n, x) e)
  has_cases p ps n x (suc k, e) = inr (k, e)

  pub seek : (h : List (ℕ × X)) (n : ℕ) → ((x : X) × Has h n x) ⊎ Lacks h n
  seek [] n = inr (λ x h. absurd (some-ne-none (n, x) (sym h.1)))
  seek (p ∷ ps) n = dite (ℕ_discrete p.0 n) (λ e. inl (p.1, (zero, ap (λ m. some (m, p.1)) e)))
      (λ ne. ⊎_elim (λ (h : (x : X) × Has ps n x). inl (h.0, has_tail p ps n h.0 h.1)) (λ no. inr (λ x h. ⊎_elim (λ (e : p ≡ (n, x)). ne (ap (λ (q : ℕ × X). q.0) e)) (no x) (has_cases p ps n x h))) (seek ps n))

  -- a list that lacks every number is empty
  pub lacks_all : (l : List (ℕ × X)) → ((n : ℕ) → Lacks l n) → l ≡ []
  lacks_all [] none = refl
  lacks_all (p ∷ ps) none = absurd (none p.0 p.1 (zero, refl))

  pub has_end : (h : List (ℕ × X)) (n : ℕ) (x : X) → Has (h ++ (n, x) ∷ []) n x
  has_end h n x = (length h, at_middle h [] (n, x))

  pub has_more : (h : List (ℕ × X)) (p : ℕ × X) (n : ℕ) (x : X) → Has h n x → Has (h ++ p ∷ []) n x
  has_more h p n x g = (g.0, at_longer h (p ∷ []) g.0 (n, x) g.1)

  pub has_either : (h : List (ℕ × X)) (n : ℕ) (x : X) (k : ℕ) (y : X) → Has (h ++ (n, x) ∷ []) k y → Has h k y ⊎ ((n ≡ k) × (x ≡ y))
  has_either h n x k y g = ⊎_elim (λ e. inl (g.0, e)) (λ (t : (g.0 ≡ length h) × ((n, x) ≡ (k, y))). inr (ap (λ (q : ℕ × X). q.0) t.1, ap (λ (q : ℕ × X). q.1) t.1)) (at_end h (n, x) (k, y) g.0 g.1)

  pub distinct_more : (h : List (ℕ × X)) (n : ℕ) (x : X) → Distinct h → Lacks h n → Distinct (h ++ (n, x) ∷ [])
  distinct_more [] n x d lack = (λ y h. some-ne-none (n, y) (sym h.1), tt)
  distinct_more (p ∷ ps) n x d lack = (λ y g. ⊎_elim (λ h. d.0 y h) (λ (t : (n ≡ p.0) × (x ≡ y)). lack p.1 (zero, ap (λ m. some (m, p.1)) (sym t.0))) (has_either ps n x p.0 y g), distinct_more ps n x d.1 (λ y g. lack y (has_tail p ps n y g)))

  -- of two lists, one behind the other
  pub has_left : (xs ys : List (ℕ × X)) (n : ℕ) (x : X) → Has xs n x → Has (xs ++ ys) n x
  has_left xs ys n x g = (g.0, at_longer xs ys g.0 (n, x) g.1)

  pub has_right : (xs ys : List (ℕ × X)) (n : ℕ) (x : X) → Has ys n x → Has (xs ++ ys) n x
  has_right [] ys n x g = g
  has_right (p ∷ xs) ys n x g = has_tail p (xs ++ ys) n x (has_right xs ys n x g)

  pub has_either_list : (xs ys : List (ℕ × X)) (n : ℕ) (x : X) → Has (xs ++ ys) n x → Has xs n x ⊎ Has ys n x
  has_either_list [] ys n x g = inr g
  has_either_list (p ∷ xs) ys n x g = ⊎_elim (λ (e : p ≡ (n, x)). inl (zero, ap some e)) (λ h. ⊎_elim (λ old. inl (has_tail p xs n x old)) inr (has_either_list xs ys n x h)) (has_cases p (xs ++ ys) n x g)

  pub distinct_join : (xs ys : List (ℕ × X)) → Distinct xs → Distinct ys → ((n : ℕ) (x y : X) → Has xs n x → Has ys n y → ⊥) → Distinct (xs ++ ys)
  distinct_join [] ys p q apart = q
  distinct_join (x ∷ xs) ys p q apart =
      (λ y g. ⊎_elim (p.0 y) (λ h. apart x.0 x.1 y (zero, refl) h) (has_either_list xs ys x.0 y g), distinct_join xs ys p.1 q (λ n a b g h. apart n a b (has_tail x xs n a g) h))

  pub kept_without : (n : ℕ) (h : List (ℕ × X)) (k : ℕ) (x : X) → Has (without n h) k x → (k ≢ n) × Has h k x
  kept_without n [] k x g = absurd (some-ne-none (k, x) (sym g.1))
  kept_without n (p ∷ ps) k x g = dite (ℕ_discrete p.0 n)
      (λ e. let t = kept_without n ps k x (subst (λ b. Has (cond b (without n ps) (p ∷ without n ps)) k x) (eq-eqb p.0 n e) g) in (t.0, has_tail p ps k x t.1))
      (λ ne. ⊎_elim (λ (e : p ≡ (k, x)). (λ s. ne (ap (λ (q : ℕ × X). q.0) e ∙ s), (zero, ap some e))) (λ h. let t = kept_without n ps k x h in (t.0, has_tail p ps k x t.1))
      (has_cases p (without n ps) k x (subst (λ b. Has (cond b (without n ps) (p ∷ without n ps)) k x) (ne_eqb p.0 n ne) g)))

  pub still_without : (n : ℕ) (h : List (ℕ × X)) (k : ℕ) (x : X) → k ≢ n → Has h k x → Has (without n h) k x
  still_without n [] k x ne g = absurd (some-ne-none (k, x) (sym g.1))
  still_without n (p ∷ ps) k x other g = dite (ℕ_discrete p.0 n)
      (λ e. subst (λ b. Has (cond b (without n ps) (p ∷ without n ps)) k x) (sym (eq-eqb p.0 n e))
      (⊎_elim (λ (s : p ≡ (k, x)). absurd (other (sym (ap (λ (q : ℕ × X). q.0) s) ∙ e))) (still_without n ps k x other) (has_cases p ps k x g)))
      (λ ne. subst (λ b. Has (cond b (without n ps) (p ∷ without n ps)) k x) (sym (ne_eqb p.0 n ne))
      (⊎_elim (λ (s : p ≡ (k, x)). (zero, ap some s)) (λ h. has_tail p (without n ps) k x (still_without n ps k x other h)) (has_cases p ps k x g)))

  pub distinct_without : (n : ℕ) (h : List (ℕ × X)) → Distinct h → Distinct (without n h)
  distinct_without n [] d = tt
  distinct_without n (p ∷ ps) d = elim (eqb p.0 n) as (λ b. Distinct (cond b (without n ps) (p ∷ without n ps)))
      [ true ↦ distinct_without n ps d.1 | false ↦ (λ y g. d.0 y (kept_without n ps p.0 y g).1, distinct_without n ps d.1) ]

module _ {I C : Type 0} (meets : I → C → Type 0) where
  -- a job that stays out has a claim that is no greater
  abbrev pub Stays : List (ℕ × C) → List (ℕ × C) → ℕ → Type 0
  Stays outs outs' n = (c : C) → Has outs n c → (c' : C) × Has outs' n c' × ((x : I) → meets x c → meets x c')

  pub shifts_same : (h : List (ℕ × I)) (outs outs' : List (ℕ × C)) → AllMeet meets outs h → Distinct h → Distinct outs' → ((n : ℕ) → Stays outs outs' n) → ((n : ℕ) (c : C) → Has outs' n c → (d : C) × Has outs n d) → Shifts meets h outs h outs'
  shifts_same h outs outs' met apart once stay back = record {
    met = λ n x g. let m = met n x g in let t = stay n m.0 m.1 in (t.0, t.1, t.2 x m.2);
    apart = apart;
    once = once;
    others = λ n c g _. stay n c g;
    own = λ n x g. inl (x, g);
    all = λ n c g. ⊎_elim inl (λ no. inr (back n c g, no)) (seek h n);
  }

  -- an object that has no jobs out changes none
  pub shifts_none : (h : List (ℕ × I)) → AllMeet meets [] h → Distinct h → Shifts meets h [] h []
  shifts_none h met apart = shifts_same h [] [] met apart tt (λ n c g. absurd (some-ne-none (n, c) (sym g.1))) (λ n c g. absurd (some-ne-none (n, c) (sym g.1)))

  pub shifts_leaves : (h : List (ℕ × I)) (outs outs' : List (ℕ × C)) (n : ℕ) (x : I) (c : C) → AllMeet meets outs h → Distinct h → Distinct outs' → Lacks outs n → ((k : ℕ) → Stays outs outs' k) → Has outs' n c → meets x c
      → ((k : ℕ) (d : C) → Has outs' k d → (k ≡ n) ⊎ ((e : C) × Has outs k e)) → Shifts meets h outs (h ++ (n, x) ∷ []) outs'
  shifts_leaves h outs outs' n x c met apart once fresh stay out good back = record {
    met = λ k y g. ⊎_elim (λ old. let m = met k y old in let t = stay k m.0 m.1 in (t.0, t.1, t.2 y m.2)) (λ (e : (n ≡ k) × (x ≡ y)). (c, subst (λ z. Has outs' z c) e.0 out, subst (λ z. meets z c) e.1 good)) (has_either h n x k y g);
    apart = distinct_more h n x apart (λ y g. let m = met n y g in fresh m.0 m.1);
    once = once;
    others = λ k d g _. stay k d g;
    own = λ k y g. ⊎_elim (λ old. inl (y, old)) (λ (e : (n ≡ k) × (x ≡ y)). inr (subst (Lacks outs) e.0 fresh)) (has_either h n x k y g);
    all = λ k d g. ⊎_elim (λ (e : k ≡ n). inl (x, subst (λ z. Has (h ++ (n, x) ∷ []) z x) (sym e) (has_end h n x)))
        (λ old. ⊎_elim (λ (own : (y : I) × Has h k y). inl (own.0, has_more h (n, x) k own.0 own.1)) (λ no. inr (old, no)) (seek h k)) (back k d g);
  }

  pub shifts_returns : (h : List (ℕ × I)) (outs outs' : List (ℕ × C)) (n : ℕ) (x : I) → AllMeet meets outs h → Distinct h → Distinct outs' → Has h n x → ((k : ℕ) → k ≢ n → Stays outs outs' k) → ((k : ℕ) (d : C) → Has outs' k d → (k ≢ n) × ((e : C) × Has outs k e))
      → Shifts meets h outs (without n h) outs'
  shifts_returns h outs outs' n x met apart once here stay back = record {
    met = λ k y g. let old = kept_without n h k y g in let m = met k y old.1 in let t = stay k old.0 m.0 m.1 in (t.0, t.1, t.2 y m.2);
    apart = distinct_without n h apart;
    once = once;
    others = λ k d g no. stay k (λ e. no x (subst (λ z. Has h z x) (sym e) here)) d g;
    own = λ k y g. inl (y, (kept_without n h k y g).1);
    all = λ k d g. let old = back k d g in ⊎_elim (λ (own : (y : I) × Has h k y). inl (own.0, still_without n h k own.0 old.0 own.1)) (λ no. inr (old.1, no)) (seek h k);
  }
