-- Lines by their segments in order of use.
use Rattle.std.proofs.Common.{◌≡◌, ◌≢◌, inl, inr, ⊎_elim, ℕ, suc, ◌+◌, ◌==◌, cond, not, true, false, List, [], ◌∷◌, ◌++◌, length, get_or, Option, Some, None, Contains, refl, sym, ap, ◌∙◌, subst, arith, eq-eqb, ne_eqb, nat_eq, zero, Bool, append-nil}
use Rattle.std.specs.List.{AllPairs, list_any}
use Rattle.std.specs.Map.{lookup, lookup_entry, remove_entry}
use Rattle.std.proofs.lemmas.Bool.{cases_eq}
use Rattle.std.proofs.lemmas.List.Elements.{filter-append, Contains-append_left, Contains-append_cases, Contains-get_or, Contains-push}
use Rattle.std.proofs.lemmas.List.Quantifiers.{all_pairs_push}
use Rattle.lru.specs.LruCache.{promoted}
use Rattle.hl_lines.specs.Lines.{all_but, first_of}
use Rattle.hl_lines.specs.Indexes.{Has, AreApart, order_of, least_used}

-- what is found under a segment is its line
pub lookup-has : (es : List (ℕ × ℕ)) (t l : ℕ) → AreApart es → Has es t l → lookup (nat_eq t) es ≡ Some l
lookup-has [] t l apart h = absurd h
lookup-has (e ∷ es) t l apart (inl h) = rw (eq-eqb t e.0 (sym h.0)) (ap Some h.1)
lookup-has (e ∷ es) t l apart (inr h) = rw (ne_eqb t e.0 (apart.0 t l h).0) (lookup-has es t l apart.1 h)

pub has-lookup : (es : List (ℕ × ℕ)) (t l : ℕ) → lookup (nat_eq t) es ≡ Some l → Has es t l
has-lookup [] t l is = cc
has-lookup (e ∷ es) t l is = ⊎_elim
    (λ (same : t ≡ e.0). let found : Some e.1 ≡ Some l = rw (eq-eqb t e.0 same) at is in let line : e.1 ≡ l = cc in inl (sym same, line))
    (λ (ne : t ≢ e.0). inr (has-lookup es t l (rw (ne_eqb t e.0 ne) at is)))
    (cases_eq t e.0)

-- a segment without a line isn't found
pub lookup-none : (es : List (ℕ × ℕ)) (t : ℕ) → ((l : ℕ) → Has es t l → ⊥) → lookup (nat_eq t) es ≡ None
lookup-none [] t never = refl
lookup-none (e ∷ es) t never = rw (ne_eqb t e.0 (λ same. never e.1 (inl (sym same, refl)))) (lookup-none es t (λ l h. never l (inr h)))

pub entry-none : (es : List (ℕ × ℕ)) (t : ℕ) → ((l : ℕ) → Has es t l → ⊥) → lookup_entry (nat_eq t) es ≡ None
entry-none [] t never = refl
entry-none (e ∷ es) t never = rw (ne_eqb t e.0 (λ same. never e.1 (inl (sym same, refl)))) (entry-none es t (λ l h. never l (inr h)))

-- one that is found goes first
entry-has : (es : List (ℕ × ℕ)) (t l : ℕ) → AreApart es → Has es t l → lookup_entry (nat_eq t) es ≡ Some (t, l)
entry-has [] t l apart h = absurd h
entry-has (e ∷ es) t l apart (inl h) = rw (eq-eqb t e.0 (sym h.0)) (λ i. Some (h.0 i, h.1 i))
entry-has (e ∷ es) t l apart (inr h) = rw (ne_eqb t e.0 (apart.0 t l h).0) (entry-has es t l apart.1 h)

pub promoted-has : (es : List (ℕ × ℕ)) (t l : ℕ) → AreApart es → Has es t l → promoted (nat_eq t) es ≡ (t, l) ∷ remove_entry (nat_eq t) es
promoted-has es t l apart h = rw (entry-has es t l apart h) refl

pub promoted-none : (es : List (ℕ × ℕ)) (t : ℕ) → ((l : ℕ) → Has es t l → ⊥) → promoted (nat_eq t) es ≡ es
promoted-none es t never = rw (entry-none es t never) refl

-- what is left without a segment
pub has-kept : (es : List (ℕ × ℕ)) (t k l : ℕ) → Has es k l → k ≢ t → Has (remove_entry (nat_eq t) es) k l
has-kept [] t k l h other = h
has-kept (e ∷ es) t k l h other = ⊎_elim
    (λ (same : t ≡ e.0). rw (eq-eqb t e.0 same) (⊎_elim (λ g. absurd (other (sym g.0 ∙ sym same))) (λ g. g) h))
    (λ (ne : t ≢ e.0). rw (ne_eqb t e.0 ne) (⊎_elim (λ g. inl g) (λ g. inr (has-kept es t k l g other)) h))
    (cases_eq t e.0)

pub has-left : (es : List (ℕ × ℕ)) (t k l : ℕ) → Has (remove_entry (nat_eq t) es) k l → Has es k l
has-left [] t k l h = h
has-left (e ∷ es) t k l h = ⊎_elim
    (λ (same : t ≡ e.0). inr (rw (eq-eqb t e.0 same) at h))
    (λ (ne : t ≢ e.0). ⊎_elim (λ g. inl g) (λ g. inr (has-left es t k l g)) (rw (ne_eqb t e.0 ne) at h))
    (cases_eq t e.0)

pub not-left : (es : List (ℕ × ℕ)) (t k l : ℕ) → AreApart es → Has (remove_entry (nat_eq t) es) k l → k ≢ t
not-left [] t k l apart h = absurd h
not-left (e ∷ es) t k l apart h = ⊎_elim
    (λ (same : t ≡ e.0). λ is. (apart.0 k l (rw (eq-eqb t e.0 same) at h)).0 (is ∙ same))
    (λ (ne : t ≢ e.0). ⊎_elim (λ g. λ is. ne (sym is ∙ sym g.0)) (λ g. not-left es t k l apart.1 g) (rw (ne_eqb t e.0 ne) at h))
    (cases_eq t e.0)

pub apart-left : (es : List (ℕ × ℕ)) (t : ℕ) → AreApart es → AreApart (remove_entry (nat_eq t) es)
apart-left [] t apart = tt
apart-left (e ∷ es) t apart = ⊎_elim
    (λ (same : t ≡ e.0). rw (eq-eqb t e.0 same) apart.1)
    (λ (ne : t ≢ e.0). rw (ne_eqb t e.0 ne) (λ k l h. apart.0 k l (has-left es t k l h), apart-left es t apart.1))
    (cases_eq t e.0)

pub length-left : (es : List (ℕ × ℕ)) (t l : ℕ) → Has es t l → length (remove_entry (nat_eq t) es) + 1 ≡ length es
length-left [] t l h = absurd h
length-left (e ∷ es) t l h = ⊎_elim
    (λ (same : t ≡ e.0). rw (eq-eqb t e.0 same) (omega arith))
    (λ (ne : t ≢ e.0). rw (ne_eqb t e.0 ne) (⊎_elim (λ g. absurd (ne (sym g.0))) (λ g. let rest = length-left es t l g in omega (arith, rest)) h))
    (cases_eq t e.0)

-- the order without a line that isn't in it, and without one that is
pub order-same : (es : List (ℕ × ℕ)) (l : ℕ) → ((t k : ℕ) → Has es t k → k ≢ l) → all_but l (order_of es) ≡ order_of es
order-same [] l never = refl
order-same (e ∷ es) l never =
    filter-append (λ other. not (other == l)) (order_of es) (e.1 ∷ []) ∙ ap (λ ls. ls ++ all_but l (e.1 ∷ [])) (order-same es l (λ t k h. never t k (inr h)))
    ∙ ap (λ b. order_of es ++ cond (not b) (e.1 ∷ []) []) (ne_eqb e.1 l (never e.0 e.1 (inl (refl, refl))))

pub order-left : (es : List (ℕ × ℕ)) (t l : ℕ) → AreApart es → Has es t l → order_of (remove_entry (nat_eq t) es) ≡ all_but l (order_of es)
order-left [] t l apart h = absurd h
order-left (e ∷ es) t l apart (inl h) =
    rw (eq-eqb t e.0 (sym h.0)) (sym (filter-append (λ other. not (other == l)) (order_of es) (e.1 ∷ []) ∙ ap (λ b. all_but l (order_of es) ++ cond (not b) (e.1 ∷ []) []) (eq-eqb e.1 l h.1)
    ∙ append-nil (all_but l (order_of es)) ∙ order-same es l (λ k m g is. (apart.0 k m g).1 (is ∙ sym h.1))))
order-left (e ∷ es) t l apart (inr h) =
    let other = apart.0 t l h in
    rw (ne_eqb t e.0 other.0) (ap (λ ls. ls ++ e.1 ∷ []) (order-left es t l apart.1 h)
    ∙ sym (filter-append (λ other. not (other == l)) (order_of es) (e.1 ∷ []) ∙ ap (λ b. all_but l (order_of es) ++ cond (not b) (e.1 ∷ []) []) (ne_eqb e.1 l (λ is. other.1 (sym is)))))

-- the lines of the order
pub in-order : (es : List (ℕ × ℕ)) (l : ℕ) → Contains (order_of es) l → (t : ℕ) × Has es t l
in-order [] l c = let lt = c.1 in absurd (omega arith)
in-order (e ∷ es) l c = ⊎_elim (λ g. let h = in-order es l g in (h.0, inr h.1)) (λ g. (e.0, inl (refl, one e.1 l g))) (Contains-append_cases (order_of es) (e.1 ∷ []) l c)
  where
    one : (x y : ℕ) → Contains (x ∷ []) y → x ≡ y
    one x y (zero, lt, is) = is
    one x y (suc k, lt, is) = absurd (omega arith)

pub order-in : (es : List (ℕ × ℕ)) (t l : ℕ) → Has es t l → Contains (order_of es) l
order-in [] t l h = absurd h
order-in (e ∷ es) t l (inl h) = subst (Contains (order_of (e ∷ es))) h.1 (Contains-push (order_of es) e.1)
order-in (e ∷ es) t l (inr h) = Contains-append_left (order_of es) (e.1 ∷ []) l (order-in es t l h)

pub order-once : (es : List (ℕ × ℕ)) → AreApart es → AllPairs (λ line other. line ≢ other) (order_of es)
order-once [] apart = λ i j d lt near. absurd (omega arith)
order-once (e ∷ es) apart = all_pairs_push (λ line other. line ≢ other) (order_of es) e.1 (order-once es apart.1)
    (λ k d lt is. let h = in-order es (get_or (order_of es) k d) (Contains-get_or (order_of es) k d lt) in (apart.0 h.0 (get_or (order_of es) k d) h.1).1 is)

-- what the last of the uses does to the least used
pub least_used-last : (keep : List ℕ) (es : List (ℕ × ℕ)) (e : ℕ × ℕ) → least_used keep (es ++ e ∷ []) ≡ cond (list_any (λ tseg. tseg == e.0) keep) (least_used keep es) (Some e.1)
least_used-last keep [] e = by (list_any (λ tseg. tseg == e.0) keep)
  where
    by : (b : Bool) → first_of None (cond b None (Some e.1)) ≡ cond b None (Some e.1)
    by true = refl
    by false = refl
least_used-last keep (x ∷ es) e =
    let own = cond (list_any (λ tseg. tseg == x.0) keep) None (Some x.1) in
    ap (λ o. first_of o own) (least_used-last keep es e) ∙ by (list_any (λ tseg. tseg == e.0) keep) (least_used keep es) own
  where
    by : (b : Bool) (o own : Option ℕ) → first_of (cond b o (Some e.1)) own ≡ cond b (first_of o own) (Some e.1)
    by true o own = refl
    by false o own = refl
