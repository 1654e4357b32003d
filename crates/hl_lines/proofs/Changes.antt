-- What a change of one line does to what a table keeps beside its states.
use Rattle.std.proofs.Common.{◌≡◌, ◌≢◌, ◌⊎◌, inl, inr, ⊎_elim, ℕ, zero, suc, ◌+◌, ◌-◌, ◌<◌, ◌≤◌, ◌^◌, cond, not, min, true, false, Bool, List, [], ◌∷◌, length, get_or, set, Option, Some, None, refl, sym, ap, ◌∙◌, subst, arith, nat_eq, eq-eqb, ne_eqb, length-set, get_or-set_same, get_or-set_other, take_all}
use Rattle.std.specs.List.{position_or_len}
use Rattle.std.specs.Map.{remove_entry}
use Rattle.std.proofs.lemmas.Bool.{cases_eq, true≢false}
use Rattle.std.proofs.lemmas.List.Sums.{sum_by-set, position_or_len_is, fails_before_first, passes_at_first}
use Rattle.lru.specs.LruCache.{LruCache, put_entries}
use Rattle.hl_lines.specs.Index.{Index, Puts, Drops, look}
use Rattle.hl_lines.specs.Lines.{segment_of, held_segment, is_empty}
use Rattle.hl_lines.specs.Indexes.{Has, AreApart, AreUses, AreHeld, AreSingle, clean_weight, held_weight}
use Rattle.hl_lines.specs.declared.state.LineState.{LineState}
use Rattle.hl_lines.specs.declared.state.LineState.TheVariants.{Empty, Clean}
use Rattle.hl_lines.proofs.Uses.{entry-none, has-kept, has-left, not-left, apart-left, length-left}

abbrev pub at : List LineState → ℕ → LineState
at states line = get_or states line Empty

-- a line that holds something is there
pub there : (states : List LineState) (line tseg : ℕ) → segment_of (at states line) ≡ Some tseg → line < length states
there [] line tseg is = absurd (let clash : None ≡ Some tseg = is in cc)
there (s ∷ states) zero tseg is = omega arith
there (s ∷ states) (suc line) tseg is = let near = there states line tseg is in omega arith

-- the changed line, and the others
pub changed : (states : List LineState) (line : ℕ) (s : LineState) (k : ℕ) → line < length states → ((k ≡ line) × (at (set states line s) k ≡ s)) ⊎ ((k ≢ line) × (at (set states line s) k ≡ at states k))
changed states line s k near = ⊎_elim (λ e. inl (e, ap (at (set states line s)) e ∙ get_or-set_same states line s Empty near)) (λ ne. inr (ne, get_or-set_other states line k s Empty ne)) (cases_eq k line)

-- a clean line has a clean state, and no other
clean_is : (a b : ℕ) → Clean a ≡ Clean b → a ≡ b
clean_is a b e = cc

-- the clean lines stay, where a line that isn't clean becomes one that isn't
pub uses_same : (states : List LineState) (line : ℕ) (s : LineState) (es : List (ℕ × ℕ)) → line < length states → ((t : ℕ) → at states line ≢ Clean t) → ((t : ℕ) → s ≢ Clean t)
    → clean_weight (at states line) ≡ 0 → clean_weight s ≡ 0 → AreUses states es → AreUses (set states line s) es
uses_same states line s es near was now zero_was zero_now u = record {
  clean = λ t k h. ⊎_elim (λ x. absurd (was t (ap (at states) (sym x.0) ∙ u.clean t k h))) (λ x. x.1 ∙ u.clean t k h) (changed states line s k near);
  all = λ t k is. ⊎_elim (λ x. absurd (now t (sym x.1 ∙ is))) (λ x. u.all t k (sym x.1 ∙ is)) (changed states line s k near);
  apart = u.apart;
  count = let sum = sum_by-set clean_weight states line s Empty near in omega (arith, u.count, sum, zero_was, zero_now);
}

-- a clean line is clean no more
pub uses_less : (states : List LineState) (line t : ℕ) (s : LineState) (es : List (ℕ × ℕ)) → at states line ≡ Clean t → ((k : ℕ) → s ≢ Clean k) → clean_weight s ≡ 0 → AreUses states es → AreUses (set states line s) (remove_entry (nat_eq t) es)
uses_less states line t s es was now zero_now u =
    let near = there states line t (ap segment_of was) in
    let own : Has es t line = u.all t line was in record {
      clean = λ k l h. ⊎_elim (λ x. absurd (not-left es t k l u.apart h (clean_is k t (sym (u.clean k l (has-left es t k l h)) ∙ ap (at states) x.0 ∙ was)))) (λ x. x.1 ∙ u.clean k l (has-left es t k l h)) (changed states line s l near);
      all = λ k l is. ⊎_elim (λ x. absurd (now k (sym x.1 ∙ is))) (λ x. has-kept es t k l (u.all k l (sym x.1 ∙ is)) (λ e. x.0 (one es t l line u.apart (subst (λ n. Has es n l) e (u.all k l (sym x.1 ∙ is))) own))) (changed states line s l near);
      apart = apart-left es t u.apart;
      count = let sum = sum_by-set clean_weight states line s Empty near in let left = length-left es t line own in omega (arith, u.count, sum, ap clean_weight was, zero_now, left);
    }
  where
    one : (es : List (ℕ × ℕ)) (t l m : ℕ) → AreApart es → Has es t l → Has es t m → l ≡ m
    one [] t l m apart a b = absurd a
    one (e ∷ es) t l m apart (inl a) (inl b) = sym a.1 ∙ b.1
    one (e ∷ es) t l m apart (inl a) (inr b) = absurd ((apart.0 t m b).0 (sym a.0))
    one (e ∷ es) t l m apart (inr a) (inl b) = absurd ((apart.0 t l a).0 (sym b.0))
    one (e ∷ es) t l m apart (inr a) (inr b) = one es t l m apart.1 a b

-- a line is clean, and the most recently used
pub uses_more : (states : List LineState) (line t : ℕ) (es : List (ℕ × ℕ)) → line < length states → ((k : ℕ) → at states line ≢ Clean k) → clean_weight (at states line) ≡ 0 → ((l : ℕ) → Has es t l → ⊥) → AreUses states es → AreUses (set states line (Clean t)) ((t, line) ∷ es)
uses_more states line t es near was zero_was none u = record {
  clean = λ k l h. ⊎_elim (λ (own : (t ≡ k) × (line ≡ l)). ⊎_elim (λ x. x.1 ∙ ap Clean own.0) (λ x. absurd (x.0 (sym own.1))) (changed states line (Clean t) l near))
      (λ (old : Has es k l). ⊎_elim (λ x. absurd (was k (ap (at states) (sym x.0) ∙ u.clean k l old))) (λ x. x.1 ∙ u.clean k l old) (changed states line (Clean t) l near)) h;
  all = λ k l is. ⊎_elim (λ x. inl (clean_is t k (sym x.1 ∙ is), sym x.0)) (λ x. inr (u.all k l (sym x.1 ∙ is))) (changed states line (Clean t) l near);
  apart = (λ k l h. (λ e. none l (subst (λ n. Has es n l) e h), λ e. was k (ap (at states) (sym e) ∙ u.clean k l h)), u.apart);
  count = let sum = sum_by-set clean_weight states line (Clean t) Empty near in omega (arith, u.count, sum, zero_was);
}

-- the held lines stay, where a line keeps what it holds
pub held_same : (states : List LineState) (line : ℕ) (s : LineState) (held : Index) → line < length states → held_segment s ≡ held_segment (at states line) → held_weight s ≡ held_weight (at states line) → AreHeld states held → AreHeld (set states line s) held
held_same states line s held near same weight h = record {
  only = λ t k is. ⊎_elim (λ x. ap held_segment x.1 ∙ same ∙ ap (λ l. held_segment (at states l)) (sym x.0) ∙ h.only t k is) (λ x. ap held_segment x.1 ∙ h.only t k is) (changed states line s k near);
  all = λ t k is. ⊎_elim (λ x. h.all t k (ap (λ l. held_segment (at states l)) x.0 ∙ sym same ∙ sym (ap held_segment x.1) ∙ is)) (λ x. h.all t k (sym (ap held_segment x.1) ∙ is)) (changed states line s k near);
  count = let sum = sum_by-set held_weight states line s Empty near in omega (arith, h.count, sum, weight);
  room = h.room ∙ sym (length-set states line s);
}

-- what a look-up gives where a key was put, and where one was taken away
other_put : (old new : Index) (key number k : ℕ) → Puts old key number new → k ≢ key → look k new ≡ look k old
other_put old new key number k p ne = p.found k ∙ ap (λ b. cond b (Some number) (look k old)) (ne_eqb key k (λ e. ne (sym e)))

own_put : (old new : Index) (key number : ℕ) → Puts old key number new → look key new ≡ Some number
own_put old new key number p = p.found key ∙ ap (λ b. cond b (Some number) (look key old)) (eq-eqb key key refl)

other_drop : (old new : Index) (key k : ℕ) → Drops old key new → k ≢ key → look k new ≡ look k old
other_drop old new key k p ne = p.found k ∙ ap (λ b. cond b None (look k old)) (ne_eqb key k (λ e. ne (sym e)))

own_drop : (old new : Index) (key : ℕ) → Drops old key new → look key new ≡ None
own_drop old new key p = p.found key ∙ ap (λ b. cond b None (look key old)) (eq-eqb key key refl)

none_is_some : (o : Option ℕ) (n : ℕ) → o ≡ None → o ≡ Some n → ⊥
none_is_some o n p q = let clash : None ≡ Some n = sym p ∙ q in cc

some_is : (a b : ℕ) → Some a ≡ Some b → a ≡ b
some_is a b e = cc

-- a line is held
pub held_more : (states : List LineState) (line t : ℕ) (s : LineState) (held held' : Index) → line < length states → held_segment (at states line) ≡ None → held_weight (at states line) ≡ 0 → held_segment s ≡ Some t → held_weight s ≡ 1
    → look t held ≡ None → Puts held t line held' → AreHeld states held → AreHeld (set states line s) held'
held_more states line t s held held' near was zero_was now one_now none p h = record {
  only = λ k l is. ⊎_elim
      (λ (e : k ≡ t). let own : line ≡ l = some_is line l (sym (own_put held held' t line p) ∙ ap (λ n. look n held') (sym e) ∙ is) in
      ⊎_elim (λ x. ap held_segment x.1 ∙ now ∙ ap Some (sym e)) (λ x. absurd (x.0 (sym own))) (changed states line s l near))
      (λ (ne : k ≢ t). let old = h.only k l (sym (other_put held held' t line k p ne) ∙ is) in
      ⊎_elim (λ x. absurd (none_is_some (held_segment (at states line)) k was (ap (λ n. held_segment (at states n)) (sym x.0) ∙ old))) (λ x. ap held_segment x.1 ∙ old) (changed states line s l near))
      (cases_eq k t);
  all = λ k l is. ⊎_elim
      (λ x. let same : t ≡ k = some_is t k (sym now ∙ sym (ap held_segment x.1) ∙ is) in ap (λ n. look n held') (sym same) ∙ own_put held held' t line p ∙ ap Some (sym x.0))
      (λ x. let old = h.all k l (sym (ap held_segment x.1) ∙ is) in other_put held held' t line k p (λ e. none_is_some (look t held) l none (ap (λ n. look n held) (sym e) ∙ old)) ∙ old)
      (changed states line s l near);
  count = let sum = sum_by-set held_weight states line s Empty near in omega (arith, h.count, sum, zero_was, one_now, p.count);
  room = p.room ∙ h.room ∙ sym (length-set states line s);
}

-- a held line is held no more
pub held_less : (states : List LineState) (line t : ℕ) (s : LineState) (held held' : Index) → line < length states → held_segment (at states line) ≡ Some t → held_weight (at states line) ≡ 1 → held_segment s ≡ None → held_weight s ≡ 0
    → Drops held t held' → AreHeld states held → AreHeld (set states line s) held'
held_less states line t s held held' near was one_was now zero_now p h = record {
  only = λ k l is.
      let ne : k ≢ t = λ e. none_is_some (look t held') l (own_drop held held' t p) (ap (λ n. look n held') (sym e) ∙ is) in
      let old = h.only k l (sym (other_drop held held' t k p ne) ∙ is) in
      ⊎_elim (λ x. absurd (ne (some_is k t (sym old ∙ ap (λ n. held_segment (at states n)) x.0 ∙ was)))) (λ x. ap held_segment x.1 ∙ old) (changed states line s l near);
  all = λ k l is. ⊎_elim
      (λ x. absurd (none_is_some (held_segment s) k now (sym (ap held_segment x.1) ∙ is)))
      (λ x. let old = h.all k l (sym (ap held_segment x.1) ∙ is) in
      other_drop held held' t k p (λ e. x.0 (sym (some_is line l (sym (h.all t line was) ∙ ap (λ n. look n held) (sym e) ∙ old)))) ∙ old)
      (changed states line s l near);
  count = let sum = sum_by-set held_weight states line s Empty near in omega (arith, h.count, sum, one_was, zero_now, p.count);
  room = p.room ∙ h.room ∙ sym (length-set states line s);
}

-- no two lines hold one segment, where a line holds none, or one that no other holds
pub single_set : (states : List LineState) (line : ℕ) (s : LineState) → line < length states → ((t : ℕ) → segment_of s ≡ Some t → (k : ℕ) → k ≢ line → segment_of (at states k) ≢ Some t) → AreSingle states → AreSingle (set states line s)
single_set states line s near free single a b t p q = ⊎_elim
    (λ x. ⊎_elim (λ y. x.0 ∙ sym y.0) (λ y. absurd (free t (sym (ap segment_of x.1) ∙ p) b y.0 (sym (ap segment_of y.1) ∙ q))) (changed states line s b near))
    (λ x. ⊎_elim (λ y. absurd (free t (sym (ap segment_of y.1) ∙ q) a x.0 (sym (ap segment_of x.1) ∙ p))) (λ y. single a b t (sym (ap segment_of x.1) ∙ p) (sym (ap segment_of y.1) ∙ q)) (changed states line s b near))
    (changed states line s a near)

-- a new segment goes first
pub put-new : (clean : LruCache ℕ ℕ) (t l : ℕ) → clean.cap ≡ 2 ^ 64 - 1 → length clean.entries < 2 ^ 32 → ((k : ℕ) → Has clean.entries t k → ⊥) → put_entries nat_eq clean t l ≡ (t, l) ∷ clean.entries
put-new clean t l cap few none = rw (entry-none clean.entries t none) (ap (λ es. (t, l) ∷ es) (take_all (clean.cap - 1) clean.entries (omega (arith, cap, few))))

-- the lowest empty line is a line, or one past the last
pub first_within : (states : List LineState) → position_or_len is_empty states ≤ length states
first_within [] = omega arith
first_within (s ∷ states) = by (is_empty s) (first_within states)
  where
    by : (b : Bool) → position_or_len is_empty states ≤ length states → cond (not b) (1 + position_or_len is_empty states) 0 ≤ length (s ∷ states)
    by true h = omega arith
    by false h = omega arith

-- no line below the lowest empty one is empty, where a line is given something
pub none_below : (states : List LineState) (line : ℕ) (s : LineState) (lowest : ℕ) → line < length states → lowest ≡ position_or_len is_empty states → is_empty s ≡ false → (k : ℕ) → k < lowest → is_empty (at (set states line s) k) ≡ false
none_below states line s lowest near first full k lt = ⊎_elim (λ x. ap is_empty x.1 ∙ full) (λ x. ap is_empty x.1 ∙ fails_before_first is_empty states k Empty (omega (arith, lt, first))) (changed states line s k near)

-- the lowest empty line stays, where a line that isn't empty is given something
pub first_same : (states : List LineState) (line : ℕ) (s : LineState) (lowest : ℕ) → line < length states → lowest ≡ position_or_len is_empty states → is_empty (at states line) ≡ false → is_empty s ≡ false → lowest ≡ position_or_len is_empty (set states line s)
first_same states line s lowest near first was full =
    let size = length-set states line s in
    let within = first_within states in
    sym (position_or_len_is is_empty (set states line s) lowest Empty (omega (arith, size, within, first)) (none_below states line s lowest near first full)
    (λ lt. let empty : is_empty (at states lowest) ≡ true = ap (λ n. is_empty (at states n)) first ∙ passes_at_first is_empty states Empty (omega (arith, lt, size, first)) in
    ⊎_elim (λ x. absurd (true≢false (sym empty ∙ ap (λ n. is_empty (at states n)) x.0 ∙ was))) (λ x. ap is_empty x.1 ∙ empty) (changed states line s lowest near)))

-- a line is emptied
pub first_less : (states : List LineState) (line lowest : ℕ) → line < length states → lowest ≡ position_or_len is_empty states → min lowest line ≡ position_or_len is_empty (set states line Empty)
first_less states line lowest near first =
    let size = length-set states line Empty in
    sym (position_or_len_is is_empty (set states line Empty) (min lowest line) Empty (omega (arith, size, near))
    (λ k lt. ⊎_elim (λ x. absurd (omega (arith, x.0, lt))) (λ x. ap is_empty x.1 ∙ fails_before_first is_empty states k Empty (omega (arith, lt, first))) (changed states line Empty k near))
    (λ lt. ⊎_elim (λ x. ap is_empty x.1)
    (λ x. let low : min lowest line ≡ lowest = omega (arith, x.0) in
    ap is_empty x.1 ∙ ap (λ n. is_empty (at states n)) (low ∙ first) ∙ passes_at_first is_empty states Empty (omega (arith, lt, size, first, low))) (changed states line Empty (min lowest line) near)))
