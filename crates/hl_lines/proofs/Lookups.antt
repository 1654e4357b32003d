-- The line of a segment, the victim, and the public value of a table.
use Rattle.std.proofs.Common.{◌≡◌, ◌≢◌, ◌⊎◌, inl, inr, ⊎_elim, ◌↔◌, ℕ, zero, suc, ◌+◌, ◌-◌, ◌<◌, ◌≤◌, ◌^◌, ◌==◌, cond, not, ◌||◌, true, false, Bool, List, [], ◌∷◌, ◌++◌, length, map, sum_by, find, position, replicate, Option, Some, None, Contains, refl, sym, ap, ◌∙◌, subst, arith, nat_eq, nat_lt, eq-eqb, ne_eqb}
use Rattle.std.specs.Prelude.{IsNone, IfSome}
use Rattle.std.specs.List.{position_or_len, list_any, slice_index_or}
use Rattle.std.specs.Map.{lookup, remove_entry}
use Rattle.std.proofs.Math.ListN.{get_or-map}
use Rattle.std.proofs.lemmas.Bool.{cases_eq, lt-ltb, true≢false, eqb-true}
use Rattle.std.proofs.lemmas.List.{length-map, length-replicate}
use Rattle.std.specs.Option.{option_or}
use Rattle.std.proofs.lemmas.List.Sums.{position_or_len_is, fails_before_first, passes_at_first, sum_by-cons}
use Rattle.std.proofs.lemmas.List.Folds.{find-append, Any-from_list_any, list_any-from_Any}
use Rattle.lru.specs.LruCache.{LruCache, lru_cache, promoted}
use Rattle.hl_lines.specs.Index.{Index, look}
use Rattle.hl_lines.specs.Lines.{segment_of, held_segment, is_empty, is_clean, unstuck, is, line_with, used, touched, first_of, is_spared, victim}
use Rattle.hl_lines.specs.LineTable.{AreLines, IsTaken, MayBeTaken}
use Rattle.hl_lines.specs.Indexes.{Has, AreApart, AreUses, AreSingle, AreIndexed, clean_weight, held_weight, order_of, least_used}
use Rattle.hl_lines.specs.declared.state.LineState.{LineState}
use Rattle.hl_lines.specs.declared.state.LineState.TheVariants.{Empty, Clean, Staging, Stuck, Aside}
use Rattle.hl_lines.proofs.Uses.{lookup-has, has-lookup, promoted-has, promoted-none, has-kept, has-left, not-left, apart-left, length-left, order-left, in-order, order-in, order-once}
use Rattle.hl_lines.proofs.Changes.{at, there, first_within}

-- a segment is the line's, or it isn't
is_own : (o : Option ℕ) (t : ℕ) → o ≡ Some t → is o t ≡ true
is_own None t e = cc
is_own (Some n) t e = let same : n ≡ t = cc in eq-eqb n t same

is_other : (o : Option ℕ) (t : ℕ) → (o ≡ Some t → ⊥) → is o t ≡ false
is_other None t ne = refl
is_other (Some n) t ne = ne_eqb n t (λ e. ne (ap Some e))

-- the first place, where it is known
position_is : {X : Type 0} (p : X → Bool) (xs : List X) (n : ℕ) → position_or_len p xs ≡ n → n < length xs → position p xs ≡ Some n
position_is p xs n e lt = ap (λ k. cond (nat_lt k (length xs)) (Some k) None) e ∙ ap (λ b. cond b (Some n) None) (lt-ltb n (length xs) lt)

position_none : {X : Type 0} (p : X → Bool) (xs : List X) → position_or_len p xs ≡ length xs → position p xs ≡ None
position_none p xs e = ap (λ k. cond (nat_lt k (length xs)) (Some k) None) e ∙ no_less (length xs)
  where
    no_less : (n : ℕ) → cond (nat_lt n n) (Some n) None ≡ None
    no_less n = grind arith

-- the line that holds a segment
pub with_line : (states : List LineState) (line t : ℕ) → AreSingle states → segment_of (at states line) ≡ Some t → line_with states t ≡ Some line
with_line states line t single own =
    let near = there states line t own in
    let first = position_or_len_is (λ s. is (segment_of s) t) states line Empty (omega (arith, near)) (λ k lt. is_other (segment_of (at states k)) t (λ e. let same : k ≡ line = single k line t e own in omega (arith, lt, same))) (λ lt. is_own (segment_of (at states line)) t own) in
    position_is (λ s. is (segment_of s) t) states line first near

pub without_line : (states : List LineState) (t : ℕ) → ((line : ℕ) → segment_of (at states line) ≢ Some t) → line_with states t ≡ None
without_line states t none = position_none (λ s. is (segment_of s) t) states
    (position_or_len_is (λ s. is (segment_of s) t) states (length states) Empty (omega arith) (λ k lt. is_other (segment_of (at states k)) t (none k)) (λ lt. absurd (omega (arith, lt))))

-- a state's segment is a clean one's or a held one's
by_segment : (s : LineState) (t : ℕ) → segment_of s ≡ Some t → (s ≡ Clean t) ⊎ (held_segment s ≡ Some t)
by_segment Empty t e = cc
by_segment (Clean n) t e = let same : n ≡ t = cc in inl (ap Clean same)
by_segment (Staging n) t e = inr e
by_segment (Stuck n) t e = inr e
by_segment Aside t e = cc

held_is : (s : LineState) (t : ℕ) → held_segment s ≡ Some t → segment_of s ≡ Some t
held_is Empty t e = cc
held_is (Clean n) t e = cc
held_is (Staging n) t e = e
held_is (Stuck n) t e = e
held_is Aside t e = cc

held_unclean : (s : LineState) (t : ℕ) → held_segment s ≡ Some t → is_clean s ≡ false
held_unclean Empty t e = cc
held_unclean (Clean n) t e = cc
held_unclean (Staging n) t e = refl
held_unclean (Stuck n) t e = refl
held_unclean Aside t e = cc

-- a clean line is found by its segment, a held one too, and else there is none
pub of_clean : (states : List LineState) (clean : LruCache ℕ ℕ) (held : Index) (lowest t line : ℕ) → AreIndexed states clean held lowest → lookup (nat_eq t) clean.entries ≡ Some line → line_with states t ≡ Some line
of_clean states clean held lowest t line x found = with_line states line t x.single (ap segment_of (x.uses.clean t line (has-lookup clean.entries t line found)))

never_used : (es : List (ℕ × ℕ)) (t : ℕ) → AreApart es → lookup (nat_eq t) es ≡ None → (l : ℕ) → Has es t l → ⊥
never_used es t apart none l h = let clash : None ≡ Some l = sym none ∙ lookup-has es t l apart h in cc

pub of_held : (states : List LineState) (clean : LruCache ℕ ℕ) (held : Index) (lowest t : ℕ) → AreIndexed states clean held lowest → lookup (nat_eq t) clean.entries ≡ None → line_with states t ≡ look t held
of_held states clean held lowest t x none = by (look t held) refl
  where
    by : (o : Option ℕ) → look t held ≡ o → line_with states t ≡ o
    by (Some line) e = with_line states line t x.single (held_is (at states line) t (x.kept.only t line e))
    by None e = without_line states t (λ line own. ⊎_elim (λ is. never_used clean.entries t x.uses.apart none line (x.uses.all t line is))
        (λ is. let clash : None ≡ Some line = sym e ∙ x.kept.all t line is in cc) (by_segment (at states line) t own))

-- a segment is used
pub touched_uses : (states : List LineState) (t : ℕ) (es : List (ℕ × ℕ)) → AreUses states es → AreUses states (promoted (nat_eq t) es)
touched_uses states t es u = by (lookup (nat_eq t) es) refl
  where
    by : (o : Option ℕ) → lookup (nat_eq t) es ≡ o → AreUses states (promoted (nat_eq t) es)
    by None e = subst (AreUses states) (sym (promoted-none es t (never_used es t u.apart e))) u
    by (Some line) e =
        let own : Has es t line = has-lookup es t line e in
        subst (AreUses states) (sym (promoted-has es t line u.apart own)) record {
          clean = λ k l h. ⊎_elim (λ (p : (t ≡ k) × (line ≡ l)). u.clean k l (subst (λ n. Has es n l) p.0 (subst (λ n. Has es t n) p.1 own))) (λ (g : Has (remove_entry (nat_eq t) es) k l). u.clean k l (has-left es t k l g)) h;
          all = λ k l is. ⊎_elim (λ (same : k ≡ t). inl (sym same, one line l (lookup-has es t line u.apart own) (lookup-has es t l u.apart (subst (λ n. Has es n l) same (u.all k l is))))) (λ (ne : k ≢ t). inr (has-kept es t k l (u.all k l is) ne)) (cases_eq k t);
          apart = (λ k l h. (not-left es t k l u.apart h, λ same. not-left es t k l u.apart h (segment k l h same)), apart-left es t u.apart);
          count = let left = length-left es t line own in let old = u.count in omega (arith, left, old);
        }
      where
        one : (a b : ℕ) → lookup (nat_eq t) es ≡ Some a → lookup (nat_eq t) es ≡ Some b → a ≡ b
        one a b p q = let both : Some a ≡ Some b = sym p ∙ q in cc

        segment : (k l : ℕ) → Has (remove_entry (nat_eq t) es) k l → l ≡ line → k ≡ t
        segment k l h same = let both : Clean k ≡ Clean t = sym (u.clean k l (has-left es t k l h)) ∙ ap (at states) same ∙ u.clean t line (has-lookup es t line e) in cc

pub touched_order : (states : List LineState) (clean : LruCache ℕ ℕ) (held : Index) (lowest t : ℕ) → AreIndexed states clean held lowest → order_of (promoted (nat_eq t) clean.entries) ≡ touched states (order_of clean.entries) (line_with states t)
touched_order states clean held lowest t x = by (lookup (nat_eq t) clean.entries) refl
  where
    es : List (ℕ × ℕ)
    es = clean.entries

    held_by : (o : Option ℕ) → look t held ≡ o → lookup (nat_eq t) clean.entries ≡ None → touched states (order_of clean.entries) o ≡ order_of clean.entries
    held_by None e none = refl
    held_by (Some line) e none = ap (λ b. cond b (used line (order_of clean.entries)) (order_of clean.entries)) (held_unclean (at states line) t (x.kept.only t line e))

    by : (o : Option ℕ) → lookup (nat_eq t) clean.entries ≡ o → order_of (promoted (nat_eq t) clean.entries) ≡ touched states (order_of clean.entries) (line_with states t)
    by None e =
        ap order_of (promoted-none clean.entries t (never_used clean.entries t x.uses.apart e)) ∙ sym (held_by (look t held) refl e) ∙ ap (touched states (order_of clean.entries)) (sym (of_held states clean held lowest t x e))
    by (Some line) e =
        let own : Has clean.entries t line = has-lookup clean.entries t line e in
        let clear : is_clean (at states line) ≡ true = ap is_clean (x.uses.clean t line own) in
        ap order_of (promoted-has clean.entries t line x.uses.apart own) ∙ ap (λ o. o ++ line ∷ []) (order-left clean.entries t line x.uses.apart own)
        ∙ ap (λ b. cond b (used line (order_of clean.entries)) (order_of clean.entries)) (sym clear) ∙ ap (touched states (order_of clean.entries)) (sym (of_clean states clean held lowest t line x e))

-- the whole of a table
pub are_lines : (states : List LineState) (clean : LruCache ℕ ℕ) (held : Index) (lowest : ℕ) → AreIndexed states clean held lowest → AreLines (record { states = states; order = order_of clean.entries })
are_lines states clean held lowest x = record {
  clean = λ line c. let h = in-order clean.entries line c in ap is_clean (x.uses.clean h.0 line h.1);
  all = λ line c. let s = clean_of (at states line) c in order-in clean.entries s.0 line (x.uses.all s.0 line s.1);
  once = order-once clean.entries x.uses.apart;
  apart = λ line t own other ne is. ne (x.single other line t is own);
}
  where
    clean_of : (s : LineState) → is_clean s ≡ true → (t : ℕ) × (s ≡ Clean t)
    clean_of Empty e = cc
    clean_of (Clean t) e = (t, refl)
    clean_of (Staging t) e = cc
    clean_of (Stuck t) e = cc
    clean_of Aside e = cc

pub touched_indexed : (states : List LineState) (clean clean' : LruCache ℕ ℕ) (held : Index) (lowest t : ℕ) → AreIndexed states clean held lowest → clean' ≡ lru_cache (promoted (nat_eq t) clean.entries) clean.cap → AreIndexed states clean' held lowest
touched_indexed states clean clean' held lowest t x is = record {
  few = x.few;
  uses = subst (λ (c : LruCache ℕ ℕ). AreUses states c.entries) (sym is) (touched_uses states t clean.entries x.uses);
  unbounded = ap (λ (c : LruCache ℕ ℕ). c.cap) is ∙ x.unbounded;
  kept = x.kept;
  single = x.single;
  first = x.first;
}

-- whether a number is one of some, either way round
same_test : (a b : ℕ) → (a == b) ≡ (b == a)
same_test a b = ⊎_elim (λ (e : a ≡ b). eq-eqb a b e ∙ sym (eq-eqb b a (sym e))) (λ (ne : a ≢ b). ne_eqb a b ne ∙ sym (ne_eqb b a (λ e. ne (sym e)))) (cases_eq a b)

any_turned : (keep : List ℕ) (x : ℕ) → list_any (is (Some x)) keep ≡ list_any (λ n. n == x) keep
any_turned [] x = refl
any_turned (k ∷ keep) x = ap (λ b. b || list_any (is (Some x)) keep) (same_test x k) ∙ ap (λ b. (k == x) || b) (any_turned keep x)

or_is : (a b : Option ℕ) → option_or a b ≡ first_of a b
or_is None b = refl
or_is (Some n) b = refl

-- the first of the order that is spared is the least used
find_is : (states : List LineState) (keep : List ℕ) (es : List (ℕ × ℕ)) → ((t l : ℕ) → Has es t l → at states l ≡ Clean t) → find (is_spared states keep) (order_of es) ≡ least_used keep es
find_is states keep [] clean = refl
find_is states keep (e ∷ es) clean =
    let own : is_spared states keep e.1 ≡ not (list_any (λ n. n == e.0) keep) =
    ap (λ s. not (list_any (is (segment_of s)) keep)) (clean e.0 e.1 (inl (refl, refl))) ∙ ap not (any_turned keep e.0) in
    find-append (is_spared states keep) (order_of es) (e.1 ∷ []) ∙ or_is (find (is_spared states keep) (order_of es)) (find (is_spared states keep) (e.1 ∷ []))
    ∙ ap (λ o. first_of o (find (is_spared states keep) (e.1 ∷ []))) (find_is states keep es (λ t l h. clean t l (inr h)))
    ∙ ap (first_of (least_used keep es)) (ap (λ b. cond b (Some e.1) None) own ∙ turned (list_any (λ n. n == e.0) keep))
  where
    turned : (b : Bool) → cond (not b) (Some e.1) None ≡ cond b None (Some e.1)
    turned true = refl
    turned false = refl

pub victim_empty : (states : List LineState) (clean : LruCache ℕ ℕ) (held : Index) (lowest : ℕ) (keep : List ℕ) → AreIndexed states clean held lowest → lowest < length states → Some lowest ≡ victim states (order_of clean.entries) keep
victim_empty states clean held lowest keep x lt = sym (ap (λ o. first_of o (find (is_spared states keep) (order_of clean.entries))) (position_is is_empty states lowest (sym x.first) lt))

-- no line is empty
full : (states : List LineState) (clean : LruCache ℕ ℕ) (held : Index) (lowest : ℕ) → AreIndexed states clean held lowest → length states ≤ lowest → position_or_len is_empty states ≡ length states
full states clean held lowest x ge = let within = first_within states in let first = x.first in omega (arith, within, first, ge)

pub victim_used : (states : List LineState) (clean : LruCache ℕ ℕ) (held : Index) (lowest : ℕ) (keep : List ℕ) → AreIndexed states clean held lowest → length states ≤ lowest → least_used keep clean.entries ≡ victim states (order_of clean.entries) keep
victim_used states clean held lowest keep x ge =
    sym (ap (λ o. first_of o (find (is_spared states keep) (order_of clean.entries))) (position_none is_empty states (full states clean held lowest x ge)) ∙ find_is states keep clean.entries x.uses.clean)

-- an empty line is a victim, so there is one
pub none_empty : (states : List LineState) (clean : LruCache ℕ ℕ) (held : Index) (lowest : ℕ) (keep : List ℕ) → AreIndexed states clean held lowest → lowest < length states
    → IsNone (Some lowest) ↔ ((line : ℕ) → line < length states → IsTaken keep (at states line))
none_empty states clean held lowest keep x lt = (λ t. absurd (true≢false t), λ all. absurd (empty_is (at states lowest) (ap (λ n. is_empty (at states n)) x.first ∙ passes_at_first is_empty states Empty (subst (λ n. n < length states) x.first lt)) (all lowest lt)))
  where
    empty_is : (s : LineState) → is_empty s ≡ true → IsTaken keep s → ⊥
    empty_is Empty e t = t
    empty_is (Clean n) e t = cc
    empty_is (Staging n) e t = cc
    empty_is (Stuck n) e t = cc
    empty_is Aside e t = cc

-- a number is one of some exactly where the test says so
is_among : (keep : List ℕ) (x : ℕ) → list_any (λ n. n == x) keep ≡ true → Contains keep x
is_among keep x e = let a = Any-from_list_any (λ n. n == x) keep e in let same : a.1 ≡ x = eqb-true a.1 x a.4 in (a.0, a.2, subst (λ n. slice_index_or keep a.0 n ≡ n) same a.3)

among_is : (keep : List ℕ) (x : ℕ) → Contains keep x → list_any (λ n. n == x) keep ≡ true
among_is keep x c = list_any-from_Any (λ n. n == x) keep (c.0, x, c.1, c.2, eq-eqb x x refl)

none_left : (keep : List ℕ) (es : List (ℕ × ℕ)) → least_used keep es ≡ None → (t l : ℕ) → Has es t l → Contains keep t
none_left keep [] e t l h = absurd h
none_left keep (x ∷ es) e t l h = by (least_used keep es) refl (list_any (λ n. n == x.0) keep) refl (λ gone g. none_left keep es gone t l g)
  where
    by : (o : Option ℕ) → least_used keep es ≡ o → (b : Bool) → list_any (λ n. n == x.0) keep ≡ b → (least_used keep es ≡ None → Has es t l → Contains keep t) → Contains keep t
    by (Some n) some b own later = let clash : Some n ≡ None = sym (ap (λ o. first_of o (cond (list_any (λ n. n == x.0) keep) None (Some x.1))) some) ∙ e in cc
    by None gone false own later = let clash : Some x.1 ≡ None = sym (ap (λ o. first_of o (cond (list_any (λ n. n == x.0) keep) None (Some x.1))) gone ∙ ap (λ b. cond b None (Some x.1)) own) ∙ e in cc
    by None gone true own later = ⊎_elim (λ p. subst (Contains keep) p.0 (is_among keep x.0 own)) (later gone) h

all_left : (keep : List ℕ) (es : List (ℕ × ℕ)) → ((t l : ℕ) → Has es t l → Contains keep t) → least_used keep es ≡ None
all_left keep [] all = refl
all_left keep (x ∷ es) all =
    ap (λ o. first_of o (cond (list_any (λ n. n == x.0) keep) None (Some x.1))) (all_left keep es (λ t l h. all t l (inr h))) ∙ ap (λ b. cond b None (Some x.1)) (among_is keep x.0 (all x.0 x.1 (inl (refl, refl))))

pub none_used : (states : List LineState) (clean : LruCache ℕ ℕ) (held : Index) (lowest : ℕ) (keep : List ℕ) → AreIndexed states clean held lowest → length states ≤ lowest
    → IsNone (least_used keep clean.entries) ↔ ((line : ℕ) → line < length states → IsTaken keep (at states line))
none_used states clean held lowest keep x ge = (λ t line lt. by line lt (none_of (least_used keep clean.entries) t) (at states line) refl, λ all. of_none (least_used keep clean.entries) (all_left keep clean.entries (λ t l h. taken l t h (all l (there states l t (ap segment_of (x.uses.clean t l h)))))))
  where
    none_of : (o : Option ℕ) → IsNone o → o ≡ None
    none_of None t = refl
    none_of (Some n) t = absurd (true≢false t)

    of_none : (o : Option ℕ) → o ≡ None → IsNone o
    of_none None e = refl
    of_none (Some n) e = cc

    taken : (l t : ℕ) → Has clean.entries t l → IsTaken keep (at states l) → Contains keep t
    taken l t h held_by = subst (IsTaken keep) (x.uses.clean t l h) held_by

    by : (line : ℕ) → line < length states → least_used keep clean.entries ≡ None → (s : LineState) → at states line ≡ s → IsTaken keep (at states line)
    by line lt none Empty e = absurd (true≢false (sym (ap is_empty e) ∙ fails_before_first is_empty states line Empty (let all = full states clean held lowest x ge in omega (arith, lt, all))))
    by line lt none (Clean t) e = subst (IsTaken keep) (sym e) (none_left keep clean.entries none t line (x.uses.all t line e))
    by line lt none (Staging t) e = subst (IsTaken keep) (sym e) tt
    by line lt none (Stuck t) e = subst (IsTaken keep) (sym e) tt
    by line lt none Aside e = subst (IsTaken keep) (sym e) tt

-- each stuck line is staging
pub unstuck_indexed : (states : List LineState) (clean : LruCache ℕ ℕ) (held : Index) (lowest : ℕ) → AreIndexed states clean held lowest → AreIndexed (map unstuck states) clean held lowest
unstuck_indexed states clean held lowest x = record {
  few = subst (λ n. n < 2 ^ 32) (sym size) x.few;
  uses = record {
    clean = λ t l h. each l ∙ ap unstuck (x.uses.clean t l h);
    all = λ t l is. x.uses.all t l (was_clean (at states l) t (sym (each l) ∙ is));
    apart = x.uses.apart;
    count = x.uses.count ∙ sym (sums clean_weight same_clean states);
  };
  unbounded = x.unbounded;
  kept = record {
    only = λ t l is. ap held_segment (each l) ∙ same_held (at states l) ∙ x.kept.only t l is;
    all = λ t l is. x.kept.all t l (sym (same_held (at states l)) ∙ sym (ap held_segment (each l)) ∙ is);
    count = x.kept.count ∙ sym (sums held_weight same_weight states);
    room = x.kept.room ∙ sym size;
  };
  single = λ a b t p q. x.single a b t (sym (same_segment (at states a)) ∙ sym (ap segment_of (each a)) ∙ p) (sym (same_segment (at states b)) ∙ sym (ap segment_of (each b)) ∙ q);
  first = x.first ∙ sym (position_or_len_is is_empty (map unstuck states) (position_or_len is_empty states) Empty (let within = first_within states in omega (arith, within, size))
      (λ k lt. ap is_empty (each k) ∙ same_empty (at states k) ∙ fails_before_first is_empty states k Empty lt)
      (λ lt. ap is_empty (each (position_or_len is_empty states)) ∙ same_empty (at states (position_or_len is_empty states)) ∙ passes_at_first is_empty states Empty (omega (arith, lt, size))));
}
  where
    size : length (map unstuck states) ≡ length states
    size = length-map states unstuck

    each : (l : ℕ) → at (map unstuck states) l ≡ unstuck (at states l)
    each l = get_or-map unstuck states l Empty

    was_clean : (s : LineState) (t : ℕ) → unstuck s ≡ Clean t → s ≡ Clean t
    was_clean Empty t e = cc
    was_clean (Clean n) t e = e
    was_clean (Staging n) t e = cc
    was_clean (Stuck n) t e = cc
    was_clean Aside t e = cc

    same_held : (s : LineState) → held_segment (unstuck s) ≡ held_segment s
    same_held Empty = refl
    same_held (Clean n) = refl
    same_held (Staging n) = refl
    same_held (Stuck n) = refl
    same_held Aside = refl

    same_segment : (s : LineState) → segment_of (unstuck s) ≡ segment_of s
    same_segment Empty = refl
    same_segment (Clean n) = refl
    same_segment (Staging n) = refl
    same_segment (Stuck n) = refl
    same_segment Aside = refl

    same_empty : (s : LineState) → is_empty (unstuck s) ≡ is_empty s
    same_empty Empty = refl
    same_empty (Clean n) = refl
    same_empty (Staging n) = refl
    same_empty (Stuck n) = refl
    same_empty Aside = refl

    same_clean : (s : LineState) → clean_weight (unstuck s) ≡ clean_weight s
    same_clean Empty = refl
    same_clean (Clean n) = refl
    same_clean (Staging n) = refl
    same_clean (Stuck n) = refl
    same_clean Aside = refl

    same_weight : (s : LineState) → held_weight (unstuck s) ≡ held_weight s
    same_weight Empty = refl
    same_weight (Clean n) = refl
    same_weight (Staging n) = refl
    same_weight (Stuck n) = refl
    same_weight Aside = refl

    sums : (w : LineState → ℕ) → ((s : LineState) → w (unstuck s) ≡ w s) → (ss : List LineState) → sum_by w (map unstuck ss) ≡ sum_by w ss
    sums w same [] = refl
    sums w same (s ∷ ss) = sum_by-cons w (unstuck s) (map unstuck ss) ∙ (λ i. same s i + sums w same ss i) ∙ sym (sum_by-cons w s ss)

-- a table of empty lines
pub fresh_indexed : (lines : ℕ) → lines < 2 ^ 32 → AreIndexed (replicate lines Empty) (lru_cache [] (2 ^ 64 - 1)) (record { keys = []; numbers = []; room = lines }) 0
fresh_indexed lines few = record {
  few = subst (λ n. n < 2 ^ 32) (sym size) few;
  uses = record {
    clean = λ t l h. absurd h;
    all = λ t l own. let clash : Empty ≡ Clean t = sym (each l) ∙ own in cc;
    apart = tt;
    count = sym (none clean_weight refl lines);
  };
  unbounded = refl;
  kept = record {
    only = λ t l found. cc;
    all = λ t l own. let clash : None ≡ Some t = sym (ap held_segment (each l)) ∙ own in cc;
    count = sym (none held_weight refl lines);
    room = sym size;
  };
  single = λ a b t own other. let clash : None ≡ Some t = sym (ap segment_of (each a)) ∙ own in cc;
  first = sym (position_or_len_is is_empty (replicate lines Empty) 0 Empty (omega arith) (λ k lt. absurd (omega (arith, lt))) (λ lt. ap is_empty (each 0)));
}
  where
    size : length (replicate lines Empty) ≡ lines
    size = length-replicate lines Empty

    each_of : (n l : ℕ) → at (replicate n Empty) l ≡ Empty
    each_of zero l = refl
    each_of (suc n) zero = refl
    each_of (suc n) (suc l) = each_of n l

    each : (l : ℕ) → at (replicate lines Empty) l ≡ Empty
    each l = each_of lines l

    none : (w : LineState → ℕ) → w Empty ≡ 0 → (n : ℕ) → sum_by w (replicate n Empty) ≡ 0
    none w light zero = refl
    none w light (suc n) = sum_by-cons w Empty (replicate n Empty) ∙ (let rest = none w light n in omega (arith, light, rest))

-- a segment has no line exactly where no line holds it
pub none_holds : (states : List LineState) (t : ℕ) → AreSingle states → IsNone (line_with states t) ↔ ((line : ℕ) → segment_of (at states line) ≢ Some t)
none_holds states t single = (λ none line own. some_not (line_with states t) line none (with_line states line t single own), λ never. of_none (line_with states t) (without_line states t never))
  where
    some_not : (o : Option ℕ) (n : ℕ) → IsNone o → o ≡ Some n → ⊥
    some_not None n none e = cc
    some_not (Some m) n none e = true≢false none

    of_none : (o : Option ℕ) → o ≡ None → IsNone o
    of_none None e = refl
    of_none (Some n) e = cc

-- a victim is there, and empty or clean
pub may_empty : (states : List LineState) (clean : LruCache ℕ ℕ) (held : Index) (lowest : ℕ) → AreIndexed states clean held lowest → lowest < length states → (lowest < length states) × MayBeTaken (at states lowest)
may_empty states clean held lowest x lt = (lt, by (at states lowest) (ap (λ n. is_empty (at states n)) x.first ∙ passes_at_first is_empty states Empty (subst (λ n. n < length states) x.first lt)))
  where
    by : (s : LineState) → is_empty s ≡ true → MayBeTaken s
    by Empty e = tt
    by (Clean n) e = cc
    by (Staging n) e = cc
    by (Stuck n) e = cc
    by Aside e = cc

least_has : (keep : List ℕ) (es : List (ℕ × ℕ)) (line : ℕ) → least_used keep es ≡ Some line → (t : ℕ) × Has es t line
least_has keep [] line e = cc
least_has keep (x ∷ es) line e = by (least_used keep es) refl (list_any (λ n. n == x.0) keep) refl (least_has keep es line)
  where
    by : (o : Option ℕ) → least_used keep es ≡ o → (b : Bool) → list_any (λ n. n == x.0) keep ≡ b → (least_used keep es ≡ Some line → (t : ℕ) × Has es t line) → (t : ℕ) × Has (x ∷ es) t line
    by (Some n) some b own later =
        let same : Some n ≡ Some line = sym (ap (λ o. first_of o (cond (list_any (λ n. n == x.0) keep) None (Some x.1))) some) ∙ e in
        let h = later (some ∙ same) in (h.0, inr h.1)
    by None gone false own later =
        let same : Some x.1 ≡ Some line = sym (ap (λ o. first_of o (cond (list_any (λ n. n == x.0) keep) None (Some x.1))) gone ∙ ap (λ b. cond b None (Some x.1)) own) ∙ e in
        let line_is : x.1 ≡ line = cc in (x.0, inl (refl, line_is))
    by None gone true own later =
        let clash : None ≡ Some line = sym (ap (λ o. first_of o (cond (list_any (λ n. n == x.0) keep) None (Some x.1))) gone ∙ ap (λ b. cond b None (Some x.1)) own) ∙ e in cc

pub may_used : (states : List LineState) (clean : LruCache ℕ ℕ) (held : Index) (lowest : ℕ) (keep : List ℕ) → AreIndexed states clean held lowest → IfSome (least_used keep clean.entries) (λ line. (line < length states) × MayBeTaken (at states line))
may_used states clean held lowest keep x = by (least_used keep clean.entries) refl
  where
    by : (o : Option ℕ) → least_used keep clean.entries ≡ o → IfSome o (λ line. (line < length states) × MayBeTaken (at states line))
    by None e = tt
    by (Some line) e =
        let h = least_has keep clean.entries line e in
        let own : at states line ≡ Clean h.0 = x.uses.clean h.0 line h.1 in
        (there states line h.0 (ap segment_of own), subst MayBeTaken (sym own) tt)
