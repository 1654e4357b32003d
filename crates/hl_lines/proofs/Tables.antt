-- Each change of a table of lines keeps what stands beside its states.
use Rattle.std.proofs.Common.{◌≡◌, ◌≢◌, ⊎_elim, ℕ, zero, suc, ◌-◌, ◌<◌, ◌≤◌, ◌^◌, true, List, [], ◌∷◌, ◌++◌, length, set, min, sum_by, Option, Some, None, refl, sym, ap, ◌∙◌, subst, arith, nat_eq, length-set}
use Rattle.std.specs.Prelude.{IsSome}
use Rattle.std.specs.List.{position_or_len}
use Rattle.std.proofs.lemmas.Bool.{cases_eq}
use Rattle.std.proofs.lemmas.List.Sums.{sum_by-cons, sum_by-set}
use Rattle.lru.specs.LruCache.{LruCache, lru_cache, put_entries}
use Rattle.hl_lines.specs.Index.{Index, Puts, Drops, look}
use Rattle.hl_lines.specs.Lines.{segment_of, held_segment, is_empty, is_aside, all_but, used}
use Rattle.hl_lines.specs.Indexes.{Has, AreUses, AreHeld, AreSingle, AreIndexed, Forgets, IsFound, clean_weight, held_weight, order_of}
use Rattle.hl_lines.specs.declared.state.LineState.{LineState}
use Rattle.hl_lines.specs.declared.state.LineState.TheVariants.{Empty, Clean, Staging, Stuck, Aside}
use Rattle.hl_lines.proofs.Uses.{order-same, order-left}
use Rattle.hl_lines.proofs.Changes.{at, uses_same, uses_less, uses_more, held_same, held_more, held_less, single_set, put-new, first_same, first_less}

-- what is found is there
pub some_found : (n : ℕ) (o : Option ℕ) → o ≡ Some n → IsSome o
some_found n (Some m) e = refl
some_found n None e = cc

-- a staging or stuck line is found
pub is_found : (states : List LineState) (line : ℕ) (held : Index) → AreHeld states held → IsFound (at states line) held
is_found states line held h = by (at states line) refl
  where
    by : (s : LineState) → at states line ≡ s → IsFound s held
    by Empty is = tt
    by (Clean t) is = tt
    by (Staging t) is = some_found line (look t held) (h.all t line (ap held_segment is))
    by (Stuck t) is = some_found line (look t held) (h.all t line (ap held_segment is))
    by Aside is = tt

-- a line that isn't clean isn't in the order
not_used : (states : List LineState) (line : ℕ) (es : List (ℕ × ℕ)) → AreUses states es → ((t : ℕ) → at states line ≢ Clean t) → (t l : ℕ) → Has es t l → l ≢ line
not_used states line es u was t l h e = was t (ap (at states) (sym e) ∙ u.clean t l h)

-- what a table has once a line is set aside
pub record IsAside (states : List LineState) (clean : LruCache ℕ ℕ) (line : ℕ) (clean' : LruCache ℕ ℕ) (held' : Index) : Type 0 where
  pub uses : AreUses (set states line Aside) clean'.entries
  pub kept : AreHeld (set states line Aside) held'
  pub unbounded : clean'.cap ≡ clean.cap
  pub order : order_of clean'.entries ≡ all_but line (order_of clean.entries)

pub aside : (states : List LineState) (line : ℕ) (clean : LruCache ℕ ℕ) (held : Index) (clean' : LruCache ℕ ℕ) (held' : Index) → line < length states → AreUses states clean.entries → AreHeld states held → Forgets (at states line) clean held clean' held' → IsAside states clean line clean' held'
aside states line clean held clean' held' near u h forgets = by (at states line) refl forgets
  where
    -- it was neither clean nor held
    idle : (s : LineState) → at states line ≡ s → ((t : ℕ) → s ≢ Clean t) → clean_weight s ≡ 0 → held_segment s ≡ None → held_weight s ≡ 0 → clean' ≡ clean → held' ≡ held → IsAside states clean line clean' held'
    idle s is was light none free same_clean same_held =
        let apart : (t : ℕ) → at states line ≢ Clean t = λ t e. was t (sym is ∙ e) in record {
          uses = subst (λ (c : LruCache ℕ ℕ). AreUses (set states line Aside) c.entries) (sym same_clean) (uses_same states line Aside clean.entries near apart (λ t e. cc) (ap clean_weight is ∙ light) refl u);
          kept = subst (λ (i : Index). AreHeld (set states line Aside) i) (sym same_held) (held_same states line Aside held near (sym (ap held_segment is ∙ none)) (sym (ap held_weight is ∙ free)) h);
          unbounded = ap (λ (c : LruCache ℕ ℕ). c.cap) same_clean;
          order = ap (λ (c : LruCache ℕ ℕ). order_of c.entries) same_clean ∙ sym (order-same clean.entries line (not_used states line clean.entries u apart));
        }

    -- it was held
    busy : (s : LineState) (t : ℕ) → at states line ≡ s → ((k : ℕ) → s ≢ Clean k) → clean_weight s ≡ 0 → held_segment s ≡ Some t → held_weight s ≡ 1 → clean' ≡ clean → Drops held t held' → IsAside states clean line clean' held'
    busy s t is was light own one same_clean drops =
        let apart : (k : ℕ) → at states line ≢ Clean k = λ k e. was k (sym is ∙ e) in record {
          uses = subst (λ (c : LruCache ℕ ℕ). AreUses (set states line Aside) c.entries) (sym same_clean) (uses_same states line Aside clean.entries near apart (λ k e. cc) (ap clean_weight is ∙ light) refl u);
          kept = held_less states line t Aside held held' near (ap held_segment is ∙ own) (ap held_weight is ∙ one) refl refl drops h;
          unbounded = ap (λ (c : LruCache ℕ ℕ). c.cap) same_clean;
          order = ap (λ (c : LruCache ℕ ℕ). order_of c.entries) same_clean ∙ sym (order-same clean.entries line (not_used states line clean.entries u apart));
        }

    by : (s : LineState) → at states line ≡ s → Forgets s clean held clean' held' → IsAside states clean line clean' held'
    by Empty is f = idle Empty is (λ t e. cc) refl refl refl f.0 f.1
    by Aside is f = idle Aside is (λ t e. cc) refl refl refl f.0 f.1
    by (Staging t) is f = busy (Staging t) t is (λ k e. cc) refl refl refl f.0 f.1
    by (Stuck t) is f = busy (Stuck t) t is (λ k e. cc) refl refl refl f.0 f.1
    by (Clean t) is f = record {
      uses = subst (λ (c : LruCache ℕ ℕ). AreUses (set states line Aside) c.entries) (sym f.0) (uses_less states line t Aside clean.entries is (λ k e. cc) refl u);
      kept = subst (λ (i : Index). AreHeld (set states line Aside) i) (sym f.1) (held_same states line Aside held near (sym (ap held_segment is)) (sym (ap held_weight is)) h);
      unbounded = ap (λ (c : LruCache ℕ ℕ). c.cap) f.0;
      order = ap (λ (c : LruCache ℕ ℕ). order_of c.entries) f.0 ∙ order-left clean.entries t line u.apart (u.all t line is);
    }

-- where a line holds nothing afterwards, no two lines hold one segment
pub single_none : (states : List LineState) (line : ℕ) (s : LineState) → line < length states → segment_of s ≡ None → AreSingle states → AreSingle (set states line s)
single_none states line s near none single = single_set states line s near (λ t is. let clash : None ≡ Some t = sym none ∙ is in cc) single

pub aside_indexed : (states : List LineState) (line : ℕ) (clean : LruCache ℕ ℕ) (held : Index) (lowest : ℕ) (clean' : LruCache ℕ ℕ) (held' : Index) (lowest' : ℕ) → AreIndexed states clean held lowest → line < length states
    → Forgets (at states line) clean held clean' held' → lowest' ≡ position_or_len is_empty (set states line Aside) → AreIndexed (set states line Aside) clean' held' lowest'
aside_indexed states line clean held lowest clean' held' lowest' t near forgets first =
    let size = length-set states line Aside in
    let a = aside states line clean held clean' held' near t.uses t.kept forgets in record {
      few = subst (λ n. n < 2 ^ 32) (sym size) t.few;
      uses = a.uses;
      unbounded = a.unbounded ∙ t.unbounded;
      kept = a.kept;
      single = single_none states line Aside near refl t.single;
      first = first;
    }

-- a line is not clean, by what it is
not_clean : (states : List LineState) (line : ℕ) (s : LineState) → at states line ≡ s → ((t : ℕ) → s ≢ Clean t) → (t : ℕ) → at states line ≢ Clean t
not_clean states line s is was t e = was t (sym is ∙ e)

-- a segment that no other line holds, and this one doesn't, is no clean line's
pub no_use : (states : List LineState) (line tseg : ℕ) (es : List (ℕ × ℕ)) → AreUses states es → ((t : ℕ) → at states line ≢ Clean t) → ((other : ℕ) → other ≢ line → segment_of (at states other) ≢ Some tseg) → (l : ℕ) → Has es tseg l → ⊥
no_use states line tseg es u was free l h =
    let is : at states l ≡ Clean tseg = u.clean tseg l h in
    ⊎_elim (λ (e : l ≡ line). was tseg (ap (at states) (sym e) ∙ is)) (λ (ne : l ≢ line). free l ne (ap segment_of is)) (cases_eq l line)

-- a clean line's segment is its own
few_uses : (states : List LineState) (es : List (ℕ × ℕ)) → AreUses states es → length states < 2 ^ 32 → length es < 2 ^ 32
few_uses states es u few = let small = sum_below states in omega (arith, u.count, few, small)
  where
    weight_one : (s : LineState) → clean_weight s ≤ 1
    weight_one Empty = omega arith
    weight_one (Clean t) = omega arith
    weight_one (Staging t) = omega arith
    weight_one (Stuck t) = omega arith
    weight_one Aside = omega arith

    sum_below : (ss : List LineState) → sum_by clean_weight ss ≤ length ss
    sum_below [] = omega arith
    sum_below (s ∷ ss) = let h = sum_below ss in let one = weight_one s in let p = sum_by-cons clean_weight s ss in omega arith

-- what the cache of clean lines is once a segment is put
pub put_is : (states : List LineState) (line tseg : ℕ) (clean clean' : LruCache ℕ ℕ) → AreUses states clean.entries → length states < 2 ^ 32 → clean.cap ≡ 2 ^ 64 - 1 → ((l : ℕ) → Has clean.entries tseg l → ⊥)
    → clean' ≡ lru_cache (put_entries nat_eq clean tseg line) clean.cap → clean' ≡ lru_cache ((tseg, line) ∷ clean.entries) clean.cap
put_is states line tseg clean clean' u few cap none is = is ∙ ap (λ es. lru_cache es clean.cap) (put-new clean tseg line cap (few_uses states clean.entries u few) none)

-- a line that was set aside is clean
pub bound_indexed : (states : List LineState) (line tseg : ℕ) (clean clean' : LruCache ℕ ℕ) (held : Index) (lowest : ℕ) → AreIndexed states clean held lowest → line < length states → at states line ≡ Aside
    → ((other : ℕ) → other ≢ line → segment_of (at states other) ≢ Some tseg) → clean' ≡ lru_cache ((tseg, line) ∷ clean.entries) clean.cap → AreIndexed (set states line (Clean tseg)) clean' held lowest
bound_indexed states line tseg clean clean' held lowest t near was free is =
    let apart = not_clean states line Aside was (λ k e. cc) in record {
      few = subst (λ n. n < 2 ^ 32) (sym (length-set states line (Clean tseg))) t.few;
      uses = subst (λ (c : LruCache ℕ ℕ). AreUses (set states line (Clean tseg)) c.entries) (sym is) (uses_more states line tseg clean.entries near apart (ap clean_weight was) (no_use states line tseg clean.entries t.uses apart free) t.uses);
      unbounded = ap (λ (c : LruCache ℕ ℕ). c.cap) is ∙ t.unbounded;
      kept = held_same states line (Clean tseg) held near (sym (ap held_segment was)) (sym (ap held_weight was)) t.kept;
      single = single_set states line (Clean tseg) near (λ k e other ne clash. free other ne (clash ∙ sym e)) t.single;
      first = first_same states line (Clean tseg) lowest near t.first (ap is_empty was) refl;
    }

-- a line that was set aside is staging
pub held_indexed : (states : List LineState) (line tseg : ℕ) (clean : LruCache ℕ ℕ) (held held' : Index) (lowest : ℕ) → AreIndexed states clean held lowest → line < length states → at states line ≡ Aside
    → ((other : ℕ) → other ≢ line → segment_of (at states other) ≢ Some tseg) → look tseg held ≡ None → Puts held tseg line held' → AreIndexed (set states line (Staging tseg)) clean held' lowest
held_indexed states line tseg clean held held' lowest t near was free none puts = record {
  few = subst (λ n. n < 2 ^ 32) (sym (length-set states line (Staging tseg))) t.few;
  uses = uses_same states line (Staging tseg) clean.entries near (not_clean states line Aside was (λ k e. cc)) (λ k e. cc) (ap clean_weight was) refl t.uses;
  unbounded = t.unbounded;
  kept = held_more states line tseg (Staging tseg) held held' near (ap held_segment was) (ap held_weight was) refl refl none puts t.kept;
  single = single_set states line (Staging tseg) near (λ k e other ne clash. free other ne (clash ∙ sym e)) t.single;
  first = first_same states line (Staging tseg) lowest near t.first (ap is_empty was) refl;
}

-- there is room for it, and it isn't there yet
pub none_held : (states : List LineState) (line tseg : ℕ) (held : Index) → AreHeld states held → held_segment (at states line) ≡ None → ((other : ℕ) → other ≢ line → segment_of (at states other) ≢ Some tseg) → look tseg held ≡ None
none_held states line tseg held h was free = by (look tseg held) refl
  where
    none_not : (k : ℕ) → None ≡ Some k → ⊥
    none_not k e = cc

    segment : (s : LineState) (k : ℕ) → held_segment s ≡ Some k → segment_of s ≡ Some k
    segment Empty k e = cc
    segment (Clean t) k e = cc
    segment (Staging t) k e = e
    segment (Stuck t) k e = e
    segment Aside k e = cc

    by : (o : Option ℕ) → look tseg held ≡ o → look tseg held ≡ None
    by None e = e
    by (Some l) e = let is = h.only tseg l e in absurd (⊎_elim
        (λ (same : l ≡ line). let clash : None ≡ Some tseg = sym was ∙ ap (λ n. held_segment (at states n)) (sym same) ∙ is in none_not tseg clash)
        (λ (ne : l ≢ line). free l ne (segment (at states l) tseg is)) (cases_eq l line))

pub room_held : (states : List LineState) (line : ℕ) (held : Index) → AreHeld states held → line < length states → held_weight (at states line) ≡ 0 → length held.keys < held.room
room_held states line held h near zero_was =
    let sum = sum_by-set held_weight states line (Staging 0) Empty near in
    let small = sum_below (set states line (Staging 0)) in
    let size = length-set states line (Staging 0) in
    omega (arith, h.count, h.room, sum, small, size, zero_was)
  where
    weight_one : (s : LineState) → held_weight s ≤ 1
    weight_one Empty = omega arith
    weight_one (Clean t) = omega arith
    weight_one (Staging t) = omega arith
    weight_one (Stuck t) = omega arith
    weight_one Aside = omega arith

    sum_below : (ss : List LineState) → sum_by held_weight ss ≤ length ss
    sum_below [] = omega arith
    sum_below (s ∷ ss) = let h = sum_below ss in let one = weight_one s in let p = sum_by-cons held_weight s ss in omega arith

-- a line that was set aside is empty
pub empty_indexed : (states : List LineState) (line : ℕ) (clean : LruCache ℕ ℕ) (held : Index) (lowest : ℕ) → AreIndexed states clean held lowest → line < length states → at states line ≡ Aside → AreIndexed (set states line Empty) clean held (min lowest line)
empty_indexed states line clean held lowest t near was = record {
  few = subst (λ n. n < 2 ^ 32) (sym (length-set states line Empty)) t.few;
  uses = uses_same states line Empty clean.entries near (not_clean states line Aside was (λ k e. cc)) (λ k e. cc) (ap clean_weight was) refl t.uses;
  unbounded = t.unbounded;
  kept = held_same states line Empty held near (sym (ap held_segment was)) (sym (ap held_weight was)) t.kept;
  single = single_none states line Empty near refl t.single;
  first = first_less states line lowest near t.first;
}

-- no other line holds a line's own segment
pub own_alone : (states : List LineState) (line tseg : ℕ) → AreSingle states → segment_of (at states line) ≡ Some tseg → (other : ℕ) → other ≢ line → segment_of (at states other) ≢ Some tseg
own_alone states line tseg single own other ne is = ne (single other line tseg is own)

-- a staging line is clean
pub homed_indexed : (states : List LineState) (line tseg : ℕ) (clean clean' : LruCache ℕ ℕ) (held held' : Index) (lowest : ℕ) → AreIndexed states clean held lowest → line < length states → at states line ≡ Staging tseg
    → clean' ≡ lru_cache ((tseg, line) ∷ clean.entries) clean.cap → Drops held tseg held' → AreIndexed (set states line (Clean tseg)) clean' held' lowest
homed_indexed states line tseg clean clean' held held' lowest t near was is drops =
    let apart = not_clean states line (Staging tseg) was (λ k e. cc) in
    let free = own_alone states line tseg t.single (ap segment_of was) in record {
      few = subst (λ n. n < 2 ^ 32) (sym (length-set states line (Clean tseg))) t.few;
      uses = subst (λ (c : LruCache ℕ ℕ). AreUses (set states line (Clean tseg)) c.entries) (sym is) (uses_more states line tseg clean.entries near apart (ap clean_weight was) (no_use states line tseg clean.entries t.uses apart free) t.uses);
      unbounded = ap (λ (c : LruCache ℕ ℕ). c.cap) is ∙ t.unbounded;
      kept = held_less states line tseg (Clean tseg) held held' near (ap held_segment was) (ap held_weight was) refl refl drops t.kept;
      single = single_set states line (Clean tseg) near (λ k e other ne clash. free other ne (clash ∙ sym e)) t.single;
      first = first_same states line (Clean tseg) lowest near t.first (ap is_empty was) refl;
    }

-- a staging line is stuck
pub stuck_indexed : (states : List LineState) (line tseg : ℕ) (clean : LruCache ℕ ℕ) (held : Index) (lowest : ℕ) → AreIndexed states clean held lowest → line < length states → at states line ≡ Staging tseg → AreIndexed (set states line (Stuck tseg)) clean held lowest
stuck_indexed states line tseg clean held lowest t near was =
    let free = own_alone states line tseg t.single (ap segment_of was) in record {
      few = subst (λ n. n < 2 ^ 32) (sym (length-set states line (Stuck tseg))) t.few;
      uses = uses_same states line (Stuck tseg) clean.entries near (not_clean states line (Staging tseg) was (λ k e. cc)) (λ k e. cc) (ap clean_weight was) refl t.uses;
      unbounded = t.unbounded;
      kept = held_same states line (Stuck tseg) held near (sym (ap held_segment was)) (sym (ap held_weight was)) t.kept;
      single = single_set states line (Stuck tseg) near (λ k e other ne clash. free other ne (clash ∙ sym e)) t.single;
      first = first_same states line (Stuck tseg) lowest near t.first (ap is_empty was) refl;
    }

-- a state by its name
pub is_aside_state : (s : LineState) → is_aside s ≡ true → s ≡ Aside
is_aside_state Empty e = cc
is_aside_state (Clean t) e = cc
is_aside_state (Staging t) e = cc
is_aside_state (Stuck t) e = cc
is_aside_state Aside e = refl

-- a line that isn't empty is there
pub there_by : (states : List LineState) (line : ℕ) (s : LineState) → at states line ≡ s → s ≢ Empty → line < length states
there_by [] line s is full = absurd (full (sym is))
there_by (x ∷ states) zero s is full = omega arith
there_by (x ∷ states) (suc line) s is full = let near = there_by states line s is full in omega arith

-- a line that isn't clean is the most recently used once its segment goes first
pub order-used : (states : List LineState) (line tseg : ℕ) (es : List (ℕ × ℕ)) → AreUses states es → ((t : ℕ) → at states line ≢ Clean t) → order_of ((tseg, line) ∷ es) ≡ used line (order_of es)
order-used states line tseg es u was = ap (λ o. o ++ line ∷ []) (sym (order-same es line (not_used states line es u was)))
