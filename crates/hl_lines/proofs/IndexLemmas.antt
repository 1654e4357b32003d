-- Numbers by rising keys: one that is found, one that is put, one that is taken away.
use Rattle.std.proofs.Common.{◌≡◌, ◌≢◌, ◌⊎◌, inl, inr, ⊎_elim, ℕ, zero, suc, ◌+◌, ◌-◌, ◌<◌, ◌≤◌, ◌==◌, cond, List, [], ◌∷◌, length, get_or, Option, Some, None, Result, Ok, Err, refl, sym, ap, ◌∙◌, arith, eq-eqb, ne_eqb}
use Rattle.std.specs.Prelude.{IsSome}
use Rattle.std.specs.List.{insert, remove}
use Rattle.std.specs.List.Sorted.{IsBinarySearchResult}
use Rattle.std.specs.Ordering.{nat_cmp}
use Rattle.std.proofs.lemmas.Bool.{cases_lt, cases_eq, false≢true}
use Rattle.std.proofs.lemmas.List.Edits.{get_or-insert_at, get_or-insert_below, get_or-insert_above, get_or-remove_below, get_or-remove_above, length-insert, length-remove}
use Rattle.std.proofs.lemmas.List.Sorted.{searched}
use Rattle.hl_lines.specs.Index.{AreRising, Index, IsIndex, IsPlace, Puts, Drops, look_in, look}

-- the key is none of these
abbrev pub IsAbsent : ℕ → List ℕ → Type 0
IsAbsent key keys = (k : ℕ) → k < length keys → get_or keys k 0 ≢ key

rising_tail : (x : ℕ) (xs : List ℕ) → AreRising (x ∷ xs) → AreRising xs
rising_tail x xs up i j lt near = up (suc i) (suc j) (omega arith) (omega arith)

absent_tail : (key x : ℕ) (xs : List ℕ) → IsAbsent key (x ∷ xs) → IsAbsent key xs
absent_tail key x xs never k near = never (suc k) (omega arith)

-- what stands at a key's place is its number
pub found_at : (keys numbers : List ℕ) (key i : ℕ) → AreRising keys → length numbers ≡ length keys → i < length keys → get_or keys i 0 ≡ key → look_in key keys numbers ≡ Some (get_or numbers i 0)
found_at [] numbers key i up each lt is = absurd (omega arith)
found_at (x ∷ xs) [] key i up each lt is = absurd (omega arith)
found_at (x ∷ xs) (n ∷ ns) key zero up each lt is = ap (λ b. cond b (Some n) (look_in key xs ns)) (eq-eqb x key is)
found_at (x ∷ xs) (n ∷ ns) key (suc i) up each lt is =
    let below : x < get_or xs i 0 = up 0 (suc i) (omega arith) lt in
    let other : x ≢ key = λ e. omega (arith, below, is, e) in
    ap (λ b. cond b (Some n) (look_in key xs ns)) (ne_eqb x key other) ∙ found_at xs ns key i (rising_tail x xs up) (omega arith) (omega arith) is

-- a key that isn't there has none
pub found_none : (keys numbers : List ℕ) (key : ℕ) → IsAbsent key keys → look_in key keys numbers ≡ None
found_none [] numbers key never = refl
found_none (x ∷ xs) [] key never = refl
found_none (x ∷ xs) (n ∷ ns) key never = ap (λ b. cond b (Some n) (look_in key xs ns)) (ne_eqb x key (never 0 (omega arith))) ∙ found_none xs ns key (absent_tail key x xs never)

-- a key that has none isn't there
pub absent_by : (keys numbers : List ℕ) (key : ℕ) → AreRising keys → length numbers ≡ length keys → look_in key keys numbers ≡ None → IsAbsent key keys
absent_by keys numbers key up each none k near is = let found = found_at keys numbers key k up each near is in absurd (let clash : Some (get_or numbers k 0) ≡ None = sym found ∙ none in cc)

-- a key is put
pub look-insert : (keys numbers : List ℕ) (i key number other : ℕ) → length numbers ≡ length keys → i ≤ length keys → IsAbsent key keys
    → look_in other (insert keys i key) (insert numbers i number) ≡ cond (key == other) (Some number) (look_in other keys numbers)
look-insert keys numbers zero key number other each le never = refl
look-insert [] numbers (suc i) key number other each le never = absurd (omega arith)
look-insert (x ∷ xs) [] (suc i) key number other each le never = absurd (omega arith)
look-insert (x ∷ xs) (n ∷ ns) (suc i) key number other each le never =
    let apart : x ≢ key = never 0 (omega arith) in
    let later = look-insert xs ns i key number other (omega arith) (omega arith) (absent_tail key x xs never) in
    ⊎_elim
    (λ (e : x ≡ other). let ne : key ≢ other = λ s. apart (e ∙ sym s) in rw (eq-eqb x other e, ne_eqb key other ne) refl)
    (λ (ne : x ≢ other). rw (ne_eqb x other ne) later)
    (cases_eq x other)

-- a key is taken away
pub look-remove : (keys numbers : List ℕ) (i other : ℕ) → length numbers ≡ length keys → i < length keys → AreRising keys
    → look_in other (remove keys i) (remove numbers i) ≡ cond (get_or keys i 0 == other) None (look_in other keys numbers)
look-remove [] numbers i other each lt up = absurd (omega arith)
look-remove (x ∷ xs) [] i other each lt up = absurd (omega arith)
look-remove (x ∷ xs) (n ∷ ns) zero other each lt up = ⊎_elim
    (λ (e : x ≡ other). rw (eq-eqb x other e) (found_none xs ns other (λ k near is. let below : x < get_or xs k 0 = up 0 (suc k) (omega arith) (omega arith) in omega (arith, below, is, e))))
    (λ (ne : x ≢ other). rw (ne_eqb x other ne) refl)
    (cases_eq x other)
look-remove (x ∷ xs) (n ∷ ns) (suc i) other each lt up =
    let below : x < get_or xs i 0 = up 0 (suc i) (omega arith) lt in
    let later = look-remove xs ns i other (omega arith) (omega arith) (rising_tail x xs up) in
    ⊎_elim
    (λ (e : x ≡ other). let ne : get_or xs i 0 ≢ other = λ s. omega (arith, below, s, e) in rw (eq-eqb x other e, ne_eqb (get_or xs i 0) other ne) refl)
    (λ (ne : x ≢ other). rw (ne_eqb x other ne) later)
    (cases_eq x other)

-- what stands where in keys with one more, and in keys with one less
at_insert : (keys : List ℕ) (i key k : ℕ) → i ≤ length keys → ((k < i) × (get_or (insert keys i key) k 0 ≡ get_or keys k 0)) ⊎ (((k ≡ i) × (get_or (insert keys i key) k 0 ≡ key)) ⊎ ((i < k) × (get_or (insert keys i key) k 0 ≡ get_or keys (k - 1) 0)))
at_insert keys i key k le = ⊎_elim (λ lt. inl (lt, get_or-insert_below keys i key 0 k lt le))
    (λ ge. ⊎_elim (λ (e : k ≡ i). inr (inl (e, ap (λ n. get_or (insert keys i key) n 0) e ∙ get_or-insert_at keys i key 0 le)))
    (λ (ne : k ≢ i). let above : i < k = omega arith in let e : k ≡ k - 1 + 1 = omega arith in
    inr (inr (above, ap (λ n. get_or (insert keys i key) n 0) e ∙ get_or-insert_above keys i key 0 (k - 1) (omega arith) le))) (cases_eq k i)) (cases_lt k i)

at_remove : (keys : List ℕ) (i k : ℕ) → i < length keys → ((k < i) × (get_or (remove keys i) k 0 ≡ get_or keys k 0)) ⊎ ((i ≤ k) × (get_or (remove keys i) k 0 ≡ get_or keys (k + 1) 0))
at_remove keys i k lt = ⊎_elim (λ below. inl (below, get_or-remove_below keys i 0 k below lt)) (λ above. inr (above, get_or-remove_above keys i 0 k above lt)) (cases_lt k i)

pub rising-insert : (keys : List ℕ) (i key : ℕ) → AreRising keys → i ≤ length keys → ((k : ℕ) → k < i → get_or keys k 0 < key) → ((k : ℕ) → i ≤ k → k < length keys → key < get_or keys k 0) → AreRising (insert keys i key)
rising-insert keys i key up le low high p q lt near =
    let size = length-insert keys i key le in
    ⊎_elim (λ a. ⊎_elim (λ b. let h : get_or keys p 0 < get_or keys q 0 = up p q lt (omega arith) in omega (arith, h, a.1, b.1))
    (λ y. ⊎_elim (λ b. let h = low p a.0 in omega (arith, h, a.1, b.1)) (λ b. let h : get_or keys p 0 < get_or keys (q - 1) 0 = up p (q - 1) (omega (arith, a.0, b.0)) (omega (arith, b.0)) in omega (arith, h, a.1, b.1)) y) (at_insert keys i key q le))
    (λ x. ⊎_elim (λ a. ⊎_elim (λ b. absurd (omega (arith, a.0, b.0))) (λ y. ⊎_elim (λ b. absurd (omega (arith, a.0, b.0))) (λ b. let h = high (q - 1) (omega (arith, b.0)) (omega (arith, b.0)) in omega (arith, h, a.1, b.1)) y) (at_insert keys i key q le))
    (λ a. ⊎_elim (λ b. absurd (omega (arith, a.0, b.0))) (λ y. ⊎_elim (λ b. absurd (omega (arith, a.0, b.0)))
    (λ b. let h : get_or keys (p - 1) 0 < get_or keys (q - 1) 0 = up (p - 1) (q - 1) (omega (arith, a.0, b.0)) (omega (arith, b.0)) in omega (arith, h, a.1, b.1)) y) (at_insert keys i key q le)) x) (at_insert keys i key p le)

pub rising-remove : (keys : List ℕ) (i : ℕ) → AreRising keys → i < length keys → AreRising (remove keys i)
rising-remove keys i up near p q lt within =
    let size = length-remove keys i near in
    ⊎_elim (λ a. ⊎_elim (λ b. let h : get_or keys p 0 < get_or keys q 0 = up p q lt (omega (arith, b.0)) in omega (arith, h, a.1, b.1)) (λ b. let h : get_or keys p 0 < get_or keys (q + 1) 0 = up p (q + 1) (omega arith) (omega arith) in omega (arith, h, a.1, b.1)) (at_remove keys i q near))
    (λ a. ⊎_elim (λ b. absurd (omega (arith, a.0, b.0))) (λ b. let h : get_or keys (p + 1) 0 < get_or keys (q + 1) 0 = up (p + 1) (q + 1) (omega arith) (omega arith) in omega (arith, h, a.1, b.1)) (at_remove keys i q near)) (at_remove keys i p near)

not_falling : (keys : List ℕ) → AreRising keys → (i j : ℕ) → i ≤ j → j < length keys → get_or keys i 0 ≤ get_or keys j 0
not_falling keys up i j le lt = ⊎_elim (λ below. let s : get_or keys i 0 < get_or keys j 0 = up i j below lt in omega (arith, s)) (λ above. let e : i ≡ j = omega arith in omega (arith, ap (λ n. get_or keys n 0) e)) (cases_lt i j)

-- what halving finds among rising keys
pub halved : (keys : List ℕ) (key : ℕ) (r : Result ℕ ℕ) → AreRising keys → IsBinarySearchResult (λ y. nat_cmp y key) keys r → IsPlace keys key r
halved keys key (Ok i) up h = searched keys key (Ok i) h (not_falling keys up)
halved keys key (Err i) up h = searched keys key (Err i) h (not_falling keys up)

pub absent_here : (keys : List ℕ) (key i : ℕ) → ((k : ℕ) → k < i → get_or keys k 0 < key) → ((k : ℕ) → i ≤ k → k < length keys → key < get_or keys k 0) → IsAbsent key keys
absent_here keys key i low high k near is = ⊎_elim (λ below. let h = low k below in omega (arith, h, is)) (λ above. let h = high k above near in omega (arith, h, is)) (cases_lt k i)

-- a table with a key more, and with a key less
pub puts : (t : Index) (i key number : ℕ) → IsIndex t → look key t ≡ None → length t.keys < t.room → IsPlace t.keys key (Err i)
    → (let new : Index = record { keys = insert t.keys i key; numbers = insert t.numbers i number; room = t.room } in IsIndex new × Puts t key number new)
puts t i key number ok none room place =
    let never = absent_by t.keys t.numbers key ok.rising ok.each none in
    let keys = length-insert t.keys i key place.0 in
    let numbers = length-insert t.numbers i number (omega (arith, ok.each, place.0)) in (
      record { rising = rising-insert t.keys i key ok.rising place.0 place.1 place.2; each = omega (arith, ok.each, keys, numbers); few = omega (arith, keys, room) },
      record { found = λ other. look-insert t.keys t.numbers i key number other ok.each place.0 never; count = omega (arith, keys); room = refl },
    )

pub drops : (t : Index) (i key : ℕ) → IsIndex t → IsPlace t.keys key (Ok i) → (let new : Index = record { keys = remove t.keys i; numbers = remove t.numbers i; room = t.room } in IsIndex new × Drops t key new)
drops t i key ok place =
    let keys = length-remove t.keys i place.0 in
    let numbers = length-remove t.numbers i (omega (arith, ok.each, place.0)) in
    let few = ok.few in (
      record { rising = rising-remove t.keys i ok.rising place.0; each = omega (arith, ok.each, keys, numbers, place.0); few = omega (arith, keys, few) },
      record {
        found = λ other. look-remove t.keys t.numbers i other ok.each place.0 ok.rising ∙ ap (λ n. cond (n == other) None (look other t)) place.1;
        count = omega (arith, keys, place.0);
        room = refl;
      },
    )

-- a key that is found has a number, and one that isn't has none
pub look-found : (t : Index) (key i : ℕ) → IsIndex t → IsPlace t.keys key (Ok i) → look key t ≡ Some (get_or t.numbers i 0)
look-found t key i ok place = found_at t.keys t.numbers key i ok.rising ok.each place.0 place.1

pub look-none : (t : Index) (key i : ℕ) → IsPlace t.keys key (Err i) → look key t ≡ None
look-none t key i place = found_none t.keys t.numbers key (absent_here t.keys key i place.1 place.2)

pub none_some : {A : Type 0} (o : Option A) (x : A) → o ≡ None → o ≡ Some x → ⊥
none_some o x p q = let clash : None ≡ Some x = sym p ∙ q in cc

pub some_none : {A : Type 0} (o : Option A) → IsSome o → o ≡ None → ⊥
some_none None is none = absurd (false≢true is)
some_none (Some x) is none = cc
