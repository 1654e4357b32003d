-- Entries by their places: one found, put in, renumbered and taken out at its index.
use Rattle.std.proofs.Common.{arith, ◌≡◌, ℕ, zero, suc, ◌<◌, Bool, true, false, ◌&&◌, cond, not, T, List, [], ◌∷◌, length, take, drop, get_or, set, All, Some, None, refl, ap, ◌∙◌, sym, subst}
use Rattle.std.specs.declared.cmp.Ordering.{Ordering}
use Rattle.std.specs.declared.cmp.Ordering.TheVariants.{Less, Equal, Greater}
use Rattle.std.specs.Ordering.{is_eq, is_lt, ordering_reverse}
use Rattle.std.specs.Cmp.{tied_itself}
use Rattle.std.specs.Cmp.Lexicographic.{nat_list_cmp_total}
use Rattle.std.specs.List.{insert, remove}
use Rattle.std.specs.FinMap.Entries.{by_order, below_all, is_sorted}
use Rattle.hl_tree.proofs.NamesBelow.{name_cmp}
use Rattle.hl_dir.specs.declared.entry.Entry.{Entry}
use Rattle.hl_paths.specs.Links.{same_name}
use Rattle.hl_paths.specs.Entries.{entry_number, with_entry, without_entry}
use Rattle.hl_paths.proofs.Links.{name_itself}
use Rattle.hl_paths.proofs.Entries.{rows}

abbrev pub ComesBefore : List ℕ → Entry → Type 0
ComesBefore name e = name_cmp e.name name ≡ Less

abbrev pub ComesAfter : List ℕ → Entry → Type 0
ComesAfter name e = name_cmp name e.name ≡ Less

greater : (one other : List ℕ) → name_cmp one other ≡ Less → name_cmp other one ≡ Greater
greater one other less = nat_list_cmp_total.antisymm other one ∙ ap ordering_reverse less

head_of : (P : Entry → Type 0) (e : Entry) (es : List Entry) → All P (e ∷ es) → P e
head_of P e es all = all zero e (omega arith)

tail_of : (P : Entry → Type 0) (e : Entry) (es : List Entry) → All P (e ∷ es) → All P es
tail_of P e es all k d h = all (suc k) d (omega arith)

left : (a b : Bool) → T (a && b) → T a
left true b p = tt
left false b p = p

right : (a b : Bool) → T (a && b) → T b
right true b p = p
right false b p = absurd p

is_less : (o : Ordering) → T (is_lt o) → o ≡ Less
is_less Less p = refl
is_less Equal p = absurd p
is_less Greater p = absurd p

-- an entry behind others in order comes after each of them
below_at : (name : List ℕ) (es : List Entry) (i : ℕ) (d : Entry) → T (below_all name_cmp name (rows es)) → i < length es → name_cmp name (get_or es i d).name ≡ Less
below_at name [] i d below within = absurd (omega arith)
below_at name (e ∷ es) zero d below within = is_less _ (left (is_lt (name_cmp name e.name)) _ below)
below_at name (e ∷ es) (suc i) d below within = below_at name es i d (right (is_lt (name_cmp name e.name)) _ below) (omega arith)

module _ (name : List ℕ) where
  not_here : (e : Entry) → ComesBefore name e → same_name name e.name ≡ false
  not_here e less = ap is_eq (greater e.name name less)

  not_later : (e : Entry) → ComesAfter name e → same_name name e.name ≡ false
  not_later e less = ap is_eq less

  -- THE NAME ISN'T AMONG THE ENTRIES

  none_after : (es : List Entry) → All (ComesAfter name) es → entry_number es name ≡ None
  none_after [] after = refl
  none_after (e ∷ es) after =
      ap (λ b. cond b (Some e.ino) (entry_number es name)) (not_later e (head_of (ComesAfter name) e es after)) ∙ none_after es (tail_of (ComesAfter name) e es after)

  -- a name that belongs between entries isn't among them
  pub entry_number-gap : (es : List Entry) (i : ℕ) → All (ComesBefore name) (take i es) → All (ComesAfter name) (drop i es) → entry_number es name ≡ None
  entry_number-gap es zero before after = none_after es after
  entry_number-gap [] (suc i) before after = refl
  entry_number-gap (e ∷ es) (suc i) before after =
      ap (λ b. cond b (Some e.ino) (entry_number es name)) (not_here e (head_of (ComesBefore name) e (take i es) before)) ∙ entry_number-gap es i (tail_of (ComesBefore name) e (take i es) before) after

  module _ (ino : ℕ) where
    abbrev entry : Entry
    entry = record { ino = ino; name = name }

    abbrev stepped : Entry → List Entry → Ordering → List Entry
    stepped e es o = by_order o (entry ∷ e ∷ es) ((record { ino = ino; name = e.name }) ∷ es) (e ∷ with_entry name ino es)

    first_after : (es : List Entry) → All (ComesAfter name) es → with_entry name ino es ≡ entry ∷ es
    unfolding with_entry
    first_after [] after = refl
    first_after (e ∷ es) after = let less : name_cmp name e.name ≡ Less = head_of (ComesAfter name) e es after in ap (stepped e es) less

    -- an entry with the name goes there
    pub with_entry-gap : (es : List Entry) (i : ℕ) → All (ComesBefore name) (take i es) → All (ComesAfter name) (drop i es) → with_entry name ino es ≡ insert es i entry
    unfolding with_entry
    with_entry-gap es zero before after = first_after es after
    with_entry-gap [] (suc i) before after = refl
    with_entry-gap (e ∷ es) (suc i) before after =
        let more : name_cmp name e.name ≡ Greater = greater e.name name (head_of (ComesBefore name) e (take i es) before) in
        ap (stepped e es) more ∙ ap (λ rest. e ∷ rest) (with_entry-gap es i (tail_of (ComesBefore name) e (take i es) before) after)

    -- THE NAME IS THAT OF AN ENTRY

    pub with_entry-at : (es : List Entry) (i : ℕ) (d : Entry) → T (is_sorted name_cmp (rows es)) → i < length es → (get_or es i d).name ≡ name → with_entry name ino es ≡ set es i entry
    unfolding with_entry
    with_entry-at [] i d sorted within here = absurd (omega arith)
    with_entry-at (e ∷ es) zero d sorted within here =
        let same : name_cmp name e.name ≡ Equal = ap (name_cmp name) here ∙ tied_itself nat_list_cmp_total name in
        ap (stepped e es) same ∙ ap (λ n. (let x : Entry = record { ino = ino; name = n } in x) ∷ es) here
    with_entry-at (e ∷ es) (suc i) d sorted within here =
        let less : name_cmp e.name name ≡ Less = ap (name_cmp e.name) (sym here) ∙ below_at e.name es i d (left (below_all name_cmp e.name (rows es)) _ sorted) (omega arith) in
        let more : name_cmp name e.name ≡ Greater = greater e.name name less in
        ap (stepped e es) more ∙ ap (λ rest. e ∷ rest) (with_entry-at es i d (right (below_all name_cmp e.name (rows es)) _ sorted) (omega arith) here)

  -- it is found at its index
  pub entry_number-at : (es : List Entry) (i : ℕ) (d : Entry) → T (is_sorted name_cmp (rows es)) → i < length es → (get_or es i d).name ≡ name → entry_number es name ≡ Some (get_or es i d).ino
  entry_number-at [] i d sorted within here = absurd (omega arith)
  entry_number-at (e ∷ es) zero d sorted within here = ap (λ b. cond b (Some e.ino) (entry_number es name)) (ap (same_name name) here ∙ name_itself name)
  entry_number-at (e ∷ es) (suc i) d sorted within here =
      let less : name_cmp e.name name ≡ Less = ap (name_cmp e.name) (sym here) ∙ below_at e.name es i d (left (below_all name_cmp e.name (rows es)) _ sorted) (omega arith) in
      ap (λ b. cond b (Some e.ino) (entry_number es name)) (not_here e less) ∙ entry_number-at es i d (right (below_all name_cmp e.name (rows es)) _ sorted) (omega arith) here

  kept_after : (es : List Entry) → T (below_all name_cmp name (rows es)) → without_entry name es ≡ es
  unfolding without_entry
  kept_after [] below = refl
  kept_after (e ∷ es) below =
      ap (λ b. cond (not b) (e ∷ without_entry name es) (without_entry name es)) (not_later e (is_less _ (left (is_lt (name_cmp name e.name)) _ below)))
      ∙ ap (λ rest. e ∷ rest) (kept_after es (right (is_lt (name_cmp name e.name)) _ below))

  -- and taken out there
  pub without_entry-at : (es : List Entry) (i : ℕ) (d : Entry) → T (is_sorted name_cmp (rows es)) → i < length es → (get_or es i d).name ≡ name → without_entry name es ≡ remove es i
  unfolding without_entry
  without_entry-at [] i d sorted within here = absurd (omega arith)
  without_entry-at (e ∷ es) zero d sorted within here =
      ap (λ b. cond (not b) (e ∷ without_entry name es) (without_entry name es)) (ap (same_name name) here ∙ name_itself name)
      ∙ kept_after es (subst (λ n. T (below_all name_cmp n (rows es))) here (left (below_all name_cmp e.name (rows es)) _ sorted))
  without_entry-at (e ∷ es) (suc i) d sorted within here =
      let less : name_cmp e.name name ≡ Less = ap (name_cmp e.name) (sym here) ∙ below_at e.name es i d (left (below_all name_cmp e.name (rows es)) _ sorted) (omega arith) in
      ap (λ b. cond (not b) (e ∷ without_entry name es) (without_entry name es)) (not_here e less)
      ∙ ap (λ rest. e ∷ rest) (without_entry-at es i d (right (below_all name_cmp e.name (rows es)) _ sorted) (omega arith) here)
