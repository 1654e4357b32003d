-- Entries with one more, and with one less.
use Rattle.std.proofs.Common.{arith, ◌≡◌, ℕ, zero, suc, ◌+◌, ◌<◌, ◌^◌, Bool, true, false, ◌&&◌, cond, not, T, List, [], ◌∷◌, map, get_or, Option, Some, None, refl, ap, ◌∙◌, sym, subst}
use Rattle.std.specs.List.{AllByRecursion}
use Rattle.std.specs.declared.cmp.Ordering.{Ordering}
use Rattle.std.specs.declared.cmp.Ordering.TheVariants.{Less, Equal, Greater}
use Rattle.std.specs.Ordering.{is_lt}
use Rattle.std.specs.Cmp.{eq_by_cmp_equiv}
use Rattle.std.specs.Cmp.Lexicographic.{nat_list_cmp_total}
use Rattle.std.specs.FinMap.Entries.{by_order, find, put, where_key, below_all, is_sorted, is_sorted-put, is_sorted-where_key, find-put, find-where_key}
use Rattle.hl_tree.proofs.NamesBelow.{name_cmp, name_exact}
use Rattle.hl_dir.specs.declared.entry.Entry.{Entry}
use Rattle.hl_dir.specs.Dirs.{IsName, AreNames, IsBefore, AreOrdered, HasRoom, AreEntries}
use Rattle.hl_paths.specs.Links.{same_name}
use Rattle.hl_paths.specs.Entries.{entry_number, with_entry, without_entry, AreWith}

-- entries as the rows of a map
abbrev pub rows : List Entry → List (List ℕ × ℕ)
rows es = map (λ e. (e.name, e.ino)) es

pub entry_number-rows : (es : List Entry) (name : List ℕ) → entry_number es name ≡ find name_cmp name (rows es)
entry_number-rows [] name = refl
entry_number-rows (e ∷ es) name = ap (cond (same_name name e.name) (Some e.ino)) (entry_number-rows es name)

both : (a b : Bool) → T a → T b → T (a && b)
both true b p q = q
both false b p q = p

first : (a b : Bool) → T (a && b) → T a
first true b p = tt
first false b p = p

second : (a b : Bool) → T (a && b) → T b
second true b p = p
second false b p = absurd p

is_less : (o : Ordering) → T (is_lt o) → o ≡ Less
is_less Less p = refl
is_less Equal p = absurd p
is_less Greater p = absurd p

less_is : (o : Ordering) → o ≡ Less → T (is_lt o)
less_is o e = subst (λ o. T (is_lt o)) (sym e) tt

-- ORDER, BY INDEX AND ROW BY ROW

below_through : (x y : List ℕ) (es : List (List ℕ × ℕ)) → name_cmp x y ≡ Less → T (below_all name_cmp y es) → T (below_all name_cmp x es)
below_through x y [] less h = tt
below_through x y (e ∷ es) less h = both _ _
    (less_is _ (nat_list_cmp_total.trans x y e.0 less (is_less _ (first (is_lt (name_cmp y e.0)) _ h))))
    (below_through x y es less (second (is_lt (name_cmp y e.0)) _ h))

tail_ordered : (e : Entry) (es : List Entry) → AreOrdered (e ∷ es) → AreOrdered es
tail_ordered e es ordered k within d =
    let next : suc k + 1 ≡ suc (k + 1) = omega arith in
    subst (λ n. IsBefore (get_or es k d).name (get_or (e ∷ es) n d).name) next (ordered (suc k) (omega arith) d)

pub sorted_rows : (es : List Entry) → AreOrdered es → T (is_sorted name_cmp (rows es))
sorted_rows [] ordered = tt
sorted_rows (e ∷ []) ordered = tt
sorted_rows (e ∷ f ∷ es) ordered =
    let rest : T (is_sorted name_cmp (rows (f ∷ es))) = sorted_rows (f ∷ es) (tail_ordered e (f ∷ es) ordered) in
    let less : name_cmp e.name f.name ≡ Less = ordered 0 (omega arith) e in
    both _ _ (both _ _ (less_is _ less) (below_through e.name f.name (rows es) less (first (below_all name_cmp f.name (rows es)) _ rest))) rest

pub rows_sorted : (es : List Entry) → T (is_sorted name_cmp (rows es)) → AreOrdered es
rows_sorted [] sorted k within d = absurd (omega arith)
rows_sorted (e ∷ []) sorted k within d = absurd (omega arith)
rows_sorted (e ∷ f ∷ es) sorted zero within d = is_less _ (first (is_lt (name_cmp e.name f.name)) _ (first (below_all name_cmp e.name (rows (f ∷ es))) _ sorted))
rows_sorted (e ∷ f ∷ es) sorted (suc k) within d =
    let next : suc (k + 1) ≡ suc k + 1 = omega arith in
    subst (λ n. IsBefore (get_or (f ∷ es) k d).name (get_or (e ∷ f ∷ es) n d).name) next (rows_sorted (f ∷ es) (second (below_all name_cmp e.name (rows (f ∷ es))) _ sorted) k (omega arith) d)

-- NAMES, BY INDEX AND ENTRY BY ENTRY

pub each_name : (es : List Entry) → AreNames es → AllByRecursion (λ e. IsName e.name) es
each_name [] names = tt
each_name (e ∷ es) names = (names 0 (omega arith) e, each_name es (λ k within d. names (suc k) (omega arith) d))

pub names_each : (es : List Entry) → AllByRecursion (λ e. IsName e.name) es → AreNames es
names_each [] each k within d = absurd (omega arith)
names_each (e ∷ es) each zero within d = each.0
names_each (e ∷ es) each (suc k) within d = names_each es each.1 k (omega arith) d

-- ONE MORE

module _ (name : List ℕ) (ino : ℕ) where
  each-with : (P : Entry → Type 0) → ((e : Entry) → P e → P (record { ino = ino; name = e.name })) → P (record { ino = ino; name = name }) → (es : List Entry) → AllByRecursion P es → AllByRecursion P (with_entry name ino es)
  unfolding with_entry
  each-with P renumbered new [] each = (new, tt)
  each-with P renumbered new (e ∷ es) each = elim (name_cmp name e.name) as (λ o. AllByRecursion P (by_order o ((record { ino = ino; name = name }) ∷ e ∷ es) ((record { ino = ino; name = e.name }) ∷ es) (e ∷ with_entry name ino es))) [
    | Less ↦ (new, each)
    | Equal ↦ (renumbered e each.0, each.1)
    | Greater ↦ (each.0, each-with P renumbered new es each.1)
  ]

  rows-with : (es : List Entry) → rows (with_entry name ino es) ≡ put name_cmp name ino (rows es)
  unfolding with_entry
  rows-with [] = refl
  rows-with (e ∷ es) = elim (name_cmp name e.name) as (λ o. rows (by_order o ((record { ino = ino; name = name }) ∷ e ∷ es) ((record { ino = ino; name = e.name }) ∷ es) (e ∷ with_entry name ino es)) ≡ by_order o ((name, ino) ∷ (e.name, e.ino) ∷ rows es) ((e.name, ino) ∷ rows es) ((e.name, e.ino) ∷ put name_cmp name ino (rows es))) [
    | Less ↦ refl
    | Equal ↦ refl
    | Greater ↦ ap (λ rest. (e.name, e.ino) ∷ rest) (rows-with es)
  ]

  pub AreWith-with_entry : (es : List Entry) → AreEntries es → IsName name → ino < 2 ^ 32 → AreWith es name (Some ino) (with_entry name ino es)
  AreWith-with_entry es are is fits = record {
    entries = (
      each-with HasRoom (λ e room. (fits, room.1)) (fits, let short = is.short in omega arith) es are.0,
      (
        names_each (with_entry name ino es) (each-with (λ e. IsName e.name) (λ e named. named) is es (each_name es are.1.0)),
        rows_sorted (with_entry name ino es) (subst (λ r. T (is_sorted name_cmp r)) (sym (rows-with es)) (is_sorted-put name_cmp nat_list_cmp_total name ino (rows es) (sorted_rows es are.1.1))),
      ),
    );
    numbers = λ named.
        entry_number-rows (with_entry name ino es) named
        ∙ ap (find name_cmp named) (rows-with es)
        ∙ find-put name_cmp nat_list_cmp_total named name ino (rows es)
        ∙ ap (cond (same_name named name) (Some ino)) (sym (entry_number-rows es named));
  }

-- ONE LESS

module _ (name : List ℕ) where
  each-without : (P : Entry → Type 0) (es : List Entry) → AllByRecursion P es → AllByRecursion P (without_entry name es)
  unfolding without_entry
  each-without P [] each = tt
  each-without P (e ∷ es) each = elim (not (same_name name e.name)) as (λ b. AllByRecursion P (cond b (e ∷ without_entry name es) (without_entry name es))) [
    | true ↦ (each.0, each-without P es each.1)
    | false ↦ each-without P es each.1
  ]

  abbrev other_name : List ℕ → Bool
  other_name named = not (same_name name named)

  rows-without : (es : List Entry) → rows (without_entry name es) ≡ where_key name_cmp other_name (rows es)
  unfolding without_entry
  rows-without [] = refl
  rows-without (e ∷ es) = elim (other_name e.name) as (λ b. rows (cond b (e ∷ without_entry name es) (without_entry name es)) ≡ cond b ((e.name, e.ino) ∷ where_key name_cmp other_name (rows es)) (where_key name_cmp other_name (rows es))) [
    | true ↦ ap (λ rest. (e.name, e.ino) ∷ rest) (rows-without es)
    | false ↦ rows-without es
  ]

  turned : (b c : Bool) (o : Option ℕ) → b ≡ c → cond (not b) o None ≡ cond c None o
  turned true c o e = ap (λ x. cond x None o) e
  turned false c o e = ap (λ x. cond x None o) e

  pub AreWith-without_entry : (es : List Entry) → AreEntries es → AreWith es name None (without_entry name es)
  AreWith-without_entry es are = record {
    entries = (
      each-without HasRoom es are.0,
      (
        names_each (without_entry name es) (each-without (λ e. IsName e.name) es (each_name es are.1.0)),
        rows_sorted (without_entry name es) (subst (λ r. T (is_sorted name_cmp r)) (sym (rows-without es)) (is_sorted-where_key name_cmp other_name (rows es) (sorted_rows es are.1.1))),
      ),
    );
    numbers = λ named.
        entry_number-rows (without_entry name es) named
        ∙ ap (find name_cmp named) (rows-without es)
        ∙ find-where_key name_cmp other_name named (λ x e. ap other_name (sym (name_exact named x e))) (rows es)
        ∙ ap (λ o. cond (other_name named) o None) (sym (entry_number-rows es named))
        ∙ turned (same_name name named) (same_name named name) (entry_number es named) ((eq_by_cmp_equiv nat_list_cmp_total).symm name named);
  }

pub AreEntries-none : AreEntries []
AreEntries-none = (tt, ((λ k within d. absurd (omega arith)), (λ k within d. absurd (omega arith))))
