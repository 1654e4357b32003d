-- The drafts that are left when those that aren't changed go.
use Rattle.std.proofs.Common.{◌≡◌, ◌≢◌, ◌⊎◌, inl, inr, ℕ, zero, suc, ◌+◌, ◌<◌, ◌≤◌, Bool, true, false, cond, List, [], ◌∷◌, length, get_or, slice_get, slice_index, slice_set, Option, Some, None, refl, sym, ◌∙◌, ap, subst, arith}
use Rattle.std.specs.Prelude.{if◌then◌else◌, count_by, nat_le}
use Rattle.std.specs.List.{filter}
use Rattle.std.proofs.lemmas.Bool.{cases_eq, cases_lt}
use Rattle.std.proofs.lemmas.Bool.Decides.{leb_tells}
use Rattle.std.proofs.lemmas.List.{get_or-set_same, get_or-set_other}
use Rattle.std.proofs.lemmas.List.Sums.{count_by-le-length, length-filter}
use Rattle.std.proofs.lemmas.Option.{slice_get_within, slice_get_past, slice_get-get_or}
use Rattle.std.proofs.Math.ListN.{length-set}
use Rattle.hl_overlay.specs.declared.draft.NodeDraft.{NodeDraft}
use Rattle.hl_overlay.specs.Clearing.{HaveOwnNumbers, IsClearedTo, IsPlacedTo}
use Rattle.hl_overlay.specs.Drafting.{is_changed}
use Rattle.hl_overlay.specs.DraftTables.{DraftTable, IsCounted, IsDraftTable, Trims, draft_of, freed_of, others_in}
use Rattle.hl_overlay.proofs.TableLemmas.{some_same}
use Rattle.hl_overlay.proofs.CountLemmas.{freed_changed, freed_length, items_few, others_changed}

none_some : (a : NodeDraft) → None ≡ Some a → ⊥
none_some a e = cc

-- what is left was there, and is changed
pub left_from : (xs : List NodeDraft) (j : ℕ) (d : NodeDraft) → slice_get (filter is_changed xs) j ≡ Some d → (i : ℕ) × (slice_get xs i ≡ Some d) × (d.changed ≡ true)
left_from [] j d at = absurd (none_some d at)
left_from (x ∷ xs) j d at = by (λ k. left_from xs k d) x.changed refl j at
  where
    by : ((k : ℕ) → slice_get (filter is_changed xs) k ≡ Some d → (i : ℕ) × (slice_get xs i ≡ Some d) × (d.changed ≡ true)) → (b : Bool) → x.changed ≡ b → (j : ℕ) → slice_get (filter is_changed (x ∷ xs)) j ≡ Some d
        → (i : ℕ) × (slice_get (x ∷ xs) i ≡ Some d) × (d.changed ≡ true)
    by rest true is zero at' = (let e : x ≡ d = some_same x d (sym (ap (λ (b : Bool). slice_get (cond b (x ∷ filter is_changed xs) (filter is_changed xs)) 0) is) ∙ at') in (0, ap Some e, ap (λ (y : NodeDraft). y.changed) (sym e) ∙ is))
    by rest true is (suc j) at' = (let r = rest j (sym (ap (λ (b : Bool). slice_get (cond b (x ∷ filter is_changed xs) (filter is_changed xs)) (suc j)) is) ∙ at') in (suc r.0, r.1, r.2))
    by rest false is j at' = (let r = rest j (sym (ap (λ (b : Bool). slice_get (cond b (x ∷ filter is_changed xs) (filter is_changed xs)) j) is) ∙ at') in (suc r.0, r.1, r.2))

-- what is changed is left
pub left_to : (xs : List NodeDraft) (i : ℕ) (d : NodeDraft) → slice_get xs i ≡ Some d → d.changed ≡ true → (j : ℕ) × (slice_get (filter is_changed xs) j ≡ Some d)
left_to [] i d at changed = absurd (none_some d at)
left_to (x ∷ xs) zero d at changed =
    let e : x ≡ d = some_same x d at in
    let is : x.changed ≡ true = ap (λ (y : NodeDraft). y.changed) e ∙ changed in
    (0, ap (λ (b : Bool). slice_get (cond b (x ∷ filter is_changed xs) (filter is_changed xs)) 0) is ∙ at)
left_to (x ∷ xs) (suc i) d at changed = (let r = left_to xs i d at changed in by x.changed refl r.0 r.1)
  where
    by : (b : Bool) → x.changed ≡ b → (j : ℕ) → slice_get (filter is_changed xs) j ≡ Some d → (k : ℕ) × (slice_get (filter is_changed (x ∷ xs)) k ≡ Some d)
    by true is j left = (suc j, ap (λ (b : Bool). slice_get (cond b (x ∷ filter is_changed xs) (filter is_changed xs)) (suc j)) is ∙ left)
    by false is j left = (j, ap (λ (b : Bool). slice_get (cond b (x ∷ filter is_changed xs) (filter is_changed xs)) j) is ∙ left)

-- no two that are left have one number
pub left_apart : (xs : List NodeDraft) → HaveOwnNumbers xs → HaveOwnNumbers (filter is_changed xs)
left_apart [] apart = λ j k d e lt at at'. absurd (none_some d at)
left_apart (x ∷ xs) apart = by x.changed refl (left_apart xs (λ j k d e lt at at'. apart (suc j) (suc k) d e (omega arith) at at'))
  where
    first : HaveOwnNumbers (filter is_changed xs) → HaveOwnNumbers (x ∷ filter is_changed xs)
    first rest j zero d e less is is' = absurd (omega arith)
    first rest zero (suc k) d e less is is' = (let l = left_from xs k e is' in apart 0 (suc l.0) d e (omega arith) is l.1)
    first rest (suc j) (suc k) d e less is is' = rest j k d e (omega arith) is is'

    by : (b : Bool) → x.changed ≡ b → HaveOwnNumbers (filter is_changed xs) → HaveOwnNumbers (filter is_changed (x ∷ xs))
    by true is rest = subst (λ (b : Bool). HaveOwnNumbers (cond b (x ∷ filter is_changed xs) (filter is_changed xs))) (sym is) (first rest)
    by false is rest = subst (λ (b : Bool). HaveOwnNumbers (cond b (x ∷ filter is_changed xs) (filter is_changed xs))) (sym is) rest

-- drafts of a table have different numbers
pub items_apart : (t : DraftTable) → IsDraftTable t → HaveOwnNumbers t.items
items_apart t is j k d e lt at at' same =
    let p : slice_index t.places d.ino ≡ j = (is.placed j d at).1 in
    let q : slice_index t.places e.ino ≡ k = (is.placed k e at').1 in
    let here : j ≡ k = sym p ∙ ap (slice_index t.places) same ∙ q in absurd (omega arith)

-- one more draft stands at its place
pub placed_one : (k : ℕ) (items : List NodeDraft) (old places new : List ℕ) (d : NodeDraft) → IsPlacedTo k items old places → HaveOwnNumbers items → slice_get items k ≡ Some d → d.ino < length places → new ≡ slice_set places d.ino k
    → IsPlacedTo (k + 1) items old new
placed_one k items old places new d placed apart at low is = record {
  count = ap length is ∙ length-set places d.ino k ∙ placed.count;
  before = λ j e lt at'. elim (cases_lt j k) [
    | inl less ↦ at_other e.ino (λ same. apart j k e d less at' at same) ∙ placed.before j e less at'
    | inr ge ↦ (
        let here : j ≡ k = omega arith in
        let e_is : e ≡ d = some_same e d (sym at' ∙ ap (slice_get items) here ∙ at) in
        ap (slice_index new) (ap (λ (x : NodeDraft). x.ino) e_is) ∙ ap (λ (l : List ℕ). slice_index l d.ino) is ∙ get_or-set_same places d.ino k 0 low ∙ sym here)
  ];
  others = λ q none. at_other q (λ same. none k d at (sym same)) ∙ placed.others q none;
}
  where
    at_other : (q : ℕ) → q ≢ d.ino → slice_index new q ≡ slice_index places q
    at_other q ne = ap (λ (l : List ℕ). slice_index l q) is ∙ get_or-set_other places d.ino q k 0 ne

-- a draft has the number, or none has
by_number : (xs : List NodeDraft) (q : ℕ) → ((k : ℕ) × (d : NodeDraft) × (slice_get xs k ≡ Some d) × (d.ino ≡ q)) ⊎ ((k : ℕ) (d : NodeDraft) → slice_get xs k ≡ Some d → d.ino ≢ q)
by_number [] q = inr (λ k d at. absurd (none_some d at))
by_number (x ∷ xs) q = elim (cases_eq x.ino q) [
  | inl same ↦ inl (0, x, refl, same)
  | inr ne ↦ elim (by_number xs q) [
    | inl (k, d, at, same) ↦ inl (suc k, d, at, same)
    | inr none ↦ inr (λ k d at. first ne none k d at)
  ]
]
  where
    first : x.ino ≢ q → ((k : ℕ) (d : NodeDraft) → slice_get xs k ≡ Some d → d.ino ≢ q) → (k : ℕ) (d : NodeDraft) → slice_get (x ∷ xs) k ≡ Some d → d.ino ≢ q
    first ne none zero d at = subst (λ (y : NodeDraft). y.ino ≢ q) (some_same x d at) ne
    first ne none (suc k) d at = none k d at

module _ (t new : DraftTable) (mid : List ℕ) (is : IsDraftTable t) (left : new.items ≡ filter is_changed t.items) (cleared : IsClearedTo (length t.items) t.items t.places mid) (placed : IsPlacedTo (length new.items) new.items mid new.places) where
  numbers : length new.places ≡ length t.places
  numbers = placed.count ∙ cleared.count

  from : (k : ℕ) (d : NodeDraft) → slice_get new.items k ≡ Some d → (i : ℕ) × (slice_get t.items i ≡ Some d) × (d.changed ≡ true)
  from k d at = left_from t.items k d (ap (λ (l : List NodeDraft). slice_get l k) (sym left) ∙ at)

  stands : (k : ℕ) (d : NodeDraft) → slice_get new.items k ≡ Some d → slice_index new.places d.ino ≡ k
  stands k d at = placed.before k d (slice_get_within new.items k d at) at

  -- each number stood nowhere in between
  gone : (q : ℕ) → q < length t.places → slice_index mid q ≡ 18446744073709551615
  gone q lt = by (draft_of t q) refl
    where
      by : (o : Option NodeDraft) → draft_of t q ≡ o → slice_index mid q ≡ 18446744073709551615
      by None at = cleared.nowhere q (is.nowhere q lt at)
      by (Some d) at = ap (slice_index mid) (sym (is.own q d lt at)) ∙ cleared.before (slice_index t.places q) d (slice_get_within t.items (slice_index t.places q) d at) at

  few : length new.items ≤ 2048
  few =
      let len : length new.items ≡ count_by is_changed t.items = ap length left ∙ length-filter is_changed t.items in
      let most = count_by-le-length is_changed t.items in
      let all = items_few t is in
      let numbers' = is.few in omega arith

  nothing : (q : ℕ) → q < length t.places → ((k : ℕ) (d : NodeDraft) → slice_get new.items k ≡ Some d → d.ino ≢ q) → (slice_index new.places q ≡ 18446744073709551615) × (draft_of new q ≡ None)
  nothing q lt none =
      let at : slice_index new.places q ≡ 18446744073709551615 = placed.others q none ∙ gone q lt in
      let few' = few in
      (at, ap (slice_get new.items) at ∙ slice_get_past new.items 18446744073709551615 (omega arith))

  own : (q : ℕ) (d : NodeDraft) → q < length t.places → draft_of new q ≡ Some d → d.ino ≡ q
  own q d lt at = elim (by_number new.items q) [
    | inl (k, e, is_e, same) ↦ (
        let e_is : e ≡ d = some_same e d (sym is_e ∙ ap (slice_get new.items) (sym (stands k e is_e) ∙ ap (slice_index new.places) same) ∙ at) in
        ap (λ (x : NodeDraft). x.ino) (sym e_is) ∙ same)
    | inr none ↦ absurd (none_some d (sym (nothing q lt none).1 ∙ at))
  ]

  -- the table of those that are left
  pub trimmed_table : IsDraftTable new
  trimmed_table = record {
    few = subst (λ n. n ≤ 2048) (sym numbers) is.few;
    placed = λ k d at. (let f = from k d at in (subst (λ n. d.ino < n) (sym numbers) (is.placed f.0 d f.1).0, stands k d at));
    own = λ q d lt at. own q d (subst (λ n. q < n) numbers lt) at;
    nowhere = λ q lt at. elim (by_number new.items q) [
      | inl (k, e, is_e, same) ↦ absurd (none_some e (sym at ∙ ap (slice_get new.items) (ap (slice_index new.places) (sym same) ∙ stands k e is_e) ∙ is_e))
      | inr none ↦ (nothing q (subst (λ n. q < n) numbers lt) none).0
    ];
    drafts = λ k d at. (let f = from k d at in is.drafts f.0 d f.1);
  }

  pub trims : (most : ℕ) → most < length t.items → Trims most t new
  trims most many = record {
    left = left ∙ sym (ap (λ (b : Bool). if b then t.items else filter is_changed t.items) over);
    numbers = numbers;
    changed = λ q d lt at changed. (
        let r = left_to t.items (slice_index t.places q) d at changed in
        let there : slice_get new.items r.0 ≡ Some d = ap (λ (l : List NodeDraft). slice_get l r.0) left ∙ r.1 in
        ap (slice_get new.items) (ap (slice_index new.places) (sym (is.own q d lt at)) ∙ stands r.0 d there) ∙ there);
    only = λ q d lt at. (
        let f = from (slice_index new.places q) d at in
        ap (slice_get t.items) (ap (slice_index t.places) (sym (own q d lt at)) ∙ (is.placed f.0 d f.1).1) ∙ f.1);
    others = ap others_in left ∙ others_changed t.items;
    freed = ap freed_of left ∙ freed_changed t.items;
  }
    where
      over : nat_le (length t.items) most ≡ false
      over = elim (leb_tells (length t.items) most) [ inl s ↦ absurd (let h = s.1 in omega arith) | inr s ↦ s.0 ]

-- where few are held nothing changes
pub trims_none : (most : ℕ) (t : DraftTable) → length t.items ≤ most → Trims most t t
trims_none most t held = record {
  left = sym (ap (λ (b : Bool). if b then t.items else filter is_changed t.items) (within (length t.items) held));
  numbers = refl;
  changed = λ q d lt at changed. at;
  only = λ q d lt at. at;
  others = refl;
  freed = refl;
}
  where
    within : (n : ℕ) → n ≤ most → nat_le n most ≡ true
    within n le = elim (leb_tells n most) [ inl s ↦ s.0 | inr s ↦ absurd (let h = s.1 in omega arith) ]

-- the numbers of a table's drafts are below those that it has places for
pub numbers_in : (t : DraftTable) (xs : List NodeDraft) → IsDraftTable t → xs ≡ t.items → (k : ℕ) (d : NodeDraft) → k < length xs → (get_or xs k d).ino < length t.places
numbers_in t xs is same k d lt = (is.placed k (get_or xs k d) (ap (λ (l : List NodeDraft). slice_get l k) (sym same) ∙ slice_get-get_or xs k d lt)).0

-- and so are those of the ones that are left
pub numbers_left : (t : DraftTable) (ys : List NodeDraft) (mid : List ℕ) → IsDraftTable t → ys ≡ filter is_changed t.items → length mid ≡ length t.places → (k : ℕ) (d : NodeDraft) → k < length ys → (get_or ys k d).ino < length mid
numbers_left t ys mid is left count k d lt =
    let l = left_from t.items k (get_or ys k d) (ap (λ (l : List NodeDraft). slice_get l k) (sym left) ∙ slice_get-get_or ys k d lt) in
    subst (λ n. (get_or ys k d).ino < n) (sym count) (is.placed l.0 (get_or ys k d) l.1).0

-- the same of a table that was opened, with its counts
pub trimmed_in : (t self new : DraftTable) (others freed most : ℕ) (mid : List ℕ) (xs ys : List NodeDraft) → t ≡ self → IsCounted t others freed → xs ≡ t.items → ys ≡ new.items → new.items ≡ filter is_changed t.items
    → IsClearedTo (length xs) xs t.places mid → IsPlacedTo (length ys) ys mid new.places → most < length xs → IsCounted new others freed × Trims most self new
trimmed_in t self new others freed most mid xs ys view_is counted xs_are ys_are left cleared placed many = (
  record {
    table = trimmed_table t new mid counted.table left cleared' placed';
    others_are = counted.others_are ∙ sym (ap others_in left ∙ others_changed t.items);
    freed_are = counted.freed_are ∙ freed_length t.items ∙ sym (freed_length new.items ∙ ap (λ (ds : List NodeDraft). length (freed_of ds)) left ∙ ap length (freed_changed t.items));
  },
  subst (λ (x : DraftTable). Trims most x new) view_is (trims t new mid counted.table left cleared' placed' most (subst (λ (l : List NodeDraft). most < length l) xs_are many)),
)
  where
    cleared' : IsClearedTo (length t.items) t.items t.places mid
    cleared' = subst (λ (l : List NodeDraft). IsClearedTo (length l) l t.places mid) xs_are cleared

    placed' : IsPlacedTo (length new.items) new.items mid new.places
    placed' = subst (λ (l : List NodeDraft). IsPlacedTo (length l) l mid new.places) ys_are placed
