-- One draft changes, and all others stay.
use Rattle.std.proofs.Common.{Bor, ◌≡◌, ◌≢◌, ◌⊎◌, inl, inr, ℕ, ◌+◌, ◌<◌, ◌≤◌, ◌^◌, Bool, true, List, [], ◌∷◌, ◌++◌, length, length-append, get_or, slice_get, slice_index, slice_set, Option, Some, None, refl, sym, ◌∙◌, ap, subst, arith}
use Rattle.std.specs.Option.{ForSome}
use Rattle.std.specs.Prelude.{IfSome, is_some, nat_lt}
use Rattle.std.specs.Prelude.{if◌then◌else◌}
use Rattle.std.proofs.lemmas.Bool.{cases_eq, cases_lt}
use Rattle.std.proofs.lemmas.Bool.Decides.{leb_tells}
use borrow.Author.Tests.{ltb-true}
use Rattle.hl_placed.specs.Blocks.{blocks_of}
use Rattle.std.proofs.lemmas.List.{get_or-set_same, get_or-set_other, get_or_append_left, get_or_past}
use Rattle.std.proofs.lemmas.Option.{slice_get_past, slice_get_within, slice_get-get_or, get_or_from_slice_get, slice_get_read}
use Rattle.std.proofs.lemmas.Grind.{get_or_default_zero}
use Rattle.std.proofs.Math.ListN.{length-set}
use Rattle.std.proofs.Math.Seq.{get_or-append_seam}
use Rattle.hl_overlay.specs.declared.pointers.Pointer.{Pointer}
use Rattle.hl_overlay.specs.declared.pointers.Pointer.TheVariants.{Hole}
use Rattle.hl_overlay.specs.declared.draft.NodeDraft.{NodeDraft}
use Rattle.hl_overlay.specs.declared.draft.Shape.{Shape}
use Rattle.hl_overlay.specs.Pointing.{AreHoles, IsAddressed, IsUnwritten, where_is}
use Rattle.hl_overlay.specs.Drafting.{IsDraft, blocks_of_shape, with_pointer, with_shape}
use Rattle.hl_overlay.specs.Clearing.{IsClearedTo}
use Rattle.hl_overlay.specs.DraftTables.{DraftTable, IsDraftTable, Redrafts, draft_of}

module _ {X : Type 0} where
  pub slice_get-set_same : (xs : List X) (i : ℕ) (a : X) → i < length xs → slice_get (slice_set xs i a) i ≡ Some a
  slice_get-set_same xs i a lt = slice_get-get_or (slice_set xs i a) i a (rw length-set lt) ∙ ap Some (get_or-set_same xs i a a lt)

  pub slice_get-set_other : (xs : List X) (i j : ℕ) (a : X) → j ≢ i → slice_get (slice_set xs i a) j ≡ slice_get xs j
  slice_get-set_other xs i j a ne = elim (cases_lt j (length xs)) [
    | inl lt ↦ slice_get-get_or (slice_set xs i a) j a (rw length-set lt) ∙ ap Some (get_or-set_other xs i j a a ne) ∙ sym (slice_get-get_or xs j a lt)
    | inr ge ↦ slice_get_past (slice_set xs i a) j (rw length-set ge) ∙ sym (slice_get_past xs j ge)
  ]

  pub slice_get-append_left : (xs : List X) (y : X) (j : ℕ) → j < length xs → slice_get (xs ++ y ∷ []) j ≡ slice_get xs j
  slice_get-append_left xs y j lt = slice_get-get_or (xs ++ y ∷ []) j y (rw length-append (omega arith)) ∙ ap Some (get_or_append_left xs (y ∷ []) y j lt) ∙ sym (slice_get-get_or xs j y lt)

  pub slice_get-append_end : (xs : List X) (y : X) → slice_get (xs ++ y ∷ []) (length xs) ≡ Some y
  slice_get-append_end xs y = slice_get-get_or (xs ++ y ∷ []) (length xs) y (rw length-append (omega arith)) ∙ ap Some (get_or-append_seam xs y [] y)

pub some_same : (a b : NodeDraft) → Some a ≡ Some b → a ≡ b
some_same a b e = cc

none_some : (a : NodeDraft) → None ≡ Some a → ⊥
none_some a e = cc

-- the draft of a number changes where it stands
pub redrafted : (t new : DraftTable) (ino : ℕ) (d d' : NodeDraft) → IsDraftTable t → ino < length t.places → draft_of t ino ≡ Some d → d'.ino ≡ d.ino → IsDraft d'
    → new ≡ record { items = slice_set t.items (slice_index t.places ino) d'; places = t.places } → IsDraftTable new × Redrafts t new ino d'
redrafted t new ino d d' is low at same draft new_is = (subst IsDraftTable (sym new_is) table, subst (λ n. Redrafts t n ino d') (sym new_is) redraft)
  where
    k : ℕ
    k = slice_index t.places ino

    within : slice_index t.places ino < length t.items
    within = slice_get_within t.items (slice_index t.places ino) d at

    now : DraftTable
    now = record { items = slice_set t.items (slice_index t.places ino) d'; places = t.places }

    apart : (q : ℕ) → q < length t.places → q ≢ ino → slice_index t.places q ≢ slice_index t.places ino
    apart q lt ne e = ne (sym (is.own q d lt (ap (slice_get t.items) e ∙ at)) ∙ is.own ino d low at)

    redraft : Redrafts t (record { items = slice_set t.items (slice_index t.places ino) d'; places = t.places }) ino d'
    redraft = record {
      drafted = slice_get-set_same t.items (slice_index t.places ino) d' within;
      others = λ q lt ne. slice_get-set_other t.items (slice_index t.places ino) (slice_index t.places q) d' (apart q lt ne);
      numbers = refl;
    }

    at_place : (e : NodeDraft) → slice_get (slice_set t.items (slice_index t.places ino) d') (slice_index t.places ino) ≡ Some e → e ≡ d'
    at_place e is_e = some_same e d' (sym is_e ∙ slice_get-set_same t.items (slice_index t.places ino) d' within)

    same_ino : d'.ino ≡ ino
    same_ino = same ∙ is.own ino d low at

    table : IsDraftTable (record { items = slice_set t.items (slice_index t.places ino) d'; places = t.places })
    table = record {
      few = is.few;
      placed = λ j e is_e. elim (cases_eq j (slice_index t.places ino)) [
        | inl here ↦ (
            let e_is : e ≡ d' = at_place e (ap (slice_get (slice_set t.items (slice_index t.places ino) d')) (sym here) ∙ is_e) in
            let e_ino : e.ino ≡ ino = ap (λ (x : NodeDraft). x.ino) e_is ∙ same_ino in
            (subst (λ n. n < length t.places) (sym e_ino) low, ap (slice_index t.places) e_ino ∙ sym here))
        | inr ne ↦ is.placed j e (sym (slice_get-set_other t.items (slice_index t.places ino) j d' ne) ∙ is_e)
      ];
      own = λ q e lt is_e. elim (cases_eq q ino) [
        | inl here ↦ (let e_is : e ≡ d' = at_place e (ap (λ n. slice_get (slice_set t.items (slice_index t.places ino) d') (slice_index t.places n)) (sym here) ∙ is_e) in ap (λ (x : NodeDraft). x.ino) e_is ∙ same_ino ∙ sym here)
        | inr ne ↦ is.own q e lt (sym (redraft.others q lt ne) ∙ is_e)
      ];
      nowhere = λ q lt none. elim (cases_eq q ino) [
        | inl here ↦ absurd (none_some d' (sym none ∙ ap (λ n. slice_get (slice_set t.items (slice_index t.places ino) d') (slice_index t.places n)) here ∙ redraft.drafted))
        | inr ne ↦ is.nowhere q lt (sym (redraft.others q lt ne) ∙ none)
      ];
      drafts = λ j e is_e. elim (cases_eq j (slice_index t.places ino)) [
        | inl here ↦ subst IsDraft (sym (at_place e (ap (slice_get (slice_set t.items (slice_index t.places ino) d')) (sym here) ∙ is_e))) draft
        | inr ne ↦ is.drafts j e (sym (slice_get-set_other t.items (slice_index t.places ino) j d' ne) ∙ is_e)
      ];
    }

-- a draft comes behind the others
pub admitted : (t new : DraftTable) (d : NodeDraft) → IsDraftTable t → d.ino < length t.places → draft_of t d.ino ≡ None → IsDraft d → length t.items + 1 < 2 ^ 64
    → new ≡ record { items = t.items ++ d ∷ []; places = slice_set t.places d.ino (length t.items) } → IsDraftTable new × Redrafts t new d.ino d
admitted t new d is low none draft few new_is = (subst IsDraftTable (sym new_is) table, subst (λ n. Redrafts t n d.ino d) (sym new_is) redraft)
  where
    here_now : slice_index (slice_set t.places d.ino (length t.items)) d.ino ≡ length t.items
    here_now = get_or-set_same t.places d.ino (length t.items) 0 low

    there_now : (q : ℕ) → q ≢ d.ino → slice_index (slice_set t.places d.ino (length t.items)) q ≡ slice_index t.places q
    there_now q ne = get_or-set_other t.places d.ino q (length t.items) 0 ne

    drafted : slice_get (t.items ++ d ∷ []) (slice_index (slice_set t.places d.ino (length t.items)) d.ino) ≡ Some d
    drafted = ap (slice_get (t.items ++ d ∷ [])) here_now ∙ slice_get-append_end t.items d

    by_place : (place : ℕ) → (slice_get t.items place ≡ None → place ≡ 18446744073709551615) → slice_get (t.items ++ d ∷ []) place ≡ slice_get t.items place
    by_place place nowhere = elim (cases_lt place (length t.items)) [
      | inl lt ↦ slice_get-append_left t.items d place lt
      | inr ge ↦ (
          let gone : slice_get t.items place ≡ None = slice_get_past t.items place ge in
          let far : place ≡ 18446744073709551615 = nowhere gone in
          slice_get_past (t.items ++ d ∷ []) place (rw length-append (omega arith)) ∙ sym gone)
    ]

    others : (q : ℕ) → q < length t.places → q ≢ d.ino → slice_get (t.items ++ d ∷ []) (slice_index (slice_set t.places d.ino (length t.items)) q) ≡ draft_of t q
    others q lt ne = ap (slice_get (t.items ++ d ∷ [])) (there_now q ne) ∙ by_place (slice_index t.places q) (is.nowhere q lt)

    redraft : Redrafts t (record { items = t.items ++ d ∷ []; places = slice_set t.places d.ino (length t.items) }) d.ino d
    redraft = record { drafted = drafted; others = others; numbers = length-set t.places d.ino (length t.items) }

    count : length (slice_set t.places d.ino (length t.items)) ≡ length t.places
    count = length-set t.places d.ino (length t.items)

    older : (j : ℕ) (e : NodeDraft) → j < length t.items → slice_get (t.items ++ d ∷ []) j ≡ Some e → slice_get t.items j ≡ Some e
    older j e lt is_e = sym (slice_get-append_left t.items d j lt) ∙ is_e

    at_end : (j : ℕ) → length t.items ≤ j → j < length t.items + 1 → j ≡ length t.items
    at_end j ge lt = omega arith

    last : (j : ℕ) (e : NodeDraft) → length t.items ≤ j → slice_get (t.items ++ d ∷ []) j ≡ Some e → (j ≡ length t.items) × (e ≡ d)
    last j e ge is_e =
        let within : j < length (t.items ++ d ∷ []) = slice_get_within (t.items ++ d ∷ []) j e is_e in
        let at : j ≡ length t.items = at_end j ge (subst (λ n. j < n) (length-append t.items (d ∷ [])) within) in
        (at, some_same e d (sym is_e ∙ ap (slice_get (t.items ++ d ∷ [])) at ∙ slice_get-append_end t.items d))

    other_ino : (j : ℕ) (e : NodeDraft) → slice_get t.items j ≡ Some e → e.ino ≢ d.ino
    other_ino j e is_e same = none_some e (sym none ∙ ap (draft_of t) (sym same) ∙ ap (slice_get t.items) (is.placed j e is_e).1 ∙ is_e)

    table : IsDraftTable (record { items = t.items ++ d ∷ []; places = slice_set t.places d.ino (length t.items) })
    table = record {
      few = subst (λ n. n ≤ 2048) (sym count) is.few;
      placed = λ j e is_e. elim (cases_lt j (length t.items)) [
        | inl lt ↦ (
            let old : slice_get t.items j ≡ Some e = older j e lt is_e in
            let p = is.placed j e old in
            (subst (λ n. e.ino < n) (sym count) p.0, there_now e.ino (other_ino j e old) ∙ p.1))
        | inr ge ↦ (
            let l = last j e ge is_e in
            let e_ino : e.ino ≡ d.ino = ap (λ (x : NodeDraft). x.ino) l.1 in
            (subst (λ n. n < length (slice_set t.places d.ino (length t.items))) (sym e_ino) (subst (λ n. d.ino < n) (sym count) low), ap (slice_index (slice_set t.places d.ino (length t.items))) e_ino ∙ here_now ∙ sym l.0))
      ];
      own = λ q e lt is_e. elim (cases_eq q d.ino) [
        | inl here ↦ ap (λ (x : NodeDraft). x.ino) (some_same e d (sym is_e ∙ ap (λ n. slice_get (t.items ++ d ∷ []) (slice_index (slice_set t.places d.ino (length t.items)) n)) here ∙ drafted)) ∙ sym here
        | inr ne ↦ (let lt' : q < length t.places = subst (λ n. q < n) count lt in is.own q e lt' (sym (others q lt' ne) ∙ is_e))
      ];
      nowhere = λ q lt gone. elim (cases_eq q d.ino) [
        | inl here ↦ absurd (none_some d (sym gone ∙ ap (λ n. slice_get (t.items ++ d ∷ []) (slice_index (slice_set t.places d.ino (length t.items)) n)) here ∙ drafted))
        | inr ne ↦ (let lt' : q < length t.places = subst (λ n. q < n) count lt in there_now q ne ∙ is.nowhere q lt' (sym (others q lt' ne) ∙ gone))
      ];
      drafts = λ j e is_e. elim (cases_lt j (length t.items)) [
        | inl lt ↦ is.drafts j e (older j e lt is_e)
        | inr ge ↦ subst IsDraft (sym (last j e ge is_e).1) draft
      ];
    }

-- a draft with a block elsewhere below its size keeps to it
pub pointed_is : (d : NodeDraft) (i : ℕ) (p : Pointer) → IsDraft d → i < blocks_of_shape d.shape → IsAddressed p → IsDraft (with_pointer d i p)
pointed_is d i p is within addressed = record {
  number = is.number;
  size = is.size;
  ends = λ k from lt. other k (λ e. (let h : k ≡ i = e in omega arith)) ∙ is.ends k from lt;
  addressed = λ k. elim (cases_eq k i) [
    | inl e ↦ elim (cases_lt i (length d.pointers)) [
      | inl lt ↦ subst IsAddressed (sym (ap (where_is (slice_set d.pointers i p)) e ∙ get_or-set_same d.pointers i p Hole lt)) addressed
      | inr ge ↦ subst IsAddressed (sym (get_or_past (slice_set d.pointers i p) k Hole (let len = length-set d.pointers i p in omega arith))) tt
    ]
    | inr ne ↦ subst IsAddressed (sym (other k ne)) (is.addressed k)
  ];
  changed = λ k new. refl;
  far = λ k high new. elim (leb_tells 12 i) [
    | inl t ↦ ap (λ (b : Bool). if b then 4294967295 else d.single) t.0
    | inr t ↦ ap (λ (b : Bool). if b then 4294967295 else d.single) t.0 ∙ is.far k high (subst IsUnwritten (other k (λ e. (let h : k ≡ i = e in let low = t.1 in omega arith))) new)
  ];
}
  where
    other : (k : ℕ) → k ≢ i → where_is (slice_set d.pointers i p) k ≡ where_is d.pointers k
    other k ne = get_or-set_other d.pointers i k p Hole ne

by_size : (size : ℕ) → size ≤ 4243456 → blocks_of size ≤ 1036
unfolding blocks_of
by_size size le = omega arith

-- no node has more than 1,036 blocks
pub blocks_most : (d : NodeDraft) → IsDraft d → blocks_of_shape d.shape ≤ 1036
blocks_most d is = by_shape d.shape is.size
  where
    by_shape : (shape : Option Shape) → ForSome shape (λ s. s.size ≤ 4243456) → blocks_of_shape shape ≤ 1036
    by_shape None le = omega arith
    by_shape (Some s) le = by_size s.size (le s refl)

-- a draft with another shape keeps to that
pub shaped_is : (d : NodeDraft) (shape : Option Shape) → IsDraft d → ForSome shape (λ s. s.size ≤ 4243456) → AreHoles d.pointers (blocks_of_shape shape) → IsDraft (with_shape d shape)
shaped_is d shape is size ends = record { number = is.number; size = size; ends = ends; addressed = is.addressed; changed = λ k new. refl; far = is.far }

-- what is read at a number's place is its draft
pub at_place : (t : DraftTable) (ino place : ℕ) (r d : NodeDraft) → ino < length t.places → draft_of t ino ≡ Some d → place ≡ get_or t.places ino place → r ≡ get_or t.items place r
    → (place ≡ slice_index t.places ino) × (r ≡ d)
at_place t ino place r d low is place_is r_is =
    let at : place ≡ slice_index t.places ino = place_is ∙ get_or_default_zero t.places ino place low in
    (at, r_is ∙ get_or_from_slice_get t.items place d r (ap (slice_get t.items) at ∙ is))

-- the draft of a number changed where it was read
pub changed_at : (t new : DraftTable) (ino place : ℕ) (r d d' : NodeDraft) → IsDraftTable t → ino < length t.places → draft_of t ino ≡ Some d → place ≡ get_or t.places ino place → r ≡ get_or t.items place r
    → d'.ino ≡ d.ino → IsDraft d' → new ≡ record { items = slice_set t.items place d'; places = t.places } → IsDraftTable new × Redrafts t new ino d'
changed_at t new ino place r d d' is low at place_is r_is same draft new_is =
    redrafted t new ino d d' is low at same draft (new_is ∙ ap (λ k. record { items = slice_set t.items k d'; places = t.places }) (at_place t ino place r d low at place_is r_is).0)

pub is_draft_of : (t : DraftTable) (ino : ℕ) (d : NodeDraft) → IsDraftTable t → draft_of t ino ≡ Some d → IsDraft d
is_draft_of t ino d is at = is.drafts (slice_index t.places ino) d at

-- the same of a table that was opened
pub changed_in : (t self new : DraftTable) → t ≡ self → (ino place : ℕ) (r d d' : NodeDraft) → IsDraftTable t → ino < length self.places → draft_of self ino ≡ Some d → place ≡ get_or t.places ino place → r ≡ get_or t.items place r
    → d'.ino ≡ d.ino → IsDraft d' → new ≡ record { items = slice_set t.items place d'; places = t.places } → IsDraftTable new × Redrafts self new ino d'
changed_in t self new view_is ino place r d d' is low at place_is r_is same draft new_is =
    let low' : ino < length t.places = subst (λ (x : DraftTable). ino < length x.places) (sym view_is) low in
    let at' : draft_of t ino ≡ Some d = subst (λ (x : DraftTable). draft_of x ino ≡ Some d) (sym view_is) at in
    let done = changed_at t new ino place r d d' is low' at' place_is r_is same draft new_is in
    (done.0, subst (λ (x : DraftTable). Redrafts x new ino d') view_is done.1)

-- what is read at a number's place of a table that was opened
pub at_place_in : (t self : DraftTable) → t ≡ self → (ino place : ℕ) (r d : NodeDraft) → IsDraftTable t → ino < length self.places → draft_of self ino ≡ Some d → place ≡ get_or t.places ino place → r ≡ get_or t.items place r → (r ≡ d) × IsDraft d
at_place_in t self view_is ino place r d is low at place_is r_is =
    let low' : ino < length t.places = subst (λ (x : DraftTable). ino < length x.places) (sym view_is) low in
    let at' : draft_of t ino ≡ Some d = subst (λ (x : DraftTable). draft_of x ino ≡ Some d) (sym view_is) at in
    ((at_place t ino place r d low' at' place_is r_is).1, is_draft_of t ino d is at')

-- a draft is found once
pub one_draft : (t : DraftTable) (ino : ℕ) (d e : NodeDraft) → draft_of t ino ≡ Some d → draft_of t ino ≡ Some e → d ≡ e
one_draft t ino d e is_d is_e = some_same d e (sym is_d ∙ is_e)

-- a draft comes behind the others of a table that was opened
pub admitted_in : (t self new : DraftTable) → t ≡ self → (d : NodeDraft) (place : ℕ) → IsDraftTable t → d.ino < length self.places → draft_of self d.ino ≡ None → IsDraft d → place ≡ length t.items → length t.items + 1 < 2 ^ 64
    → new.items ≡ t.items ++ d ∷ [] → new.places ≡ slice_set t.places d.ino place → IsDraftTable new × Redrafts self new d.ino d
admitted_in t self new view_is d place is low none draft place_is few items_are places_are =
    let low' : d.ino < length t.places = subst (λ (x : DraftTable). d.ino < length x.places) (sym view_is) low in
    let none' : draft_of t d.ino ≡ None = subst (λ (x : DraftTable). draft_of x d.ino ≡ None) (sym view_is) none in
    let new_is : new ≡ record { items = t.items ++ d ∷ []; places = slice_set t.places d.ino (length t.items) } = ap (λ xs. record { items = xs; places = new.places }) items_are ∙ ap (λ ps. record { items = t.items ++ d ∷ []; places = ps }) (places_are ∙ ap (slice_set t.places d.ino) place_is) in
    let done = admitted t new d is low' none' draft few new_is in
    (done.0, subst (λ (x : DraftTable). Redrafts x new d.ino d) view_is done.1)

-- no draft is left where their numbers stand nowhere
pub cleared : (t new : DraftTable) → IsDraftTable t → new.items ≡ [] → IsClearedTo (length t.items) t.items t.places new.places → IsDraftTable new
cleared t new is none clear = record {
  few = subst (λ n. n ≤ 2048) (sym clear.count) is.few;
  placed = λ k d at. absurd (no_draft k d at);
  own = λ ino d lt at. absurd (no_draft (slice_index new.places ino) d at);
  nowhere = λ ino lt gone. elim (by_draft ino (draft_of t ino) refl (subst (λ n. ino < n) clear.count lt)) [ inl at ↦ (let here = clear.before (slice_index t.places ino) at.0 (slice_get_within t.items (slice_index t.places ino) at.0 at.1) at.1 in ap (slice_index new.places) (sym (is.own ino at.0 (subst (λ n. ino < n) clear.count lt) at.1)) ∙ here) | inr far ↦ clear.nowhere ino far ];
  drafts = λ k d at. absurd (no_draft k d at);
}
  where
    no_draft : (k : ℕ) (d : NodeDraft) → slice_get new.items k ≡ Some d → ⊥
    no_draft k d at = none_some d (ap (λ (xs : List NodeDraft). slice_get xs k) (sym none) ∙ at)

    by_draft : (ino : ℕ) (o : Option NodeDraft) → draft_of t ino ≡ o → ino < length t.places → ((d : NodeDraft) × (draft_of t ino ≡ Some d)) ⊎ (slice_index t.places ino ≡ 18446744073709551615)
    by_draft ino (Some d) at lt = inl (d, at)
    by_draft ino None at lt = inr (is.nowhere ino lt at)

-- what was found at a place is a draft
pub found_is : (t : DraftTable) (xs : List NodeDraft) (k : ℕ) (r : Option (Bor NodeDraft)) → IsDraftTable t → xs ≡ t.items → is_some r ≡ nat_lt k (length xs) → IfSome r (λ x. x.now ≡ get_or xs k x.now) → IfSome r (λ d. IsDraft d.now)
found_is t xs k None is same some found = tt
found_is t xs k (Some d) is same some found =
    let lt : k < length xs = within k (length xs) (sym some) in
    is.drafts k d.now (ap (λ (l : List NodeDraft). slice_get l k) (sym same) ∙ slice_get_read xs (length xs) k d.now refl lt found)
  where
    within : (a b : ℕ) → nat_lt a b ≡ true → a < b
    within a b e = ltb-true a b e
