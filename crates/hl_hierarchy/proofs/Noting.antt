-- Noting a directory for the numbers that its entries name, one after the other.
use Rattle.std.proofs.Common.{◌≡◌, ◌≢◌, ◌⊎◌, inl, inr, ⊎_elim, ℕ, ◌+◌, ◌<◌, ◌≤◌, List, length, get_or, refl, sym, ◌∙◌, ap, subst, arith}
use Rattle.std.specs.Prelude.{slice_index, Option}
use Rattle.std.proofs.lemmas.Bool.{cases_eq, cases_lt}
use Rattle.std.proofs.Math.ListN.{get_or-map}
use Rattle.std.proofs.lemmas.List.{get_or_default, length-map}
use Rattle.hl_dir.specs.declared.entry.Entry.{Entry}
use Rattle.hl_survey.specs.declared.found.FoundInode.{FoundInode}
use Rattle.hl_hierarchy.specs.Naming.{numbers, IsNameable, IsNotedBy, IsOffAt, Notes, NotesEach}

-- the number of entry k
pub number_of : (es : List Entry) (k : ℕ) (e : Entry) → k < length es → get_or es k e ≡ e → slice_index (numbers es) k ≡ e.ino
number_of es k e lt is =
    let long = length-map es (λ (x : Entry). x.ino) in
    get_or_default (numbers es) k 0 e.ino (omega arith) ∙ get_or-map (λ (x : Entry). x.ino) es k e ∙ ap (λ (x : Entry). x.ino) is

pub length-numbers : (es : List Entry) → length (numbers es) ≡ length es
length-numbers es = length-map es (λ (x : Entry). x.ino)

module _ (found : List (Option FoundInode)) (cs : List ℕ) (old : List ℕ) (ino : ℕ) where
  -- nothing is noted yet
  pub notes_none : NotesEach found cs 0 old old ino
  notes_none = record {
    may = λ k lt. absurd (omega arith);
    free = λ k lt. absurd (omega arith);
    set = λ k lt. absurd (omega arith);
    apart = λ j k lt high. absurd (omega arith);
    only = λ c. inl refl;
  }

  module _ (mid : List ℕ) (k : ℕ) (so : NotesEach found cs k old mid ino) where
    -- where nothing was noted for a number, nothing was before
    was_free : (c : ℕ) → 1 ≤ ino → slice_index mid c ≡ 0 → slice_index old c ≡ 0
    was_free c low none = ⊎_elim (λ same. sym same ∙ none) (λ by. absurd (let set = by.3 in omega arith)) (so.only c)

    -- ONE ENTRY MORE
    module _ (new : List ℕ) (low : 1 ≤ ino) (may : IsNameable found (slice_index cs k)) (notes : Notes mid new ino (slice_index cs k)) where
      free_more : (j : ℕ) → j < k + 1 → slice_index old (slice_index cs j) ≡ 0
      free_more j lt = ⊎_elim (λ below. so.free j below)
          (λ past. (let same : k ≡ j = omega arith in subst (λ (i : ℕ). slice_index old (slice_index cs i) ≡ 0) same (was_free (slice_index cs k) low notes.free)))
          (cases_lt j k)

      set_more : (j : ℕ) → j < k + 1 → slice_index new (slice_index cs j) ≡ ino
      set_more j lt = ⊎_elim
          (λ same. ap (slice_index new) same ∙ notes.set)
          (λ other. ⊎_elim (λ below. notes.others (slice_index cs j) other ∙ so.set j below)
          (λ past. absurd (let same : j ≡ k = omega arith in other (ap (slice_index cs) same))) (cases_lt j k))
          (cases_eq (slice_index cs j) (slice_index cs k))

      apart_more : (i j : ℕ) → i < j → j < k + 1 → slice_index cs i ≢ slice_index cs j
      apart_more i j lt high e = ⊎_elim (λ below. so.apart i j lt below e)
          (λ past.
          let same : j ≡ k = omega arith in
          let under : i < k = omega arith in
          let set : slice_index mid (slice_index cs i) ≡ ino = so.set i under in
          let free : slice_index mid (slice_index cs i) ≡ 0 = ap (slice_index mid) (e ∙ ap (slice_index cs) same) ∙ notes.free in
          omega arith)
          (cases_lt j k)

      only_more : (c : ℕ) → IsNotedBy cs (k + 1) old new ino c
      only_more c = ⊎_elim
          (λ same. inr (k, omega arith, sym same, ap (slice_index new) same ∙ notes.set))
          (λ other. ⊎_elim
          (λ stays. inl (notes.others c other ∙ stays))
          (λ by. inr (by.0, (let lt = by.1 in omega arith), by.2, notes.others c other ∙ by.3))
          (so.only c))
          (cases_eq c (slice_index cs k))

      pub notes_more : NotesEach found cs (k + 1) old new ino
      notes_more = record {
        may = λ j lt. ⊎_elim (λ below. so.may j below) (λ past. (let same : k ≡ j = omega arith in subst (λ (i : ℕ). IsNameable found (slice_index cs i)) same may)) (cases_lt j k);
        free = free_more;
        set = set_more;
        apart = apart_more;
        only = only_more;
      }

    -- AN ENTRY THAT MAY NOT BE NOTED
    pub off_at : k < length cs → ¬ IsNameable found (slice_index cs k) ⊎ (slice_index mid (slice_index cs k) ≢ 0) → IsOffAt found cs old k
    off_at within (inl never) = record { within = within; off = inl never }
    off_at within (inr some) = record {
      within = within;
      off = inr (⊎_elim (λ same. inl (λ none. some (same ∙ none))) (λ by. inr (by.0, by.1, by.2)) (so.only (slice_index cs k)));
    }
