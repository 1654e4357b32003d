-- The newest of two records is the image's newest record.
use Rattle.std.proofs.Common.{◌≡◌, ◌↔◌, ⊎_elim, ℕ, ◌+◌, ◌<◌, ◌≤◌, Bool, true, false, nat_lt, if◌then◌else◌, refl, sym, ◌∙◌, subst, arith}
use Rattle.std.specs.Prelude.{Option, Some, None}
use Rattle.std.proofs.lemmas.Bool.{ltb-true, ltb-false, cases_lt}
use Rattle.hl_media.specs.History.{Image}
use Rattle.hl_addr.specs.Layout.{Layout}
use Rattle.hl_super.specs.declared.record.Record.{Record}
use Rattle.hl_super.specs.Newest.{newest}
use Rattle.hl_image.specs.Newest.{IsNewest, IsNewestRecord, IsRecordAt, home_of}
use Rattle.hl_log.proofs.Records.{homes}

home_after_one : (n : ℕ) → home_of n ≡ 1 → home_of (n + 1) ≡ 2
home_after_one n is = ⊎_elim (λ a. a.1) (λ a. absurd (let e = sym is ∙ a.0 in let no : ⊥ = omega arith in no)) (homes n)

home_after_two : (n : ℕ) → home_of n ≡ 2 → home_of (n + 1) ≡ 1
home_after_two n is = ⊎_elim (λ a. absurd (let e = sym is ∙ a.0 in let no : ⊥ = omega arith in no)) (λ a. a.1) (homes n)

homes_apart : (m n : ℕ) → home_of m ≡ 1 → home_of n ≡ 2 → m ≡ n → ⊥
homes_apart m n one two e = let same : (let a : ℕ = 1 in a) ≡ 2 = sym one ∙ subst (λ (k : ℕ). home_of m ≡ home_of k) e refl ∙ two in omega arith

module _ (g : Layout) (image : Image) where
  -- the records that were found in a block
  abbrev Finds : ℕ → Option Record → Type 0
  Finds at o = (v : Record) → (o ≡ Some v) ↔ IsRecordAt g image at v

  none_there : (at : ℕ) → Finds at None → (v : Record) → IsRecordAt g image at v → ⊥
  none_there at finds v is = let e = (finds v).1 is in cc

  the_same : (at : ℕ) (v s : Record) → Finds at (Some v) → IsRecordAt g image at s → v ≡ s
  the_same at v s finds is = let e = (finds s).1 is in cc

  first_is : (v : Record) → IsRecordAt g image 1 v → ((s : Record) → IsRecordAt g image 2 s → s.number < v.number) → IsNewestRecord g image v
  first_is v is less = record {
    here = subst (λ (n : ℕ). IsRecordAt g image n v) (sym is.value.ranges.parity) is;
    other = λ s at. less s (subst (λ (n : ℕ). IsRecordAt g image n s) (home_after_one v.number is.value.ranges.parity) at);
  }

  second_is : (v : Record) → IsRecordAt g image 2 v → ((s : Record) → IsRecordAt g image 1 s → s.number < v.number) → IsNewestRecord g image v
  second_is v is less = record {
    here = subst (λ (n : ℕ). IsRecordAt g image n v) (sym is.value.ranges.parity) is;
    other = λ s at. less s (subst (λ (n : ℕ). IsRecordAt g image n s) (home_after_two v.number is.value.ranges.parity) at);
  }

  by_numbers : (v w : Record) → Finds 1 (Some v) → Finds 2 (Some w) → (t : Bool) → nat_lt v.number w.number ≡ t → IsNewest g image (if t then Some w else Some v)
  by_numbers v w fa fb true e = second_is w ((fb w).0 refl)
      (λ s at. subst (λ (r : Record). r.number < w.number) (the_same 1 v s fa at) (ltb-true v.number w.number e))
  by_numbers v w fa fb false e =
      let a : IsRecordAt g image 1 v = (fa v).0 refl in
      let b : IsRecordAt g image 2 w = (fb w).0 refl in
      let le : w.number ≤ v.number = ltb-false v.number w.number e in
      let apart : v.number ≡ w.number → ⊥ = homes_apart v.number w.number a.value.ranges.parity b.value.ranges.parity in
      first_is v a (λ s at. subst (λ (r : Record). r.number < v.number) (the_same 2 w s fb at) (less v.number w.number le apart))
    where
      less : (m n : ℕ) → n ≤ m → (m ≡ n → ⊥) → n < m
      less m n le differ = ⊎_elim (λ h. h) (λ ge. absurd (differ (omega arith))) (cases_lt n m)

  -- of the records in blocks 1 and 2 the newest is the image's
  pub newest_found : (a b : Option Record) → ((v : Record) → (a ≡ Some v) ↔ IsRecordAt g image 1 v) → ((v : Record) → (b ≡ Some v) ↔ IsRecordAt g image 2 v) → IsNewest g image (newest a b)
  newest_found None None fa fb = (none_there 1 fa, none_there 2 fb)
  newest_found None (Some w) fa fb = second_is w ((fb w).0 refl) (λ s at. absurd (none_there 1 fa s at))
  newest_found (Some v) None fa fb = first_is v ((fa v).0 refl) (λ s at. absurd (none_there 2 fb s at))
  newest_found (Some v) (Some w) fa fb = by_numbers v w fa fb (nat_lt v.number w.number) refl
