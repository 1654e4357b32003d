-- Where a byte first stands, and the parts that it cuts.
use Rattle.std.proofs.Common.{◌≡◌, ◌<◌, ◌≤◌, ◌+◌, ◌-◌, ℕ, Bool, Bor, true, false, eqb, inl, inr, map, List, [], ◌∷◌, ◌++◌, length, take, drop, Some, None, refl, sym, ap, ◌∙◌, arith, append_assoc}
use Rattle.std.proofs.lemmas.Bool.{false_from_ne_true, cases_Bool}
use Rattle.std.proofs.lemmas.List.{take_rest, take_all, map-append}
use Rattle.std.proofs.lemmas.List.Elements.{All-nil, All-cons}
use Rattle.std.proofs.lemmas.List.Sums.{position_or_len_is}
use Rattle.std.proofs.lemmas.List.Splits.{slice_split_none, slice_split_first}
use Rattle.std.specs.List.{slice_split, position_or_len, All}
use Rattle.memchr.specs.Find.{IsFirstByte, is_byte}

-- what a search found is the first place
pub first_found : (c : ℕ) (xs : List ℕ) (k : ℕ) → IsFirstByte (is_byte c) xs (Some k) → position_or_len (λ b. eqb b c) xs ≡ k
first_found c xs k h =
    let within : k < length xs = h.0.high in
    position_or_len_is (λ b. eqb b c) xs k 0 (omega arith) (λ j lt. false_from_ne_true _ (h.0.before j (omega arith) lt)) (λ _. h.1)

-- it found none
pub none_found : (c : ℕ) (xs : List ℕ) → IsFirstByte (is_byte c) xs None → position_or_len (λ b. eqb b c) xs ≡ length xs
none_found c xs h =
    position_or_len_is (λ b. eqb b c) xs (length xs) 0 (omega arith) (λ j lt. false_from_ne_true _ (h j (omega arith) lt)) (λ lt. absurd (omega arith))

-- where no place is one, no element passes
none_pass : (p : ℕ → Bool) (xs : List ℕ) → position_or_len p xs ≡ length xs → All (λ x. p x ≡ false) xs
none_pass p [] h = All-nil (λ x. p x ≡ false)
none_pass p (x ∷ xs) h =
    elim (cases_Bool (p x)) [
      | inl passes ↦ absurd (let h' = rw passes at h in omega arith)
      | inr fails ↦
          let rest : position_or_len p xs ≡ length xs = let h' = rw fails at h in omega arith in
          All-cons (λ x. p x ≡ false) x xs fails (none_pass p xs rest)
    ]

-- one more part was taken off the rest
pub part_more : (c : ℕ) (front parts : List (Bor (List ℕ))) (part : Bor (List ℕ)) (rest all : List ℕ) (k : ℕ)
    → parts ≡ front ++ part ∷ [] → part.now ≡ take k rest → k ≡ position_or_len (λ b. eqb b c) rest → k < length rest
    → map (λ x. x.now) front ++ slice_split (λ b. eqb b c) rest ≡ slice_split (λ b. eqb b c) all
    → map (λ x. x.now) parts ++ slice_split (λ b. eqb b c) (take (length rest - (k + 1)) (drop (k + 1) rest)) ≡ slice_split (λ b. eqb b c) all
part_more c front parts part rest all k pushed is at within h =
    let p = λ (b : ℕ). eqb b c in
    let after = slice_split p (drop (k + 1) rest) in
    let cut : slice_split p rest ≡ part.now ∷ after =
    slice_split_first p rest 0 (omega arith) ∙ ap (λ n. take n rest ∷ slice_split p (drop (n + 1) rest)) (sym at)
    ∙ ap (λ l. l ∷ after) (sym is) in
    ap (λ l. map (λ x. x.now) parts ++ slice_split p l) (take_rest rest (k + 1))
    ∙ ap (λ l. map (λ x. x.now) l ++ after) pushed ∙ ap (λ l. l ++ after) (map-append (λ x. x.now) front (part ∷ []))
    ∙ append_assoc (map (λ x. x.now) front) (part.now ∷ []) after ∙ ap (λ l. map (λ x. x.now) front ++ l) (sym cut) ∙ h

-- the rest was the last part
pub part_last : (c : ℕ) (front parts : List (Bor (List ℕ))) (part : Bor (List ℕ)) (rest all : List ℕ) (k : ℕ)
    → parts ≡ front ++ part ∷ [] → part.now ≡ take k rest → k ≡ position_or_len (λ b. eqb b c) rest → k ≡ length rest
    → map (λ x. x.now) front ++ slice_split (λ b. eqb b c) rest ≡ slice_split (λ b. eqb b c) all
    → map (λ x. x.now) parts ≡ slice_split (λ b. eqb b c) all
part_last c front parts part rest all k pushed is at whole h =
    let p = λ (b : ℕ). eqb b c in
    let same : part.now ≡ rest = is ∙ take_all k rest (omega arith) in
    ap (map (λ x. x.now)) pushed ∙ map-append (λ x. x.now) front (part ∷ [])
    ∙ ap (λ l. map (λ x. x.now) front ++ l ∷ []) same
    ∙ ap (λ l. map (λ x. x.now) front ++ l) (sym (slice_split_none p rest (none_pass p rest (omega arith)))) ∙ h
