-- Where the first newline stands, as bytes are added.
use Rattle.std.proofs.Common.{suc, ◌≡◌, ◌<◌, ◌≤◌, ◌+◌, ◌-◌, ℕ, min, Bool, true, false, cond, eqb, ltb, not, ◌||◌, ◌⊎◌, inl, inr, List, [], ◌∷◌, ◌++◌, length, get_or, take, drop, Some, None, Option, refl, sym, ap, ◌∙◌, subst, arith, rules, append_assoc, append-nil, length-append, length-take, length-drop, drop_at}
use Rattle.std.proofs.lemmas.Bool.{cases_lt, ltb-true, ltb-false, lt-ltb, le-ltb, or_cases, or_parts, or_from, or_left, or_right, cases_Bool, not-true, not-false, eqb-false, eqb-true, eq-eqb, ne_eqb, cases_eq}
use Rattle.std.proofs.lemmas.Grind.{common_steps}
use Rattle.std.specs.List.{before_first, after_first, position_or_len, prefix_len, onto_first}
use Rattle.std.specs.Io.KnownBytes.{Keeps, Consumes, prepend_known, IsAtEnd}
use Rattle.std.proofs.lemmas.List.{take-append-le, drop-append-le, take_rest}
use Rattle.std.proofs.lemmas.Option.{same_Some}
use Rattle.std.specs.Prelude.{IfSome}
use Rattle.hl_script.specs.Input.{is_newline, lines_of, line_of, beyond, cost, longest, passes_limit, IsReady, Ahead, Gives, Cuts, IsTooLong, given_lines}

-- the first place in joined lists
pub place_joined_in : (xs ys : List ℕ) → position_or_len is_newline xs < length xs
    → position_or_len is_newline (xs ++ ys) ≡ position_or_len is_newline xs
place_joined_in [] ys h = absurd (omega arith)
place_joined_in (x ∷ xs) ys h =
    elim (cases_Bool (is_newline x)) [
      | inl newline ↦ rw newline refl
      | inr other ↦
          let below : position_or_len is_newline xs < length xs = let h' = rw other at h in omega arith in
          rw other (ap (λ n. 1 + n) (place_joined_in xs ys below))
    ]

pub place_joined_past : (xs ys : List ℕ) → position_or_len is_newline xs ≡ length xs
    → position_or_len is_newline (xs ++ ys) ≡ length xs + position_or_len is_newline ys
place_joined_past [] ys h = omega arith
place_joined_past (x ∷ xs) ys h =
    elim (cases_Bool (is_newline x)) [
      | inl newline ↦ absurd (let h' = rw newline at h in omega arith)
      | inr other ↦
          let at : position_or_len is_newline xs ≡ length xs = let h' = rw other at h in omega arith in
          let more = place_joined_past xs ys at in
          rw other (omega arith)
    ]

pub place-le : (xs : List ℕ) → position_or_len is_newline xs ≤ length xs
place-le [] = omega arith
place-le (x ∷ xs) =
    elim (cases_Bool (is_newline x)) [
      | inl newline ↦ rw newline (omega arith)
      | inr other ↦ let more = place-le xs in rw other (omega arith)
    ]

-- what a read took off stands behind what is held
pub held_more : (old left left' : Option (List ℕ)) (held piece : List ℕ)
    → Keeps old (prepend_known held left) → Consumes left left' piece → Keeps old (prepend_known (held ++ piece) left')
held_more None left left' held piece k c = tt
held_more (Some xs) None left' held piece k c = absurd k
held_more (Some xs) (Some ys) None held piece k c = absurd c
held_more (Some xs) (Some ys) (Some zs) held piece k c =
    append_assoc held piece zs ∙ ap (λ l. held ++ l) (sym c) ∙ k

-- ---- reading on

-- a newline came with the piece
pub ready_found : (held piece new : List ℕ) (left : Option (List ℕ))
    → position_or_len is_newline held ≡ length held → position_or_len is_newline piece < length piece → new ≡ held ++ piece
    → IsReady new left
ready_found held piece new left none lt is =
    let at = place_joined_past held piece none in
    let len = length-append held piece in
    rw is (inl (omega arith))

-- none came
pub none_more : (held piece new : List ℕ)
    → position_or_len is_newline held ≡ length held → length piece ≤ position_or_len is_newline piece → new ≡ held ++ piece
    → position_or_len is_newline new ≡ length new
none_more held piece new none past is =
    let at = place_joined_past held piece none in
    let len = length-append held piece in
    let le = place-le piece in
    rw is (omega arith)

-- what stands behind what was held
tail_is : (held bytes piece : List ℕ) (before : ℕ) → bytes ≡ held ++ piece → before ≡ length held
    → take (length bytes - before) (drop before bytes) ≡ piece
tail_is held bytes piece before grown at =
    take_rest bytes before ∙ ap (drop before) grown ∙ drop_at held piece before (sym at)

-- a newline stands in what was read behind what is held
pub found_behind : (held now bytes piece : List ℕ) (before n : ℕ) (left : Option (List ℕ)) → now ≡ held ++ piece → bytes ≡ now
    → before ≡ length held → position_or_len is_newline held ≡ length held
    → n ≡ position_or_len is_newline (take (length bytes - before) (drop before bytes)) → n < length bytes - before → IsReady now left
found_behind held now bytes piece before n left grown same at none place lt =
    let tail = tail_is held bytes piece before (same ∙ grown) at in
    let all = ap length tail in
    let len = length-take (length bytes - before) (drop before bytes) in
    let len' = length-drop before bytes in
    let where' : n ≡ position_or_len is_newline piece = place ∙ ap (position_or_len is_newline) tail in
    ready_found held piece now left none (omega arith) grown

-- none stands there
pub none_behind : (held now bytes piece : List ℕ) (before n : ℕ) → now ≡ held ++ piece → bytes ≡ now
    → before ≡ length held → position_or_len is_newline held ≡ length held
    → n ≡ position_or_len is_newline (take (length bytes - before) (drop before bytes)) → length bytes - before ≤ n
    → position_or_len is_newline now ≡ length now
none_behind held now bytes piece before n grown same at none place le =
    let tail = tail_is held bytes piece before (same ∙ grown) at in
    let all = ap length tail in
    let len = length-take (length bytes - before) (drop before bytes) in
    let len' = length-drop before bytes in
    let where' : n ≡ position_or_len is_newline piece = place ∙ ap (position_or_len is_newline) tail in
    none_more held piece now none (omega arith) grown

-- what was read takes nothing from what is left
pub held_on : (old left left' : Option (List ℕ)) (held piece now : List ℕ) → now ≡ held ++ piece
    → Keeps old (prepend_known held left) → Consumes left left' piece → Keeps old (prepend_known now left')
held_on old left left' held piece now grown k c = rw grown (held_more old left left' held piece k c)

-- a line is held
pub ready_in : (held bytes : List ℕ) (n : ℕ) (left : Option (List ℕ)) → bytes ≡ held → n ≡ position_or_len is_newline bytes
    → n < length bytes → IsReady held left
ready_in held bytes n left same place lt = rw (← same) (inl (rw (← place) lt))

-- ---- the first line of what is held and of what is left

length-line : (xs : List ℕ) → length (line_of xs) ≡ position_or_len is_newline xs
length-line xs = let l = length-take (position_or_len is_newline xs) xs in let le = place-le xs in omega arith

-- what follows changes neither the line nor what it costs
pub record SameLine (held more : List ℕ) : Type 0 where
  pub line : line_of (held ++ more) ≡ line_of held
  pub beyond : beyond (held ++ more) ≡ beyond held ++ more
  pub cost : cost (held ++ more) ≡ cost held
  pub empty : length held ≡ 0 → length more ≡ 0

same_line_in : (held more : List ℕ) → position_or_len is_newline held < length held → SameLine held more
same_line_in held more lt =
    let at = place_joined_in held more lt in
    let line : line_of (held ++ more) ≡ line_of held =
    ap (λ n. take n (held ++ more)) at ∙ take-append-le (position_or_len is_newline held) held more (omega arith) in
    let l0 = length-line held in
    let l1 = length-line (held ++ more) in
    let len = length-append held more in
    record {
      line = line;
      beyond = ap (λ n. drop (n + 1) (held ++ more)) at ∙ drop-append-le (position_or_len is_newline held + 1) held more (omega arith);
      cost = omega arith;
      empty = λ e. absurd (omega arith);
    }

same_line_end : (held more : List ℕ) → more ≡ [] → SameLine held more
same_line_end held more e =
    let whole : held ++ more ≡ held = ap (λ m. held ++ m) e ∙ append-nil held in
    record {
      line = ap line_of whole;
      beyond = ap beyond whole ∙ sym (ap (λ m. beyond held ++ m) e ∙ append-nil (beyond held));
      cost = ap cost whole;
      empty = λ _. ap length e;
    }

same_limit : (limit used : ℕ) (held more : List ℕ) → SameLine held more
    → passes_limit limit used (held ++ more) ≡ passes_limit limit used held
same_limit limit used held more same =
    ap (λ l. ltb longest (length l) || ltb limit (used + cost (held ++ more))) same.line
    ∙ ap (λ n. ltb longest (length (line_of held)) || ltb limit (used + n)) same.cost

same_emptiness : (held more : List ℕ) → SameLine held more → eqb (length held) 0 ≡ eqb (length (held ++ more)) 0
same_emptiness held more same =
    let len = length-append held more in
    elim (cases_eq (length held) 0) [
      | inl e ↦ let none = same.empty e in eq-eqb _ _ e ∙ sym (eq-eqb (length (held ++ more)) 0 (omega arith))
      | inr some ↦ ne_eqb _ _ some ∙ sym (ne_eqb (length (held ++ more)) 0 (λ (e : length (held ++ more) ≡ 0). some (omega arith)))
    ]

-- the front of a line that is too long
too_long_held : (limit used : ℕ) (held more : List ℕ) → position_or_len is_newline held ≡ length held → longest < length held
    → passes_limit limit used (held ++ more) ≡ true
too_long_held limit used held more none long =
    let at = place_joined_past held more none in
    let l = length-line (held ++ more) in
    or_left _ _ (lt-ltb longest (length (line_of (held ++ more))) (omega arith))

-- what is held decides
decides : (limit used : ℕ) (held more : List ℕ) → IsReady held (Some more)
    → SameLine held more ⊎ ((passes_limit limit used held ≡ true) × (passes_limit limit used (held ++ more) ≡ true))
decides limit used held more ready =
    elim (cases_lt (position_or_len is_newline held) (length held)) [
      | inl in' ↦ inl (same_line_in held more in')
      | inr past ↦
          let le = place-le held in
          let none : position_or_len is_newline held ≡ length held = omega arith in
          elim ready [
            | inl in' ↦ absurd (omega arith)
            | inr rest ↦
                elim rest [
                  | inl long ↦
                      inr (
                        rw append-nil at (too_long_held limit used held [] none long),
                        too_long_held limit used held more none long,
                      )
                  | inr end ↦ inl (same_line_end held more end)
                ]
          ]
    ]

pub gives_joined : (old mid new : Ahead) (left left' : Option (List ℕ)) (found : Bool) (out : List ℕ)
    → Keeps (prepend_known old.held left) (prepend_known mid.held left') → IsReady mid.held left'
    → mid.used ≡ old.used → mid.limit ≡ old.limit
    → Gives mid new mid.held (Some new.held) found out
    → IfSome (prepend_known old.held left) (λ bytes. Gives old new bytes (prepend_known new.held left') found out)
gives_joined old mid new None left' found out k ready u m g = tt
gives_joined old mid new (Some ys) None found out k ready u m g = absurd k
gives_joined old mid new (Some ys) (Some zs) found out k ready u m g =
    elim (decides mid.limit mid.used mid.held zs ready) [
      | inl same ↦
          let after : new.held ≡ beyond mid.held = same_Some _ _ g.left in
          let len = length-append mid.held zs in
          rw (← k) (record {
            more = g.more ∙ ap not (same_emptiness mid.held zs same);
            line = g.line ∙ sym same.line;
            left = ap (λ h. Some (h ++ zs)) after ∙ ap Some (sym same.beyond);
            used = g.used ∙ ap (λ n. n + cost mid.held) u ∙ ap (λ n. old.used + n) (sym same.cost);
            within = ap (λ n. passes_limit n old.used (mid.held ++ zs)) (sym m)
                ∙ ap (λ n. passes_limit mid.limit n (mid.held ++ zs)) (sym u) ∙ same_limit mid.limit mid.used mid.held zs same ∙ g.within;
          })
      | inr over ↦ cc (sym over.0 ∙ g.within)
    ]

pub limit_joined : (old mid : Ahead) (left left' : Option (List ℕ))
    → Keeps (prepend_known old.held left) (prepend_known mid.held left') → IsReady mid.held left'
    → mid.used ≡ old.used → mid.limit ≡ old.limit
    → passes_limit mid.limit mid.used mid.held ≡ true
    → IfSome (prepend_known old.held left) (λ bytes. passes_limit old.limit old.used bytes ≡ true)
limit_joined old mid None left' k ready u m p = tt
limit_joined old mid (Some ys) None k ready u m p = absurd k
limit_joined old mid (Some ys) (Some zs) k ready u m p =
    let over : passes_limit mid.limit mid.used (mid.held ++ zs) ≡ true =
    elim (decides mid.limit mid.used mid.held zs ready) [
      | inl same ↦ same_limit mid.limit mid.used mid.held zs same ∙ p
      | inr over ↦ over.1
    ] in
    rw (← k) (ap (λ n. passes_limit n old.used (mid.held ++ zs)) (sym m) ∙ ap (λ n. passes_limit mid.limit n (mid.held ++ zs)) (sym u) ∙ over)

-- ---- all lines

none_left : (xs : List ℕ) → length xs ≡ 0 → xs ≡ []
none_left [] h = refl
none_left (x ∷ xs) h = absurd (omega arith)

pub lines_cut : (xs : List ℕ) → 0 < length xs → lines_of xs ≡ line_of xs ∷ lines_of (beyond xs)
lines_cut [] h = absurd (omega arith)
lines_cut (x ∷ []) h =
    elim (cases_Bool (is_newline x)) [
      | inl newline ↦ rw newline refl
      | inr other ↦ rw other refl
    ]
lines_cut (x ∷ y ∷ ys) h =
    elim (cases_Bool (is_newline x)) [
      | inl newline ↦ rw newline refl
      | inr other ↦
          let p = position_or_len is_newline (y ∷ ys) in
          let ih = lines_cut (y ∷ ys) (omega arith) in
          let e : 1 + p ≡ suc p = omega arith in
          let f : 1 + p + 1 ≡ suc (p + 1) = omega arith in
          let front : take (1 + p) (x ∷ y ∷ ys) ≡ x ∷ line_of (y ∷ ys) = ap (λ n. take n (x ∷ y ∷ ys)) e in
          let back : drop (1 + p + 1) (x ∷ y ∷ ys) ≡ beyond (y ∷ ys) = ap (λ n. drop n (x ∷ y ∷ ys)) f in
          rw other (
          ap (onto_first x) ih ∙ ap (λ l. l ∷ lines_of (beyond (y ∷ ys))) (sym front)
          ∙ ap (λ b. take (1 + p) (x ∷ y ∷ ys) ∷ lines_of b) (sym back)
          )
    ]

size_cut : (xs : List ℕ) → cost xs + length (beyond xs) ≡ length xs
size_cut xs =
    let l = length-line xs in
    let d = length-drop (position_or_len is_newline xs + 1) xs in
    let le = place-le xs in
    omega arith

-- what a line given of bytes says of the lines of the bytes
pub cuts_from_gives : (old new : Ahead) (bytes : List ℕ) (after : Option (List ℕ)) (found : Bool) (out : List ℕ)
    → Gives old new bytes after found out → Cuts old new bytes found out
cuts_from_gives old new bytes after true out g =
    let some = eqb-false (length bytes) 0 (not-true _ (sym g.more)) in
    let size = size_cut bytes in
    record {
      lines = lines_cut bytes (omega arith) ∙ ap (λ l. l ∷ lines_of (beyond bytes)) (sym g.line);
      size = omega (arith, g.used);
      short = let w = ltb-false _ _ (or_parts _ _ g.within).0 in rw g.line w;
    }
cuts_from_gives old new bytes after false out g =
    let none = eqb-true (length bytes) 0 (not-false _ (sym g.more)) in
    let size = size_cut bytes in
    record {
      lines = ap lines_of (none_left bytes none);
      size = omega (arith, g.used);
      short = let w = ltb-false _ _ (or_parts _ _ g.within).0 in rw g.line w;
    }

pub too_long_from : (limit used : ℕ) (bytes : List ℕ) → passes_limit limit used bytes ≡ true → IsTooLong limit used bytes
too_long_from limit used bytes h =
    elim (or_cases (ltb longest (length (line_of bytes))) (ltb limit (used + cost bytes)) h) [
      | inl a ↦ inl (ltb-true _ _ a)
      | inr a ↦ inr (ltb-true _ _ a)
    ]

pub IfSome-weaker : {X : Type 0} (o : Option X) (P Q : X → Type 0) → ((x : X) → P x → Q x) → IfSome o P → IfSome o Q
IfSome-weaker None P Q f h = tt
IfSome-weaker (Some x) P Q f h = f x h

-- where none stands in what was copied
pub none_held : (xs ys : List ℕ) (n : ℕ) → ys ≡ xs → n ≡ position_or_len is_newline xs → length xs ≤ n
    → position_or_len is_newline ys ≡ length ys
none_held xs ys n e at past = let le = place-le xs in rw e (omega arith)

-- ---- the clauses of `next`

pub too_long_joined : (old mid : Ahead) (left left' : Option (List ℕ))
    → Keeps (prepend_known old.held left) (prepend_known mid.held left') → IsReady mid.held left'
    → mid.used ≡ old.used → mid.limit ≡ old.limit
    → passes_limit mid.limit mid.used mid.held ≡ true
    → IfSome (prepend_known old.held left) (λ bytes. IsTooLong old.limit old.used bytes)
too_long_joined old mid left left' k ready u m p =
    IfSome-weaker (prepend_known old.held left) (λ bytes. passes_limit old.limit old.used bytes ≡ true)
    (λ bytes. IsTooLong old.limit old.used bytes) (λ bytes h. too_long_from old.limit old.used bytes h)
    (limit_joined old mid left left' k ready u m p)

pub cuts_joined : (old mid new : Ahead) (left left' : Option (List ℕ)) (found : Bool) (out : List ℕ)
    → Keeps (prepend_known old.held left) (prepend_known mid.held left') → IsReady mid.held left'
    → mid.used ≡ old.used → mid.limit ≡ old.limit
    → Gives mid new mid.held (Some new.held) found out
    → IfSome (prepend_known old.held left) (λ bytes. Cuts old new bytes found out)
cuts_joined old mid new left left' found out k ready u m g =
    IfSome-weaker (prepend_known old.held left) (λ bytes. Gives old new bytes (prepend_known new.held left') found out)
    (λ bytes. Cuts old new bytes found out)
    (λ bytes h. cuts_from_gives old new bytes (prepend_known new.held left') found out h)
    (gives_joined old mid new left left' found out k ready u m g)
