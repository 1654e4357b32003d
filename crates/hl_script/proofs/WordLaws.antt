-- What a word spells, and back.
use Rattle.std.proofs.Common.{◌≡◌, ◌≢◌, ◌<◌, ◌≤◌, ◌^◌, ◌+◌, ◌*◌, ◌/◌, ◌%◌, ℕ, zero, suc, Bool, true, false, cond, eqb, ltb, leb, not, ◌&&◌, ◌||◌, ◌⊎◌, inl, inr, List, [], ◌∷◌, ◌++◌, length, get_or, Some, None, Ok, Err, Option, Result, refl, sym, ap, ◌∙◌, rules, arith}
use Rattle.std.proofs.lemmas.Bool.{and_parts, and_from, or_cases, or_left, or_right, not-true, not-false, eqb-false, not_from_false, eqb-true, eq-eqb, ne_eqb, ltb-true, lt-ltb, le-ltb, ltb-false, leb-true, le-leb, cases_lt, cases_eq, agree_below, agree_below_at}
use Rattle.std.proofs.lemmas.Option.{cond_some, same_Some}
use Rattle.std.proofs.lemmas.Fmt.{decimal-digits_value, digits_value-decimal, digits_decimal, decimal_nonempty, first_decimal, decimal_digit, IsAscii-from_digits}
use Rattle.std.proofs.lemmas.List.Splits.{join_with_byte-slice_split}
use Rattle.std.proofs.lemmas.Str.{IsUtf8-from_ascii}
use Rattle.std.proofs.lemmas.Str.Parse.{IsNumeralModel, numerals_by_value, parse_digits}
use Rattle.std.specs.Char.{is_ascii_digit}
use Rattle.std.specs.Fmt.{decimal}
use Rattle.std.specs.List.{list_all, slice_split, join_with_byte}
use Rattle.std.specs.Str.{IsUtf8}
use Rattle.std.specs.Str.Parse.{digits_value, ParsesUnsigned}
use Rattle.std.specs.Prelude.{slice_index, unwrap_or}
use Rattle.std.specs.Result.{result_ok, result_unwrap_or}
use Rattle.hex.specs.Hex.{encode_lower, encode_with, lower_digits, hex_digit_value, digit_or_error, value_at, pair_value, decode_pairs, decode_of, IsBytes, ◌>>=◌}
use Rattle.hex.specs.declared.error.FromHexError.{FromHexError}
use Rattle.hex.proofs.HexLemmas.{decode_of-ok, decode_of-even, decode_of-encode_lower, length-encode_with}
use Rattle.hl_script.specs.Words.{is_lower_digit, bytes_at, is_name_byte, is_name, path_text, all_names, names_at, path_at, is_numeral, number_at}
use Rattle.std.proofs.lemmas.List.Elements.{All-weaker}
use Rattle.std.proofs.lemmas.List.Sums.{AllPass-from_list_all}
use Rattle.hl_tree.specs.Names.{IsName, AreNames}
use Rattle.hl_script.specs.Spelling.{IsPath}
use Rattle.hl_script.proofs.PartLaws.{lacks, split_joined, list_all-weaker}

-- ---- numbers

-- std's words for digits and their value
pub own : IsNumeralModel (λ ds. list_all is_ascii_digit ds ≡ true) (digits_value 10)
own = numerals_by_value _ (search rules)

-- what the test of a numeral says
pub numeral_parts : (word : List ℕ) → is_numeral word ≡ true
    → (0 < length word) × (list_all is_ascii_digit word ≡ true) × (get_or word 0 0 ≡ 48 → length word ≡ 1)
numeral_parts word h =
    let a = and_parts (not (eqb (length word) 0) && list_all is_ascii_digit word) _ h in
    let b = and_parts (not (eqb (length word) 0)) (list_all is_ascii_digit word) a.0 in (
      (let ne = not-true _ b.0 in grind (arith)),
      b.1,
      (λ zero_first.
          elim (or_cases (eqb (length word) 1) (not (eqb (get_or word 0 0) 48)) a.1) [
            | inl one ↦ eqb-true _ _ one
            | inr other ↦ absurd (let no = not-true _ other in let yes = eq-eqb _ _ zero_first in grind (arith))
          ]),
    )

pub utf8_from_numeral : (word : List ℕ) → is_numeral word ≡ true → IsUtf8 word
utf8_from_numeral word h = IsUtf8-from_ascii word (IsAscii-from_digits word (own.to word (numeral_parts word h).1))

-- a numeral that does not parse is too large
pub number_none : {E : Type 0} (word : List ℕ) (e : E) → is_numeral word ≡ true → ParsesUnsigned 64 10 word (Err e)
    → number_at (2 ^ 64) word ≡ None
unfolding number_at
number_none word e h p =
    let parts = numeral_parts word h in
    let no = parse_digits own 64 word (Err e) p parts.1 in
    let big : ltb (digits_value 10 word) (2 ^ 64) ≡ false =
    elim (cases_lt (digits_value 10 word) (2 ^ 64)) [
      | inl below ↦ absurd (no (parts.0, below))
      | inr above ↦ le-ltb _ _ above
    ] in
    rw (h, big) refl

pub number_takes : (limit : ℕ) (word : List ℕ) (n : ℕ) → limit ≤ 2 ^ 64 → number_at limit word ≡ Some n
    → (word ≡ decimal n) × (n < limit)
unfolding number_at
number_takes limit word n small h =
    let found = cond_some (is_numeral word && ltb (digits_value 10 word) limit) (digits_value 10 word) n h in
    let tests = and_parts (is_numeral word) (ltb (digits_value 10 word) limit) found.0 in
    let parts = numeral_parts word tests.0 in
    let below : digits_value 10 word < limit = ltb-true _ _ tests.1 in
    rw (← found.1) (sym (decimal-digits_value own word parts.1 parts.0 parts.2 (omega arith)), below)

-- a number's digits are a numeral
pub numeral-decimal : (n : ℕ) → n < 2 ^ 64 → is_numeral (decimal n) ≡ true
numeral-decimal n h =
    let some : not (eqb (length (decimal n)) 0) ≡ true =
    let l = decimal_nonempty n h in not_from_false _ (ne_eqb _ _ (λ e. omega arith)) in
    let digits = digits_decimal own n h in
    let last : (eqb (length (decimal n)) 1 || not (eqb (get_or (decimal n) 0 0) 48)) ≡ true =
    elim (cases_lt 0 n) [
      | inl pos ↦
          let f : 48 < get_or (decimal n) 0 0 = first_decimal n pos h in
          or_right _ _ (not_from_false _ (ne_eqb _ _ (λ (e : get_or (decimal n) 0 0 ≡ 48). omega arith)))
      | inr none ↦ or_left _ _ (eq-eqb _ _ (ap length (decimal_digit n (omega arith))))
    ] in
    and_from _ _ (and_from _ _ some digits) last

pub number_again : (limit n : ℕ) → limit ≤ 2 ^ 64 → n < limit → number_at limit (decimal n) ≡ Some n
unfolding number_at
number_again limit n small h =
    let fits : n < 2 ^ 64 = omega arith in
    let v : digits_value 10 (decimal n) ≡ n = digits_value-decimal own n fits in
    let t : ltb n limit ≡ true = lt-ltb _ _ h in
    rw (numeral-decimal n fits, v, t) refl

-- ---- paths

-- an option that is there only where a test passes
pub when : {A : Type 0} (b : Bool) (o : Option A) (x : A) → cond b o None ≡ Some x → (b ≡ true) × (o ≡ Some x)
when true o x h = (refl, h)
when false o x h = cc h

names_take : (bytes : List ℕ) (names : List (List ℕ)) → names_at bytes ≡ Some names
    → (bytes ≡ join_with_byte 47 names) × IsPath names
names_take [] names h = let e = same_Some [] names h in rw (← e) (refl, refl)
names_take (b ∷ bytes) names h =
    let split = slice_split (λ x. eqb x 47) (b ∷ bytes) in
    let found = cond_some (list_all is_name split) split names h in
    rw (← found.1) (sym (join_with_byte-slice_split 47 (b ∷ bytes)), found.0)

pub path_takes : (word : List ℕ) (names : List (List ℕ)) → path_at word ≡ Some names
    → (word ≡ path_text names) × IsPath names
unfolding path_at
path_takes [] names h = cc h
path_takes (b ∷ bytes) names h =
    let found = when (eqb b 47) (names_at bytes) names h in
    let is : b ≡ 47 = eqb-true b 47 found.0 in
    let rest = names_take bytes names found.1 in
    (rw (is, rest.0) refl, rest.1)

-- a byte of a name is no slash, no space
name_lacks : (c : ℕ) (b : ℕ) → (c ≡ 47) ⊎ (c ≡ 32) → is_name_byte b ≡ true → not (eqb b c) ≡ true
name_lacks c b which h =
    let p = and_parts _ (not (eqb b 37)) h in
    let q = and_parts _ (not (eqb b 47)) p.0 in
    let r = and_parts (leb 33 b) (leb b 126) q.0 in
    let low = leb-true 33 b r.0 in
    elim which [
      | inl e ↦ rw e q.1
      | inr e ↦ rw e (not_from_false _ (ne_eqb b 32 (λ same. omega arith)))
    ]

pub names_lack : (c : ℕ) → (c ≡ 47) ⊎ (c ≡ 32) → (names : List (List ℕ)) → IsPath names → list_all (lacks c) names ≡ true
names_lack c which names h =
    list_all-weaker is_name (lacks c)
    (λ name yes.
    list_all-weaker is_name_byte (λ b. not (eqb b c)) (λ b e. name_lacks c b which e) name
    (and_parts (not (eqb (length name) 0)) (list_all is_name_byte name) yes).1)
    names h

-- names with slashes between them are read again
names_again : (names : List (List ℕ)) → IsPath names → names_at (join_with_byte 47 names) ≡ Some names
names_again [] h = refl
names_again ([] ∷ names) h = cc h
names_again ((x ∷ xs) ∷ []) h =
    let split = split_joined 47 (x ∷ xs) [] refl (names_lack 47 (inl refl) ((x ∷ xs) ∷ []) h) in
    ap all_names split ∙ ap (λ b. cond b (Some ((x ∷ xs) ∷ [])) None) h
names_again ((x ∷ xs) ∷ y ∷ ys) h =
    let split = split_joined 47 (x ∷ xs) (y ∷ ys) refl (names_lack 47 (inl refl) ((x ∷ xs) ∷ y ∷ ys) h) in
    ap all_names split ∙ ap (λ b. cond b (Some ((x ∷ xs) ∷ y ∷ ys)) None) h

pub path_again : (names : List (List ℕ)) → IsPath names → path_at (path_text names) ≡ Some names
unfolding path_at
path_again names h = names_again names h

-- ---- bytes

-- at a digit of the text, the table gives the digit back
abbrev wrong_digit : ℕ → Bool
wrong_digit c = is_lower_digit c && not (eqb (slice_index lower_digits (unwrap_or (hex_digit_value c) 0)) c)

lower_below : (c : ℕ) → is_lower_digit c ≡ true → c < 128
lower_below c h =
    elim (or_cases (leb 48 c && leb c 57) (leb 97 c && leb c 102) h) [
      | inl a ↦ let top = leb-true c 57 (and_parts (leb 48 c) (leb c 57) a).1 in omega arith
      | inr a ↦ let top = leb-true c 102 (and_parts (leb 97 c) (leb c 102) a).1 in omega arith
    ]

digit_back : (c v : ℕ) → is_lower_digit c ≡ true → hex_digit_value c ≡ Some v → slice_index lower_digits v ≡ c
digit_back c v low h =
    let none : wrong_digit c ≡ false = agree_below_at wrong_digit (λ _. false) 128 c refl (lower_below c low) in
    let test : not (eqb (slice_index lower_digits (unwrap_or (hex_digit_value c) 0)) c) ≡ false =
    sym (ap (λ b. b && not (eqb (slice_index lower_digits (unwrap_or (hex_digit_value c) 0)) c)) low) ∙ none in
    let same : slice_index lower_digits (unwrap_or (hex_digit_value c) 0) ≡ c = eqb-true _ _ (not-false _ test) in
    ap (λ o. slice_index lower_digits (unwrap_or o 0)) (sym h) ∙ same

-- what an `Ok` after `>>=` shows
bind_ok : {A B : Type 0} (r : Result A FromHexError) (f : A → Result B FromHexError) (y : B)
    → (r >>= f) ≡ Ok y → (x : A) × (r ≡ Ok x) × (f x ≡ Ok y)
bind_ok (Ok x) f y h = (x, refl, h)
bind_ok (Err e) f y h = cc h

digit_read : (c i : ℕ) (o : Option ℕ) (v : ℕ) → digit_or_error c i o ≡ Ok v → o ≡ Some v
digit_read c i (Some w) v h = ap Some (ap (λ (r : Result ℕ FromHexError). result_unwrap_or r 0) h)
digit_read c i None v h = cc h

digit_small : (c v : ℕ) → hex_digit_value c ≡ Some v → v < 16
digit_small c v h = grind (arith)

-- digits of the text are those of the bytes that they decode to
lower_pairs : (i : ℕ) (s bytes : List ℕ) → decode_pairs i s ≡ Ok bytes → list_all is_lower_digit s ≡ true
    → encode_with lower_digits bytes ≡ s
unfolding decode_pairs encode_with
lower_pairs i [] bytes h low =
    let e : [] ≡ bytes = ap (λ (r : Result (List ℕ) FromHexError). result_unwrap_or r []) h in
    rw (← e) refl
lower_pairs i (a ∷ []) bytes h low = cc h
lower_pairs i (a ∷ b ∷ rest) bytes h low =
    let l0 = and_parts (is_lower_digit a) (list_all is_lower_digit (b ∷ rest)) low in
    let l1 = and_parts (is_lower_digit b) (list_all is_lower_digit rest) l0.1 in
    let p0 = bind_ok (pair_value a b i) _ bytes h in
    let p1 = bind_ok (value_at a i) _ p0.0 p0.1 in
    let p2 = bind_ok (value_at b (i + 1)) _ p0.0 p1.2 in
    let p3 = bind_ok (decode_pairs (i + 2) rest) _ bytes p0.2 in
    let ra = digit_read a i (hex_digit_value a) p1.0 p1.1 in
    let rb = digit_read b (i + 1) (hex_digit_value b) p2.0 p2.1 in
    let sa = digit_small a p1.0 ra in
    let sb = digit_small b p2.0 rb in
    let byte : p1.0 * 16 + p2.0 ≡ p0.0 = ap (λ (r : Result ℕ FromHexError). result_unwrap_or r 0) p2.2 in
    let high : p0.0 / 16 ≡ p1.0 = omega arith in
    let below : p0.0 % 16 ≡ p2.0 = omega arith in
    let whole : p0.0 ∷ p3.0 ≡ bytes = ap (λ (r : Result (List ℕ) FromHexError). result_unwrap_or r []) p3.2 in
    let tail = lower_pairs (i + 2) rest p3.0 p3.1 l1.1 in
    rw (← whole) (rw (high, below, digit_back a p1.0 l0.0 ra, digit_back b p2.0 l1.0 rb, tail) refl)

-- the text of bytes has such digits
digit_is_lower : (d : ℕ) → d < 16 → is_lower_digit (slice_index lower_digits d) ≡ true
digit_is_lower d h = agree_below_at (λ x. is_lower_digit (slice_index lower_digits x)) (λ _. true) 16 d refl h

pub lower_encode : (bytes : List ℕ) → IsBytes bytes → list_all is_lower_digit (encode_lower bytes) ≡ true
unfolding encode_with
lower_encode [] h = refl
lower_encode (b ∷ bytes) h =
    let fits : b < 256 = h 0 in
    let high : b / 16 < 16 = omega arith in
    let below : b % 16 < 16 = omega arith in
    and_from _ _ (digit_is_lower (b / 16) high)
    (and_from _ _ (digit_is_lower (b % 16) below) (lower_encode bytes (λ i. h (suc i))))

ok_from_option : {A E : Type 0} (r : Result A E) (x : A) → result_ok r ≡ Some x → r ≡ Ok x
ok_from_option (Ok y) x h = ap Ok (same_Some y x h)
ok_from_option (Err e) x h = cc h

pub bytes_take : (word bytes : List ℕ) → bytes_at word ≡ Some bytes
    → (word ≡ encode_lower bytes) × (0 < length bytes) × IsBytes bytes
unfolding bytes_at
bytes_take word bytes h =
    let found = when (not (eqb (length word) 0) && list_all is_lower_digit word) (result_ok (decode_of word)) bytes h in
    let tests = and_parts (not (eqb (length word) 0)) (list_all is_lower_digit word) found.0 in
    let some : length word ≡ 0 → ⊥ = eqb-false (length word) 0 (not-true _ tests.0) in
    let ok = ok_from_option (decode_of word) bytes found.1 in
    let parts = decode_of-ok word bytes ok in
    let len = parts.2 in
    let pairs : decode_pairs 0 word ≡ Ok bytes = sym (decode_of-even word parts.0) ∙ ok in
    (sym (lower_pairs 0 word bytes pairs tests.1), omega arith, parts.3)

pub bytes_again : (bytes : List ℕ) → 0 < length bytes → IsBytes bytes → bytes_at (encode_lower bytes) ≡ Some bytes
unfolding bytes_at
bytes_again bytes some h =
    let len = length-encode_with lower_digits bytes in
    let t : eqb (length (encode_lower bytes)) 0 ≡ false = ne_eqb _ _ (λ (e : length (encode_lower bytes) ≡ 0). omega arith) in
    rw (t, lower_encode bytes h, decode_of-encode_lower bytes h) refl

-- ---- what a script can name, a tree can

byte_is : (b : ℕ) → is_name_byte b ≡ true → (b ≢ 0) × (b ≢ 47)
byte_is b h =
    let p = and_parts _ (not (eqb b 37)) h in
    let q = and_parts _ (not (eqb b 47)) p.0 in
    let r = and_parts (leb 33 b) (leb b 126) q.0 in
    let low = leb-true 33 b r.0 in
    (λ e. absurd (omega arith), λ e. eqb-false b 47 (not-true _ q.1) e)

name_is : (name : List ℕ) → is_name name ≡ true → IsName name
name_is name h =
    let parts = and_parts (not (eqb (length name) 0)) (list_all is_name_byte name) h in
    record {
      some = λ e. eqb-false (length name) 0 (not-true _ parts.0) (ap length e);
      bytes = All-weaker (λ b. is_name_byte b ≡ true) (λ b. (b ≢ 0) × (b ≢ 47)) byte_is name (AllPass-from_list_all is_name_byte name parts.1);
    }

pub AreNames-from_script : (names : List (List ℕ)) → list_all is_name names ≡ true → AreNames names
AreNames-from_script names h = All-weaker (λ n. is_name n ≡ true) IsName name_is names (AllPass-from_list_all is_name names h)
