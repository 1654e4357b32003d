-- Each answer is one line: it has no newline but its last byte.
use Rattle.std.proofs.Common.{◌≡◌, ◌/◌, ◌%◌, ℕ, zero, suc, Bool, true, false, not, ◌&&◌, ◌==◌, if◌then◌else◌, List, [], ◌∷◌, ◌++◌, refl, ap, arith}
use Rattle.std.specs.Prelude.{flat_map, slice_index, codes, decimal}
use Rattle.std.specs.List.{list_all, onto_first}
use Rattle.std.specs.Fmt.{digit_glyph, digits_onto, digits}
use Rattle.std.proofs.lemmas.Bool.Decides.{nat_tests}
use Rattle.hex.specs.Hex.{encode_lower, encode_with, lower_digits}
use Rattle.hl_tree.specs.declared.call.Refusal.{Refusal}
use Rattle.hl_tree.specs.declared.call.Refusal.TheVariants as refusal
use Rattle.hl_tree.specs.declared.call.Reply.{Reply}
use Rattle.hl_tree.specs.declared.call.Reply.TheVariants as reply
use Rattle.hl_script.specs.declared.said.Said.{Said}
use Rattle.hl_script.specs.declared.said.Said.TheVariants as said
use Rattle.hl_script.specs.Input.{is_newline, lines_of, HasNoNewline}
use Rattle.hl_script.specs.Answer.{is_plain, printed_byte, printed_name, printed_path, printed_data, printed_number, refusal_text, reply_word, reply_fields, answer_word, answer_fields, answer_text, answer_line}

both : (x y : Bool) → (not x && y) ≡ true → (x ≡ false) × (y ≡ true)
both true y e = cc
both false y e = (refl, e)

-- by computing
by_test : (bytes : List ℕ) → list_all (λ b. not (is_newline b)) bytes ≡ true → HasNoNewline bytes
by_test [] e = tt
by_test (b ∷ bytes) e = let parts = both (is_newline b) (list_all (λ b. not (is_newline b)) bytes) e in (parts.0, by_test bytes parts.1)

none_append : (xs ys : List ℕ) → HasNoNewline xs → HasNoNewline ys → HasNoNewline (xs ++ ys)
none_append [] ys a b = b
none_append (x ∷ xs) ys a b = (a.0, none_append xs ys a.1 b)

none_flat : {X : Type 0} (f : X → List ℕ) → ((x : X) → HasNoNewline (f x)) → (xs : List X) → HasNoNewline (flat_map f xs)
none_flat f each [] = tt
none_flat f each (x ∷ xs) = none_append (f x) (flat_map f xs) (each x) (none_flat f each xs)

none_if : (b : Bool) (xs ys : List ℕ) → HasNoNewline xs → HasNoNewline ys → HasNoNewline (if b then xs else ys)
none_if true xs ys a b = a
none_if false xs ys a b = b

-- ---- numbers and digits

glyph : (d : ℕ) → is_newline (digit_glyph false d) ≡ false
glyph d = grind (arith, nat_tests)

none_digits : (k n : ℕ) (acc : List ℕ) → HasNoNewline acc → HasNoNewline (digits_onto k 10 false n acc)
none_digits zero n acc a = a
none_digits (suc k) n acc a =
    none_if (n / 10 == 0) (digit_glyph false (n % 10) ∷ acc) (digits_onto k 10 false (n / 10) (digit_glyph false (n % 10) ∷ acc))
    (glyph (n % 10), a) (none_digits k (n / 10) (digit_glyph false (n % 10) ∷ acc) (glyph (n % 10), a))

none_decimal : (n : ℕ) → HasNoNewline (decimal n)
unfolding digits
none_decimal n = none_digits 64 n [] tt

none_at : (t : List ℕ) → HasNoNewline t → (i : ℕ) → is_newline (slice_index t i) ≡ false
none_at [] a i = refl
none_at (x ∷ xs) a zero = a.0
none_at (x ∷ xs) a (suc i) = none_at xs a.1 i

none_encoded : (bytes : List ℕ) → HasNoNewline (encode_lower bytes)
unfolding encode_with
none_encoded [] = tt
none_encoded (b ∷ bytes) = (none_at lower_digits (by_test lower_digits refl) (b / 16), (none_at lower_digits (by_test lower_digits refl) (b % 16), none_encoded bytes))

-- ---- names

plain_is_none : (b : ℕ) → is_plain b ≡ true → is_newline b ≡ false
plain_is_none b e = grind (arith, nat_tests)

none_byte_by : (b : ℕ) (p : Bool) → is_plain b ≡ p → HasNoNewline (if p then b ∷ [] else 37 ∷ encode_lower (b ∷ []))
none_byte_by b true e = (plain_is_none b e, tt)
none_byte_by b false e = (refl, none_encoded (b ∷ []))

none_name : (name : List ℕ) → HasNoNewline (printed_name name)
none_name name = none_flat printed_byte (λ b. none_byte_by b (is_plain b) refl) name

none_path : (path : List (List ℕ)) → HasNoNewline (printed_path path)
none_path [] = (refl, tt)
none_path (name ∷ names) = none_flat (λ n. 47 ∷ printed_name n) (λ n. (refl, none_name n)) (name ∷ names)

none_data : (bytes : List ℕ) → HasNoNewline (printed_data bytes)
none_data [] = tt
none_data (b ∷ bytes) = (refl, none_encoded (b ∷ bytes))

none_number : (n : ℕ) → HasNoNewline (printed_number n)
none_number n = (refl, none_decimal n)

-- ---- answers

none_refusal : (why : Refusal) → HasNoNewline (refusal_text why)
none_refusal refusal.Enoent = by_test (codes "err ENOENT") refl
none_refusal refusal.Eexist = by_test (codes "err EEXIST") refl
none_refusal refusal.Enotdir = by_test (codes "err ENOTDIR") refl
none_refusal refusal.Eisdir = by_test (codes "err EISDIR") refl
none_refusal refusal.Enotempty = by_test (codes "err ENOTEMPTY") refl
none_refusal refusal.Einval = by_test (codes "err EINVAL") refl
none_refusal refusal.Efbig = by_test (codes "err EFBIG") refl
none_refusal refusal.Enametoolong = by_test (codes "err ENAMETOOLONG") refl
none_refusal refusal.Einodes = by_test (codes "err EINODES") refl

none_reply : (r : Reply) → HasNoNewline (reply_word r) × HasNoNewline (reply_fields r)
none_reply reply.Ok = (by_test (codes "ok") refl, tt)
none_reply (reply.Data bytes) = (by_test (codes "data") refl, none_data bytes)
none_reply (reply.File size) = (by_test (codes "file") refl, none_number size)
none_reply (reply.Dir count) = (by_test (codes "dir") refl, none_number count)
none_reply (reply.Names names) = (by_test (codes "names") refl, none_flat (λ n. 32 ∷ printed_name n) (λ n. (refl, none_name n)) names)
none_reply (reply.Refused why) = (none_refusal why, tt)
none_reply reply.Memory = (tt, tt)

none_answer : (a : Said) → HasNoNewline (answer_word a) × HasNoNewline (answer_fields a)
none_answer (said.Reply r) = none_reply r
none_answer (said.PathRefused why) = (none_refusal why, tt)
none_answer said.NoSpace = (by_test (codes "err ENOSPC") refl, tt)
none_answer said.Eio = (by_test (codes "err EIO") refl, tt)
none_answer said.LogFull = (by_test (codes "err ELOG") refl, tt)
none_answer said.Evol = (by_test (codes "err EVOL") refl, tt)
none_answer (said.Ebad kept found) = (by_test (codes "err EBAD") refl, tt)
none_answer (said.Stopped faults) = (by_test (codes "stopped") refl, tt)
none_answer (said.Ranked paths) = (by_test (codes "ranked") refl, none_flat (λ p. 32 ∷ printed_path p) (λ p. (refl, none_path p)) paths)
none_answer (said.Staged blocks volume slot line) =
    let to_volume_word = printed_number blocks ++ codes " volume" in
    let to_volume = to_volume_word ++ printed_number volume in
    let to_slot_word = to_volume ++ codes " slot" in
    let to_slot = to_slot_word ++ printed_number slot in
    let to_line_word = to_slot ++ codes " line" in
    let a = none_append (printed_number blocks) (codes " volume") (none_number blocks) (by_test (codes " volume") refl) in
    let b = none_append to_volume_word (printed_number volume) a (none_number volume) in
    let c = none_append to_volume (codes " slot") b (by_test (codes " slot") refl) in
    let d = none_append to_slot_word (printed_number slot) c (none_number slot) in
    let e = none_append to_slot (codes " line") d (by_test (codes " line") refl) in
    (by_test (codes "staged") refl, none_append to_line_word (printed_number line) e (none_number line))
none_answer said.Nothing = (by_test (codes "nothing") refl, tt)
none_answer said.NoLine = (by_test (codes "lines") refl, tt)
none_answer said.NoSlot = (by_test (codes "full") refl, tt)
none_answer (said.Job job) = (by_test (codes "job") refl, none_number job)
none_answer said.NoneLeft = (by_test (codes "none") refl, tt)
none_answer (said.Busy volume job) = (by_test (codes "busy") refl, none_append (printed_number volume) (printed_number job) (none_number volume) (none_number job))
none_answer said.Drives = (by_test (codes "drives") refl, tt)
none_answer said.Here = (by_test (codes "here") refl, tt)
none_answer said.NoJob = (by_test (codes "nojob") refl, tt)
none_answer said.Unmoved = (by_test (codes "unmoved") refl, tt)
none_answer said.Moved = (by_test (codes "moved") refl, tt)
none_answer said.Medium = (by_test (codes "medium") refl, tt)
none_answer said.Home = (by_test (codes "home") refl, tt)
none_answer said.Stuck = (by_test (codes "stuck") refl, tt)
none_answer said.Bound = (by_test (codes "bound") refl, tt)
none_answer said.Stale = (by_test (codes "stale") refl, tt)
none_answer (said.MovedTo volume slot) = (by_test (codes "moved") refl, none_append (printed_number volume) (printed_number slot) (none_number volume) (none_number slot))
none_answer said.Ejected = (by_test (codes "ok") refl, tt)
none_answer said.Checkpointed = (by_test (codes "ok") refl, tt)
none_answer said.Staging = (by_test (codes "staging") refl, tt)
none_answer said.Empty = (by_test (codes "empty") refl, tt)
none_answer said.InJob = (by_test (codes "injob") refl, tt)
none_answer (said.Cleaned segment) = (by_test (codes "cleaned") refl, none_number segment)
none_answer said.Memory = (tt, tt)

-- the text of an answer has no newline
pub none_text : (a : Said) → HasNoNewline (answer_text a)
none_text a = let parts = none_answer a in none_append (answer_word a) (answer_fields a) parts.0 parts.1

-- a text without a newline, with one behind it, is one line
one_line : (text : List ℕ) → HasNoNewline text → lines_of (text ++ 10 ∷ []) ≡ text ∷ []
one_line [] none = refl
one_line (b ∷ text) none = rw none.0 (ap (onto_first b) (one_line text none.1))

pub line_of_answer : (a : Said) → lines_of (answer_line a) ≡ answer_text a ∷ []
line_of_answer a = one_line (answer_text a) (none_text a)
