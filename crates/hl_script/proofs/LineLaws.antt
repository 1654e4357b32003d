-- What a line's bytes are, and back.
use Rattle.std.proofs.Common.{◌≡◌, ◌<◌, ◌≤◌, ◌^◌, ◌+◌, ◌-◌, subst, ℕ, Bool, true, false, cond, eqb, ltb, leb, not, ◌&&◌, ◌⊎◌, inl, inr, List, [], ◌∷◌, ◌++◌, length, map, Some, None, Ok, Err, Option, Result, refl, sym, ap, ◌∙◌, arith}
use Rattle.std.proofs.lemmas.Bool.{and_parts, and_from, not_from_false, ne_eqb, leb-true, le-leb, eqb-true, ltb-true, lt-ltb}
use Rattle.std.proofs.lemmas.List.{length-map}
use Rattle.std.proofs.lemmas.Option.{same_Some, cond_some}
use Rattle.std.proofs.lemmas.Fmt.{digits_decimal, decimal_digit}
use Rattle.std.proofs.lemmas.List.Folds.{list_all-append}
use Rattle.std.proofs.lemmas.List.Splits.{join_with_byte-slice_split}
use Rattle.std.proofs.lemmas.Slice.Eq.{bytes_eq-Decides}
use Rattle.std.specs.Char.{is_ascii_digit}
use Rattle.std.specs.Fmt.{decimal}
use Rattle.std.specs.List.{list_all, slice_split, join_with_byte}
use Rattle.std.specs.Prelude.{codes, bytes_eq, IfOk}
use Rattle.hex.specs.Hex.{encode_lower, IsBytes}
use Rattle.hl_tree.specs.declared.call.Call.{Call}
use Rattle.hl_tree.specs.declared.call.Call.TheVariants as call
use Rattle.hl_script.specs.declared.line.Line.{Line}
use Rattle.hl_script.specs.declared.line.Line.TheVariants as line
use Rattle.hl_script.specs.declared.kind.Kind.{Kind}
use Rattle.hl_script.specs.declared.kind.Kind.TheVariants as kind
use Rattle.hl_script.specs.Kinds.{keyword, kind_at}
use Rattle.hl_script.specs.declared.line.BadLine.{BadLine}
use Rattle.hl_script.specs.declared.line.BadLine.TheVariants.{Bad, Memory}
use Rattle.hl_script.specs.Words.{path_text, path_at, number_at, bytes_at, is_lower_digit}
use Rattle.hl_script.specs.Spelling.{kind_of, arguments, words, spelling, IsPath, ArePaths, IsLine, IsUserLine, user_spelling}
use Rattle.hl_script.specs.Reading.{◌>>=◌, Reads, Names, no_args_at, one_path_at, two_paths_at, one_number_at, path_number_at, path_numbers_at, path_number_bytes_at, paths_at, some_paths_at, line_of_kind, line_at, text_at, call_of, user_line_at}
use Rattle.hl_script.proofs.PartLaws.{lacks, split_joined, list_all-weaker}
use Rattle.hl_script.proofs.WordLaws.{when, own, path_takes, path_again, number_takes, number_again, bytes_take, bytes_again, names_lack, lower_encode}

-- what a `Some` after `>>=` shows
bind_some : {A B : Type 0} {P : Type 0} (o : Option A) (f : A → Option B) (y : B) → (o >>= f) ≡ Some y
    → ((x : A) → o ≡ Some x → f x ≡ Some y → P) → P
bind_some (Some x) f y h k = k x refl h
bind_some None f y h k = cc h

-- ---- the arguments, by their shape

no_args_take : (args : List (List ℕ)) (a : Unit {0}) → no_args_at args ≡ Some a → args ≡ []
unfolding no_args_at
no_args_take [] a h = refl
no_args_take (x ∷ args) a h = cc h

one_path_takes : (args : List (List ℕ)) (p : Names) → one_path_at args ≡ Some p → (path_text p ∷ [] ≡ args) × IsPath p
unfolding one_path_at
one_path_takes [] p h = cc h
one_path_takes (w ∷ []) p h = let t = path_takes w p h in (ap (λ x. x ∷ []) (sym t.0), t.1)
one_path_takes (w ∷ x ∷ args) p h = cc h

one_number_takes : (limit : ℕ) (args : List (List ℕ)) (n : ℕ) → limit ≤ 2 ^ 64 → one_number_at limit args ≡ Some n
    → (decimal n ∷ [] ≡ args) × (n < limit)
unfolding one_number_at
one_number_takes limit [] n s h = cc h
one_number_takes limit (w ∷ []) n s h = let t = number_takes limit w n s h in (ap (λ x. x ∷ []) (sym t.0), t.1)
one_number_takes limit (w ∷ x ∷ args) n s h = cc h

two_paths_take : (args : List (List ℕ)) (a : Names × Names) → two_paths_at args ≡ Some a
    → (path_text a.0 ∷ path_text a.1 ∷ [] ≡ args) × (IsPath a.0 × IsPath a.1)
unfolding two_paths_at
two_paths_take [] a h = cc h
two_paths_take (w ∷ []) a h = cc h
two_paths_take (w ∷ x ∷ []) a h =
    bind_some (path_at w) _ a h (λ p e h1.
    bind_some (path_at x) _ a h1 (λ q f h2.
    let pt = path_takes w p e in
    let qt = path_takes x q f in
    rw (← same_Some _ a h2) (rw (pt.0, qt.0) refl, (pt.1, qt.1))))
two_paths_take (w ∷ x ∷ y ∷ args) a h = cc h

path_number_takes : (limit : ℕ) (args : List (List ℕ)) (a : Names × ℕ) → limit ≤ 2 ^ 64 → path_number_at limit args ≡ Some a
    → (path_text a.0 ∷ decimal a.1 ∷ [] ≡ args) × (IsPath a.0 × (a.1 < limit))
unfolding path_number_at
path_number_takes limit [] a s h = cc h
path_number_takes limit (w ∷ []) a s h = cc h
path_number_takes limit (w ∷ x ∷ []) a s h =
    bind_some (path_at w) _ a h (λ p e h1.
    bind_some (number_at limit x) _ a h1 (λ n f h2.
    let pt = path_takes w p e in
    let nt = number_takes limit x n s f in
    rw (← same_Some _ a h2) (rw (pt.0, nt.0) refl, (pt.1, nt.1))))
path_number_takes limit (w ∷ x ∷ y ∷ args) a s h = cc h

path_numbers_take : (args : List (List ℕ)) (a : Names × ℕ × ℕ) → path_numbers_at args ≡ Some a
    → (path_text a.0 ∷ decimal a.1 ∷ decimal a.2 ∷ [] ≡ args) × (IsPath a.0 × (a.1 < 2 ^ 64) × (a.2 < 2 ^ 64))
unfolding path_numbers_at
path_numbers_take [] a h = cc h
path_numbers_take (w ∷ []) a h = cc h
path_numbers_take (w ∷ x ∷ []) a h = cc h
path_numbers_take (w ∷ x ∷ y ∷ []) a h =
    bind_some (path_at w) _ a h (λ p e h1.
    bind_some (number_at (2 ^ 64) x) _ a h1 (λ n f h2.
    bind_some (number_at (2 ^ 64) y) _ a h2 (λ m g h3.
    let pt = path_takes w p e in
    let nt = number_takes (2 ^ 64) x n (omega arith) f in
    let mt = number_takes (2 ^ 64) y m (omega arith) g in
    rw (← same_Some _ a h3) (rw (pt.0, nt.0, mt.0) refl, (pt.1, nt.1, mt.1)))))
path_numbers_take (w ∷ x ∷ y ∷ z ∷ args) a h = cc h

path_number_bytes_take : (args : List (List ℕ)) (a : Names × ℕ × List ℕ) → path_number_bytes_at args ≡ Some a
    → (path_text a.0 ∷ decimal a.1 ∷ encode_lower a.2 ∷ [] ≡ args) × (IsPath a.0 × (a.1 < 2 ^ 64) × (0 < length a.2) × IsBytes a.2)
unfolding path_number_bytes_at
path_number_bytes_take [] a h = cc h
path_number_bytes_take (w ∷ []) a h = cc h
path_number_bytes_take (w ∷ x ∷ []) a h = cc h
path_number_bytes_take (w ∷ x ∷ y ∷ []) a h =
    bind_some (path_at w) _ a h (λ p e h1.
    bind_some (number_at (2 ^ 64) x) _ a h1 (λ n f h2.
    bind_some (bytes_at y) _ a h2 (λ b g h3.
    let pt = path_takes w p e in
    let nt = number_takes (2 ^ 64) x n (omega arith) f in
    let bt = bytes_take y b g in
    rw (← same_Some _ a h3) (rw (pt.0, nt.0, bt.0) refl, (pt.1, nt.1, bt.1, bt.2)))))
path_number_bytes_take (w ∷ x ∷ y ∷ z ∷ args) a h = cc h

paths_take : (args : List (List ℕ)) (ps : List Names) → paths_at args ≡ Some ps
    → (map path_text ps ≡ args) × ArePaths ps
unfolding paths_at
paths_take [] ps h = let e = same_Some [] ps h in rw (← e) (refl, tt)
paths_take (w ∷ ws) ps h =
    bind_some (path_at w) _ ps h (λ p e h1.
    bind_some (paths_at ws) _ ps h1 (λ qs f h2.
    let t = path_takes w p e in
    let rest = paths_take ws qs f in
    rw (← same_Some _ ps h2) (rw (t.0, rest.0) refl, (t.1, rest.1))))

paths_again : (ps : List Names) → ArePaths ps → paths_at (map path_text ps) ≡ Some ps
unfolding paths_at
paths_again [] h = refl
paths_again (p ∷ ps) h = rw (path_again p h.0, paths_again ps h.1) refl

some_paths_take : (args : List (List ℕ)) (ps : List Names) → some_paths_at args ≡ Some ps
    → (map path_text ps ≡ args) × ((0 < length ps) × (length ps < 65) × ArePaths ps)
unfolding some_paths_at
some_paths_take args ps h =
    let found = when (ltb 0 (length args) && ltb (length args) 65) (paths_at args) ps h in
    let tests = and_parts (ltb 0 (length args)) (ltb (length args) 65) found.0 in
    let t = paths_take args ps found.1 in
    let len = ap length t.0 in
    let same = length-map ps path_text in
    let low = ltb-true 0 (length args) tests.0 in
    let high = ltb-true (length args) 65 tests.1 in
    (t.0, (omega arith, omega arith, t.1))

some_paths_again : (ps : List Names) → 0 < length ps → length ps < 65 → ArePaths ps
    → some_paths_at (map path_text ps) ≡ Some ps
unfolding some_paths_at
some_paths_again ps low high h =
    let same = length-map ps path_text in
    let a : ltb 0 (length (map path_text ps)) ≡ true = lt-ltb _ _ (omega arith) in
    let b : ltb (length (map path_text ps)) 65 ≡ true = lt-ltb _ _ (omega arith) in
    rw (a, b, paths_again ps h) refl

-- ---- each kind

-- A line that was read from the arguments of a kind.
record IsReadFrom (k : Kind) (ws : List (List ℕ)) (l : Line) : Type 0 where
  kind : kind_of l ≡ k
  args : arguments l ≡ ws
  fits : IsLine l

kind_takes : (k : Kind) (args : List (List ℕ)) (l : Line) → line_of_kind k args ≡ Some l → IsReadFrom k args l
unfolding line_of_kind
kind_takes kind.Mkdir args l h =
    bind_some (one_path_at args) _ l h (λ a e h1.
    let t = one_path_takes args a e in
    rw (← same_Some _ l h1) (record { kind = refl; args = t.0; fits = t.1 }))
kind_takes kind.Create args l h =
    bind_some (one_path_at args) _ l h (λ a e h1.
    let t = one_path_takes args a e in
    rw (← same_Some _ l h1) (record { kind = refl; args = t.0; fits = t.1 }))
kind_takes kind.Stat args l h =
    bind_some (one_path_at args) _ l h (λ a e h1.
    let t = one_path_takes args a e in
    rw (← same_Some _ l h1) (record { kind = refl; args = t.0; fits = t.1 }))
kind_takes kind.List args l h =
    bind_some (one_path_at args) _ l h (λ a e h1.
    let t = one_path_takes args a e in
    rw (← same_Some _ l h1) (record { kind = refl; args = t.0; fits = t.1 }))
kind_takes kind.Unlink args l h =
    bind_some (one_path_at args) _ l h (λ a e h1.
    let t = one_path_takes args a e in
    rw (← same_Some _ l h1) (record { kind = refl; args = t.0; fits = t.1 }))
kind_takes kind.Rmdir args l h =
    bind_some (one_path_at args) _ l h (λ a e h1.
    let t = one_path_takes args a e in
    rw (← same_Some _ l h1) (record { kind = refl; args = t.0; fits = t.1 }))
kind_takes kind.Write args l h =
    bind_some (path_number_bytes_at args) _ l h (λ a e h1.
    let t = path_number_bytes_take args a e in
    rw (← same_Some _ l h1) (record { kind = refl; args = t.0; fits = t.1 }))
kind_takes kind.Cut args l h =
    bind_some (path_number_at (2 ^ 64) args) _ l h (λ a e h1.
    let t = path_number_takes (2 ^ 64) args a (omega arith) e in
    rw (← same_Some _ l h1) (record { kind = refl; args = t.0; fits = t.1 }))
kind_takes kind.Read args l h =
    bind_some (path_numbers_at args) _ l h (λ a e h1.
    let t = path_numbers_take args a e in
    rw (← same_Some _ l h1) (record { kind = refl; args = t.0; fits = t.1 }))
kind_takes kind.Rename args l h =
    bind_some (two_paths_at args) _ l h (λ a e h1.
    let t = two_paths_take args a e in
    rw (← same_Some _ l h1) (record { kind = refl; args = t.0; fits = t.1 }))
kind_takes kind.Sync args l h =
    bind_some (no_args_at args) _ l h (λ a e h1.
    rw (← same_Some _ l h1) (record { kind = refl; args = sym (no_args_take args a e); fits = tt }))
kind_takes kind.Rank args l h =
    bind_some (one_number_at 1001 args) _ l h (λ a e h1.
    let t = one_number_takes 1001 args a (omega arith) e in
    let some = cond_some (ltb 0 a) (line.Rank a) l h1 in
    rw (← some.1) (record { kind = refl; args = t.0; fits = (ltb-true 0 a some.0, t.1) }))
kind_takes kind.Stage args l h =
    bind_some (some_paths_at args) _ l h (λ a e h1.
    let t = some_paths_take args a e in
    rw (← same_Some _ l h1) (record { kind = refl; args = t.0; fits = t.1 }))
kind_takes kind.Copy args l h =
    bind_some (no_args_at args) _ l h (λ a e h1.
    rw (← same_Some _ l h1) (record { kind = refl; args = sym (no_args_take args a e); fits = tt }))
kind_takes kind.Fetch args l h =
    bind_some (path_number_at (2 ^ 32) args) _ l h (λ a e h1.
    let t = path_number_takes (2 ^ 32) args a (omega arith) e in
    rw (← same_Some _ l h1) (record { kind = refl; args = t.0; fits = t.1 }))
kind_takes kind.Move args l h =
    bind_some (one_number_at (2 ^ 64) args) _ l h (λ a e h1.
    let t = one_number_takes (2 ^ 64) args a (omega arith) e in
    rw (← same_Some _ l h1) (record { kind = refl; args = t.0; fits = t.1 }))
kind_takes kind.End args l h =
    bind_some (one_number_at (2 ^ 64) args) _ l h (λ a e h1.
    let t = one_number_takes (2 ^ 64) args a (omega arith) e in
    rw (← same_Some _ l h1) (record { kind = refl; args = t.0; fits = t.1 }))
kind_takes kind.Eject args l h =
    bind_some (one_number_at (2 ^ 32) args) _ l h (λ a e h1.
    let t = one_number_takes (2 ^ 32) args a (omega arith) e in
    rw (← same_Some _ l h1) (record { kind = refl; args = t.0; fits = t.1 }))
kind_takes kind.Clean args l h =
    bind_some (no_args_at args) _ l h (λ a e h1.
    rw (← same_Some _ l h1) (record { kind = refl; args = sym (no_args_take args a e); fits = tt }))
kind_takes kind.Checkpoint args l h =
    bind_some (no_args_at args) _ l h (λ a e h1.
    rw (← same_Some _ l h1) (record { kind = refl; args = sym (no_args_take args a e); fits = tt }))

kind_again : (l : Line) → IsLine l → line_of_kind (kind_of l) (arguments l) ≡ Some l
unfolding line_of_kind no_args_at one_path_at two_paths_at one_number_at path_number_at path_numbers_at path_number_bytes_at
kind_again (line.File (call.Mkdir p)) h = rw (path_again p h) refl
kind_again (line.File (call.Create p)) h = rw (path_again p h) refl
kind_again (line.File (call.Stat p)) h = rw (path_again p h) refl
kind_again (line.File (call.List p)) h = rw (path_again p h) refl
kind_again (line.File (call.Unlink p)) h = rw (path_again p h) refl
kind_again (line.File (call.Rmdir p)) h = rw (path_again p h) refl
kind_again (line.File (call.Write p n b)) h = rw (path_again p h.0, number_again (2 ^ 64) n (omega arith) h.1, bytes_again b h.2 h.3) refl
kind_again (line.File (call.Cut p n)) h = rw (path_again p h.0, number_again (2 ^ 64) n (omega arith) h.1) refl
kind_again (line.File (call.Read p n m)) h = rw (path_again p h.0, number_again (2 ^ 64) n (omega arith) h.1, number_again (2 ^ 64) m (omega arith) h.2) refl
kind_again (line.File (call.Rename p q)) h = rw (path_again p h.0, path_again q h.1) refl
kind_again (line.File call.Sync) h = refl
kind_again (line.Rank n) h = rw (number_again 1001 n (omega arith) h.1, lt-ltb 0 n h.0) refl
kind_again (line.Stage ps) h = rw (some_paths_again ps h.0 h.1 h.2) refl
kind_again line.Copy h = refl
kind_again (line.Fetch p n) h = rw (path_again p h.0, number_again (2 ^ 32) n (omega arith) h.1) refl
kind_again (line.Move n) h = rw (number_again (2 ^ 64) n (omega arith) h) refl
kind_again (line.End n) h = rw (number_again (2 ^ 64) n (omega arith) h) refl
kind_again (line.Eject n) h = rw (number_again (2 ^ 32) n (omega arith) h) refl
kind_again line.Clean h = refl
kind_again line.Checkpoint h = refl

-- ---- the first word

-- which side of a test was taken
chosen : {A : Type 0} (b : Bool) (x y z : A) → cond b x y ≡ z → ((b ≡ true) × (x ≡ z)) ⊎ ((b ≡ false) × (y ≡ z))
chosen true x y z h = inl (refl, h)
chosen false x y z h = inr (refl, h)

-- one test of a word against the keyword of a kind
named : (word : List ℕ) (k l : Kind) (rest : Option Kind) → (rest ≡ Some l → keyword l ≡ word)
    → cond (bytes_eq word (keyword k)) (Some k) rest ≡ Some l → keyword l ≡ word
named word k l rest later h =
    elim (chosen (bytes_eq word (keyword k)) (Some k) rest (Some l) h) [
      | inl found ↦ ap keyword (sym (same_Some k l found.1)) ∙ sym ((bytes_eq-Decides word (keyword k)).0 found.0)
      | inr other ↦ later other.1
    ]

kind_names : (word : List ℕ) (l : Kind) → kind_at word ≡ Some l → keyword l ≡ word
unfolding kind_at
kind_names word l h =
    named word kind.Mkdir l _ (named word kind.Create l _ (named word kind.Stat l _ (named word kind.List l _ (named word kind.Unlink l _ (named word kind.Rmdir l _ (named word kind.Write l _ (named word kind.Cut l _ (named word kind.Read l _ (named word kind.Rename l _ (named word kind.Sync l _ (named word kind.Rank l _ (named word kind.Stage l _ (named word kind.Copy l _ (named word kind.Fetch l _ (named word kind.Move l _ (named word kind.End l _ (named word kind.Eject l _ (named word kind.Clean l _ (named word kind.Checkpoint l _ (λ hh. cc hh)))))))))))))))))))) h

kind_of_keyword : (k : Kind) → kind_at (keyword k) ≡ Some k
unfolding kind_at
kind_of_keyword kind.Mkdir = refl
kind_of_keyword kind.Create = refl
kind_of_keyword kind.Stat = refl
kind_of_keyword kind.List = refl
kind_of_keyword kind.Unlink = refl
kind_of_keyword kind.Rmdir = refl
kind_of_keyword kind.Write = refl
kind_of_keyword kind.Cut = refl
kind_of_keyword kind.Read = refl
kind_of_keyword kind.Rename = refl
kind_of_keyword kind.Sync = refl
kind_of_keyword kind.Rank = refl
kind_of_keyword kind.Stage = refl
kind_of_keyword kind.Copy = refl
kind_of_keyword kind.Fetch = refl
kind_of_keyword kind.Move = refl
kind_of_keyword kind.End = refl
kind_of_keyword kind.Eject = refl
kind_of_keyword kind.Clean = refl
kind_of_keyword kind.Checkpoint = refl

-- ---- any line

line_takes : (ws : List (List ℕ)) (l : Line) → line_at ws ≡ Some l → (words l ≡ ws) × IsLine l
unfolding line_at
line_takes [] l h = cc h
line_takes (word ∷ args) l h =
    bind_some (kind_at word) _ l h (λ k e h1.
    let r = kind_takes k args l h1 in
    let first : keyword (kind_of l) ≡ word = ap keyword r.kind ∙ kind_names word k e in
    (ap (λ w. w ∷ arguments l) first ∙ ap (λ a. word ∷ a) r.args, r.fits))

line_again : (l : Line) → IsLine l → line_at (words l) ≡ Some l
unfolding line_at
line_again l h = rw kind_of_keyword (kind_again l h)

-- ---- no word has a space

lacks_joined : (c d : ℕ) (names : List (List ℕ)) → not (eqb d c) ≡ true → list_all (lacks c) names ≡ true
    → lacks c (join_with_byte d names) ≡ true
lacks_joined c d [] e h = refl
lacks_joined c d (x ∷ []) e h = (and_parts (lacks c x) true h).0
lacks_joined c d (x ∷ y ∷ ys) e h =
    let parts = and_parts (lacks c x) (list_all (lacks c) (y ∷ ys)) h in
    list_all-append (λ b. not (eqb b c)) x (d ∷ join_with_byte d (y ∷ ys))
    ∙ and_from _ _ parts.0 (and_from _ _ e (lacks_joined c d (y ∷ ys) e parts.1))

path_lacks : (names : List (List ℕ)) → IsPath names → lacks 32 (path_text names) ≡ true
path_lacks names h = lacks_joined 32 47 names refl (names_lack 32 (inr refl) names h)

number_lacks : (n : ℕ) → n < 2 ^ 64 → lacks 32 (decimal n) ≡ true
number_lacks n h =
    list_all-weaker is_ascii_digit (λ b. not (eqb b 32))
    (λ (b : ℕ) (e : is_ascii_digit b ≡ true).
    let low : 48 ≤ b = leb-true 48 b (and_parts (leb 48 b) (leb b 57) e).0 in
    not_from_false _ (ne_eqb b 32 (λ (s : b ≡ 32). omega arith)))
    (decimal n) (digits_decimal own n h)

bytes_lack : (bytes : List ℕ) → IsBytes bytes → lacks 32 (encode_lower bytes) ≡ true
bytes_lack bytes h =
    list_all-weaker is_lower_digit (λ b. not (eqb b 32))
    (λ (b : ℕ) (e : is_lower_digit b ≡ true). not_from_false _ (ne_eqb b 32 (λ (s : b ≡ 32). cc (rw s at e))))
    (encode_lower bytes) (lower_encode bytes h)

keyword_lacks : (k : Kind) → lacks 32 (keyword k) ≡ true
keyword_lacks kind.Mkdir = refl
keyword_lacks kind.Create = refl
keyword_lacks kind.Stat = refl
keyword_lacks kind.List = refl
keyword_lacks kind.Unlink = refl
keyword_lacks kind.Rmdir = refl
keyword_lacks kind.Write = refl
keyword_lacks kind.Cut = refl
keyword_lacks kind.Read = refl
keyword_lacks kind.Rename = refl
keyword_lacks kind.Sync = refl
keyword_lacks kind.Rank = refl
keyword_lacks kind.Stage = refl
keyword_lacks kind.Copy = refl
keyword_lacks kind.Fetch = refl
keyword_lacks kind.Move = refl
keyword_lacks kind.End = refl
keyword_lacks kind.Eject = refl
keyword_lacks kind.Clean = refl
keyword_lacks kind.Checkpoint = refl

paths_lack : (ps : List Names) → ArePaths ps → list_all (lacks 32) (map path_text ps) ≡ true
paths_lack [] h = refl
paths_lack (p ∷ ps) h = and_from _ _ (path_lacks p h.0) (paths_lack ps h.1)

arguments_lack : (l : Line) → IsLine l → list_all (lacks 32) (arguments l) ≡ true
arguments_lack (line.File (call.Mkdir p)) h = and_from _ _ (path_lacks p h) refl
arguments_lack (line.File (call.Create p)) h = and_from _ _ (path_lacks p h) refl
arguments_lack (line.File (call.Stat p)) h = and_from _ _ (path_lacks p h) refl
arguments_lack (line.File (call.List p)) h = and_from _ _ (path_lacks p h) refl
arguments_lack (line.File (call.Unlink p)) h = and_from _ _ (path_lacks p h) refl
arguments_lack (line.File (call.Rmdir p)) h = and_from _ _ (path_lacks p h) refl
arguments_lack (line.File (call.Write p n b)) h = and_from _ _ (path_lacks p h.0) (and_from _ _ (number_lacks n h.1) (and_from _ _ (bytes_lack b h.3) refl))
arguments_lack (line.File (call.Cut p n)) h = and_from _ _ (path_lacks p h.0) (and_from _ _ (number_lacks n h.1) refl)
arguments_lack (line.File (call.Read p n m)) h = and_from _ _ (path_lacks p h.0) (and_from _ _ (number_lacks n h.1) (and_from _ _ (number_lacks m h.2) refl))
arguments_lack (line.File (call.Rename p q)) h = and_from _ _ (path_lacks p h.0) (and_from _ _ (path_lacks q h.1) refl)
arguments_lack (line.File call.Sync) h = refl
arguments_lack (line.Rank n) h = and_from _ _ (number_lacks n (omega (arith, h.1))) refl
arguments_lack (line.Stage ps) h = paths_lack ps h.2
arguments_lack line.Copy h = refl
arguments_lack (line.Fetch p n) h = and_from _ _ (path_lacks p h.0) (and_from _ _ (number_lacks n (omega (arith, h.1))) refl)
arguments_lack (line.Move n) h = and_from _ _ (number_lacks n h) refl
arguments_lack (line.End n) h = and_from _ _ (number_lacks n h) refl
arguments_lack (line.Eject n) h = and_from _ _ (number_lacks n (omega arith)) refl
arguments_lack line.Clean h = refl
arguments_lack line.Checkpoint h = refl

words_lack : (l : Line) → IsLine l → list_all (lacks 32) (words l) ≡ true
words_lack l h = and_from _ _ (keyword_lacks (kind_of l)) (arguments_lack l h)

-- ---- the bytes

split_words : (ws : List (List ℕ)) (w : List ℕ) → list_all (lacks 32) (w ∷ ws) ≡ true
    → slice_split (λ b. eqb b 32) (join_with_byte 32 (w ∷ ws)) ≡ w ∷ ws
split_words ws w h = split_joined 32 w ws refl h

split_line : (l : Line) → IsLine l → slice_split (λ b. eqb b 32) (spelling l) ≡ words l
split_line l h = split_words (arguments l) (keyword (kind_of l)) (words_lack l h)

text_takes : (bytes : List ℕ) (line : Line) → text_at bytes ≡ Some line → IsLine line × (bytes ≡ spelling line)
text_takes bytes line h =
    let found = line_takes (slice_split (λ b. eqb b 32) bytes) line h in
    (found.1, sym (ap (join_with_byte 32) found.0 ∙ join_with_byte-slice_split 32 bytes))

text_again : (line : Line) → IsLine line → text_at (spelling line) ≡ Some line
text_again line h = ap line_at (split_line line h) ∙ line_again line h

pub reads_a_line : (r : Result Line BadLine) (bytes : List ℕ) → Reads (λ l. l) r (text_at bytes)
    → IfOk r (λ line. IsLine line × (bytes ≡ spelling line))
reads_a_line (Ok line) bytes h = text_takes bytes line h
reads_a_line (Err e) bytes h = tt

pub refuses_no_line : (r : Result Line BadLine) (bytes : List ℕ) → Reads (λ l. l) r (text_at bytes)
    → r ≡ Err Bad → (line : Line) → IsLine line → bytes ≡ spelling line → ⊥
refuses_no_line (Ok x) bytes h is line fits text = cc is
refuses_no_line (Err Bad) bytes h is line fits text =
    let again : text_at bytes ≡ Some line = ap text_at text ∙ text_again line fits in
    cc (sym h ∙ again)
refuses_no_line (Err Memory) bytes h is line fits text = cc is

pub reads_one_line : (r : Result Line BadLine) (bytes : List ℕ) → Reads (λ l. l) r (text_at bytes)
    → IfOk r (λ line. (other : Line) → IsLine other → bytes ≡ spelling other → other ≡ line)
reads_one_line (Ok found) bytes h =
    λ other fits text. same_Some other found (sym (ap text_at text ∙ text_again other fits) ∙ h)
reads_one_line (Err e) bytes h = tt

-- ---- a user's line

call_is : (l : Line) (c : Call) → call_of l ≡ Some c → l ≡ line.File c
call_is (line.File d) c h = ap (λ x. line.File x) (same_Some d c h)
call_is (line.Rank n) c h = cc h
call_is (line.Stage ps) c h = cc h
call_is line.Copy c h = cc h
call_is (line.Fetch p n) c h = cc h
call_is (line.Move n) c h = cc h
call_is (line.End n) c h = cc h
call_is (line.Eject n) c h = cc h
call_is line.Clean c h = cc h
call_is line.Checkpoint c h = cc h

user_line_takes : (bytes : List ℕ) (a : ℕ × Call) → user_line_at bytes ≡ Some a
    → IsUserLine a.0 a.1 × (bytes ≡ user_spelling a.0 a.1)
unfolding user_line_at
user_line_takes [] a h = cc h
user_line_takes (user ∷ []) a h = cc h
user_line_takes (user ∷ space ∷ text) a h =
    let found = when (leb 49 user && leb user 56 && eqb space 32) _ a h in
    let tests = and_parts (leb 49 user && leb user 56) (eqb space 32) found.0 in
    let range = and_parts (leb 49 user) (leb user 56) tests.0 in
    let low = leb-true 49 user range.0 in
    let high = leb-true user 56 range.1 in
    let is : space ≡ 32 = eqb-true space 32 tests.1 in
    bind_some (text_at text) _ a found.1 (λ l e h1.
    bind_some (call_of l) _ a h1 (λ c f h2.
    let t = text_takes text l e in
    let file = call_is l c f in
    let digit : decimal (user - 48) ≡ user ∷ [] = decimal_digit (user - 48) (omega arith) ∙ ap (λ n. n ∷ []) (omega arith) in
    let fits : IsLine (line.File c) = subst IsLine file t.0 in
    let spelled : user ∷ space ∷ text ≡ user_spelling (user - 48) c =
    ap (λ s. user ∷ s ∷ text) is ∙ ap (λ x. user ∷ 32 ∷ x) (t.1 ∙ ap spelling file) ∙ ap (λ d. d ++ 32 ∷ spelling (line.File c)) (sym digit) in
    rw (← same_Some _ a h2) ((omega arith, omega arith, fits), spelled)))

user_line_again : (user : ℕ) (c : Call) → IsUserLine user c → user_line_at (user_spelling user c) ≡ Some (user, c)
unfolding user_line_at
user_line_again user c h =
    let some : 0 < user = h.0 in
    let few : user < 9 = h.1 in
    let digit = decimal_digit user (omega arith) in
    let low : leb 49 (48 + user) ≡ true = le-leb 49 (48 + user) (omega arith) in
    let high : leb (48 + user) 56 ≡ true = le-leb (48 + user) 56 (omega arith) in
    let back : 48 + user - 48 ≡ user = omega arith in
    rw (digit, low, high, text_again (line.File c) h.2, back) refl

pub reads_a_user_line : (r : Result (ℕ × Call) BadLine) (bytes : List ℕ) → Reads (λ a. (a.0, a.1)) r (user_line_at bytes)
    → IfOk r (λ a. IsUserLine a.0 a.1 × (bytes ≡ user_spelling a.0 a.1))
reads_a_user_line (Ok a) bytes h = user_line_takes bytes (a.0, a.1) h
reads_a_user_line (Err e) bytes h = tt

pub reads_one_user_line : (r : Result (ℕ × Call) BadLine) (bytes : List ℕ) → Reads (λ a. (a.0, a.1)) r (user_line_at bytes)
    → IfOk r (λ a. (user : ℕ) (c : Call) → IsUserLine user c → bytes ≡ user_spelling user c → (user ≡ a.0) × (c ≡ a.1))
reads_one_user_line (Ok a) bytes h =
    λ user c fits text.
    let same : (user, c) ≡ (a.0, a.1) = same_Some _ _ (sym (ap user_line_at text ∙ user_line_again user c fits) ∙ h) in
    (ap (λ (x : ℕ × Call). x.0) same, ap (λ (x : ℕ × Call). x.1) same)
reads_one_user_line (Err e) bytes h = tt

pub refuses_no_user_line : (r : Result (ℕ × Call) BadLine) (bytes : List ℕ) → Reads (λ a. (a.0, a.1)) r (user_line_at bytes)
    → r ≡ Err Bad → (user : ℕ) (c : Call) → IsUserLine user c → bytes ≡ user_spelling user c → ⊥
refuses_no_user_line (Ok x) bytes h is user c fits text = cc is
refuses_no_user_line (Err Bad) bytes h is user c fits text =
    let again : user_line_at bytes ≡ Some (user, c) = ap user_line_at text ∙ user_line_again user c fits in
    cc (sym h ∙ again)
refuses_no_user_line (Err Memory) bytes h is user c fits text = cc is
