-- Parts of a list of bytes, taken one after another.
use Rattle.std.proofs.Common.{◌≡◌, ◌<◌, ◌+◌, ℕ, Bool, true, false, cond, eqb, not, ◌&&◌, List, [], ◌∷◌, ◌++◌, length, get_or, drop, take, map, Some, None, refl, sym, ap, ◌∙◌, Bor, append_assoc, zero-add, rules, arith}
use Rattle.std.proofs.lemmas.Bool.{not-true, and_parts}
use Rattle.std.proofs.lemmas.List.{drop_more, get_or-map, take_more, flat_map_more}
use Rattle.std.proofs.lemmas.List.Elements.{All-weaker}
use Rattle.std.proofs.lemmas.List.Folds.{list_all_at}
use Rattle.std.proofs.lemmas.List.Sums.{AllPass-from_list_all}
use Rattle.std.proofs.lemmas.List.Splits.{slice_split_none, slice_split_at}
use Rattle.std.specs.List.{list_all, slice_split, join_with_byte, All, flat_map}
use Rattle.hl_script.specs.Words.{is_name, all_names}

-- the bytes of a part, where it was read at another default
pub part_at : (parts : List (Bor (List ℕ))) (i : ℕ) (d : Bor (List ℕ)) (x : List ℕ)
    → i < length parts → x ≡ (get_or parts i d).now → get_or (map (λ p. p.now) parts) i [] ≡ x
part_at parts i d x lt e = get_or-map (λ p. p.now) parts i d [] lt ∙ sym e

-- one more part stands among the names
pub spelled_more : (front xs : List (List ℕ)) (i : ℕ) (x : List ℕ)
    → i < length xs → get_or xs i [] ≡ x → front ++ drop i xs ≡ xs → (front ++ x ∷ []) ++ drop (i + 1) xs ≡ xs
spelled_more front xs i x lt e h =
    append_assoc front (x ∷ []) (drop (i + 1) xs)
    ∙ ap (λ l. front ++ l) (ap (λ y. y ∷ drop (i + 1) xs) (sym e) ∙ sym (drop_more xs i [] lt)) ∙ h

-- one more element passed the test
pub passed_more : (p : List ℕ → Bool) (xs : List (List ℕ)) (i : ℕ) (x : List ℕ)
    → i < length xs → get_or xs i [] ≡ x → p x ≡ true
    → list_all p (drop i xs) ≡ list_all p xs → list_all p (drop (i + 1) xs) ≡ list_all p xs
passed_more p xs i x lt e passes h =
    let front : list_all p (drop i xs) ≡ (p (get_or xs i []) && list_all p (drop (i + 1) xs)) = ap (list_all p) (drop_more xs i [] lt) in
    let head : p (get_or xs i []) ≡ true = ap p e ∙ passes in
    sym (front ∙ ap (λ b. b && list_all p (drop (i + 1) xs)) head) ∙ h

-- one part that is no name
pub refused : (xs : List (List ℕ)) (i : ℕ) (x : List ℕ)
    → i < length xs → get_or xs i [] ≡ x → is_name x ≡ false → all_names xs ≡ None
refused xs i x lt e fails = rw (list_all_at is_name xs i [] lt (ap is_name e ∙ fails)) refl

-- no byte is c
abbrev pub lacks : ℕ → List ℕ → Bool
lacks c xs = list_all (λ b. not (eqb b c)) xs

pub All-from_lacks : (c : ℕ) (xs : List ℕ) → lacks c xs ≡ true → All (λ b. eqb b c ≡ false) xs
All-from_lacks c xs h =
    All-weaker (λ b. not (eqb b c) ≡ true) (λ b. eqb b c ≡ false) (λ b e. not-true (eqb b c) e) xs
    (AllPass-from_list_all (λ b. not (eqb b c)) xs h)

-- parts that lack the byte, with it between them, are split into these parts
pub split_joined : (c : ℕ) (x : List ℕ) (xs : List (List ℕ)) → eqb c c ≡ true → list_all (lacks c) (x ∷ xs) ≡ true
    → slice_split (λ b. eqb b c) (join_with_byte c (x ∷ xs)) ≡ x ∷ xs
split_joined c x [] same h =
    slice_split_none (λ b. eqb b c) x (All-from_lacks c x (and_parts (lacks c x) true h).0)
split_joined c x (y ∷ ys) same h =
    let parts = and_parts (lacks c x) (list_all (lacks c) (y ∷ ys)) h in
    slice_split_at (λ b. eqb b c) x c (join_with_byte c (y ∷ ys)) (All-from_lacks c x parts.0) same
    ∙ ap (λ l. x ∷ l) (split_joined c y ys same parts.1)

-- a test that implies another
pub list_all-weaker : {X : Type 0} (p q : X → Bool) → ((x : X) → p x ≡ true → q x ≡ true)
    → (xs : List X) → list_all p xs ≡ true → list_all q xs ≡ true
list_all-weaker p q f [] h = refl
list_all-weaker p q f (x ∷ xs) h =
    let parts = and_parts (p x) (list_all p xs) h in
    rw (f x parts.0, list_all-weaker p q f xs parts.1) refl

-- one more part was appended
pub appended_more : (f : List ℕ → List ℕ) (front : List ℕ) (xs : List (List ℕ)) (i : ℕ) (x : List ℕ)
    → i < length xs → get_or xs i [] ≡ x
    → (front ++ flat_map f (take i xs)) ++ f x ≡ front ++ flat_map f (take (i + 1) xs)
appended_more f front xs i x lt e =
    let more : take (i + 1) xs ≡ take i xs ++ x ∷ [] = take_more xs i [] lt ∙ ap (λ y. take i xs ++ y ∷ []) e in
    flat_map_more f front (take i xs) x ∙ ap (λ ys. front ++ flat_map f ys) (sym more)

-- the same, where each part stands behind a byte and the two were appended one after another
pub behind_more : (g : List ℕ → List ℕ) (b : ℕ) (front out mid new : List ℕ) (xs : List (List ℕ)) (i : ℕ) (x : List ℕ)
    → i < length xs → get_or xs i [] ≡ x
    → out ≡ front ++ flat_map (λ n. b ∷ g n) (take i xs) → mid ≡ out ++ b ∷ [] → new ≡ mid ++ g x
    → new ≡ front ++ flat_map (λ n. b ∷ g n) (take (i + 1) xs)
behind_more g b front out mid new xs i x lt e h1 h2 h3 =
    h3 ∙ ap (λ m. m ++ g x) (h2 ∙ ap (λ o. o ++ b ∷ []) h1)
    ∙ append_assoc (front ++ flat_map (λ n. b ∷ g n) (take i xs)) (b ∷ []) (g x)
    ∙ appended_more (λ n. b ∷ g n) front xs i x lt e
