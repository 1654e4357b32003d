-- One name or one row more, as loops over them go on.
use Rattle.std.proofs.Common.{◌≡◌, ℕ, ◌+◌, ◌^◌, ◌<◌, ◌≤◌, min, List, [], ◌∷◌, ◌++◌, length, get_or, take, refl, sym, ap, ◌∙◌, arith, append_assoc}
use Rattle.std.specs.List.{flat_map, sum_by}
use Rattle.std.proofs.lemmas.List.{take_more, take_all, append-nil}
use Rattle.std.proofs.lemmas.List.Concat.{flat_map-append}
use Rattle.std.proofs.lemmas.List.Sums.{sum_by_more, get_or-le-sum_by}
use Rattle.hl_tree.specs.Names.{path_length}
use Rattle.hl_dump.specs.Dumps.{path_bytes, entry_bytes}
use Rattle.hl_dump.specs.Reading.{Row}
use Rattle.hl_dump.specs.Sizes.{entry_size}

pub path_length-append : (a b : List (List ℕ)) → path_length (a ++ b) ≡ path_length a + path_length b
path_length-append [] b = omega arith
path_length-append (n ∷ ns) b = let rest = path_length-append ns b in omega (arith, rest)

pub path_bytes-append : (a b : List (List ℕ)) → path_bytes (a ++ b) ≡ path_bytes a ++ path_bytes b
path_bytes-append [] b = refl
path_bytes-append (n ∷ ns) b = ap (λ (l : List ℕ). 47 ∷ (n ++ l)) (path_bytes-append ns b) ∙ ap (λ (l : List ℕ). 47 ∷ l) (sym (append_assoc n (path_bytes ns) (path_bytes b)))

pub path_length-one : (n : List ℕ) → path_length (n ∷ []) ≡ 1 + length n
path_length-one n = omega arith

pub path_bytes-push : (a : List (List ℕ)) (n : List ℕ) → path_bytes (a ++ n ∷ []) ≡ path_bytes a ++ 47 ∷ n
path_bytes-push a n = path_bytes-append a (n ∷ []) ∙ ap (λ (l : List ℕ). path_bytes a ++ 47 ∷ l) (append-nil n)

module _ (names : List (List ℕ)) (i : ℕ) (name : List ℕ) (lt : i < length names) (is : name ≡ get_or names i name) where
  one_name : take (i + 1) names ≡ take i names ++ name ∷ []
  one_name = take_more names i name lt ∙ ap (λ (n : List ℕ). take i names ++ n ∷ []) (sym is)

  pub path_length_more : path_length (take (i + 1) names) ≡ path_length (take i names) + (1 + length name)
  path_length_more = ap path_length one_name ∙ path_length-append (take i names) (name ∷ []) ∙ ap (λ (n : ℕ). path_length (take i names) + n) (path_length-one name)

  pub path_bytes_more : path_bytes (take (i + 1) names) ≡ path_bytes (take i names) ++ 47 ∷ name
  path_bytes_more = ap path_bytes one_name ∙ path_bytes-push (take i names) name

-- a sum that stops at a limit
pub stops : (limit size part sum total : ℕ) → total ≡ min size limit → sum ≡ min (total + part) limit → sum ≡ min (size + part) limit
stops limit size part sum total a b = omega (arith, a, b)

module _ (rows : List Row) (i : ℕ) (row : Row) (lt : i < length rows) (is : row ≡ get_or rows i row) where
  pub size_more : sum_by entry_size (take (i + 1) rows) ≡ sum_by entry_size (take i rows) + entry_size row
  size_more = sum_by_more entry_size rows i row lt ∙ ap (λ (e : Row). sum_by entry_size (take i rows) + entry_size e) (sym is)

  pub bytes_more : flat_map entry_bytes (take (i + 1) rows) ≡ flat_map entry_bytes (take i rows) ++ entry_bytes row
  bytes_more = ap (flat_map entry_bytes) (take_more rows i row lt ∙ ap (λ (e : Row). take i rows ++ e ∷ []) (sym is)) ∙ flat_map-append entry_bytes (take i rows) (row ∷ []) ∙ ap (λ (l : List ℕ). flat_map entry_bytes (take i rows) ++ l) (append-nil (entry_bytes row))

-- what was written goes on by a part
pub goes_on : (first done out part new more : List ℕ) → new ≡ out ++ part → out ≡ first ++ done → more ≡ done ++ part → new ≡ first ++ more
goes_on first done out part new more a b c = a ∙ ap (λ (l : List ℕ). l ++ part) b ∙ append_assoc first done part ∙ ap (λ (l : List ℕ). first ++ l) (sym c)

-- a slash and a name
pub slash_and_name : (out pushed shown name new : List ℕ) → pushed ≡ out ++ 47 ∷ [] → new ≡ pushed ++ shown → shown ≡ name → new ≡ out ++ 47 ∷ name
slash_and_name out pushed shown name new a b c = b ∙ ap (λ (l : List ℕ). l ++ shown) a ∙ append_assoc out (47 ∷ []) shown ∙ ap (λ (l : List ℕ). out ++ 47 ∷ l) c

-- a row is no longer than all of them
pub fits_in_sum : (rows : List Row) (i : ℕ) (row : Row) (names : List (List ℕ)) → i < length rows → row ≡ get_or rows i row → names ≡ row.0 → sum_by entry_size rows < 2 ^ 32 → entry_size (names, row.1) < 2 ^ 32
fits_in_sum rows i row names lt is named small =
    let one = get_or-le-sum_by entry_size rows i row lt in
    let same : entry_size (names, row.1) ≡ entry_size (get_or rows i row) = ap (λ (n : List (List ℕ)). entry_size (n, row.1)) named ∙ ap entry_size is in
    omega (arith, one, same, small)

-- all rows were gone over
pub all_size : (rows es : List Row) (i : ℕ) → length rows ≤ i → rows ≡ es → sum_by entry_size (take i rows) ≡ sum_by entry_size es
all_size rows es i past is = ap (sum_by entry_size) (take_all i rows past ∙ is)

pub all_bytes : (rows es : List Row) (i : ℕ) → length rows ≤ i → rows ≡ es → flat_map entry_bytes (take i rows) ≡ flat_map entry_bytes es
all_bytes rows es i past is = ap (flat_map entry_bytes) (take_all i rows past ∙ is)
