-- Where a path stands among rows in the order of their paths, or where it would.
use Rattle.std.specs.Prelude.{◌≡◌, ◌≢◌, ℕ, ◌<◌, ◌≤◌, List, take, drop, length, All, slice_index_or, Result, MatchResult, T}
use Rattle.std.specs.FinMap.Entries.{is_sorted}
use Rattle.std.specs.declared.cmp.Ordering.TheVariants.{Less}
use Rattle.hl_tree.specs.Names.{path_cmp}

-- the paths of the rows rise
abbrev pub InOrder : {X : Type 0} → List (List (List ℕ) × X) → Type 0
InOrder rows = T (is_sorted path_cmp rows)

-- the row at this index has the path
pub record IsPlaceOf {X : Type 0} (rows : List (List (List ℕ) × X)) (path : List (List ℕ)) (i : ℕ) : Type 0 where
  pub within : i < length rows
  pub here : (d : List (List ℕ) × X) → (slice_index_or rows i d).0 ≡ path

-- no row has the path, which belongs before the row at this index
pub record IsGapFor {X : Type 0} (rows : List (List (List ℕ) × X)) (path : List (List ℕ)) (i : ℕ) : Type 0 where
  pub within : i ≤ length rows
  pub below : All (λ row. path_cmp row.0 path ≡ Less) (take i rows)
  pub above : All (λ row. path_cmp path row.0 ≡ Less) (drop i rows)

-- where a search for the path ends
abbrev pub Places : {X : Type 0} → List (List (List ℕ) × X) → List (List ℕ) → Result ℕ ℕ → Type 0
Places rows path answer = MatchResult answer (IsPlaceOf rows path) (IsGapFor rows path)

-- the rows before this index come before the path, and those from it on do not
pub record IsAround {X : Type 0} (rows : List (List (List ℕ) × X)) (path : List (List ℕ)) (i : ℕ) : Type 0 where
  pub within : i ≤ length rows
  pub front : All (λ row. path_cmp row.0 path ≡ Less) (take i rows)
  pub back : All (λ row. path_cmp row.0 path ≢ Less) (drop i rows)
