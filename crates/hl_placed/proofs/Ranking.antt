-- The order of migration has each cold file once, the colder ones first.
use Rattle.std.proofs.Common.{arith, ◌≡◌, ℕ, ◌<◌, ◌≤◌, Bool, true, false, ◌&&◌, nat_lt, nat_eq, T, List, [], ◌∷◌, refl, inl, inr, if◌then◌else◌}
use Rattle.std.proofs.lemmas.Bool.{cases_lt}
use Rattle.std.proofs.lemmas.Bool.Decides.{nat_tests}
use Rattle.std.proofs.lemmas.List.Sorted.{IsPermutation-trans, IsPermutation-cons, IsPermutation-refl, IsPermutation-middle}
use Rattle.std.specs.List.{AllByRecursion, count_by}
use Rattle.std.specs.List.Sorted.{IsPermutation}
use Rattle.std.specs.declared.cmp.Ordering.{Ordering}
use Rattle.std.specs.declared.cmp.Ordering.TheVariants.{Less, Equal, Greater}
use Rattle.std.specs.Ordering.{is_lt}
use Rattle.std.specs.FinMap.{entries, entries_sorted}
use Rattle.std.specs.FinMap.Entries.{below_all, is_sorted}
use Rattle.hl_tree.specs.declared.node.Node.{Node}
use Rattle.hl_tree.specs.declared.node.Node.TheVariants.{Dir, File}
use Rattle.hl_tree.specs.Names.{path_cmp}
use Rattle.hl_tree.proofs.Moved.{Names}
use Rattle.hl_placed.specs.Blocks.{PlacedFile, is_here}
use Rattle.hl_placed.specs.Placed.{PlacedTree}
use Rattle.hl_placed.specs.Ranking.{coldness, cold_files, place_cold, by_coldness, GoesBefore, AreRanked}

abbrev Cold : Type 0
Cold = ℕ × Names

-- EACH ONCE

all-place : (P : Cold → Type 0) (one : Cold) (rows : List Cold) → P one → AllByRecursion P rows → AllByRecursion P (place_cold one rows)
all-place P one [] p all = (p, tt)
all-place P one (other ∷ rest) p all = elim (nat_lt one.0 other.0) as (λ b. AllByRecursion P (if b then other ∷ place_cold one rest else one ∷ other ∷ rest)) [
  | true ↦ (all.0, all-place P one rest p all.1)
  | false ↦ (p, all)
]

all-by : (P : Cold → Type 0) (rows : List Cold) → AllByRecursion P rows → AllByRecursion P (by_coldness rows)
all-by P [] all = tt
all-by P (one ∷ rest) all = all-place P one (by_coldness rest) all.0 (all-by P rest all.1)

permutation-place : (one : Cold) (rows : List Cold) → IsPermutation (one ∷ rows) (place_cold one rows)
permutation-place one [] = IsPermutation-refl (one ∷ [])
permutation-place one (other ∷ rest) = elim (nat_lt one.0 other.0) as (λ b. IsPermutation (one ∷ other ∷ rest) (if b then other ∷ place_cold one rest else one ∷ other ∷ rest)) [
  | true ↦ IsPermutation-trans (one ∷ other ∷ rest) (other ∷ one ∷ rest) (other ∷ place_cold one rest) (IsPermutation-middle (one ∷ []) other rest) (IsPermutation-cons other (one ∷ rest) (place_cold one rest) (permutation-place one rest))
  | false ↦ IsPermutation-refl (one ∷ other ∷ rest)
]

pub permutation-by : (rows : List Cold) → IsPermutation rows (by_coldness rows)
permutation-by [] = IsPermutation-refl []
permutation-by (one ∷ rest) = IsPermutation-trans (one ∷ rest) (one ∷ by_coldness rest) (place_cold one (by_coldness rest)) (IsPermutation-cons one rest (by_coldness rest) (permutation-by rest)) (permutation-place one (by_coldness rest))

-- THE COLDER FIRST

-- paths come before those of rows that follow
abbrev PathBefore : Cold → Cold → Type 0
PathBefore one other = path_cmp one.1 other.1 ≡ Less

abbrev PathsRise : List Cold → Type 0
PathsRise [] = Unit {0}
PathsRise (one ∷ rest) = AllByRecursion (PathBefore one) rest × PathsRise rest

not_less : (one other : Cold) → other.0 ≤ one.0 → PathBefore one other → GoesBefore one other
not_less one other h path = elim (cases_lt other.0 one.0) as (λ _. GoesBefore one other) [
  | inl less ↦ inl less
  | inr more ↦ inr (omega arith, path)
]

rank_of : (one other : Cold) → GoesBefore one other → other.0 ≤ one.0
rank_of one other (inl h) = omega arith
rank_of one other (inr h) = let same = h.0 in omega arith

behind : (one other : Cold) (rest : List Cold) → other.0 ≤ one.0 → AllByRecursion (GoesBefore other) rest → AllByRecursion (PathBefore one) rest → AllByRecursion (GoesBefore one) rest
behind one other [] h goes paths = tt
behind one other (x ∷ rest) h goes paths = (not_less one x (let below = rank_of other x goes.0 in omega arith) paths.0, behind one other rest h goes.1 paths.1)

ranked-place : (one : Cold) (rows : List Cold) → AllByRecursion (PathBefore one) rows → AreRanked rows → AreRanked (place_cold one rows)
ranked-place one [] paths ranked = (tt, tt)
ranked-place one (other ∷ rest) paths ranked = elim (nat_lt one.0 other.0) as (λ b. nat_lt one.0 other.0 ≡ b → AreRanked (if b then other ∷ place_cold one rest else one ∷ other ∷ rest)) [
  | true ↦ λ e. let less : one.0 < other.0 = grind (arith, nat_tests) in (all-place (GoesBefore other) one rest (inl less) ranked.0, ranked-place one rest paths.1 ranked.1)
  | false ↦ λ e. let least : other.0 ≤ one.0 = grind (arith, nat_tests) in ((not_less one other least paths.0, behind one other rest least ranked.0 paths.1), ranked)
] refl

pub ranked-by : (rows : List Cold) → PathsRise rows → AreRanked (by_coldness rows)
ranked-by [] rise = tt
ranked-by (one ∷ rest) rise = ranked-place one (by_coldness rest) (all-by (PathBefore one) rest rise.0) (ranked-by rest rise.1)

-- the cold files of a tree stand in the order of their paths
is_less : (o : Ordering) → T (is_lt o) → o ≡ Less
is_less Less p = refl
is_less Equal p = absurd p
is_less Greater p = absurd p

left : (a b : Bool) → T (a && b) → T a
left true b p = tt
left false b p = p

right : (a b : Bool) → T (a && b) → T b
right true b p = p
right false b p = absurd p

module _ (now : ℕ) where
  paths_behind : (path : Names) (rank : ℕ) (es : List (Names × Node PlacedFile)) → T (below_all path_cmp path es) → AllByRecursion (PathBefore (rank, path)) (cold_files now es)
  paths_behind path rank [] below = tt
  paths_behind path rank ((other, Dir) ∷ es) below = paths_behind path rank es (right (is_lt (path_cmp path other)) _ below)
  paths_behind path rank ((other, File file) ∷ es) below = elim (nat_eq (count_by is_here file.blocks) 0) as (λ b. AllByRecursion (PathBefore (rank, path)) (if b then cold_files now es else (coldness now file, other) ∷ cold_files now es)) [
    | true ↦ paths_behind path rank es (right (is_lt (path_cmp path other)) _ below)
    | false ↦ (is_less _ (left (is_lt (path_cmp path other)) _ below), paths_behind path rank es (right (is_lt (path_cmp path other)) _ below))
  ]

  paths_rise : (es : List (Names × Node PlacedFile)) → T (is_sorted path_cmp es) → PathsRise (cold_files now es)
  paths_rise [] sorted = tt
  paths_rise ((path, Dir) ∷ es) sorted = paths_rise es (right (below_all path_cmp path es) _ sorted)
  paths_rise ((path, File file) ∷ es) sorted = elim (nat_eq (count_by is_here file.blocks) 0) as (λ b. PathsRise (if b then cold_files now es else (coldness now file, path) ∷ cold_files now es)) [
    | true ↦ paths_rise es (right (below_all path_cmp path es) _ sorted)
    | false ↦ (paths_behind path (coldness now file) es (left (below_all path_cmp path es) _ sorted), paths_rise es (right (below_all path_cmp path es) _ sorted))
  ]

  pub AreRanked-by_coldness : (placed : PlacedTree) → AreRanked (by_coldness (cold_files now (entries placed)))
  AreRanked-by_coldness placed = ranked-by (cold_files now (entries placed)) (paths_rise (entries placed) (entries_sorted placed))
