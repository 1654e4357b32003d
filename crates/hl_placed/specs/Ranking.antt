-- The order in which files are migrated.
use Rattle.std.specs.Prelude.{◌≡◌, ◌⊎◌, ◌<◌, ℕ, ◌-◌, ◌*◌, nat_lt, if◌then◌else◌, List, [], ◌∷◌, map, count_by, ◌==◌}
use Rattle.std.specs.List.{AllByRecursion}
use Rattle.std.specs.declared.cmp.Ordering.TheVariants.{Less}
use Rattle.std.specs.FinMap.{entries}
use Rattle.hl_tree.specs.Names.{path_cmp}
use Rattle.hl_tree.specs.declared.node.Node.{Node}
use Rattle.hl_tree.specs.declared.node.Node.TheVariants.{Dir, File}
use Rattle.hl_placed.specs.Blocks.{PlacedFile, is_here}
use Rattle.hl_placed.specs.Placed.{PlacedTree}

-- (now - last use) times the resident blocks; the difference is 0 where now is earlier
abbrev pub coldness : ℕ → PlacedFile → ℕ
coldness now file = (now - file.used) * count_by is_here file.blocks

-- the files that have a resident block, in order of paths, each with its rank
abbrev pub cold_files : ℕ → List (List (List ℕ) × Node PlacedFile) → List (ℕ × List (List ℕ))
cold_files now [] = []
cold_files now ((path, Dir) ∷ rest) = cold_files now rest
cold_files now ((path, File file) ∷ rest) = if count_by is_here file.blocks == 0 then cold_files now rest else (coldness now file, path) ∷ cold_files now rest

-- the greatest first; of equal ones the first stays first
abbrev pub place_cold : ℕ × List (List ℕ) → List (ℕ × List (List ℕ)) → List (ℕ × List (List ℕ))
place_cold one [] = one ∷ []
place_cold one (other ∷ rest) = if nat_lt one.0 other.0 then other ∷ place_cold one rest else one ∷ other ∷ rest

abbrev pub by_coldness : List (ℕ × List (List ℕ)) → List (ℕ × List (List ℕ))
by_coldness [] = []
by_coldness (one ∷ rest) = place_cold one (by_coldness rest)

-- the paths in the order in which they are migrated
unfoldable pub ranked : ℕ → PlacedTree → List (List (List ℕ))
ranked now placed = map (λ one. one.1) (by_coldness (cold_files now (entries placed)))

-- one file is migrated before another: by its rank, and of equal ranks by its path
abbrev pub GoesBefore : ℕ × List (List ℕ) → ℕ × List (List ℕ) → Type 0
GoesBefore one other = (other.0 < one.0) ⊎ ((one.0 ≡ other.0) × (path_cmp one.1 other.1 ≡ Less))

-- each before all that follow
abbrev pub AreRanked : List (ℕ × List (List ℕ)) → Type 0
AreRanked [] = Unit {0}
AreRanked (one ∷ rest) = AllByRecursion (GoesBefore one) rest × AreRanked rest
