-- The blocks that a staging takes, and the tree that it leaves.
use Rattle.std.specs.Prelude.{◌≡◌, ℕ, ◌+◌, ◌*◌, ◌<◌, not, List, [], ◌∷◌, map, filter, flat_map, length, get_or, set, Some}
use Rattle.std.specs.List.{range_with_len}
use Rattle.std.specs.FinMap.{get}
use Rattle.std.specs.Ordering.{eq_by_cmp}
use Rattle.hl_tree.specs.declared.node.Node.TheVariants.{File}
use Rattle.hl_tree.specs.Names.{path_cmp}
use Rattle.hl_tree.specs.Rules.{Files}
use Rattle.hl_tree.specs.OtherContents.{changed_at}
use Rattle.hl_placed.specs.Blocks.{Block, Away, PlacedFile, file_block, is_here}
use Rattle.hl_placed.specs.Placed.{PlacedTree}
use Rattle.hl_placed.specs.Calls.{of_file}

-- block i of the file at a path
abbrev pub Spot : Type 0
Spot = List (List ℕ) × ℕ

-- a path named twice counts once, where it was named first
abbrev pub once : List (List (List ℕ)) → List (List (List ℕ))
once [] = []
once (path ∷ paths) = path ∷ filter (λ other. not (eq_by_cmp path_cmp path other)) (once paths)

abbrev pub resident_of : List (List ℕ) → PlacedFile → List Spot
resident_of path file = map (λ i. (path, i)) (filter (λ i. is_here (file_block file i)) (range_with_len 0 (length file.blocks)))

-- the resident blocks of the files at these paths, in order of paths and indexes
abbrev pub resident : PlacedTree → List (List (List ℕ)) → List Spot
resident placed paths = flat_map (λ path. of_file (resident_of path) (get placed path)) (once paths)

abbrev pub with_file_block : ℕ → Block → PlacedFile → PlacedFile
with_file_block i block file = record { size = file.size; used = file.used; blocks = set file.blocks i block }

-- these blocks are away in the segment with that serial, one after another from a position on
abbrev pub put_away : ℕ → ℕ → List Spot → PlacedTree → PlacedTree
put_away serial position [] placed = placed
put_away serial position (spot ∷ spots) placed = put_away serial (position + 1) spots (changed_at placed spot.0 (with_file_block spot.1 (Away serial position)))

-- the segment has, one after another from a position on, the bytes of these blocks
abbrev pub HoldsBlocks : Files → List ℕ → ℕ → List Spot → Type 0
HoldsBlocks files segment position [] = Unit {0}
HoldsBlocks files segment position (spot ∷ spots) =
    ((bytes : List ℕ) → get files spot.0 ≡ Some (File bytes) → (k : ℕ) → k < 4096 → get_or segment (4096 * position + k) 0 ≡ get_or bytes (4096 * spot.1 + k) 0)
    × HoldsBlocks files segment (position + 1) spots

-- no block is away in the segment with that serial
abbrev pub IsNewSerial : ℕ → PlacedTree → Type 0
IsNewSerial serial placed = (path : List (List ℕ)) (file : PlacedFile) (i position : ℕ) → get placed path ≡ Some (File file) → file_block file i ≡ Away serial position → ⊥
