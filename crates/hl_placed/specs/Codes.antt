-- How a placed tree is stored as a value.
use Rattle.std.specs.Prelude.{◌≡◌, ℕ, zero, suc, List, [], refl}
use Rattle.std.specs.Coded.{Coded, code_by, coded×, coded_list, coded_ℕ}
use Rattle.hl_tree.specs.Tree.{tree_code}
use Rattle.hl_placed.specs.Blocks.{Block, Hole, Here, Away, PlacedFile}
use Rattle.hl_placed.specs.Placed.{PlacedTree}

-- a block by the number of its case, and what it has
abbrev pub block_to : Block → ℕ × (List ℕ × (ℕ × ℕ))
block_to Hole = (0, ([], (0, 0)))
block_to (Here bytes) = (1, (bytes, (0, 0)))
block_to (Away serial position) = (2, ([], (serial, position)))

abbrev pub block_from : ℕ → List ℕ → ℕ → ℕ → Block
block_from zero bytes serial position = Hole
block_from (suc zero) bytes serial position = Here bytes
block_from (suc (suc n)) bytes serial position = Away serial position

pub block_from-to : (block : Block) → block_from (block_to block).0 (block_to block).1.0 (block_to block).1.1.0 (block_to block).1.1.1 ≡ block
block_from-to Hole = refl
block_from-to (Here bytes) = refl
block_from-to (Away serial position) = refl

abbrev pub block_code : Coded Block
block_code = code_by (ℕ × (List ℕ × (ℕ × ℕ))) (coded× coded_ℕ (coded× (coded_list coded_ℕ) (coded× coded_ℕ coded_ℕ))) block_to (λ c. block_from c.0 c.1.0 c.1.1.0 c.1.1.1) block_from-to

abbrev pub file_code : Coded PlacedFile
file_code = code_by (ℕ × (ℕ × List Block)) (coded× coded_ℕ (coded× coded_ℕ (coded_list block_code))) (λ f. (f.size, (f.used, f.blocks))) (λ c. record { size = c.0; used = c.1.0; blocks = c.1.1 }) (λ _. refl)

abbrev pub placed_code : Coded PlacedTree
placed_code = tree_code file_code
