-- What nodes that were found are charged.
use Rattle.std.specs.Prelude.{◌≡◌, ℕ, ◌<◌, ◌^◌, List, length, Option, Some, None}
use Rattle.std.specs.List.{slice_index_or}
use Rattle.hl_placed.specs.Charges.{blocks_charge}
use Rattle.hl_nodes.specs.declared.found.FoundNode.{FoundNode}
use Rattle.hl_nodes.specs.Found.{node_found}

-- each node has below 2^32 blocks
abbrev pub HaveFewBlocks : List (Option FoundNode) → Type 0
HaveFewBlocks found = (i : ℕ) (n : FoundNode) → slice_index_or found i None ≡ Some n → length n.blocks.items < 2 ^ 32

-- what a node is charged, if there is one
abbrev pub charge_found : Option FoundNode → ℕ
charge_found None = 0
charge_found (Some n) = blocks_charge (node_found n).content.blocks
