-- What numbered nodes are charged.
use Rattle.std.specs.Prelude.{ℕ, sum_by}
use Rattle.std.specs.FinMap.{entries}
use Rattle.hl_placed.specs.Blocks.{PlacedFile}
use Rattle.hl_placed.specs.Charges.{blocks_charge, names_charge}
use Rattle.hl_paths.specs.Entries.{entry_names}
use Rattle.hl_paths.specs.Numbered.{NumberedNode, Directory, Leaf, Numbering}

abbrev pub numbered_charge : NumberedNode PlacedFile → ℕ
numbered_charge (Directory es) = names_charge (entry_names es)
numbered_charge (Leaf file) = blocks_charge file.blocks

unfoldable pub nodes_charge : Numbering PlacedFile → ℕ
nodes_charge nodes = sum_by (λ e. numbered_charge e.1) (entries nodes)
