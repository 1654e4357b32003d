-- How many bytes entries are.
use Rattle.std.specs.Prelude.{ℕ, ◌+◌, List, [], ◌∷◌, length}
use Rattle.hl_tree.specs.declared.node.Node.{Node}
use Rattle.hl_tree.specs.declared.node.Node.TheVariants.{Dir, File}
use Rattle.hl_tree.specs.Names.{path_length}
use Rattle.hl_dump.specs.Reading.{Row}

-- the bytes of a node behind its path
abbrev pub content_size : Node (List ℕ) → ℕ
content_size Dir = 0
content_size (File bytes) = 4 + length bytes

-- the bytes of an entry: the kind, the path with its length, and the content; none of the root
abbrev pub entry_size : Row → ℕ
entry_size ([], node) = 0
entry_size (name ∷ names, node) = 5 + path_length (name ∷ names) + content_size node
