-- A tree of plain files as one list of bytes.
use Rattle.std.specs.Prelude.{◌≡◌, ℕ, ◌<◌, ◌≤◌, List, [], ◌∷◌, ◌++◌, length, flat_map, All}
use Rattle.std.specs.FinMap.{entries, len}
use Rattle.hl_bytes.specs.Fields.{le32}
use Rattle.hl_tree.specs.declared.call.Call.{Call}
use Rattle.hl_tree.specs.declared.call.Limits.{Limits}
use Rattle.hl_tree.specs.declared.node.Node.{Node}
use Rattle.hl_tree.specs.declared.node.Node.TheVariants.{Dir, File}
use Rattle.hl_tree.specs.Names.{AreNames, path_length}
use Rattle.hl_tree.specs.Rules.{Files, after}
use Rattle.hl_tree.specs.Tree.{IsTree}

-- the limits of the trees that are dumped: the nodes, the root among them, and the bytes of a file
abbrev pub dump_limits : Limits
dump_limits = record { nodes = 511; bytes = 4243456 }

-- the most bytes of a dump
abbrev pub dump_max : ℕ
dump_max = 4194304

-- a slash before each name
abbrev pub path_bytes : List (List ℕ) → List ℕ
path_bytes [] = []
path_bytes (name ∷ names) = 47 ∷ (name ++ path_bytes names)

-- a directory is its path, and a file its path and its bytes, each with its length before it
abbrev pub node_bytes : List (List ℕ) → Node (List ℕ) → List ℕ
node_bytes path Dir = (2 ∷ le32 (path_length path)) ++ path_bytes path
node_bytes path (File bytes) = (((1 ∷ le32 (path_length path)) ++ path_bytes path) ++ le32 (length bytes)) ++ bytes

-- the root has no entry
abbrev pub entry_bytes : (List (List ℕ) × Node (List ℕ)) → List ℕ
entry_bytes ([], node) = []
entry_bytes (name ∷ names, node) = node_bytes (name ∷ names) node

-- the entries of all nodes, in the order of their paths
unfoldable pub dump_bytes : Files → List ℕ
dump_bytes tree = flat_map entry_bytes (entries tree)

-- how many bytes they are
abbrev pub dump_size : Files → ℕ
dump_size tree = length (dump_bytes tree)

-- A tree that can be dumped: each parent is a directory, its names are names, and it isn't too large.
pub record HasDump (tree : Files) : Type 0 where
  pub is_tree : IsTree tree
  pub named : All (λ e. AreNames e.0) (entries tree)
  pub few : len tree ≤ 511
  pub short : dump_size tree ≤ dump_max

-- the whole is the dump of these files
pub record IsDump (whole : List ℕ) (files : Files) : Type 0 where
  pub tree : HasDump files
  pub bytes : whole ≡ dump_bytes files

-- The dump after the call would be longer than a dump may be, and longer than before.
pub record IsTooLong (limits : Limits) (tree : Files) (call : Call) : Type 0 where
  pub past : dump_max < dump_size (after limits tree call)
  pub grows : dump_size tree < dump_size (after limits tree call)
