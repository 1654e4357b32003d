-- What a reader of a dump finds in bytes.
use Rattle.std.specs.Prelude.{◌≡◌, ◌≢◌, ℕ, ◌^◌, ◌<◌, List, [], length, All, Option, Some, None}
use Rattle.hl_tree.specs.declared.node.Node.{Node}
use Rattle.hl_tree.specs.declared.node.Node.TheVariants.{Dir, File}
use Rattle.hl_tree.specs.Names.{AreNames, path_length}
use Rattle.hl_dump.specs.Dumps.{path_bytes}

-- a path, and what stands there
abbrev pub Row : Type 0
Row = List (List ℕ) × Node (List ℕ)

-- bytes without a slash
abbrev pub IsPart : List ℕ → Type 0
IsPart name = All (λ b. b ≢ 47) name

-- a named path below the root
pub record IsPath (path : List (List ℕ)) : Type 0 where
  pub some : path ≢ []
  pub named : AreNames path

-- the path that the bytes are, or none where they are no path
abbrev pub ReadsPath : List ℕ → Option (List (List ℕ)) → Type 0
ReadsPath bytes (Some path) = IsPath path × (bytes ≡ path_bytes path)
ReadsPath bytes None = (path : List (List ℕ)) → IsPath path → bytes ≡ path_bytes path → ⊥

-- the bytes of a file, and none of a directory
abbrev pub content_of : Node (List ℕ) → List ℕ
content_of Dir = []
content_of (File bytes) = bytes

-- a named node below the root, whose lengths have room in their fields
pub record IsEntry (e : Row) : Type 0 where
  pub some : e.0 ≢ []
  pub named : AreNames e.0
  pub path : path_length e.0 < 2 ^ 32
  pub content : length (content_of e.1) < 2 ^ 32
