-- The rows of a tree in which a node moves, or a file changes.
use Rattle.std.specs.Prelude.{ℕ, List, [], ◌∷◌, map, is_none, is_some, Option, Some, None}
use Rattle.std.specs.FinMap.Entries.{find, put, where_key}
use Rattle.hl_tree.specs.Names.{path_cmp, below, moved_path}
use Rattle.hl_tree.specs.OtherContents.{node_map}
use Rattle.hl_tree.specs.Tree.{moved_entries}
use Rattle.hl_tree.specs.declared.node.Node.{Node}

-- these rows, each put into its place
abbrev pub put_all : {X : Type 0} → List (List (List ℕ) × X) → List (List (List ℕ) × X)
put_all [] = []
put_all (e ∷ es) = put path_cmp e.0 e.1 (put_all es)

-- the rows that aren't at or below a path
abbrev pub kept_rows : {X : Type 0} → List (List ℕ) → List (List (List ℕ) × X) → List (List (List ℕ) × X)
kept_rows to rows = where_key path_cmp (λ path. is_none (below to path)) rows

-- the rows that are at or below a path
abbrev pub moving_rows : {X : Type 0} → List (List ℕ) → List (List (List ℕ) × X) → List (List (List ℕ) × X)
moving_rows from rows = where_key path_cmp (λ path. is_some (below from path)) rows

-- what is not at or below to, with from moved to it
abbrev pub moved_rows_of : {B : Type 0} → List (List ℕ) → List (List ℕ) → List (List (List ℕ) × Node B) → List (List (List ℕ) × Node B)
moved_rows_of from to rows = put_all (moved_entries from to (kept_rows to rows))

-- the paths to which rows move
abbrev pub moved_keys : {X : Type 0} → List (List ℕ) → List (List ℕ) → List (List (List ℕ) × X) → List (List (List ℕ))
moved_keys from to rows = map (λ e. moved_path from to e.0) rows

-- what is left below from of a path that moves: none where it is at or below to, and goes
abbrev pub rest_unless : Option (List (List ℕ)) → Option (List (List ℕ)) → Option (List (List ℕ))
rest_unless (Some gone) rest = None
rest_unless None rest = rest

abbrev pub moving_rest : List (List ℕ) → List (List ℕ) → List (List ℕ) → Option (List (List ℕ))
moving_rest from to path = rest_unless (below to path) (below from path)

-- the rows with these paths in place of their own
abbrev pub with_keys : {X : Type 0} → List (List (List ℕ)) → List (List (List ℕ) × X) → List (List (List ℕ) × X)
with_keys [] rows = rows
with_keys (key ∷ keys) [] = []
with_keys (key ∷ keys) (e ∷ es) = (key, e.1) ∷ with_keys keys es

-- the rows with the content of the file at a path changed
abbrev pub put_changed_row : {B : Type 0} → List (List ℕ) → (B → B) → List (List (List ℕ) × Node B) → Option (Node B) → List (List (List ℕ) × Node B)
put_changed_row path f rows None = rows
put_changed_row path f rows (Some node) = put path_cmp path (node_map f node) rows

abbrev pub changed_rows : {B : Type 0} → List (List ℕ) → (B → B) → List (List (List ℕ) × Node B) → List (List (List ℕ) × Node B)
changed_rows path f rows = put_changed_row path f rows (find path_cmp path rows)
