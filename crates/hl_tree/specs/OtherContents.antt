-- A tree with contents of another kind at its files.
use Rattle.std.specs.Prelude.{ℕ, List, [], ◌∷◌, Option, Some, None}
use Rattle.std.specs.FinMap.{get, insert, entries, from_sorted}
use Rattle.hl_tree.specs.declared.node.Node.{Node}
use Rattle.hl_tree.specs.declared.node.Node.TheVariants.{Dir, File}
use Rattle.hl_tree.specs.Tree.{Tree}

-- contents of another kind, at each file
abbrev pub node_map : {A B : Type 0} → (A → B) → Node A → Node B
node_map f Dir = Dir
node_map f (File content) = File (f content)

abbrev pub mapped : {A B : Type 0} → (A → B) → List (List (List ℕ) × Node A) → List (List (List ℕ) × Node B)
mapped f [] = []
mapped f (e ∷ es) = (e.0, node_map f e.1) ∷ mapped f es

unfoldable pub map_contents : {A B : Type 0} → (A → B) → Tree A → Tree B
map_contents f t = from_sorted (mapped f (entries t))

-- the same node at its path, with the content of a file changed
abbrev pub put_changed : {B : Type 0} → Tree B → List (List ℕ) → (B → B) → Option (Node B) → Tree B
put_changed t path f None = t
put_changed t path f (Some node) = insert t path (node_map f node)

-- the tree in which the file at a path has another content
unfoldable pub changed_at : {B : Type 0} → Tree B → List (List ℕ) → (B → B) → Tree B
changed_at t path f = put_changed t path f (get t path)
