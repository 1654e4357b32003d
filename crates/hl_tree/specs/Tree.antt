-- Trees: finite maps from paths to nodes, whose files have contents of any kind.
use Rattle.std.specs.Prelude.{◌≡◌, ℕ, List, [], ◌∷◌, ◌++◌, map, Option, Some, None, Result, Ok, Err, is_none, refl}
use Rattle.std.specs.Coded.{Coded, code_by, coded_option, coded_list, coded_ℕ}
use Rattle.std.specs.FinMap.{FinMap, get, entries, keys, retain_keys, from_entries, insert, empty, code}
use Rattle.hl_tree.specs.declared.call.Refusal.{Refusal}
use Rattle.hl_tree.specs.declared.call.Refusal.TheVariants.{Enoent, Enotdir, Eisdir, Enametoolong}
use Rattle.hl_tree.specs.declared.node.Node.{Node}
use Rattle.hl_tree.specs.declared.node.Node.TheVariants.{Dir, File}
use Rattle.hl_tree.specs.Names.{path_cmp, is_too_long, below, children, moved_path}
use Rattle.hl_tree.specs.Refusals.{◌>>=◌, refused_if}

abbrev pub Tree : Type 0 → Type 0
Tree B = FinMap path_cmp (Node B)

-- the root alone, empty
abbrev pub root_alone : {B : Type 0} → Tree B
root_alone = insert empty [] Dir

-- the root is a directory, and so is each parent
pub record IsTree {B : Type 0} (t : Tree B) : Type 0 where
  pub root : get t [] ≡ Some Dir
  pub parents : (path : List (List ℕ)) (name : List ℕ) (node : Node B) → get t (path ++ name ∷ []) ≡ Some node → get t path ≡ Some Dir

module _ {B : Type 0} where
  -- one step of a walk: what stands here must be a directory
  abbrev pub in_directory : {C : Type 0} → Option (Node B) → Result C Refusal → Result C Refusal
  in_directory None next = Err Enoent
  in_directory (Some Dir) next = next
  in_directory (Some (File content)) next = Err Enotdir

  -- Each directory on the way to a path is there and is a directory. The way went through the names of done.
  abbrev pub way_on : Tree B → List (List ℕ) → List (List ℕ) → Result (Unit {0}) Refusal
  way_on t done [] = Ok tt
  way_on t done (name ∷ names) = in_directory (get t done) (way_on t (done ++ name ∷ []) names)

  -- the walk to the parent of a path
  unfoldable pub walk_to_parent : Tree B → List (List ℕ) → Result (Unit {0}) Refusal
  walk_to_parent t path = way_on t [] path

  -- a node must be there
  abbrev pub found : Option (Node B) → Result (Node B) Refusal
  found None = Err Enoent
  found (Some node) = Ok node

  -- the walk to a path
  unfoldable pub walk : Tree B → List (List ℕ) → Result (Node B) Refusal
  walk t path = do
    _ ← walk_to_parent t path
    found (get t path)

  -- the content of a file, as a refusal where a directory stands
  abbrev pub content_of : Node B → Result B Refusal
  content_of Dir = Err Eisdir
  content_of (File content) = Ok content

  -- the content of the file at a path, as Write, Cut and Read look for it
  unfoldable pub content_at : Tree B → List (List ℕ) → Result B Refusal
  content_at t path = do
    _ ← refused_if (is_too_long path) Enametoolong
    node ← walk t path
    content_of node

  -- a directory must be there
  abbrev pub directory : Node B → Result (Unit {0}) Refusal
  directory Dir = Ok tt
  directory (File content) = Err Enotdir

  -- the names in a directory, in order of bytes
  unfoldable pub names_in : Tree B → List (List ℕ) → List (List ℕ)
  names_in t path = children path (keys t)

  -- each entry at the path where it lies once from has moved to to
  abbrev pub moved_entries : List (List ℕ) → List (List ℕ) → List (List (List ℕ) × Node B) → List (List (List ℕ) × Node B)
  moved_entries from to es = map (λ e. (moved_path from to e.0, e.1)) es

  -- The node at from and all below it move to to; what was at to or below it is gone.
  unfoldable pub moved : Tree B → List (List ℕ) → List (List ℕ) → Tree B
  moved t from to = from_entries (moved_entries from to (entries (retain_keys t (λ path. is_none (below to path)))))

abbrev pub maybe_content : {B : Type 0} → Node B → Option B
maybe_content Dir = None
maybe_content (File content) = Some content

abbrev pub node_with : {B : Type 0} → Option B → Node B
node_with None = Dir
node_with (Some content) = File content

pub node_with-maybe_content : {B : Type 0} (node : Node B) → node_with (maybe_content node) ≡ node
node_with-maybe_content Dir = refl
node_with-maybe_content (File content) = refl

-- how a tree is stored as a value
abbrev pub node_code : {B : Type 0} → Coded B → Coded (Node B)
node_code {B} c = code_by (Option B) (coded_option c) maybe_content node_with node_with-maybe_content

abbrev pub tree_code : {B : Type 0} → Coded B → Coded (Tree B)
tree_code c = code (coded_list (coded_list coded_ℕ)) (node_code c)
