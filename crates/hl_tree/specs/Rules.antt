-- The file rules: what each call answers and what it leaves.
use Rattle.std.specs.Prelude.{ℕ, ◌+◌, Bool, true, false, ◌&&◌, ◌==◌, nat_lt, nat_le, if◌then◌else◌, List, [], length, Option, Some, None, Result, Ok, Err, is_some, not}
use Rattle.std.specs.FinMap.{get, insert, remove, len}
use Rattle.std.specs.Ordering.{eq_by_cmp}
use Rattle.hl_tree.specs.declared.call.Call.{Call}
use Rattle.hl_tree.specs.declared.call.Call.TheVariants as calls
use Rattle.hl_tree.specs.declared.call.Reply.{Reply}
use Rattle.hl_tree.specs.declared.call.Reply.TheVariants as replies
use Rattle.hl_tree.specs.declared.call.Refusal.{Refusal}
use Rattle.hl_tree.specs.declared.call.Refusal.TheVariants.{Eexist, Enotdir, Eisdir, Enotempty, Einval, Efbig, Enametoolong, Einodes}
use Rattle.hl_tree.specs.declared.call.Limits.{Limits}
use Rattle.hl_tree.specs.declared.node.Node.{Node}
use Rattle.hl_tree.specs.declared.node.Node.TheVariants.{Dir, File}
use Rattle.hl_tree.specs.Contents.{resized, written, read_at}
use Rattle.hl_tree.specs.Names.{path_cmp, is_too_long, below}
use Rattle.hl_tree.specs.Refusals.{◌>>=◌, refused_if}
use Rattle.hl_tree.specs.Tree.{Tree, walk, walk_to_parent, content_of, content_at, directory, names_in, moved}

-- plain files: the content of a file is its bytes
abbrev pub Files : Type 0
Files = Tree (List ℕ)

-- what a call that is not refused answers, and the tree that it leaves; or why it is refused
abbrev pub Done : Type 0 → Type 0
Done B = Result (Reply × Tree B) Refusal

abbrev pub Outcome : Type 0
Outcome = Done (List ℕ)

-- the calls that don't look into files, over contents of any kind
module _ {B : Type 0} (limits : Limits) (t : Tree B) where
  -- Mkdir and Create: a new node
  unfoldable pub make : Node B → List (List ℕ) → Done B
  make node path = do
    _ ← refused_if (is_too_long path) Enametoolong
    _ ← refused_if (length path == 0) Eexist
    _ ← walk_to_parent t path
    _ ← refused_if (is_some (get t path)) Eexist
    _ ← refused_if (nat_le limits.nodes (len t)) Einodes
    Ok (replies.Ok, insert t path node)

  unfoldable pub list : List (List ℕ) → Done B
  list path = do
    _ ← refused_if (is_too_long path) Enametoolong
    node ← walk t path
    _ ← directory node
    Ok (replies.Names (names_in t path), t)

  unfoldable pub unlink : List (List ℕ) → Done B
  unlink path = do
    _ ← refused_if (is_too_long path) Enametoolong
    _ ← refused_if (length path == 0) Eisdir
    node ← walk t path
    _ ← content_of node
    Ok (replies.Ok, remove t path)

  abbrev pub has_names : List (List ℕ) → Bool
  has_names path = not (length (names_in t path) == 0)

  unfoldable pub rmdir : List (List ℕ) → Done B
  rmdir path = do
    _ ← refused_if (is_too_long path) Enametoolong
    _ ← refused_if (length path == 0) Einval
    node ← walk t path
    _ ← directory node
    _ ← refused_if (has_names path) Enotempty
    Ok (replies.Ok, remove t path)

  -- what stands at the target of a Rename and may not be replaced
  abbrev pub replaced : Node B → List (List ℕ) → Option (Node B) → Result (Unit {0}) Refusal
  replaced moving to None = Ok tt
  replaced (File content) to (Some Dir) = Err Eisdir
  replaced Dir to (Some Dir) = refused_if (has_names to) Enotempty
  replaced (File content) to (Some (File old)) = Ok tt
  replaced Dir to (Some (File old)) = Err Enotdir

  abbrev pub is_directory : Node B → Bool
  is_directory Dir = true
  is_directory (File content) = false

  unfoldable pub rename : List (List ℕ) → List (List ℕ) → Done B
  rename from to = do
    _ ← refused_if (is_too_long from) Enametoolong
    _ ← refused_if (is_too_long to) Enametoolong
    _ ← refused_if (length from == 0) Einval
    moving ← walk t from
    if eq_by_cmp path_cmp from to then Ok (replies.Ok, t) else (do
      _ ← refused_if (is_directory moving && is_some (below from to)) Einval
      _ ← walk_to_parent t to
      _ ← replaced moving to (get t to)
      Ok (replies.Ok, moved t from to))

-- the calls on the bytes of files
module _ (limits : Limits) (t : Files) where
  unfoldable pub write : List (List ℕ) → ℕ → List ℕ → Outcome
  write path at bytes = do
    old ← content_at t path
    _ ← refused_if (nat_lt 65536 (length bytes)) Einval
    if length bytes == 0 then Ok (replies.Ok, t) else (do
      _ ← refused_if (nat_lt limits.bytes (at + length bytes)) Efbig
      Ok (replies.Ok, insert t path (File (written old at bytes))))

  unfoldable pub cut : List (List ℕ) → ℕ → Outcome
  cut path size = do
    old ← content_at t path
    _ ← refused_if (nat_lt limits.bytes size) Efbig
    Ok (replies.Ok, insert t path (File (resized old size)))

  unfoldable pub read : List (List ℕ) → ℕ → ℕ → Outcome
  read path at len = do
    bytes ← content_at t path
    Ok (replies.Data (read_at bytes at len), t)

  abbrev pub status : List (List ℕ) → Node (List ℕ) → Reply
  status path Dir = replies.Dir (length (names_in t path))
  status path (File bytes) = replies.File (length bytes)

  unfoldable pub stat : List (List ℕ) → Outcome
  stat path = do
    _ ← refused_if (is_too_long path) Enametoolong
    node ← walk t path
    Ok (status path node, t)

  -- the calls, each with its rules in their one order
  abbrev pub outcome : Call → Outcome
  outcome (calls.Mkdir path) = make limits t Dir path
  outcome (calls.Create path) = make limits t (File []) path
  outcome (calls.Write path at bytes) = write path at bytes
  outcome (calls.Cut path size) = cut path size
  outcome (calls.Read path at len) = read path at len
  outcome (calls.Stat path) = stat path
  outcome (calls.List path) = list limits t path
  outcome (calls.Unlink path) = unlink limits t path
  outcome (calls.Rmdir path) = rmdir limits t path
  outcome (calls.Rename from to) = rename limits t from to
  outcome calls.Sync = Ok (replies.Ok, t)

-- a refused call changes nothing
abbrev pub reply_of : Outcome → Reply
reply_of (Ok done) = done.0
reply_of (Err why) = replies.Refused why

abbrev pub tree_of : Files → Outcome → Files
tree_of t (Ok done) = done.1
tree_of t (Err why) = t

abbrev pub reply : Limits → Files → Call → Reply
reply limits t call = reply_of (outcome limits t call)

abbrev pub after : Limits → Files → Call → Files
after limits t call = tree_of t (outcome limits t call)
