-- The file rules by numbers: what each call answers and what it leaves of the numbered nodes.
use Rattle.std.specs.Prelude.{ℕ, ◌+◌, Bool, true, false, ◌&&◌, ◌==◌, nat_lt, if◌then◌else◌, List, [], length, Option, Some, None, Result, Ok, Err, is_some, not}
use Rattle.std.specs.FinMap.{get, insert, remove}
use Rattle.std.specs.Ordering.{eq_by_cmp}
use Rattle.hl_tree.specs.declared.call.Call.{Call}
use Rattle.hl_tree.specs.declared.call.Call.TheVariants as calls
use Rattle.hl_tree.specs.declared.call.Limits.{Limits}
use Rattle.hl_tree.specs.declared.call.Reply.{Reply}
use Rattle.hl_tree.specs.declared.call.Reply.TheVariants as replies
use Rattle.hl_tree.specs.declared.call.Refusal.{Refusal}
use Rattle.hl_tree.specs.declared.call.Refusal.TheVariants.{Enoent, Eexist, Enotdir, Eisdir, Enotempty, Einval, Efbig, Enametoolong, Einodes}
use Rattle.hl_tree.specs.Contents.{read_at}
use Rattle.hl_tree.specs.Names.{AreNames, path_cmp, is_too_long, below}
use Rattle.hl_tree.specs.Refusals.{◌>>=◌, refused_if}
use Rattle.hl_dir.specs.declared.entry.Entry.{Entry}
use Rattle.hl_placed.specs.Blocks.{PlacedFile, Shelf, plain_bytes}
use Rattle.hl_placed.specs.Calls.{read_needs, write_needs, cut_needs}
use Rattle.hl_placed.specs.Changes.{written_file, cut_file, new_file, used_at}
use Rattle.hl_paths.specs.Entries.{entry_number, with_entry, without_entry, entry_names}
use Rattle.hl_paths.specs.Numbered.{NumberedNode, Directory, Leaf, Numbering, without_number}
use Rattle.hl_paths.specs.Finding.{named, last_name, Parent, entries_in, leaf_in, find_number, find_parent}
use Rattle.hl_paths.specs.Free.{lowest_free}

-- what a call that is not refused answers, and the nodes that it leaves; or why it is refused
abbrev pub NumberedDone : Type 0 → Type 0
NumberedDone B = Result (Reply × Numbering B) Refusal

-- a number must be free
abbrev pub found_free : Option ℕ → Result ℕ Refusal
found_free None = Err Einodes
found_free (Some number) = Ok number

-- a file with its number
pub record FileAt (B : Type 0) : Type 0 where
  pub number : ℕ
  pub content : B

module _ {B : Type 0} where
  -- the entries of a directory, and none where there is no directory
  abbrev pub entries_or_none : Option (NumberedNode B) → List Entry
  entries_or_none None = []
  entries_or_none (Some (Leaf content)) = []
  entries_or_none (Some (Directory es)) = es

  abbrev pub is_directory_node : Option (NumberedNode B) → Bool
  is_directory_node None = false
  is_directory_node (Some (Leaf content)) = false
  is_directory_node (Some (Directory es)) = true

  -- what stands at the target of a Rename and may not be replaced, by whether a directory moves
  abbrev pub may_replace : Bool → Option (NumberedNode B) → Result (Unit {0}) Refusal
  may_replace moving None = Ok tt
  may_replace true (Some (Directory es)) = refused_if (not (length es == 0)) Enotempty
  may_replace false (Some (Directory es)) = Err Eisdir
  may_replace true (Some (Leaf content)) = Err Enotdir
  may_replace false (Some (Leaf content)) = Ok tt

  -- the nodes in which a directory has other entries, told from those that it has
  abbrev pub with_entries : ℕ → (List Entry → List Entry) → Numbering B → Numbering B
  with_entries number change nodes = insert nodes number (Directory (change (entries_or_none (get nodes number))))

  -- where the target is the root
  abbrev pub onto_root : Bool → NumberedDone B
  onto_root true = Err Enotempty
  onto_root false = Err Eisdir

-- the calls that don't look into files, over contents of any kind
module _ {B : Type 0} (limits : Limits) (nodes : Numbering B) where
  -- Mkdir and Create: a new node under the lowest free number
  unfoldable pub make_by_numbers : NumberedNode B → List (List ℕ) → NumberedDone B
  make_by_numbers node path = do
    _ ← refused_if (is_too_long path) Enametoolong
    _ ← refused_if (length path == 0) Eexist
    parent ← find_parent nodes path
    _ ← refused_if (is_some (entry_number parent.entries (last_name path))) Eexist
    number ← found_free (lowest_free nodes limits.nodes)
    Ok (replies.Ok, insert (insert nodes parent.number (Directory (with_entry (last_name path) number parent.entries))) number node)

  unfoldable pub list_by_numbers : List (List ℕ) → NumberedDone B
  list_by_numbers path = do
    _ ← refused_if (is_too_long path) Enametoolong
    number ← find_number nodes path
    es ← entries_in (get nodes number)
    Ok (replies.Names (entry_names es), nodes)

  -- the nodes without a number and its name
  abbrev pub gone : Parent → List ℕ → ℕ → Numbering B
  gone parent name number = remove (insert nodes parent.number (Directory (without_entry name parent.entries))) number

  unfoldable pub unlink_by_numbers : List (List ℕ) → NumberedDone B
  unlink_by_numbers path = do
    _ ← refused_if (is_too_long path) Enametoolong
    _ ← refused_if (length path == 0) Eisdir
    parent ← find_parent nodes path
    number ← named (entry_number parent.entries (last_name path))
    _ ← leaf_in (get nodes number)
    Ok (replies.Ok, gone parent (last_name path) number)

  unfoldable pub rmdir_by_numbers : List (List ℕ) → NumberedDone B
  rmdir_by_numbers path = do
    _ ← refused_if (is_too_long path) Enametoolong
    _ ← refused_if (length path == 0) Einval
    parent ← find_parent nodes path
    number ← named (entry_number parent.entries (last_name path))
    es ← entries_in (get nodes number)
    _ ← refused_if (not (length es == 0)) Enotempty
    Ok (replies.Ok, gone parent (last_name path) number)

  abbrev pub at_number : Option ℕ → Option (NumberedNode B)
  at_number None = None
  at_number (Some number) = get nodes number

  -- the entry goes from one directory to the other, where it takes the place of one of the same name
  abbrev pub renamed_nodes : ℕ → List ℕ → ℕ → ℕ → List ℕ → Option ℕ → Numbering B
  renamed_nodes parent name number to_parent to_name target =
      without_number target (with_entries to_parent (with_entry to_name number) (with_entries parent (without_entry name) nodes))

  unfoldable pub rename_by_numbers : List (List ℕ) → List (List ℕ) → NumberedDone B
  rename_by_numbers from to = do
    _ ← refused_if (is_too_long from) Enametoolong
    _ ← refused_if (is_too_long to) Enametoolong
    _ ← refused_if (length from == 0) Einval
    parent ← find_parent nodes from
    number ← named (entry_number parent.entries (last_name from))
    if eq_by_cmp path_cmp from to then Ok (replies.Ok, nodes) else (do
      _ ← refused_if (is_directory_node (get nodes number) && is_some (below from to)) Einval
      if length to == 0 then onto_root (is_directory_node (get nodes number)) else (do
        to_parent ← find_parent nodes to
        _ ← may_replace (is_directory_node (get nodes number)) (at_number (entry_number to_parent.entries (last_name to)))
        Ok (replies.Ok, renamed_nodes parent.number (last_name from) number to_parent.number (last_name to) (entry_number to_parent.entries (last_name to)))))

  -- the file at a path, as Write, Cut and Read look for it
  unfoldable pub file_at : List (List ℕ) → Result (FileAt B) Refusal
  file_at path = do
    _ ← refused_if (is_too_long path) Enametoolong
    number ← find_number nodes path
    content ← leaf_in (get nodes number)
    Ok (record { number = number; content = content })

-- the calls on files
module _ (limits : Limits) (shelf : Shelf) (nodes : Numbering PlacedFile) (now : ℕ) where
  unfoldable pub write_by_numbers : List (List ℕ) → ℕ → List ℕ → NumberedDone PlacedFile
  write_by_numbers path at bytes = do
    file ← file_at limits nodes path
    _ ← refused_if (nat_lt 65536 (length bytes)) Einval
    if length bytes == 0 then Ok (replies.Ok, nodes) else (do
      _ ← refused_if (nat_lt limits.bytes (at + length bytes)) Efbig
      Ok (replies.Ok, insert nodes file.number (Leaf (written_file shelf file.content at bytes now))))

  unfoldable pub cut_by_numbers : List (List ℕ) → ℕ → NumberedDone PlacedFile
  cut_by_numbers path size = do
    file ← file_at limits nodes path
    _ ← refused_if (nat_lt limits.bytes size) Efbig
    Ok (replies.Ok, insert nodes file.number (Leaf (cut_file shelf file.content size now)))

  unfoldable pub read_by_numbers : List (List ℕ) → ℕ → ℕ → NumberedDone PlacedFile
  read_by_numbers path at len = do
    file ← file_at limits nodes path
    Ok (replies.Data (read_at (plain_bytes shelf file.content) at len), insert nodes file.number (Leaf (used_at now file.content)))

  abbrev pub numbered_status : Option (NumberedNode PlacedFile) → Result Reply Refusal
  numbered_status None = Err Enoent
  numbered_status (Some (Directory es)) = Ok (replies.Dir (length es))
  numbered_status (Some (Leaf file)) = Ok (replies.File file.size)

  unfoldable pub stat_by_numbers : List (List ℕ) → NumberedDone PlacedFile
  stat_by_numbers path = do
    _ ← refused_if (is_too_long path) Enametoolong
    number ← find_number nodes path
    reply ← numbered_status (get nodes number)
    Ok (reply, nodes)

-- the calls, each with its rules in their one order
abbrev pub by_numbers : Limits → Shelf → Numbering PlacedFile → ℕ → Call → NumberedDone PlacedFile
by_numbers limits shelf nodes now (calls.Mkdir path) = make_by_numbers limits nodes (Directory []) path
by_numbers limits shelf nodes now (calls.Create path) = make_by_numbers limits nodes (Leaf (new_file now)) path
by_numbers limits shelf nodes now (calls.Write path at bytes) = write_by_numbers limits shelf nodes now path at bytes
by_numbers limits shelf nodes now (calls.Cut path size) = cut_by_numbers limits shelf nodes now path size
by_numbers limits shelf nodes now (calls.Read path at len) = read_by_numbers limits shelf nodes now path at len
by_numbers limits shelf nodes now (calls.Stat path) = stat_by_numbers limits shelf nodes now path
by_numbers limits shelf nodes now (calls.List path) = list_by_numbers limits nodes path
by_numbers limits shelf nodes now (calls.Unlink path) = unlink_by_numbers limits nodes path
by_numbers limits shelf nodes now (calls.Rmdir path) = rmdir_by_numbers limits nodes path
by_numbers limits shelf nodes now (calls.Rename from to) = rename_by_numbers limits nodes from to
by_numbers limits shelf nodes now calls.Sync = Ok (replies.Ok, nodes)

-- what is answered, and the nodes that are left
abbrev pub numbered_reply : NumberedDone PlacedFile → Reply
numbered_reply (Ok done) = done.0
numbered_reply (Err why) = replies.Refused why

abbrev pub numbered_left : Numbering PlacedFile → NumberedDone PlacedFile → Numbering PlacedFile
numbered_left nodes (Ok done) = done.1
numbered_left nodes (Err why) = nodes

-- the node that a path leads to
abbrev pub node_by_path : Numbering PlacedFile → Result ℕ Refusal → Option (NumberedNode PlacedFile)
node_by_path nodes (Ok number) = get nodes number
node_by_path nodes (Err why) = None

-- a list that a file has, and none where there is no file
abbrev pub of_leaf : {X : Type 0} → (PlacedFile → List X) → Option (NumberedNode PlacedFile) → List X
of_leaf list None = []
of_leaf list (Some (Directory es)) = []
of_leaf list (Some (Leaf file)) = list file

-- the serials whose bytes a call reads
abbrev pub needed : Numbering PlacedFile → Call → List ℕ
needed nodes (calls.Read path at len) = of_leaf (read_needs at len) (node_by_path nodes (find_number nodes path))
needed nodes (calls.Write path at bytes) = of_leaf (write_needs at bytes) (node_by_path nodes (find_number nodes path))
needed nodes (calls.Cut path size) = of_leaf (cut_needs size) (node_by_path nodes (find_number nodes path))
needed nodes call = []

-- the paths of a call consist of names
abbrev pub HasNames : Call → Type 0
HasNames (calls.Mkdir path) = AreNames path
HasNames (calls.Create path) = AreNames path
HasNames (calls.Write path at bytes) = AreNames path
HasNames (calls.Cut path size) = AreNames path
HasNames (calls.Read path at len) = AreNames path
HasNames (calls.Stat path) = AreNames path
HasNames (calls.List path) = AreNames path
HasNames (calls.Unlink path) = AreNames path
HasNames (calls.Rmdir path) = AreNames path
HasNames (calls.Rename from to) = AreNames from × AreNames to
HasNames calls.Sync = Unit {0}
