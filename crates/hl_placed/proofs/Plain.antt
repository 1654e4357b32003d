-- The plain tree of a placed one goes along with each call.
use Rattle.std.proofs.Common.{arith, ◌≡◌, ℕ, Bool, true, false, nat_eq, List, [], length, Option, Some, None, Ok, Err, cond, refl, ap, ◌∙◌, sym, if◌then◌else◌}
use Rattle.std.specs.Option.{option_map}
use Rattle.std.specs.Ordering.{eq_by_cmp}
use Rattle.std.specs.FinMap.{get, insert, remove, get-insert}
use Rattle.hl_tree.specs.declared.call.Limits.{Limits}
use Rattle.hl_tree.specs.declared.call.Call.{Call}
use Rattle.hl_tree.specs.declared.call.Call.TheVariants as calls
use Rattle.hl_tree.specs.declared.call.Reply.{Reply}
use Rattle.hl_tree.specs.declared.node.Node.{Node}
use Rattle.hl_tree.specs.declared.node.Node.TheVariants.{Dir, File}
use Rattle.hl_tree.specs.Contents.{resized, written}
use Rattle.hl_tree.specs.Names.{path_cmp}
use Rattle.hl_tree.specs.OtherContents.{node_map, changed_at, put_changed}
use Rattle.hl_tree.specs.Tree.{Tree, moved, content_at}
use Rattle.hl_tree.specs.Rules.{Files, Outcome, outcome, tree_of, after, make, write, cut, read, stat, list, unlink, rmdir, rename}
use Rattle.hl_tree.proofs.Maps.{path_total}
use Rattle.hl_tree.proofs.Lookups.{changed_at-file}
use Rattle.hl_tree_laws.proofs.Lookups.{same_tree}
use Rattle.hl_tree.proofs.Moved.{same, same_is}
use Rattle.hl_tree_laws.proofs.OtherContents.{get-map_contents, map_contents-insert, map_contents-remove}
use Rattle.hl_tree_laws.proofs.SameCalls.{map_contents-moved_any}
use Rattle.hl_placed.specs.Blocks.{PlacedFile, Shelf, plain_bytes}
use Rattle.hl_placed.specs.Changes.{written_file, cut_file, new_file, used_at}
use Rattle.hl_placed.specs.Placed.{PlacedTree, ArePlaced, plain}
use Rattle.hl_placed.specs.Calls.{accepted, is_accepted, placed_after}
use Rattle.hl_placed.proofs.Accepted.{accepts-plain}
use Rattle.hl_placed.proofs.Changes.{plain_bytes-written_file, plain_bytes-cut_file}

module _ (shelf : Shelf) (placed : PlacedTree) where
  pub get-plain : (path : List (List ℕ)) → get (plain shelf placed) path ≡ option_map (node_map (plain_bytes shelf)) (get placed path)
  unfolding plain
  get-plain path = get-map_contents (plain_bytes shelf) placed path

  pub plain-insert : (path : List (List ℕ)) (node : Node PlacedFile) → plain shelf (insert placed path node) ≡ insert (plain shelf placed) path (node_map (plain_bytes shelf) node)
  unfolding plain
  plain-insert path node = map_contents-insert (plain_bytes shelf) placed path node

  pub plain-remove : (path : List (List ℕ)) → plain shelf (remove placed path) ≡ remove (plain shelf placed) path
  unfolding plain
  plain-remove path = map_contents-remove (plain_bytes shelf) placed path

  pub plain-moved : (limits : Limits) (from to : List (List ℕ)) → plain shelf (moved placed from to) ≡ moved (plain shelf placed) from to
  unfolding plain
  plain-moved limits from to = map_contents-moved_any (plain_bytes shelf) limits placed from to

-- what is there is put there again
pub insert_there : {B : Type 0} (t : Tree B) (path : List (List ℕ)) (node : Node B) → get t path ≡ Some node → insert t path node ≡ t
insert_there t path node there = same_tree _ _ (λ q. get-insert path_total t path node q
    ∙ elim (same q path) as (λ b. same q path ≡ b → cond b (Some node) (get t q) ≡ get t q) [
      | true ↦ λ e. sym there ∙ ap (get t) (sym (same_is q path e))
      | false ↦ λ e. refl
    ] refl)

module _ (shelf : Shelf) (placed : PlacedTree) where
  abbrev t : Files
  t = plain shelf placed

  on_put : (path : List (List ℕ)) (change : PlacedFile → PlacedFile) (after : List ℕ → List ℕ)
      → ((file : PlacedFile) → get placed path ≡ Some (File file) → plain_bytes shelf (change file) ≡ after (plain_bytes shelf file))
      → (o : Option (Node PlacedFile)) → get placed path ≡ o → plain shelf (put_changed placed path change o) ≡ put_changed t path after (option_map (node_map (plain_bytes shelf)) o)
  on_put path change after does None there = refl
  on_put path change after does (Some Dir) there = plain-insert shelf placed path Dir
  on_put path change after does (Some (File file)) there = plain-insert shelf placed path (File (change file)) ∙ ap (λ bytes. insert t path (File bytes)) (does file there)

  -- a change of a file is, in plain, a change of its bytes
  pub plain-changed_at : (path : List (List ℕ)) (change : PlacedFile → PlacedFile) (after : List ℕ → List ℕ)
      → ((file : PlacedFile) → get placed path ≡ Some (File file) → plain_bytes shelf (change file) ≡ after (plain_bytes shelf file))
      → plain shelf (changed_at placed path change) ≡ changed_at t path after
  unfolding changed_at
  plain-changed_at path change after does = on_put path change after does (get placed path) refl ∙ ap (put_changed t path after) (sym (get-plain shelf placed path))

  unchanged : {B : Type 0} (tree : Tree B) (path : List (List ℕ)) (o : Option (Node B)) → get tree path ≡ o → put_changed tree path (λ content. content) o ≡ tree
  unchanged tree path None there = refl
  unchanged tree path (Some Dir) there = insert_there tree path Dir there
  unchanged tree path (Some (File content)) there = insert_there tree path (File content) there

  -- a change of a file that leaves its bytes leaves the plain tree
  pub plain-changed_at_alike : (path : List (List ℕ)) (change : PlacedFile → PlacedFile) → ((file : PlacedFile) → get placed path ≡ Some (File file) → plain_bytes shelf (change file) ≡ plain_bytes shelf file) → plain shelf (changed_at placed path change) ≡ t
  unfolding changed_at
  plain-changed_at_alike path change does = on_put path change (λ bytes. bytes) does (get placed path) refl ∙ ap (put_changed t path (λ bytes. bytes)) (sym (get-plain shelf placed path)) ∙ unchanged t path (get t path) refl

  same_bytes : (now : ℕ) (file : PlacedFile) → plain_bytes shelf (used_at now file) ≡ plain_bytes shelf file
  unfolding plain_bytes
  same_bytes now file = refl

  pub plain-new_file : (now : ℕ) → plain_bytes shelf (new_file now) ≡ []
  unfolding plain_bytes
  plain-new_file now = refl

  module _ (limits : Limits) (are : ArePlaced shelf placed) where
    on_make : (node : Node PlacedFile) (plain_node : Node (List ℕ)) → node_map (plain_bytes shelf) node ≡ plain_node → (path : List (List ℕ)) (r : Reply) (new : Files) → make limits t plain_node path ≡ Ok (r, new) → plain shelf (insert placed path node) ≡ new
    unfolding make
    on_make node plain_node same path r new ok =
        let new_is : new ≡ insert t path plain_node = grind arith in
        plain-insert shelf placed path node ∙ ap (insert t path) same ∙ sym new_is

    on_write : (path : List (List ℕ)) (at : ℕ) (bytes : List ℕ) (now : ℕ) (r : Reply) (new : Files) → write limits t path at bytes ≡ Ok (r, new) → plain shelf (accepted shelf placed now (calls.Write path at bytes)) ≡ new
    unfolding write
    on_write path at bytes now r new ok =
        elim (content_at t path) as (λ o. content_at t path ≡ o → plain shelf (accepted shelf placed now (calls.Write path at bytes)) ≡ new) [
          | Err why ↦ λ e. let no : ⊥ = grind arith in absurd no
          | Ok old ↦ λ e. elim (nat_eq (length bytes) 0) as (λ b. nat_eq (length bytes) 0 ≡ b → plain shelf (if b then placed else changed_at placed path (λ file. written_file shelf file at bytes now)) ≡ new) [
            | true ↦ λ z. let same : new ≡ t = grind arith in sym same
            | false ↦ λ z. let new_is : new ≡ insert t path (File (written old at bytes)) = grind arith in
                plain-changed_at path (λ file. written_file shelf file at bytes now) (λ b. written b at bytes) (λ file there. plain_bytes-written_file shelf file (are path file there) at bytes now)
                ∙ changed_at-file t path old (λ b. written b at bytes) e ∙ sym new_is
          ] refl
        ] refl

    on_cut : (path : List (List ℕ)) (size now : ℕ) (r : Reply) (new : Files) → cut limits t path size ≡ Ok (r, new) → plain shelf (changed_at placed path (λ file. cut_file shelf file size now)) ≡ new
    unfolding cut
    on_cut path size now r new ok =
        elim (content_at t path) as (λ o. content_at t path ≡ o → plain shelf (changed_at placed path (λ file. cut_file shelf file size now)) ≡ new) [
          | Err why ↦ λ e. let no : ⊥ = grind arith in absurd no
          | Ok old ↦ λ e. let new_is : new ≡ insert t path (File (resized old size)) = grind arith in
              plain-changed_at path (λ file. cut_file shelf file size now) (λ b. resized b size) (λ file there. plain_bytes-cut_file shelf file (are path file there) size now)
              ∙ changed_at-file t path old (λ b. resized b size) e ∙ sym new_is
        ] refl

    on_read : (path : List (List ℕ)) (at len now : ℕ) (r : Reply) (new : Files) → read limits t path at len ≡ Ok (r, new) → plain shelf (changed_at placed path (used_at now)) ≡ new
    unfolding read
    on_read path at len now r new ok = let same : new ≡ t = grind arith in plain-changed_at_alike path (used_at now) (λ file there. same_bytes now file) ∙ sym same

    on_unlink : (path : List (List ℕ)) (r : Reply) (new : Files) → unlink limits t path ≡ Ok (r, new) → plain shelf (remove placed path) ≡ new
    unfolding unlink
    on_unlink path r new ok = let new_is : new ≡ remove t path = grind arith in plain-remove shelf placed path ∙ sym new_is

    on_rmdir : (path : List (List ℕ)) (r : Reply) (new : Files) → rmdir limits t path ≡ Ok (r, new) → plain shelf (remove placed path) ≡ new
    unfolding rmdir
    on_rmdir path r new ok = let new_is : new ≡ remove t path = grind arith in plain-remove shelf placed path ∙ sym new_is

    on_rename : (from to : List (List ℕ)) (r : Reply) (new : Files) → rename limits t from to ≡ Ok (r, new) → (b : Bool) → eq_by_cmp path_cmp from to ≡ b → plain shelf (if b then placed else moved placed from to) ≡ new
    unfolding rename
    on_rename from to r new ok true z = let same : new ≡ t = grind arith in sym same
    on_rename from to r new ok false z = let new_is : new ≡ moved t from to = grind arith in plain-moved shelf placed limits from to ∙ sym new_is

    on_same : (r : Reply) (new : Files) → new ≡ t → plain shelf placed ≡ new
    on_same r new e = sym e

    pub plain-accepted : (now : ℕ) (call : Call) (r : Reply) (new : Files) → outcome limits t call ≡ Ok (r, new) → plain shelf (accepted shelf placed now call) ≡ new
    unfolding stat list
    plain-accepted now (calls.Mkdir path) r new ok = on_make Dir Dir refl path r new ok
    plain-accepted now (calls.Create path) r new ok = on_make (File (new_file now)) (File []) (ap File (plain-new_file now)) path r new ok
    plain-accepted now (calls.Write path at bytes) r new ok = on_write path at bytes now r new ok
    plain-accepted now (calls.Cut path size) r new ok = on_cut path size now r new ok
    plain-accepted now (calls.Read path at len) r new ok = on_read path at len now r new ok
    plain-accepted now (calls.Stat path) r new ok = on_same r new (grind arith)
    plain-accepted now (calls.List path) r new ok = on_same r new (grind arith)
    plain-accepted now (calls.Unlink path) r new ok = on_unlink path r new ok
    plain-accepted now (calls.Rmdir path) r new ok = on_rmdir path r new ok
    plain-accepted now (calls.Rename from to) r new ok = on_rename from to r new ok (eq_by_cmp path_cmp from to) refl
    plain-accepted now calls.Sync r new ok = on_same r new (grind arith)

    by_outcome : (now : ℕ) (call : Call) (o : Outcome) → outcome limits t call ≡ o → plain shelf (if is_accepted o then accepted shelf placed now call else placed) ≡ tree_of t o
    by_outcome now call (Ok done) ok = plain-accepted now call done.0 done.1 ok
    by_outcome now call (Err why) ok = refl

    -- what a call leaves of the placed tree is, in plain, what the file rules leave
    pub plain-placed_after : (now : ℕ) (call : Call) → plain shelf (placed_after limits shelf placed now call) ≡ after limits (plain shelf placed) call
    unfolding placed_after
    plain-placed_after now call =
        ap (λ b. plain shelf (if b then accepted shelf placed now call else placed)) (sym (accepts-plain limits shelf placed call))
        ∙ by_outcome now call (outcome limits t call) refl
