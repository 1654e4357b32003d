-- Whether the file rules accept a call is no matter of bytes.
use Rattle.std.proofs.Common.{arith, ◌≡◌, ℕ, Bool, true, false, nat_eq, List, [], length, Option, Some, None, is_some, Result, Ok, Err, not, refl, ap, ◌∙◌, sym}
use Rattle.std.specs.Option.{option_map}
use Rattle.std.specs.FinMap.{get, len}
use Rattle.hl_tree.specs.declared.call.Limits.{Limits}
use Rattle.hl_tree.specs.declared.call.Call.{Call}
use Rattle.hl_tree.specs.declared.call.Call.TheVariants as calls
use Rattle.hl_tree.specs.declared.call.Refusal.{Refusal}
use Rattle.hl_tree.specs.declared.call.Refusal.TheVariants.{Enotempty, Enametoolong}
use Rattle.hl_tree.specs.declared.node.Node.{Node}
use Rattle.hl_tree.specs.declared.node.Node.TheVariants.{Dir, File}
use Rattle.hl_tree.specs.OtherContents.{map_contents, node_map}
use Rattle.hl_tree.specs.Names.{is_too_long}
use Rattle.hl_tree.specs.Refusals.{◌>>=◌, refused_if}
use Rattle.hl_tree.specs.Tree.{Tree, walk, walk_to_parent, names_in, content_at, content_of}
use Rattle.hl_tree.specs.Rules.{Files, Outcome, outcome, make, write, cut, read, stat, list, unlink, rmdir, rename, replaced, is_directory}
use Rattle.hl_tree_laws.proofs.OtherContents.{get-map_contents, walk_to_parent-map_contents, len-map_contents, names_in-map_contents}
use Rattle.hl_tree_laws.proofs.SameCalls.{found_map, walk-map_contents}
use Rattle.hl_placed.specs.Blocks.{Shelf, no_shelf, plain_bytes}
use Rattle.hl_placed.specs.Placed.{PlacedTree, plain}
use Rattle.hl_placed.specs.Calls.{refusal, is_accepted, accepts}

abbrev pub content_map : {A B : Type 0} → (A → B) → Result A Refusal → Result B Refusal
content_map f (Ok a) = Ok (f a)
content_map f (Err why) = Err why

module _ {A B : Type 0} (f : A → B) (limits : Limits) (t : Tree A) where
  on_content : (o : Result (Node A) Refusal) → (found_map f o >>= content_of) ≡ content_map f (o >>= content_of)
  on_content (Ok Dir) = refl
  on_content (Ok (File content)) = refl
  on_content (Err why) = refl

  on_long : (b : Bool) (path : List (List ℕ)) → (refused_if b Enametoolong >>= (λ _. walk (map_contents f t) path >>= content_of)) ≡ content_map f (refused_if b Enametoolong >>= (λ _. walk t path >>= content_of))
  on_long true path = refl
  on_long false path = ap (λ o. o >>= content_of) (walk-map_contents f limits t path) ∙ on_content (walk t path)

  -- Read, Write and Cut find in the one tree what they find in the other
  pub content_at-map_contents : (path : List (List ℕ)) → content_at (map_contents f t) path ≡ content_map f (content_at t path)
  unfolding content_at
  content_at-map_contents path = on_long (is_too_long path) path

module _ {A : Type 0} (f1 f2 : A → List ℕ) (limits : Limits) (t : Tree A) where
  abbrev t1 : Files
  t1 = map_contents f1 t

  abbrev t2 : Files
  t2 = map_contents f2 t

  some_same : (o : Option (Node A)) → is_some (option_map (node_map f1) o) ≡ is_some (option_map (node_map f2) o)
  some_same None = refl
  some_same (Some node) = refl

  is_some_same : (path : List (List ℕ)) → is_some (get t1 path) ≡ is_some (get t2 path)
  is_some_same path = ap is_some (get-map_contents f1 t path) ∙ some_same (get t path) ∙ sym (ap is_some (get-map_contents f2 t path))

  way_same : (path : List (List ℕ)) → walk_to_parent t1 path ≡ walk_to_parent t2 path
  way_same path = walk_to_parent-map_contents f1 t path ∙ sym (walk_to_parent-map_contents f2 t path)

  len_same : len t1 ≡ len t2
  len_same = len-map_contents f1 t ∙ sym (len-map_contents f2 t)

  names_same : (path : List (List ℕ)) → names_in t1 path ≡ names_in t2 path
  names_same path = names_in-map_contents f1 t path ∙ sym (names_in-map_contents f2 t path)

  refusal-make : (node : Node (List ℕ)) (path : List (List ℕ)) → refusal (make limits t1 node path) ≡ refusal (make limits t2 node path)
  unfolding make
  refusal-make node path = let one = way_same path in let two = is_some_same path in let three = len_same in grind arith

  refusal-write : (path : List (List ℕ)) (at : ℕ) (bytes : List ℕ) → refusal (write limits t1 path at bytes) ≡ refusal (write limits t2 path at bytes)
  unfolding write
  refusal-write path at bytes = let one = content_at-map_contents f1 limits t path in let two = content_at-map_contents f2 limits t path in grind arith

  refusal-cut : (path : List (List ℕ)) (size : ℕ) → refusal (cut limits t1 path size) ≡ refusal (cut limits t2 path size)
  unfolding cut
  refusal-cut path size = let one = content_at-map_contents f1 limits t path in let two = content_at-map_contents f2 limits t path in grind arith

  refusal-read : (path : List (List ℕ)) (at len : ℕ) → refusal (read limits t1 path at len) ≡ refusal (read limits t2 path at len)
  unfolding read
  refusal-read path at len = let one = content_at-map_contents f1 limits t path in let two = content_at-map_contents f2 limits t path in grind arith

  refusal-stat : (path : List (List ℕ)) → refusal (stat limits t1 path) ≡ refusal (stat limits t2 path)
  unfolding stat
  refusal-stat path = let one = walk-map_contents f1 limits t path in let two = walk-map_contents f2 limits t path in grind arith

  refusal-list : (path : List (List ℕ)) → refusal (list limits t1 path) ≡ refusal (list limits t2 path)
  unfolding list
  refusal-list path = let one = walk-map_contents f1 limits t path in let two = walk-map_contents f2 limits t path in grind arith

  refusal-unlink : (path : List (List ℕ)) → refusal (unlink limits t1 path) ≡ refusal (unlink limits t2 path)
  unfolding unlink
  refusal-unlink path = let one = walk-map_contents f1 limits t path in let two = walk-map_contents f2 limits t path in grind arith

  refusal-rmdir : (path : List (List ℕ)) → refusal (rmdir limits t1 path) ≡ refusal (rmdir limits t2 path)
  unfolding rmdir
  refusal-rmdir path = let one = walk-map_contents f1 limits t path in let two = walk-map_contents f2 limits t path in let three = names_same path in grind arith

  directory_same : (node : Node A) → is_directory limits t1 (node_map f1 node) ≡ is_directory limits t2 (node_map f2 node)
  directory_same Dir = refl
  directory_same (File content) = refl

  empty_same : (to : List (List ℕ)) → nat_eq (length (names_in t1 to)) 0 ≡ nat_eq (length (names_in t2 to)) 0
  empty_same to = ap (λ (names : List (List ℕ)). nat_eq (length names) 0) (names_same to)

  replaced_same : (node : Node A) (to : List (List ℕ)) (o : Option (Node A)) → replaced limits t1 (node_map f1 node) to (option_map (node_map f1) o) ≡ replaced limits t2 (node_map f2 node) to (option_map (node_map f2) o)
  replaced_same Dir to None = refl
  replaced_same (File content) to None = refl
  replaced_same (File content) to (Some Dir) = refl
  replaced_same Dir to (Some Dir) = ap (λ b. refused_if (not b) Enotempty) (empty_same to)
  replaced_same (File content) to (Some (File old)) = refl
  replaced_same Dir to (Some (File old)) = refl

  target_same : (node : Node A) (to : List (List ℕ)) → replaced limits t1 (node_map f1 node) to (get t1 to) ≡ replaced limits t2 (node_map f2 node) to (get t2 to)
  target_same node to = ap (replaced limits t1 (node_map f1 node) to) (get-map_contents f1 t to) ∙ replaced_same node to (get t to) ∙ sym (ap (replaced limits t2 (node_map f2 node) to) (get-map_contents f2 t to))

  refusal-rename : (from to : List (List ℕ)) → refusal (rename limits t1 from to) ≡ refusal (rename limits t2 from to)
  unfolding rename
  refusal-rename from to =
      let one = walk-map_contents f1 limits t from in let two = walk-map_contents f2 limits t from in let way = way_same to in
      elim (walk t from) as (λ o. walk t from ≡ o → refusal (rename limits t1 from to) ≡ refusal (rename limits t2 from to)) [
        | Err why ↦ λ e. grind arith
        | Ok node ↦ λ e. let dir = directory_same node in let target = target_same node to in grind arith
      ] refl

  -- a call is refused alike on trees that differ in bytes alone
  pub refusal-outcome : (call : Call) → refusal (outcome limits t1 call) ≡ refusal (outcome limits t2 call)
  refusal-outcome (calls.Mkdir path) = refusal-make Dir path
  refusal-outcome (calls.Create path) = refusal-make (File []) path
  refusal-outcome (calls.Write path at bytes) = refusal-write path at bytes
  refusal-outcome (calls.Cut path size) = refusal-cut path size
  refusal-outcome (calls.Read path at len) = refusal-read path at len
  refusal-outcome (calls.Stat path) = refusal-stat path
  refusal-outcome (calls.List path) = refusal-list path
  refusal-outcome (calls.Unlink path) = refusal-unlink path
  refusal-outcome (calls.Rmdir path) = refusal-rmdir path
  refusal-outcome (calls.Rename from to) = refusal-rename from to
  refusal-outcome calls.Sync = refl

-- whichever the shelf
pub refusal-plain : (limits : Limits) (one other : Shelf) (placed : PlacedTree) (call : Call) → refusal (outcome limits (plain one placed) call) ≡ refusal (outcome limits (plain other placed) call)
unfolding plain
refusal-plain limits one other placed call = refusal-outcome (plain_bytes one) (plain_bytes other) limits placed call

abbrev accepted_by : Option Refusal → Bool
accepted_by None = true
accepted_by (Some why) = false

by_refusal : (o : Outcome) → is_accepted o ≡ accepted_by (refusal o)
by_refusal (Ok done) = refl
by_refusal (Err why) = refl

-- which calls are accepted is told without any bytes
pub accepts-plain : (limits : Limits) (shelf : Shelf) (placed : PlacedTree) (call : Call) → is_accepted (outcome limits (plain shelf placed) call) ≡ accepts limits placed call
accepts-plain limits shelf placed call =
    by_refusal (outcome limits (plain shelf placed) call) ∙ ap accepted_by (refusal-plain limits shelf no_shelf placed call) ∙ sym (by_refusal (outcome limits (plain no_shelf placed) call))
