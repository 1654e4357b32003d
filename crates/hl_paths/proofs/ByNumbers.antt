-- The rules by numbers agree with the rules of trees, for all calls.
use Rattle.std.proofs.Common.{◌≡◌, ℕ, ◌<◌, ◌^◌, List, [], Result, Ok, Err, refl, ap, ◌∙◌, sym, subst, if◌then◌else◌}
use Rattle.std.specs.FinMap.{insert, remove}
use Rattle.hl_tree.specs.declared.call.Call.{Call}
use Rattle.hl_tree.specs.declared.call.Call.TheVariants as calls
use Rattle.hl_tree.specs.declared.call.Limits.{Limits}
use Rattle.hl_tree.specs.declared.call.Reply.{Reply}
use Rattle.hl_tree.specs.declared.call.Reply.TheVariants as replies
use Rattle.hl_tree.specs.declared.call.Refusal.{Refusal}
use Rattle.hl_tree.specs.declared.node.Node.TheVariants.{Dir, File}
use Rattle.hl_tree.specs.Names.{AreNames}
use Rattle.hl_tree.specs.OtherContents.{map_contents}
use Rattle.hl_tree.specs.Rules as rules
use Rattle.hl_tree.specs.Rules.{Files, Outcome, outcome, reply_of, reply}
use Rattle.hl_tree.specs.Tree.{Tree}
use Rattle.hl_tree.proofs.Moved.{Names}
use Rattle.hl_tree_laws.proofs.SameCalls.{done_map, make-map_contents, list-map_contents, unlink-map_contents, rmdir-map_contents, rename-map_contents}
use Rattle.hl_dir.specs.Dirs.{AreEntries}
use Rattle.hl_placed.specs.Blocks.{PlacedFile, Shelf, plain_bytes}
use Rattle.hl_placed.specs.Changes.{new_file}
use Rattle.hl_placed.specs.Placed.{PlacedTree, plain}
use Rattle.hl_placed.specs.Calls.{accepted, is_accepted, placed_after}
use Rattle.hl_placed.proofs.Accepted.{accepts-plain}
use Rattle.hl_placed.proofs.Plain.{plain-new_file}
use Rattle.hl_paths.specs.Numbered.{Directory, Leaf, Numbering, IsTreeOf}
use Rattle.hl_paths.specs.Free.{AreUpTo}
use Rattle.hl_paths.specs.Agreement.{Agree}
use Rattle.hl_paths.specs.ByNumbers as numbers
use Rattle.hl_paths.specs.ByNumbers.{FileAt, NumberedDone, by_numbers, numbered_reply, numbered_left, HasNames}
use Rattle.hl_paths.proofs.Entries.{AreEntries-none}
use Rattle.hl_paths.proofs.Agreement.{agree-make, agree-list, agree-unlink, agree-rmdir}
use Rattle.hl_paths.proofs.RenameCall.{agree-rename}
use Rattle.hl_paths.proofs.FileCalls.{agree-write, agree-cut, agree-read, agree-stat}

-- an outcome agrees as well with other contents in its tree
other_contents : {A B : Type 0} (f : A → List ℕ) (after : Tree B) (done : rules.Done A) (by : Result (Reply × Numbering B) Refusal) → Agree after done by → Agree after (done_map f done) by
other_contents f after (Ok done) (Ok by) agree = agree
other_contents f after (Err why) (Err other) agree = agree
other_contents f after (Ok done) (Err other) agree = agree
other_contents f after (Err why) (Ok by) agree = agree

module _ (limits : Limits) (shelf : Shelf) (nodes : Numbering PlacedFile) (placed : PlacedTree) (is : IsTreeOf nodes placed) (up_to : AreUpTo limits.nodes nodes) (few : limits.nodes < 2 ^ 32) (now : ℕ) where
  on_mkdir : (path : Names) → AreNames path → Agree (insert placed path Dir) (rules.make limits (plain shelf placed) Dir path) (numbers.make_by_numbers limits nodes (Directory []) path)
  unfolding plain
  on_mkdir path names = subst (λ o. Agree (insert placed path Dir) o (numbers.make_by_numbers limits nodes (Directory []) path)) (sym (make-map_contents (plain_bytes shelf) limits placed Dir path))
      (other_contents (plain_bytes shelf) (insert placed path Dir) _ _
      (agree-make limits nodes placed is up_to few (Directory []) (λ name. refl) (λ es e. let same : [] ≡ es = cc in subst AreEntries same AreEntries-none) path names))

  on_create : (path : Names) → AreNames path → Agree (insert placed path (File (new_file now))) (rules.make limits (plain shelf placed) (File []) path) (numbers.make_by_numbers limits nodes (Leaf (new_file now)) path)
  unfolding plain
  on_create path names = subst (λ o. Agree (insert placed path (File (new_file now))) o (numbers.make_by_numbers limits nodes (Leaf (new_file now)) path))
      (sym (ap (λ bytes. rules.make limits (map_contents (plain_bytes shelf) placed) (File bytes) path) (sym (plain-new_file shelf placed now)) ∙ make-map_contents (plain_bytes shelf) limits placed (File (new_file now)) path))
      (other_contents (plain_bytes shelf) (insert placed path (File (new_file now))) _ _
      (agree-make limits nodes placed is up_to few (Leaf (new_file now)) (λ name. refl) (λ es e. cc) path names))

  on_list : (path : Names) → Agree placed (rules.list limits (plain shelf placed) path) (numbers.list_by_numbers limits nodes path)
  unfolding plain
  on_list path = subst (λ o. Agree placed o (numbers.list_by_numbers limits nodes path)) (sym (list-map_contents (plain_bytes shelf) limits placed path))
      (other_contents (plain_bytes shelf) placed _ _ (agree-list limits nodes placed is path))

  on_unlink : (path : Names) → Agree (remove placed path) (rules.unlink limits (plain shelf placed) path) (numbers.unlink_by_numbers limits nodes path)
  unfolding plain
  on_unlink path = subst (λ o. Agree (remove placed path) o (numbers.unlink_by_numbers limits nodes path)) (sym (unlink-map_contents (plain_bytes shelf) limits placed path))
      (other_contents (plain_bytes shelf) (remove placed path) _ _ (agree-unlink limits nodes placed is path))

  on_rmdir : (path : Names) → Agree (remove placed path) (rules.rmdir limits (plain shelf placed) path) (numbers.rmdir_by_numbers limits nodes path)
  unfolding plain
  on_rmdir path = subst (λ o. Agree (remove placed path) o (numbers.rmdir_by_numbers limits nodes path)) (sym (rmdir-map_contents (plain_bytes shelf) limits placed path))
      (other_contents (plain_bytes shelf) (remove placed path) _ _ (agree-rmdir limits nodes placed is path))

  on_rename : (from to : Names) → AreNames to → Agree (accepted shelf placed now (calls.Rename from to)) (rules.rename limits (plain shelf placed) from to) (numbers.rename_by_numbers limits nodes from to)
  unfolding plain
  on_rename from to names = subst (λ o. Agree (accepted shelf placed now (calls.Rename from to)) o (numbers.rename_by_numbers limits nodes from to)) (sym (rename-map_contents (plain_bytes shelf) limits placed from to))
      (other_contents (plain_bytes shelf) (accepted shelf placed now (calls.Rename from to)) _ _ (agree-rename limits nodes placed is to names from))

  -- each call by numbers agrees with the call on the plain tree
  pub agree-by_numbers : (call : Call) → HasNames call → Agree (accepted shelf placed now call) (outcome limits (plain shelf placed) call) (by_numbers limits shelf nodes now call)
  agree-by_numbers (calls.Mkdir path) names = on_mkdir path names
  agree-by_numbers (calls.Create path) names = on_create path names
  agree-by_numbers (calls.Write path at bytes) names = agree-write limits shelf nodes placed is now path at bytes
  agree-by_numbers (calls.Cut path size) names = agree-cut limits shelf nodes placed is now path size
  agree-by_numbers (calls.Read path at len) names = agree-read limits shelf nodes placed is now path at len
  agree-by_numbers (calls.Stat path) names = agree-stat limits shelf nodes placed is now path
  agree-by_numbers (calls.List path) names = on_list path
  agree-by_numbers (calls.Unlink path) names = on_unlink path
  agree-by_numbers (calls.Rmdir path) names = on_rmdir path
  agree-by_numbers (calls.Rename from to) names = on_rename from to names.1
  agree-by_numbers calls.Sync names = (refl, is)

  by_outcome : (call : Call) (o : Outcome) (by : NumberedDone PlacedFile) → Agree (accepted shelf placed now call) o by → (reply_of o ≡ numbered_reply by) × IsTreeOf (numbered_left nodes by) (if is_accepted o then accepted shelf placed now call else placed)
  by_outcome call (Ok done) (Ok by) agree = agree
  by_outcome call (Err why) (Err other) agree = (ap replies.Refused agree, is)
  by_outcome call (Ok done) (Err other) agree = absurd agree
  by_outcome call (Err why) (Ok by) agree = absurd agree

  -- By numbers a call answers as the file rules do, and the nodes that it leaves are the placed tree that it leaves.
  pub numbers_are_tree : (call : Call) → HasNames call
      → (reply limits (plain shelf placed) call ≡ numbered_reply (by_numbers limits shelf nodes now call)) × IsTreeOf (numbered_left nodes (by_numbers limits shelf nodes now call)) (placed_after limits shelf placed now call)
  unfolding placed_after
  numbers_are_tree call names =
      let both = by_outcome call (outcome limits (plain shelf placed) call) (by_numbers limits shelf nodes now call) (agree-by_numbers call names) in
      (both.0, subst (λ b. IsTreeOf (numbered_left nodes (by_numbers limits shelf nodes now call)) (if b then accepted shelf placed now call else placed)) (accepts-plain limits shelf placed call) both.1)
