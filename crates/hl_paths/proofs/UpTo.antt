-- The numbers in use stay within those that there are.
use Rattle.std.proofs.Common.{arith, ◌≡◌, ℕ, ◌≤◌, Bool, true, false, ◌&&◌, nat_eq, nat_lt, not, List, [], length, Option, Some, None, is_some, Result, Ok, Err, subst, refl, ◌+◌, if◌then◌else◌}
use Rattle.std.specs.Ordering.{eq_by_cmp}
use Rattle.std.specs.FinMap.{get, insert, remove}
use Rattle.hl_tree.specs.declared.call.Call.{Call}
use Rattle.hl_tree.specs.declared.call.Call.TheVariants as calls
use Rattle.hl_tree.specs.declared.call.Limits.{Limits}
use Rattle.hl_tree.specs.declared.call.Reply.{Reply}
use Rattle.hl_tree.specs.declared.call.Refusal.{Refusal}
use Rattle.hl_tree.specs.declared.call.Refusal.TheVariants.{Eexist, Eisdir, Enotempty, Einval, Efbig, Enametoolong}
use Rattle.hl_tree.specs.Names.{path_cmp, is_too_long, below}
use Rattle.hl_tree.specs.Refusals.{◌>>=◌, refused_if}
use Rattle.hl_tree.proofs.Moved.{Names}
use Rattle.hl_placed.specs.Blocks.{PlacedFile, Shelf}
use Rattle.hl_placed.specs.Changes.{new_file}
use Rattle.hl_paths.specs.Entries.{entry_number}
use Rattle.hl_paths.specs.Numbered.{NumberedNode, Directory, Leaf, Numbering, without_number}
use Rattle.hl_paths.specs.Finding.{named, front_of, last_name, Parent, parent_with, entries_in, leaf_in, find_number, find_parent}
use Rattle.hl_paths.specs.Free.{lowest_free, AreUpTo}
use Rattle.hl_paths.specs.ByNumbers as numbers
use Rattle.hl_paths.specs.ByNumbers.{FileAt, NumberedDone, by_numbers, numbered_left}
use Rattle.hl_paths.proofs.Nodes.{some_of, is_there, put-cases, gone-cases}
use Rattle.hl_paths.proofs.Free.{lowest_free-free}

module _ {B : Type 0} (most : ℕ) where
  up_to-insert : (nodes : Numbering B) (number : ℕ) (node : NumberedNode B) → AreUpTo most nodes → (1 ≤ number) × (number ≤ most) → AreUpTo most (insert nodes number node)
  up_to-insert nodes number node up_to fits other there =
      let found = some_of (get (insert nodes number node) other) there in
      let low = fits.0 in
      let high = fits.1 in
      put-cases nodes number node ((1 ≤ other) × (other ≤ most)) other found.0 found.1 (λ e f. (omega arith, omega arith)) (λ e f. up_to other (is_there found.0 f))

  up_to-remove : (nodes : Numbering B) (number : ℕ) → AreUpTo most nodes → AreUpTo most (remove nodes number)
  up_to-remove nodes number up_to other there =
      let found = some_of (get (remove nodes number) other) there in
      up_to other (is_there found.0 (gone-cases nodes number other found.0 found.1).1)

  up_to-without : (nodes : Numbering B) (target : Option ℕ) → AreUpTo most nodes → AreUpTo most (without_number target nodes)
  up_to-without nodes None up_to = up_to
  up_to-without nodes (Some number) up_to = up_to-remove nodes number up_to

  abbrev Keeps : Result (Reply × Numbering B) Refusal → Type 0
  Keeps o = (done : Reply × Numbering B) → o ≡ Ok done → AreUpTo most done.1

  keeps_refused : (b : Bool) (why : Refusal) (o : Result (Reply × Numbering B) Refusal) → Keeps o → Keeps (refused_if b why >>= (λ _. o))
  keeps_refused true why o keeps done e = cc
  keeps_refused false why o keeps done e = keeps done e

  keeps_found : {A : Type 0} (o : Result A Refusal) (f : A → Result (Reply × Numbering B) Refusal) → ((a : A) → o ≡ Ok a → Keeps (f a)) → Keeps (o >>= f)
  keeps_found (Ok a) f keeps done e = keeps a refl done e
  keeps_found (Err why) f keeps done e = cc

  keeps_either : (b : Bool) (one other : Result (Reply × Numbering B) Refusal) → Keeps one → Keeps other → Keeps (if b then one else other)
  keeps_either true one other k l = k
  keeps_either false one other k l = l

  keeps_done : (reply : Reply) (nodes : Numbering B) → AreUpTo most nodes → Keeps (Ok (reply, nodes))
  keeps_done reply nodes up_to done e =
      let pair : ◌≡◌ {A = Reply × Numbering B} (reply, nodes) done = cc in
      subst (λ (d : Reply × Numbering B). AreUpTo most d.1) pair up_to

  keeps_here : (nodes : Numbering B) → AreUpTo most nodes → (number : ℕ) (found node : NumberedNode B) → get nodes number ≡ Some found → AreUpTo most (insert nodes number node)
  keeps_here nodes up_to number found node there = up_to-insert nodes number node up_to (up_to number (is_there found there))

module _ {B : Type 0} (nodes : Numbering B) where
  -- a parent that is found is in use
  parent_there : (path : Names) (parent : Parent) → find_parent nodes path ≡ Ok parent → get nodes parent.number ≡ Some (Directory parent.entries)
  unfolding find_parent
  parent_there path parent e = by_number (find_number nodes (front_of path)) e
    where
      by_node : (number : ℕ) (o : Option (NumberedNode B)) → get nodes number ≡ o → (entries_in o >>= (λ es. Ok (parent_with number es))) ≡ Ok parent → get nodes parent.number ≡ Some (Directory parent.entries)
      by_node number None there f = cc
      by_node number (Some (Leaf content)) there f = cc
      by_node number (Some (Directory es)) there f = let same : parent_with number es ≡ parent = cc in subst (λ p. get nodes p.number ≡ Some (Directory p.entries)) same there

      by_number : (o : Result ℕ Refusal) → (o >>= (λ number. entries_in (get nodes number) >>= (λ es. Ok (parent_with number es)))) ≡ Ok parent → get nodes parent.number ≡ Some (Directory parent.entries)
      by_number (Err why) f = cc
      by_number (Ok number) f = by_node number (get nodes number) refl f

  -- and so is a file
  file_there : (limits : Limits) (path : Names) (file : FileAt B) → numbers.file_at limits nodes path ≡ Ok file → get nodes file.number ≡ Some (Leaf file.content)
  unfolding numbers.file_at
  file_there limits path file e = by_length (is_too_long path) e
    where
      by_node : (number : ℕ) (o : Option (NumberedNode B)) → get nodes number ≡ o → (leaf_in o >>= (λ content. Ok (record { number = number; content = content }))) ≡ Ok file → get nodes file.number ≡ Some (Leaf file.content)
      by_node number None there f = cc
      by_node number (Some (Directory es)) there f = cc
      by_node number (Some (Leaf content)) there f = let same : (let made : FileAt B = record { number = number; content = content } in made ≡ file) = cc in subst (λ (x : FileAt B). get nodes x.number ≡ Some (Leaf x.content)) same there

      by_number : (o : Result ℕ Refusal) → (o >>= (λ number. leaf_in (get nodes number) >>= (λ content. Ok (record { number = number; content = content })))) ≡ Ok file → get nodes file.number ≡ Some (Leaf file.content)
      by_number (Err why) f = cc
      by_number (Ok number) f = by_node number (get nodes number) refl f

      by_length : (long : Bool) → (refused_if long Enametoolong >>= (λ _. find_number nodes path >>= (λ number. leaf_in (get nodes number) >>= (λ content. Ok (record { number = number; content = content }))))) ≡ Ok file → get nodes file.number ≡ Some (Leaf file.content)
      by_length true f = cc
      by_length false f = by_number (find_number nodes path) f

  free_number : (limits : Limits) (number : ℕ) (o : Option ℕ) → numbers.found_free o ≡ Ok number → o ≡ Some number
  free_number limits number None e = cc
  free_number limits number (Some n) e = cc

module _ {B : Type 0} (limits : Limits) (nodes : Numbering B) (up_to : AreUpTo limits.nodes nodes) where
  with_parent : (path : Names) (parent : Parent) → find_parent nodes path ≡ Ok parent → (node : NumberedNode B) → AreUpTo limits.nodes (insert nodes parent.number node)
  with_parent path parent e node = keeps_here limits.nodes nodes up_to parent.number (Directory parent.entries) node (parent_there nodes path parent e)

  make_keeps : (node : NumberedNode B) (path : Names) → Keeps limits.nodes (numbers.make_by_numbers limits nodes node path)
  unfolding numbers.make_by_numbers
  make_keeps node path = keeps_refused limits.nodes (is_too_long path) Enametoolong _ (keeps_refused limits.nodes (nat_eq (length path) 0) Eexist _ (keeps_found limits.nodes (find_parent nodes path) _ (λ parent e.
      keeps_refused limits.nodes (is_some (entry_number parent.entries (last_name path))) Eexist _ (keeps_found limits.nodes (numbers.found_free (lowest_free nodes limits.nodes)) _ (λ number f.
      keeps_done limits.nodes _ _ (up_to-insert limits.nodes _ number node (with_parent path parent e _) (let one = lowest_free-free nodes limits.nodes number (free_number nodes limits number _ f) in (one.1, one.2))))))))

  gone_keeps : (path : Names) (parent : Parent) → find_parent nodes path ≡ Ok parent → (name : List ℕ) (number : ℕ) → AreUpTo limits.nodes (numbers.gone limits nodes parent name number)
  gone_keeps path parent e name number = up_to-remove limits.nodes _ number (with_parent path parent e _)

  unlink_keeps : (path : Names) → Keeps limits.nodes (numbers.unlink_by_numbers limits nodes path)
  unfolding numbers.unlink_by_numbers
  unlink_keeps path = keeps_refused limits.nodes (is_too_long path) Enametoolong _ (keeps_refused limits.nodes (nat_eq (length path) 0) Eisdir _ (keeps_found limits.nodes (find_parent nodes path) _ (λ parent e.
      keeps_found limits.nodes (named (entry_number parent.entries (last_name path))) _ (λ number f. keeps_found limits.nodes (leaf_in (get nodes number)) _ (λ content g.
      keeps_done limits.nodes _ _ (gone_keeps path parent e (last_name path) number))))))

  rmdir_keeps : (path : Names) → Keeps limits.nodes (numbers.rmdir_by_numbers limits nodes path)
  unfolding numbers.rmdir_by_numbers
  rmdir_keeps path = keeps_refused limits.nodes (is_too_long path) Enametoolong _ (keeps_refused limits.nodes (nat_eq (length path) 0) Einval _ (keeps_found limits.nodes (find_parent nodes path) _ (λ parent e.
      keeps_found limits.nodes (named (entry_number parent.entries (last_name path))) _ (λ number f. keeps_found limits.nodes (entries_in (get nodes number)) _ (λ es g.
      keeps_refused limits.nodes (not (nat_eq (length es) 0)) Enotempty _ (keeps_done limits.nodes _ _ (gone_keeps path parent e (last_name path) number)))))))

  onto_root_keeps : (directory : Bool) → Keeps limits.nodes (numbers.onto_root {B = B} directory)
  onto_root_keeps true done e = cc
  onto_root_keeps false done e = cc

  rename_keeps : (from to : Names) → Keeps limits.nodes (numbers.rename_by_numbers limits nodes from to)
  unfolding numbers.rename_by_numbers
  rename_keeps from to = keeps_refused limits.nodes (is_too_long from) Enametoolong _ (keeps_refused limits.nodes (is_too_long to) Enametoolong _ (keeps_refused limits.nodes (nat_eq (length from) 0) Einval _ (
      keeps_found limits.nodes (find_parent nodes from) _ (λ parent e. keeps_found limits.nodes (named (entry_number parent.entries (last_name from))) _ (λ number f.
      keeps_either limits.nodes (eq_by_cmp path_cmp from to) _ _ (keeps_done limits.nodes _ _ up_to) (keeps_refused limits.nodes (numbers.is_directory_node (get nodes number) && is_some (below from to)) Einval _ (
      keeps_either limits.nodes (nat_eq (length to) 0) _ _ (onto_root_keeps (numbers.is_directory_node (get nodes number))) (keeps_found limits.nodes (find_parent nodes to) _ (λ to_parent g.
      keeps_found limits.nodes (numbers.may_replace (numbers.is_directory_node (get nodes number)) (numbers.at_number limits nodes (entry_number to_parent.entries (last_name to)))) _ (λ _ h.
      keeps_done limits.nodes _ _ (up_to-without limits.nodes _ _ (up_to-insert limits.nodes _ to_parent.number _ (with_parent from parent e _) (up_to to_parent.number (is_there (Directory to_parent.entries) (parent_there nodes to to_parent g)))))))))))))))

module _ (limits : Limits) (shelf : Shelf) (nodes : Numbering PlacedFile) (up_to : AreUpTo limits.nodes nodes) (now : ℕ) where
  with_file : (path : Names) (file : FileAt PlacedFile) → numbers.file_at limits nodes path ≡ Ok file → (node : NumberedNode PlacedFile) → AreUpTo limits.nodes (insert nodes file.number node)
  with_file path file e node = keeps_here limits.nodes nodes up_to file.number (Leaf file.content) node (file_there nodes limits path file e)

  call_keeps : (call : Call) → Keeps limits.nodes (by_numbers limits shelf nodes now call)
  unfolding numbers.write_by_numbers numbers.cut_by_numbers numbers.read_by_numbers numbers.stat_by_numbers numbers.list_by_numbers
  call_keeps (calls.Mkdir path) = make_keeps limits nodes up_to (Directory []) path
  call_keeps (calls.Create path) = make_keeps limits nodes up_to (Leaf (new_file now)) path
  call_keeps (calls.Write path at bytes) = keeps_found limits.nodes (numbers.file_at limits nodes path) _ (λ file e. keeps_refused limits.nodes (nat_lt 65536 (length bytes)) Einval _ (
      keeps_either limits.nodes (nat_eq (length bytes) 0) _ _ (keeps_done limits.nodes _ _ up_to) (keeps_refused limits.nodes (nat_lt limits.bytes (at + length bytes)) Efbig _ (keeps_done limits.nodes _ _ (with_file path file e _)))))
  call_keeps (calls.Cut path size) = keeps_found limits.nodes (numbers.file_at limits nodes path) _ (λ file e. keeps_refused limits.nodes (nat_lt limits.bytes size) Efbig _ (keeps_done limits.nodes _ _ (with_file path file e _)))
  call_keeps (calls.Read path at len) = keeps_found limits.nodes (numbers.file_at limits nodes path) _ (λ file e. keeps_done limits.nodes _ _ (with_file path file e _))
  call_keeps (calls.Stat path) = keeps_refused limits.nodes (is_too_long path) Enametoolong _ (keeps_found limits.nodes (find_number nodes path) _ (λ number e. keeps_found limits.nodes (numbers.numbered_status limits shelf nodes now (get nodes number)) _ (λ reply f. keeps_done limits.nodes reply nodes up_to)))
  call_keeps (calls.List path) = keeps_refused limits.nodes (is_too_long path) Enametoolong _ (keeps_found limits.nodes (find_number nodes path) _ (λ number e. keeps_found limits.nodes (entries_in (get nodes number)) _ (λ es f. keeps_done limits.nodes _ nodes up_to)))
  call_keeps (calls.Unlink path) = unlink_keeps limits nodes up_to path
  call_keeps (calls.Rmdir path) = rmdir_keeps limits nodes up_to path
  call_keeps (calls.Rename from to) = rename_keeps limits nodes up_to from to
  call_keeps calls.Sync = keeps_done limits.nodes _ nodes up_to

  left_up_to : (o : NumberedDone PlacedFile) → Keeps limits.nodes o → AreUpTo limits.nodes (numbered_left nodes o)
  left_up_to (Ok done) keeps = keeps done refl
  left_up_to (Err why) keeps = up_to

  -- after each call the numbers in use are those that there are
  pub up_to-by_numbers : (call : Call) → AreUpTo limits.nodes (numbered_left nodes (by_numbers limits shelf nodes now call))
  up_to-by_numbers call = left_up_to (by_numbers limits shelf nodes now call) (call_keeps call)
