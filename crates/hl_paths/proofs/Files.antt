-- What a file call does to nodes that have a tree, it does to the tree.
use Rattle.std.proofs.Common.{◌≡◌, ℕ, ◌<◌, ◌^◌, ◌&&◌, nat_lt, List, Option, Some, None, Ok, Err, refl, ap, ◌∙◌, sym}
use Rattle.std.specs.Option.{option_map}
use Rattle.std.specs.Cmp.{nat_cmp_total}
use Rattle.std.specs.FinMap.{get, same_map, nat_cmp-IsAntisymmetric}
use Rattle.hl_tree.specs.declared.call.Call.{Call}
use Rattle.hl_tree.specs.declared.call.Limits.{Limits}
use Rattle.hl_tree.specs.declared.call.Reply.{Reply}
use Rattle.hl_tree.specs.Rules.{Outcome, outcome, reply}
use Rattle.hl_tree_laws.proofs.Lookups.{same_tree}
use Rattle.hl_dir.specs.declared.entry.Entry.{Entry}
use Rattle.hl_dir.proofs.DirLemmas.{spelled_once}
use Rattle.hl_placed.specs.Blocks.{PlacedFile, Shelf, no_shelf, plain_bytes}
use Rattle.hl_placed.specs.Placed.{PlacedTree, plain}
use Rattle.hl_placed.specs.Calls.{accepted, is_accepted, accepts, placed_after}
use Rattle.hl_placed.specs.Charges.{charge_after, is_over}
use Rattle.hl_placed.proofs.Accepted.{accepts-plain}
use Rattle.hl_placed.proofs.Charges.{charge-placed_after}
use Rattle.hl_paths.specs.ByNumbers.{NumberedDone, by_numbers, numbered_left, HasNames}
use Rattle.hl_paths.specs.Charges.{nodes_charge}
use Rattle.hl_paths.specs.Free.{AreUpTo}
use Rattle.hl_paths.specs.Agreement.{Agree}
use Rattle.hl_paths.specs.Links.{resolve}
use Rattle.hl_paths.specs.Numbered.{NumberedNode, Directory, Leaf, Numbering, links, AreLinked, found_node}
use Rattle.hl_paths.specs.Nodes.{FlatNode, Nodes, directory_content, flat_node, Spell, HasTree}
use Rattle.hl_paths.specs.Files.{DoesByNumbers, is_taken, is_over_quota}
use Rattle.hl_paths.proofs.ByNumbers.{agree-by_numbers, numbers_are_tree}
use Rattle.hl_paths.proofs.Charges.{charge-nodes}
use Rattle.hl_paths.proofs.DirectoryContent.{plain_bytes-directory}

-- nodes spell one numbering, as a directory's bytes are those of one list of entries
module _ (nodes : Nodes) (one other : Numbering PlacedFile) (spelled : Spell nodes one) (spelled_other : Spell nodes other) (linked : AreLinked one) (linked_other : AreLinked other) where
  same_content : (es fs : List Entry) → directory_content es ≡ directory_content fs → (number : ℕ) → get one number ≡ Some (Directory es) → get other number ≡ Some (Directory fs) → es ≡ fs
  same_content es fs same number there there_other = spelled_once fs es (linked_other.entries number fs there_other).0 (linked.entries number es there).0
      (sym (plain_bytes-directory no_shelf fs) ∙ ap (plain_bytes no_shelf) (sym same) ∙ plain_bytes-directory no_shelf es)

  same_node : (number : ℕ) (o p : Option (NumberedNode PlacedFile)) → get one number ≡ o → get other number ≡ p → option_map flat_node o ≡ option_map flat_node p → o ≡ p
  same_node number None None e f same = refl
  same_node number None (Some x) e f same = cc
  same_node number (Some x) None e f same = cc
  same_node number (Some (Leaf a)) (Some (Leaf b)) e f same = let flat : flat_node (Leaf a) ≡ flat_node (Leaf b) = cc in ap (λ (n : FlatNode). Some (Leaf n.content)) flat
  same_node number (Some (Leaf a)) (Some (Directory es)) e f same = let flat : flat_node (Leaf a) ≡ flat_node (Directory es) = cc in let kind = ap (λ (n : FlatNode). n.kind) flat in cc
  same_node number (Some (Directory es)) (Some (Leaf a)) e f same = let flat : flat_node (Directory es) ≡ flat_node (Leaf a) = cc in let kind = ap (λ (n : FlatNode). n.kind) flat in cc
  same_node number (Some (Directory es)) (Some (Directory fs)) e f same =
      let flat : flat_node (Directory es) ≡ flat_node (Directory fs) = cc in
      ap (λ x. Some (Directory x)) (same_content es fs (ap (λ (n : FlatNode). n.content) flat) number e f)

  pub one_numbering : one ≡ other
  one_numbering = same_map nat_cmp_total nat_cmp-IsAntisymmetric one other (λ number. same_node number (get one number) (get other number) refl refl (sym (spelled number) ∙ spelled_other number))

same_taken : (after : PlacedTree) (o : Outcome) (by : NumberedDone PlacedFile) → Agree after o by → is_taken by ≡ is_accepted o
same_taken after (Ok done) (Ok by) agree = refl
same_taken after (Err why) (Err other) agree = refl
same_taken after (Ok done) (Err other) agree = absurd agree
same_taken after (Err why) (Ok by) agree = absurd agree

-- nodes have one tree
pub one_tree : (nodes : Nodes) (placed other : PlacedTree) → HasTree nodes placed → HasTree nodes other → placed ≡ other
one_tree nodes placed other has has_other =
    let same = one_numbering nodes has.numbered has_other.numbered has.spelled has_other.spelled has.tree.linked has_other.tree.linked in
    same_tree placed other (λ path. has.tree.same path ∙ ap (λ numbered. found_node numbered (resolve (links numbered) path)) same ∙ sym (has_other.tree.same path))

module _ (limits : Limits) (few : limits.nodes < 2 ^ 32) (shelf : Shelf) (nodes : Nodes) (placed : PlacedTree) (has : HasTree nodes placed) (up_to : AreUpTo limits.nodes has.numbered) (now : ℕ) (call : Call) (names : HasNames call) where
  abbrev done : NumberedDone PlacedFile
  done = by_numbers limits shelf has.numbered now call

  -- what does so by numbers answers by the file rules, and leaves the tree that the call leaves
  pub does-tree : (said : Reply) (after : Nodes) → DoesByNumbers limits shelf nodes now call said after → (said ≡ reply limits (plain shelf placed) call) × HasTree after (placed_after limits shelf placed now call)
  does-tree said after does =
      let did = does has.numbered has.spelled in
      let both = numbers_are_tree limits shelf has.numbered placed has.tree up_to few now call names in
      (did.0 ∙ sym both.0, record { numbered = numbered_left has.numbered done; spelled = did.1; tree = both.1 })

  charged : nodes_charge (numbered_left has.numbered done) ≡ charge_after limits placed now call
  charged = sym (charge-nodes (numbered_left has.numbered done) (placed_after limits shelf placed now call) (numbers_are_tree limits shelf has.numbered placed has.tree up_to few now call names).1)
      ∙ charge-placed_after limits shelf placed now call

  taken : is_taken done ≡ accepts limits placed call
  taken = same_taken (accepted shelf placed now call) (outcome limits (plain shelf placed) call) done (agree-by_numbers limits shelf has.numbered placed has.tree up_to few now call names) ∙ accepts-plain limits shelf placed call

  -- a call is over the quota by numbers exactly where it is by the tree
  pub over-tree : (quota : ℕ) → is_over_quota quota has.numbered done ≡ is_over quota limits placed now call
  over-tree quota = λ i. taken i && (nat_lt quota (charged i) && nat_lt (sym (charge-nodes has.numbered placed has.tree) i) (charged i))
