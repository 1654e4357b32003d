-- What a call makes by numbers it makes of the plain files.
use Rattle.std.proofs.Common.{◌≡◌, ℕ, ◌-◌, ◌<◌, ◌^◌, ◌++◌, Bool, true, false, List, [], ◌∷◌, Option, Some, None, IsSome, Ok, Err, option_map, refl, ap, ◌∙◌, sym, subst}
use Rattle.std.specs.FinMap.{get}
use Rattle.hl_media.specs.History.{History}
use Rattle.hl_addr.specs.Layout.{Layout, quota}
use Rattle.hl_tree.specs.declared.call.Call.{Call}
use Rattle.hl_tree.specs.declared.call.Limits.{Limits}
use Rattle.hl_tree.specs.declared.node.Node.{Node}
use Rattle.hl_tree.specs.declared.node.Node.TheVariants.{Dir, File}
use Rattle.hl_tree.specs.OtherContents.{node_map}
use Rattle.hl_tree.specs.Rules.{Outcome, outcome, reply}
use Rattle.hl_tree.specs.Tree.{IsTree}
use Rattle.hl_tree_laws.proofs.OtherContents.{get-map_contents}
use Rattle.hl_dir.specs.declared.entry.Entry.{Entry}
use Rattle.hl_placed.specs.Blocks.{PlacedFile, Shelf, plain_bytes}
use Rattle.hl_placed.specs.Calls.{accepted, accepts, is_accepted, placed_after}
use Rattle.hl_placed.specs.Charges.{is_over}
use Rattle.hl_placed.specs.Placed.{ArePlaced, PlacedTree, plain}
use Rattle.hl_placed.proofs.Accepted.{accepts-plain}
use Rattle.hl_placed.proofs.Kept.{ArePlaced-placed_after}
use Rattle.hl_placed.proofs.Plain.{plain-placed_after}
use Rattle.hl_paths.specs.Agreement.{Agree}
use Rattle.hl_paths.specs.ByNumbers.{HasNames, NumberedDone, by_numbers, numbered_left, numbered_reply}
use Rattle.hl_paths.specs.Files.{is_over_quota, is_taken}
use Rattle.hl_paths.specs.Free.{AreUpTo}
use Rattle.hl_paths.specs.Links.{resolve}
use Rattle.hl_paths.specs.Nodes.{HasTree, flat_node}
use Rattle.hl_paths.specs.Numbered.{AreLinked, Directory, IsTreeOf, Leaf, NumberedNode, Numbering, found_node, links, number_in, tree_node}
use Rattle.hl_paths.proofs.ByNumbers.{agree-by_numbers, numbers_are_tree}
use Rattle.hl_paths.proofs.Files.{over-tree}
use Rattle.hl_paths.proofs.Links.{parent_of, resolve-root}
use Rattle.hl_paths.proofs.Needs.{need-numbers}
use Rattle.hl_paths.proofs.UpTo.{up_to-by_numbers}
use Rattle.hl_nodes.specs.Contents.{Contents}
use Rattle.hl_store.specs.Values.{StoreValue, layout}
use Rattle.hl_ranges.specs.Needs.{IsFirstMissing}
use Rattle.hl_walk.specs.Trees.{KnowsTree}
use Rattle.hl_calls.specs.declared.step.FileStep.{FileStep}
use Rattle.hl_calls.specs.declared.step.FileStep.TheVariants as step
use Rattle.hl_calls.specs.Calls.{MakesCall}
use Rattle.hl_calls.specs.Trees.{ArePlacedLeaves, site_limits}
use Rattle.hl_calls.proofs.MappedRows.{get-mapped, mapped}
use Rattle.hl_files.specs.TreeCalls.{DoesOnFiles, HasFilesNow}

-- the tree of linked numbers is one of folders
module _ (numbered : Numbering PlacedFile) (placed : PlacedTree) (tree : IsTreeOf numbered placed) where
  at_path : (path : List (List ℕ)) (number : ℕ) (node : NumberedNode PlacedFile) → resolve (links numbered) path ≡ Some number → get numbered number ≡ Some node
      → get placed path ≡ Some (tree_node node)
  at_path path number node leads there = tree.same path ∙ ap (found_node numbered) leads ∙ ap (option_map tree_node) there

  -- what has a name below it is a directory
  links_directory : (number : ℕ) (name : List ℕ) (child : ℕ) → links numbered number name ≡ Some child → (es : List Entry) × (get numbered number ≡ Some (Directory es))
  unfolding links
  links_directory number name child linked = by_node (get numbered number) refl linked
    where
      by_node : (node : Option (NumberedNode PlacedFile)) → get numbered number ≡ node → number_in node name ≡ Some child → (es : List Entry) × (get numbered number ≡ Some (Directory es))
      by_node None there is = cc
      by_node (Some (Leaf file)) there is = cc
      by_node (Some (Directory es)) there is = (es, there)

  found_number : (path : List (List ℕ)) (node : Node PlacedFile) → get placed path ≡ Some node → (number : ℕ) × (resolve (links numbered) path ≡ Some number)
  found_number path node is = by_number (resolve (links numbered) path) refl (sym (tree.same path) ∙ is)
    where
      by_number : (o : Option ℕ) → resolve (links numbered) path ≡ o → found_node numbered o ≡ Some node → (number : ℕ) × (resolve (links numbered) path ≡ Some number)
      by_number None leads found = cc
      by_number (Some number) leads found = (number, leads)

  pub tree_of_folders : IsTree placed
  tree_of_folders = record {
    root = let root = tree.linked.root in at_path [] 1 (Directory root.0) (resolve-root (links numbered)) root.1;
    parents = λ path name node is.
        let child = found_number (path ++ name ∷ []) node is in
        let parent = parent_of (links numbered) path name child.0 child.1 in
        let dir = links_directory parent.0 name child.0 parent.2 in
        at_path path parent.0 (Directory dir.0) parent.1 dir.1;
  }

  -- so are its plain files
  pub plain_of_folders : (shelf : Shelf) → IsTree (plain shelf placed)
  unfolding plain
  plain_of_folders shelf = record {
    root = get-map_contents (plain_bytes shelf) placed [] ∙ ap (option_map (node_map (plain_bytes shelf))) tree_of_folders.root;
    parents = λ path name node is.
        let under = by_node path name node (get placed (path ++ name ∷ [])) refl (sym (get-map_contents (plain_bytes shelf) placed (path ++ name ∷ [])) ∙ is) in
        get-map_contents (plain_bytes shelf) placed path ∙ ap (option_map (node_map (plain_bytes shelf))) under;
  } where
    by_node : (path : List (List ℕ)) (name : List ℕ) (node : Node (List ℕ)) (o : Option (Node PlacedFile)) → get placed (path ++ name ∷ []) ≡ o
        → option_map (node_map (plain_bytes shelf)) o ≡ Some node → get placed path ≡ Some Dir
    by_node path name node None there is = cc
    by_node path name node (Some x) there is = tree_of_folders.parents path name x there

  -- its files are placed where the tree's are
  pub leaves_placed : (shelf : Shelf) → ArePlaced shelf placed → ArePlacedLeaves shelf numbered
  leaves_placed shelf files number file there =
      let reached = tree.linked.reached number (subst (λ (o : Option (NumberedNode PlacedFile)). IsSome o) (sym there) refl) in
      files reached.0 file (at_path reached.0 number (Leaf file) reached.1 there)

-- what is taken by numbers the rules accept
taken_accepted : (after : PlacedTree) (o : Outcome) (by : NumberedDone PlacedFile) → Agree after o by → is_taken by ≡ true → is_accepted o ≡ true
taken_accepted after (Ok done) (Ok by) agree taken = refl
taken_accepted after (Err why) (Err other) agree taken = taken
taken_accepted after (Ok done) (Err other) agree taken = absurd agree
taken_accepted after (Err why) (Ok by) agree taken = absurd agree

-- a call on a tree of the store's files
module _ {M : Type 0} (v : StoreValue M) (c : Contents) (shelf : Shelf) (placed : PlacedTree) (has : HasFilesNow v c shelf placed)
    (few : (layout v).inodes - 1 < 2 ^ 32) (now : ℕ) (call : Call) (names : HasNames call) where
  abbrev done : NumberedDone PlacedFile
  done = by_numbers (site_limits (layout v)) shelf has.numbered now call

  pub knows : KnowsTree v c has.numbered
  knows = record { known = has.known; linked = has.tree.linked }

  flat : HasTree (mapped (λ (number : ℕ) (node : NumberedNode PlacedFile). flat_node node) has.numbered) placed
  flat = record {
    numbered = has.numbered;
    spelled = λ number. get-mapped (λ (number : ℕ) (node : NumberedNode PlacedFile). flat_node node) has.numbered number;
    tree = has.tree;
  }

  both : (reply (site_limits (layout v)) (plain shelf placed) call ≡ numbered_reply done) × IsTreeOf (numbered_left has.numbered done) (placed_after (site_limits (layout v)) shelf placed now call)
  both = numbers_are_tree (site_limits (layout v)) shelf has.numbered placed has.tree has.within few now call names

  accepts_taken : is_taken done ≡ true → accepts (site_limits (layout v)) placed call ≡ true
  accepts_taken taken = sym (accepts-plain (site_limits (layout v)) shelf placed call)
      ∙ taken_accepted (accepted shelf placed now call) (outcome (site_limits (layout v)) (plain shelf placed) call) done
      (agree-by_numbers (site_limits (layout v)) shelf has.numbered placed has.tree has.within few now call names) taken

  over : is_over_quota (quota (layout v)) has.numbered done ≡ is_over (quota (layout v)) (site_limits (layout v)) placed now call
  unfolding flat
  over = over-tree (site_limits (layout v)) few shelf (mapped (λ (number : ℕ) (node : NumberedNode PlacedFile). flat_node node) has.numbered) placed flat has.within now call names (quota (layout v))

-- the same by plain files
module _ {M : Type 0} (history : M → Option History) (faults : M → ℕ) (old new : StoreValue M)
    (few : (layout old).inodes - 1 < 2 ^ 32) (now : ℕ) (call : Call) (names : HasNames call) where
  pub does_on_files : (made : FileStep) → MakesCall history faults old new now call made → DoesOnFiles history old new now call made
  does_on_files (step.Done reply) does = λ h told c lies shelf placed shows has.
      let d = does.1 h told c lies shelf has.numbered shows (knows old c shelf placed has few now call names) (leaves_placed has.numbered placed has.tree shelf has.files) in
      let two = both old c shelf placed has few now call names in
      record {
        reply_is = d.reply_is ∙ sym two.0;
        within = sym (over old c shelf placed has few now call names) ∙ d.within;
        left = record {
          numbered = numbered_left has.numbered (done old c shelf placed has few now call names);
          known = d.known;
          tree = two.1;
          within = subst (λ (g : Layout). AreUpTo (g.inodes - 1) (numbered_left has.numbered (done old c shelf placed has few now call names))) (sym (ap layout does.0))
              (up_to-by_numbers (site_limits (layout old)) shelf has.numbered has.within now call);
          files = ArePlaced-placed_after (site_limits (layout old)) shelf placed has.files (plain_of_folders has.numbered placed has.tree shelf) now call;
        };
        plain_left = plain-placed_after shelf placed (site_limits (layout old)) has.files now call;
      }
  does_on_files (step.Needs tseg) does = λ h told c lies shelf placed shows has.
      let d = does.1 h told c lies shelf has.numbered shows (knows old c shelf placed has few now call names) (leaves_placed has.numbered placed has.tree shelf has.files) in
      record {
        accepted = accepts_taken old c shelf placed has few now call names d.taken;
        within = sym (over old c shelf placed has few now call names) ∙ d.within;
        first = subst (λ (ns : List ℕ). IsFirstMissing old tseg ns) (sym (need-numbers has.numbered placed has.tree call)) d.first;
      }
  does_on_files step.NoSpace does = λ h told c lies shelf placed shows has.
      let d = does.1 h told c lies shelf has.numbered shows (knows old c shelf placed has few now call names) (leaves_placed has.numbered placed has.tree shelf has.files) in
      sym (over old c shelf placed has few now call names) ∙ d
  does_on_files step.DiskFault does = tt
  does_on_files step.Memory does = tt
