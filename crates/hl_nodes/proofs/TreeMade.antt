-- The nodes of an image that breaks no rule are a tree.
use Rattle.std.specs.FinMap.{get}
use Rattle.std.proofs.Common.{◌≡◌, ◌≢◌, ◌⊎◌, inl, inr, ⊎_elim, ℕ, ◌<◌, List, length, refl, sym, ◌∙◌, ap, subst, arith}
use Rattle.std.specs.Prelude.{slice_index, Option, Some, None, option_map, IsSome}
use Rattle.std.specs.List.{slice_index_or}
use Rattle.std.proofs.lemmas.Bool.{cases_lt}
use Rattle.std.proofs.lemmas.List.{same_lists, get_or_default}
use Rattle.std.proofs.lemmas.List.FromFn.{length-map-range_with_len, get_or-map-range_with_len}
use Rattle.hl_media.specs.History.{Image}
use Rattle.hl_addr.specs.Layout.{Layout, IsWithinLimits}
use Rattle.hl_super.specs.declared.record.Record.{Record}
use Rattle.hl_summary.specs.declared.parts.Summary.{Summary}
use Rattle.hl_tables.specs.Values.{TableValues}
use Rattle.hl_inode.specs.declared.inode.Kind.{Kind}
use Rattle.hl_inode.specs.declared.inode.Kind.TheVariants.{File, Dir}
use Rattle.hl_inode.specs.declared.inode.Inode.{Inode}
use Rattle.hl_inode.specs.Inodes.{HasRanges}
use Rattle.hl_dir.specs.declared.entry.Entry.{Entry}
use Rattle.hl_dir.specs.Dirs.{AreEntries, dir_bytes}
use Rattle.hl_placed.specs.Blocks.{Block, Here, Hole, PlacedFile, blocks_of, padded_block, file_block, listed}
use Rattle.hl_placed.specs.Placed.{PlacedTree}
use Rattle.hl_paths.specs.Links.{resolve}
use Rattle.hl_paths.specs.Numbered.{NumberedNode, Directory, Leaf, Numbering, links, AreLinked}
use Rattle.hl_paths.specs.Nodes.{FlatNode, Nodes, Spell, HasTree, directory_content, flat_node}
use Rattle.hl_paths.proofs.Links.{none_some}
use Rattle.hl_paths.proofs.Nodes.{some_of, is_there}
use Rattle.hl_paths.proofs.Counts.{tree_of}
use Rattle.hl_nodes.specs.declared.rule.Rule.TheVariants.{DirectoryBytes, DirectoryEntry, LostInode}
use Rattle.hl_nodes.specs.Pointers.{pointer_of}
use Rattle.hl_nodes.specs.Blocks.{StandsFor}
use Rattle.hl_nodes.specs.Nodes.{IsNodeOf, IsMapEntry, HasNodes}
use Rattle.hl_nodes.specs.Directories.{HoldsEntries, HasEntry, IsInUse, IsOffName}
use Rattle.hl_nodes.proofs.Deciding.{Decided, certain, both, denied, alike, is_equal, is_at_most, is_below}
use Rattle.hl_nodes.proofs.InodeDecided.{is_dir}
use Rattle.hl_nodes.proofs.DirectoryDecided.{held_or_not}
use Rattle.hl_nodes.proofs.Choosing.{HasChosen, choose}
use Rattle.hl_nodes.proofs.Determined.{one_block}
use Rattle.hl_nodes.proofs.PointerLemmas.{in_log-some}
use Rattle.hl_nodes.proofs.ImageLinks.{in_range, node_there, link_entry, entry_directory, leads_follow, found_or_not}
use Rattle.hl_nodes.proofs.Unbroken.{IsUnbroken, limits_un}
use Rattle.hl_nodes.proofs.NodesMade.{file_unless_dir}

-- a directory's inode was never used
unused : (v : Inode) → HasRanges v → v.kind ≡ Dir → v.used ≡ 0
unused v ranges dir = ⊎_elim (λ file. absurd (let e : File ≡ Dir = sym file ∙ dir in cc)) (λ e. e) ranges.used

-- a number in use or not
in_use_or_not : (g : Layout) (t : TableValues) (number : ℕ) → Decided (IsInUse g t number)
in_use_or_not g t number = alike (λ (low, (high, entry)). record { low = low; high = high; entry = entry }) (λ x. (x.low, (x.high, x.entry)))
    (both (is_at_most 1 number) (both (is_below number g.inodes) (denied (is_equal (slice_index t.inodes number) 4294967295))))

module _ (g : Layout) (image : Image) (rec : Record) (parts : List Summary) (t : TableValues) (un : IsUnbroken g image rec parts t) (nodes : Nodes) (has : HasNodes g image t nodes)
    (root : (node : FlatNode) × (get nodes 1 ≡ Some node) × (node.kind ≡ Dir)) where
  limits : IsWithinLimits g
  limits = limits_un g image rec parts t un

  abbrev entry : ℕ → ℕ
  entry ino = slice_index t.inodes ino

  -- THE NUMBERED NODES

  -- a node whose inode holds entries is their directory
  module _ (v : Inode) (node : FlatNode) (es : List Entry) (is : IsNodeOf g t.slots image v node) (ranges : HasRanges v) (dir : v.kind ≡ Dir) (held : HoldsEntries g image v es) where
    block_is : (i : ℕ) → i < blocks_of v.size → file_block node.content i ≡ Here (padded_block (dir_bytes es) i)
    block_is i lt =
        let at = held.in_log i lt in
        let stands : StandsFor g t.slots image v.kind (pointer_of image v i) (Here (padded_block (dir_bytes es) i)) = (at, held.blocks i lt) in
        one_block g limits t.slots image v.kind (pointer_of image v i) (file_block node.content i) (Here (padded_block (dir_bytes es) i)) (is.blocks i lt) stands

    blocks_are : node.content.blocks ≡ listed (blocks_of (length (dir_bytes es))) (λ i. Here (padded_block (dir_bytes es) i))
    blocks_are =
        let size : blocks_of v.size ≡ blocks_of (length (dir_bytes es)) = ap blocks_of held.size in
        let count = is.count in
        same_lists node.content.blocks (listed (blocks_of (length (dir_bytes es))) (λ i. Here (padded_block (dir_bytes es) i)))
        (count ∙ size ∙ sym (length-map-range_with_len (λ i. Here (padded_block (dir_bytes es) i)) 0 (blocks_of (length (dir_bytes es)))))
        (λ k d lt.
        get_or_default node.content.blocks k d Hole lt ∙ block_is k (omega arith)
        ∙ sym (get_or-map-range_with_len (λ i. Here (padded_block (dir_bytes es) i)) 0 (blocks_of (length (dir_bytes es))) k k d (omega arith) (omega arith)))

    directory_is : node ≡ flat_node (Directory es)
    unfolding directory_content
    directory_is =
        ap (λ (k : Kind). record { kind = k; content = node.content }) (is.kind_is ∙ dir)
        ∙ ap (λ (n : ℕ). record { kind = Dir; content = record { size = n; used = node.content.used; blocks = node.content.blocks } }) (is.size_is ∙ held.size)
        ∙ ap (λ (n : ℕ). record { kind = Dir; content = record { size = length (dir_bytes es); used = n; blocks = node.content.blocks } }) (is.used_is ∙ unused v ranges dir)
        ∙ ap (λ (bs : List Block). record { kind = Dir; content = record { size = length (dir_bytes es); used = 0; blocks = bs } }) blocks_are

  -- it spells the node, and its entries are those of a directory
  IsNumbered : ℕ → Option (NumberedNode PlacedFile) → Type 0
  IsNumbered i o = (get nodes i ≡ option_map flat_node o) × ((es : List Entry) → o ≡ Some (Directory es) → AreEntries es)

  number : (i : ℕ) → i < g.inodes → (o : Option (NumberedNode PlacedFile)) × IsNumbered i o
  unfolding IsNumbered
  number i lt = by (get nodes i) refl
    where
      of : (node : FlatNode) → get nodes i ≡ Some node → Decided (node.kind ≡ Dir) → (o : Option (NumberedNode PlacedFile)) × IsNumbered i o
      of node e (inl dir) =
          let range = in_range g limits image t nodes has i node e in
          let is = node_there g limits image t nodes has i node e in
          let v_dir : is.inode.kind ≡ Dir = sym is.is.kind_is ∙ dir in
          let held = certain (held_or_not g image is.inode) (λ never. un.none DirectoryBytes (omega arith) (entry i) (i, is.inode, (range.0, range.1, refl, is.there), v_dir, λ es h. never (es, h))) in (
            Some (Directory held.0),
            (
              e ∙ ap Some (directory_is is.inode node held.0 is.is is.there.spelled.value.ranges v_dir held.1),
              λ es f. (let same : held.0 ≡ es = cc in subst AreEntries same held.1.entries),
            ),
          )
      of node e (inr other) = (Some (Leaf node.content), (e ∙ ap (λ (k : Kind). Some (record { kind = k; content = node.content })) (file_unless_dir node.kind other), λ es f. absurd (cc)))

      by : (o : Option FlatNode) → get nodes i ≡ o → (o : Option (NumberedNode PlacedFile)) × IsNumbered i o
      by None e = (None, (e, λ es f. absurd (none_some f)))
      by (Some node) e = of node e (is_dir node.kind)

  chosen : HasChosen IsNumbered g.inodes
  chosen = choose IsNumbered g.inodes number

  numbered : Numbering PlacedFile
  numbered = chosen.chosen

  spell : Spell nodes numbered
  unfolding numbered IsNumbered
  spell i = ⊎_elim (λ lt. (chosen.each i lt).0) (λ ge. has.past i ge ∙ ap (option_map flat_node) (sym (chosen.past i ge))) (cases_lt i g.inodes)

  entries : (i : ℕ) (es : List Entry) → get numbered i ≡ Some (Directory es) → AreEntries es
  unfolding numbered IsNumbered
  entries i es e = ⊎_elim (λ lt. (chosen.each i lt).1 es e) (λ ge. absurd (none_some (sym (chosen.past i ge) ∙ e))) (cases_lt i g.inodes)

  -- THE LINKS

  -- a node has a numbered node
  numbered_of : (i : ℕ) (node : FlatNode) → get nodes i ≡ Some node → (x : NumberedNode PlacedFile) × (get numbered i ≡ Some x) × (flat_node x ≡ node)
  numbered_of i node e = by (get numbered i) refl
    where
      by : (o : Option (NumberedNode PlacedFile)) → get numbered i ≡ o → (x : NumberedNode PlacedFile) × (get numbered i ≡ Some x) × (flat_node x ≡ node)
      by None f = absurd (none_some (sym (spell i ∙ ap (option_map flat_node) f) ∙ e))
      by (Some x) f = (x, f, (let same : Some (flat_node x) ≡ Some node = sym (spell i ∙ ap (option_map flat_node) f) ∙ e in cc))

  no_off_name : (ino address k : ℕ) (e : Entry) → HasEntry g image t ino address k e → IsOffName g image t ino k e.ino → ⊥
  no_off_name ino address k e h off = un.none DirectoryEntry (omega arith) address (ino, k, e, h, off)

  used_child : (child : ℕ) → IsInUse g t child → IsSome (get numbered child)
  used_child child used = by (get nodes child) refl (has.entries child used.low used.high)
    where
      by : (o : Option FlatNode) → get nodes child ≡ o → IsMapEntry g t.slots image child (entry child) o → IsSome (get numbered child)
      by None e none = absurd (used.entry none)
      by (Some node) e there = let x = numbered_of child node e in is_there x.0 x.1

  used : (i : ℕ) (name : List ℕ) (child : ℕ) → links numbered i name ≡ Some child → IsSome (get numbered child)
  used i name child link =
      let found = link_entry g limits image t nodes has numbered spell entries i name child link in
      used_child child (certain (in_use_or_not g t child) (λ never. no_off_name i found.0 found.1 found.2 found.3 (inl (λ u. never (subst (IsInUse g t) found.5 u)))))

  below_root : (i : ℕ) (name : List ℕ) (child : ℕ) → links numbered i name ≡ Some child → child ≡ 1 → ⊥
  below_root i name child link one =
      let found = link_entry g limits image t nodes has numbered spell entries i name child link in
      no_off_name i found.0 found.1 found.2 found.3 (inr (inl (found.5 ∙ one)))

  once : (i j : ℕ) (name named : List ℕ) (child : ℕ) → links numbered i name ≡ Some child → links numbered j named ≡ Some child → (i ≡ j) × (name ≡ named)
  once i j name named child one other = by (is_equal j i) (is_equal q.1 p.1)
    where
      p : (address k : ℕ) × (e : Entry) × HasEntry g image t i address k e × (e.name ≡ name) × (e.ino ≡ child)
      p = link_entry g limits image t nodes has numbered spell entries i name child one

      q : (address k : ℕ) × (e : Entry) × HasEntry g image t j address k e × (e.name ≡ named) × (e.ino ≡ child)
      q = link_entry g limits image t nodes has numbered spell entries j named child other

      off : (j ≢ i) ⊎ (q.1 ≢ p.1) → ⊥
      off differ = no_off_name i p.0 p.1 p.2 p.3 (inr (inr (j, q.0, q.1, q.2, q.3, q.5 ∙ sym p.5, differ)))

      by : Decided (j ≡ i) → Decided (q.1 ≡ p.1) → (i ≡ j) × (name ≡ named)
      by (inr never) d = absurd (off (inl never))
      by (inl same) (inr never) = absurd (off (inr never))
      by (inl same) (inl place) =
          let f = entry_directory g limits image t nodes has numbered spell entries i p.0 p.1 p.2 p.3 in
          let h = entry_directory g limits image t nodes has numbered spell entries j q.0 q.1 q.2 q.3 in
          let both : Some (Directory p.3.entries) ≡ Some (Directory q.3.entries) = sym f ∙ ap (get numbered) (sym same) ∙ h in
          let es : p.3.entries ≡ q.3.entries = cc in
          let e : p.2 ≡ q.2 =
          sym p.3.is ∙ ap (λ (l : List Entry). slice_index_or l p.1 p.2) es ∙ ap (λ (n : ℕ). slice_index_or q.3.entries n p.2) (sym place) ∙ get_or_default q.3.entries q.1 p.2 q.2 q.3.within ∙ q.3.is in
          (sym same, sym p.4 ∙ ap (λ (x : Entry). x.name) e ∙ q.4)

  reached : (i : ℕ) → IsSome (get numbered i) → (path : List (List ℕ)) × (resolve (links numbered) path ≡ Some i)
  unfolding resolve
  reached i some =
      let x = some_of (get numbered i) some in
      let e = spell i ∙ ap (option_map flat_node) x.1 in
      let range = in_range g limits image t nodes has i (flat_node x.0) e in
      let there = node_there g limits image t nodes has i (flat_node x.0) e in
      let used : IsInUse g t i = record { low = range.0; high = range.1; entry = in_log-some g limits (entry i) there.there.in_log } in
      certain (found_or_not g limits image t nodes has numbered spell entries i)
      (λ never. un.none LostInode (omega arith) (entry i) (i, used, refl, λ names leads. never (names, leads_follow g limits image t nodes has numbered spell entries names 1 i leads)))

  root_is : (es : List Entry) × (get numbered 1 ≡ Some (Directory es))
  root_is = let x = numbered_of 1 root.0 root.1 in by x.0 x.1 (ap (λ (n : FlatNode). n.kind) x.2 ∙ root.2)
    where
      by : (x : NumberedNode PlacedFile) → get numbered 1 ≡ Some x → (flat_node x).kind ≡ Dir → (es : List Entry) × (get numbered 1 ≡ Some (Directory es))
      by (Directory es) e kind = (es, e)
      by (Leaf file) e kind = absurd (cc)

  linked : AreLinked numbered
  linked = record { root = root_is; entries = entries; used = used; below_root = below_root; once = once; reached = reached }

  -- A TREE
  pub tree_made : (placed : PlacedTree) × HasTree nodes placed
  tree_made = let tree = tree_of numbered linked in (tree.0, record { numbered = numbered; spelled = spell; tree = tree.1 })
