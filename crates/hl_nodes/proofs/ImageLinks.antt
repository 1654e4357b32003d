-- The entries of an image are the links of its nodes by numbers.
use Rattle.std.specs.FinMap.{get}
use Rattle.std.proofs.Common.{◌≡◌, inl, inr, ⊎_elim, ℕ, suc, ◌<◌, ◌≤◌, Bool, true, false, cond, List, [], ◌∷◌, ◌++◌, length, get_or, refl, sym, ◌∙◌, ap, subst, arith}
use Rattle.std.specs.Prelude.{slice_index, Option, Some, None, option_map}
use Rattle.std.proofs.lemmas.Bool.{cases_lt}
use Rattle.std.proofs.lemmas.List.{get_or_default}
use Rattle.std.proofs.lemmas.List.FromFn.{get_or-map-range_with_len}
use Rattle.hl_media.specs.History.{Image}
use Rattle.hl_addr.specs.Layout.{Layout, IsWithinLimits}
use Rattle.hl_tables.specs.Values.{TableValues}
use Rattle.hl_inode.specs.declared.inode.Kind.TheVariants.{File, Dir}
use Rattle.hl_inode.specs.declared.inode.Inode.{Inode}
use Rattle.hl_dir.specs.declared.entry.Entry.{Entry}
use Rattle.hl_dir.specs.Dirs.{AreEntries, dir_bytes}
use Rattle.hl_placed.specs.Blocks.{Block, Here, Hole, PlacedFile, blocks_of, padded_block, file_block}
use Rattle.hl_paths.specs.Entries.{entry_number}
use Rattle.hl_paths.specs.Links.{same_name, follow, resolve}
use Rattle.hl_paths.specs.Numbered.{NumberedNode, Directory, Leaf, Numbering, links}
use Rattle.hl_paths.specs.Nodes.{FlatNode, Nodes, Spell, directory_content, flat_node}
use Rattle.hl_paths.proofs.Links.{none_some, name_is, follow-append, follow-none}
use Rattle.hl_paths.proofs.Nodes.{directory_of, links-of, links-none}
use Rattle.hl_paths.proofs.Entries.{sorted_rows}
use Rattle.hl_paths.proofs.EntriesAt.{entry_number-at}
use Rattle.hl_nodes.specs.Pointers.{pointer_of}
use Rattle.hl_image.specs.Places.{InLog}
use Rattle.hl_nodes.specs.Blocks.{StandsFor}
use Rattle.hl_nodes.specs.Nodes.{IsNodeOf, IsNodeAt, IsMapEntry, HasNodes}
use Rattle.hl_nodes.specs.Directories.{IsInodeIn, HoldsEntries, HasEntry, Leads}
use Rattle.hl_nodes.proofs.PointerLemmas.{in_log-some}
use Rattle.hl_nodes.proofs.Frame.{one_inode}
use Rattle.hl_nodes.proofs.DirectoryDecided.{one_held}
use Rattle.hl_nodes.proofs.Deciding.{Decided, alike, is_equal, some_below}
use Rattle.hl_nodes.proofs.Reaching.{Reaches, reaches_or_not, Steps, steps_reach, reached}

no_entry : Entry
no_entry = record { ino = 0; name = [] }

-- the entry that has a name's number
entry_found : (es : List Entry) (name : List ℕ) (y : ℕ) → entry_number es name ≡ Some y → (k : ℕ) × (k < length es) × ((get_or es k no_entry).name ≡ name) × ((get_or es k no_entry).ino ≡ y)
entry_found [] name y e = absurd (none_some e)
entry_found (x ∷ es) name y e = by (same_name name x.name) refl (entry_found es name y)
  where
    by : (b : Bool) → same_name name x.name ≡ b → (entry_number es name ≡ Some y → (k : ℕ) × (k < length es) × ((get_or es k no_entry).name ≡ name) × ((get_or es k no_entry).ino ≡ y))
        → (k : ℕ) × (k < length (x ∷ es)) × ((get_or (x ∷ es) k no_entry).name ≡ name) × ((get_or (x ∷ es) k no_entry).ino ≡ y)
    by true is later =
        let own : Some x.ino ≡ Some y = sym (ap (λ (b : Bool). cond b (Some x.ino) (entry_number es name)) is) ∙ e in
        (0, omega arith, sym (name_is name x.name is), (cc))
    by false is later =
        let rest = later (sym (ap (λ (b : Bool). cond b (Some x.ino) (entry_number es name)) is) ∙ e) in
        let lt = rest.1 in
        (suc rest.0, omega arith, rest.2, rest.3)

module _ (g : Layout) (limits : IsWithinLimits g) (image : Image) (t : TableValues) (nodes : Nodes) (has : HasNodes g image t nodes) where
  abbrev entry : ℕ → ℕ
  entry number = slice_index t.inodes number

  -- a node has a number of the site, and its inode stands where the map says
  pub in_range : (number : ℕ) (node : FlatNode) → get nodes number ≡ Some node → (1 ≤ number) × (number < g.inodes)
  in_range number node e = ⊎_elim
      (λ lt. ⊎_elim (λ low. (let zero : number ≡ 0 = omega arith in absurd (none_some (sym has.zero ∙ ap (get nodes) (sym zero) ∙ e)))) (λ high. (high, lt)) (cases_lt number 1))
      (λ ge. absurd (none_some (sym (has.past number ge) ∙ e)))
      (cases_lt number g.inodes)

  pub node_there : (number : ℕ) (node : FlatNode) → get nodes number ≡ Some node → IsNodeAt g t.slots image number (entry number) node
  node_there number node e = let r = in_range number node e in subst (λ (o : Option FlatNode). IsMapEntry g t.slots image number (entry number) o) e (has.entries number r.0 r.1)

  -- an inode that the map names is a node's
  pub inode_node : (number address : ℕ) (v : Inode) → IsInodeIn g image t number v address → (node : FlatNode) × (get nodes number ≡ Some node) × IsNodeOf g t.slots image v node
  inode_node number address v (low, high, at, there) = by (get nodes number) refl (has.entries number low high)
    where
      by : (o : Option FlatNode) → get nodes number ≡ o → IsMapEntry g t.slots image number (entry number) o → (node : FlatNode) × (get nodes number ≡ Some node) × IsNodeOf g t.slots image v node
      by None e none = absurd (in_log-some g limits address there.in_log (sym at ∙ none))
      by (Some node) e is = (node, e, subst (λ (w : Inode). IsNodeOf g t.slots image w node) (one_inode (image (entry number)) (image address) is.inode v (ap image (sym at)) is.there.spelled there.spelled) is.is)

  module _ (numbered : Numbering PlacedFile) (spell : Spell nodes numbered) where
    node_is : (number : ℕ) (x : NumberedNode PlacedFile) → get numbered number ≡ Some x → get nodes number ≡ Some (flat_node x)
    node_is number x e = spell number ∙ ap (option_map flat_node) e

    block_is : (es : List Entry) (i : ℕ) → i < blocks_of (length (dir_bytes es)) → file_block (directory_content es) i ≡ Here (padded_block (dir_bytes es) i)
    unfolding directory_content
    block_is es i lt = get_or-map-range_with_len (λ i. Here (padded_block (dir_bytes es) i)) 0 (blocks_of (length (dir_bytes es))) i i Hole lt (omega arith)

    size_is : (es : List Entry) (v : Inode) → IsNodeOf g t.slots image v (flat_node (Directory es)) → v.size ≡ length (dir_bytes es)
    unfolding directory_content
    size_is es v is = sym is.size_is

    -- the inode of a directory holds its entries
    pub holds : (es : List Entry) (v : Inode) → AreEntries es → IsNodeOf g t.slots image v (flat_node (Directory es)) → HoldsEntries g image v es
    holds es v are is =
        let size = size_is es v is in
        let at : (i : ℕ) → i < blocks_of v.size → InLog g (pointer_of image v i) × (image (pointer_of image v i) ≡ padded_block (dir_bytes es) i) =
        λ i lt. subst (λ (b : Block). StandsFor g t.slots image v.kind (pointer_of image v i) b) (block_is es i (subst (λ (n : ℕ). i < blocks_of n) size lt)) (is.blocks i lt) in
        record { entries = are; size = size; in_log = λ i lt. (at i lt).0; blocks = λ i lt. (at i lt).1 }

    module _ (entries : (number : ℕ) (es : List Entry) → get numbered number ≡ Some (Directory es) → AreEntries es) where
      -- a link is an entry
      pub link_entry : (number : ℕ) (name : List ℕ) (child : ℕ) → links numbered number name ≡ Some child
          → (address k : ℕ) × (e : Entry) × HasEntry g image t number address k e × (e.name ≡ name) × (e.ino ≡ child)
      link_entry number name child link =
          let dir = directory_of numbered number name child link in
          let found = entry_found dir.0 name child dir.2 in
          let there = node_there number (flat_node (Directory dir.0)) (node_is number (Directory dir.0) dir.1) in
          let range = in_range number (flat_node (Directory dir.0)) (node_is number (Directory dir.0) dir.1) in (
            entry number,
            found.0,
            get_or dir.0 found.0 no_entry,
            record {
              inode = there.inode;
              there = (range.0, range.1, refl, there.there);
              dir = sym there.is.kind_is;
              entries = dir.0;
              holds = holds dir.0 there.inode (entries number dir.0 dir.1) there.is;
              within = found.1;
              is = get_or_default dir.0 found.0 (get_or dir.0 found.0 no_entry) no_entry found.1;
            },
            found.2,
            found.3,
          )

      -- the directory of an entry
      pub entry_directory : (number address k : ℕ) (e : Entry) (h : HasEntry g image t number address k e) → get numbered number ≡ Some (Directory h.entries)
      entry_directory number address k e h = by (get numbered number) refl
        where
          there : (node : FlatNode) × (get nodes number ≡ Some node) × IsNodeOf g t.slots image h.inode node
          there = inode_node number address h.inode h.there

          by : (o : Option (NumberedNode PlacedFile)) → get numbered number ≡ o → o ≡ Some (Directory h.entries)
          by None is = absurd (none_some (sym (spell number ∙ ap (option_map flat_node) is) ∙ there.1))
          by (Some (Leaf file)) is =
              let same : Some (flat_node (Leaf file)) ≡ Some there.0 = sym (node_is number (Leaf file) is) ∙ there.1 in
              let node : flat_node (Leaf file) ≡ there.0 = cc in
              let kind : File ≡ Dir = ap (λ (x : FlatNode). x.kind) node ∙ there.2.kind_is ∙ h.dir in
              absurd (cc)
          by (Some (Directory fs)) is =
              let same : Some there.0 ≡ Some (flat_node (Directory fs)) = sym there.1 ∙ node_is number (Directory fs) is in
              let node : there.0 ≡ flat_node (Directory fs) = cc in
              let held = holds fs h.inode (entries number fs is) (subst (IsNodeOf g t.slots image h.inode) node there.2) in
              ap (λ (l : List Entry). Some (Directory l)) (one_held g image h.inode h.entries fs h.holds held)

      -- an entry is a link
      pub entry_link : (number address k : ℕ) (e : Entry) → HasEntry g image t number address k e → links numbered number e.name ≡ Some e.ino
      entry_link number address k e h =
          let dir = entry_directory number address k e h in
          let are = entries number h.entries dir in
          links-of numbered number (Directory h.entries) e.name dir
          ∙ entry_number-at e.name h.entries k e (sorted_rows h.entries are.1.1) h.within (ap (λ (x : Entry). x.name) h.is)
          ∙ ap (λ (x : Entry). Some x.ino) h.is

      -- what entries lead to, links lead to
      pub leads_follow : (names : List (List ℕ)) (from to : ℕ) → Leads g image t from names to → follow (links numbered) (Some from) names ≡ Some to
      leads_follow [] from to is = ap Some is
      leads_follow (name ∷ names) from to (address, k, e, h, named, rest) =
          ap (λ (o : Option ℕ). follow (links numbered) o names) (ap (links numbered from) (sym named) ∙ entry_link from address k e h) ∙ leads_follow names e.ino to rest

      pub follow_leads : (names : List (List ℕ)) (from to : ℕ) → follow (links numbered) (Some from) names ≡ Some to → Leads g image t from names to
      follow_leads [] from to is = (cc)
      follow_leads (name ∷ names) from to is = by (links numbered from name) refl (follow_leads names)
        where
          by : (o : Option ℕ) → links numbered from name ≡ o → ((from to : ℕ) → follow (links numbered) (Some from) names ≡ Some to → Leads g image t from names to) → Leads g image t from (name ∷ names) to
          by None e later = absurd (none_some (sym (follow-none (links numbered) names) ∙ sym (ap (λ (o : Option ℕ). follow (links numbered) o names) e) ∙ is))
          by (Some child) e later =
              let found = link_entry from name child e in
              (found.0, found.1, found.2, found.3, found.4, subst (λ (n : ℕ). Leads g image t n names to) (sym found.5) (later child to (sym (ap (λ (o : Option ℕ). follow (links numbered) o names) e) ∙ is)))

      -- one link from a number to another
      abbrev Link : ℕ → ℕ → Type 0
      Link x y = (name : List ℕ) × (links numbered x name ≡ Some y)

      linked : (x y : ℕ) → Decided (Link x y)
      linked x y = by (get numbered x) refl
        where
          by : (o : Option (NumberedNode PlacedFile)) → get numbered x ≡ o → Decided (Link x y)
          by None e = inr (λ l. none_some (sym (links-none numbered x l.0 e) ∙ l.1))
          by (Some (Leaf file)) e = inr (λ l. none_some (sym (links-of numbered x (Leaf file) l.0 e) ∙ l.1))
          by (Some (Directory es)) e = alike
              (λ (k, lt, is). (
                (get_or es k no_entry).name,
                links-of numbered x (Directory es) (get_or es k no_entry).name e
                    ∙ entry_number-at (get_or es k no_entry).name es k no_entry (sorted_rows es (entries x es e).1.1) lt refl ∙ ap Some is,
              ))
              (λ l. (let found = entry_found es l.0 y (sym (links-of numbered x (Directory es) l.0 e) ∙ l.1) in (found.0, found.1, found.3)))
              (some_below (λ k. (get_or es k no_entry).ino ≡ y) (length es) (λ k lt. is_equal (get_or es k no_entry).ino y))

      link_low : (x y : ℕ) → Link x y → x < g.inodes
      link_low x y (name, link) = let dir = directory_of numbered x name y link in (in_range x (flat_node (Directory dir.0)) (node_is x (Directory dir.0) dir.1)).1

      steps : (names : List (List ℕ)) (x y : ℕ) → follow (links numbered) (Some x) names ≡ Some y → Steps Link (length names) x y
      steps [] x y is = (cc)
      steps (name ∷ names) x y is = by (links numbered x name) refl (steps names)
        where
          by : (o : Option ℕ) → links numbered x name ≡ o → ((x y : ℕ) → follow (links numbered) (Some x) names ≡ Some y → Steps Link (length names) x y) → Steps Link (suc (length names)) x y
          by None e later = absurd (none_some (sym (follow-none (links numbered) names) ∙ sym (ap (λ (o : Option ℕ). follow (links numbered) o names) e) ∙ is))
          by (Some child) e later = (child, (name, e), later child y (sym (ap (λ (o : Option ℕ). follow (links numbered) o names) e) ∙ is))

      abbrev Followed : ℕ → ℕ → Type 0
      Followed x y = (names : List (List ℕ)) × (follow (links numbered) (Some x) names ≡ Some y)

      -- a number is reached from the root, or it isn't
      pub found_or_not : (number : ℕ) → Decided ((path : List (List ℕ)) × (resolve (links numbered) path ≡ Some number))
      unfolding resolve
      found_or_not number = by (is_equal 1 number) (reaches_or_not Link linked g.inodes 1 number)
        where
          by : Decided (1 ≡ number) → Decided (Reaches Link g.inodes 1 number) → Decided (Followed 1 number)
          by (inl root) d = inl ([], ap Some root)
          by (inr other) (inl there) = inl (reached Link Followed (λ x y l. (l.0 ∷ [], l.1))
              (λ x z y a b. (a.0 ++ b.0, follow-append (links numbered) (Some x) a.0 b.0 ∙ ap (λ (o : Option ℕ). follow (links numbered) o b.0) a.1 ∙ b.1)) g.inodes 1 number there)
          by (inr other) (inr never) = inr none
            where
              none : Followed 1 number → ⊥
              none ([], is) = other (cc)
              none (name ∷ names, is) = never (steps_reach Link g.inodes link_low (length names) 1 number (steps (name ∷ names) 1 number is))
