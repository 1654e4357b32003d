-- An image whose contents are in order breaks none of the rules 1 to 15.
use Rattle.std.specs.FinMap.{get}
use Rattle.std.proofs.Common.{◌≡◌, ◌⊎◌, inl, inr, ⊎_elim, ℕ, zero, suc, ◌<◌, Bool, true, false, ◌&&◌, T, List, [], ◌∷◌, length, get_or, refl, sym, ◌∙◌, ap, subst, arith}
use Rattle.std.specs.Prelude.{slice_index, Option, Some, None, option_map, IsSome}
use Rattle.std.specs.declared.cmp.Ordering.{Ordering}
use Rattle.std.specs.declared.cmp.Ordering.TheVariants.{Less, Equal, Greater}
use Rattle.std.specs.Ordering.{is_eq, is_lt}
use Rattle.std.specs.FinMap.Entries.{below_all, is_sorted}
use Rattle.std.proofs.lemmas.Bool.{cases_order}
use Rattle.std.proofs.lemmas.List.{get_or_default}
use Rattle.hl_tree.proofs.NamesBelow.{name_cmp}
use Rattle.hl_media.specs.History.{Image}
use Rattle.hl_addr.specs.Layout.{Layout, IsWithinLimits}
use Rattle.hl_dir.specs.declared.entry.Entry.{Entry}
use Rattle.hl_dir.specs.Dirs.{AreEntries}
use Rattle.hl_inode.specs.declared.inode.Kind.TheVariants.{File, Dir}
use Rattle.hl_inode.specs.declared.inode.Inode.{Inode}
use Rattle.hl_placed.specs.Blocks.{PlacedFile}
use Rattle.hl_placed.specs.Placed.{PlacedTree}
use Rattle.hl_paths.specs.Links.{resolve}
use Rattle.hl_paths.specs.Numbered.{NumberedNode, Directory, Leaf, Numbering, links}
use Rattle.hl_paths.specs.Nodes.{FlatNode, flat_node, flat_charge}
use Rattle.hl_paths.proofs.Links.{none_some, true_false, name_itself}
use Rattle.hl_paths.proofs.Nodes.{some_of, is_there}
use Rattle.hl_paths.proofs.Entries.{rows, sorted_rows}
use Rattle.hl_nodes.specs.declared.rule.Rule.{Rule}
use Rattle.hl_nodes.specs.declared.rule.Rule.TheVariants.{TablePlace, TableBytes, MapEntry, InodeBytes, PointerPlace, PointerBlock, SharedBlock, StrayBlock, DirectoryBytes, DirectoryEntry, LostInode, SlotEntry, LineBytes, LastBlock, Quota, Room}
use Rattle.hl_nodes.specs.Nodes.{IsMapEntry, IsNodeOf}
use Rattle.hl_nodes.specs.Directories.{IsInodeIn, HoldsEntries, HasEntry, IsInUse, IsOffName, Leads}
use Rattle.hl_nodes.specs.Contents.{Contents}
use Rattle.hl_nodes.specs.Breaks.{Breaks}
use Rattle.hl_nodes.specs.Verdicts.{rule_number, KeepsRules, BreaksNoneBefore}
use Rattle.hl_nodes.specs.Order.{IsInOrder}
use Rattle.hl_nodes.proofs.PointerLemmas.{in_log-some}
use Rattle.hl_nodes.proofs.Frame.{limits_of}
use Rattle.hl_nodes.proofs.Determined.{one_nodes}
use Rattle.hl_nodes.proofs.SoundLaws.{sound_breaks_none}
use Rattle.hl_nodes.proofs.OneVerdict.{broken_over}
use Rattle.hl_nodes.proofs.ImageLinks.{in_range, node_there, inode_node, holds, entry_directory, entry_link, follow_leads}

left : (a b : Bool) → T (a && b) → T a
left true b p = tt
left false b p = p

right : (a b : Bool) → T (a && b) → T b
right true b p = p
right false b p = absurd p

is_less : (o : Ordering) → T (is_lt o) → o ≡ Less
is_less Less p = refl
is_less Equal p = absurd p
is_less Greater p = absurd p

below_at : (name : List ℕ) (es : List Entry) (i : ℕ) (d : Entry) → T (below_all name_cmp name (rows es)) → i < length es → name_cmp name (get_or es i d).name ≡ Less
below_at name [] i d below within = absurd (omega arith)
below_at name (e ∷ es) zero d below within = is_less _ (left (is_lt (name_cmp name e.name)) _ below)
below_at name (e ∷ es) (suc i) d below within = below_at name es i d (right (is_lt (name_cmp name e.name)) _ below) (omega arith)

-- of entries in order each name comes before each later one
in_order : (es : List Entry) (k j : ℕ) (d : Entry) → T (is_sorted name_cmp (rows es)) → k < j → j < length es → name_cmp (get_or es k d).name (get_or es j d).name ≡ Less
in_order [] k j d sorted less within = absurd (omega arith)
in_order (e ∷ es) k zero d sorted less within = absurd (omega arith)
in_order (e ∷ es) zero (suc j) d sorted less within = below_at e.name es j d (left (below_all name_cmp e.name (rows es)) (is_sorted name_cmp (rows es)) sorted) (omega arith)
in_order (e ∷ es) (suc k) (suc j) d sorted less within = in_order es k j d (right (below_all name_cmp e.name (rows es)) (is_sorted name_cmp (rows es)) sorted) (omega arith) (omega arith)

not_twice : (es : List Entry) (k j : ℕ) (d : Entry) (name : List ℕ) → T (is_sorted name_cmp (rows es)) → k < j → j < length es → (get_or es k d).name ≡ name → (get_or es j d).name ≡ name → ⊥
not_twice es k j d name sorted less within one two =
    let before : name_cmp name name ≡ Less = sym (ap (λ (n : List ℕ). name_cmp n (get_or es j d).name) one ∙ ap (λ (n : List ℕ). name_cmp name n) two) ∙ in_order es k j d sorted less within in
    true_false (sym (name_itself name) ∙ ap is_eq before)

-- a name has one place
one_place : (es : List Entry) (k j : ℕ) (d : Entry) (name : List ℕ) → AreEntries es → k < length es → j < length es → (get_or es k d).name ≡ name → (get_or es j d).name ≡ name → k ≡ j
one_place es k j d name are low high one two = by (cases_order k j)
  where
    by : (k ≡ j) ⊎ ((k < j) ⊎ (j < k)) → k ≡ j
    by (inl e) = e
    by (inr (inl less)) = absurd (not_twice es k j d name (sorted_rows es are.1.1) less high one two)
    by (inr (inr more)) = absurd (not_twice es j k d name (sorted_rows es are.1.1) more low two one)

module _ (g : Layout) (image : Image) (c : Contents) (placed : PlacedTree) (is : IsInOrder g image c placed) where
  limits : IsWithinLimits g
  limits = limits_of g image c.rec is.has.newest is.has.volumes

  abbrev numbered : Numbering PlacedFile
  numbered = is.tree.numbered

  are_entries : (number : ℕ) (es : List Entry) → get numbered number ≡ Some (Directory es) → AreEntries es
  are_entries = is.tree.tree.linked.entries

  -- the numbered node of a node
  numbered_of : (number : ℕ) (node : FlatNode) → get c.nodes number ≡ Some node → (x : NumberedNode PlacedFile) × (get numbered number ≡ Some x) × (flat_node x ≡ node)
  numbered_of number node e = by (get numbered number) refl
    where
      by : (o : Option (NumberedNode PlacedFile)) → get numbered number ≡ o → (x : NumberedNode PlacedFile) × (get numbered number ≡ Some x) × (flat_node x ≡ node)
      by None f = absurd (none_some (sym (is.tree.spelled number ∙ ap (option_map flat_node) f) ∙ e))
      by (Some x) f = (x, f, (let same : Some (flat_node x) ≡ Some node = sym (is.tree.spelled number ∙ ap (option_map flat_node) f) ∙ e in cc))

  in_use : (number : ℕ) → IsSome (get numbered number) → IsInUse g c.tables number
  in_use number some =
      let x = some_of (get numbered number) some in
      let e = is.tree.spelled number ∙ ap (option_map flat_node) x.1 in
      let range = in_range g limits image c.tables c.nodes is.has.nodes number (flat_node x.0) e in
      let there = node_there g limits image c.tables c.nodes is.has.nodes number (flat_node x.0) e in
      record { low = range.0; high = range.1; entry = in_log-some g limits (slice_index c.tables.inodes number) there.there.in_log }

  -- a number in use has a node
  used_node : (number : ℕ) → IsInUse g c.tables number → (node : FlatNode) × (get c.nodes number ≡ Some node)
  used_node number used = by (get c.nodes number) refl (is.has.nodes.entries number used.low used.high)
    where
      by : (o : Option FlatNode) → get c.nodes number ≡ o → IsMapEntry g c.tables.slots image number (slice_index c.tables.inodes number) o → (node : FlatNode) × (get c.nodes number ≡ Some node)
      by None e none = absurd (used.entry none)
      by (Some node) e there = (node, e)

  no_off_bytes : (ino address : ℕ) (v : Inode) → IsInodeIn g image c.tables ino v address → v.kind ≡ Dir → ((es : List Entry) → HoldsEntries g image v es → ⊥) → ⊥
  no_off_bytes ino address v there dir never =
      let at = inode_node g limits image c.tables c.nodes is.has.nodes ino address v there in
      let x = numbered_of ino at.0 at.1 in
      by x.0 x.1 (subst (IsNodeOf g c.tables.slots image v) (sym x.2) at.2)
    where
      by : (x : NumberedNode PlacedFile) → get numbered ino ≡ Some x → IsNodeOf g c.tables.slots image v (flat_node x) → ⊥
      by (Leaf file) e of = (let kind : File ≡ Dir = of.kind_is ∙ dir in cc)
      by (Directory es) e of = never es (holds g limits image c.tables c.nodes is.has.nodes numbered is.tree.spelled es v (are_entries ino es e) of)

  no_off_name : (ino address k : ℕ) (e : Entry) → HasEntry g image c.tables ino address k e → IsOffName g image c.tables ino k e.ino → ⊥
  no_off_name ino address k e h off =
      by (entry_link g limits image c.tables c.nodes is.has.nodes numbered is.tree.spelled are_entries ino address k e h) off
    where
      dir : get numbered ino ≡ Some (Directory h.entries)
      dir = entry_directory g limits image c.tables c.nodes is.has.nodes numbered is.tree.spelled are_entries ino address k e h

      by : links numbered ino e.name ≡ Some e.ino → IsOffName g image c.tables ino k e.ino → ⊥
      by link (inl unused) = unused (in_use e.ino (is.tree.tree.linked.used ino e.name e.ino link))
      by link (inr (inl root)) = is.tree.tree.linked.below_root ino e.name e.ino link root
      by link (inr (inr (other, address', j, f, h', same, differ))) =
          let link' = entry_link g limits image c.tables c.nodes is.has.nodes numbered is.tree.spelled are_entries other address' j f h' in
          let one = is.tree.tree.linked.once ino other e.name f.name e.ino link (link' ∙ ap Some same) in
          let dir' = entry_directory g limits image c.tables c.nodes is.has.nodes numbered is.tree.spelled are_entries other address' j f h' in
          let both : Some (Directory h.entries) ≡ Some (Directory h'.entries) = sym dir ∙ ap (get numbered) one.0 ∙ dir' in
          let es : h.entries ≡ h'.entries = cc in
          let low : j < length h.entries = subst (λ (l : List Entry). j < length l) (sym es) h'.within in
          let named : (get_or h.entries j f).name ≡ e.name = ap (λ (l : List Entry). (get_or l j f).name) es ∙ ap (λ (x : Entry). x.name) h'.is ∙ sym one.1 in
          let own : (get_or h.entries k f).name ≡ e.name = ap (λ (x : Entry). x.name) (get_or_default h.entries k f e h.within ∙ h.is) in
          let place : k ≡ j = one_place h.entries k j f e.name (are_entries ino h.entries dir) h.within low own named in
          ⊎_elim {C = ⊥} (λ apart. apart (sym one.0)) (λ apart. apart (sym place)) differ

  no_lost : (ino : ℕ) → IsInUse g c.tables ino → ((names : List (List ℕ)) → Leads g image c.tables 1 names ino → ⊥) → ⊥
  unfolding resolve
  no_lost ino used never =
      let node = used_node ino used in
      let x = numbered_of ino node.0 node.1 in
      let found = is.tree.tree.linked.reached ino (is_there x.0 x.1) in
      never found.0 (follow_leads g limits image c.tables c.nodes is.has.nodes numbered is.tree.spelled are_entries found.0 1 ino found.1)

  breaks_none : (rule : Rule) → rule_number rule < 16 → (address : ℕ) → Breaks g image c.rec c.parts c.tables rule address → ⊥
  breaks_none TablePlace lt address b = sound_breaks_none g image c is.has is.sound TablePlace address refl b
  breaks_none TableBytes lt address b = sound_breaks_none g image c is.has is.sound TableBytes address refl b
  breaks_none MapEntry lt address b = sound_breaks_none g image c is.has is.sound MapEntry address refl b
  breaks_none InodeBytes lt address b = sound_breaks_none g image c is.has is.sound InodeBytes address refl b
  breaks_none PointerPlace lt address b = sound_breaks_none g image c is.has is.sound PointerPlace address refl b
  breaks_none PointerBlock lt address b = sound_breaks_none g image c is.has is.sound PointerBlock address refl b
  breaks_none SharedBlock lt address b = sound_breaks_none g image c is.has is.sound SharedBlock address refl b
  breaks_none StrayBlock lt address b = sound_breaks_none g image c is.has is.sound StrayBlock address refl b
  breaks_none DirectoryBytes lt address (ino, v, at, dir, never) = no_off_bytes ino address v at dir never
  breaks_none DirectoryEntry lt address (ino, k, e, h, off) = no_off_name ino address k e h off
  breaks_none LostInode lt address (ino, used, at, never) = no_lost ino used never
  breaks_none SlotEntry lt address b = sound_breaks_none g image c is.has is.sound SlotEntry address refl b
  breaks_none LineBytes lt address (n, line, serial, staged, at, never) = (let held = is.lines n line serial staged in never held.0 held.1 held.2)
  breaks_none LastBlock lt address (ino, own, v, at, file, part, lies, never) = never (is.ends ino own address v at file part lies)
  breaks_none Quota lt address (nodes, has, over, at) =
      let same : nodes ≡ c.nodes = one_nodes g limits image c.tables nodes c.nodes has is.has.nodes in
      let charge = is.charge in
      let e : flat_charge nodes ≡ flat_charge c.nodes = ap flat_charge same in
      omega arith
  breaks_none Room lt address b = omega arith

  pub order_none : BreaksNoneBefore g image c.rec c.parts 16
  order_none = λ rule lt address broken. breaks_none rule lt address (broken_over g limits image c.rec c.parts c.tables is.has.tables rule address broken)

  -- CONTENTS IN ORDER KEEP THE RULES
  pub order_keeps : KeepsRules g image
  order_keeps = record {
    rec = c.rec;
    parts = c.parts;
    newest = is.has.newest;
    volumes = is.has.volumes;
    chain = is.has.chain;
    none = order_none;
  }
