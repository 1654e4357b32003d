-- Directories that were found, and what each number is used for.
use Rattle.std.specs.FinMap.{get}
use Rattle.std.proofs.Common.{◌≡◌, ⊎_elim, ℕ, ◌<◌, ◌≤◌, true, List, length, refl, sym, ap, ◌∙◌, subst, arith}
use Rattle.std.specs.Prelude.{Option, Some, None, option_map}
use Rattle.std.specs.List.{slice_index_or}
use Rattle.std.proofs.lemmas.Bool.{cases_lt}
use Rattle.std.proofs.lemmas.List.{get_or_past}
use Rattle.std.proofs.lemmas.List.FromFn.{get_or-map-range_with_len, length-map-range_with_len}
use Rattle.hl_dir.specs.declared.entry.Entry.{Entry}
use Rattle.hl_dir.specs.Dirs.{AreEntries, Spells, dir_bytes}
use Rattle.hl_inode.specs.declared.inode.Kind.{Kind}
use Rattle.hl_inode.specs.declared.inode.Kind.TheVariants as kinds
use Rattle.hl_placed.specs.Blocks.{Away, Block, Here, Hole, IsPlacedFile, PlacedFile, blocks_of, file_block, is_here, no_shelf, padded_block, plain_bytes}
use Rattle.hl_placed.specs.Placed.{PlacedTree}
use Rattle.hl_placed.proofs.Blocks.{length-padded_block}
use Rattle.hl_paths.specs.Numbered.{NumberedNode, Directory, Leaf}
use Rattle.hl_paths.specs.Nodes.{FlatNode, Nodes, HasTree, directory_content, flat_node}
use Rattle.hl_paths.proofs.DirectoryContent.{IsPlacedFile-directory, Spells-directory, directory_content-only}
use Rattle.hl_paths.proofs.Links.{none_some}
use Rattle.hl_nodes.specs.Files.{EndsInZeros}
use Rattle.hl_nodes.specs.declared.found.FoundNode.{FoundNode}
use Rattle.hl_nodes.specs.Found.{node_found, nodes_found}
use Rattle.hl_nodes.proofs.Choosing.{HasChosen, choose}
use Rattle.hl_nodes.proofs.FoundNodes.{get-nodes_found}
use Rattle.hl_found.specs.declared.directories.FoundUse.{FoundUse}
use Rattle.hl_found.specs.declared.directories.FoundUse.TheVariants as use_of
use Rattle.hl_found.specs.Directories.{IsWhole, IsResident, IsDirectoryOf, IsUseAt, HasUses, node_use}
use Rattle.hl_found.specs.Reach.{HaveNames}
use Rattle.hl_found.proofs.ReachFound.{directory_at}

module _ (content : PlacedFile) (es : List Entry) where
  whole_size : (b : Block) (bytes : List ℕ) → IsWhole b → b ≡ Here bytes → length bytes ≡ 4096
  whole_size Hole bytes whole e = absurd whole
  whole_size (Here own) bytes whole e = let same : own ≡ bytes = cc in subst (λ (l : List ℕ). length l ≡ 4096) same whole
  whole_size (Away serial position) bytes whole e = absurd whole

  whole_here : (b : Block) → IsWhole b → is_here b ≡ true
  whole_here Hole whole = absurd whole
  whole_here (Here own) whole = refl
  whole_here (Away serial position) whole = absurd whole

  -- a resident file of bytes that are entries is a directory
  pub directory_found : IsResident content → EndsInZeros no_shelf content → content.used ≡ 0 → Spells (plain_bytes no_shelf content) es → IsDirectoryOf content es
  directory_found resident zeros unused spells = (spells.value, directory_content-only no_shelf content es placed (λ i lt. whole_here (file_block content i) (resident.whole i lt)) spells.spelled unused)
    where
      placed : IsPlacedFile no_shelf content
      placed = record {
        count = resident.count;
        full = λ i bytes e. ⊎_elim (λ lt. whole_size (file_block content i) bytes (resident.whole i lt) e)
            (λ ge. absurd (let past = get_or_past content.blocks i Hole ge in let never : Hole ≡ Here bytes = sym past ∙ e in cc)) (cases_lt i (length content.blocks));
        zeros = zeros;
      }

-- and a directory is one
module _ (es : List Entry) (are : AreEntries es) where
  pub unused_directory : (directory_content es).used ≡ 0
  unfolding directory_content
  unused_directory = refl

  block_is : (i : ℕ) → i < length (directory_content es).blocks → file_block (directory_content es) i ≡ Here (padded_block (dir_bytes es) i)
  unfolding directory_content
  block_is i lt =
      let size = length-map-range_with_len (λ i. Here (padded_block (dir_bytes es) i)) 0 (blocks_of (length (dir_bytes es))) in
      get_or-map-range_with_len (λ i. Here (padded_block (dir_bytes es) i)) 0 (blocks_of (length (dir_bytes es))) i i Hole (omega arith) (omega arith)

  pub resident_directory : IsResident (directory_content es)
  resident_directory = record {
    count = (IsPlacedFile-directory no_shelf es).count;
    whole = λ i lt. subst IsWhole (sym (block_is i lt)) (length-padded_block (dir_bytes es) i);
  }

  pub zeros_directory : EndsInZeros no_shelf (directory_content es)
  zeros_directory = (IsPlacedFile-directory no_shelf es).zeros

  pub spells_directory : Spells (plain_bytes no_shelf (directory_content es)) es
  spells_directory = Spells-directory no_shelf es are

-- WHAT NUMBERS ARE USED FOR

-- each numbered node has a use
use_there : (o : Option (NumberedNode PlacedFile)) → ((es : List Entry) → o ≡ Some (Directory es) → AreEntries es) → IsUseAt (option_map flat_node o) (option_map node_use o)
use_there None entries = tt
use_there (Some (Leaf content)) entries = refl
use_there (Some (Directory es)) entries = (refl, (entries es refl, refl))

-- and each use has a numbered node
node_there : (node : Option FlatNode) (u : Option FoundUse) → IsUseAt node u → (o : Option (NumberedNode PlacedFile)) × (node ≡ option_map flat_node o) × (u ≡ option_map node_use o) × ((es : List Entry) → o ≡ Some (Directory es) → AreEntries es)
node_there None None is = (None, refl, refl, λ es e. absurd (none_some e))
node_there None (Some u) is = absurd is
node_there (Some node) None is = absurd is
node_there (Some node) (Some use_of.File) is = (Some (Leaf node.content), ap (λ (k : Kind). Some (record { kind = k; content = node.content })) is, refl, λ es e. absurd (let never : ◌≡◌ {A = NumberedNode PlacedFile} (Leaf node.content) (Directory es) = cc in cc))
node_there (Some node) (Some (use_of.Directory fs)) (dir, (are, same)) = (
  Some (Directory fs),
  ap (λ (k : Kind). Some (record { kind = k; content = node.content })) dir ∙ ap (λ (c : PlacedFile). Some (record { kind = kinds.Dir; content = c })) same,
  refl,
  λ es e. (let both : ◌≡◌ {A = NumberedNode PlacedFile} (Directory fs) (Directory es) = cc in let one : fs ≡ es = cc in subst AreEntries one are),
)

module _ (found : List (Option FoundNode)) (uses : List (Option FoundUse)) (size : length uses ≡ length found) (each : (i : ℕ) → i < length found → IsUseAt (option_map node_found (slice_index_or found i None)) (slice_index_or uses i None)) where
  abbrev P : ℕ → Option (NumberedNode PlacedFile) → Type 0
  P i o = (get (nodes_found found) i ≡ option_map flat_node o) × (slice_index_or uses i None ≡ option_map node_use o) × ((es : List Entry) → o ≡ Some (Directory es) → AreEntries es)

  choice : (i : ℕ) → i < length found → (o : Option (NumberedNode PlacedFile)) × P i o
  choice i lt = let x = node_there (option_map node_found (slice_index_or found i None)) (slice_index_or uses i None) (each i lt) in (x.0, (get-nodes_found found i ∙ x.1, x.2, x.3))

  chosen : HasChosen P (length found)
  chosen = choose P (length found) choice

  past : (i : ℕ) → length found ≤ i → P i None
  past i ge = (get-nodes_found found i ∙ ap (option_map node_found) (get_or_past found i None ge), get_or_past uses i None (omega (arith, size)), λ es e. absurd (none_some e))

  at : (i : ℕ) → P i (get chosen.chosen i)
  at i = ⊎_elim (λ lt. chosen.each i lt) (λ ge. subst (P i) (sym (chosen.past i ge)) (past i ge)) (cases_lt i (length found))

  pub uses_made : HasUses (nodes_found found) uses
  uses_made = record { numbered = chosen.chosen; spelled = λ i. (at i).0; are = λ i. (at i).1; entries = λ i es e. (at i).2 es e }

module _ (found : List (Option FoundNode)) where
  -- a tree has a use for each number
  pub uses_lost : (placed : PlacedTree) → HasTree (nodes_found found) placed → (i : ℕ) → (u : Option FoundUse) × IsUseAt (option_map node_found (slice_index_or found i None)) u
  uses_lost placed has i = (option_map node_use (get has.numbered i), subst (λ (n : Option FlatNode). IsUseAt n (option_map node_use (get has.numbered i))) (sym (has.spelled i) ∙ get-nodes_found found i) (use_there (get has.numbered i) (λ es e. has.tree.linked.entries i es e)))

pub have_names : (nodes : Nodes) (uses : List (Option FoundUse)) → HasUses nodes uses → HaveNames uses
have_names nodes uses has i es e = (has.entries i es (directory_at has.numbered uses has.are has.entries i es e)).1.0
