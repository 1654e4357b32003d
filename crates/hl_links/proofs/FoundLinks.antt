-- What is found of a path's last name, of the directory in which it stands, and of the node that it names.
use Rattle.std.proofs.Common.{arith, ◌≡◌, ℕ, ◌-◌, ◌<◌, true, false, nat_eq, List, [], length, Option, Some, None, Result, Ok, Err, refl, ap, ◌∙◌, sym, subst, inl, inr}
use Rattle.std.specs.Prelude.{slice_get}
use Rattle.std.specs.FinMap.{get}
use Rattle.std.proofs.lemmas.Bool.Decides.{nat_tests}
use Rattle.std.proofs.lemmas.Bool.{cases_lt}
use Rattle.std.proofs.lemmas.Option.{get_or_from_slice_get, slice_get-get_or, slice_get_within}
use Rattle.hl_media.specs.History.{History, MachineState, state_now}
use Rattle.hl_media.specs.Moments.{Runs}
use Rattle.hl_log.specs.Rest.{IsUnchanged}
use Rattle.hl_inode.specs.declared.inode.Kind.{Kind}
use Rattle.hl_inode.specs.declared.inode.Kind.TheVariants.{Dir, File}
use Rattle.hl_tree.specs.declared.call.Refusal.{Refusal}
use Rattle.hl_tree.specs.Names.{AreNames, is_too_long}
use Rattle.hl_tree.specs.Refusals.{◌>>=◌}
use Rattle.hl_dir.specs.declared.entry.Entry.{Entry}
use Rattle.hl_dir.specs.Dirs.{IsName, dir_bytes}
use Rattle.hl_placed.specs.Blocks.{PlacedFile}
use Rattle.hl_paths.specs.Finding.{Parent, entries_in, find_number, find_parent, front_of, last_name, parent_with}
use Rattle.hl_paths.specs.Numbered.{Directory, Leaf, NumberedNode, Numbering}
use Rattle.hl_paths.proofs.Agreement.{last_is_name}
use Rattle.hl_paths.proofs.Finding.{last_name-push}
use Rattle.hl_paths.proofs.Links.{last_of, none_some}
use Rattle.hl_nodes.specs.Contents.{Contents}
use Rattle.hl_store.specs.declared.answers.Node.{Node}
use Rattle.hl_store.specs.Values.{StoreValue}
use Rattle.hl_store.specs.Finding.{HasNodeFound, OverNow, ReadsNodes}
use Rattle.hl_walk.specs.Trees.{KnowsTree, OfTree}
use Rattle.hl_walk.proofs.KnownTrees.{directory_found, file_found}
use Rattle.hl_walk.proofs.KeptTrees.{of_tree_before}

-- THE LAST NAME OF A PATH
-- a path that has one isn't the root's
pub last_some : (path : List (List ℕ)) (name : List ℕ) → Some name ≡ slice_get path (length path - 1) → 0 < length path
last_some path name is =
    let within = slice_get_within path (length path - 1) name (sym is) in
    omega arith

pub last_apart : (path : List (List ℕ)) (name : List ℕ) → Some name ≡ slice_get path (length path - 1) → nat_eq (length path) 0 ≡ false
last_apart path name is =
    let some = last_some path name is in
    grind (arith, nat_tests)

pub last_is : (path : List (List ℕ)) (name : List ℕ) → Some name ≡ slice_get path (length path - 1) → name ≡ last_name path
last_is path name is = sym (get_or_from_slice_get path (length path - 1) name [] (sym is))

-- one that has none is
pub last_none : (path : List (List ℕ)) → None ≡ slice_get path (length path - 1) → nat_eq (length path) 0 ≡ true
last_none path is = elim (cases_lt 0 (length path)) as (λ _. nat_eq (length path) 0 ≡ true) [
  | inl some ↦ absurd (none_some (is ∙ slice_get-get_or path (length path - 1) [] (omega arith)))
  | inr none ↦ grind (arith, nat_tests)
]

-- it is a name of a directory, where the path isn't too long
pub last_valid : (path : List (List ℕ)) → 0 < length path → AreNames path → is_too_long path ≡ false → IsName (last_name path)
last_valid path some names short = elim (last_of path) as (λ _. IsName (last_name path)) [
  | inl root ↦ absurd (let none : length path ≡ 0 = ap length root in omega arith)
  | inr (front, name, is) ↦
      subst (λ (p : List (List ℕ)). IsName (last_name p)) (sym is)
      (subst IsName (sym (last_name-push front name)) (last_is_name front name (subst AreNames is names) (subst (λ p. is_too_long p ≡ false) is short)))
]

-- THE PARENT that is found is a directory of these entries
pub parent_there : {B : Type 0} (nodes : Numbering B) (path : List (List ℕ)) (number : ℕ) (es : List Entry) → find_parent nodes path ≡ Ok (parent_with number es) → get nodes number ≡ Some (Directory es)
unfolding find_parent
parent_there {B = B} nodes path number es is = by_number (find_number nodes (front_of path)) is
  where
    by_entries : (n : ℕ) (o : Option (NumberedNode B)) → get nodes n ≡ o → (entries_in o >>= (λ fs. Ok (parent_with n fs))) ≡ Ok (parent_with number es) → get nodes number ≡ Some (Directory es)
    by_entries n None at e = cc
    by_entries n (Some (Leaf content)) at e = cc
    by_entries n (Some (Directory fs)) at e =
        let same : parent_with n fs ≡ parent_with number es = cc in
        ap (get nodes) (sym (ap (λ (p : Parent). p.number) same)) ∙ at ∙ ap (λ (p : Parent). Some (Directory p.entries)) same

    by_number : (o : Result ℕ Refusal) → (o >>= (λ n. entries_in (get nodes n) >>= (λ fs. Ok (parent_with n fs)))) ≡ Ok (parent_with number es) → get nodes number ≡ Some (Directory es)
    by_number (Ok n) e = by_entries n (get nodes n) refl e
    by_number (Err why) e = cc

-- A NODE STANDS under a number: a file, or a directory whose entries have so many bytes
abbrev pub Stands : Kind → ℕ → Option (NumberedNode PlacedFile) → Type 0
Stands File size o = (file : PlacedFile) × (o ≡ Some (Leaf file)) × (size ≡ file.size)
Stands Dir size o = (es : List Entry) × (o ≡ Some (Directory es)) × (size ≡ length (dir_bytes es))

module _ {M : Type 0} where
  -- so does one that was found
  pub node_stands : (v : StoreValue M) (c : Contents) (s : MachineState) (numbered : Numbering PlacedFile) → KnowsTree v c numbered → (number : ℕ) (node : Node) → HasNodeFound v number node s c → Stands node.kind node.size (get numbered number)
  node_stands v c s numbered tree number node found = by node.kind refl
    where
      by : (kind : Kind) → node.kind ≡ kind → Stands kind node.size (get numbered number)
      by File is = (let m = file_found v c numbered tree number s node found is in (m.0, m.1, m.2))
      by Dir is = directory_found v c numbered tree number s node found is

  -- and one that was found behind reads stood there before them
  pub stands_before : (history : M → Option History) (old mid : StoreValue M) → ReadsNodes history old mid → Runs (history old.log.machine) (history mid.log.machine) IsUnchanged → (number : ℕ) (node : Node)
      → OverNow history mid (HasNodeFound mid number node) → OfTree history old (λ c numbered. Stands node.kind node.size (get numbered number))
  stands_before history old mid reads run number node found =
      of_tree_before history old mid reads run (λ c numbered. Stands node.kind node.size (get numbered number))
      (λ h told c lies numbered tree. node_stands mid c (state_now h) numbered tree number node (found h told c lies))
