-- Numbered nodes: their links once a node is put or taken away, and what tells that they are linked.
use Rattle.std.proofs.Common.{◌≡◌, ℕ, Bool, true, false, ◌&&◌, cond, List, ◌∷◌, Option, Some, None, is_some, IsSome, inl, inr, refl, ap, ◌∙◌, sym, subst}
use Rattle.std.specs.Option.{option_map}
use Rattle.std.specs.Ordering.{is_eq}
use Rattle.std.specs.Cmp.{nat_cmp_total, tied_itself}
use Rattle.std.specs.FinMap.{get, insert, remove, get-insert, get-remove}
use Rattle.hl_tree.proofs.Maps.{path_total}
use Rattle.hl_tree.proofs.Moved.{Names, same, same_is}
use Rattle.hl_dir.specs.declared.entry.Entry.{Entry}
use Rattle.hl_dir.specs.Dirs.{AreEntries}
use Rattle.hl_paths.specs.Links.{resolve, follow, relinked, same_name, same_number}
use Rattle.hl_paths.specs.Entries.{entry_number, AreWith}
use Rattle.hl_paths.specs.Numbered.{NumberedNode, Directory, Leaf, Numbering, number_in, links, AreLinked, without_number, tree_node, found_node}
use Rattle.hl_paths.proofs.Links.{none_some, true_false, last_of, follow-none, resolve-root, parent_of, HaveOnePath, one_path, not_root, named_once}
use Rattle.hl_paths.proofs.Relinks.{number_is, number_itself, number_other}

pub some_of : {A : Type 0} (o : Option A) → IsSome o → (x : A) × (o ≡ Some x)
some_of None e = absurd (true_false (sym e))
some_of (Some x) e = (x, refl)

pub is_there : {A : Type 0} {o : Option A} (x : A) → o ≡ Some x → IsSome o
is_there x e = ap is_some e

pub path_itself : (path : Names) → same path path ≡ true
path_itself path = ap is_eq (tied_itself path_total path)

pub path_differs : (one other : Names) → same one other ≡ false → one ≡ other → ⊥
path_differs one other e is = true_false (sym (path_itself one) ∙ ap (same one) is ∙ e)

pub path_other : (one other : Names) → (one ≡ other → ⊥) → same one other ≡ false
path_other one other differ = elim (same one other) as (λ b. same one other ≡ b → b ≡ false) [ true ↦ λ e. absurd (differ (same_is one other e)) | false ↦ λ e. refl ] refl

module _ {B : Type 0} (nodes : Numbering B) where
  -- only a directory has links
  pub directory_of : (number : ℕ) (name : List ℕ) (child : ℕ) → links nodes number name ≡ Some child → (es : List Entry) × (get nodes number ≡ Some (Directory es)) × (entry_number es name ≡ Some child)
  unfolding links
  directory_of number name child led = by_node (get nodes number) refl led
    where
      by_node : (o : Option (NumberedNode B)) → get nodes number ≡ o → number_in o name ≡ Some child → (es : List Entry) × (get nodes number ≡ Some (Directory es)) × (entry_number es name ≡ Some child)
      by_node None there e = absurd (none_some e)
      by_node (Some (Leaf content)) there e = absurd (none_some e)
      by_node (Some (Directory es)) there e = (es, there, e)

  pub links-of : (number : ℕ) (node : NumberedNode B) (name : List ℕ) → get nodes number ≡ Some node → links nodes number name ≡ number_in (Some node) name
  unfolding links
  links-of number node name there = ap (λ o. number_in o name) there

  pub links-none : (number : ℕ) (name : List ℕ) → get nodes number ≡ None → links nodes number name ≡ None
  unfolding links
  links-none number name there = ap (λ o. number_in o name) there

  module _ (number : ℕ) (node : NumberedNode B) (other : ℕ) (named : List ℕ) where
    on_insert : (b : Bool) → number_in (cond b (Some node) (get nodes other)) named ≡ cond b (number_in (Some node) named) (number_in (get nodes other) named)
    on_insert true = refl
    on_insert false = refl

    pub links-insert : links (insert nodes number node) other named ≡ cond (same_number other number) (number_in (Some node) named) (links nodes other named)
    unfolding links
    links-insert = ap (λ o. number_in o named) (get-insert nat_cmp_total nodes number node other) ∙ on_insert (same_number other number)

  module _ (number other : ℕ) (named : List ℕ) where
    on_remove : (b : Bool) → number_in (cond b None (get nodes other)) named ≡ cond b None (number_in (get nodes other) named)
    on_remove true = refl
    on_remove false = refl

    pub links-remove : links (remove nodes number) other named ≡ cond (same_number other number) None (links nodes other named)
    unfolding links
    links-remove = ap (λ o. number_in o named) (get-remove nat_cmp_total nodes number other) ∙ on_remove (same_number other number)

  -- a directory's other entries are other links
  module _ (number : ℕ) (old new : List Entry) (name : List ℕ) (to : Option ℕ) (there : get nodes number ≡ Some (Directory old)) (with : AreWith old name to new) where
    at_link : (other : ℕ) (named : List ℕ) (b : Bool) → same_number other number ≡ b → cond b (entry_number new named) (links nodes other named) ≡ cond (b && same_name named name) to (links nodes other named)
    at_link other named true e = with.numbers named
        ∙ ap (cond (same_name named name) to) (sym (ap (λ n. links nodes n named) (number_is other number e) ∙ links-of number (Directory old) named there))
    at_link other named false e = refl

    pub links-relinked : links (insert nodes number (Directory new)) ≡ relinked (links nodes) number name to
    unfolding relinked
    links-relinked = λ i other named. (links-insert number (Directory new) other named ∙ at_link other named (same_number other number) refl) i

  module _ (number : ℕ) (node : NumberedNode B) where
    pub get-put_here : get (insert nodes number node) number ≡ Some node
    get-put_here = get-insert nat_cmp_total nodes number node number ∙ ap (λ b. cond b (Some node) (get nodes number)) (number_itself number)

    pub get-put_other : (other : ℕ) → (other ≡ number → ⊥) → get (insert nodes number node) other ≡ get nodes other
    get-put_other other differ = get-insert nat_cmp_total nodes number node other ∙ ap (λ b. cond b (Some node) (get nodes other)) (number_other other number differ)

    -- a node stands here, or the other stood there before
    pub put-cases : (P : Type 0) (other : ℕ) (found : NumberedNode B) → get (insert nodes number node) other ≡ Some found → (other ≡ number → node ≡ found → P) → ((other ≡ number → ⊥) → get nodes other ≡ Some found → P) → P
    put-cases P other found there here elsewhere = elim (same_number other number) as (λ b. same_number other number ≡ b → cond b (Some node) (get nodes other) ≡ Some found → P) [
      | true ↦ λ e f. here (number_is other number e) cc
      | false ↦ λ e f. elsewhere (λ same. true_false (sym (number_itself number) ∙ ap (λ n. same_number n number) (sym same) ∙ e)) f
    ] refl (sym (get-insert nat_cmp_total nodes number node other) ∙ there)

    pub put-there : (other : ℕ) → IsSome (get nodes other) → IsSome (get (insert nodes number node) other)
    put-there other there = elim (same_number other number) as (λ b. same_number other number ≡ b → IsSome (get (insert nodes number node) other)) [
      | true ↦ λ e. is_there node (ap (get (insert nodes number node)) (number_is other number e) ∙ get-put_here)
      | false ↦ λ e. ap is_some (get-insert nat_cmp_total nodes number node other ∙ ap (λ b. cond b (Some node) (get nodes other)) e) ∙ there
    ] refl

  -- a directory with other entries is a directory still
  module _ (number : ℕ) (old new : List Entry) (there : get nodes number ≡ Some (Directory old)) where
    pub relinked-was : (other : ℕ) (found : NumberedNode B) → get (insert nodes number (Directory new)) other ≡ Some found → IsSome (get nodes other)
    relinked-was other found e = put-cases number (Directory new) (IsSome (get nodes other)) other found e (λ same f. is_there (Directory old) (ap (get nodes) same ∙ there)) (λ differ f. is_there found f)

    pub found_node-relinked : (o : Option ℕ) → found_node (insert nodes number (Directory new)) o ≡ found_node nodes o
    found_node-relinked None = refl
    found_node-relinked (Some other) = elim (same_number other number) as (λ b. same_number other number ≡ b → option_map tree_node (get (insert nodes number (Directory new)) other) ≡ option_map tree_node (get nodes other)) [
      | true ↦ λ e. ap (option_map tree_node) (ap (get (insert nodes number (Directory new))) (number_is other number e) ∙ get-put_here number (Directory new)) ∙ sym (ap (option_map tree_node) (ap (get nodes) (number_is other number e) ∙ there))
      | false ↦ λ e. ap (option_map tree_node) (get-put_other number (Directory new) other (λ f. true_false (sym (number_itself number) ∙ ap (λ n. same_number n number) (sym f) ∙ e)))
    ] refl

    pub root-relinked : ((es : List Entry) × (get nodes 1 ≡ Some (Directory es))) → (es : List Entry) × (get (insert nodes number (Directory new)) 1 ≡ Some (Directory es))
    root-relinked root = elim (same_number 1 number) as (λ b. same_number 1 number ≡ b → (es : List Entry) × (get (insert nodes number (Directory new)) 1 ≡ Some (Directory es))) [
      | true ↦ λ e. (new, ap (get (insert nodes number (Directory new))) (number_is 1 number e) ∙ get-put_here number (Directory new))
      | false ↦ λ e. (root.0, get-put_other number (Directory new) 1 (λ f. true_false (sym (number_itself number) ∙ ap (λ n. same_number n number) (sym f) ∙ e)) ∙ root.1)
    ] refl

    pub entries-relinked : AreEntries new → ((other : ℕ) (es : List Entry) → get nodes other ≡ Some (Directory es) → AreEntries es) → (other : ℕ) (es : List Entry) → get (insert nodes number (Directory new)) other ≡ Some (Directory es) → AreEntries es
    entries-relinked are were other es e = put-cases number (Directory new) (AreEntries es) other (Directory es) e (λ same f. let one : new ≡ es = cc in subst AreEntries one are) (λ differ f. were other es f)

  module _ (number : ℕ) where
    pub get-gone_here : get (remove nodes number) number ≡ None
    get-gone_here = get-remove nat_cmp_total nodes number number ∙ ap (λ b. cond b None (get nodes number)) (number_itself number)

    pub get-gone_other : (other : ℕ) → (other ≡ number → ⊥) → get (remove nodes number) other ≡ get nodes other
    get-gone_other other differ = get-remove nat_cmp_total nodes number other ∙ ap (λ b. cond b None (get nodes other)) (number_other other number differ)

    pub gone-cases : (other : ℕ) (found : NumberedNode B) → get (remove nodes number) other ≡ Some found → (other ≡ number → ⊥) × (get nodes other ≡ Some found)
    gone-cases other found there = elim (same_number other number) as (λ b. same_number other number ≡ b → cond b None (get nodes other) ≡ Some found → (other ≡ number → ⊥) × (get nodes other ≡ Some found)) [
      | true ↦ λ e f. absurd (none_some f)
      | false ↦ λ e f. ((λ same. true_false (sym (number_itself number) ∙ ap (λ n. same_number n number) (sym same) ∙ e)), f)
    ] refl (sym (get-remove nat_cmp_total nodes number other) ∙ there)

  module _ (target : Option ℕ) where
    pub get-without : (other : ℕ) → (target ≡ Some other → ⊥) → get (without_number target nodes) other ≡ get nodes other
    get-without other differ = by_target target differ
      where
        by_target : (o : Option ℕ) → (o ≡ Some other → ⊥) → get (without_number o nodes) other ≡ get nodes other
        by_target None differ = refl
        by_target (Some number) differ = get-gone_other number other (λ e. differ (ap Some (sym e)))

    pub without-cases : (other : ℕ) (found : NumberedNode B) → get (without_number target nodes) other ≡ Some found → (target ≡ Some other → ⊥) × (get nodes other ≡ Some found)
    without-cases other found there = by_target target there
      where
        by_target : (o : Option ℕ) → get (without_number o nodes) other ≡ Some found → (o ≡ Some other → ⊥) × (get nodes other ≡ Some found)
        by_target None e = ((λ f. none_some f), e)
        by_target (Some number) e = let kept = gone-cases number other found e in ((λ f. let same : number ≡ other = cc in kept.0 (sym same)), kept.1)

    -- a number without links is no loss to the links
    pub links-without : ((number : ℕ) → target ≡ Some number → (named : List ℕ) → links nodes number named ≡ None) → links (without_number target nodes) ≡ links nodes
    links-without none = by_target target none
      where
        at_number : (number other : ℕ) (named : List ℕ) → ((named : List ℕ) → links nodes number named ≡ None) → (b : Bool) → same_number other number ≡ b → cond b None (links nodes other named) ≡ links nodes other named
        at_number number other named none true e = sym (ap (λ n. links nodes n named) (number_is other number e) ∙ none named)
        at_number number other named none false e = refl

        by_target : (o : Option ℕ) → ((number : ℕ) → o ≡ Some number → (named : List ℕ) → links nodes number named ≡ None) → links (without_number o nodes) ≡ links nodes
        by_target None none = refl
        by_target (Some number) none = λ i other named. (links-remove number other named ∙ at_number number other named (none number refl) (same_number other number) refl) i

  abbrev pub HasRoot : Type 0
  HasRoot = (es : List Entry) × (get nodes 1 ≡ Some (Directory es))

  abbrev pub HaveEntries : Type 0
  HaveEntries = (number : ℕ) (es : List Entry) → get nodes number ≡ Some (Directory es) → AreEntries es

  abbrev pub AreUsed : Type 0
  AreUsed = (number : ℕ) (name : List ℕ) (child : ℕ) → links nodes number name ≡ Some child → IsSome (get nodes child)

  abbrev pub AreReached : Type 0
  AreReached = (number : ℕ) → IsSome (get nodes number) → (path : Names) × (resolve (links nodes) path ≡ Some number)

  -- numbers that are all reached, each by one path, are linked
  pub linked_by : HasRoot → HaveEntries → AreUsed → HaveOnePath (links nodes) → AreReached → AreLinked nodes
  linked_by root entries used paths reached = record {
    root = root;
    entries = entries;
    used = used;
    below_root = λ number name child led.
        let at = reached number (is_there _ (directory_of number name child led).1) in
        not_root (links nodes) paths at.0 number name child at.1 led;
    once = λ one other name named child led led_other.
        let at = reached one (is_there _ (directory_of one name child led).1) in
        let at_other = reached other (is_there _ (directory_of other named child led_other).1) in
        named_once (links nodes) paths at.0 at_other.0 one other name named child at.1 at_other.1 led led_other;
    reached = reached;
  }

  pub linked-paths : AreLinked nodes → HaveOnePath (links nodes)
  linked-paths linked = one_path (links nodes) linked.below_root linked.once

  -- what is found at a path is in use
  pub found-used : AreLinked nodes → (path : Names) (number : ℕ) → resolve (links nodes) path ≡ Some number → IsSome (get nodes number)
  found-used linked path number at = elim (last_of path) as (λ _. IsSome (get nodes number)) [
    | inl root ↦
        let first : Some 1 ≡ Some number = sym (resolve-root (links nodes)) ∙ ap (resolve (links nodes)) (sym root) ∙ at in
        let one : 1 ≡ number = cc in
        is_there _ (ap (get nodes) (sym one) ∙ linked.root.1)
    | inr (front, name, is) ↦
        let parent = parent_of (links nodes) front name number (ap (resolve (links nodes)) (sym is) ∙ at) in
        linked.used parent.0 name number parent.2
  ]

  -- a path to a file or to an empty directory leads no further
  pub leads_nowhere : (number : ℕ) → ((name : List ℕ) → links nodes number name ≡ None) → (rest : Names) (name : List ℕ) → follow (links nodes) (Some number) (name ∷ rest) ≡ None
  leads_nowhere number none rest name = ap (λ o. follow (links nodes) o rest) (none name) ∙ follow-none (links nodes) rest
