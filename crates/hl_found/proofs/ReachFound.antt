-- What is reached, entry by entry.
use Rattle.std.proofs.Common.{◌≡◌, ◌⊎◌, inl, inr, ⊎_elim, ℕ, ◌+◌, ◌-◌, ◌<◌, ◌≤◌, Bool, true, false, cond, suc, List, [], ◌∷◌, ◌++◌, length, length-append, append_assoc, append-nil, refl, sym, ap, ◌∙◌, subst, arith}
use Rattle.std.specs.Prelude.{Contains, IsTrue, Option, Some, None, IsSome, option_map}
use Rattle.std.specs.FinMap.{get}
use Rattle.std.specs.List.{slice_index_or}
use Rattle.std.proofs.lemmas.List.{get_or_default, get_or_append_left, get_or-append_right}
use Rattle.std.proofs.lemmas.List.Elements.{All-nil, All-cons, All-append, Contains-append_left, Contains-append_right}
use Rattle.hl_dir.specs.declared.entry.Entry.{Entry}
use Rattle.hl_placed.specs.Blocks.{PlacedFile}
use Rattle.hl_paths.specs.Entries.{entry_number}
use Rattle.hl_paths.specs.Links.{resolve, step, same_name}
use Rattle.hl_paths.specs.Numbered.{NumberedNode, Directory, Leaf, Numbering, links, AreLinked}
use Rattle.hl_paths.proofs.Links.{none_some, true_false, name_is, by_last, parent_of, resolve-root, resolve-last, HaveOnePath}
use Rattle.hl_paths.proofs.Nodes.{is_there, directory_of, links-of, linked_by, linked-paths, found-used}
use Rattle.hl_paths.proofs.Entries.{sorted_rows}
use Rattle.hl_paths.proofs.EntriesAt.{entry_number-at}
use Rattle.hl_found.specs.declared.reach.Reached.{Reached}
use Rattle.hl_found.specs.declared.directories.FoundUse.{FoundUse}
use Rattle.hl_found.specs.declared.directories.FoundUse.TheVariants as use_of
use Rattle.hl_found.specs.Directories.{node_use, AreUses, HaveEntries}
use Rattle.hl_found.specs.Reach.{at_path, IsPathTo, IsNumberUsed, AreReached, Extends, HasChildren, ArePlaces, AreClosed, Goes, HasEntriesOf, HasRootEntries, HasNumber, LeadTo}
use Rattle.hl_found.proofs.LiveFound.{last_or_before}

pub extends_same : (old : List Reached) → Extends old old
extends_same old = ([], sym (append-nil old))

pub extends_more : (old mid new : List Reached) → Extends old mid → Extends mid new → Extends old new
extends_more old mid new (a, e) (b, f) = (a ++ b, f ∙ ap (λ (l : List Reached). l ++ b) e ∙ append_assoc old a b)

pub still_there : (old new : List Reached) (x : Reached) → Extends old new → Contains old x → Contains new x
still_there old new x (more, e) has = subst (λ (l : List Reached). Contains l x) (sym e) (Contains-append_left old more x has)

pub last_there : (items : List Reached) (x : Reached) → Contains (items ++ x ∷ []) x
last_there items x = Contains-append_right items (x ∷ []) x (0, omega arith, refl)

-- an item of what was there stays
pub item_stays : (old new : List Reached) (i : ℕ) (d : Reached) → Extends old new → i < length old → slice_index_or new i d ≡ slice_index_or old i d
item_stays old new i d (more, e) lt = ap (λ (l : List Reached). slice_index_or l i d) e ∙ get_or_append_left old more d i lt

pub longer : (old new : List Reached) → Extends old new → length old ≤ length new
longer old new (more, e) = let size = ap length e in let both = length-append old more in omega arith

-- a number of uses is in use where it is one of the numbered nodes
pub use_some : (numbered : Numbering PlacedFile) (uses : List (Option FoundUse)) → AreUses numbered uses → (number : ℕ) → IsSome (slice_index_or uses number None) → IsSome (get numbered number)
use_some numbered uses are number some = by (get numbered number) (subst IsSome (are number) some)
  where
    by : (o : Option (NumberedNode PlacedFile)) → IsSome (option_map node_use o) → IsSome o
    by None some = absurd (true_false (sym some))
    by (Some x) some = some

pub some_use : (numbered : Numbering PlacedFile) (uses : List (Option FoundUse)) → AreUses numbered uses → (number : ℕ) → IsSome (get numbered number) → IsSome (slice_index_or uses number None)
some_use numbered uses are number some = subst IsSome (sym (are number)) (by (get numbered number) some)
  where
    by : (o : Option (NumberedNode PlacedFile)) → IsSome o → IsSome (option_map node_use o)
    by None some = absurd (true_false (sym some))
    by (Some x) some = some

module _ (numbered : Numbering PlacedFile) where
  -- one number more
  pub reached_more : (items : List Reached) (path : List (List ℕ)) (number : ℕ) → AreReached numbered items → resolve (links numbered) path ≡ Some number → IsSome (get numbered number)
      → ((i : ℕ) (d : Reached) → i < length items → (slice_index_or items i d).number ≡ number → ⊥) → AreReached numbered (items ++ at_path path number ∷ [])
  reached_more items path number are leads some fresh = record {
    lead = All-append (IsPathTo numbered) items (at_path path number ∷ []) are.lead (All-cons (IsPathTo numbered) (at_path path number) [] leads (All-nil (IsPathTo numbered)));
    used = All-append (IsNumberUsed numbered) items (at_path path number ∷ []) are.used (All-cons (IsNumberUsed numbered) (at_path path number) [] some (All-nil (IsNumberUsed numbered)));
    once = λ i j d li lj same. by i j d (last_or_before i (length items) (omega (arith, length-append items (at_path path number ∷ [])))) (last_or_before j (length items) (omega (arith, length-append items (at_path path number ∷ [])))) same;
  }
    where
      last : (i : ℕ) (d : Reached) → i ≡ length items → slice_index_or (items ++ at_path path number ∷ []) i d ≡ at_path path number
      last i d e =
          let zero : i - length items ≡ 0 = omega arith in
          get_or-append_right items (at_path path number ∷ []) (length items) i d refl (omega arith) ∙ ap (λ (n : ℕ). slice_index_or (at_path path number ∷ []) n d) zero

      first : (i : ℕ) (d : Reached) → i < length items → slice_index_or (items ++ at_path path number ∷ []) i d ≡ slice_index_or items i d
      first i d lt = get_or_append_left items (at_path path number ∷ []) d i lt

      number_is : {x y : Reached} → x ≡ y → x.number ≡ y.number
      number_is e = ap (λ (r : Reached). r.number) e

      by : (i j : ℕ) (d : Reached) → (i < length items) ⊎ (i ≡ length items) → (j < length items) ⊎ (j ≡ length items)
          → (slice_index_or (items ++ at_path path number ∷ []) i d).number ≡ (slice_index_or (items ++ at_path path number ∷ []) j d).number → i ≡ j
      by i j d (inl li) (inl lj) same = are.once i j d li lj (sym (number_is (first i d li)) ∙ same ∙ number_is (first j d lj))
      by i j d (inl li) (inr ej) same = absurd (fresh i d li (sym (number_is (first i d li)) ∙ same ∙ number_is (last j d ej)))
      by i j d (inr ei) (inl lj) same = absurd (fresh j d lj (sym (number_is (first j d lj)) ∙ sym same ∙ number_is (last i d ei)))
      by i j d (inr ei) (inr ej) same = ei ∙ sym ej

  -- what stands there leads to its number
  pub contains_leads : (items : List Reached) → AreReached numbered items → (path : List (List ℕ)) (number : ℕ) → Contains items (at_path path number) → resolve (links numbered) path ≡ Some number
  contains_leads items are path number (i, lt, is) = subst (IsPathTo numbered) is (are.lead i (at_path path number) lt)

  contains_used : (items : List Reached) → AreReached numbered items → (path : List (List ℕ)) (number : ℕ) → Contains items (at_path path number) → IsSome (get numbered number)
  contains_used items are path number (i, lt, is) = subst (IsNumberUsed numbered) is (are.used i (at_path path number) lt)

  module _ (items : List Reached) (closed : AreClosed numbered items (length items)) where
    -- what a path leads to is there
    pub closed_whole : (path : List (List ℕ)) (number : ℕ) → resolve (links numbered) path ≡ Some number → Contains items (at_path path number)
    closed_whole = by_last (λ path. (number : ℕ) → resolve (links numbered) path ≡ Some number → Contains items (at_path path number))
        (λ number e. (let same : Some 1 ≡ Some number = sym (resolve-root (links numbered)) ∙ e in let one : 1 ≡ number = cc in subst (λ (n : ℕ). Contains items (at_path [] n)) one closed.root))
        (λ front name ih number e.
        let p = parent_of (links numbered) front name number e in
        let at = ih p.0 p.1 in
        subst (λ (r : Reached). HasChildren numbered r items) at.2 (closed.children at.0 (at_path front p.0) at.1) name number p.2)

    pub closed_places : ArePlaces numbered items
    closed_places = record { reached = closed.reached; whole = closed_whole }

    paths : HaveOnePath (links numbered)
    paths path other number e f = by (closed_whole path number e) (closed_whole other number f)
      where
        by : Contains items (at_path path number) → Contains items (at_path other number) → path ≡ other
        by (i, li, ei) (j, lj, ej) =
            let fj = get_or_default items j (at_path path number) (at_path other number) lj ∙ ej in
            let same : i ≡ j = closed.reached.once i j (at_path path number) li lj (ap (λ (r : Reached). r.number) ei ∙ sym (ap (λ (r : Reached). r.number) fj)) in
            ap (λ (r : Reached). r.path) (sym ei ∙ ap (λ (n : ℕ). slice_index_or items n (at_path path number)) same ∙ fj)

    -- numbers that are all reached are linked
    pub closed_linked : HasRootEntries numbered → HaveEntries numbered → ((number : ℕ) → IsSome (get numbered number) → HasNumber number items) → AreLinked numbered
    closed_linked root entries all = linked_by numbered root entries used paths reached
      where
        reached : (number : ℕ) → IsSome (get numbered number) → (path : List (List ℕ)) × (resolve (links numbered) path ≡ Some number)
        reached number some =
            let at = all number some in
            let d = at_path [] number in
            ((slice_index_or items at.0 d).path, closed.reached.lead at.0 d at.1.0 ∙ ap Some (at.1.1 d))

        used : (number : ℕ) (name : List ℕ) (child : ℕ) → links numbered number name ≡ Some child → IsSome (get numbered child)
        used number name child link =
            let at = reached number (is_there _ (directory_of numbered number name child link).1) in
            let e = resolve-last (links numbered) at.0 name ∙ ap (λ (o : Option ℕ). step (links numbered) o name) at.1 ∙ link in
            contains_used items closed.reached (at.0 ++ name ∷ []) child (closed_whole (at.0 ++ name ∷ []) child e)

    -- and where numbers are linked, all are reached
    pub linked_all : AreLinked numbered → (number : ℕ) → IsSome (get numbered number) → HasNumber number items
    linked_all linked number some =
        let at = linked.reached number some in
        let there = closed_whole at.0 number at.1 in
        (there.0, (there.1, λ d. ap (λ (r : Reached). r.number) (get_or_default items there.0 d (at_path at.0 number) there.1 ∙ there.2)))

  -- a number that a path leads to and that isn't in use
  pub unused_unlinked : (path : List (List ℕ)) (number : ℕ) → resolve (links numbered) path ≡ Some number → (IsSome (get numbered number) → ⊥) → AreLinked numbered → ⊥
  unused_unlinked path number e unused linked = unused (found-used numbered linked path number e)

  -- a number to which two paths lead
  pub twice_unlinked : (path other : List (List ℕ)) (number : ℕ) → resolve (links numbered) path ≡ Some number → resolve (links numbered) other ≡ Some number → (path ≡ other → ⊥) → AreLinked numbered → ⊥
  twice_unlinked path other number e f differ linked = differ (linked-paths numbered linked path other number e f)

-- THE STEPS

module _ (numbered : Numbering PlacedFile) where
  -- a number that is reached already: on this path, or on another
  pub found_goes : (old : List Reached) (path : List (List ℕ)) (number i : ℕ) (r : Bool) → AreReached numbered old → resolve (links numbered) path ≡ Some number
      → i < length old → ((d : Reached) → (slice_index_or old i d).number ≡ number) → ((d : Reached) → IsTrue r → (slice_index_or old i d).path ≡ path) → ((d : Reached) → (slice_index_or old i d).path ≡ path → IsTrue r)
      → Goes numbered old old (Contains old (at_path path number)) r
  found_goes old path number i true are leads lt own to back =
      let d = at_path path number in
      let here : slice_index_or old i d ≡ at_path path number = ap (λ (p : List (List ℕ)). record { path = p; number = (slice_index_or old i d).number }) (to d refl) ∙ ap (λ (n : ℕ). record { path = path; number = n }) (own d) in
      (are, extends_same old, (i, lt, here))
  found_goes old path number i false are leads lt own to back = λ linked.
      let d = at_path path number in
      twice_unlinked numbered (slice_index_or old i d).path path number (are.lead i d lt ∙ ap Some (own d)) leads (λ same. (let e = back d same in cc)) linked

  -- a number that wasn't reached before
  pub pushed_goes : (old new : List Reached) (path : List (List ℕ)) (number : ℕ) → new ≡ old ++ at_path path number ∷ [] → AreReached numbered old → resolve (links numbered) path ≡ Some number → IsSome (get numbered number)
      → ((i : ℕ) (d : Reached) → i < length old → (slice_index_or old i d).number ≡ number → ⊥) → Goes numbered old new (Contains new (at_path path number)) true
  pushed_goes old new path number grown are leads some fresh = subst (λ (l : List Reached). Goes numbered old l (Contains l (at_path path number)) true) (sym grown)
      (reached_more numbered old path number are leads some fresh, (at_path path number ∷ [], refl), last_there old (at_path path number))

  -- the entries of a directory, one more
  pub entries_go : (old mid new : List Reached) (path : List (List ℕ)) (es : List Entry) (k : ℕ) (e : Entry) → k < length es → e ≡ slice_index_or es k e → Goes numbered old mid (HasEntriesOf path es k mid) true
      → Goes numbered mid new (Contains new (at_path (path ++ e.name ∷ []) e.ino)) true → Goes numbered old new (HasEntriesOf path es (k + 1) new) true
  entries_go old mid new path es k e lt is a b = (
    b.0,
    extends_more old mid new a.1 b.1,
    λ j d low. ⊎_elim
        (λ less. still_there mid new _ b.1 (a.2 j d less))
        (λ same. subst (λ (n : ℕ). Contains new (at_path (path ++ (slice_index_or es n d).name ∷ []) (slice_index_or es n d).ino)) (sym same)
        (subst (λ (x : Entry). Contains new (at_path (path ++ x.name ∷ []) x.ino)) (is ∙ get_or_default es k e d lt) b.2))
        (last_or_before j k low),
  )

  -- the number of a name is that of an entry
  entry_of_name : (es : List Entry) (name : List ℕ) (y : ℕ) (d : Entry) → entry_number es name ≡ Some y → (k : ℕ) × (k < length es) × ((slice_index_or es k d).name ≡ name) × ((slice_index_or es k d).ino ≡ y)
  entry_of_name [] name y d e = absurd (none_some e)
  entry_of_name (x ∷ es) name y d e = by (same_name name x.name) refl (entry_of_name es name y d)
    where
      by : (b : Bool) → same_name name x.name ≡ b → (entry_number es name ≡ Some y → (k : ℕ) × (k < length es) × ((slice_index_or es k d).name ≡ name) × ((slice_index_or es k d).ino ≡ y))
          → (k : ℕ) × (k < length (x ∷ es)) × ((slice_index_or (x ∷ es) k d).name ≡ name) × ((slice_index_or (x ∷ es) k d).ino ≡ y)
      by true is later =
          let own : Some x.ino ≡ Some y = sym (ap (λ (b : Bool). cond b (Some x.ino) (entry_number es name)) is) ∙ e in
          (0, omega arith, sym (name_is name x.name is), (cc))
      by false is later =
          let rest = later (sym (ap (λ (b : Bool). cond b (Some x.ino) (entry_number es name)) is) ∙ e) in
          let lt = rest.1 in
          (suc rest.0, omega arith, rest.2, rest.3)

  module _ (uses : List (Option FoundUse)) (are : AreUses numbered uses) (entries : HaveEntries numbered) where
    -- the directory of a number with these entries
    pub directory_at : (number : ℕ) (es : List Entry) → slice_index_or uses number None ≡ Some (use_of.Directory es) → get numbered number ≡ Some (Directory es)
    directory_at number es e = by (get numbered number) (sym (are number) ∙ e)
      where
        by : (o : Option (NumberedNode PlacedFile)) → option_map node_use o ≡ Some (use_of.Directory es) → o ≡ Some (Directory es)
        by None f = absurd (none_some f)
        by (Some (Leaf content)) f = absurd (let never : use_of.File ≡ use_of.Directory es = cc in cc)
        by (Some (Directory fs)) f = (let same : use_of.Directory fs ≡ use_of.Directory es = cc in let both : fs ≡ es = cc in ap (λ (l : List Entry). Some (Directory l)) both)

    no_directory : (number : ℕ) → ((es : List Entry) → slice_index_or uses number None ≡ Some (use_of.Directory es) → ⊥) → (name : List ℕ) (child : ℕ) → links numbered number name ≡ Some child → ⊥
    no_directory number none name child link =
        let dir = directory_of numbered number name child link in
        none dir.0 (are number ∙ ap (option_map node_use) dir.1)

    pub names_lead : (path : List (List ℕ)) (number : ℕ) (es : List Entry) → resolve (links numbered) path ≡ Some number → slice_index_or uses number None ≡ Some (use_of.Directory es) → LeadTo numbered path es
    names_lead path number es leads at k d lt =
        let dir = directory_at number es at in
        resolve-last (links numbered) path (slice_index_or es k d).name ∙ ap (λ (o : Option ℕ). step (links numbered) o (slice_index_or es k d).name) leads
        ∙ links-of numbered number (Directory es) (slice_index_or es k d).name dir
        ∙ entry_number-at (slice_index_or es k d).name es k d (sorted_rows es (entries number es dir).1.1) lt refl

    -- all entries of a directory are its children
    pub children_go : (old new : List Reached) (e : Reached) (es : List Entry) (r : Bool) → slice_index_or uses e.number None ≡ Some (use_of.Directory es) → Goes numbered old new (HasEntriesOf e.path es (length es) new) r → Goes numbered old new (HasChildren numbered e new) r
    children_go old new e es false at goes = goes
    children_go old new e es true at goes = (
      goes.0,
      goes.1,
      λ name child link.
          let number : entry_number es name ≡ Some child = sym (links-of numbered e.number (Directory es) name (directory_at e.number es at)) ∙ link in
          let d : Entry = record { ino = 0; name = [] } in
          let k = entry_of_name es name child d number in
          subst (λ (n : ℕ). Contains new (at_path (e.path ++ name ∷ []) n)) k.3 (subst (λ (n : List ℕ). Contains new (at_path (e.path ++ n ∷ []) (slice_index_or es k.0 d).ino)) k.2 (goes.2 k.0 d k.1)),
    )

    pub no_children : (old : List Reached) (e : Reached) → AreReached numbered old → ((es : List Entry) → slice_index_or uses e.number None ≡ Some (use_of.Directory es) → ⊥) → Goes numbered old old (HasChildren numbered e old) true
    no_children old e reached none = (reached, extends_same old, λ name child link. absurd (no_directory e.number none name child link))

  -- one more of what is reached has its children
  pub closed_more : (mid new : List Reached) (at : ℕ) → at < length mid → AreClosed numbered mid at → ((d : Reached) → Goes numbered mid new (HasChildren numbered (slice_index_or mid at d) new) true) → AreClosed numbered new (at + 1)
  closed_more mid new at lt closed goes =
      let g0 = goes (at_path [] 1) in
      record {
        reached = g0.0;
        root = still_there mid new (at_path [] 1) g0.1 closed.root;
        children = λ i d low. ⊎_elim
            (λ less name child link. (let stays = item_stays mid new i d g0.1 (omega arith) in
            subst (λ (x : Reached). Contains new (at_path (x.path ++ name ∷ []) child)) (sym stays)
            (still_there mid new _ g0.1 (closed.children i d less name child (subst (λ (x : Reached). links numbered x.number name ≡ Some child) stays link)))))
            (λ same. subst (λ (n : ℕ). HasChildren numbered (slice_index_or new n d) new) (sym same) (subst (λ (x : Reached). HasChildren numbered x new) (sym (item_stays mid new at d g0.1 lt)) (goes d).2))
            (last_or_before i at low);
      }

  -- the root alone
  pub root_reached : HasRootEntries numbered → AreReached numbered (at_path [] 1 ∷ [])
  root_reached root = reached_more numbered [] [] 1 none (resolve-root (links numbered)) (is_there _ root.1) (λ i d lt. absurd (omega arith))
    where
      none : AreReached numbered []
      none = record { lead = All-nil (IsPathTo numbered); used = All-nil (IsNumberUsed numbered); once = λ i j d li lj same. absurd (omega arith) }
