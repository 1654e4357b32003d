-- The names in a directory are told by look-ups, and the count of nodes by a list of paths.
use Rattle.std.proofs.Common.{arith, ◌≡◌, ℕ, ◌+◌, Bool, true, false, cond, T, ◌&&◌, List, [], ◌∷◌, ◌++◌, length, map, Option, Some, None, is_some, unwrap_or, ◌||◌, refl, ap, ◌∙◌, sym, subst}
use Rattle.std.specs.List.{cons_option, list_any}
use Rattle.std.specs.Ordering.{eq_by_cmp, is_eq, is_lt, ordering_then}
use Rattle.std.specs.declared.cmp.Ordering.{Ordering}
use Rattle.std.specs.declared.cmp.Ordering.TheVariants.{Less, Equal, Greater}
use Rattle.std.specs.FinMap.{get, entries, entries_sorted, get-entries, from_entries, len, len-insert, len-empty, get-from_entries}
use Rattle.std.specs.FinMap.Entries.{find, is_sorted, below_all, same_entries}
use Rattle.std.specs.Cmp.Lexicographic.{nat_list_cmp_total}
use Rattle.hl_tree.specs.declared.node.Node.{Node}
use Rattle.hl_tree.specs.Names.{path_cmp, below, only_name, children}
use Rattle.hl_tree.specs.Tree.{Tree, names_in}
use Rattle.hl_tree.proofs.Maps.{path_total}
use Rattle.hl_tree.proofs.NamesBelow.{name_cmp, name_exact, append-below}
use Rattle.hl_tree_laws.proofs.Lookups.{same_tree}
use Rattle.hl_tree.proofs.Moved.{below-append, path_cmp-append}
use Rattle.hl_tree_laws.proofs.Moved.{apart}

abbrev Paths : Type 0
Paths = List (List ℕ)

abbrev unit_at : List ℕ → List ℕ × Unit {0}
unit_at name = (name, tt)

abbrev pub as_entries : Paths → List (List ℕ × Unit {0})
as_entries names = map unit_at names

abbrev pub contains_name : Paths → List ℕ → Bool
contains_name names name = list_any (eq_by_cmp name_cmp name) names

-- names that rise
abbrev pub names_rise : Paths → Bool
names_rise names = is_sorted name_cmp (as_entries names)

found_by : (b : Bool) (o : Option (Unit {0})) → is_some (cond b (Some tt) o) ≡ (b || is_some o)
found_by true o = refl
found_by false o = refl

is_some-find_name : (names : Paths) (name : List ℕ) → is_some (find name_cmp name (as_entries names)) ≡ contains_name names name
is_some-find_name [] name = refl
is_some-find_name (x ∷ names) name = found_by (eq_by_cmp name_cmp name x) (find name_cmp name (as_entries names)) ∙ ap (λ b. eq_by_cmp name_cmp name x || b) (is_some-find_name names name)

one_unit : (o p : Option (Unit {0})) → is_some o ≡ is_some p → o ≡ p
one_unit None None e = refl
one_unit (Some a) (Some b) e = refl
one_unit None (Some b) e = absurd (subst T (sym e) tt)
one_unit (Some a) None e = absurd (subst T e tt)

names_of_entries : Paths → List (List ℕ × Unit {0}) → Paths
names_of_entries d es = map (λ e. e.0) es

first_names : (names : Paths) → map (λ e. e.0) (as_entries names) ≡ names
first_names [] = refl
first_names (x ∷ names) = ap (λ rest. x ∷ rest) (first_names names)

-- names that rise are told by which names are among them
pub same_names : (xs ys : Paths) → T (names_rise xs) → T (names_rise ys) → ((name : List ℕ) → contains_name xs name ≡ contains_name ys name) → xs ≡ ys
same_names xs ys xs_rise ys_rise same =
    sym (first_names xs)
    ∙ ap (map (λ e. e.0)) (same_entries name_cmp nat_list_cmp_total name_exact (as_entries xs) (as_entries ys) xs_rise ys_rise
    (λ name. one_unit _ _ (is_some-find_name xs name ∙ same name ∙ sym (is_some-find_name ys name))))
    ∙ first_names ys

-- a child of a path by its name
only_name-child : (o : Option Paths) (name : List ℕ) → only_name o ≡ Some name → o ≡ Some (name ∷ [])
only_name-child None name e = absurd (subst T (sym (ap is_some e)) tt)
only_name-child (Some []) name e = absurd (subst T (sym (ap is_some e)) tt)
only_name-child (Some (x ∷ [])) name e = ap (λ o. Some (unwrap_or o x ∷ [])) e
only_name-child (Some (x ∷ y ∷ ys)) name e = absurd (subst T (sym (ap is_some e)) tt)

is_child : Paths → Paths → Bool
is_child path other = is_some (only_name (below path other))

module _ {X : Type 0} (path : Paths) (name : List ℕ) where
  child_here : (e : Paths × X) (o : Option (List ℕ)) → only_name (below path e.0) ≡ o → (rest : Paths) → contains_name (cons_option o rest) name ≡ (eq_by_cmp path_cmp (path ++ name ∷ []) e.0 || contains_name rest name)
  unfolding is_child
  child_here e (Some x) h rest =
      let is : path ++ x ∷ [] ≡ e.0 = append-below path e.0 (x ∷ []) (only_name-child (below path e.0) x h) in
      ap (λ b. b || contains_name rest name) (sym (ap (λ p. eq_by_cmp path_cmp (path ++ name ∷ []) p) (sym is) ∙ ap is_eq (path_cmp-append path (name ∷ []) (x ∷ [])) ∙ alone (name_cmp name x)))
    where
      alone : (o : Ordering) → is_eq (ordering_then o Equal) ≡ is_eq o
      alone Less = refl
      alone Equal = refl
      alone Greater = refl
  child_here e None h rest =
      ap (λ b. b || contains_name rest name) (sym (apart (is_child path) (path ++ name ∷ []) e.0 (ap (λ o. is_some (only_name o)) (below-append path (name ∷ []))) (ap is_some h)))

  contains_name-children : (es : List (Paths × X)) → contains_name (children path (map (λ e. e.0) es)) name ≡ is_some (find path_cmp (path ++ name ∷ []) es)
  contains_name-children [] = refl
  contains_name-children (e ∷ es) =
      child_here e (only_name (below path e.0)) refl (children path (map (λ e. e.0) es))
      ∙ ap (λ b. eq_by_cmp path_cmp (path ++ name ∷ []) e.0 || b) (contains_name-children es)
      ∙ sym (found (eq_by_cmp path_cmp (path ++ name ∷ []) e.0) e.1 (find path_cmp (path ++ name ∷ []) es))
    where
      found : (b : Bool) (x : X) (o : Option X) → is_some (cond b (Some x) o) ≡ (b || is_some o)
      found true x o = refl
      found false x o = refl

-- a name is in a directory exactly where a node is at it
pub contains-names_in : {B : Type 0} (t : Tree B) (path : Paths) (name : List ℕ) → contains_name (names_in t path) name ≡ is_some (get t (path ++ name ∷ []))
unfolding names_in
contains-names_in t path name = contains_name-children path name (entries t) ∙ ap is_some (sym (get-entries t (path ++ name ∷ [])))

both : (a b : Bool) → T a → T b → T (a && b)
both true b p q = q
both false b p q = p

first : (a b : Bool) → T (a && b) → T a
first true b p = tt
first false b p = p

second : (a b : Bool) → T (a && b) → T b
second true b p = p
second false b p = absurd p

lt_alone : (o : Ordering) → is_lt (ordering_then o Equal) ≡ is_lt o
lt_alone Less = refl
lt_alone Equal = refl
lt_alone Greater = refl

module _ {X : Type 0} (path : Paths) where
  -- the path of a child
  child_path : (e : Paths × X) (name : List ℕ) → only_name (below path e.0) ≡ Some name → path ++ name ∷ [] ≡ e.0
  child_path e name h = append-below path e.0 (name ∷ []) (only_name-child (below path e.0) name h)

  below_children : (x : List ℕ) (es : List (Paths × X)) → T (below_all path_cmp (path ++ x ∷ []) es) → T (below_all name_cmp x (as_entries (children path (map (λ e. e.0) es))))
  below_children x [] h = tt
  below_children x (e ∷ es) h =
      let rest = below_children x es (second (is_lt (path_cmp (path ++ x ∷ []) e.0)) _ h) in
      elim (only_name (below path e.0)) as (λ o. only_name (below path e.0) ≡ o → T (below_all name_cmp x (as_entries (cons_option o (children path (map (λ e. e.0) es)))))) [
        | None ↦ λ _. rest
        | Some name ↦ λ is. both _ _ (subst T (ap (λ p. is_lt (path_cmp (path ++ x ∷ []) p)) (sym (child_path e name is)) ∙ ap is_lt (path_cmp-append path (x ∷ []) (name ∷ [])) ∙ lt_alone (name_cmp x name)) (first (is_lt (path_cmp (path ++ x ∷ []) e.0)) _ h)) rest
      ] refl

  rise_children : (es : List (Paths × X)) → T (is_sorted path_cmp es) → T (names_rise (children path (map (λ e. e.0) es)))
  rise_children [] h = tt
  rise_children (e ∷ es) h =
      let rest = rise_children es (second (below_all path_cmp e.0 es) _ h) in
      elim (only_name (below path e.0)) as (λ o. only_name (below path e.0) ≡ o → T (names_rise (cons_option o (children path (map (λ e. e.0) es))))) [
        | None ↦ λ _. rest
        | Some name ↦ λ is. both _ _ (below_children name es (subst (λ p. T (below_all path_cmp p es)) (sym (child_path e name is)) (first (below_all path_cmp e.0 es) _ h))) rest
      ] refl

-- the names in a directory rise
pub rise-names_in : {B : Type 0} (t : Tree B) (path : Paths) → T (names_rise (names_in t path))
unfolding names_in
rise-names_in t path = rise_children path (entries t) (entries_sorted t)

-- names that rise and are those at which a node is are the names in the directory
pub names_in-is : {B : Type 0} (t : Tree B) (path names : Paths) → T (names_rise names) → ((name : List ℕ) → contains_name names name ≡ is_some (get t (path ++ name ∷ []))) → names_in t path ≡ names
names_in-is t path names rise told = same_names _ _ (rise-names_in t path) rise (λ name. contains-names_in t path name ∙ sym (told name))

-- no path stands twice
abbrev pub AreApart : {X : Type 0} → List (Paths × X) → Type 0
AreApart [] = Unit {0}
AreApart (e ∷ es) = (find path_cmp e.0 es ≡ None) × AreApart es

module _ {X : Type 0} where
  pub len-from_entries : (es : List (Paths × X)) → AreApart es → len (from_entries {R = path_cmp} es) ≡ length es
  len-from_entries [] h = len-empty path_cmp X
  len-from_entries (e ∷ es) h =
      let rest : len (from_entries {R = path_cmp} es) ≡ length es = len-from_entries es h.1 in
      let grown : len (from_entries {R = path_cmp} (e ∷ es)) ≡ len (from_entries {R = path_cmp} es) + 1 =
      len-insert path_total (from_entries es) e.0 e.1
      ∙ ap (λ o. cond (is_some o) (len (from_entries {R = path_cmp} es)) (len (from_entries {R = path_cmp} es) + 1)) (get-from_entries path_total es e.0 ∙ h.0) in
      omega arith

-- a list of a tree's nodes in any order, each once, is as long as the tree has nodes
pub len-is : {B : Type 0} (t : Tree B) (es : List (Paths × Node B)) → AreApart es → ((path : Paths) → get t path ≡ find path_cmp path es) → len t ≡ length es
len-is t es apart told = ap len (same_tree t (from_entries es) (λ path. told path ∙ sym (get-from_entries path_total es path))) ∙ len-from_entries es apart
