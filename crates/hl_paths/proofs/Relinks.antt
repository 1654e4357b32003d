-- Where paths lead once one link is taken away, or made.
use Rattle.std.proofs.Common.{arith, ◌≡◌, ℕ, Bool, true, false, ◌&&◌, cond, T, List, [], ◌∷◌, ◌++◌, Option, Some, None, is_some, length, refl, ap, ◌∙◌, sym, subst, length-append}
use Rattle.std.proofs.lemmas.List.{append-nil, same_from_push}
use Rattle.std.specs.Ordering.{nat_cmp, is_eq}
use Rattle.std.specs.Cmp.{tied_itself, nat_cmp_total}
use Rattle.std.specs.FinMap.{nat_cmp-IsAntisymmetric}
use Rattle.hl_tree.specs.Names.{below}
use Rattle.hl_tree.proofs.NamesBelow.{equal}
use Rattle.hl_tree.proofs.Moved.{Names, below-append}
use Rattle.hl_tree_laws.proofs.MovedTree.{below-more}
use Rattle.hl_paths.specs.Links.{Links, step, follow, resolve, joined, same_name, same_number, relinked}
use Rattle.hl_paths.proofs.Links.{none_some, true_false, name_is, name_itself, by_last, below_last, follow-append, resolve-root, resolve-append, resolve-last, HaveOnePath}

pub number_is : (one other : ℕ) → same_number one other ≡ true → one ≡ other
number_is one other e = nat_cmp-IsAntisymmetric one other (equal (nat_cmp one other) (subst T (sym e) tt))

pub number_itself : (number : ℕ) → same_number number number ≡ true
number_itself number = ap is_eq (tied_itself nat_cmp_total number)

pub number_other : (one other : ℕ) → (one ≡ other → ⊥) → same_number one other ≡ false
number_other one other differ = elim (same_number one other) as (λ b. same_number one other ≡ b → b ≡ false) [ true ↦ λ e. absurd (differ (number_is one other e)) | false ↦ λ e. refl ] refl

pub number_differs : (one other : ℕ) → same_number one other ≡ false → one ≡ other → ⊥
number_differs one other e same = true_false (sym (number_itself other) ∙ ap (λ n. same_number n other) (sym same) ∙ e)

pub below_itself : (path : Names) → below path path ≡ Some []
below_itself path = ap (below path) (sym (append-nil path)) ∙ below-append path []

pub not_below_root : (front : Names) (name : List ℕ) → below (front ++ name ∷ []) [] ≡ None
not_below_root [] name = refl
not_below_root (x ∷ front) name = refl

-- a path doesn't lie below one of its children
pub not_below_child : (front rest : Names) (name : List ℕ) → (front ++ name ∷ []) ++ rest ≡ front → ⊥
not_below_child front rest name e =
    let long = length-append (front ++ name ∷ []) rest in
    let longer = length-append front (name ∷ []) in
    let same : length ((front ++ name ∷ []) ++ rest) ≡ length front = ap length e in
    omega arith

pub both_are : (a b : Bool) → (a && b) ≡ true → (a ≡ true) × (b ≡ true)
both_are true b e = (refl, e)
both_are false b e = absurd (true_false (sym e))

cond_none : (b : Bool) → ◌≡◌ {A = Option ℕ} (cond b None None) None
cond_none true = refl
cond_none false = refl

module _ (links : Links) (number : ℕ) (name : List ℕ) (to : Option ℕ) where
  pub relinked-here : relinked links number name to number name ≡ to
  unfolding relinked
  relinked-here = λ i. cond (number_itself number i && name_itself name i) to (links number name)

  pub relinked-true : (other : ℕ) (named : List ℕ) → (same_number other number && same_name named name) ≡ true → relinked links number name to other named ≡ to
  unfolding relinked
  relinked-true other named e = ap (λ b. cond b to (links other named)) e

  pub relinked-false : (other : ℕ) (named : List ℕ) → (same_number other number && same_name named name) ≡ false → relinked links number name to other named ≡ links other named
  unfolding relinked
  relinked-false other named e = ap (λ b. cond b to (links other named)) e

  pub relinked-other : (other : ℕ) (named : List ℕ) → (other ≡ number → ⊥) → relinked links number name to other named ≡ links other named
  relinked-other other named differ = relinked-false other named (ap (λ b. b && same_name named name) (number_other other number differ))

-- the place of a link in a tree of links
module _ (links : Links) (paths : HaveOnePath links) (front : Names) (name : List ℕ) (number : ℕ) (at : resolve links front ≡ Some number) where
  abbrev place : Names
  place = front ++ name ∷ []

  abbrev is_link : ℕ → List ℕ → Bool
  is_link other named = same_number other number && same_name named name

  -- what the link's test tells of a path and one more name
  link_place : (path : Names) (named : List ℕ) (other : ℕ) → resolve links path ≡ Some other → is_link other named ≡ true → path ++ named ∷ [] ≡ place
  link_place path named other there e =
      let are = both_are (same_number other number) (same_name named name) e in
      λ i. paths path front number (there ∙ ap Some (number_is other number are.0)) at i ++ name_is named name are.1 i ∷ []

  link_below : (path : Names) (named : List ℕ) (other : ℕ) → resolve links path ≡ Some other → is_link other named ≡ true → below place (path ++ named ∷ []) ≡ Some []
  link_below path named other there e = ap (below place) (link_place path named other there e) ∙ below_itself place

  no_link_apart : (path : Names) (named : List ℕ) (other : ℕ) → resolve links path ≡ Some other → below place path ≡ None → is_link other named ≡ false → below place (path ++ named ∷ []) ≡ None
  no_link_apart path named other there apart e = elim (below place (path ++ named ∷ [])) as (λ o. below place (path ++ named ∷ []) ≡ o → o ≡ None) [
    | None ↦ λ b. refl
    | Some rest ↦ λ b.
        let same = same_from_push front path name named (below_last place path rest named b apart) in
        let numbers : Some number ≡ Some other = sym at ∙ ap (resolve links) same.0 ∙ there in
        let one : number ≡ other = cc in
        absurd (true_false (sym (λ i. number_itself number i && name_itself name i) ∙ (λ i. same_number (one i) number && same_name (same.1 i) name) ∙ e))
  ] refl

  -- THE LINK IS TAKEN AWAY

  abbrev less : Links
  less = relinked links number name None

  cut_step : (path : Names) (named : List ℕ) → below place path ≡ None → (o : Option ℕ) → resolve links path ≡ o → step less o named ≡ cond (is_some (below place (path ++ named ∷ []))) None (resolve links (path ++ named ∷ []))
  cut_step path named apart None there = sym (ap (cond (is_some (below place (path ++ named ∷ []))) None) (resolve-last links path named ∙ ap (λ o. step links o named) there) ∙ cond_none (is_some (below place (path ++ named ∷ []))))
  cut_step path named apart (Some other) there = elim (is_link other named) as (λ b. is_link other named ≡ b → less other named ≡ cond (is_some (below place (path ++ named ∷ []))) None (resolve links (path ++ named ∷ []))) [
    | true ↦ λ e. relinked-true links number name None other named e
        ∙ sym (ap (λ o. cond (is_some o) None (resolve links (path ++ named ∷ []))) (link_below path named other there e))
    | false ↦ λ e. relinked-false links number name None other named e
        ∙ sym (ap (λ o. cond (is_some o) None (resolve links (path ++ named ∷ []))) (no_link_apart path named other there apart e) ∙ resolve-last links path named ∙ ap (λ o. step links o named) there)
  ] refl

  -- what was at the link and below it is found no more, and all else is found as before
  pub resolve-cut : (path : Names) → resolve less path ≡ cond (is_some (below place path)) None (resolve links path)
  resolve-cut = by_last (λ path. resolve less path ≡ cond (is_some (below place path)) None (resolve links path))
      (resolve-root less ∙ sym (ap (λ o. cond (is_some o) None (resolve links [])) (not_below_root front name) ∙ resolve-root links))
      (λ path named ih. elim (below place path) as (λ o. below place path ≡ o → resolve less (path ++ named ∷ []) ≡ cond (is_some (below place (path ++ named ∷ []))) None (resolve links (path ++ named ∷ []))) [
        | Some rest ↦ λ b. resolve-last less path named
            ∙ ap (λ o. step less o named) (ih ∙ ap (λ o. cond (is_some o) None (resolve links path)) b)
            ∙ sym (ap (λ o. cond (is_some o) None (resolve links (path ++ named ∷ []))) (below-more place path rest (named ∷ []) b))
        | None ↦ λ b. resolve-last less path named
            ∙ ap (λ o. step less o named) (ih ∙ ap (λ o. cond (is_some o) None (resolve links path)) b)
            ∙ cut_step path named b (resolve links path) refl
      ] refl)

  still : (b : Bool) (o : Option ℕ) (other : ℕ) → cond b None o ≡ Some other → (b ≡ false) × (o ≡ Some other)
  still true o other e = absurd (none_some e)
  still false o other e = (refl, e)

  -- what is found still was found, elsewhere
  pub cut-found : (path : Names) (other : ℕ) → resolve less path ≡ Some other → (is_some (below place path) ≡ false) × (resolve links path ≡ Some other)
  cut-found path other e = still (is_some (below place path)) (resolve links path) other (sym (resolve-cut path) ∙ e)

  pub cut-one_path : HaveOnePath less
  cut-one_path path other node e f = paths path other node (cut-found path node e).1 (cut-found other node f).1

  -- below a number to which the link led, all is found as before
  pub follow-cut : (child : ℕ) → links number name ≡ Some child → (rest : Names) → follow less (Some child) rest ≡ follow links (Some child) rest
  follow-cut child led = by_last (λ rest. follow less (Some child) rest ≡ follow links (Some child) rest) refl (λ rest named ih.
      follow-append less (Some child) rest (named ∷ [])
      ∙ ap (λ o. step less o named) ih
      ∙ below_step rest named (follow links (Some child) rest) refl
      ∙ sym (follow-append links (Some child) rest (named ∷ [])))
    where
      found : (rest : Names) → resolve links (place ++ rest) ≡ follow links (Some child) rest
      found rest = resolve-append links place rest ∙ ap (λ o. follow links o rest) (resolve-last links front name ∙ ap (λ o. step links o name) at ∙ led)

      below_step : (rest : Names) (named : List ℕ) (o : Option ℕ) → follow links (Some child) rest ≡ o → step less o named ≡ step links o named
      below_step rest named None there = refl
      below_step rest named (Some other) there = relinked-other links number name None other named
          (λ e. not_below_child front rest name (paths (place ++ rest) front number (found rest ∙ there ∙ ap Some e) at))

  -- THE LINK IS MADE

  module _ (child : ℕ) (apart : (rest : Names) → follow links (Some child) rest ≡ Some number → ⊥) where
    abbrev more : Links
    more = relinked links number name (Some child)

    below_step : (rest : Names) (named : List ℕ) (o : Option ℕ) → follow links (Some child) rest ≡ o → step more o named ≡ step links o named
    below_step rest named None there = refl
    below_step rest named (Some other) there = relinked-other links number name (Some child) other named (λ e. apart rest (there ∙ ap Some e))

    join_step : (path : Names) (named : List ℕ) → below place path ≡ None → (o : Option ℕ) → resolve links path ≡ o → step more o named ≡ joined links child (below place (path ++ named ∷ [])) (resolve links (path ++ named ∷ []))
    join_step path named lies None there = elim (below place (path ++ named ∷ [])) as (λ o. below place (path ++ named ∷ []) ≡ o → None ≡ joined links child o (resolve links (path ++ named ∷ []))) [
      | None ↦ λ b. sym (resolve-last links path named ∙ ap (λ o. step links o named) there)
      | Some rest ↦ λ b.
          let same = same_from_push front path name named (below_last place path rest named b lies) in
          absurd (none_some (sym there ∙ ap (resolve links) (sym same.0) ∙ at))
    ] refl
    join_step path named lies (Some other) there = elim (is_link other named) as (λ b. is_link other named ≡ b → more other named ≡ joined links child (below place (path ++ named ∷ [])) (resolve links (path ++ named ∷ []))) [
      | true ↦ λ e. relinked-true links number name (Some child) other named e
          ∙ sym (ap (λ o. joined links child o (resolve links (path ++ named ∷ []))) (link_below path named other there e))
      | false ↦ λ e. relinked-false links number name (Some child) other named e
          ∙ sym (ap (λ o. joined links child o (resolve links (path ++ named ∷ []))) (no_link_apart path named other there lies e) ∙ resolve-last links path named ∙ ap (λ o. step links o named) there)
    ] refl

    -- at the link and below it is found what is below the child, and all else is found as before
    pub resolve-join : (path : Names) → resolve more path ≡ joined links child (below place path) (resolve links path)
    resolve-join = by_last (λ path. resolve more path ≡ joined links child (below place path) (resolve links path))
        (resolve-root more ∙ sym (ap (λ o. joined links child o (resolve links [])) (not_below_root front name) ∙ resolve-root links))
        (λ path named ih. elim (below place path) as (λ o. below place path ≡ o → resolve more (path ++ named ∷ []) ≡ joined links child (below place (path ++ named ∷ [])) (resolve links (path ++ named ∷ []))) [
          | Some rest ↦ λ b. resolve-last more path named
              ∙ ap (λ o. step more o named) (ih ∙ ap (λ o. joined links child o (resolve links path)) b)
              ∙ below_step rest named (follow links (Some child) rest) refl
              ∙ sym (follow-append links (Some child) rest (named ∷ []))
              ∙ sym (ap (λ o. joined links child o (resolve links (path ++ named ∷ []))) (below-more place path rest (named ∷ []) b))
          | None ↦ λ b. resolve-last more path named
              ∙ ap (λ o. step more o named) (ih ∙ ap (λ o. joined links child o (resolve links path)) b)
              ∙ join_step path named b (resolve links path) refl
        ] refl)
