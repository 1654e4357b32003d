-- What entries lead to is what climbs to the root.
use Rattle.std.proofs.Common.{◌≡◌, ⊎_elim, ℕ, zero, suc, List, [], ◌∷◌, ◌++◌, refl, sym, ◌∙◌, ap, subst, arith}
use Rattle.std.specs.Prelude.{slice_index, Option, IsSome}
use Rattle.std.proofs.lemmas.Bool.{cases_eq}
use Rattle.hl_media.specs.History.{Image}
use Rattle.hl_addr.specs.Layout.{Layout, IsWithinLimits}
use Rattle.hl_tables.specs.Values.{TableValues}
use Rattle.hl_dir.specs.declared.entry.Entry.{Entry}
use Rattle.hl_nodes.specs.Directories.{HasEntry, Leads}
use Rattle.hl_survey.specs.declared.found.FoundInode.{FoundInode}
use Rattle.hl_survey.specs.Surveys.{AreSurveyed}
use Rattle.hl_hierarchy.specs.Naming.{at_number}
use Rattle.hl_hierarchy.specs.Climbing.{Climbs, ClimbsIn}
use Rattle.hl_hierarchy.specs.Hierarchies.{AreNamed, IsNoted}
use Rattle.hl_hierarchy.proofs.Noting.{number_of}
use Rattle.hl_hierarchy.proofs.NamedNumbers.{below_count, dir_of, entry_at, entry_held, entry_number, held_entry, zero_free}

-- one name more leads to the number of its entry
leads_on : (g : Layout) (image : Image) (t : TableValues) (names : List (List ℕ)) (from mid address k : ℕ) (e : Entry) → Leads g image t from names mid → HasEntry g image t mid address k e → Leads g image t from (names ++ e.name ∷ []) e.ino
leads_on g image t [] from mid address k e is h = (address, k, e, subst (λ (n : ℕ). HasEntry g image t n address k e) (sym is) h, refl, refl)
leads_on g image t (name ∷ names) from mid address k e (at, i, first, has, named, rest) h = (at, i, first, has, named, leads_on g image t names first.ino mid address k e rest h)

module _ (g : Layout) (image : Image) (t : TableValues) (found : List (Option FoundInode)) (limits : IsWithinLimits g) (are : AreSurveyed g image t found) (parents : List ℕ) (named : AreNamed g image found parents) where
  -- an entry of the image is noted
  pub entry_noted : (ino address k : ℕ) (e : Entry) (h : HasEntry g image t ino address k e) → IsNoted found parents ino h.entries k
  entry_noted ino address k e h =
      let held = entry_held found g image t are limits ino address k e h in
      named.noted ino h.entries (below_count found ino held.dir held.is) held k h.within

  pub entry_parent : (ino address k : ℕ) (e : Entry) → HasEntry g image t ino address k e → slice_index parents e.ino ≡ ino
  entry_parent ino address k e h = ap (slice_index parents) (sym (number_of h.entries k e h.within h.is)) ∙ (entry_noted ino address k e h).set

  -- WHAT ENTRIES LEAD TO climbs to the root
  pub leads_climbs : (names : List (List ℕ)) (from to : ℕ) → Leads g image t from names to → Climbs parents from → Climbs parents to
  leads_climbs [] from to is climbs = subst (Climbs parents) is climbs
  leads_climbs (name ∷ names) from to (address, k, e, h, _, rest) climbs =
      leads_climbs names e.ino to rest (suc climbs.0, subst (ClimbsIn parents climbs.0) (sym (entry_parent from address k e h)) climbs.1)

  -- no directory is noted for number 0
  zero_unnamed : slice_index parents 0 ≡ 0
  zero_unnamed = ⊎_elim (λ none. none) (λ some.
      let names = named.named 0 some in
      let noted = named.noted (slice_index parents 0) names.entries (below_count found (slice_index parents 0) names.held.dir names.held.is) names.held names.index names.within in
      let used : IsSome (at_number found 0) = subst (λ (c : ℕ). IsSome (at_number found c)) names.is noted.may.used in
      let dir = dir_of found 0 used in
      absurd (zero_free found g image t are dir.0 dir.1)) (cases_eq (slice_index parents 0) 0)

  zero_never : (n : ℕ) → ClimbsIn parents n 0 → ⊥
  zero_never zero is = omega arith
  zero_never (suc n) is = zero_never n (subst (ClimbsIn parents n) zero_unnamed is)

  -- WHAT CLIMBS TO THE ROOT entries lead to
  pub climbs_leads : (n x : ℕ) → ClimbsIn parents n x → (names : List (List ℕ)) × Leads g image t 1 names x
  climbs_leads zero x is = ([], sym is)
  climbs_leads (suc n) x is =
      let parent = slice_index parents x in
      ⊎_elim {C = (names : List (List ℕ)) × Leads g image t 1 names x}
      (λ none. absurd (zero_never n (subst (ClimbsIn parents n) none is)))
      (λ some.
      let names = named.named x some in
      let own = climbs_leads n parent is in
      let h = held_entry found g image t are parent names.entries names.held names.index names.within in
      let to : (entry_at names.entries names.index).ino ≡ x = sym (entry_number names.entries names.index names.within) ∙ names.is in (
        own.0 ++ (entry_at names.entries names.index).name ∷ [],
        subst (Leads g image t 1 (own.0 ++ (entry_at names.entries names.index).name ∷ [])) to
            (leads_on g image t own.0 1 parent names.held.dir.address names.index (entry_at names.entries names.index) own.1 h),
      ))
      (cases_eq parent 0)
