-- What the rules of directories come to, where all directories are named.
use Rattle.std.proofs.Common.{◌≡◌, ◌≢◌, ◌⊎◌, inl, inr, ⊎_elim, ℕ, ◌<◌, List, length, refl, sym, ◌∙◌, ap, subst}
use Rattle.std.specs.Prelude.{slice_index, Option, Some, IsSome}
use Rattle.hl_media.specs.History.{Image}
use Rattle.hl_addr.specs.Layout.{Layout, IsWithinLimits}
use Rattle.hl_super.specs.declared.record.Record.{Record}
use Rattle.hl_summary.specs.declared.parts.Summary.{Summary}
use Rattle.hl_tables.specs.Values.{TableValues}
use Rattle.hl_inode.specs.declared.inode.Kind.TheVariants.{Dir}
use Rattle.hl_inode.specs.declared.inode.Inode.{Inode}
use Rattle.hl_dir.specs.declared.entry.Entry.{Entry}
use Rattle.hl_nodes.specs.declared.rule.Rule.{Rule}
use Rattle.hl_nodes.specs.declared.rule.Rule.TheVariants.{DirectoryBytes, DirectoryEntry, LostInode}
use Rattle.hl_nodes.specs.Breaks.{Breaks}
use Rattle.hl_nodes.specs.Directories.{HasEntry, HoldsEntries, IsOffName}
use Rattle.hl_survey.specs.declared.found.FoundInode.{FoundInode}
use Rattle.hl_survey.specs.Surveys.{AreSurveyed, IsFoundInode}
use Rattle.hl_hierarchy.specs.Naming.{at_number, numbers}
use Rattle.hl_hierarchy.specs.Climbing.{AreBelowRoot, IsLost}
use Rattle.hl_hierarchy.specs.Hierarchies.{AreNamed, HoldsAt, KeepsHierarchy}
use Rattle.hl_hierarchy.proofs.Noting.{number_of}
use Rattle.hl_hierarchy.proofs.NamedNumbers.{at_found, below_count, dir_of, entry_held, found_there, in_use, one_list, use_found}
use Rattle.hl_hierarchy.proofs.Leading.{climbs_leads, entry_noted, entry_parent, leads_climbs}

-- a directory that holds no entries breaks the rule
pub bytes_break : (g : Layout) (image : Image) (t : TableValues) (ino : ℕ) (dir : FoundInode) → IsFoundInode g image t ino dir → dir.inode.kind ≡ Dir → ((es : List Entry) → ¬ HoldsEntries g image dir.inode es)
    → (rec : Record) (parts : List Summary) → Breaks g image rec parts t DirectoryBytes dir.address
bytes_break g image t ino dir is kind none rec parts = (ino, dir.inode, is.there, kind, none)

module _ (g : Layout) (image : Image) (t : TableValues) (found : List (Option FoundInode)) (limits : IsWithinLimits g) (are : AreSurveyed g image t found) (parents : List ℕ) (named : AreNamed g image found parents) where
  -- A NUMBER THAT IS LOST breaks the rule
  pub lost_breaks : (ino : ℕ) → IsLost found parents ino → (dir : FoundInode) → at_number found ino ≡ Some dir → (rec : Record) (parts : List Summary) → Breaks g image rec parts t LostInode dir.address
  lost_breaks ino lost dir is rec parts = (
    ino,
    in_use found g image t are limits ino dir is,
    (at_found found g image t are ino dir is).there.2,
    λ names leads. lost.never (leads_climbs g image t found limits are parents named names 1 ino leads (0, refl)),
  )

  module _ (rec : Record) (parts : List Summary) (address : ℕ) where
    bytes_kept : Breaks g image rec parts t DirectoryBytes address → ⊥
    bytes_kept (ino, v, there, kind, none) =
        let f = found_there found g image t are limits ino v address there in
        let held = named.held ino f.0 (below_count found ino f.0 f.1) f.1 (ap (λ (w : Inode). w.kind) f.2 ∙ kind) in
        none held.0 (subst (λ (w : Inode). HoldsEntries g image w held.0) f.2 held.1)

    -- an entry is the only one that names its number
    only_entry : (ino other address at k j : ℕ) (e d : Entry) → HasEntry g image t ino address k e → HasEntry g image t other at j d → d.ino ≡ e.ino → (other ≢ ino) ⊎ (j ≢ k) → ⊥
    only_entry ino other address at k j e d h x same apart =
        let one : other ≡ ino = sym (entry_parent g image t found limits are parents named other at j d x) ∙ ap (slice_index parents) same ∙ entry_parent g image t found limits are parents named ino address k e h in
        ⊎_elim {C = ⊥} (λ ne. ne one)
        (λ ne.
        let a = entry_held found g image t are limits ino address k e h in
        let b = entry_held found g image t are limits other at j d x in
        let list : x.entries ≡ h.entries = one_list found g image ino h.entries x.entries a (subst (λ (n : ℕ). HoldsAt g image found n x.entries) one b) in
        let within : j < length h.entries = subst (λ (l : List Entry). j < length l) list x.within in
        let number : slice_index (numbers h.entries) j ≡ slice_index (numbers h.entries) k =
        ap (λ (l : List Entry). slice_index (numbers l) j) (sym list) ∙ number_of x.entries j d x.within x.is ∙ same ∙ sym (number_of h.entries k e h.within h.is) in
        ne ((entry_noted g image t found limits are parents named ino address k e h).once j within number))
        apart

    entry_kept : Breaks g image rec parts t DirectoryEntry address → ⊥
    entry_kept (ino, k, e, h, off) = by off
      where
        number : slice_index (numbers h.entries) k ≡ e.ino
        number = number_of h.entries k e h.within h.is

        by : IsOffName g image t ino k e.ino → ⊥
        by (inl unused) =
            let may = (entry_noted g image t found limits are parents named ino address k e h).may in
            let used : IsSome (at_number found e.ino) = subst (λ (c : ℕ). IsSome (at_number found c)) number may.used in
            let dir = dir_of found e.ino used in
            unused (in_use found g image t are limits e.ino dir.0 dir.1)
        by (inr (inl root)) = (entry_noted g image t found limits are parents named ino address k e h).may.other (number ∙ root)
        by (inr (inr (other, at, j, d, x, same, apart))) = only_entry ino other address at k j e d h x same apart

    lost_kept : AreBelowRoot found parents → Breaks g image rec parts t LostInode address → ⊥
    lost_kept below (ino, taken, _, none) =
        let climbs = below ino taken.low (use_found found g image t are ino taken) in
        let leads = climbs_leads g image t found limits are parents named climbs.0 ino climbs.1 in
        none leads.0 leads.1

  -- NONE OF THE RULES IS BROKEN
  pub hierarchy_kept : AreBelowRoot found parents → KeepsHierarchy g image t
  hierarchy_kept below rec parts rule address (inl is) broken = bytes_kept rec parts address (subst (λ (r : Rule). Breaks g image rec parts t r address) is broken)
  hierarchy_kept below rec parts rule address (inr (inl is)) broken = entry_kept rec parts address (subst (λ (r : Rule). Breaks g image rec parts t r address) is broken)
  hierarchy_kept below rec parts rule address (inr (inr is)) broken = lost_kept rec parts address below (subst (λ (r : Rule). Breaks g image rec parts t r address) is broken)
