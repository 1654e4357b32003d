-- The directories of an image that was surveyed, and the numbers that they name.
use Rattle.std.proofs.Common.{◌≡◌, ◌≢◌, ◌⊎◌, inl, inr, ⊎_elim, ℕ, ◌+◌, ◌<◌, List, [], length, get_or, refl, sym, ◌∙◌, ap, subst, arith}
use Rattle.std.specs.Prelude.{slice_index, Option, Some, None, IsSome}
use Rattle.std.specs.List.{slice_index_or}
use Rattle.std.proofs.lemmas.Bool.{cases_eq, cases_lt}
use Rattle.std.proofs.lemmas.List.{get_or_default, get_or_past}
use Rattle.hl_media.specs.History.{Image}
use Rattle.hl_addr.specs.Layout.{Layout, IsWithinLimits}
use Rattle.hl_super.specs.declared.record.Record.{Record}
use Rattle.hl_summary.specs.declared.parts.Summary.{Summary}
use Rattle.hl_tables.specs.Values.{TableValues}
use Rattle.hl_inode.specs.declared.inode.Kind.TheVariants.{Dir}
use Rattle.hl_inode.specs.declared.inode.Inode.{Inode}
use Rattle.hl_dir.specs.declared.entry.Entry.{Entry}
use Rattle.hl_nodes.specs.declared.rule.Rule.TheVariants.{DirectoryEntry}
use Rattle.hl_nodes.specs.Breaks.{Breaks}
use Rattle.hl_nodes.specs.Directories.{HasEntry, HoldsEntries, IsInodeIn, IsInUse, IsOffName}
use Rattle.hl_nodes.proofs.DirectoryDecided.{one_held}
use Rattle.hl_nodes.proofs.Frame.{one_inode}
use Rattle.hl_nodes.proofs.PointerLemmas.{in_log-some}
use Rattle.hl_survey.specs.declared.found.FoundInode.{FoundInode}
use Rattle.hl_survey.specs.Surveys.{AreSurveyed, IsFound, IsFoundInode}
use Rattle.hl_hierarchy.specs.Bytes.{AreOf}
use Rattle.hl_hierarchy.specs.Naming.{at_number, numbers, EachBelow, IsNameable, IsOffAt, NotesEach}
use Rattle.hl_hierarchy.specs.Hierarchies.{AreNamedBelow, HoldsAt, IsNoted, NamesIn}
use Rattle.hl_hierarchy.proofs.Noting.{length-numbers, number_of}

-- an entry for places past the end
pub no_entry : Entry
no_entry = record { ino = 0; name = [] }

-- entry k of a list
abbrev pub entry_at : List Entry → ℕ → Entry
entry_at es k = get_or es k no_entry

pub entry_is : (es : List Entry) (k : ℕ) → k < length es → slice_index_or es k (entry_at es k) ≡ entry_at es k
entry_is es k lt = get_or_default es k (entry_at es k) no_entry lt

pub entry_number : (es : List Entry) (k : ℕ) → k < length es → slice_index (numbers es) k ≡ (entry_at es k).ino
entry_number es k lt = number_of es k (entry_at es k) lt (entry_is es k lt)

-- the pointers that were found with an inode are its own
pub are_of : (g : Layout) (image : Image) (t : TableValues) (ino : ℕ) (dir : FoundInode) → IsFoundInode g image t ino dir → AreOf image dir.inode dir.pointers.items
are_of g image t ino dir is = record { count = is.pointers.count; are = is.pointers.are }

module _ (found : List (Option FoundInode)) where
  some_or_none : (o : Option FoundInode) → IsSome o → (dir : FoundInode) × (o ≡ Some dir)
  some_or_none None some = (let e = some in cc)
  some_or_none (Some dir) some = (dir, refl)

  -- a number in use has an inode that was found
  pub dir_of : (ino : ℕ) → IsSome (at_number found ino) → (dir : FoundInode) × (at_number found ino ≡ Some dir)
  dir_of ino some = some_or_none (at_number found ino) some

  pub some_at : (ino : ℕ) (dir : FoundInode) → at_number found ino ≡ Some dir → IsSome (at_number found ino)
  some_at ino dir is = subst IsSome (sym is) refl

  -- and is below their count
  pub below_count : (ino : ℕ) (dir : FoundInode) → at_number found ino ≡ Some dir → ino < length found
  below_count ino dir is = ⊎_elim (λ lt. lt) (λ ge. (let e = get_or_past found ino None ge in cc)) (cases_lt ino (length found))

  -- a number has one inode
  pub one_dir : (ino : ℕ) (a b : FoundInode) → at_number found ino ≡ Some a → at_number found ino ≡ Some b → a ≡ b
  one_dir ino a b x y = (let e = sym x ∙ y in cc)

  -- each noted directory is below one number more
  pub below_more : (cs old new : List ℕ) (n ino : ℕ) → NotesEach found cs n old new ino → EachBelow old ino → EachBelow new (ino + 1)
  below_more cs old new n ino notes below c = ⊎_elim (λ same. (let lt = below c in omega arith)) (λ by. (let set = by.3 in omega arith)) (notes.only c)

  module _ (g : Layout) (image : Image) where
    -- a directory holds one list of entries
    pub one_list : (ino : ℕ) (es fs : List Entry) → HoldsAt g image found ino es → HoldsAt g image found ino fs → fs ≡ es
    one_list ino es fs a b = one_held g image a.dir.inode es fs a.holds (subst (λ (d : FoundInode). HoldsEntries g image d.inode fs) (one_dir ino b.dir a.dir b.is a.is) b.holds)

    module _ (t : TableValues) (are : AreSurveyed g image t found) where
      -- what was found of a number in use
      pub at_found : (ino : ℕ) (dir : FoundInode) → at_number found ino ≡ Some dir → IsFoundInode g image t ino dir
      at_found ino dir is =
          let lt = below_count ino dir is in
          let count = are.count in
          subst (IsFound g image t ino) is (are.each ino (omega arith))

      -- number 0 is free
      pub zero_free : (dir : FoundInode) → at_number found 0 ≡ Some dir → ⊥
      zero_free dir is = (let e = sym are.zero ∙ is in cc)

      pub use_found : (ino : ℕ) → IsInUse g t ino → IsSome (at_number found ino)
      use_found ino taken = by (at_number found ino) (are.each ino taken.high)
        where
          by : (o : Option FoundInode) → IsFound g image t ino o → IsSome o
          by None (none, _) = absurd (taken.entry none)
          by (Some dir) is = refl

      -- an entry of a directory that was found is one of the image
      pub held_entry : (ino : ℕ) (es : List Entry) (h : HoldsAt g image found ino es) (k : ℕ) → k < length es → HasEntry g image t ino h.dir.address k (entry_at es k)
      held_entry ino es h k lt = record {
        inode = h.dir.inode;
        there = (at_found ino h.dir h.is).there;
        dir = h.kind;
        entries = es;
        holds = h.holds;
        within = lt;
        is = entry_is es k lt;
      }

      -- WHERE A NUMBER IS NO DIRECTORY nothing changes
      pub named_beside : (parents : List ℕ) (ino : ℕ) → ((dir : FoundInode) → at_number found ino ≡ Some dir → dir.inode.kind ≡ Dir → ⊥)
          → AreNamedBelow g image found parents ino → AreNamedBelow g image found parents (ino + 1)
      named_beside parents ino none named = record {
        held = λ i dir lt is kind. ⊎_elim (λ low. named.held i dir low is kind)
            (λ high. absurd (let same : i ≡ ino = omega arith in none dir (ap (at_number found) (sym same) ∙ is) kind)) (cases_lt i ino);
        noted = λ i es lt h. ⊎_elim {C = (k : ℕ) → k < length es → IsNoted found parents i es k} (λ low. named.noted i es low h)
            (λ high. absurd (let same : i ≡ ino = omega arith in none h.dir (ap (at_number found) (sym same) ∙ h.is) h.kind)) (cases_lt i ino);
        named = named.named;
      }

      -- before the first directory nothing is noted
      pub named_first : (parents : List ℕ) → EachBelow parents 1 → AreNamedBelow g image found parents 1
      named_first parents below = record {
        held = λ i dir lt is kind. absurd (let zero : i ≡ 0 = omega arith in zero_free dir (ap (at_number found) (sym zero) ∙ is));
        noted = λ i es lt h. absurd (let zero : i ≡ 0 = omega arith in zero_free h.dir (ap (at_number found) (sym zero) ∙ h.is));
        named = λ c some. absurd (let lt = below c in some (omega arith));
      }

      module _ (limits : IsWithinLimits g) where
        -- what was found of a number is in use
        pub in_use : (ino : ℕ) (dir : FoundInode) → at_number found ino ≡ Some dir → IsInUse g t ino
        in_use ino dir is =
            let there = (at_found ino dir is).there in
            record { low = there.0; high = there.1; entry = λ none. in_log-some g limits dir.address there.3.in_log (sym there.2 ∙ none) }

        -- the inode that stands at an address is the one that was found
        pub found_there : (ino : ℕ) (v : Inode) (address : ℕ) → IsInodeIn g image t ino v address → (dir : FoundInode) × (at_number found ino ≡ Some dir) × (dir.inode ≡ v)
        found_there ino v address there = by (at_number found ino) refl (are.each ino there.1)
          where
            by : (o : Option FoundInode) → at_number found ino ≡ o → IsFound g image t ino o → (dir : FoundInode) × (at_number found ino ≡ Some dir) × (dir.inode ≡ v)
            by None e (none, _) = absurd (in_log-some g limits address there.3.in_log (sym there.2 ∙ none))
            by (Some dir) e is =
                let same : dir.address ≡ address = sym is.there.2 ∙ there.2 in
                (dir, e, one_inode (image dir.address) (image address) dir.inode v (ap image (sym same)) is.there.3.spelled there.3.spelled)

        -- an entry of the image is one of a directory that was found
        pub entry_held : (ino address k : ℕ) (e : Entry) (h : HasEntry g image t ino address k e) → HoldsAt g image found ino h.entries
        entry_held ino address k e h =
            let f = found_there ino h.inode address h.there in record {
              dir = f.0;
              is = f.1;
              kind = ap (λ (v : Inode). v.kind) f.2 ∙ h.dir;
              holds = subst (λ (v : Inode). HoldsEntries g image v h.entries) (sym f.2) h.holds;
            }

      module _ (ino : ℕ) (es : List Entry) (h : HoldsAt g image found ino es) (old : List ℕ) (named : AreNamedBelow g image found old ino) where
        -- WHERE IT IS ONE, its entries are noted
        module _ (new : List ℕ) (notes : NotesEach found (numbers es) (length es) old new ino) where
          noted_still : (i c : ℕ) (fs : List Entry) → HoldsAt g image found i fs → slice_index old c ≡ i → slice_index new c ≡ i
          noted_still i c fs held was = ⊎_elim (λ same. same ∙ was)
              (λ by.
              let free : slice_index old c ≡ 0 = ap (slice_index old) (sym by.2) ∙ notes.free by.0 by.1 in
              let zero : i ≡ 0 = sym was ∙ free in
              absurd (zero_free held.dir (ap (at_number found) (sym zero) ∙ held.is)))
              (notes.only c)

          one_place : (j k : ℕ) → j < length es → k < length es → slice_index (numbers es) j ≡ slice_index (numbers es) k → j ≡ k
          one_place j k jn kn e = ⊎_elim
              (λ same. same)
              (λ other. ⊎_elim (λ lt. absurd (notes.apart j k lt kn e)) (λ ge. absurd (notes.apart k j (omega arith) jn (sym e))) (cases_lt j k))
              (cases_eq j k)

          own_noted : (k : ℕ) → k < length es → IsNoted found new ino es k
          own_noted k lt = record { may = notes.may k lt; set = notes.set k lt; once = λ j jn e. one_place j k jn lt e }

          noted_more : (i : ℕ) (fs : List Entry) → i < ino + 1 → HoldsAt g image found i fs → (k : ℕ) → k < length fs → IsNoted found new i fs k
          noted_more i fs lt held k within = ⊎_elim
              (λ low.
              let was = named.noted i fs low held k within in
              record { may = was.may; set = noted_still i (slice_index (numbers fs) k) fs held was.set; once = was.once })
              (λ high.
              let same : ino ≡ i = omega arith in
              let list : es ≡ fs = one_list i fs es held (subst (λ (n : ℕ). HoldsAt g image found n es) same h) in
              subst (λ (n : ℕ). IsNoted found new n fs k) same (subst (λ (l : List Entry). IsNoted found new ino l k) list (own_noted k (subst (λ (l : List Entry). k < length l) (sym list) within))))
              (cases_lt i ino)

          held_more : (i : ℕ) (dir : FoundInode) → i < ino + 1 → at_number found i ≡ Some dir → dir.inode.kind ≡ Dir → (fs : List Entry) × HoldsEntries g image dir.inode fs
          held_more i dir lt is kind = ⊎_elim (λ low. named.held i dir low is kind)
              (λ high.
              let same : i ≡ ino = omega arith in
              (es, subst (λ (d : FoundInode). HoldsEntries g image d.inode es) (one_dir ino h.dir dir h.is (ap (at_number found) (sym same) ∙ is)) h.holds))
              (cases_lt i ino)

          names_more : (c : ℕ) → slice_index new c ≢ 0 → NamesIn g image found (slice_index new c) c
          names_more c some = ⊎_elim
              (λ same. subst (λ (n : ℕ). NamesIn g image found n c) (sym same) (named.named c (λ none. some (same ∙ none))))
              (λ by. subst (λ (n : ℕ). NamesIn g image found n c) (sym by.3) (names_own c by.0 by.1 by.2))
              (notes.only c)
            where
              names_own : (c k : ℕ) → k < length es → slice_index (numbers es) k ≡ c → NamesIn g image found ino c
              names_own c k lt is = record { entries = es; held = h; index = k; within = lt; is = is }

          pub named_more : AreNamedBelow g image found new (ino + 1)
          named_more = record { held = held_more; noted = noted_more; named = names_more }

        -- AN ENTRY THAT IS OFF breaks the rule
        module _ (below : EachBelow old ino) (k : ℕ) (off : IsOffAt found (numbers es) old k) where
          lt : k < length es
          lt = let w = off.within in let n = length-numbers es in omega arith

          off_name : IsOffName g image t ino k (slice_index (numbers es) k)
          off_name = by off.off
            where
              by : ¬ IsNameable found (slice_index (numbers es) k) ⊎ ((slice_index old (slice_index (numbers es) k) ≢ 0) ⊎ ((j : ℕ) × (j < k) × (slice_index (numbers es) j ≡ slice_index (numbers es) k)))
                  → IsOffName g image t ino k (slice_index (numbers es) k)
              by (inl never) = ⊎_elim (λ root. inr (inl root)) (λ other. inl (λ taken. never (record { used = use_found (slice_index (numbers es) k) taken; other = other }))) (cases_eq (slice_index (numbers es) k) 1)
              by (inr (inl some)) =
                  let names = named.named (slice_index (numbers es) k) some in
                  let low = below (slice_index (numbers es) k) in
                  inr (inr (
                    slice_index old (slice_index (numbers es) k),
                    names.held.dir.address,
                    names.index,
                    entry_at names.entries names.index,
                    held_entry (slice_index old (slice_index (numbers es) k)) names.entries names.held names.index names.within,
                    sym (entry_number names.entries names.index names.within) ∙ names.is,
                    inl (λ same. (omega arith)),
                  ))
              by (inr (inr (j, less, same))) =
                  let within = lt in
                  let jn : j < length es = omega arith in
                  inr (inr (ino, h.dir.address, j, entry_at es j, held_entry ino es h j jn, sym (entry_number es j jn) ∙ same, inr (λ e. (omega arith))))

          pub entry_breaks : (rec : Record) (parts : List Summary) → Breaks g image rec parts t DirectoryEntry h.dir.address
          entry_breaks rec parts = (ino, k, entry_at es k, held_entry ino es h k lt, subst (IsOffName g image t ino k) (entry_number es k lt) off_name)
