-- What the checks of files tell of the rule of last blocks.
use Rattle.std.proofs.Common.{◌≡◌, ◌≢◌, ⊎_elim, ℕ, ◌+◌, ◌/◌, ◌%◌, ◌<◌, List, length, sym, ap, ◌∙◌, subst, arith}
use Rattle.std.specs.Prelude.{Option, Some, None, Result, Ok, Err, IfOk, slice_index}
use Rattle.std.specs.List.{slice_index_or}
use Rattle.std.proofs.lemmas.Option.{get_or_from_slice_get, slice_get-get_or}
use Rattle.hl_media.specs.History.{History, Image, content}
use Rattle.hl_media.specs.Moments.{Now, Runs}
use Rattle.hl_addr.specs.Layout.{Layout, IsWithinLimits}
use Rattle.hl_super.specs.declared.record.Record.{Record}
use Rattle.hl_summary.specs.declared.parts.Summary.{Summary}
use Rattle.hl_tseg.specs.SlotTable.{SlotTable}
use Rattle.hl_tables.specs.Values.{TableValues}
use Rattle.hl_inode.specs.declared.inode.Inode.{Inode}
use Rattle.hl_placed.specs.Blocks.{blocks_of}
use Rattle.hl_log.specs.Rest.{IsUnchanged}
use Rattle.hl_nodes.specs.declared.rule.Rule.TheVariants.{LastBlock}
use Rattle.hl_nodes.specs.Breaks.{Breaks}
use Rattle.hl_nodes.specs.Directories.{IsInodeIn}
use Rattle.hl_nodes.specs.Pointers.{pointer_of}
use Rattle.hl_nodes.proofs.Frame.{one_inode}
use Rattle.hl_nodes.proofs.PointerLemmas.{in_log-some}
use Rattle.hl_survey.specs.declared.found.FoundInode.{FoundInode}
use Rattle.hl_survey.specs.Surveys.{ArePointers, AreSurveyed, IsFound}
use Rattle.hl_survey.proofs.Unchanged.{held_before}
use Rattle.hl_staged.specs.Ends.{HasEnd, IsOffEnd, IsOffFile, TellsNumber}
use Rattle.hl_nodes.specs.Telling.{Tells}
use Rattle.hl_staged.proofs.Repeated.{last_or_before}

begun : (size : ℕ) → size % 4096 ≢ 0 → size / 4096 < blocks_of size
unfolding blocks_of
begun size part = omega (arith, part)

module _ (g : Layout) (slots : SlotTable) (found : FoundInode) where
  pointer_is : (image : Image) (pointer : ℕ) → ArePointers g slots image found.inode found.pointers.items → HasEnd found pointer → pointer_of image found.inode (found.inode.size / 4096) ≡ pointer
  pointer_is image pointer are end =
      sym (are.are (found.inode.size / 4096) (begun found.inode.size end.part)) ∙ get_or_from_slice_get found.pointers.items (found.inode.size / 4096) pointer 0 end.last

  -- what is told of the last block is told of the file
  pub file_told : {E : Type 0} (told : Option History) (pointer : ℕ) → HasEnd found pointer → (r : Result (Option ℕ) E)
      → IfOk r (λ off. Now told (λ s. Tells (IsOffEnd g slots s.content found.inode.size pointer) off)) → IfOk r (λ off. Now told (λ s. TellsNumber g slots s.content (Some found) off))
  file_told told pointer end (Ok None) is = λ h e are block off.
      (let same = pointer_is (content h) pointer are end in is h e block (subst (λ (p : ℕ). IsOffEnd g slots (content h) found.inode.size p block) same (off.2.0, off.2.1)))
  file_told told pointer end (Ok (Some block)) is = λ h e are.
      (let same = pointer_is (content h) pointer are end in (end.file, end.part, subst (λ (p : ℕ). IsOffEnd g slots (content h) found.inode.size p block) (sym same) (is h e)))
  file_told told pointer end (Err e) is = tt

  -- a file without an end to test
  pub file_none : (image : Image) → ((pointer : ℕ) → HasEnd found pointer → ⊥) → TellsNumber g slots image (Some found) None
  file_none image none are block off =
      let within : found.inode.size / 4096 < length found.pointers.items = subst (λ (n : ℕ). found.inode.size / 4096 < n) (sym are.count) (begun found.inode.size off.1) in
      none (slice_index found.pointers.items (found.inode.size / 4096)) (record { file = off.0; part = off.1; last = slice_get-get_or found.pointers.items (found.inode.size / 4096) 0 within })

module _ (g : Layout) (t : TableValues) (image : Image) (rec : Record) (parts : List Summary) where
  -- a file whose last block is off breaks the rule
  broken_by : (ino block : ℕ) (o : Option FoundInode) → IsFound g image t ino o → TellsNumber g t.slots image o (Some block) → Breaks g image rec parts t LastBlock block
  broken_by ino block None is off = absurd (let never : Some block ≡ None = off in cc)
  broken_by ino block (Some found) is off = let told = off is.pointers in (ino, found.address, found.inode, is.there, told.0, told.1, told.2.0, told.2.1)

  -- a number of which nothing is told doesn't
  kept_by : IsWithinLimits g → (ino own block : ℕ) (v : Inode) → IsInodeIn g image t ino v own → IsOffFile g t.slots image v block → (o : Option FoundInode) → IsFound g image t ino o → TellsNumber g t.slots image o None → ⊥
  kept_by limits ino own block v there off None is none = in_log-some g limits own there.3.in_log (sym there.2 ∙ is.0)
  kept_by limits ino own block v there off (Some found) is none =
      let place : found.address ≡ own = sym is.there.2 ∙ there.2 in
      let same : v ≡ found.inode = one_inode (image own) (image found.address) v found.inode (ap image place) there.3.spelled is.there.3.spelled in
      none is.pointers block (subst (λ (w : Inode). IsOffFile g t.slots image w block) same off)

  module _ (found : List (Option FoundInode)) (are : AreSurveyed g image t found) where
    pub ends_broken : (ino block : ℕ) → ino < g.inodes → TellsNumber g t.slots image (slice_index_or found ino None) (Some block) → Breaks g image rec parts t LastBlock block
    ends_broken ino block lt off = broken_by ino block (slice_index_or found ino None) (are.each ino lt) off

    pub ends_kept : IsWithinLimits g → ((ino : ℕ) → ino < g.inodes → TellsNumber g t.slots image (slice_index_or found ino None) None) → Tells (Breaks g image rec parts t LastBlock) None
    ends_kept limits none block (ino, own, v, there, file, part, lies, off) =
        kept_by limits ino own block v there (file, part, (lies, off)) (slice_index_or found ino None) (are.each ino there.1) (none ino there.1)

module _ (g : Layout) (slots : SlotTable) (found : List (Option FoundInode)) where
  -- nothing is told of the first numbers
  abbrev pub EndBelow : Option History → ℕ → Type 0
  EndBelow before n = (ino : ℕ) → ino < n → Now before (λ s. TellsNumber g slots s.content (slice_index_or found ino None) None)

  module _ (before middle : Option History) (run : Runs before middle IsUnchanged) (off : Option ℕ) (n : ℕ) (told : Now middle (λ s. TellsNumber g slots s.content (slice_index_or found n None) off)) where
    pub told_before : (was : Option ℕ) → off ≡ was → Now before (λ s. TellsNumber g slots s.content (slice_index_or found n None) was)
    told_before was is = held_before before middle (λ s. TellsNumber g slots s.content (slice_index_or found n None) was) run
        (subst (λ (o : Option ℕ). Now middle (λ s. TellsNumber g slots s.content (slice_index_or found n None) o)) is told)

    pub end_more : off ≡ None → EndBelow before n → EndBelow before (n + 1)
    end_more none below ino lt = ⊎_elim (λ low. below ino low)
        (λ e. subst (λ (k : ℕ). Now before (λ s. TellsNumber g slots s.content (slice_index_or found k None) None)) (sym e) (told_before None none))
        (last_or_before ino n lt)
