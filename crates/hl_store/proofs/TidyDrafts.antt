-- The drafts of a store with nothing dirty: every live block of what lies below goes on being live.
use Rattle.std.proofs.Common.{◌≡◌, ℕ, zero, suc, ◌+◌, ◌<◌, ◌==◌, Bool, true, false, not, List, [], ◌∷◌, length, map, filter, Option, Some, None, slice_get, slice_index, is_some, is_none, if◌then◌else◌, refl, sym, ◌∙◌, ap, subst, arith}
use Rattle.std.specs.Prelude.{◌&&◌}
use Rattle.std.proofs.lemmas.Bool.{eqb-true}
use Rattle.std.proofs.lemmas.List.Sums.{sum_by-cons}
use Rattle.hl_media.specs.History.{Image}
use Rattle.hl_overlay.specs.declared.draft.NodeDraft.{NodeDraft}
use Rattle.hl_overlay.specs.declared.draft.Shape.{Shape}
use Rattle.hl_overlay.specs.Drafting.{count_for, is_freed, needs_inode, needs_pointer_block}
use Rattle.hl_overlay.specs.DraftTables.{draft_of, freed_of, freed_record, others_in}
use Rattle.hl_overlay.specs.Overlays.{IsWholeOverlay}
use Rattle.hl_overlay.proofs.TableLemmas.{is_draft_of}
use Rattle.hl_nodes.specs.Live.{IsLiveAt, IsNodeBlock, LiveBlock, NodeBlock}
use Rattle.hl_nodes.specs.Live.LiveBlock.{OfNode, Table}
use Rattle.hl_nodes.specs.Contents.{Contents, HasContents}
use Rattle.hl_nodes.proofs.Frame.{limits_of}
use Rattle.hl_nodes.proofs.PointerLemmas.{in_log-some}
use Rattle.hl_overlaid.specs.Over.{IsOver}
use Rattle.hl_tally.specs.Tally.{StaysIn, StaysUnder}
use Rattle.hl_tally.proofs.DraftNodes.{unchanged_stays}
use Rattle.hl_store.specs.Values.{IsTidy, StoreValue, layout, overlaid}
use Rattle.hl_store.specs.Shapes.{IsShaped}

-- where the next unit has nothing of the drafts, it has nothing of each
none_needed : (ds : List NodeDraft) (k : ℕ) (d : NodeDraft) → others_in ds ≡ 0 → slice_get ds k ≡ Some d → count_for d ≡ 0
none_needed [] k d none at = absurd cc
none_needed (e ∷ ds) zero d none at =
    let same : e ≡ d = one_some e d at in
    let sum : others_in (e ∷ ds) ≡ count_for e + others_in ds = sum_by-cons count_for e ds in
    subst (λ (x : NodeDraft). count_for x ≡ 0) same (omega arith)
  where
    one_some : (a b : NodeDraft) → Some a ≡ Some b → a ≡ b
    one_some a b e = cc
none_needed (e ∷ ds) (suc k) d none at =
    let sum : others_in (e ∷ ds) ≡ count_for e + others_in ds = sum_by-cons count_for e ds in
    none_needed ds k d (omega arith) at

none_freed : (ds : List NodeDraft) (k : ℕ) (d : NodeDraft) → length (freed_of ds) ≡ 0 → slice_get ds k ≡ Some d → is_freed d ≡ false
none_freed [] k d none at = absurd cc
none_freed (e ∷ ds) zero d none at = by (is_freed e) refl none
  where
    one_some : (a b : NodeDraft) → Some a ≡ Some b → a ≡ b
    one_some a b e = cc

    by : (b : Bool) → is_freed e ≡ b → length (map freed_record (if b then e ∷ filter is_freed ds else filter is_freed ds)) ≡ 0 → is_freed d ≡ false
    by true freed size = absurd (omega arith)
    by false kept size = subst (λ (x : NodeDraft). is_freed x ≡ false) (one_some e d at) kept
none_freed (e ∷ ds) (suc k) d none at = none_freed ds k d (by (is_freed e) none) at
  where
    by : (b : Bool) → length (map freed_record (if b then e ∷ filter is_freed ds else filter is_freed ds)) ≡ 0 → length (freed_of ds) ≡ 0
    by true size = absurd (omega arith)
    by false size = size

-- one block or two
some_blocks : (b : Bool) (n : ℕ) → n ≡ (if b then 2 else 1) → n ≡ 0 → ⊥
some_blocks true n is none = omega arith
some_blocks false n is none = omega arith

-- a changed draft of which the next unit has nothing is of a number that lies nowhere
nowhere : (d : NodeDraft) → d.changed ≡ true → count_for d ≡ 0 → is_freed d ≡ false → d.own ≡ 4294967295
nowhere d changed none kept = by d.shape refl
  where
    told : (b : Bool) → not b ≡ false → b ≡ true
    told true e = refl
    told false e = absurd cc

    by : (shape : Option Shape) → d.shape ≡ shape → d.own ≡ 4294967295
    by (Some shape) is = absurd (
        let needs : needs_inode d ≡ true = ap (λ (b : Bool). b && is_some d.shape) changed ∙ ap (λ (s : Option Shape). true && is_some s) is in
        let some : count_for d ≡ (if needs_pointer_block d then 2 else 1) = ap (λ (b : Bool). if b then (if needs_pointer_block d then 2 else 1) else 0) needs in
        some_blocks (needs_pointer_block d) (count_for d) some none)
    by None is =
        let left : is_freed d ≡ not (d.own == 4294967295) = ap (λ (b : Bool). b && is_none d.shape && not (d.own == 4294967295)) changed
        ∙ ap (λ (s : Option Shape). true && is_none s && not (d.own == 4294967295)) is in
        eqb-true d.own 4294967295 (told (d.own == 4294967295) (sym left ∙ kept))

module _ {M : Type 0} (v : StoreValue M) (shaped : IsShaped v) (whole : IsWholeOverlay v.overlay) (tidy : IsTidy v) where
  none_others : others_in v.overlay.drafts.items ≡ 0
  none_others = (let dirty = tidy.0 in omega arith)

  none_gone : length (freed_of v.overlay.drafts.items) ≡ 0
  none_gone = (let dirty = tidy.0 in omega arith)

  module _ (image : Image) (c : Contents) (has : HasContents (layout v) image c) (over : IsOver (layout v) (overlaid v) image c) where
    block_stays : (q : ℕ) (b : NodeBlock) (a : ℕ) → IsNodeBlock (layout v) image c.tables q b a → (d : NodeDraft) → draft_of v.overlay.drafts q ≡ Some d → (t : Bool) → d.changed ≡ t → StaysIn d b a
    block_stays q b a lies d is false unchanged =
        let of = over.drafts (slice_index v.overlay.drafts.places q) d is in
        unchanged_stays (layout v) image c has d of (is_draft_of v.overlay.drafts q d whole.table is) unchanged b a
        (subst (λ (k : ℕ). IsNodeBlock (layout v) image c.tables k b a) (sym (whole.table.own q d (subst (λ (n : ℕ). q < n) (sym shaped.drafts) lies.high) is)) lies)
    block_stays q b a lies d is true changed =
        let place = slice_index v.overlay.drafts.places q in
        let of = over.drafts place d is in
        let own : d.own ≡ 4294967295 = nowhere d changed (none_needed v.overlay.drafts.items place d none_others is) (none_freed v.overlay.drafts.items place d none_gone is) in
        let number : d.ino ≡ q = whole.table.own q d (subst (λ (n : ℕ). q < n) (sym shaped.drafts) lies.high) is in
        let at : slice_index c.tables.inodes q ≡ 4294967295 = ap (slice_index c.tables.inodes) (sym number) ∙ sym of.own ∙ own in
        absurd (in_log-some (layout v) (limits_of (layout v) image c.rec has.newest has.volumes) (slice_index c.tables.inodes q) lies.there.in_log at)

    -- EVERY LIVE BLOCK STAYS
    pub all_stay : (x : LiveBlock) (a : ℕ) → IsLiveAt (layout v) image c.rec c.tables x a → StaysUnder v.overlay x a
    all_stay (Table i) a lies = tt
    all_stay (OfNode q b) a lies = λ d is. block_stays q b a lies d is d.changed refl
