-- The records of a store's unit are of blocks and changes of its site.
use Rattle.std.proofs.Common.{◌≡◌, inl, inr, ℕ, suc, ◌<◌, ◌≤◌, All, List, [], ◌∷◌, length, sum, slice_get, slice_index, filter, get_or, Option, Some, None, option_map, refl, sym, ◌∙◌, ap, subst, arith}
use Rattle.std.proofs.lemmas.Option.{none-some, slice_get-get_or}
use Rattle.std.proofs.lemmas.List.Elements.{All-append, All-filter, All-map, All-push, All-weaker}
use Rattle.hl_addr.specs.Layout.{table_blocks}
use Rattle.hl_bytes.specs.declared.block.Block.{Block}
use Rattle.hl_bytes.specs.declared.records.BlockRecord.{BlockRecord}
use Rattle.hl_summary.specs.Ranges.{IsBlockOf, IsChangeOf, IsInodeNumber}
use Rattle.hl_log.specs.Loads.{AreOf}
use Rattle.hl_overlay.specs.declared.pointers.Pointer.{Pointer}
use Rattle.hl_overlay.specs.declared.pointers.Pointer.TheVariants.{New}
use Rattle.hl_overlay.specs.declared.draft.NodeDraft.{NodeDraft}
use Rattle.hl_overlay.specs.declared.draft.Shape.{Shape}
use Rattle.hl_overlay.specs.Pointing.{where_is}
use Rattle.hl_overlay.specs.Drafting.{is_freed}
use Rattle.hl_overlay.specs.DraftTables.{DraftTable, draft_of, freed_of, freed_record}
use Rattle.hl_overlay.specs.Overlays.{IsWholeOverlay, where_in}
use Rattle.hl_overlay.specs.Making.{AddsAll, AddsPointerBlock, AddsWanted, shape_wanted}
use Rattle.hl_overlaid.specs.Units.{unit_changes}
use Rattle.hl_store.specs.Values.{StoreValue, layout}
use Rattle.hl_store.specs.Shapes.{IsNoteOf, IsShaped}
use Rattle.hl_store.specs.Writing.{records_of}

module _ (inodes tables : ℕ) where
  abbrev IsOf : BlockRecord × Block → Type 0
  IsOf b = IsBlockOf inodes tables b.0

  -- the number of a draft is one that a node may have
  abbrev IsNumbered : NodeDraft → Type 0
  IsNumbered d = IsInodeNumber inodes d.ino

  -- the pointer block and the inode of a draft
  pointers_of_site : (d : NodeDraft) (block : Block) → IsNumbered d → IsOf (record { ino = d.ino; index = 4294967294 }, block)
  pointers_of_site d block number = inr (inr (inl refl), number)

  inode_of_site : (d : NodeDraft) (block : Block) → IsNumbered d → IsOf (record { ino = d.ino; index = 4294967295 }, block)
  inode_of_site d block number = inr (inr (inr refl), number)

  middle_of_site : (plan : List ℕ) (d : NodeDraft) (old new : List (BlockRecord × Block)) (single : ℕ) → AddsPointerBlock plan d old new single → IsNumbered d → All IsOf old → All IsOf new
  middle_of_site plan d old new single (inl same) number all = subst (All IsOf) (sym same.0) all
  middle_of_site plan d old new single (inr (far, none, (block, is, at, names))) number all =
      subst (All IsOf) (sym is) (All-push IsOf old (record { ino = d.ino; index = 4294967294 }, block) all (pointers_of_site d block number))

  one_of_site : (plan : List ℕ) (used : ℕ) (d : NodeDraft) (shape : Option Shape) (old new : List (BlockRecord × Block)) → AddsWanted plan used d shape old new → IsNumbered d → All IsOf old → All IsOf new
  one_of_site plan used d None old new same number all = subst (All IsOf) (sym same) all
  one_of_site plan used d (Some shape) old new adds number all =
      subst (All IsOf) (sym adds.inode.is)
      (All-push IsOf adds.middle (record { ino = d.ino; index = 4294967295 }, adds.inode.block) (middle_of_site plan d old adds.middle adds.single adds.pointer_block number all)
      (inode_of_site d adds.inode.block number))

  -- the blocks of a unit, where its new blocks and its drafts are of the site
  all_of_site : (plan uses : List ℕ) (ds : List NodeDraft) (old new : List (BlockRecord × Block)) → AddsAll plan uses ds old new
      → ((k : ℕ) (d : NodeDraft) → slice_get ds k ≡ Some d → IsNumbered d) → All IsOf old → All IsOf new
  all_of_site plan uses [] old new same numbered all = subst (All IsOf) (sym same) all
  all_of_site plan uses (d ∷ ds) old new (middle, first, rest) numbered all =
      all_of_site plan uses ds middle new rest (λ k e at. numbered (suc k) e at)
      (one_of_site plan (slice_index uses d.ino) d (shape_wanted d) old middle first (numbered 0 d refl) all)

-- what holds of each member holds of all
pub All-from_slice_get : {A : Type 0} (P : A → Type 0) (xs : List A) → ((k : ℕ) (x : A) → slice_get xs k ≡ Some x → P x) → All P xs
All-from_slice_get P xs each k d lt = each k (get_or xs k d) (slice_get-get_or xs k d lt)

-- a number that has a pointer is drafted
drafted_at : (t : DraftTable) (ino i : ℕ) (p : Pointer) → where_in t ino i ≡ Some p → (d : NodeDraft) × (draft_of t ino ≡ Some d)
drafted_at t ino i p is = by (draft_of t ino) refl
  where
    by : (o : Option NodeDraft) → draft_of t ino ≡ o → (d : NodeDraft) × (draft_of t ino ≡ Some d)
    by None none = absurd (none-some p (sym (ap (option_map (λ (d : NodeDraft). where_is d.pointers i)) none) ∙ is))
    by (Some d) there = (d, there)

module _ {M : Type 0} (v : StoreValue M) (shaped : IsShaped v) (whole : IsWholeOverlay v.overlay) where
  numbered : (k : ℕ) (d : NodeDraft) → slice_get v.overlay.drafts.items k ≡ Some d → IsInodeNumber (layout v).inodes d.ino
  numbered k d at = ((whole.table.drafts k d at).number, subst (λ n. d.ino < n) shaped.drafts (whole.table.placed k d at).0)

  new_of_site : (n : ℕ) (b : BlockRecord × Block) → slice_get v.overlay.blocks n ≡ Some b → IsOf (layout v).inodes (table_blocks (layout v)) b
  new_of_site n b at =
      let owned = whole.named.owned n b at in
      let small = whole.named.small n b at in
      let d = drafted_at v.overlay.drafts b.0.ino b.0.index (New n) owned.1 in
      let own = whole.table.own b.0.ino d.0 owned.0 d.1 in
      inr (inl (omega arith), (subst (λ k. 1 ≤ k) own (whole.table.drafts (slice_index v.overlay.drafts.places b.0.ino) d.0 d.1).number, subst (λ k. b.0.ino < k) shaped.drafts owned.0))

  blocks_of_site : All (IsOf (layout v).inodes (table_blocks (layout v))) v.overlay.blocks
  blocks_of_site = All-from_slice_get (IsOf (layout v).inodes (table_blocks (layout v))) v.overlay.blocks new_of_site

  changes_of_site : All (IsChangeOf (layout v).inodes (sum (layout v).volumes) (length (layout v).volumes)) (unit_changes v.overlay v.notes)
  changes_of_site =
      let Of = IsChangeOf (layout v).inodes (sum (layout v).volumes) (length (layout v).volumes) in
      let drafts = All-from_slice_get (λ d. IsInodeNumber (layout v).inodes d.ino) v.overlay.drafts.items numbered in
      All-append Of (freed_of v.overlay.drafts.items) v.notes
      (All-map Of freed_record (filter is_freed v.overlay.drafts.items)
      (All-weaker (λ d. IsInodeNumber (layout v).inodes d.ino) (λ d. Of (freed_record d)) (λ d number. inl (refl, number, refl, refl)) (filter is_freed v.overlay.drafts.items)
      (All-filter is_freed (λ d. IsInodeNumber (layout v).inodes d.ino) v.overlay.drafts.items drafts)))
      (All-weaker (IsNoteOf (layout v)) Of (λ r is. is.1) v.notes shaped.notes)

  -- THE UNIT IS OF THE SITE
  pub unit_of_site : (plan : List ℕ) (bs : List (BlockRecord × Block)) → AddsAll plan v.uses v.overlay.drafts.items v.overlay.blocks bs → AreOf (layout v) (records_of bs) (unit_changes v.overlay v.notes)
  unit_of_site plan bs adds = record {
    blocks = All-map (IsBlockOf (layout v).inodes (table_blocks (layout v))) (λ b. b.0) bs
        (all_of_site (layout v).inodes (table_blocks (layout v)) plan v.uses v.overlay.drafts.items v.overlay.blocks bs adds numbered blocks_of_site);
    tables = changes_of_site;
  }
