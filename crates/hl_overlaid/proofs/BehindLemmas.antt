-- Behind the unit of an overlay: nothing is drafted, and the tables are those that its blocks and changes make.
use Rattle.std.proofs.Common.{◌≡◌, ◌≢◌, ◌⊎◌, inl, inr, ℕ, ◌<◌, Bool, true, false, List, [], ◌∷◌, ◌++◌, length, get_or, set, slice_get, Some, refl, sym, ◌∙◌, ap, subst, append-nil}
use Rattle.std.specs.Prelude.{All, Contains, if◌then◌else◌, map, slice_index, ◌==◌}
use Rattle.std.specs.List.{filter, fold}
use Rattle.std.proofs.lemmas.Grind.{same_number_lists}
use Rattle.std.proofs.lemmas.List.{length-replicate}
use Rattle.std.proofs.lemmas.List.Sums.{fold-append}
use Rattle.hl_media.specs.History.{Image, MachineState}
use Rattle.hl_addr.specs.Layout.{Layout}
use Rattle.hl_bytes.specs.declared.block.Block.{Block}
use Rattle.hl_bytes.specs.declared.records.BlockRecord.{BlockRecord}
use Rattle.hl_bytes.specs.declared.records.TableRecord.{TableRecord}
use Rattle.hl_log.specs.declared.piece.Piece.{Piece}
use Rattle.hl_log.specs.declared.position.Position.{Position}
use Rattle.hl_log.specs.Cut.{addresses}
use Rattle.hl_log.specs.Units.{Brought}
use Rattle.hl_tseg.specs.SlotTable.{SlotTable}
use Rattle.hl_tables.specs.Values.{TableValues}
use Rattle.hl_tables.specs.Laying.{block_laid, changed, with_inode}
use Rattle.hl_overlay.specs.declared.draft.NodeDraft.{NodeDraft}
use Rattle.hl_overlay.specs.Drafting.{is_freed}
use Rattle.hl_overlay.specs.DraftTables.{freed_of, freed_record}
use Rattle.hl_nodes.specs.Contents.{Contents}
use Rattle.hl_nodes.specs.Fates.{KeepsSlots, freed}
use Rattle.hl_nodes.specs.Units.{after_unit, blocks_placed, unit_laid}
use Rattle.hl_nodes.proofs.LaidTables.{laid_are_tables}
use Rattle.hl_nodes.proofs.Laying.{laid-k}
use Rattle.hl_nodes.proofs.Lookups.{changes-freed, changes-length, changes-other, placed-length, placed-other, placed-own, unit_laid-slots, unit_laid-used}
use Rattle.hl_nodes.proofs.Membership.{in_append}
use Rattle.hl_overlaid.specs.NodesNow.{Overlaid, nodes_now}
use Rattle.hl_overlaid.specs.Over.{IsOver}
use Rattle.hl_overlaid.specs.Units.{IsOfSlots, IsUnitNow, brought_by, unit_changes}
use Rattle.hl_overlaid.proofs.NowLemmas.{none_some}
use Rattle.hl_overlaid.proofs.UnitBlocks.{in_filter, in_map, map_at}
use Rattle.hl_overlaid.proofs.UnitTables.{append_has, changes-slots, freed-placed, not_freeing, nowhere, own_record}
use Rattle.hl_overlaid.proofs.UnitMakes.{brings_once, frees_others, owner, record_there, size, slots_now}

no_items : (ds : List NodeDraft) (k : ℕ) (d : NodeDraft) → ds ≡ [] → slice_get ds k ≡ Some d → ⊥
no_items ds k d none at = none_some (sym (ap (λ xs. slice_get xs k) none) ∙ at)

-- an overlay without drafts is over all contents whose slots it has
pub over_none : (g : Layout) (o : Overlaid) (image : Image) (c : Contents) → o.overlay.drafts.items ≡ [] → o.slots ≡ c.tables.slots → IsOver g o image c
over_none g o image c none slots = record {
  drafts = λ k d at. absurd (no_items o.overlay.drafts.items k d none at);
  away = λ k d i addr serial position at lt here. absurd (no_items o.overlay.drafts.items k d none at);
  slots = λ ino node is. subst (λ (t : SlotTable). KeepsSlots c.tables.slots t node) (sym slots) (λ number i serial position block holds. holds);
}

-- laying blocks keeps all but inodes, and those it makes of the inodes before
block_laid-k : (t : TableValues) (a : ℕ) (r : BlockRecord) (own : Bool) → (if own then with_inode t r.ino a else t).k ≡ t.k
block_laid-k t a r true = refl
block_laid-k t a r false = refl

placed-k : (t : TableValues) (rs : List BlockRecord) (plan : List ℕ) → (blocks_placed t rs plan).k ≡ t.k
placed-k t [] plan = refl
placed-k t (r ∷ rs) [] = refl
placed-k t (r ∷ rs) (a ∷ plan) = placed-k (block_laid t a r) rs plan ∙ block_laid-k t a r (r.index == 4294967295)

block_laid-inodes : (s t : TableValues) (a : ℕ) (r : BlockRecord) → s.inodes ≡ t.inodes → (own : Bool) → (if own then with_inode s r.ino a else s).inodes ≡ (if own then with_inode t r.ino a else t).inodes
block_laid-inodes s t a r same true = ap (λ l. set l r.ino a) same
block_laid-inodes s t a r same false = same

pub placed-inodes : (s t : TableValues) (rs : List BlockRecord) (plan : List ℕ) → s.inodes ≡ t.inodes → (blocks_placed s rs plan).inodes ≡ (blocks_placed t rs plan).inodes
placed-inodes s t [] plan same = same
placed-inodes s t (r ∷ rs) [] same = same
placed-inodes s t (r ∷ rs) (a ∷ plan) same = placed-inodes (block_laid s a r) (block_laid t a r) rs plan (block_laid-inodes s t a r same (r.index == 4294967295))

-- notes say nothing of inodes
pub notes-inodes : (t : TableValues) (notes : List TableRecord) → All IsOfSlots notes → (fold changed t notes).inodes ≡ t.inodes
notes-inodes t notes of = same_number_lists (fold changed t notes).inodes t.inodes (changes-length t notes) (λ k lt. changes-other t notes k (λ r i kind same. not_freeing notes of r i kind))

notes-k : (t : TableValues) (notes : List TableRecord) → (fold changed t notes).k ≡ t.k
notes-k t notes = laid-k t 0 0 [] notes

notes-used : (t : TableValues) (notes : List TableRecord) → (fold changed t notes).used ≡ t.used
unfolding unit_laid
notes-used t notes = unit_laid-used t (record { closes = true; records = []; contents = []; changes = notes }) []

same_tables : (s t : TableValues) → s.k ≡ t.k → s.inodes ≡ t.inodes → s.used ≡ t.used → s.slots ≡ t.slots → s ≡ t
same_tables s t k inodes used slots = ap (λ n. record s { k = n }) k ∙ ap (λ l. record s { k = t.k; inodes = l }) inodes ∙ ap (λ l. record s { k = t.k; inodes = t.inodes; used = l }) used ∙ ap (λ x. record { k = t.k; inodes = t.inodes; used = t.used; slots = x }) slots

-- the notes may be made in the tables before the unit is
pub noted_before : (t : TableValues) (rs : List BlockRecord) (plan : List ℕ) (ds : List NodeDraft) (notes : List TableRecord) → All IsOfSlots notes
    → fold changed (blocks_placed t rs plan) (map freed_record ds ++ notes) ≡ fold changed (blocks_placed (fold changed t notes) rs plan) (map freed_record ds)
unfolding unit_laid
noted_before t rs plan ds notes of = same_tables (fold changed (blocks_placed t rs plan) (map freed_record ds ++ notes)) (fold changed (blocks_placed (fold changed t notes) rs plan) (map freed_record ds))
    (notes-k (blocks_placed t rs plan) (map freed_record ds ++ notes) ∙ placed-k t rs plan ∙ sym (notes-k (blocks_placed (fold changed t notes) rs plan) (map freed_record ds) ∙ placed-k (fold changed t notes) rs plan ∙ notes-k t notes))
    inodes
    (unit_laid-used t (record { closes = true; records = rs; contents = []; changes = map freed_record ds ++ notes }) plan ∙ sym (unit_laid-used (fold changed t notes) (record { closes = true; records = rs; contents = []; changes = map freed_record ds }) plan ∙ notes-used t notes))
    (unit_laid-slots t (record { closes = true; records = rs; contents = []; changes = map freed_record ds ++ notes }) plan ∙ changes-slots t ds notes
    ∙ sym (unit_laid-slots (fold changed t notes) (record { closes = true; records = rs; contents = []; changes = map freed_record ds }) plan
    ∙ ap (λ cs. (fold changed (fold changed t notes) cs).slots) (sym (append-nil (map freed_record ds))) ∙ changes-slots (fold changed t notes) ds []))
  where
    inodes : (fold changed (blocks_placed t rs plan) (map freed_record ds ++ notes)).inodes ≡ (fold changed (blocks_placed (fold changed t notes) rs plan) (map freed_record ds)).inodes
    inodes =
        ap (λ (x : TableValues). x.inodes) (fold-append changed (blocks_placed t rs plan) (map freed_record ds) notes)
        ∙ notes-inodes (fold changed (blocks_placed t rs plan) (map freed_record ds)) notes of
        ∙ ap (λ (x : TableValues). x.inodes) (freed-placed (blocks_placed t rs plan) ds)
        ∙ placed-inodes (blocks_placed t rs plan) (blocks_placed (fold changed t notes) rs plan) (map own_record ds) (map nowhere ds) (placed-inodes t (fold changed t notes) rs plan (sym (notes-inodes t notes of)))
        ∙ sym (ap (λ (x : TableValues). x.inodes) (freed-placed (blocks_placed (fold changed t notes) rs plan) ds))

module _ (g : Layout) (p : Position) (clean : List ℕ) (o : Overlaid) (notes : List TableRecord) (c : Contents) (bs : List (BlockRecord × Block)) (pieces : List Piece) (rest : List ℕ) (first : MachineState) (is : IsUnitNow g p clean o notes c bs pieces rest first) where
  abbrev u : Brought
  u = brought_by bs (unit_changes o.overlay notes)

  abbrev plan : List ℕ
  plan = addresses g pieces

  abbrev laid_now : TableValues
  laid_now = unit_laid c.tables u plan

  inodes_count : length c.tables.inodes ≡ g.inodes
  inodes_count = (laid_are_tables g first.content c is.rests.has).shape.inodes ∙ length-replicate g.inodes 4294967295

  in_tables : (ino : ℕ) → ino < length o.overlay.drafts.places → ino < length c.tables.inodes
  in_tables ino lt = subst (λ n. ino < n) (is.whole.numbers ∙ sym inodes_count) lt

  -- each inode of the unit lies where its block does
  pub laid_written : (n : ℕ) (b : BlockRecord × Block) → slice_get bs n ≡ Some b → b.0.index ≡ 4294967295 → slice_index laid_now.inodes b.0.ino ≡ slice_index plan n
  unfolding unit_laid
  laid_written n b at own =
      let w = owner g p clean o notes c bs pieces rest first is n b at own in
      let there = record_there g p clean o notes c bs pieces rest first is n b at in
      let record_is : b.0 ≡ record { ino = b.0.ino; index = 4294967295 } = ap (λ k. record { ino = b.0.ino; index = k }) own in
      let named : (d : BlockRecord) → get_or u.records n d ≡ b.0 = (λ d. map_at (λ (x : BlockRecord × Block). x.0) bs n b d at) in
      changes-other (blocks_placed c.tables u.records plan) u.changes b.0.ino (λ r i kind same. frees_others g p clean o notes c bs pieces rest first is b.0 r (n, there, named b.0) i own kind (sym same))
      ∙ placed-own c.tables u.records plan n b.0.ino there (size g p clean o notes c bs pieces rest first is) (named (record { ino = b.0.ino; index = 4294967295 }) ∙ record_is)
      (λ i d low high own_i same. brings_once g p clean o notes c bs pieces rest first is n i d low high (ap (λ (r : BlockRecord). r.index) (named d) ∙ own) own_i (ap (λ (r : BlockRecord). r.ino) (named d) ∙ sym same))
      (in_tables b.0.ino (subst (λ k. k < length o.overlay.drafts.places) w.2 w.3))

  -- each freed number has none
  pub laid_freed : (ino : ℕ) → Contains (freed_of o.overlay.drafts.items) (freed ino) → slice_index laid_now.inodes ino ≡ 4294967295
  unfolding unit_laid
  laid_freed ino i =
      let m = in_map freed_record (filter is_freed o.overlay.drafts.items) (freed ino) i in
      let f = in_filter is_freed o.overlay.drafts.items m.0 m.1 m.2 in
      let lt : ino < length o.overlay.drafts.places = subst (λ n. n < length o.overlay.drafts.places) (ap (λ (r : TableRecord). r.a) m.3) (is.whole.table.placed f.0 m.1 f.1).0 in
      changes-freed (blocks_placed c.tables u.records plan) u.changes ino (subst (λ n. ino < n) (sym (placed-length c.tables u.records plan)) (in_tables ino lt)) (append_has (freed_of o.overlay.drafts.items) notes (freed ino) i)

  -- and each other number lies where it lay
  pub laid_others : (ino : ℕ) → ((n : ℕ) (b : BlockRecord × Block) → slice_get bs n ≡ Some b → b.0.index ≡ 4294967295 → b.0.ino ≢ ino) → ¬ Contains (freed_of o.overlay.drafts.items) (freed ino) → slice_index laid_now.inodes ino ≡ slice_index c.tables.inodes ino
  unfolding unit_laid
  laid_others ino none kept =
      changes-other (blocks_placed c.tables u.records plan) u.changes ino (λ r i kind same. frees r i kind same (in_append (freed_of o.overlay.drafts.items) notes r i))
      ∙ placed-other c.tables u.records plan ino (λ r i own same. (let m = in_map (λ (x : BlockRecord × Block). x.0) bs r i in none m.0 m.1 m.2 (ap (λ (x : BlockRecord). x.index) m.3 ∙ own) (ap (λ (x : BlockRecord). x.ino) m.3 ∙ same)))
    where
      frees : (r : TableRecord) → Contains u.changes r → r.kind ≡ 1 → r.a ≡ ino → Contains (freed_of o.overlay.drafts.items) r ⊎ Contains notes r → ⊥
      frees r i kind same (inl here) =
          let m = in_map freed_record (filter is_freed o.overlay.drafts.items) r here in
          let r_is : r ≡ freed ino = sym m.3 ∙ ap freed (ap (λ (x : TableRecord). x.a) m.3 ∙ same) in
          kept (subst (Contains (freed_of o.overlay.drafts.items)) r_is here)
      frees r i kind same (inr note) = not_freeing notes is.notes_are r note kind

  -- in all, they are the tables with the notes, with the blocks and the freed numbers
  pub laid_noted : laid_now ≡ fold changed (blocks_placed (fold changed c.tables notes) u.records plan) (freed_of o.overlay.drafts.items)
  unfolding unit_laid
  laid_noted = noted_before c.tables u.records plan (filter is_freed o.overlay.drafts.items) notes is.notes_are

  -- BEHIND THE UNIT an overlay without drafts over those slots is over the contents
  pub behind_over : (image : Image) (behind : Overlaid) → behind.overlay.drafts.items ≡ [] → behind.slots ≡ o.slots → IsOver g behind image (after_unit g p c u pieces (nodes_now o c.nodes))
  behind_over image behind none slots = over_none g behind image (after_unit g p c u pieces (nodes_now o c.nodes)) none (slots ∙ sym (slots_now g p clean o notes c bs pieces rest first is))
