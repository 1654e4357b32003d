-- A store behind the unit that it wrote.
use Rattle.std.proofs.Common.{◌≡◌, ℕ, List, [], drop, filter, length, map, Option, refl, sym, ◌∙◌, ap, subst}
use Rattle.std.specs.List.{fold}
use Rattle.hl_media.specs.History.{History, MachineState}
use Rattle.hl_media.specs.Moments.{Ends}
use Rattle.hl_bytes.specs.declared.block.Block.{Block}
use Rattle.hl_bytes.specs.declared.records.BlockRecord.{BlockRecord}
use Rattle.hl_log.specs.declared.piece.Piece.{Piece}
use Rattle.hl_log.specs.declared.position.Position.{Position}
use Rattle.hl_log.specs.Cut.{AreCut, addresses}
use Rattle.hl_log.specs.Units.{HasWritten, moved}
use Rattle.hl_tables.specs.Values.{TableValues}
use Rattle.hl_tables.specs.Laying.{changed}
use Rattle.hl_nodes.specs.Contents.{Contents}
use Rattle.hl_nodes.specs.Listing.{HasMovedListed}
use Rattle.hl_nodes.specs.Moments.{HasMovedNodes, HasMovedSound}
use Rattle.hl_nodes.specs.Sound.{AreSlots}
use Rattle.hl_nodes.specs.Units.{blocks_placed}
use Rattle.hl_nodes.proofs.ListingLaws.{unit_moved_listed}
use Rattle.hl_nodes.proofs.MomentLaws.{unit_moved, unit_moved_sound}
use Rattle.hl_overlay.specs.declared.draft.NodeDraft.{NodeDraft}
use Rattle.hl_overlay.specs.Drafting.{is_freed}
use Rattle.hl_overlay.specs.DraftTables.{freed_of}
use Rattle.hl_overlay.specs.Overlays.{IsWholeOverlay, OverlayValue, unit_blocks}
use Rattle.hl_overlay.specs.Making.{AddsAll}
use Rattle.hl_overlaid.specs.Units.{unit_changes}
use Rattle.hl_overlaid.proofs.BehindLemmas.{behind_over, laid_noted, notes-inodes, placed-inodes}
use Rattle.hl_overlaid.proofs.UnitTables.{freed-placed, nowhere, own_record}
use Rattle.hl_tally.specs.Tally.{IsTally}
use Rattle.hl_tally.specs.Counting.{added, unit_counted}
use Rattle.hl_tally.proofs.WrittenLaws.{written_tally}
use Rattle.hl_store.specs.Values.{Reserved, StoreValue, layout, nodes_of, overlaid}
use Rattle.hl_store.specs.Shapes.{IsShaped}
use Rattle.hl_store.specs.Lying.{LiesOver}
use Rattle.hl_store.specs.Flushes.{FlushesAll, HasFlushed, MayLast}
use Rattle.hl_store.specs.Writing.{records_of}
use Rattle.hl_store.proofs.FlushLemmas as unit
use Rattle.hl_store.proofs.LayLemmas.{placed_slots}

-- the tables with freed numbers have the inodes that these give
freed_inodes : (s t : TableValues) (ds : List NodeDraft) → s.inodes ≡ t.inodes → (fold changed s (freed_of ds)).inodes ≡ (fold changed t (freed_of ds)).inodes
freed_inodes s t ds same =
    let kept = filter is_freed ds in
    ap (λ (x : TableValues). x.inodes) (freed-placed s kept)
    ∙ placed-inodes s t (map own_record kept) (map nowhere kept) same
    ∙ ap (λ (x : TableValues). x.inodes) (sym (freed-placed t kept))

freed_slots : (t : TableValues) (ds : List NodeDraft) → (fold changed t (freed_of ds)).slots ≡ t.slots
freed_slots t ds =
    let kept = filter is_freed ds in
    ap (λ (x : TableValues). x.slots) (freed-placed t kept) ∙ placed_slots t (map own_record kept) (map nowhere kept)

module _ {M : Type 0} (v : StoreValue M) (shaped : IsShaped v) (whole : IsWholeOverlay v.overlay)
    (plan : List ℕ) (bs : List (BlockRecord × Block)) (pieces : List Piece) (rest : List ℕ)
    (are_cut : AreCut (layout v) v.log.at.head v.clean (unit_blocks v.overlay) (length (unit_changes v.overlay v.notes)) pieces rest)
    (plan_is : plan ≡ addresses (layout v) pieces) (adds : AddsAll plan v.uses v.overlay.drafts.items v.overlay.blocks bs)
    (m : M) (q : Position) (t : TableValues) (o : OverlayValue) (r : Reserved) (used : ℕ) where
  abbrev pub behind : StoreValue M
  behind = record {
    log = record { machine = m; geometry = v.log.geometry; rec = v.log.rec; at = q };
    tables = t;
    notes = [];
    overlay = o;
    uses = v.uses;
    tally = record v.tally { live = fold (added (layout v).k) v.tally.live plan };
    lines = v.lines;
    clean = drop used v.clean;
    tseg_serial = v.tseg_serial;
    reserved = r;
    has_buffer = v.has_buffer;
  }

  module _ (at_is : q ≡ moved v.log.at q.head q.serial)
      (laid : t ≡ fold changed (blocks_placed v.tables (records_of bs) plan) (freed_of v.overlay.drafts.items)) (empty : o.drafts.items ≡ []) where
    pub slots_same : t.slots ≡ v.tables.slots
    slots_same = ap (λ (x : TableValues). x.slots) laid ∙ freed_slots (blocks_placed v.tables (records_of bs) plan) v.overlay.drafts.items ∙ placed_slots v.tables (records_of bs) plan

    module _ (c : Contents) (first : MachineState) (lies : LiesOver v c first) where
      inodes_are : t.inodes ≡ (unit.after v shaped whole plan bs pieces rest are_cut plan_is adds c first lies).tables.inodes
      inodes_are =
          let noted = fold changed c.tables v.notes in
          let same : v.tables.inodes ≡ noted.inodes = lies.inodes ∙ sym (notes-inodes c.tables v.notes (unit.notes_of_slots v shaped whole)) in
          let now = unit.is_now v shaped whole plan bs pieces rest are_cut plan_is adds c first lies in
          ap (λ (x : TableValues). x.inodes) laid
          ∙ freed_inodes (blocks_placed v.tables (records_of bs) plan) (blocks_placed noted (records_of bs) plan) v.overlay.drafts.items (placed-inodes v.tables noted (records_of bs) plan same)
          ∙ ap (λ (p : List ℕ). (fold changed (blocks_placed noted (records_of bs) p) (freed_of v.overlay.drafts.items)).inodes) plan_is
          ∙ ap (λ (x : TableValues). x.inodes) (sym (laid_noted (layout v) v.log.at v.clean (overlaid v) v.notes c bs pieces rest first now))

      has_flushed : (s : MachineState) → MayLast v c → HasWritten (layout v) v.log.at v.clean (unit.u v shaped whole plan bs pieces rest are_cut plan_is adds) q (drop used v.clean) first s
          → HasMovedNodes (layout v) v.log.at v.clean (unit.u v shaped whole plan bs pieces rest are_cut plan_is adds) q (drop used v.clean) first s
          → HasMovedSound (layout v) v.log.at v.clean (unit.u v shaped whole plan bs pieces rest are_cut plan_is adds) first s
          → HasMovedListed (layout v) v.log.at v.clean (unit.u v shaped whole plan bs pieces rest are_cut plan_is adds) first s
          → HasFlushed v behind c s
      has_flushed s may written nodes sounds lists =
          let g = layout v in
          let now = unit.is_now v shaped whole plan bs pieces rest are_cut plan_is adds c first lies in
          let after = unit.after v shaped whole plan bs pieces rest are_cut plan_is adds c first lies in
          let is = unit.is_unit v shaped whole plan bs pieces rest are_cut plan_is adds c first lies may in
          let sound = sounds c pieces rest (nodes_of v c) (unit.is_sound_unit v shaped whole plan bs pieces rest are_cut plan_is adds c first lies may) in
          let slots = unit.slots_behind v shaped whole plan bs pieces rest are_cut plan_is adds c first lies in
          record {
            contents = after;
            over = record {
              rests = nodes c pieces rest (nodes_of v c) is;
              sound = sound;
              listed = (lists c pieces rest (nodes_of v c) is lies.listed).listed;
              rec = lies.rec;
              inodes = inodes_are;
              slots = slots_same ∙ sym slots;
              serial = sym (unit.serial_behind v shaped whole plan bs pieces rest are_cut plan_is adds c first lies);
              possible = subst (λ x. AreSlots g x v.tseg_serial) (sym slots_same) lies.possible;
              over = behind_over g v.log.at v.clean (overlaid v) v.notes c bs pieces rest first now s.content (overlaid behind) empty slots_same;
              tally = subst (λ (p : List ℕ). IsTally g (overlaid behind) s.content after (unit_counted g p v.tally)) (sym plan_is)
                  (written_tally g v.log.at v.clean (overlaid v) v.notes c bs pieces rest first now q (drop used v.clean) s
                  (unit.numbered v shaped whole plan bs pieces rest are_cut plan_is adds c first lies may) written sound (overlaid behind) empty v.tally lies.tally);
            };
            rec = refl;
            nodes = refl;
          }

    -- BEHIND THE UNIT the store lies over contents with the nodes that it had
    pub flushed : (before now : Option History) → Ends before now (HasWritten (layout v) v.log.at v.clean (unit.u v shaped whole plan bs pieces rest are_cut plan_is adds) q (drop used v.clean))
        → Ends before now (FlushesAll v behind)
    flushed before now ends h e h' e' c lies may =
        let g = layout v in
        let u = unit.u v shaped whole plan bs pieces rest are_cut plan_is adds in
        has_flushed c _ lies _ may (ends h e h' e')
        (unit_moved g v.log.at v.clean before now u q (drop used v.clean) refl at_is ends h e h' e')
        (unit_moved_sound g v.log.at v.clean before now u q (drop used v.clean) ends h e h' e')
        (unit_moved_listed g v.log.at v.clean before now u q (drop used v.clean) refl at_is ends h e h' e')
