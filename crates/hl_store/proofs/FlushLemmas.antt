-- What the unit of a store leaves at each moment, and behind it.
use Rattle.std.proofs.Common.{◌≡◌, ◌⊎◌, inl, inr, ℕ, ◌+◌, All, List, [], ◌∷◌, length, Option, slice_index, refl, sym, ◌∙◌, ap, subst, arith}
use Rattle.std.proofs.lemmas.List.{length-map}
use Rattle.std.proofs.lemmas.List.Elements.{All-weaker}
use Rattle.std.proofs.lemmas.List.Sums.{sum_by-cons}
use Rattle.hl_media.specs.History.{History, Image, MachineState}
use Rattle.hl_media.specs.Moments.{Runs}
use Rattle.hl_addr.specs.Layout.{Layout}
use Rattle.hl_bytes.specs.declared.block.Block.{Block}
use Rattle.hl_bytes.specs.declared.records.BlockRecord.{BlockRecord}
use Rattle.hl_image.specs.declared.place.LogPlace.{LogPlace}
use Rattle.hl_log.specs.declared.piece.Piece.{Piece}
use Rattle.hl_log.specs.Cut.{AreCut, Goes, addresses, place_behind}
use Rattle.hl_log.specs.Free.{AreClean}
use Rattle.hl_log.specs.Units.{Brought, Numbered, WritesUnit}
use Rattle.hl_log.proofs.Cleans.{beside_first}
use Rattle.hl_log.proofs.Wraps.{runs_map}
use Rattle.hl_overlay.specs.Overlays.{IsWholeOverlay, unit_blocks}
use Rattle.hl_overlay.specs.declared.draft.NodeDraft.{NodeDraft}
use Rattle.hl_overlay.specs.DraftTables.{others_in}
use Rattle.hl_overlay.specs.Drafting.{count_for}
use Rattle.hl_overlay.specs.Making.{AddsAll}
use Rattle.hl_overlay.proofs.MakingLemmas.{brings}
use Rattle.hl_nodes.specs.Contents.{Contents, next_tertiary}
use Rattle.hl_nodes.specs.Listing.{HoldsListed, MovesListed}
use Rattle.hl_nodes.specs.Moments.{IsSoundUnitOf, IsUnitOf, MovesSound}
use Rattle.hl_nodes.specs.Sound.{AreSlots, HasSound, KeepsSound}
use Rattle.hl_nodes.specs.Units.{Makes, after_unit}
use Rattle.hl_nodes.proofs.Determined.{one_contents}
use Rattle.hl_nodes.proofs.FateLaws.{fates_make}
use Rattle.hl_nodes.proofs.ListingLaws.{unit_moves_listed}
use Rattle.hl_nodes.proofs.MomentLaws.{unit_moves_sound}
use Rattle.hl_nodes.proofs.UnitLaws.{closed}
use Rattle.hl_overlaid.specs.NodesNow.{IsOverlaid}
use Rattle.hl_overlaid.specs.Units.{IsOfSlots, IsUnitNow, brought_by, unit_changes}
use Rattle.hl_overlaid.proofs.UnitMakes.{makes_now, slots_now}
use Rattle.hl_overlaid.proofs.SerialLemmas.{serial_now}
use Rattle.hl_store.specs.Values.{StoreValue, layout, nodes_of, overlaid}
use Rattle.hl_store.specs.Shapes.{IsNoteOf, IsShaped}
use Rattle.hl_store.specs.Lying.{LiesOver}
use Rattle.hl_store.specs.Flushes.{Flushes, HoldsEither, MayLast}
use Rattle.hl_store.proofs.RunPairs.{runs_both}
use Rattle.hl_store.proofs.SiteRecords.{unit_of_site}

-- a unit has as many blocks as its drafts bring besides the new ones
pub adds_count : (plan uses : List ℕ) (ds : List NodeDraft) (old new : List (BlockRecord × Block)) → AddsAll plan uses ds old new → length new ≡ length old + others_in ds
adds_count plan uses [] old new same = ap length same ∙ (let n : length old ≡ length old + 0 = omega arith in n)
adds_count plan uses (d ∷ ds) old new (middle, first, rest) =
    let one = brings plan (slice_index uses d.ino) d old middle d.changed d.shape refl refl first in
    let more = adds_count plan uses ds middle new rest in
    let sum : others_in (d ∷ ds) ≡ count_for d + others_in ds = sum_by-cons count_for d ds in
    omega arith

-- behind one part
clean_then : (g : Layout) (at : LogPlace) (n : ℕ) (clean : List ℕ) (next : LogPlace) (more : List ℕ) → Goes g at n clean next more → AreClean g at.seg clean → AreClean g next.seg more
clean_then g at n clean next more (inl near) cleans = subst (AreClean g next.seg) (sym near.3) (subst (λ (s : ℕ). AreClean g s clean) (sym near.1) cleans)
clean_then g at n clean next more (inr far) cleans = beside_first g at.seg next.seg more (subst (AreClean g at.seg) far.1 cleans)

-- behind a cut of clean segments those that are left are clean beside the head
pub clean_behind : (g : Layout) (at : LogPlace) (clean : List ℕ) (b t : ℕ) (pieces : List Piece) (rest : List ℕ) → AreCut g at clean b t pieces rest → AreClean g at.seg clean → AreClean g (place_behind at pieces).seg rest
clean_behind g at clean b t [] rest cut cleans = absurd cut
clean_behind g at clean b t (p ∷ []) rest (takes, blocks, tables) cleans = clean_then g at p.blocks clean p.next rest takes.goes cleans
clean_behind g at clean b t (p ∷ q ∷ ps) rest (more, takes, some, cut) cleans = clean_behind g p.next more _ _ (q ∷ ps) rest cut (clean_then g at p.blocks clean p.next more takes.goes cleans)

module _ {M : Type 0} (v : StoreValue M) (shaped : IsShaped v) (whole : IsWholeOverlay v.overlay) where
  pub is_overlaid : IsOverlaid (layout v) (overlaid v)
  is_overlaid = record { table = whole.table; named = whole.named; numbers = shaped.drafts; each_use = shaped.uses }

  pub notes_of_slots : All IsOfSlots v.notes
  notes_of_slots = All-weaker (IsNoteOf (layout v)) IsOfSlots (λ r is. is.0) v.notes shaped.notes

  module _ (plan : List ℕ) (bs : List (BlockRecord × Block)) (pieces : List Piece) (rest : List ℕ)
      (are_cut : AreCut (layout v) v.log.at.head v.clean (unit_blocks v.overlay) (length (unit_changes v.overlay v.notes)) pieces rest)
      (plan_is : plan ≡ addresses (layout v) pieces) (adds : AddsAll plan v.uses v.overlay.drafts.items v.overlay.blocks bs) where
    abbrev pub u : Brought
    u = brought_by bs (unit_changes v.overlay v.notes)

    pub size : length bs ≡ unit_blocks v.overlay
    size = adds_count plan v.uses v.overlay.drafts.items v.overlay.blocks bs adds

    records : length u.records ≡ unit_blocks v.overlay
    records = length-map bs (λ (b : BlockRecord × Block). b.0) ∙ size

    module _ (c : Contents) (first : MachineState) (lies : LiesOver v c first) where
      pub is_now : IsUnitNow (layout v) v.log.at v.clean (overlaid v) v.notes c bs pieces rest first
      is_now = record {
        rests = lies.rests;
        whole = is_overlaid;
        over = lies.over;
        notes_are = notes_of_slots;
        slots_are = lies.slots;
        are_cut = subst (λ n. AreCut (layout v) v.log.at.head v.clean n (length (unit_changes v.overlay v.notes)) pieces rest) (sym size) are_cut;
        adds = subst (λ p. AddsAll p v.uses v.overlay.drafts.items v.overlay.blocks bs) plan_is adds;
      }

      pub cut_of : AreCut (layout v) v.log.at.head v.clean (length u.records) (length u.changes) pieces rest
      cut_of = subst (λ n. AreCut (layout v) v.log.at.head v.clean n (length (unit_changes v.overlay v.notes)) pieces rest) (sym records) are_cut

      pub makes : Makes (layout v) first.content c u (addresses (layout v) pieces) (nodes_of v c)
      makes = fates_make (layout v) v.log.at v.clean c first lies.rests u pieces rest cut_of (nodes_of v c)
          (makes_now (layout v) v.log.at v.clean (overlaid v) v.notes c bs pieces rest first is_now)

      abbrev pub after : Contents
      after = after_unit (layout v) v.log.at c u pieces (nodes_of v c)

      pub serial_behind : next_tertiary after ≡ v.tseg_serial
      serial_behind = serial_now (layout v) v.log.at v.clean (overlaid v) v.notes c bs pieces rest first is_now (nodes_of v c) ∙ sym lies.serial

      pub slots_behind : after.tables.slots ≡ v.tables.slots
      slots_behind = slots_now (layout v) v.log.at v.clean (overlaid v) v.notes c bs pieces rest first is_now

      module _ (may : MayLast v c) where
        pub numbered : Numbered (layout v) v.log.at v.clean (length u.records) (length u.changes)
        numbered = subst (λ n. Numbered (layout v) v.log.at v.clean n (length (unit_changes v.overlay v.notes))) (sym records) may.serials

        keeps : KeepsSound (layout v) u after
        keeps = record {
          of = unit_of_site v shaped whole plan bs adds;
          root = may.root;
          root_is = may.root_is;
          root_dir = may.root_dir;
          away_once = may.away_once;
          slots = subst (λ n. AreSlots (layout v) after.tables.slots n) (sym serial_behind) (subst (λ t. AreSlots (layout v) t v.tseg_serial) (sym slots_behind) lies.possible);
        }

        pub is_unit : IsUnitOf (layout v) v.log.at v.clean u c pieces rest (nodes_of v c) first
        is_unit = record { rests = lies.rests; are_cut = cut_of; makes = makes; numbered = numbered }

        pub is_sound_unit : IsSoundUnitOf (layout v) v.log.at v.clean u c pieces rest (nodes_of v c) first
        is_sound_unit = record { is = is_unit; sound = lies.sound; keeps = keeps }

        -- an image with the contents before the unit or those behind it, sound and listed
        holds_either : (image : Image) → HasSound (layout v) image c ⊎ HasSound (layout v) image after → HoldsListed (layout v) image c ⊎ HoldsListed (layout v) image after → HoldsEither v c image
        holds_either image (inl sound) (inl listed) = inl (record { sound = sound; listed = listed })
        holds_either image (inr sound) (inr listed) = inr (record { contents = after; holds = record { sound = sound; listed = listed }; rec = refl; nodes = refl; slots = slots_behind })
        holds_either image (inl sound) (inr listed) = inl (record { sound = sound; listed = subst (HoldsListed (layout v) image) (one_contents (layout v) image after c listed.has sound.has) listed })
        holds_either image (inr sound) (inl listed) = inl (record { sound = subst (HasSound (layout v) image) (one_contents (layout v) image after c sound.has listed.has) sound; listed = listed })

    -- AT EACH MOMENT of the writing of the unit
    flushes : (first s : MachineState) → WritesUnit (layout v) v.log.at v.clean u first s → MovesSound (layout v) v.log.at v.clean u first s → MovesListed (layout v) v.log.at v.clean u first s → Flushes v first s
    flushes first s writes sound listed c lies may image leaves chance =
        let kept = (writes c.parts lies.rests.at_rest (closed (layout v) v.log.at v.clean c first lies.rests) (numbered c first lies may) image leaves chance).1 in (
          holds_either c first lies may image
              (sound c pieces rest (nodes_of v c) (is_sound_unit c first lies may) image leaves chance)
              (listed c pieces rest (nodes_of v c) (is_unit c first lies may) lies.listed image leaves chance),
          kept,
        )

    pub flush_runs : (before now : Option History) → Runs before now (WritesUnit (layout v) v.log.at v.clean u) → Runs before now (Flushes v)
    flush_runs before now run =
        let g = layout v in
        let sound = unit_moves_sound g v.log.at v.clean before now u run in
        let listed = unit_moves_listed g v.log.at v.clean before now u run in
        let both = runs_both before now (WritesUnit g v.log.at v.clean u) (MovesSound g v.log.at v.clean u) run sound in
        let all = runs_both before now (λ first s. WritesUnit g v.log.at v.clean u first s × MovesSound g v.log.at v.clean u first s) (MovesListed g v.log.at v.clean u) both listed in
        runs_map before now (λ first s. (WritesUnit g v.log.at v.clean u first s × MovesSound g v.log.at v.clean u first s) × MovesListed g v.log.at v.clean u first s) (Flushes v) all
        (λ first s all. flushes first s all.0.0 all.0.1 all.1)
