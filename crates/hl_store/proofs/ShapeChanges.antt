-- A drafted number is of another shape, or of none.
use Rattle.std.proofs.Common.{◌≡◌, ℕ, ◌<◌, Option, Some, refl, sym, ◌∙◌, ap, subst}
use Rattle.std.specs.Prelude.{slice_index, option_map}
use Rattle.hl_media.specs.History.{MachineState}
use Rattle.hl_nodes.specs.Contents.{Contents}
use Rattle.hl_overlay.specs.declared.draft.NodeDraft.{NodeDraft}
use Rattle.hl_overlay.specs.declared.draft.Shape.{Shape}
use Rattle.hl_overlay.specs.Drafting.{with_shape}
use Rattle.hl_overlay.specs.DraftTables.{CanShape, Redrafts, draft_of}
use Rattle.hl_overlay.specs.Overlays.{IsWholeOverlay, OverlayValue, Shapes}
use Rattle.hl_overlaid.specs.Changes.{KeepsKind, ShapesNow}
use Rattle.hl_overlaid.proofs.ShapeLemmas.{shaped_now, shaped_over}
use Rattle.hl_tally.specs.Tally.{IsTally, Tally}
use Rattle.hl_tally.specs.Counting.{shape_counted}
use Rattle.hl_tally.proofs.ShapeLaws.{shape_tally}
use Rattle.hl_store.specs.Values.{StoreValue, layout, overlaid}
use Rattle.hl_store.specs.Shapes.{IsNumber, IsShaped}
use Rattle.hl_store.specs.Lying.{LiesOver}
use Rattle.hl_store.specs.Footings.{HasChargeRoom}
use Rattle.hl_store.specs.Changes.{Reshapes}
use Rattle.hl_store.proofs.ChargeRoom.{charge_room}
use Rattle.hl_store.proofs.UseChanges.{overlaid_whole}

module _ {M : Type 0} (v : StoreValue M) (shaped : IsShaped v) (whole : IsWholeOverlay v.overlay) (ino : ℕ) (number : IsNumber v ino) (shape : Option Shape)
    (can : CanShape v.overlay.drafts ino shape) (kind : (d : NodeDraft) → draft_of v.overlay.drafts ino ≡ Some d → KeepsKind d shape)
    (overlay : OverlayValue) (whole_now : IsWholeOverlay overlay) (shapes : Shapes v.overlay.drafts overlay.drafts ino shape) (blocks : overlay.blocks ≡ v.overlay.blocks) (room : overlay.room ≡ v.overlay.room)
    (tally : Tally) (counted : (d : NodeDraft) → draft_of v.overlay.drafts ino ≡ Some d → HasChargeRoom v.tally → tally ≡ shape_counted (layout v) ino shape d v.tally) where
  -- the store with the draft of the shape
  abbrev after : StoreValue M
  after = record v { overlay = overlay; tally = tally }

  redrafts : Redrafts v.overlay.drafts overlay.drafts ino (with_shape can.draft shape)
  redrafts = shapes can.draft can.is

  shapes_now : (c : Contents) (s : MachineState) → LiesOver v c s → ShapesNow (layout v) s.content c (overlaid v) (overlaid after) ino shape
  shapes_now c s l = record {
    change = record {
      has = l.rests.has;
      before = overlaid_whole v shaped whole;
      after = record { table = whole_now.table; named = whole_now.named; numbers = redrafts.numbers ∙ shaped.drafts; each_use = shaped.uses };
      over = l.over;
      slots = refl;
    };
    uses = λ q ne. refl;
    number = number.high;
    can = can;
    kind = kind;
    shapes = shapes;
    blocks = blocks;
  }

  -- it lies over what it lay over
  lies : (c : Contents) (s : MachineState) → LiesOver v c s → LiesOver after c s
  lies c s l = record {
    rests = l.rests;
    sound = l.sound;
    listed = l.listed;
    rec = l.rec;
    inodes = l.inodes;
    slots = l.slots;
    serial = l.serial;
    possible = l.possible;
    over = shaped_over (layout v) s.content c (overlaid v) (overlaid after) ino shape (shapes_now c s l);
    tally = subst (IsTally (layout v) (overlaid after) s.content c) (sym (counted can.draft can.is (charge_room (layout v) s.content c l.rests.has (overlaid v) (overlaid_whole v shaped whole) shaped.limits v.tally l.tally.charge)))
        (shape_tally (layout v) (overlaid v) (overlaid after) s.content c ino shape can.draft (shapes_now c s l) can.is v.tally l.tally);
  }

  -- THE NUMBER IS OF THE SHAPE, or of none
  pub reshapes : Reshapes v (record v { overlay = overlay; tally = tally }) ino (slice_index v.uses ino) shape
  reshapes = record {
    changes = record {
      beside = refl;
      over = λ c s l always. lies c s l;
      nodes = λ c s l. shaped_now (layout v) s.content c (overlaid v) (overlaid after) ino shape (shapes_now c s l);
    };
    own = ap (option_map (λ (d : NodeDraft). d.shape)) redrafts.drafted;
    others = λ q lt ne. ap (option_map (λ (d : NodeDraft). d.shape)) (redrafts.others q (subst (λ n. q < n) (sym shaped.drafts) lt) ne);
    room = room;
  }
