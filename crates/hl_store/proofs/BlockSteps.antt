-- One block of a drafted node has something else.
use Rattle.std.proofs.Common.{◌≡◌, inl, inr, ℕ, ◌<◌, length, Option, Some, None, option_map, refl, sym, ◌∙◌, ap, subst}
use Rattle.std.specs.Prelude.{slice_index}
use Rattle.std.specs.FinMap.{get}
use Rattle.std.proofs.lemmas.Bool.{cases_eq}
use Rattle.hl_media.specs.History.{MachineState}
use Rattle.hl_placed.specs.Blocks.{Block}
use Rattle.hl_paths.specs.Nodes.{FlatNode}
use Rattle.hl_nodes.specs.Contents.{Contents}
use Rattle.hl_overlay.specs.declared.pointers.Pointer.{Pointer}
use Rattle.hl_overlay.specs.declared.pointers.Pointer.TheVariants as pointers
use Rattle.hl_overlay.specs.declared.draft.NodeDraft.{NodeDraft}
use Rattle.hl_overlay.specs.Pointing.{where_is}
use Rattle.hl_overlay.specs.Drafting.{with_pointer}
use Rattle.hl_overlay.specs.DraftTables.{DraftTable, HasBlock, draft_of}
use Rattle.hl_overlay.specs.Overlays.{Holding, IsWholeOverlay, KeepsDrafts, OverlayValue, PutsBlock, where_in, without_pointers}
use Rattle.hl_overlay.specs.Overlays.Holding.{Remains}
use Rattle.hl_overlaid.specs.NodesNow.{IsOverlaid, old_block, with_node}
use Rattle.hl_overlaid.specs.Changes.{CanPut, PutsNow, block_held, with_block}
use Rattle.hl_overlaid.proofs.NowLemmas.{one}
use Rattle.hl_overlaid.proofs.PutLemmas.{drafted, put_now, put_over, put_there}
use Rattle.hl_tally.specs.Tally.{IsTally, Tally}
use Rattle.hl_tally.specs.Counting.{ChangesBlock, block_counted}
use Rattle.hl_tally.proofs.BlockLaws.{block_tally}
use Rattle.hl_store.specs.Values.{StoreValue, layout, nodes_of, overlaid}
use Rattle.hl_store.specs.Shapes.{IsNumber, IsShaped}
use Rattle.hl_store.specs.Lying.{LiesOver}
use Rattle.hl_store.specs.Footings.{HasChargeRoom}
use Rattle.hl_store.specs.Changes.{KeepsShapes, PutsInto, drafted_shape}
use Rattle.hl_store.proofs.ChargeRoom.{charge_room}

-- drafts that differ in nothing but their pointers are of one shape
shape_alike : (a b : Option NodeDraft) → option_map without_pointers a ≡ option_map without_pointers b → option_map (λ (d : NodeDraft). d.shape) a ≡ option_map (λ (d : NodeDraft). d.shape) b
shape_alike a b e = sym (shown a) ∙ ap (option_map (λ (d : NodeDraft). d.shape)) e ∙ shown b
  where
    shown : (x : Option NodeDraft) → option_map (λ (d : NodeDraft). d.shape) (option_map without_pointers x) ≡ option_map (λ (d : NodeDraft). d.shape) x
    shown None = refl
    shown (Some d) = refl

shape_pointed : (i : ℕ) (a b : Option NodeDraft) → option_map without_pointers a ≡ option_map (λ (d : NodeDraft). without_pointers (with_pointer d i pointers.Hole)) b → option_map (λ (d : NodeDraft). d.shape) a ≡ option_map (λ (d : NodeDraft). d.shape) b
shape_pointed i a b e = sym (shown a) ∙ ap (option_map (λ (d : NodeDraft). d.shape)) e ∙ pointed b
  where
    shown : (x : Option NodeDraft) → option_map (λ (d : NodeDraft). d.shape) (option_map without_pointers x) ≡ option_map (λ (d : NodeDraft). d.shape) x
    shown None = refl
    shown (Some d) = refl

    pointed : (x : Option NodeDraft) → option_map (λ (d : NodeDraft). d.shape) (option_map (λ (d : NodeDraft). without_pointers (with_pointer d i pointers.Hole)) x) ≡ option_map (λ (d : NodeDraft). d.shape) x
    pointed None = refl
    pointed (Some d) = refl

-- where a block of a draft is
pub where_is_of : (t : DraftTable) (ino i : ℕ) (d : NodeDraft) (p : Pointer) → draft_of t ino ≡ Some d → where_in t ino i ≡ Some p → where_is d.pointers i ≡ p
where_is_of t ino i d p is at = one (ap (option_map (λ (x : NodeDraft). where_is x.pointers i)) is) at

-- What a call did to a block: the overlay has it and is whole, and the counts are those behind it, where the charge has
-- room.
pub record IsBlockStep {M : Type 0} (old new : StoreValue M) (ino i : ℕ) (h : Holding) : Type 0 where
  pub beside : new ≡ record old { overlay = new.overlay; tally = new.tally }
  pub shaped : IsShaped old
  pub whole_before : IsWholeOverlay old.overlay
  pub whole_now : IsWholeOverlay new.overlay
  pub puts : PutsBlock old.overlay new.overlay ino i h
  pub keeps : KeepsDrafts old.overlay new.overlay ino i
  pub pointers_before : (d : NodeDraft) → draft_of old.overlay.drafts ino ≡ Some d → length d.pointers ≡ 1036
  pub pointers_now : (d : NodeDraft) → draft_of new.overlay.drafts ino ≡ Some d → length d.pointers ≡ 1036
  pub counted : (d e : NodeDraft) → draft_of old.overlay.drafts ino ≡ Some d → draft_of new.overlay.drafts ino ≡ Some e → HasChargeRoom old.tally → new.tally ≡ block_counted (layout old) i h d e old.tally

module _ {M : Type 0} (old : StoreValue M) (o : OverlayValue) (t : Tally) (ino i : ℕ) (h : Holding) (step : IsBlockStep old (record old { overlay = o; tally = t }) ino i h) (number : IsNumber old ino) (block : HasBlock old.overlay.drafts ino i) where
  abbrev new : StoreValue M
  new = record old { overlay = o; tally = t }

  before : IsOverlaid (layout old) (overlaid old)
  before = record { table = step.whole_before.table; named = step.whole_before.named; numbers = step.shaped.drafts; each_use = step.shaped.uses }

  after : IsOverlaid (layout old) (overlaid new)
  after = record { table = step.whole_now.table; named = step.whole_now.named; numbers = step.puts.numbers ∙ step.shaped.drafts; each_use = step.shaped.uses }

  module _ (c : Contents) (s : MachineState) (lies : LiesOver old c s) where
    put : PutsNow (layout old) s.content c (overlaid old) (overlaid new) ino i h
    put = record {
      change = record { has = lies.rests.has; before = before; after = after; over = lies.over; slots = refl };
      uses = λ q ne. refl;
      number = number.high;
      block = block;
      puts = step.puts;
      keeps = step.keeps;
    }

    nodes_changed : nodes_of new c ≡ with_node (nodes_of old c) ino (option_map (λ n. with_block n i (block_held (old_block (get c.nodes ino) i) h) (slice_index old.uses ino)) (get (nodes_of old c) ino))
    nodes_changed =
        let n = put_there (layout old) s.content c (overlaid old) (overlaid new) ino i h put in
        put_now (layout old) s.content c (overlaid old) (overlaid new) ino i h put n.0 n.1
        ∙ sym (ap (λ (x : Option FlatNode). with_node (nodes_of old c) ino (option_map (λ n. with_block n i (block_held (old_block (get c.nodes ino) i) h) (slice_index old.uses ino)) x)) n.1)

    module _ (can : CanPut (layout old) c.tables.slots old.tables.slots block.draft h) where
      elsewhere : (addr : ℕ) → h ≡ Remains addr → ⊥
      elsewhere addr e = subst (CanPut (layout old) c.tables.slots old.tables.slots block.draft) e can

      counted_now : IsTally (layout old) (overlaid new) s.content c t
      counted_now =
          let e = drafted (layout old) s.content c (overlaid old) (overlaid new) ino i h put in
          let room : HasChargeRoom old.tally = charge_room (layout old) s.content c lies.rests.has (overlaid old) before step.shaped.limits old.tally lies.tally.charge in
          let change : ChangesBlock (layout old) s.content c (overlaid old) (overlaid new) ino i h block.draft e.0 = record {
            puts = put;
            elsewhere = elsewhere;
            was = block.is;
            is = e.1;
            pointers_before = step.pointers_before block.draft block.is;
            pointers_now = step.pointers_now e.0 e.1;
          } in
          subst (IsTally (layout old) (overlaid new) s.content c) (sym (step.counted block.draft e.0 block.is e.1 room))
          (block_tally (layout old) (overlaid old) (overlaid new) s.content c ino i h block.draft e.0 change old.tally lies.tally)

      lies_now : LiesOver new c s
      unfolding put
      lies_now = record {
        rests = lies.rests;
        sound = lies.sound;
        listed = lies.listed;
        rec = lies.rec;
        inodes = lies.inodes;
        slots = lies.slots;
        serial = lies.serial;
        possible = lies.possible;
        over = put_over (layout old) s.content c (overlaid old) (overlaid new) ino i h put can;
        tally = counted_now;
      }

  shapes_stay : KeepsShapes old new
  shapes_stay q lt = elim (cases_eq q ino) [
    | inl e ↦ subst (λ (k : ℕ). drafted_shape new k ≡ drafted_shape old k) (sym e) (shape_pointed i (draft_of o.drafts ino) (draft_of old.overlay.drafts ino) step.keeps.own)
    | inr ne ↦ shape_alike (draft_of o.drafts q) (draft_of old.overlay.drafts q) (step.keeps.others q (subst (λ (n : ℕ). q < n) (sym step.shaped.drafts) lt) ne)
  ]

  module _ (Allowed : Contents → Type 0) (put_block : Block) (held_is : (x : Block) → block_held x h ≡ put_block) (can : (c : Contents) → Allowed c → CanPut (layout old) c.tables.slots old.tables.slots block.draft h) where
    puts_into : PutsInto old new ino i Allowed put_block
    puts_into = record {
      changes = record {
        beside = refl;
        over = λ c s lies allowed. lies_now c s lies (can c allowed);
        nodes = λ c s lies. nodes_changed c s lies
            ∙ ap (λ (b : Block). with_node (nodes_of old c) ino (option_map (λ n. with_block n i b (slice_index old.uses ino)) (get (nodes_of old c) ino))) (held_is (old_block (get c.nodes ino) i));
      };
      uses = refl;
      shapes = shapes_stay;
    }

-- A BLOCK OF A DRAFTED NODE HAS SOMETHING ELSE: the store lies over what it lay over where the block may go there, and its
-- node has the block
pub block_changed : {M : Type 0} (v old new : StoreValue M) (ino i : ℕ) (h : Holding) → v ≡ old → IsBlockStep v new ino i h → IsNumber old ino → (block : HasBlock old.overlay.drafts ino i)
    → (Allowed : Contents → Type 0) (put_block : Block) → ((x : Block) → block_held x h ≡ put_block) → ((c : Contents) → Allowed c → CanPut (layout old) c.tables.slots old.tables.slots block.draft h)
    → PutsInto old new ino i Allowed put_block
block_changed v old new ino i h view step number block Allowed put_block held can =
    let here : IsBlockStep old new ino i h = subst (λ x. IsBlockStep x new ino i h) view step in
    let same : new ≡ record old { overlay = new.overlay; tally = new.tally } = here.beside in
    subst (λ x. PutsInto old x ino i Allowed put_block) (sym same)
    (puts_into old new.overlay new.tally ino i h (subst (λ x. IsBlockStep old x ino i h) same here) number block Allowed put_block held can)
