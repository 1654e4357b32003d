-- Blocks of a drafted node are dropped one by one.
use Rattle.std.proofs.Common.{◌≡◌, ◌≢◌, inl, inr, ℕ, ◌+◌, ◌<◌, ◌≤◌, true, Option, Some, None, refl, sym, ◌∙◌, ap, subst, arith}
use Rattle.std.specs.Prelude.{slice_index, option_map}
use Rattle.std.specs.FinMap.{get}
use Rattle.std.proofs.lemmas.Bool.{cases_lt}
use Rattle.std.proofs.lemmas.List.{get_or-set_other}
use Rattle.hl_placed.specs.Blocks.{Hole}
use Rattle.hl_paths.specs.Nodes.{FlatNode, Nodes}
use Rattle.hl_overlay.specs.declared.pointers.Pointer.{Pointer}
use Rattle.hl_overlay.specs.declared.pointers.Pointer.TheVariants as places
use Rattle.hl_overlay.specs.declared.draft.NodeDraft.{NodeDraft}
use Rattle.hl_overlay.specs.Pointing.{is_hole_pointer, where_is}
use Rattle.hl_overlay.specs.Drafting.{blocks_of_shape}
use Rattle.hl_overlay.specs.DraftTables.{HasBlock, draft_of}
use Rattle.hl_overlay.specs.Overlays.{IsWholeOverlay, OverlayValue, holding, holding_of, where_in}
use Rattle.hl_overlay.specs.Overlays.Holding.{Zeros}
use Rattle.hl_overlaid.specs.NodesNow.{old_block}
use Rattle.hl_overlaid.specs.Changes.{with_block}
use Rattle.hl_overlaid.proofs.NowLemmas.{none_some, one, with_node-other, with_node-same}
use Rattle.hl_overlaid.proofs.PutLemmas.{mapped}
use Rattle.hl_store.specs.Values.{StoreValue, layout, nodes_of}
use Rattle.hl_store.specs.Changes.{Always, DropsBetween, KeepsBeside, KeepsShapes, PutsInto}

-- another block of a node stays where one is a hole
other_block : (node : Option FlatNode) (i used j : ℕ) → j ≢ i → old_block (option_map (λ n. with_block n i Hole used) node) j ≡ old_block node j
other_block None i used j ne = refl
other_block (Some n) i used j ne = get_or-set_other n.content.blocks i j Hole Hole ne

-- a hole holds zeros
hole_zeros : (v : OverlayValue) (ino i : ℕ) → option_map is_hole_pointer (where_in v.drafts ino i) ≡ Some true → holding v ino i ≡ Some Zeros
hole_zeros v ino i is = by (where_in v.drafts ino i) is
  where
    by : (p : Option Pointer) → option_map is_hole_pointer p ≡ Some true → option_map (holding_of v.blocks) p ≡ Some Zeros
    by None e = absurd (none_some e)
    by (Some places.Hole) e = refl
    by (Some (places.Kept addr)) e = let f = one refl e in cc
    by (Some (places.Moved addr serial position)) e = let f = one refl e in cc
    by (Some (places.New n)) e = let f = one refl e in cc

module _ {M : Type 0} where
  -- what is beside stays through two changes
  pub beside_both : (old mid new : StoreValue M) → KeepsBeside old mid → KeepsBeside mid new → KeepsBeside old new
  beside_both old mid new a b = b ∙ ap (λ (x : StoreValue M). record x { overlay = new.overlay; uses = new.uses; tally = new.tally }) a

  -- A BLOCK IS A HOLE where it was none
  pub dropped_block : (old new : StoreValue M) (ino i : ℕ) → PutsInto old new ino i Always Hole → holding new.overlay ino i ≡ Some Zeros → ((j : ℕ) → j ≢ i → holding new.overlay ino j ≡ holding old.overlay ino j) → new.overlay.room ≡ old.overlay.room
      → DropsBetween old new ino i (i + 1)
  dropped_block old new ino i puts hole others room = record {
    beside = puts.changes.beside;
    uses = puts.uses;
    over = λ c s l. puts.changes.over c s l tt;
    others = λ c s l q ne. ap (λ (ns : Nodes). get ns q) (puts.changes.nodes c s l) ∙ with_node-other (nodes_of old c) ino (option_map (λ n. with_block n i Hole (slice_index old.uses ino)) (get (nodes_of old c) ino)) q ne;
    blocks = λ c s l j lt. ap (λ (ns : Nodes). old_block (get ns ino) j) (puts.changes.nodes c s l)
        ∙ ap (λ (n : Option FlatNode). old_block n j) (with_node-same (nodes_of old c) ino (option_map (λ n. with_block n i Hole (slice_index old.uses ino)) (get (nodes_of old c) ino)))
        ∙ other_block (get (nodes_of old c) ino) i (slice_index old.uses ino) j (λ same. (let e : j ≡ i = same in omega arith));
    shapes = puts.shapes;
    kept = λ j lt. others j (λ same. (let e : j ≡ i = same in omega arith));
    holes = λ j from end. subst (λ k. holding new.overlay ino k ≡ Some Zeros) (let e : i ≡ j = omega arith in e) hole;
    room = room;
  }

  -- and where it was one
  pub was_hole : (v : StoreValue M) (ino i : ℕ) → option_map is_hole_pointer (where_in v.overlay.drafts ino i) ≡ Some true → DropsBetween v v ino i (i + 1)
  was_hole v ino i is = record {
    beside = refl;
    uses = refl;
    over = λ c s l. l;
    others = λ c s l q ne. refl;
    blocks = λ c s l j lt. refl;
    shapes = λ q lt. refl;
    kept = λ j lt. refl;
    holes = λ j from end. subst (λ k. holding v.overlay ino k ≡ Some Zeros) (let e : i ≡ j = omega arith in e) (hole_zeros v.overlay ino i is);
    room = refl;
  }

  -- NONE IS DROPPED yet
  pub none_dropped : (v : StoreValue M) (ino from : ℕ) → DropsBetween v v ino from from
  none_dropped v ino from = record {
    beside = refl;
    uses = refl;
    over = λ c s l. l;
    others = λ c s l q ne. refl;
    blocks = λ c s l j lt. refl;
    shapes = λ q lt. refl;
    kept = λ j lt. refl;
    holes = λ j low high. absurd (omega arith);
    room = refl;
  }

  -- ONE MORE IS DROPPED
  pub more_dropped : (old mid new : StoreValue M) (ino from i : ℕ) → from ≤ i → DropsBetween old mid ino from i → DropsBetween mid new ino i (i + 1) → DropsBetween old new ino from (i + 1)
  more_dropped old mid new ino from i le a b = record {
    beside = beside_both old mid new a.beside b.beside;
    uses = b.uses ∙ a.uses;
    over = λ c s l. b.over c s (a.over c s l);
    others = λ c s l q ne. b.others c s (a.over c s l) q ne ∙ a.others c s l q ne;
    blocks = λ c s l j lt. b.blocks c s (a.over c s l) j (omega arith) ∙ a.blocks c s l j lt;
    shapes = λ q lt. b.shapes q (subst (λ (x : StoreValue M). q < (layout x).inodes) (sym a.beside) lt) ∙ a.shapes q lt;
    kept = λ j lt. b.kept j (omega arith) ∙ a.kept j lt;
    holes = λ j low high. elim (cases_lt j i) [
      | inl lt ↦ b.kept j lt ∙ a.holes j low lt
      | inr ge ↦ b.holes j ge high
    ];
    room = b.room ∙ a.room;
  }

  -- a number that is drafted is so after, with its shape
  pub drafted_there : (old new : StoreValue M) (ino : ℕ) → ino < (layout old).inodes → KeepsShapes old new → (d : NodeDraft) → draft_of old.overlay.drafts ino ≡ Some d → (e : NodeDraft) × (draft_of new.overlay.drafts ino ≡ Some e) × (e.shape ≡ d.shape)
  drafted_there old new ino high keeps d at = mapped (λ (x : NodeDraft). x.shape) (draft_of new.overlay.drafts ino) d.shape (keeps ino high ∙ ap (option_map (λ (x : NodeDraft). x.shape)) at)

  -- so its size reaches the blocks that it reached
  pub block_there : (old new : StoreValue M) (ino i : ℕ) → ino < (layout old).inodes → KeepsShapes old new → (d : NodeDraft) → draft_of old.overlay.drafts ino ≡ Some d → i < blocks_of_shape d.shape → HasBlock new.overlay.drafts ino i
  block_there old new ino i high keeps d at lt =
      let e = drafted_there old new ino high keeps d at in
      record { draft = e.0; is = e.1; within = subst (λ s. i < blocks_of_shape s) (sym e.2) lt }

  -- ALL ARE DROPPED once those below the end are, since a draft has no block past its size
  pub all_dropped : (old new : StoreValue M) (ino from i : ℕ) → ino < (layout old).inodes → (d : NodeDraft) → draft_of old.overlay.drafts ino ≡ Some d → blocks_of_shape d.shape ≤ i → IsWholeOverlay new.overlay
      → DropsBetween old new ino from i → DropsBetween old new ino from 1036
  all_dropped old new ino from i high d at end whole drops = record {
    beside = drops.beside;
    uses = drops.uses;
    over = drops.over;
    others = drops.others;
    blocks = drops.blocks;
    shapes = drops.shapes;
    kept = drops.kept;
    holes = λ j low few. elim (cases_lt j i) [
      | inl lt ↦ drops.holes j low lt
      | inr ge ↦ past j ge few
    ];
    room = drops.room;
  }
    where
      past : (j : ℕ) → i ≤ j → j < 1036 → holding new.overlay ino j ≡ Some Zeros
      past j ge few =
          let e = drafted_there old new ino high drops.shapes d at in
          let hole : where_is e.0.pointers j ≡ places.Hole = (whole.table.drafts (slice_index new.overlay.drafts.places ino) e.0 e.1).ends j (let same : blocks_of_shape e.0.shape ≡ blocks_of_shape d.shape = ap blocks_of_shape e.2 in omega arith) few in
          ap (λ (x : Option NodeDraft). option_map (holding_of new.overlay.blocks) (option_map (λ (y : NodeDraft). where_is y.pointers j) x)) e.1 ∙ ap (λ p. Some (holding_of new.overlay.blocks p)) hole
