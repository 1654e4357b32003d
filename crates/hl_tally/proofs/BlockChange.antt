-- A draft of which one block was put, cleared or sent away.
use Rattle.std.proofs.Common.{◌≡◌, ◌≢◌, inl, inr, ℕ, ◌<◌, Bool, true, false, List, length, Option, Some, option_map, refl, sym, ◌∙◌, ap}
use Rattle.std.specs.Prelude.{if◌then◌else◌, nat_le}
use Rattle.std.proofs.lemmas.Bool.{cases_eq}
use Rattle.hl_bytes.specs.declared.block.Block as bytes
use Rattle.hl_bytes.specs.declared.records.BlockRecord.{BlockRecord}
use Rattle.hl_placed.specs.Blocks.{Block, is_hole}
use Rattle.hl_paths.specs.Nodes.{FlatNode}
use Rattle.hl_overlay.specs.declared.pointers.Pointer.{Pointer}
use Rattle.hl_overlay.specs.declared.pointers.Pointer.TheVariants.{Hole, Kept, Moved, New}
use Rattle.hl_overlay.specs.declared.draft.NodeDraft.{NodeDraft}
use Rattle.hl_overlay.specs.Pointing.{is_hole_pointer, where_is}
use Rattle.hl_overlay.specs.Drafting.{with_pointer}
use Rattle.hl_overlay.specs.DraftTables.{draft_of}
use Rattle.hl_overlay.specs.Overlays.{Holding, KeepsDrafts, OverlayValue, PutsBlock, holding_of, without_pointers}
use Rattle.hl_overlay.specs.Overlays.Holding.{Fresh, GoesAway, Remains, Zeros}
use Rattle.hl_overlaid.specs.Changes.{block_held}
use Rattle.hl_overlaid.specs.NodesNow.{block_now, old_block}
use Rattle.hl_overlaid.proofs.NowLemmas.{one}
use Rattle.hl_tally.specs.Counting.{charge_held}
use Rattle.hl_overlaid.proofs.DraftBlocks.{block_now-held}
use Rattle.hl_tally.proofs.BlockCharges.{here}

-- the draft is the one before but for one block, in which something else stands, and for its pointer block
pub record IsPut (old new : OverlayValue) (i : ℕ) (h : Holding) (d e : NodeDraft) : Type 0 where
  pub ino : e.ino ≡ d.ino
  pub shape : e.shape ≡ d.shape
  pub single : e.single ≡ (if nat_le 12 i then 4294967295 else d.single)
  pub changed : e.changed ≡ true
  pub here_now : holding_of new.blocks (where_is e.pointers i) ≡ h
  pub held : (j : ℕ) → j ≢ i → holding_of new.blocks (where_is e.pointers j) ≡ holding_of old.blocks (where_is d.pointers j)

pub is_put : (old new : OverlayValue) (ino i : ℕ) (h : Holding) (d e : NodeDraft) → draft_of old.drafts ino ≡ Some d → draft_of new.drafts ino ≡ Some e → ino < length old.drafts.places
    → PutsBlock old new ino i h → KeepsDrafts old new ino i → IsPut old new i h d e
is_put old new ino i h d e was is low puts keeps =
    let same : without_pointers e ≡ without_pointers (with_pointer d i Hole) =
    one refl (ap (option_map without_pointers) (sym is) ∙ keeps.own ∙ ap (option_map (λ x. without_pointers (with_pointer x i Hole))) was) in
    record {
      ino = ap (λ (x : NodeDraft). x.ino) same;
      shape = ap (λ (x : NodeDraft). x.shape) same;
      single = ap (λ (x : NodeDraft). x.single) same;
      changed = ap (λ (x : NodeDraft). x.changed) same;
      here_now = one refl (ap (λ (o : Option NodeDraft). option_map (holding_of new.blocks) (option_map (λ x. where_is x.pointers i) o)) (sym is) ∙ puts.here);
      held = λ j ne. one refl (ap (λ (o : Option NodeDraft). option_map (holding_of new.blocks) (option_map (λ x. where_is x.pointers j) o)) (sym is) ∙ puts.others ino j low (inr ne)
          ∙ ap (λ (o : Option NodeDraft). option_map (holding_of old.blocks) (option_map (λ x. where_is x.pointers j) o)) was);
    }

-- zeros stand in a hole
abbrev is_zeros : Holding → Bool
is_zeros Zeros = true
is_zeros (Remains addr) = false
is_zeros (GoesAway addr serial position) = false
is_zeros (Fresh bytes) = false

hole_held : (new : List (BlockRecord × bytes.Block)) (p : Pointer) → is_hole_pointer p ≡ is_zeros (holding_of new p)
hole_held new Hole = refl
hole_held new (Kept addr) = refl
hole_held new (Moved addr serial position) = refl
hole_held new (New n) = refl

-- what is held besides what the disk has is a hole where it is zeros, and is charged
hole_put : (old : Block) (h : Holding) → ((addr : ℕ) → h ≡ Remains addr → ⊥) → is_hole (block_held old h) ≡ is_zeros h
hole_put old Zeros other = refl
hole_put old (Remains addr) other = absurd (other addr refl)
hole_put old (GoesAway addr serial position) other = refl
hole_put old (Fresh bytes) other = refl

here_put : (old : Block) (h : Holding) → ((addr : ℕ) → h ≡ Remains addr → ⊥) → here (block_held old h) ≡ charge_held h
here_put old Zeros other = refl
here_put old (Remains addr) other = absurd (other addr refl)
here_put old (GoesAway addr serial position) other = refl
here_put old (Fresh bytes) other = refl

module _ (old new : OverlayValue) (i : ℕ) (h : Holding) (elsewhere : (addr : ℕ) → h ≡ Remains addr → ⊥) (d e : NodeDraft) (put : IsPut old new i h d e) (x : ℕ → Option FlatNode) where
  abbrev before : ℕ → Block
  before j = block_now (x d.ino) old.blocks j (where_is d.pointers j)

  abbrev now : ℕ → Block
  now j = block_now (x e.ino) new.blocks j (where_is e.pointers j)

  now_holds : (j : ℕ) → now j ≡ block_held (old_block (x d.ino) j) (holding_of new.blocks (where_is e.pointers j))
  now_holds j = block_now-held (x e.ino) new.blocks j (where_is e.pointers j) ∙ ap (λ (q : ℕ). block_held (old_block (x q) j) (holding_of new.blocks (where_is e.pointers j))) put.ino

  -- the other blocks are those before
  pub others_put : (j : ℕ) → j ≢ i → now j ≡ before j
  others_put j ne = now_holds j ∙ ap (block_held (old_block (x d.ino) j)) (put.held j ne) ∙ sym (block_now-held (x d.ino) old.blocks j (where_is d.pointers j))

  -- and this one is what is held
  this_put : now i ≡ block_held (old_block (x d.ino) i) h
  this_put = now_holds i ∙ ap (block_held (old_block (x d.ino) i)) put.here_now

  pub this_charged : here (now i) ≡ charge_held h
  this_charged = ap here this_put ∙ here_put (old_block (x d.ino) i) h elsewhere

  -- its pointers say where the holes are, as they did
  pub put_holes : (n : ℕ) → ((j : ℕ) → j < n → is_hole (before j) ≡ is_hole_pointer (where_is d.pointers j)) → (j : ℕ) → j < n → is_hole (now j) ≡ is_hole_pointer (where_is e.pointers j)
  put_holes n were j lt = elim (cases_eq j i) [
    | inl same ↦ ap (λ (k : ℕ). is_hole (now k)) same ∙ ap is_hole this_put ∙ hole_put (old_block (x d.ino) i) h elsewhere ∙ ap is_zeros (sym put.here_now)
        ∙ sym (hole_held new.blocks (where_is e.pointers i)) ∙ ap (λ (k : ℕ). is_hole_pointer (where_is e.pointers k)) (sym same)
    | inr ne ↦ ap is_hole (others_put j ne) ∙ were j lt ∙ hole_held old.blocks (where_is d.pointers j) ∙ ap is_zeros (sym (put.held j ne)) ∙ sym (hole_held new.blocks (where_is e.pointers j))
  ]
