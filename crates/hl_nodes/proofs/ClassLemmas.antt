-- What a pointer stands for, by the class of its address.
use Rattle.std.proofs.Common.{◌≡◌, ◌≢◌, ℕ, ◌≤◌, sym, ◌∙◌, ap, subst}
use Rattle.std.specs.Prelude.{Option, Some, None}
use Rattle.hl_media.specs.History.{Image}
use Rattle.hl_addr.specs.Layout.{Layout, data_max}
use Rattle.hl_addr.specs.Place.{IsAt}
use Rattle.hl_addr.specs.Slots.{slot_number}
use Rattle.hl_addr.specs.declared.place.Place.{Place}
use Rattle.hl_addr.specs.declared.place.Place.TheVariants.{Log, Tertiary, Nothing}
use Rattle.hl_tseg.specs.SlotTable.{SlotTable, slot_at}
use Rattle.hl_tseg.specs.declared.slot.Slot.{Slot}
use Rattle.hl_inode.specs.declared.inode.Kind.{Kind}
use Rattle.hl_inode.specs.declared.inode.Kind.TheVariants.{File}
use Rattle.hl_placed.specs.Blocks.{Away, Block, Here, Hole}
use Rattle.hl_nodes.specs.declared.found.FoundBlock.{FoundBlock}
use Rattle.hl_nodes.specs.Blocks.{StandsFor}
use Rattle.hl_tseg.specs.Slots.{HoldsSerial}
use Rattle.hl_nodes.specs.Found.{block_found, IsBlockAway, FindsAway, FindsBlock}

pub none_found : (g : Layout) (slots : SlotTable) (image : Image) (kind : Kind) (address : ℕ) (found : Option FoundBlock) → found ≡ None → FindsBlock g slots image kind address found → (block : Block) → StandsFor g slots image kind address block → ⊥
none_found g slots image kind address found none is = subst (FindsBlock g slots image kind address) none is

module _ (g : Layout) (slots : SlotTable) (image : Image) (kind : Kind) (address : ℕ) (place : Place) (only : (p : Place) → IsAt g address p → p ≡ place) where
  -- an address of another class stands for nothing
  pub no_block : ((s b : ℕ) → place ≢ Log s b) → ((v s b : ℕ) → place ≢ Tertiary v s b) → place ≢ Nothing → (block : Block) → StandsFor g slots image kind address block → ⊥
  no_block not_log not_far some Hole is = some (sym (only Nothing is))
  no_block not_log not_far some (Here bytes) is = not_log is.0.segment is.0.block (sym (only (Log is.0.segment is.0.block) is.0.place))
  no_block not_log not_far some (Away serial position) is = not_far is.1.volume is.1.slot position (sym (only (Tertiary is.1.volume is.1.slot position) is.1.place))

  module _ (v s b : ℕ) (at : IsAt g address (Tertiary v s b)) (held : Slot) (held_is : slot_at slots (slot_number g.volumes v s) ≡ held) where
    -- an address in a slot stands for an away block, where the slot holds a segment
    away_in : (block : Block) → IsBlockAway held kind b (data_max g) block → StandsFor g slots image kind address block
    away_in Hole none = absurd none
    away_in (Here bytes) none = absurd none
    away_in (Away serial position) is = (
      is.1,
      record {
        volume = v;
        slot = s;
        place = subst (λ (x : ℕ). IsAt g address (Tertiary v s x)) (sym is.0) at;
        holds = subst (λ (x : Slot). HoldsSerial x serial) (sym held_is) is.2;
        low = subst (λ (x : ℕ). 1 ≤ x) (sym is.0) is.3;
        high = subst (λ (x : ℕ). x ≤ data_max g) (sym is.0) is.4;
      },
    )

    no_away : ((serial : ℕ) → kind ≡ File → HoldsSerial held serial → 1 ≤ b → b ≤ data_max g → ⊥) → (block : Block) → StandsFor g slots image kind address block → ⊥
    no_away none Hole is = (let e : Nothing ≡ Tertiary v s b = only Nothing is ∙ sym (only (Tertiary v s b) at) in cc)
    no_away none (Here bytes) is = (let e : Log is.0.segment is.0.block ≡ Tertiary v s b = only (Log is.0.segment is.0.block) is.0.place ∙ sym (only (Tertiary v s b) at) in cc)
    no_away none (Away serial position) is =
        let e : Tertiary is.1.volume is.1.slot position ≡ Tertiary v s b = only (Tertiary is.1.volume is.1.slot position) is.1.place ∙ sym (only (Tertiary v s b) at) in
        let volume : is.1.volume ≡ v = cc in
        let slot : is.1.slot ≡ s = cc in
        let position_is : position ≡ b = cc in
        let number : slot_number g.volumes is.1.volume is.1.slot ≡ slot_number g.volumes v s = ap (λ (x : ℕ). slot_number g.volumes x is.1.slot) volume ∙ ap (slot_number g.volumes v) slot in
        let holds : HoldsSerial held serial = subst (λ (x : Slot). HoldsSerial x serial) held_is (subst (λ (n : ℕ). HoldsSerial (slot_at slots n) serial) number is.1.holds) in
        none serial is.0 holds (subst (λ (x : ℕ). 1 ≤ x) position_is is.1.low) (subst (λ (x : ℕ). x ≤ data_max g) position_is is.1.high)

    pub away_found : (found : Option FoundBlock) → FindsAway held kind b (data_max g) found → FindsBlock g slots image kind address found
    away_found None none = no_away none
    away_found (Some x) is = away_in (block_found x) is
