-- The tertiary segments whose bytes a call reads.
use Rattle.std.specs.Prelude.{◌≡◌, ℕ, Bool, true, false, List, [], ◌∷◌, ◌++◌, Option, Some, None}
use Rattle.hl_lines.specs.Lines.{line_with}
use Rattle.hl_media.specs.Causes.{Rose}
use Rattle.hl_media.specs.History.{History}
use Rattle.hl_placed.specs.Blocks.{Away, Block, Here, Hole, PlacedFile}
use Rattle.hl_tseg.specs.SlotTable.{slot_at}
use Rattle.hl_tseg.specs.Slots.{HoldsSerial}
use Rattle.hl_store.specs.Values.{StoreValue}
use Rattle.hl_store.specs.Finding.{BlockNow, IsOutIn}
use Rattle.hl_ranges.specs.declared.needs.Needed.{Needed}
use Rattle.hl_ranges.specs.declared.needs.Needed.TheVariants as needed
use Rattle.hl_ranges.specs.Files.{OfFile}

module _ {M : Type 0} where
  -- the slot holds the segment of this serial, and a line does
  pub record IsAtHand (v : StoreValue M) (tseg serial : ℕ) : Type 0 where
    pub holds : HoldsSerial (slot_at v.tables.slots tseg) serial
    pub line : ℕ
    pub held : line_with v.lines.states tseg ≡ Some line

  -- the slot holds it, and no line does
  pub record IsMissing (v : StoreValue M) (tseg serial : ℕ) : Type 0 where
    pub holds : HoldsSerial (slot_at v.tables.slots tseg) serial
    pub none : line_with v.lines.states tseg ≡ None

  -- the slots of these segments, one by one, each of which a line holds
  abbrev pub AreAtHand : StoreValue M → List ℕ → List ℕ → Type 0
  AreAtHand v [] [] = Unit {0}
  AreAtHand v [] (serial ∷ serials) = ⊥
  AreAtHand v (tseg ∷ tsegs) [] = ⊥
  AreAtHand v (tseg ∷ tsegs) (serial ∷ serials) = IsAtHand v tseg serial × AreAtHand v tsegs serials

  -- the first of these segments that no line holds is that of this slot
  pub record IsFirstMissing (v : StoreValue M) (tseg : ℕ) (serials : List ℕ) : Type 0 where
    pub before : List ℕ
    pub serial : ℕ
    pub behind : List ℕ
    pub are : serials ≡ before ++ serial ∷ behind
    pub tsegs : List ℕ
    pub at_hand : AreAtHand v tsegs before
    pub missing : IsMissing v tseg serial

  -- what one block adds to the slots: that of its segment, which a line holds; and nothing where it isn't away
  abbrev pub AddsBlock : StoreValue M → List ℕ → List ℕ → Block → Type 0
  AddsBlock v before tsegs Hole = tsegs ≡ before
  AddsBlock v before tsegs (Here bytes) = tsegs ≡ before
  AddsBlock v before tsegs (Away serial position) = (tseg : ℕ) × (tsegs ≡ before ++ tseg ∷ []) × IsAtHand v tseg serial

  -- Whether the segment of block i of a number is at hand, if it is away.
  abbrev pub FindsNeed : (M → Option History) → (M → ℕ) → StoreValue M → StoreValue M → ℕ → ℕ → List ℕ → List ℕ → Needed → Type 0
  FindsNeed history faults old new ino i before tsegs needed.AtHand = BlockNow history old ino i (λ s block. AddsBlock old before tsegs block)
  FindsNeed history faults old new ino i before tsegs (needed.Missing tseg) = BlockNow history old ino i (λ s block. IsOutIn old tseg block)
  FindsNeed history faults old new ino i before tsegs needed.DiskFault = Rose (faults old.log.machine) (faults new.log.machine)
  FindsNeed history faults old new ino i before tsegs needed.Memory = Unit {0}

  -- what one block adds if it is picked
  abbrev pub AddsPicked : StoreValue M → Bool → List ℕ → List ℕ → Block → Type 0
  AddsPicked v true before tsegs block = AddsBlock v before tsegs block
  AddsPicked v false before tsegs block = tsegs ≡ before

  -- Whether the segment of block i of a number is at hand, if it is picked and away.
  abbrev pub FindsPicked : (M → Option History) → (M → ℕ) → StoreValue M → StoreValue M → ℕ → ℕ → Bool → List ℕ → List ℕ → Needed → Type 0
  FindsPicked history faults old new ino i picked before tsegs needed.AtHand = BlockNow history old ino i (λ s block. AddsPicked old picked before tsegs block)
  FindsPicked history faults old new ino i picked before tsegs (needed.Missing tseg) = (picked ≡ true) × BlockNow history old ino i (λ s block. IsOutIn old tseg block)
  FindsPicked history faults old new ino i picked before tsegs needed.DiskFault = Rose (faults old.log.machine) (faults new.log.machine)
  FindsPicked history faults old new ino i picked before tsegs needed.Memory = Unit {0}

  -- Which of the segments that a file needs are at hand: all, in order of block index, or the first that isn't.
  abbrev pub FindsNeeds : (M → Option History) → (M → ℕ) → StoreValue M → StoreValue M → ℕ → (PlacedFile → List ℕ) → List ℕ → List ℕ → Needed → Type 0
  FindsNeeds history faults old new ino needs before tsegs needed.AtHand =
      OfFile history old ino (λ c shelf file. (own : List ℕ) × (tsegs ≡ before ++ own) × AreAtHand old own (needs file))
  FindsNeeds history faults old new ino needs before tsegs (needed.Missing tseg) =
      OfFile history old ino (λ c shelf file. IsFirstMissing old tseg (needs file))
  FindsNeeds history faults old new ino needs before tsegs needed.DiskFault = Rose (faults old.log.machine) (faults new.log.machine)
  FindsNeeds history faults old new ino needs before tsegs needed.Memory = Unit {0}
