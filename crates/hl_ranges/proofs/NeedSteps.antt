-- What a block adds to the segments that are at hand.
use Rattle.std.proofs.Common.{◌≡◌, ℕ, List, [], ◌∷◌, ◌++◌, Option, Some, None, is_some, refl, sym, ◌∙◌}
use Rattle.hl_lines.specs.Lines.{line_with}
use Rattle.hl_media.specs.History.{History}
use Rattle.hl_placed.specs.Blocks.{Away, Block, Here, Hole}
use Rattle.hl_store.specs.Values.{StoreValue}
use Rattle.hl_store.specs.Finding.{IsAwayAt, IsOutIn, ReadsNodes}
use Rattle.hl_ranges.specs.Needs.{AddsBlock, AddsPicked, AreAtHand, IsFirstMissing, IsMissing}
use Rattle.std.proofs.Common.{ap, ◌+◌, ◌≤◌, ◌<◌, subst, append_assoc, Bool, true, false}
use Rattle.std.specs.List.{cons_option}
use Rattle.std.proofs.lemmas.List.{append-nil}
use Rattle.hl_placed.specs.Blocks.{PlacedFile, file_block}
use Rattle.hl_placed.specs.Calls.{serial_if, serials}
use Rattle.hl_ranges.proofs.SerialLists.{serial_at, serials-around, serials-from_below, serials_below, serials_below-more, serials_below-skip, unpicked_block}
use Rattle.hl_ranges.proofs.ReadSteps.{line_before}

module _ {M : Type 0} {history : M → Option History} where
  -- an away block of which a line holds the segment adds the slot of that
  pub adds_away : {old new : StoreValue M} → ReadsNodes history old new → (before tsegs : List ℕ) (tseg at : ℕ) (line : Option ℕ) → tsegs ≡ before ++ tseg ∷ []
      → line ≡ line_with new.lines.states tseg → is_some line ≡ true → (block : Block) → IsAwayAt old tseg at block → AddsBlock old before tsegs block
  adds_away reads before tsegs tseg at line are has some Hole is = absurd is
  adds_away reads before tsegs tseg at line are has some (Here bytes) is = absurd is
  adds_away reads before tsegs tseg at None are has some (Away serial position) is = absurd cc
  adds_away reads before tsegs tseg at (Some line) are has some (Away serial position) is =
      (tseg, are, record { holds = is.0; line = line; held = line_before reads tseg (Some line) (sym has) })

module _ {M : Type 0} where
  -- the slots of one list, and then of another
  pub AreAtHand-append : (v : StoreValue M) (tsegs more serials others : List ℕ) → AreAtHand v tsegs serials → AreAtHand v more others → AreAtHand v (tsegs ++ more) (serials ++ others)
  AreAtHand-append v [] more [] others these those = those
  AreAtHand-append v [] more (serial ∷ serials) others these those = absurd these
  AreAtHand-append v (tseg ∷ tsegs) more [] others these those = absurd these
  AreAtHand-append v (tseg ∷ tsegs) more (serial ∷ serials) others these those = (these.0, AreAtHand-append v tsegs more serials others these.1 those)

  -- the slots behind these are those of the picked blocks below n, one by one
  abbrev pub HasBelow : StoreValue M → (ℕ → Bool) → PlacedFile → List ℕ → List ℕ → ℕ → Type 0
  HasBelow v picked file before tsegs n = (own : List ℕ) × (tsegs ≡ before ++ own) × AreAtHand v own (serials_below picked file n)

  -- the slots behind these are those of all picked blocks
  abbrev pub HasAll : StoreValue M → (ℕ → Bool) → PlacedFile → List ℕ → List ℕ → Type 0
  HasAll v picked file before tsegs = (own : List ℕ) × (tsegs ≡ before ++ own) × AreAtHand v own (serials picked file)

  module _ (v : StoreValue M) (picked : ℕ → Bool) (file : PlacedFile) (before : List ℕ) where
    -- at the beginning there are none
    pub has_none : HasBelow v picked file before before 0
    has_none = ([], sym (append-nil before), tt)

    -- no block between two has one
    pub has_skip : (tsegs : List ℕ) (m n : ℕ) → m ≤ n → ((k : ℕ) → m ≤ k → k < n → serial_at picked file k ≡ None) → HasBelow v picked file before tsegs m → HasBelow v picked file before tsegs n
    has_skip tsegs m n le none has = (has.0, has.1, subst (AreAtHand v has.0) (sym (serials_below-skip picked file m n le none)) has.2)

    -- no block from n on has one
    pub has_all : (tsegs : List ℕ) (n : ℕ) → ((k : ℕ) → n ≤ k → serial_at picked file k ≡ None) → HasBelow v picked file before tsegs n → HasAll v picked file before tsegs
    has_all tsegs n none has = (has.0, has.1, subst (AreAtHand v has.0) (sym (serials-from_below picked file n none)) has.2)

    -- block n adds its own, if it is picked
    more : (tsegs new : List ℕ) (n : ℕ) (picks : Bool) (block : Block) → AddsPicked v picks tsegs new block → (own : List ℕ) → tsegs ≡ before ++ own → AreAtHand v own (serials_below picked file n)
        → (more : List ℕ) × (new ≡ before ++ more) × AreAtHand v more (serials_below picked file n ++ cons_option (serial_if picks block) [])
    more tsegs new n false block adds own are hands = (
      own,
      adds ∙ are,
      subst (λ (o : Option ℕ). AreAtHand v own (serials_below picked file n ++ cons_option o [])) (sym (unpicked_block block))
          (subst (AreAtHand v own) (sym (append-nil (serials_below picked file n))) hands),
    )
    more tsegs new n true Hole adds own are hands = (own, adds ∙ are, subst (AreAtHand v own) (sym (append-nil (serials_below picked file n))) hands)
    more tsegs new n true (Here bytes) adds own are hands = (own, adds ∙ are, subst (AreAtHand v own) (sym (append-nil (serials_below picked file n))) hands)
    more tsegs new n true (Away serial position) adds own are hands = (
      own ++ adds.0 ∷ [],
      adds.1 ∙ ap (λ (xs : List ℕ). xs ++ adds.0 ∷ []) are ∙ append_assoc before own (adds.0 ∷ []),
      AreAtHand-append v own (adds.0 ∷ []) (serials_below picked file n) (serial ∷ []) hands (adds.2, tt),
    )

    -- so the slots go on by those of block n
    pub has_more : (tsegs new : List ℕ) (n : ℕ) (picks : Bool) → picked n ≡ picks → AddsPicked v picks tsegs new (file_block file n) → HasBelow v picked file before tsegs n → HasBelow v picked file before new (n + 1)
    has_more tsegs new n picks is adds has =
        let next = more tsegs new n picks (file_block file n) adds has.0 has.1 has.2 in
        (next.0, next.1, subst (AreAtHand v next.0) (ap (λ (b : Bool). serials_below picked file n ++ cons_option (serial_if b (file_block file n)) []) (sym is) ∙ sym (serials_below-more picked file n)) next.2)

    -- block n is the first that no line has
    first : (tseg n : ℕ) → (block : Block) → IsOutIn v tseg block → (serial : ℕ) × (serial_if true block ≡ Some serial) × IsMissing v tseg serial
    first tseg n Hole out = absurd out
    first tseg n (Here bytes) out = absurd out
    first tseg n (Away serial position) out = (serial, refl, record { holds = out.holds; none = out.none })

    -- so its segment is the first of all that is missing
    pub misses_first : (tsegs : List ℕ) (tseg n : ℕ) → picked n ≡ true → IsOutIn v tseg (file_block file n) → HasBelow v picked file before tsegs n → IsFirstMissing v tseg (serials picked file)
    misses_first tsegs tseg n is out has =
        let missing = first tseg n (file_block file n) out in
        let at : serial_at picked file n ≡ Some missing.0 = ap (λ (b : Bool). serial_if b (file_block file n)) is ∙ missing.1 in
        let around = serials-around picked file n missing.0 at in
        record {
          before = serials_below picked file n;
          serial = missing.0;
          behind = around.0;
          are = around.1;
          tsegs = has.0;
          at_hand = has.2;
          missing = missing.2;
        }
