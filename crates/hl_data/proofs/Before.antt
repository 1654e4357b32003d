-- What is found of files and lines behind reads, before them.
use Rattle.std.proofs.Common.{◌≡◌, ℕ, ◌+◌, ◌<◌, List, [], ◌∷◌, Option, Some, None, ◌∙◌, ap, subst}
use Rattle.std.specs.List.{fold}
use Rattle.hl_media.specs.History.{History, MachineState, state_now}
use Rattle.hl_media.specs.Moments.{Runs}
use Rattle.hl_addr.specs.Layout.{Layout}
use Rattle.hl_lines.specs.declared.state.LineState.{LineState}
use Rattle.hl_lines.specs.Lines.{line_with}
use Rattle.hl_lines.specs.LineTable.{with_touched}
use Rattle.hl_log.specs.Logs.{with_machine}
use Rattle.hl_log.specs.Rest.{IsUnchanged}
use Rattle.hl_tseg.specs.SlotTable.{SlotTable, slot_at}
use Rattle.hl_tseg.specs.Slots.{HoldsSerial}
use Rattle.hl_placed.specs.Blocks.{PlacedFile, Shelf}
use Rattle.hl_paths.specs.Numbered.{Numbering}
use Rattle.hl_nodes.specs.Contents.{Contents}
use Rattle.hl_nodes.specs.Lines.{line_start}
use Rattle.hl_store.specs.Values.{StoreValue, layout}
use Rattle.hl_store.specs.Finding.{ReadsNodes}
use Rattle.hl_ranges.specs.Files.{LinesShow}
use Rattle.hl_ranges.specs.Needs.{AreAtHand, IsFirstMissing}
use Rattle.hl_walk.specs.Trees.{KnowsTree}
use Rattle.hl_walk.proofs.KeptTrees.{layout_kept, over_before, tree_kept}
use Rattle.hl_calls.specs.Calls.{KeepsTables, UsesLines}
use Rattle.hl_calls.specs.Trees.{ArePlacedLeaves, OfFiles}

-- two stores with the same slots, in which each line holds the same
module _ {M : Type 0} (old v : StoreValue M) (slots : v.tables.slots ≡ old.tables.slots) (states : v.lines.states ≡ old.lines.states) where
  holds_still : (tseg serial : ℕ) → HoldsSerial (slot_at v.tables.slots tseg) serial → HoldsSerial (slot_at old.tables.slots tseg) serial
  holds_still tseg serial holds = subst (λ (t : SlotTable). HoldsSerial (slot_at t tseg) serial) slots holds

  line_still : (tseg : ℕ) (line : Option ℕ) → line_with v.lines.states tseg ≡ line → line_with old.lines.states tseg ≡ line
  line_still tseg line held = subst (λ (s : List LineState). line_with s tseg ≡ line) states held

  -- what is at hand in one is so in the other
  at_hand_still : (tsegs serials : List ℕ) → AreAtHand v tsegs serials → AreAtHand old tsegs serials
  at_hand_still [] [] hands = tt
  at_hand_still [] (serial ∷ serials) hands = absurd hands
  at_hand_still (tseg ∷ tsegs) [] hands = absurd hands
  at_hand_still (tseg ∷ tsegs) (serial ∷ serials) hands = (
    record { holds = holds_still tseg serial hands.0.holds; line = hands.0.line; held = line_still tseg (Some hands.0.line) hands.0.held },
    at_hand_still tsegs serials hands.1,
  )

  -- so is the first that isn't
  missing_still : (tseg : ℕ) (serials : List ℕ) → IsFirstMissing v tseg serials → IsFirstMissing old tseg serials
  missing_still tseg serials is = record {
    before = is.before;
    serial = is.serial;
    behind = is.behind;
    are = is.are;
    tsegs = is.tsegs;
    at_hand = at_hand_still is.tsegs is.before is.at_hand;
    missing = record { holds = holds_still tseg is.serial is.missing.holds; none = line_still tseg None is.missing.none };
  }

  -- and what the lines show
  shown_still : (same : layout v ≡ layout old) (s : MachineState) (shelf : Shelf) → LinesShow old s shelf → LinesShow v s shelf
  shown_still same s shelf shows serial position bytes is = shows serial position bytes (record {
    tseg = is.tseg;
    holds = holds_still is.tseg serial is.holds;
    line = is.line;
    held = line_still is.tseg (Some is.line) is.held;
    within = subst (λ (g : Layout). position < g.k) same is.within;
    bytes_are = subst (λ (g : Layout). s.content (line_start g is.line + position) ≡ bytes) same is.bytes_are;
  })

module _ {M : Type 0} (history : M → Option History) (old mid : StoreValue M) (reads : ReadsNodes history old mid) where
  slots_read : mid.tables.slots ≡ old.tables.slots
  slots_read = ap (λ (v : StoreValue M). v.tables.slots) reads.same

  states_read : mid.lines.states ≡ old.lines.states
  states_read = ap (λ (v : StoreValue M). v.lines.states) reads.same

  -- WHAT IS AT HAND behind reads was so before them
  pub at_hand_before : (tsegs serials : List ℕ) → AreAtHand mid tsegs serials → AreAtHand old tsegs serials
  at_hand_before tsegs serials hands = at_hand_still old mid slots_read states_read tsegs serials hands

  pub missing_before : (tseg : ℕ) (serials : List ℕ) → IsFirstMissing mid tseg serials → IsFirstMissing old tseg serials
  missing_before tseg serials is = missing_still old mid slots_read states_read tseg serials is

  -- so lines that were used
  pub uses_before : (new : StoreValue M) (serials : List ℕ) → UsesLines mid new serials → UsesLines old new serials
  uses_before new serials uses = record {
    tsegs = uses.tsegs;
    at_hand = at_hand_before uses.tsegs serials uses.at_hand;
    lines = uses.lines ∙ ap (λ (v : StoreValue M). fold with_touched v.lines uses.tsegs) reads.same;
  }

  -- WHAT HOLDS OF FILES behind reads held before them
  pub of_files_before : Runs (history old.log.machine) (history mid.log.machine) IsUnchanged → (P : Contents → Shelf → Numbering PlacedFile → Type 0)
      → OfFiles history mid P → OfFiles history old P
  of_files_before run P holds h told c lies shelf numbered shows knows placed =
      over_before history old mid reads run
      (λ s c. (shelf : Shelf) (numbered : Numbering PlacedFile) → LinesShow mid s shelf → KnowsTree mid c numbered → ArePlacedLeaves shelf numbered → P c shelf numbered)
      holds h told c lies shelf numbered
      (shown_still old mid slots_read states_read (layout_kept history old mid reads) (state_now h) shelf shows)
      (tree_kept history old mid reads h told c lies numbered knows)
      placed

-- THE TABLES that stay through two steps stay
module _ {M : Type 0} where
  pub tables_both : (a b c : StoreValue M) → KeepsTables a b → KeepsTables b c → KeepsTables a c
  tables_both a b c first second = second ∙ ap (λ (v : StoreValue M). record v {
    log = with_machine v.log c.log.machine;
    overlay = c.overlay;
    uses = c.uses;
    tally = c.tally;
    lines = c.lines;
  }) first
