-- Lines that don't hold the segments of their slots.
use Rattle.std.proofs.Common.{◌≡◌, ⊎_elim, ℕ, ◌+◌, ◌*◌, ◌/◌, ◌<◌, ◌≤◌, List, length, refl, sym, ◌∙◌, subst, arith}
use Rattle.std.specs.Prelude.{Option, Some, None}
use Rattle.std.specs.List.{slice_index_or}
use Rattle.std.proofs.lemmas.Bool.{cases_lt}
use Rattle.std.proofs.lemmas.List.{get_or_past}
use Rattle.hl_media.specs.History.{History, Image, content}
use Rattle.hl_media.specs.Moments.{Now, Runs}
use Rattle.hl_addr.specs.Layout.{Layout}
use Rattle.hl_tseg.specs.Segments.{SegmentHead, SpellsSegment}
use Rattle.hl_super.specs.declared.record.Record.{Record}
use Rattle.hl_summary.specs.declared.parts.Summary.{Summary}
use Rattle.hl_tseg.specs.declared.slot.Slot.{Slot}
use Rattle.hl_tseg.specs.declared.slot.Slot.TheVariants.{Free, Staged}
use Rattle.hl_tseg.specs.SlotTable.{slot_at}
use Rattle.hl_tables.specs.Values.{TableValues}
use Rattle.hl_log.specs.Rest.{IsUnchanged}
use Rattle.hl_nodes.specs.declared.rule.Rule.TheVariants.{LineBytes}
use Rattle.hl_nodes.specs.Breaks.{Breaks}
use Rattle.hl_view.specs.Lines.{IsSegment}
use Rattle.hl_nodes.specs.Lines.{line_bytes, line_start}
use Rattle.hl_staged.specs.Lines.{IsOffLine}
use Rattle.hl_nodes.specs.Telling.{Tells}
use Rattle.hl_survey.proofs.Unchanged.{held_before}
use Rattle.hl_staged.proofs.Repeated.{last_or_before}

-- a buffer that is a segment of k blocks
segment_whole : (bytes line : List ℕ) (k serial : ℕ) → line ≡ bytes → length bytes ≡ 4096 * k → (head : SegmentHead) → IsSegment bytes serial head → SpellsSegment k line head
segment_whole bytes line k serial same size head is =
    let count : length bytes / 4096 ≡ k = omega arith in
    subst (λ (l : List ℕ). SpellsSegment k l head) (sym same) (subst (λ (n : ℕ). SpellsSegment n bytes head) count is.spelled)

whole_segment : (bytes line : List ℕ) (k serial : ℕ) → line ≡ bytes → length bytes ≡ 4096 * k → (head : SegmentHead) → SpellsSegment k line head → head.serial ≡ serial → IsSegment bytes serial head
whole_segment bytes line k serial same size head spelled own =
    let count : length bytes / 4096 ≡ k = omega arith in
    record { spelled = subst (λ (n : ℕ). SpellsSegment n bytes head) (sym count) (subst (λ (l : List ℕ). SpellsSegment k l head) same spelled); serial_is = own }

module _ (g : Layout) (image : Image) (line serial : ℕ) (bytes : List ℕ) (same : line_bytes g image line ≡ bytes) (size : length bytes ≡ 4096 * g.k) where
  -- a line that holds its segment
  pub line_holds : (head : SegmentHead) × IsSegment bytes serial head → (block : ℕ) → IsOffLine g image (Staged line serial) block → ⊥
  line_holds (head, is) block (own, number, e, at, never) =
      let one : line ≡ own = cc in
      let two : serial ≡ number = cc in
      never head (subst (λ (n : ℕ). SpellsSegment g.k (line_bytes g image n) head) one (segment_whole bytes (line_bytes g image line) g.k serial same size head is)) (is.serial_is ∙ two)

  -- a line that doesn't
  pub line_off : ((head : SegmentHead) × IsSegment bytes serial head → ⊥) → (block : ℕ) → block ≡ line_start g line → IsOffLine g image (Staged line serial) block
  line_off never block at = (line, serial, refl, at, λ head spelled own. never (head, whole_segment bytes (line_bytes g image line) g.k serial same size head spelled own))

module _ (g : Layout) (slots : List Slot) where
  -- the lines of the first slots hold their segments
  abbrev pub HoldBelow : Option History → ℕ → Type 0
  HoldBelow before n = (m block : ℕ) → m < n → Now before (λ s. IsOffLine g s.content (slice_index_or slots m Free) block → ⊥)

  module _ (before middle : Option History) (run : Runs before middle IsUnchanged) (off : Option ℕ) (n : ℕ) (slot : Slot) (here : slice_index_or slots n Free ≡ slot)
      (told : Now middle (λ s. Tells (IsOffLine g s.content slot) off)) where
    its : Now middle (λ s. Tells (IsOffLine g s.content (slice_index_or slots n Free)) off)
    its = subst (λ (x : Slot). Now middle (λ s. Tells (IsOffLine g s.content x) off)) (sym here) told

    -- one line more
    pub hold_more : off ≡ None → HoldBelow before n → HoldBelow before (n + 1)
    hold_more none below m block lt = ⊎_elim (λ low. below m block low) (λ e. last m e) (last_or_before m n lt)
      where
        last : (m : ℕ) → m ≡ n → Now before (λ s. IsOffLine g s.content (slice_index_or slots m Free) block → ⊥)
        last m e = held_before before middle (λ s. IsOffLine g s.content (slice_index_or slots m Free) block → ⊥) run (λ h told_now.
            subst (λ (k : ℕ). IsOffLine g (content h) (slice_index_or slots k Free) block → ⊥) (sym e) (subst (λ (o : Option ℕ). Tells (IsOffLine g (content h) (slice_index_or slots n Free)) o) none (its h told_now) block))

    -- a line that doesn't hold its segment
    pub off_before : (block : ℕ) → off ≡ Some block → Now before (λ s. IsOffLine g s.content (slice_index_or slots n Free) block)
    off_before block some = held_before before middle (λ s. IsOffLine g s.content (slice_index_or slots n Free) block) run (λ h told_now.
        subst (λ (o : Option ℕ). Tells (IsOffLine g (content h) (slice_index_or slots n Free)) o) some (its h told_now))

module _ (g : Layout) (t : TableValues) (image : Image) (rec : Record) (parts : List Summary) where
  pub line_broken : (n block : ℕ) → IsOffLine g image (slot_at t.slots n) block → Breaks g image rec parts t LineBytes block
  line_broken n block (line, serial, staged, at, never) = (n, line, serial, staged, at, never)

  pub lines_kept : (n : ℕ) → length t.slots.slots ≤ n → ((m block : ℕ) → m < n → IsOffLine g image (slot_at t.slots m) block → ⊥) → Tells (Breaks g image rec parts t LineBytes) None
  lines_kept n all none address (m, line, serial, staged, at, never) = ⊎_elim
      (λ lt. none m address lt (line, serial, staged, at, never))
      (λ ge. absurd (let past = get_or_past t.slots.slots m Free (omega arith) in let free : Free ≡ Staged line serial = sym past ∙ staged in cc))
      (cases_lt m n)
