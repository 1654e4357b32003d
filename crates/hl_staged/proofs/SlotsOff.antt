-- Slots that are off, or all possible.
use Rattle.std.proofs.Common.{◌≡◌, ◌≢◌, inl, inr, ⊎_elim, ℕ, ◌+◌, ◌*◌, ◌/◌, ◌<◌, ◌≤◌, false, List, length, map, sum, refl, sym, ap, ◌∙◌, subst, arith}
use Rattle.std.specs.Prelude.{Option, Some, None, MatchOption, Result, Ok, Err, IfOk, count_by, slice_index}
use Rattle.std.specs.List.{slice_index_or}
use Rattle.std.specs.Int.{div_ceil}
use Rattle.std.proofs.Math.ListN.{get_or-map}
use Rattle.std.proofs.lemmas.Bool.{cases_lt}
use Rattle.std.proofs.lemmas.List.{get_or_past, length-replicate}
use Rattle.hl_media.specs.History.{Image}
use Rattle.hl_addr.specs.Layout.{Layout, table_blocks, table_blocks_of}
use Rattle.hl_super.specs.declared.record.Record.{Record}
use Rattle.hl_summary.specs.declared.parts.Summary.{Summary}
use Rattle.hl_tseg.specs.declared.slot.Slot.{Slot}
use Rattle.hl_tseg.specs.declared.slot.Slot.TheVariants.{Free, Staged, Home, Spoilt}
use Rattle.hl_tseg.specs.SlotTable.{SlotTable, slot_at}
use Rattle.hl_tseg.specs.Slots.{HoldsSerial, is_staged, serial_of}
use Rattle.hl_tables.specs.Values.{AreTables, TableValues}
use Rattle.hl_tables.specs.TableBlocks.{inode_blocks, used_blocks}
use Rattle.hl_nodes.specs.declared.rule.Rule.TheVariants.{SlotEntry}
use Rattle.hl_nodes.specs.Breaks.{Breaks, IsOffSlot, IsTableAt}
use Rattle.hl_nodes.specs.Sound.{AreSlots}
use Rattle.hl_nodes.specs.Tables.{parts_raised}
use Rattle.hl_staged.specs.Repeats.{AreOnce, IsRepeat, StandsAt}
use Rattle.hl_staged.specs.Slots.{IsOffLimits, IsTooMany, TellsSlot, line_of}
use Rattle.hl_nodes.specs.Telling.{Tells}

line_staged : (slot : Slot) (line : ℕ) → line_of slot ≡ Some line → (serial : ℕ) × (slot ≡ Staged line serial)
line_staged (Staged own serial) line e = (serial, (cc))
line_staged Free line e = absurd (cc)
line_staged (Home serial) line e = absurd (cc)
line_staged Spoilt line e = absurd (cc)

module _ (g : Layout) (t : SlotTable) (next : ℕ) where
  pub off_too_many : (n : ℕ) → IsTooMany g.lines t.slots n → TellsSlot g t next (Some n)
  off_too_many n is = (is.within, inl (is.line, is.serial, is.staged, inr (inr is.many)))

  pub off_limits : (n : ℕ) → n < length t.slots → IsOffLimits g.lines next (slot_at t n) → TellsSlot g t next (Some n)
  off_limits n lt off = (lt, by (slot_at t n) refl off)
    where
      by : (slot : Slot) → slot_at t n ≡ slot → IsOffLimits g.lines next slot → IsOffSlot g t next n
      by Free e never = absurd never
      by (Staged line serial) e (inl far) = inl (line, serial, e, inl far)
      by (Staged line serial) e (inr far) = inr (serial, ap serial_of e, inl far)
      by (Home serial) e far = inr (serial, ap serial_of e, inl far)
      by Spoilt e never = absurd never

  -- what stands in a list of a number a slot
  stands : (f : Slot → Option ℕ) → f Free ≡ None → (number n : ℕ) → StandsAt (map f t.slots) number n → f (slot_at t n) ≡ Some number
  stands f none number n is = sym (get_or-map f t.slots n Free) ∙ ap (slice_index_or (map f t.slots) n) none ∙ is

  stood : (f : Slot → Option ℕ) → f Free ≡ None → (number n : ℕ) → f (slot_at t n) ≡ Some number → StandsAt (map f t.slots) number n
  stood f none number n is = ap (slice_index_or (map f t.slots) n) (sym none) ∙ get_or-map f t.slots n Free ∙ is

  within : (f : Slot → Option ℕ) → f Free ≡ None → (number n : ℕ) → f (slot_at t n) ≡ Some number → n < length t.slots
  within f none number n is = ⊎_elim (λ lt. lt)
      (λ ge. absurd (let past = ap f (get_or_past t.slots n Free ge) in let never : None ≡ Some number = sym none ∙ sym past ∙ is in cc))
      (cases_lt n (length t.slots))

  pub off_line_twice : (n : ℕ) → IsRepeat (map line_of t.slots) n → TellsSlot g t next (Some n)
  off_line_twice n is =
      let here = stands line_of refl is.number n is.here in
      let there = stands line_of refl is.number is.first is.there in
      let own = line_staged (slot_at t n) is.number here in
      let other = line_staged (slot_at t is.first) is.number there in
      let apart : is.first ≢ n = λ e. (let low = is.earlier in omega arith) in
      (within line_of refl is.number n here, inl (is.number, own.0, own.1, inr (inl (is.first, other.0, apart, other.1))))

  pub off_serial_twice : (n : ℕ) → IsRepeat (map serial_of t.slots) n → TellsSlot g t next (Some n)
  off_serial_twice n is =
      let here = stands serial_of refl is.number n is.here in
      let there = stands serial_of refl is.number is.first is.there in
      let apart : is.first ≢ n = λ e. (let low = is.earlier in omega arith) in
      (within serial_of refl is.number n here, inr (is.number, here, inr (is.first, apart, there)))

  staged_limits : ((n : ℕ) → IsOffLimits g.lines next (slot_at t n) → ⊥) → (n line serial : ℕ) → slot_at t n ≡ Staged line serial → line < g.lines
  staged_limits none n line serial staged = ⊎_elim (λ lt. lt)
      (λ far. absurd (none n (subst (IsOffLimits g.lines next) (sym staged) (inl far)))) (cases_lt line g.lines)

  held_limits : ((n : ℕ) → IsOffLimits g.lines next (slot_at t n) → ⊥) → (n serial : ℕ) → HoldsSerial (slot_at t n) serial → serial < next
  held_limits none n serial holds = ⊎_elim (λ lt. lt)
      (λ far. absurd (none n (by (slot_at t n) holds far))) (cases_lt serial next)
    where
      by : (slot : Slot) → HoldsSerial slot serial → next ≤ serial → IsOffLimits g.lines next slot
      by Free e far = absurd (cc)
      by (Staged line own) e far = inr (let same : own ≡ serial = cc in subst (λ (x : ℕ). next ≤ x) (sym same) far)
      by (Home own) e far = let same : own ≡ serial = cc in subst (λ (x : ℕ). next ≤ x) (sym same) far
      by Spoilt e far = absurd (cc)

  pub slots_kept : count_by is_staged t.slots + 12 ≤ g.lines → ((n : ℕ) → IsOffLimits g.lines next (slot_at t n) → ⊥) → AreOnce (map line_of t.slots) → AreOnce (map serial_of t.slots) → AreSlots g t next
  slots_kept few none lines serials = record {
    lines = staged_limits none;
    one_line = λ m n line a b one two. lines line m n (stood line_of refl line m (ap line_of one)) (stood line_of refl line n (ap line_of two));
    few = few;
    below = held_limits none;
    one_slot = λ m n serial one two. serials serial m n (stood serial_of refl serial m one) (stood serial_of refl serial n two);
  }

-- the same of the items that are tested
module _ (g : Layout) (t : SlotTable) (next : ℕ) (items : List Slot) (lines : ℕ) (slots : items ≡ t.slots) (last : lines ≡ g.lines) where
  pub tells_limits : (n : ℕ) → (n < length items) × IsOffLimits lines next (slice_index_or items n Free) → TellsSlot g t next (Some n)
  tells_limits n (lt, off) = off_limits g t next n (subst (λ (l : List Slot). n < length l) slots lt)
      (subst (λ (l : List Slot). IsOffLimits g.lines next (slice_index_or l n Free)) slots (subst (λ (k : ℕ). IsOffLimits k next (slice_index_or items n Free)) last off))

  module _ (numbers : List (Option ℕ)) (are : numbers ≡ map line_of items) where
    line_numbers : numbers ≡ map line_of t.slots
    line_numbers = are ∙ ap (map line_of) slots

    pub tells_line : (n : ℕ) (place : Option ℕ) → place ≡ Some n → MatchOption place (AreOnce numbers) (IsRepeat numbers) → TellsSlot g t next (Some n)
    tells_line n place e is = off_line_twice g t next n
        (subst (λ (l : List (Option ℕ)). IsRepeat l n) line_numbers (subst (λ (o : Option ℕ). MatchOption o (AreOnce numbers) (IsRepeat numbers)) e is))

    pub once_line : (place : Option ℕ) → place ≡ None → MatchOption place (AreOnce numbers) (IsRepeat numbers) → AreOnce (map line_of t.slots)
    once_line place e is = subst AreOnce line_numbers (subst (λ (o : Option ℕ). MatchOption o (AreOnce numbers) (IsRepeat numbers)) e is)

  module _ (numbers : List (Option ℕ)) (are : numbers ≡ map serial_of items) (few : count_by is_staged items + 12 ≤ lines) (none : (n : ℕ) → IsOffLimits lines next (slice_index_or items n Free) → ⊥) (once : AreOnce (map line_of t.slots)) where
    serial_numbers : numbers ≡ map serial_of t.slots
    serial_numbers = are ∙ ap (map serial_of) slots

    low : count_by is_staged t.slots + 12 ≤ g.lines
    low = subst (λ (k : ℕ). count_by is_staged t.slots + 12 ≤ k) last (subst (λ (l : List Slot). count_by is_staged l + 12 ≤ lines) slots few)

    within_all : (n : ℕ) → IsOffLimits g.lines next (slot_at t n) → ⊥
    within_all n off = none n (subst (λ (k : ℕ). IsOffLimits k next (slice_index_or items n Free)) (sym last) (subst (λ (l : List Slot). IsOffLimits g.lines next (slice_index_or l n Free)) (sym slots) off))

    pub tells_all : {E : Type 0} (r : Result (Option ℕ) E) → IfOk r (λ place. MatchOption place (AreOnce numbers) (IsRepeat numbers)) → IfOk r (TellsSlot g t next)
    tells_all (Ok None) is = slots_kept g t next low within_all once (subst AreOnce serial_numbers is)
    tells_all (Ok (Some n)) is = off_serial_twice g t next n (subst (λ (l : List (Option ℕ)). IsRepeat l n) serial_numbers is)
    tells_all (Err e) is = tt

-- no slot of possible ones is off
none_off : (g : Layout) (t : SlotTable) (next n : ℕ) → AreSlots g t next → IsOffSlot g t next n → ⊥
none_off g t next n are (inl (line, serial, staged, inl far)) = let low = are.lines n line serial staged in omega arith
none_off g t next n are (inl (line, serial, staged, inr (inl (m, other, apart, twice)))) = apart (are.one_line m n line other serial twice staged)
none_off g t next n are (inl (line, serial, staged, inr (inr many))) = let few = are.few in omega arith
none_off g t next n are (inr (serial, holds, inl far)) = let low = are.below n serial holds in omega arith
none_off g t next n are (inr (serial, holds, inr (m, apart, twice))) = apart (are.one_slot m n serial twice holds)

module _ (g : Layout) (t : TableValues) (are : AreTables g t) where
  inode_count : inode_blocks t ≡ div_ceil (4 * g.inodes) 4096
  inode_count = ap (λ (n : ℕ). div_ceil (4 * n) 4096) (are.shape.inodes ∙ length-replicate g.inodes 4294967295)

  used_count : used_blocks t ≡ div_ceil (4 * g.log) 4096
  used_count = ap (λ (n : ℕ). div_ceil (4 * n) 4096) (are.shape.used ∙ length-replicate g.log false)

  pub slot_count : length t.slots.slots ≡ sum g.volumes
  slot_count = are.shape.slots ∙ length-replicate (sum g.volumes) Free

  -- the table block of a slot
  pub slot_table : (rec : Record) (n i block : ℕ) → i ≡ div_ceil (4 * g.inodes) 4096 + div_ceil (4 * g.log) 4096 + n / 256 → i < length rec.tables → slice_index rec.tables i ≡ block
      → IsTableAt rec (inode_blocks t + used_blocks t + n / 256) block
  slot_table rec n i block place lt is =
      let same : i ≡ inode_blocks t + used_blocks t + n / 256 = omega (arith, inode_count, used_count, place) in
      (subst (λ (k : ℕ). k < length rec.tables) same lt, subst (λ (k : ℕ). slice_index rec.tables k ≡ block) same is)

  module _ (image : Image) (rec : Record) (parts : List Summary) (next : ℕ) (raised : parts_raised rec.tseg_serial parts ≡ next) where
    pub rule_broken : (n block : ℕ) → TellsSlot g t.slots next (Some n) → IsTableAt rec (inode_blocks t + used_blocks t + n / 256) block → Breaks g image rec parts t SlotEntry block
    rule_broken n block (lt, off) at = (n, subst (λ (k : ℕ). n < k) slot_count lt, at, subst (λ (k : ℕ). IsOffSlot g t.slots k n) (sym raised) off)

    pub rule_kept : AreSlots g t.slots next → Tells (Breaks g image rec parts t SlotEntry) None
    rule_kept all address (n, lt, at, off) = none_off g t.slots next n all (subst (λ (k : ℕ). IsOffSlot g t.slots k n) raised off)

-- the place of a slot's block among the table blocks
pub slot_table_low : (g : Layout) (n count : ℕ) → count ≡ table_blocks g → n < sum g.volumes → div_ceil (4 * g.inodes) 4096 + div_ceil (4 * g.log) 4096 + n / 256 < count
unfolding table_blocks_of
slot_table_low g n count is lt = omega arith
