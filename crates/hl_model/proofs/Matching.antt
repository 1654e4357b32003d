-- Lines and slots as they change together.
use Rattle.std.proofs.Common.{arith, ◌≡◌, ◌≢◌, ℕ, ◌<◌, ◌≤◌, true, List, get_or, set, length, Option, Some, None, refl, ap, ◌∙◌, sym, subst}
use Rattle.hl_tseg.specs.Slots.{serial_of}
use Rattle.hl_tseg.specs.declared.slot.Slot.{Slot}
use Rattle.hl_tseg.specs.declared.slot.Slot.TheVariants.{Free, Staged, Home, Spoilt}
use Rattle.hl_model.specs.Cache.{AreMatched}
use Rattle.hl_lines.specs.declared.state.LineState.{LineState}
use Rattle.hl_lines.specs.declared.state.LineState.TheVariants.{Empty, Clean, Staging}
use Rattle.hl_lines.specs.Lines.{clean_segment, held_segment}
use Rattle.hl_model.specs.Lines.{is_home, staged_line}
use Rattle.hl_model.proofs.Sets.{at_set, set_alike, true_false}

none_some : {A P : Type 0} (o : Option A) (x : A) → o ≡ Some x → o ≡ None → P
none_some o x e f = cc

same_some : (o : Option ℕ) (x y : ℕ) → o ≡ Some x → o ≡ Some y → x ≡ y
same_some o x y e f = cc

module _ (slots : List Slot) (lines : List LineState) (next : ℕ) (m : AreMatched slots lines next) where
  -- a line goes on holding what it held
  pub matched-alike : (v : ℕ) (state : LineState) → held_segment state ≡ held_segment (get_or lines v Empty) → clean_segment state ≡ clean_segment (get_or lines v Empty) → AreMatched slots (set lines v state) next
  matched-alike v state held clean = record {
    staged = λ i t e. m.staged i t (sym (set_alike held_segment lines v state Empty held i) ∙ e);
    staging = λ i t e. set_alike held_segment lines v state Empty held i ∙ m.staging i t e;
    homes = λ i t e. m.homes i t (sym (set_alike clean_segment lines v state Empty clean i) ∙ e);
    one_line = λ i j t e f. m.one_line i j t (sym (set_alike clean_segment lines v state Empty clean i) ∙ e) (sym (set_alike clean_segment lines v state Empty clean j) ∙ f);
    one_slot = m.one_slot;
    below = m.below;
  }

  -- a line that may be dropped is
  pub matched-dropped : (v : ℕ) → v < length lines → held_segment (get_or lines v Empty) ≡ None → AreMatched slots (set lines v Empty) next
  matched-dropped v within held = record {
    staged = λ i t e. at_set lines v Empty Empty i within
        (λ same new. none_some (held_segment (get_or (set lines v Empty) i Empty)) t e (ap held_segment new))
        (λ differ old. m.staged i t (sym (ap held_segment old) ∙ e));
    staging = λ i t e. at_set lines v Empty Empty i within
        (λ same new. none_some (held_segment (get_or lines i Empty)) t (m.staging i t e) (ap (λ n. held_segment (get_or lines n Empty)) same ∙ held))
        (λ differ old. ap held_segment old ∙ m.staging i t e);
    homes = λ i t e. m.homes i t (was i t e);
    one_line = λ i j t e f. m.one_line i j t (was i t e) (was j t f);
    one_slot = m.one_slot;
    below = m.below;
  }
    where
      was : (i t : ℕ) → clean_segment (get_or (set lines v Empty) i Empty) ≡ Some t → clean_segment (get_or lines i Empty) ≡ Some t
      was i t e = at_set lines v Empty Empty i within
          (λ same new. none_some (clean_segment (get_or (set lines v Empty) i Empty)) t e (ap clean_segment new))
          (λ differ old. sym (ap clean_segment old) ∙ e)

  -- an empty line takes the segment of a free slot, with a new serial
  pub matched-staged : (v t serial later : ℕ) → v < length lines → held_segment (get_or lines v Empty) ≡ None → t < length slots → get_or slots t Free ≡ Free
      → ((u : ℕ) → serial_of (get_or slots u Free) ≡ Some serial → ⊥) → serial < later → next ≤ later
      → AreMatched (set slots t (Staged v serial)) (set lines v (Staging t)) later
  matched-staged v t serial later within held there free fresh low up = record {
    staged = λ i u e. at_set lines v (Staging t) Empty i within
        (λ same new. let one : t ≡ u = same_some (held_segment (get_or (set lines v (Staging t)) i Empty)) t u (ap held_segment new) e in
        at_set slots t (Staged v serial) Free u there
        (λ _ slot. ap staged_line slot ∙ ap Some (sym same))
        (λ differ _. absurd (differ (sym one))))
        (λ differ old. let was : staged_line (get_or slots u Free) ≡ Some i = m.staged i u (sym (ap held_segment old) ∙ e) in
        at_set slots t (Staged v serial) Free u there
        (λ same slot. none_some (staged_line (get_or slots u Free)) i was (ap (λ n. staged_line (get_or slots n Free)) same ∙ ap staged_line free))
        (λ _ slot. ap staged_line slot ∙ was));
    staging = λ i u e. at_set slots t (Staged v serial) Free u there
        (λ same slot. let one : v ≡ i = same_some (staged_line (get_or (set slots t (Staged v serial)) u Free)) v i (ap staged_line slot) e in
        at_set lines v (Staging t) Empty i within
        (λ _ new. ap held_segment new ∙ ap Some (sym same))
        (λ differ _. absurd (differ (sym one))))
        (λ differ slot. let was : held_segment (get_or lines i Empty) ≡ Some u = m.staging i u (sym (ap staged_line slot) ∙ e) in
        at_set lines v (Staging t) Empty i within
        (λ same new. none_some (held_segment (get_or lines i Empty)) u was (ap (λ n. held_segment (get_or lines n Empty)) same ∙ held))
        (λ _ new. ap held_segment new ∙ was));
    homes = λ i u e. let home : is_home (get_or slots u Free) ≡ true = m.homes i u (was i u e) in
        at_set slots t (Staged v serial) Free u there
        (λ same slot. true_false (is_home (get_or slots u Free)) home (ap (λ n. is_home (get_or slots n Free)) same ∙ ap is_home free))
        (λ _ slot. ap is_home slot ∙ home);
    one_line = λ i j u e f. m.one_line i j u (was i u e) (was j u f);
    one_slot = λ u w n e f. at_set slots t (Staged v serial) Free u there
        (λ same slot. let mine : serial ≡ n = same_some (serial_of (get_or (set slots t (Staged v serial)) u Free)) serial n (ap serial_of slot) e in
        at_set slots t (Staged v serial) Free w there
        (λ other _. same ∙ sym other)
        (λ _ old. absurd (fresh w (sym (ap serial_of old) ∙ f ∙ ap Some (sym mine)))))
        (λ differ old. at_set slots t (Staged v serial) Free w there
        (λ _ slot. let mine : serial ≡ n = same_some (serial_of (get_or (set slots t (Staged v serial)) w Free)) serial n (ap serial_of slot) f in
        absurd (fresh u (sym (ap serial_of old) ∙ e ∙ ap Some (sym mine))))
        (λ _ slot. m.one_slot u w n (sym (ap serial_of old) ∙ e) (sym (ap serial_of slot) ∙ f)));
    below = λ u n e. at_set slots t (Staged v serial) Free u there
        (λ _ slot. let mine : serial ≡ n = same_some (serial_of (get_or (set slots t (Staged v serial)) u Free)) serial n (ap serial_of slot) e in subst (λ k. k < later) mine low)
        (λ _ old. let less : n < next = m.below u n (sym (ap serial_of old) ∙ e) in omega arith);
  }
    where
      was : (i u : ℕ) → clean_segment (get_or (set lines v (Staging t)) i Empty) ≡ Some u → clean_segment (get_or lines i Empty) ≡ Some u
      was i u e = at_set lines v (Staging t) Empty i within
          (λ same new. none_some (clean_segment (get_or (set lines v (Staging t)) i Empty)) u e (ap clean_segment new))
          (λ differ old. sym (ap clean_segment old) ∙ e)

  -- a line that is set aside takes a segment that is home and has no line
  pub matched-bound : (v t : ℕ) → v < length lines → held_segment (get_or lines v Empty) ≡ None → is_home (get_or slots t Free) ≡ true
      → ((i : ℕ) → clean_segment (get_or lines i Empty) ≡ Some t → ⊥) → AreMatched slots (set lines v (Clean t)) next
  matched-bound v t within held home alone = record {
    staged = λ i u e. at_set lines v (Clean t) Empty i within
        (λ same new. none_some (held_segment (get_or (set lines v (Clean t)) i Empty)) u e (ap held_segment new))
        (λ differ old. m.staged i u (sym (ap held_segment old) ∙ e));
    staging = λ i u e. at_set lines v (Clean t) Empty i within
        (λ same new. none_some (held_segment (get_or lines i Empty)) u (m.staging i u e) (ap (λ n. held_segment (get_or lines n Empty)) same ∙ held))
        (λ differ old. ap held_segment old ∙ m.staging i u e);
    homes = λ i u e. at_set lines v (Clean t) Empty i within
        (λ same new. let one : t ≡ u = same_some (clean_segment (get_or (set lines v (Clean t)) i Empty)) t u (ap clean_segment new) e in subst (λ n. is_home (get_or slots n Free) ≡ true) one home)
        (λ differ old. m.homes i u (sym (ap clean_segment old) ∙ e));
    one_line = λ i j u e f. at_set lines v (Clean t) Empty i within
        (λ same new. let one : t ≡ u = same_some (clean_segment (get_or (set lines v (Clean t)) i Empty)) t u (ap clean_segment new) e in
        at_set lines v (Clean t) Empty j within
        (λ other _. same ∙ sym other)
        (λ _ old. absurd (alone j (sym (ap clean_segment old) ∙ f ∙ ap Some (sym one)))))
        (λ differ old. at_set lines v (Clean t) Empty j within
        (λ _ new. let one : t ≡ u = same_some (clean_segment (get_or (set lines v (Clean t)) j Empty)) t u (ap clean_segment new) f in
        absurd (alone i (sym (ap clean_segment old) ∙ e ∙ ap Some (sym one))))
        (λ _ new. m.one_line i j u (sym (ap clean_segment old) ∙ e) (sym (ap clean_segment new) ∙ f)));
    one_slot = m.one_slot;
    below = m.below;
  }

  -- of a line that is staging and its slot
  module _ (v t serial : ℕ) (within : v < length lines) (there : t < length slots) (staging : get_or lines v Empty ≡ Staging t) (slot : get_or slots t Free ≡ Staged v serial) where
    held : held_segment (get_or lines v Empty) ≡ Some t
    held = ap held_segment staging

    -- another line has another slot
    other_slot : (i u : ℕ) → i ≢ v → staged_line (get_or slots u Free) ≡ Some i → u ≢ t
    other_slot i u differ was same = differ (same_some (staged_line (get_or slots u Free)) i v was (ap (λ n. staged_line (get_or slots n Free)) same ∙ ap staged_line slot))

    -- another slot has another line
    other_line : (i u : ℕ) → u ≢ t → held_segment (get_or lines i Empty) ≡ Some u → i ≢ v
    other_line i u differ was same = differ (same_some (held_segment (get_or lines i Empty)) u t was (ap (λ n. held_segment (get_or lines n Empty)) same ∙ held))

    not_home : (u : ℕ) → is_home (get_or slots u Free) ≡ true → u ≢ t
    not_home u home same = true_false (is_home (get_or slots u Free)) home (ap (λ n. is_home (get_or slots n Free)) same ∙ ap is_home slot)

    -- no line is clean with its segment
    no_clean : (i : ℕ) → clean_segment (get_or lines i Empty) ≡ Some t → ⊥
    no_clean i e = not_home t (m.homes i t e) refl

    -- the segment is home, and its line clean
    pub matched-homed : AreMatched (set slots t (Home serial)) (set lines v (Clean t)) next
    matched-homed = record {
      staged = λ i u e. at_set lines v (Clean t) Empty i within
          (λ same new. none_some (held_segment (get_or (set lines v (Clean t)) i Empty)) u e (ap held_segment new))
          (λ differ old. let was = m.staged i u (sym (ap held_segment old) ∙ e) in at_set slots t (Home serial) Free u there
          (λ same _. absurd (other_slot i u differ was same))
          (λ _ kept. ap staged_line kept ∙ was));
      staging = λ i u e. at_set slots t (Home serial) Free u there
          (λ same new. none_some (staged_line (get_or (set slots t (Home serial)) u Free)) i e (ap staged_line new))
          (λ differ old. let was = m.staging i u (sym (ap staged_line old) ∙ e) in at_set lines v (Clean t) Empty i within
          (λ same _. absurd (other_line i u differ was same))
          (λ _ kept. ap held_segment kept ∙ was));
      homes = λ i u e. at_set slots t (Home serial) Free u there
          (λ same new. ap is_home new)
          (λ differ old. at_set lines v (Clean t) Empty i within
          (λ _ new. absurd (differ (same_some (clean_segment (get_or (set lines v (Clean t)) i Empty)) u t e (ap clean_segment new))))
          (λ _ new. ap is_home old ∙ m.homes i u (sym (ap clean_segment new) ∙ e)));
      one_line = λ i j u e f. at_set lines v (Clean t) Empty i within
          (λ same new. let one : t ≡ u = same_some (clean_segment (get_or (set lines v (Clean t)) i Empty)) t u (ap clean_segment new) e in
          at_set lines v (Clean t) Empty j within
          (λ other _. same ∙ sym other)
          (λ _ old. absurd (no_clean j (sym (ap clean_segment old) ∙ f ∙ ap Some (sym one)))))
          (λ differ old. at_set lines v (Clean t) Empty j within
          (λ _ new. let one : t ≡ u = same_some (clean_segment (get_or (set lines v (Clean t)) j Empty)) t u (ap clean_segment new) f in
          absurd (no_clean i (sym (ap clean_segment old) ∙ e ∙ ap Some (sym one))))
          (λ _ new. m.one_line i j u (sym (ap clean_segment old) ∙ e) (sym (ap clean_segment new) ∙ f)));
      one_slot = λ u w n e f. m.one_slot u w n (sym (alike u) ∙ e) (sym (alike w) ∙ f);
      below = λ u n e. m.below u n (sym (alike u) ∙ e);
    }
      where
        alike : (u : ℕ) → serial_of (get_or (set slots t (Home serial)) u Free) ≡ serial_of (get_or slots u Free)
        alike = set_alike serial_of slots t (Home serial) Free (sym (ap serial_of slot))

    -- the slot is spoilt, and its line empty
    pub matched-spoilt : AreMatched (set slots t Spoilt) (set lines v Empty) next
    matched-spoilt = record {
      staged = λ i u e. at_set lines v Empty Empty i within
          (λ same new. none_some (held_segment (get_or (set lines v Empty) i Empty)) u e (ap held_segment new))
          (λ differ old. let was = m.staged i u (sym (ap held_segment old) ∙ e) in at_set slots t Spoilt Free u there
          (λ same _. absurd (other_slot i u differ was same))
          (λ _ kept. ap staged_line kept ∙ was));
      staging = λ i u e. at_set slots t Spoilt Free u there
          (λ same new. none_some (staged_line (get_or (set slots t Spoilt) u Free)) i e (ap staged_line new))
          (λ differ old. let was = m.staging i u (sym (ap staged_line old) ∙ e) in at_set lines v Empty Empty i within
          (λ same _. absurd (other_line i u differ was same))
          (λ _ kept. ap held_segment kept ∙ was));
      homes = λ i u e. let home = m.homes i u (clean i u e) in at_set slots t Spoilt Free u there
          (λ same _. absurd (not_home u home same))
          (λ _ kept. ap is_home kept ∙ home);
      one_line = λ i j u e f. m.one_line i j u (clean i u e) (clean j u f);
      one_slot = λ u w n e f. m.one_slot u w n (serial_was u n e) (serial_was w n f);
      below = λ u n e. m.below u n (serial_was u n e);
    }
      where
        clean : (i u : ℕ) → clean_segment (get_or (set lines v Empty) i Empty) ≡ Some u → clean_segment (get_or lines i Empty) ≡ Some u
        clean i u e = at_set lines v Empty Empty i within
            (λ same new. none_some (clean_segment (get_or (set lines v Empty) i Empty)) u e (ap clean_segment new))
            (λ differ old. sym (ap clean_segment old) ∙ e)

        serial_was : (u n : ℕ) → serial_of (get_or (set slots t Spoilt) u Free) ≡ Some n → serial_of (get_or slots u Free) ≡ Some n
        serial_was u n e = at_set slots t Spoilt Free u there
            (λ same new. none_some (serial_of (get_or (set slots t Spoilt) u Free)) n e (ap serial_of new))
            (λ _ old. sym (ap serial_of old) ∙ e)

    -- its serial is in no other slot
    pub gone_serial : (u : ℕ) → serial_of (get_or (set slots t Spoilt) u Free) ≡ Some serial → ⊥
    gone_serial u e = at_set slots t Spoilt Free u there
        (λ same new. none_some (serial_of (get_or (set slots t Spoilt) u Free)) serial e (ap serial_of new))
        (λ differ old. differ (m.one_slot u t serial (sym (ap serial_of old) ∙ e) (ap serial_of slot)))
