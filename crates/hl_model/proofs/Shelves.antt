-- What a step changes of slots and lines keeps a shelf.
use Rattle.std.proofs.Common.{arith, ◌≡◌, ◌≢◌, ℕ, ◌<◌, true, false, List, length, get_or, set, Some, None, cond, refl, ap, ◌∙◌, sym, subst, inl, inr, T}
use Rattle.std.specs.Prelude.{IsSome, Contains}
use Rattle.std.specs.Ordering.{nat_cmp, eq_by_cmp, is_eq}
use Rattle.std.specs.Cmp.{tied_itself, nat_cmp_total}
use Rattle.std.specs.FinMap.{get, insert, get-insert, nat_cmp-IsAntisymmetric}
use Rattle.hl_tree.proofs.NamesBelow.{equal}
use Rattle.hl_placed.specs.Blocks.{Shelf}
use Rattle.hl_tseg.specs.declared.slot.Slot.{Slot}
use Rattle.hl_tseg.specs.declared.slot.Slot.TheVariants.{Free, Staged, Home, Spoilt}
use Rattle.hl_tseg.specs.Slots.{serial_of}
use Rattle.hl_lines.specs.Lines.{segment_of}
use Rattle.hl_model.proofs.Sets.{set_either, set_within}
use Rattle.hl_model.specs.Shelves.{HasSerial, JobOut, KeepsPlaces, KeepsBuffers, AreLined}
use Rattle.hl_lines.specs.declared.state.LineState.{LineState}
use Rattle.hl_lines.specs.declared.state.LineState.TheVariants.{Empty, Clean, Staging}

-- the segment of a line has no free slot
not_free : {P : Type 0} (slots : List Slot) (lines : List LineState) (next : ℕ) → AreLined slots lines next → (line t : ℕ) → segment_of (get_or lines line Empty) ≡ Some t → get_or slots t Free ≡ Free → P
not_free slots lines next lined line t holds free = let none : IsSome (serial_of Free) = subst (λ slot. IsSome (serial_of slot)) free (lined.there line t holds) in cc

-- buffers go on having the shelf's bytes where no slot gets another serial, and jobs are over
pub keeps_buffers : (old new : List Slot) (jobs fewer : List JobOut) (shelf : Shelf) → KeepsBuffers old jobs shelf
    → ((t serial : ℕ) → serial_of (get_or new t Free) ≡ Some serial → serial_of (get_or old t Free) ≡ Some serial) → ((held : JobOut) → Contains fewer held → Contains jobs held) → KeepsBuffers new fewer shelf
keeps_buffers old new jobs fewer shelf keeps serials out held i (inl copy) = keeps held (out held i) (inl copy)
keeps_buffers old new jobs fewer shelf keeps serials out held i (inr (done, its)) = keeps held (out held i) (inr (done, serials held.note.tseg held.note.serial its))

module _ (may : ℕ → List ℕ → Type 0) (line_bytes : ℕ → List ℕ) (slots : List Slot) (lines : List LineState) (shelf : Shelf) (keeps : KeepsPlaces may line_bytes slots lines shelf) where
  -- a line that holds nothing claims nothing
  pub keeps_dropped : (i : ℕ) (state : LineState) → segment_of state ≡ None → KeepsPlaces may line_bytes slots (set lines i state) shelf
  keeps_dropped i state none = record {
    homes = keeps.homes;
    cached = λ line serial has. elim (set_either lines i state Empty line) as (λ _. get shelf serial ≡ Some (line_bytes line)) [
      | inl h ↦ let no_segment : None ≡ Some has.tseg = sym none ∙ ap segment_of (sym h.1) ∙ has.holds in cc
      | inr h ↦ keeps.cached line serial (record { tseg = has.tseg; holds = ap segment_of (sym h) ∙ has.holds; serial_is = has.serial_is })
    ];
  }

  -- a copied segment is home, where its volume holds what its line has
  pub keeps_home : (i t serial : ℕ) → get_or lines i Empty ≡ Staging t → get_or slots t Free ≡ Staged i serial → ((bytes : List ℕ) → may t bytes → get shelf serial ≡ Some bytes) → KeepsPlaces may line_bytes (set slots t (Home serial)) (set lines i (Clean t)) shelf
  keeps_home i t serial staging staged synced = record {
    homes = λ u other is bytes h. elim (set_either slots t (Home serial) Free u) as (λ _. get shelf other ≡ Some bytes) [
      | inl g ↦ let one : Home serial ≡ Home other = sym g.1 ∙ is in let two : serial ≡ other = cc in subst (λ n. get shelf n ≡ Some bytes) two (synced bytes (subst (λ n. may n bytes) g.0 h))
      | inr g ↦ keeps.homes u other (sym g ∙ is) bytes h
    ];
    cached = λ line other has. keeps.cached line other (record {
      tseg = has.tseg;
      holds = old_segment line has.tseg has.holds;
      serial_is = old_serial has.tseg other has.serial_is;
    });
  }
    where
      old_segment : (line u : ℕ) → segment_of (get_or (set lines i (Clean t)) line Empty) ≡ Some u → segment_of (get_or lines line Empty) ≡ Some u
      old_segment line u holds = elim (set_either lines i (Clean t) Empty line) as (λ _. segment_of (get_or lines line Empty) ≡ Some u) [
        | inl h ↦ ap (λ n. segment_of (get_or lines n Empty)) h.0 ∙ ap segment_of staging ∙ sym (ap segment_of h.1) ∙ holds
        | inr h ↦ ap segment_of (sym h) ∙ holds
      ]

      old_serial : (u other : ℕ) → serial_of (get_or (set slots t (Home serial)) u Free) ≡ Some other → serial_of (get_or slots u Free) ≡ Some other
      old_serial u other is = elim (set_either slots t (Home serial) Free u) as (λ _. serial_of (get_or slots u Free) ≡ Some other) [
        | inl h ↦ ap (λ n. serial_of (get_or slots n Free)) h.0 ∙ ap serial_of staged ∙ sym (ap serial_of h.1) ∙ is
        | inr h ↦ ap serial_of (sym h) ∙ is
      ]

  -- a segment that is re-addressed keeps its line and its serial
  pub keeps_moved : (next i t u serial : ℕ) → AreLined slots lines next → get_or lines i Empty ≡ Staging t → get_or slots t Free ≡ Staged i serial → get_or slots u Free ≡ Free
      → KeepsPlaces may line_bytes (set (set slots t Spoilt) u (Staged i serial)) (set lines i (Staging u)) shelf
  keeps_moved next i t u serial lined staging staged free = record {
    homes = λ v other is bytes h. elim (set_either (set slots t Spoilt) u (Staged i serial) Free v) as (λ _. get shelf other ≡ Some bytes) [
      | inl g ↦ let no_home : Staged i serial ≡ Home other = sym g.1 ∙ is in cc
      | inr g ↦ elim (set_either slots t Spoilt Free v) as (λ _. get shelf other ≡ Some bytes) [
        | inl k ↦ let no_home : Spoilt ≡ Home other = sym k.1 ∙ sym g ∙ is in cc
        | inr k ↦ keeps.homes v other (sym k ∙ sym g ∙ is) bytes h
      ]
    ];
    cached = λ line other has. elim (set_either lines i (Staging u) Empty line) as (λ _. get shelf other ≡ Some (line_bytes line)) [
      | inl h ↦ at_line line other has h.0 (same_number has.tseg (sym (ap segment_of h.1) ∙ has.holds))
      | inr h ↦ elsewhere line other has (ap segment_of (sym h) ∙ has.holds)
    ];
  }
    where
      same_number : (v : ℕ) → Some u ≡ Some v → v ≡ u
      same_number v e = cc

      at_line : (line other : ℕ) (has : HasSerial (set (set slots t Spoilt) u (Staged i serial)) (set lines i (Staging u)) line other) → line ≡ i → has.tseg ≡ u → get shelf other ≡ Some (line_bytes line)
      at_line line other has e f = elim (set_either (set slots t Spoilt) u (Staged i serial) Free has.tseg) as (λ _. get shelf other ≡ Some (line_bytes line)) [
        | inl g ↦ let one : Some serial ≡ Some other = sym (ap serial_of g.1) ∙ has.serial_is in let two : serial ≡ other = cc in
            keeps.cached line other (record { tseg = t; holds = ap (λ n. segment_of (get_or lines n Empty)) e ∙ ap segment_of staging; serial_is = ap serial_of staged ∙ one })
        | inr g ↦ elim (set_either slots t Spoilt Free has.tseg) as (λ _. get shelf other ≡ Some (line_bytes line)) [
          | inl k ↦ let none : None ≡ Some other = sym (ap serial_of k.1) ∙ sym (ap serial_of g) ∙ has.serial_is in cc
          | inr k ↦ let none : None ≡ Some other = sym (ap serial_of free) ∙ sym (ap (λ n. serial_of (get_or slots n Free)) f) ∙ sym (ap serial_of k) ∙ sym (ap serial_of g) ∙ has.serial_is in cc
        ]
      ]

      elsewhere : (line other : ℕ) (has : HasSerial (set (set slots t Spoilt) u (Staged i serial)) (set lines i (Staging u)) line other) → segment_of (get_or lines line Empty) ≡ Some has.tseg → get shelf other ≡ Some (line_bytes line)
      elsewhere line other has holds = elim (set_either (set slots t Spoilt) u (Staged i serial) Free has.tseg) as (λ _. get shelf other ≡ Some (line_bytes line)) [
        | inl g ↦ not_free slots lines next lined line has.tseg holds (ap (λ n. get_or slots n Free) g.0 ∙ free)
        | inr g ↦ elim (set_either slots t Spoilt Free has.tseg) as (λ _. get shelf other ≡ Some (line_bytes line)) [
          | inl k ↦ let none : None ≡ Some other = sym (ap serial_of k.1) ∙ sym (ap serial_of g) ∙ has.serial_is in cc
          | inr k ↦ keeps.cached line other (record { tseg = has.tseg; holds = holds; serial_is = sym (ap serial_of k) ∙ sym (ap serial_of g) ∙ has.serial_is })
        ]
      ]

  -- a fetched segment is bound, and its line has the shelf's bytes of it
  module _ (line_bytes2 : ℕ → List ℕ) (i t serial : ℕ) (others : (line : ℕ) → line ≢ i → line_bytes2 line ≡ line_bytes line) (short : i < length lines) where
    pub keeps_bound : serial_of (get_or slots t Free) ≡ Some serial → get shelf serial ≡ Some (line_bytes2 i) → KeepsPlaces may line_bytes2 slots (set lines i (Clean t)) shelf
    keeps_bound its fits = record {
      homes = keeps.homes;
      cached = λ line other has. elim (set_within lines i (Clean t) Empty line short) as (λ _. get shelf other ≡ Some (line_bytes2 line)) [
        | inl h ↦ at_line line other has h.0 (sym (ap segment_of h.1) ∙ has.holds)
        | inr h ↦ keeps.cached line other (record { tseg = has.tseg; holds = ap segment_of (sym h.1) ∙ has.holds; serial_is = has.serial_is }) ∙ ap Some (sym (others line h.0))
      ];
    }
      where
        at_line : (line other : ℕ) (has : HasSerial slots (set lines i (Clean t)) line other) → line ≡ i → Some t ≡ Some has.tseg → get shelf other ≡ Some (line_bytes2 line)
        at_line line other has e f =
            let one : t ≡ has.tseg = cc in
            let two : Some serial ≡ Some other = sym its ∙ ap (λ n. serial_of (get_or slots n Free)) one ∙ has.serial_is in
            let three : serial ≡ other = cc in
            ap (get shelf) (sym three) ∙ fits ∙ ap (λ n. Some (line_bytes2 n)) (sym e)

    -- a segment is staged in a free slot with the next serial
    pub keeps_staged : (next : ℕ) → AreLined slots lines next → get_or slots t Free ≡ Free → KeepsPlaces may line_bytes2 (set slots t (Staged i next)) (set lines i (Staging t)) (insert shelf next (line_bytes2 i))
    keeps_staged next lined free = record {
      homes = λ v other is bytes h. elim (set_either slots t (Staged i next) Free v) as (λ _. get (insert shelf next (line_bytes2 i)) other ≡ Some bytes) [
        | inl g ↦ let no_home : Staged i next ≡ Home other = sym g.1 ∙ is in cc
        | inr g ↦ old other (lined.below v other (ap serial_of (sym g ∙ is))) ∙ keeps.homes v other (sym g ∙ is) bytes h
      ];
      cached = λ line other has. elim (set_within lines i (Staging t) Empty line short) as (λ _. get (insert shelf next (line_bytes2 i)) other ≡ Some (line_bytes2 line)) [
        | inl h ↦ at_line line other has h.0 (sym (ap segment_of h.1) ∙ has.holds)
        | inr h ↦ elsewhere line other has h.0 (ap segment_of (sym h.1) ∙ has.holds)
      ];
    }
      where
        old : (other : ℕ) → other < next → get (insert shelf next (line_bytes2 i)) other ≡ get shelf other
        old other less = get-insert nat_cmp_total shelf next (line_bytes2 i) other ∙ elim (eq_by_cmp nat_cmp other next) as (λ b. eq_by_cmp nat_cmp other next ≡ b → cond b (Some (line_bytes2 i)) (get shelf other) ≡ get shelf other) [
          | true ↦ λ e. let same : other ≡ next = nat_cmp-IsAntisymmetric other next (equal (nat_cmp other next) (subst T (sym e) tt)) in absurd (omega arith)
          | false ↦ λ e. refl
        ] refl

        new : get (insert shelf next (line_bytes2 i)) next ≡ Some (line_bytes2 i)
        new = get-insert nat_cmp_total shelf next (line_bytes2 i) next ∙ ap (λ b. cond b (Some (line_bytes2 i)) (get shelf next)) (ap is_eq (tied_itself nat_cmp_total next))

        at_line : (line other : ℕ) (has : HasSerial (set slots t (Staged i next)) (set lines i (Staging t)) line other) → line ≡ i → Some t ≡ Some has.tseg → get (insert shelf next (line_bytes2 i)) other ≡ Some (line_bytes2 line)
        at_line line other has e f =
            let one : t ≡ has.tseg = cc in
            elim (set_either slots t (Staged i next) Free has.tseg) as (λ _. get (insert shelf next (line_bytes2 i)) other ≡ Some (line_bytes2 line)) [
              | inl g ↦ let two : Some next ≡ Some other = sym (ap serial_of g.1) ∙ has.serial_is in let three : next ≡ other = cc in
                  ap (get (insert shelf next (line_bytes2 i))) (sym three) ∙ new ∙ ap (λ n. Some (line_bytes2 n)) (sym e)
              | inr g ↦ let none : None ≡ Some other = sym (ap serial_of free) ∙ ap (λ n. serial_of (get_or slots n Free)) one ∙ sym (ap serial_of g) ∙ has.serial_is in cc
            ]

        elsewhere : (line other : ℕ) (has : HasSerial (set slots t (Staged i next)) (set lines i (Staging t)) line other) → line ≢ i → segment_of (get_or lines line Empty) ≡ Some has.tseg → get (insert shelf next (line_bytes2 i)) other ≡ Some (line_bytes2 line)
        elsewhere line other has apart holds = elim (set_either slots t (Staged i next) Free has.tseg) as (λ _. get (insert shelf next (line_bytes2 i)) other ≡ Some (line_bytes2 line)) [
          | inl g ↦ not_free slots lines next lined line has.tseg holds (ap (λ n. get_or slots n Free) g.0 ∙ free)
          | inr g ↦
              let its : serial_of (get_or slots has.tseg Free) ≡ Some other = ap serial_of (sym g) ∙ has.serial_is in
              old other (lined.below has.tseg other its) ∙ keeps.cached line other (record { tseg = has.tseg; holds = holds; serial_is = its }) ∙ ap Some (sym (others line apart))
        ]
