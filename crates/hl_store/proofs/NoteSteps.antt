-- A change of a slot or a volume that is noted.
use Rattle.std.proofs.Common.{◌≡◌, ℕ, ◌==◌, All, true, false, Bool, if◌then◌else◌, List, [], ◌∷◌, ◌++◌, refl, sym, ◌∙◌, ap, subst, arith}
use Rattle.std.specs.List.{fold}
use Rattle.std.proofs.lemmas.List.Elements.{All-push}
use Rattle.std.proofs.lemmas.List.Sums.{fold-append}
use Rattle.hl_media.specs.History.{MachineState}
use Rattle.hl_bytes.specs.declared.records.TableRecord.{TableRecord}
use Rattle.hl_tables.specs.Laying.{changed, with_full, with_inode, with_slot}
use Rattle.hl_tables.specs.Values.{SameShape, TableValues}
use Rattle.hl_tseg.specs.SlotTable.{SlotTable}
use Rattle.hl_tseg.specs.declared.slot.Slot.TheVariants.{Home, Spoilt, Staged}
use Rattle.hl_nodes.specs.Contents.{Contents, next_tertiary}
use Rattle.hl_nodes.specs.Sound.{AreSlots}
use Rattle.hl_nodes.specs.Tables.{raised}
use Rattle.hl_overlay.specs.Overlays.{IsWholeOverlay}
use Rattle.hl_overlaid.specs.Changes.{KeepsAllSlots}
use Rattle.hl_overlaid.specs.Units.{IsOfSlots}
use Rattle.hl_overlaid.proofs.BehindLemmas.{notes-inodes}
use Rattle.hl_overlaid.proofs.UseLemmas.{slots_now, slots_over}
use Rattle.hl_tally.proofs.ReachLaws.{slots_tally}
use Rattle.hl_store.specs.Values.{Reserved, StoreValue, layout, overlaid}
use Rattle.hl_store.specs.Shapes.{IsNoteOf, IsShaped}
use Rattle.hl_store.specs.Lying.{LiesOver}
use Rattle.hl_store.specs.Noting.{Notes, with_note}
use Rattle.hl_store.specs.Reserving.{HasAsMuch}
use Rattle.hl_store.proofs.MemoryLemmas.{memory_keeps}

-- the slots that a change of the tables leaves are told by those before it
changed_slots_by : (p q s u w : Bool) (a b : TableValues) (r : TableRecord) → a.slots ≡ b.slots
    → (if p then with_inode a r.a 4294967295 else (if q then with_slot a r.a (Staged r.b r.serial) else (if s then with_slot a r.a (Home r.serial) else (if u then with_slot a r.a Spoilt else (if w then with_full a r.a else a))))).slots
    ≡ (if p then with_inode b r.a 4294967295 else (if q then with_slot b r.a (Staged r.b r.serial) else (if s then with_slot b r.a (Home r.serial) else (if u then with_slot b r.a Spoilt else (if w then with_full b r.a else b))))).slots
changed_slots_by true q s u w a b r e = e
changed_slots_by false true s u w a b r e = ap (λ (x : SlotTable). (with_slot (record a { slots = x }) r.a (Staged r.b r.serial)).slots) e
changed_slots_by false false true u w a b r e = ap (λ (x : SlotTable). (with_slot (record a { slots = x }) r.a (Home r.serial)).slots) e
changed_slots_by false false false true w a b r e = ap (λ (x : SlotTable). (with_slot (record a { slots = x }) r.a Spoilt).slots) e
changed_slots_by false false false false true a b r e = ap (λ (x : SlotTable). (with_full (record a { slots = x }) r.a).slots) e
changed_slots_by false false false false false a b r e = e

changed_slots : (a b : TableValues) (r : TableRecord) → a.slots ≡ b.slots → (changed a r).slots ≡ (changed b r).slots
changed_slots a b r e = changed_slots_by (r.kind == 1) (r.kind == 2) (r.kind == 3) (r.kind == 4) (r.kind == 5) a b r e

module _ {M : Type 0} where
  -- A NOTE
  module _ (t : StoreValue M) (change : TableRecord) (tables : TableValues) (notes : List TableRecord) (next : ℕ) (r : Reserved) (shaped : IsShaped t) (of : IsNoteOf (layout t) change) (notes_are : notes ≡ t.notes ++ change ∷ []) where
    abbrev noted : StoreValue M
    noted = record t { tables = tables; notes = notes; tseg_serial = next; reserved = r }

    -- each list is as long as it was, and each note is one of the site
    pub noted_shaped : SameShape t.tables tables → IsShaped noted
    noted_shaped same = record {
      limits = shaped.limits;
      drafts = shaped.drafts;
      uses = shaped.uses;
      inodes = same.inodes ∙ shaped.inodes;
      used = same.used ∙ shaped.used;
      blocks = same.segment_size ∙ shaped.blocks;
      volumes = same.volumes ∙ shaped.volumes;
      in_use = shaped.in_use;
      live = shaped.live;
      lines = shaped.lines;
      clean = shaped.clean;
      few = shaped.few;
      notes = subst (All (IsNoteOf (layout t))) (sym notes_are) (All-push (IsNoteOf (layout t)) t.notes change shaped.notes of);
    }

    module _ (whole : IsWholeOverlay t.overlay) (tables_are : tables ≡ changed t.tables change) (next_is : next ≡ raised t.tseg_serial change) where
      noted_over : (c : Contents) (s : MachineState) → LiesOver t c s → AreSlots (layout t) (with_note t change).tables.slots (with_note t change).tseg_serial
          → KeepsAllSlots (overlaid t) c.nodes (with_note t change).tables.slots → LiesOver (with_note t change) c s
      noted_over c s lies possible keeps = record {
        rests = lies.rests;
        sound = lies.sound;
        listed = lies.listed;
        rec = lies.rec;
        inodes = notes-inodes t.tables (change ∷ []) (All-push IsOfSlots [] change (λ k d lt. absurd (omega arith)) of.0) ∙ lies.inodes;
        slots = changed_slots t.tables (fold changed c.tables t.notes) change lies.slots ∙ sym (ap (λ (x : TableValues). x.slots) (fold-append changed c.tables t.notes (change ∷ [])));
        serial = ap (λ (n : ℕ). raised n change) lies.serial ∙ sym (fold-append raised (next_tertiary c) t.notes (change ∷ []));
        possible = possible;
        over = slots_over (layout t) s.content c (overlaid t) (record { table = whole.table; named = whole.named; numbers = shaped.drafts; each_use = shaped.uses }) lies.over (changed t.tables change).slots keeps;
        tally = slots_tally (layout t) s.content c (overlaid t) (changed t.tables change).slots t.tally lies.tally;
      }

      noted_is : noted ≡ record (with_note t change) { reserved = r }
      noted_is = ap (λ (x : TableValues). record t { tables = x; notes = notes; tseg_serial = next; reserved = r }) tables_are
          ∙ ap (λ (x : List TableRecord). record t { tables = changed t.tables change; notes = x; tseg_serial = next; reserved = r }) notes_are
          ∙ ap (λ (n : ℕ). record t { tables = changed t.tables change; notes = t.notes ++ change ∷ []; tseg_serial = n; reserved = r }) next_is

      pub notes_change : HasAsMuch t.reserved r → (self : StoreValue M) → t ≡ self → Notes self noted change
      notes_change much self view_is = subst (λ (x : StoreValue M). Notes x noted change) view_is
          (subst (λ (x : StoreValue M). Notes t x change) (sym noted_is) (record {
            same = refl;
            much = much;
            over = λ c s lies possible keeps. (memory_keeps (with_note t change) r t.has_buffer c s (noted_over c s lies possible keeps)).over;
            nodes = λ c. slots_now (overlaid t) (changed t.tables change).slots c.nodes;
          }))
