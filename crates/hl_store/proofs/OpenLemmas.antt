-- A store that was just opened lies over what the mount found.
use Rattle.std.proofs.Common.{◌≡◌, ◌≢◌, inl, inr, ℕ, ◌<◌, ◌≤◌, ◌==◌, not, Bool, true, false, List, [], slice_index, slice_index_or, Option, Some, None, is_some, sym, ◌∙◌, ap, subst, arith}
use Rattle.std.proofs.lemmas.Bool.Decides.{eqb_tells}
use Rattle.std.specs.FinMap.{get}
use Rattle.hl_media.specs.History.{MachineState}
use Rattle.hl_bytes.specs.declared.records.TableRecord.{TableRecord}
use Rattle.hl_log.specs.Logs.{LogValue}
use Rattle.hl_tables.specs.Values.{TableValues}
use Rattle.hl_paths.specs.Nodes.{FlatNode}
use Rattle.hl_nodes.specs.Contents.{Contents}
use Rattle.hl_nodes.specs.Nodes.{IsMapEntry}
use Rattle.hl_nodes.specs.Sound.{AreSlots}
use Rattle.hl_nodes.proofs.PointerLemmas.{in_log-some}
use Rattle.hl_nodes.proofs.UnitLaws.{limits}
use Rattle.hl_overlay.specs.Overlays.{IsEmpty, OverlayValue}
use Rattle.hl_overlaid.proofs.BehindLemmas.{over_none}
use Rattle.hl_tally.specs.Tally.{Tally}
use Rattle.hl_tally.proofs.MountLaws.{mounted_tally}
use Rattle.hl_store.specs.declared.store.StoreParts.{StoreParts}
use Rattle.hl_store.specs.Values.{Reserved, overlaid}
use Rattle.hl_store.specs.Lying.{LiesOver}
use Rattle.hl_store.specs.Opening.{AreInUse, AreOfContents, AreParts, store_of}

-- numbers that differ
differs : (a b : ℕ) → a ≢ b → (a == b) ≡ false
differs a b apart = elim (eqb_tells a b) [ inl same ↦ absurd (apart same.1) | inr other ↦ other.0 ]

module _ {M : Type 0} (log : LogValue M) (parts : StoreParts) (of : AreParts log parts) (o : OverlayValue) (empty : IsEmpty log.geometry.inodes o) (flags : List Bool) (in_use : AreInUse parts.tables flags)
    (c : Contents) (s : MachineState) (found : AreOfContents log parts c s) (r : Reserved) where
  -- the numbers in use are those of nodes
  used_is : (ino : ℕ) (node : Option FlatNode) → IsMapEntry log.geometry c.tables.slots s.content ino (slice_index c.tables.inodes ino) node → not (slice_index c.tables.inodes ino == 4294967295) ≡ is_some node
  used_is ino None nothing = ap (λ (a : ℕ). not (a == 4294967295)) nothing
  used_is ino (Some node) there =
      ap not (differs (slice_index c.tables.inodes ino) 4294967295 (in_log-some log.geometry (limits log.geometry log.at parts.clean.items c s found.rests) (slice_index c.tables.inodes ino) there.there.in_log))

  numbers : (ino : ℕ) → 1 ≤ ino → ino < log.geometry.inodes → slice_index_or flags ino true ≡ is_some (get c.nodes ino)
  numbers ino low high =
      in_use.are ino low (let n = of.inodes in omega arith)
      ∙ ap (λ (t : TableValues). not (slice_index t.inodes ino == 4294967295)) found.tables
      ∙ used_is ino (get c.nodes ino) (found.rests.has.nodes.entries ino low high)

  pub opened : LiesOver (store_of log parts o flags r) c s
  opened =
      let slots : parts.tables.slots ≡ c.tables.slots = ap (λ (t : TableValues). t.slots) found.tables in
      record {
        rests = found.rests;
        sound = found.sound;
        listed = found.listed;
        rec = found.rec;
        inodes = ap (λ (t : TableValues). t.inodes) found.tables;
        slots = slots;
        serial = found.serial;
        possible = subst (λ t. AreSlots log.geometry t parts.tseg_serial) (sym slots) (subst (AreSlots log.geometry c.tables.slots) (sym found.serial) found.sound.slots);
        over = over_none log.geometry (overlaid (store_of log parts o flags r)) s.content c empty.none slots;
        tally = mounted_tally log.geometry s.content c (overlaid (store_of log parts o flags r)) (store_of log parts o flags r).tally found.addresses (record {
          sound = record { has = found.rests.has; sound = found.sound };
          none = empty.none;
          each = found.each;
          once = found.once;
          numbers = in_use.count ∙ of.inodes;
          in_use = numbers;
          charge = found.charge;
          live = found.live;
        });
      }

-- the same of a store whose notes are none and whose counts are these
pub opened_so : {M : Type 0} (log : LogValue M) (parts : StoreParts) → AreParts log parts → (o : OverlayValue) → IsEmpty log.geometry.inodes o → (flags : List Bool) → AreInUse parts.tables flags
    → (notes : List TableRecord) → notes ≡ [] → (tally : Tally) (in_use : List Bool) → tally ≡ record { in_use = in_use; charge = parts.charge; live = parts.live.items } → in_use ≡ flags
    → (c : Contents) (s : MachineState) → AreOfContents log parts c s → (r : Reserved) (b : Bool) → b ≡ true
    → LiesOver (record { log = log; tables = parts.tables; notes = notes; overlay = o; uses = parts.uses.items; tally = tally; lines = parts.lines; clean = parts.clean.items; tseg_serial = parts.tseg_serial; reserved = r; has_buffer = b }) c s
opened_so {M = M} log parts of o empty flags used notes none tally in_use counted same c s found r b there =
    let counts : tally ≡ record { in_use = flags; charge = parts.charge; live = parts.live.items } = counted ∙ ap (λ (u : List Bool). record { in_use = u; charge = parts.charge; live = parts.live.items }) same in
    subst (λ (n : Tally). LiesOver {M = M} (record { log = log; tables = parts.tables; notes = notes; overlay = o; uses = parts.uses.items; tally = n; lines = parts.lines; clean = parts.clean.items; tseg_serial = parts.tseg_serial; reserved = r; has_buffer = b }) c s) (sym counts)
    (subst (λ (ns : List TableRecord). LiesOver {M = M} (record { log = log; tables = parts.tables; notes = ns; overlay = o; uses = parts.uses.items; tally = record { in_use = flags; charge = parts.charge; live = parts.live.items }; lines = parts.lines; clean = parts.clean.items; tseg_serial = parts.tseg_serial; reserved = r; has_buffer = b }) c s) (sym none)
    (subst (λ (x : Bool). LiesOver {M = M} (record (store_of log parts o flags r) { has_buffer = x }) c s) (sym there)
    (opened log parts of o empty flags used c s found r)))
