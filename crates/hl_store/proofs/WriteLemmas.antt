-- The writing of a store's unit.
use Rattle.std.proofs.Common.{◌≡◌, ◌⊎◌, inl, inr, ℕ, ◌+◌, ◌-◌, ◌/◌, ◌<◌, ◌^◌, min, true, false, Bool, if◌then◌else◌, All, List, [], ◌∷◌, drop, get_or, length, length-set, length-drop, slice_index, slice_set, Option, refl, sym, ◌∙◌, ap, subst, arith}
use Rattle.std.proofs.lemmas.List.{get_or-map, length-map}
use Rattle.std.proofs.lemmas.List.Elements.{All-nil}
use Rattle.std.specs.List.{fold}
use Rattle.hl_media.specs.History.{History}
use Rattle.hl_media.specs.Moments.{Ends, Runs}
use Rattle.hl_bytes.specs.declared.records.TableRecord.{TableRecord}
use Rattle.hl_summary.specs.Ranges.{IsBlockOf}
use Rattle.hl_log.specs.Cut.{AreCut, IsPlan}
use Rattle.hl_log.specs.Loads.{AreOf}
use Rattle.hl_log.specs.Logs.{LogValue, UnitEnds, UnitIsWritten}
use Rattle.hl_log.specs.Units.{Brought, GoesOn, HasCleanFor, HasWritten, WritesUnit}
use Rattle.hl_log.specs.Free.{AreClean}
use Rattle.hl_image.specs.declared.place.LogPlace.{LogPlace}
use Rattle.hl_addr.specs.Layout.{table_blocks}
use Rattle.hl_bytes.specs.declared.block.Block.{Block}
use Rattle.hl_bytes.specs.declared.records.BlockRecord.{BlockRecord}
use Rattle.hl_tally.specs.Tally.{Tally}
use Rattle.hl_tally.specs.Counting.{added, is_logged}
use Rattle.hl_log.specs.declared.unit.UnitAnswer.{UnitAnswer}
use Rattle.hl_log.specs.declared.unit.UnitAnswer.TheVariants as answer
use Rattle.hl_log.proofs.TwoPhases.{length-addresses}
use Rattle.hl_tables.specs.Values.{TableValues}
use Rattle.hl_tables.specs.Laying.{changed}
use Rattle.hl_nodes.specs.Units.{blocks_placed}
use Rattle.hl_overlay.specs.declared.draft.NodeDraft.{NodeDraft}
use Rattle.hl_overlay.specs.DraftTables.{DraftTable, HasNone, freed_of, others_in, others_of}
use Rattle.hl_overlay.specs.MadeUnits.{IsMadeOf, MadeUnitValue, undone}
use Rattle.hl_overlay.specs.Overlays.{IsEmpty, IsWholeOverlay, OverlayValue, unit_blocks}
use Rattle.hl_overlay.specs.Making.{AddsAll}
use Rattle.hl_overlaid.specs.Units.{brought_by, unit_changes}
use Rattle.hl_store.specs.Values.{IsTidy, Reserved, StoreValue, layout}
use Rattle.hl_store.specs.Shapes.{IsNoteOf, IsShaped}
use Rattle.hl_store.specs.Reserving.{HasAsMuch, HasOthers, IsReserved, IsUnitRefused}
use Rattle.hl_store.specs.Flushes.{Flushes, FlushesAll, HasUnitRoom, IsFlushed, WriteEnds}
use Rattle.hl_store.specs.Writing.{HasInodeOf, IsLaid, Lays, PutsPlan, records_of}
use Rattle.hl_store.proofs.FlushLemmas as unit
use Rattle.hl_store.proofs.MemoryLemmas.{memory_kept}
use Rattle.hl_store.proofs.FlushedLemmas.{behind, flushed, slots_same}
use Rattle.hl_store.proofs.SiteRecords.{All-from_slice_get, unit_of_site}

-- the unit of a store, as it was planned and made
pub record IsMade {M : Type 0} (v : StoreValue M) (plan : List ℕ) (made : MadeUnitValue) : Type 0 where
  pub planned : IsPlan (layout v) v.log.at.head v.clean (unit_blocks v.overlay) (length (unit_changes v.overlay v.notes)) plan
  pub adds : AddsAll plan v.uses v.overlay.drafts.items v.overlay.blocks made.blocks
  pub tables : made.tables ≡ unit_changes v.overlay v.notes
  pub drafts : made.drafts ≡ v.overlay.drafts
  pub fresh : made.fresh ≡ v.overlay.blocks

pub made_of : {M : Type 0} (v : StoreValue M) (o : OverlayValue) → HasOthers v.overlay o
    → (plan uses : List ℕ) (changes : List TableRecord) → IsPlan (layout v) v.log.at.head v.clean (unit_blocks v.overlay) (length (unit_changes v.overlay v.notes)) plan → uses ≡ v.uses → changes ≡ unit_changes v.overlay v.notes
    → (made : MadeUnitValue) → IsMadeOf plan uses o changes made → IsMade v plan made
made_of v o fits plan uses changes planned uses_is changes_is made is = record {
  planned = planned;
  adds = subst (λ (x : OverlayValue). AddsAll plan v.uses x.drafts.items x.blocks made.blocks) fits.same (subst (λ (us : List ℕ). AddsAll plan us o.drafts.items o.blocks made.blocks) uses_is is.adds);
  tables = is.tables_are ∙ changes_is;
  drafts = is.drafts_are ∙ ap (λ (x : OverlayValue). x.drafts) fits.same;
  fresh = is.fresh_are ∙ ap (λ (x : OverlayValue). x.blocks) fits.same;
}

module _ {M : Type 0} (self v : StoreValue M) (view_is : v ≡ self) (blocks tables : ℕ) (clean plan : List ℕ) (b : Bool)
    (blocks_are : blocks ≡ unit_blocks self.overlay) (tables_are : tables ≡ length (unit_changes self.overlay self.notes)) (clean_is : clean ≡ v.clean)
    (puts : PutsPlan (layout v) v.log.at.head clean blocks tables plan b) where
  puts_here : PutsPlan (layout v) v.log.at.head v.clean (unit_blocks v.overlay) (length (unit_changes v.overlay v.notes)) plan b
  puts_here =
      subst (λ n. PutsPlan (layout v) v.log.at.head v.clean (unit_blocks v.overlay) n plan b) (tables_are ∙ sym (ap (λ (x : StoreValue M). length (unit_changes x.overlay x.notes)) view_is))
      (subst (λ n. PutsPlan (layout v) v.log.at.head v.clean n tables plan b) (blocks_are ∙ sym (ap (λ (x : StoreValue M). unit_blocks x.overlay) view_is))
      (subst (λ (cs : List ℕ). PutsPlan (layout v) v.log.at.head cs blocks tables plan b) clean_is puts))

  -- the plan that was put is of the next unit
  pub put_for : b ≡ true → (slice : List ℕ) → slice ≡ plan → IsPlan (layout v) v.log.at.head v.clean (unit_blocks v.overlay) (length (unit_changes v.overlay v.notes)) slice
  put_for there slice slice_is = subst (IsPlan (layout v) v.log.at.head v.clean (unit_blocks v.overlay) (length (unit_changes v.overlay v.notes))) (sym slice_is)
      (subst (PutsPlan (layout v) v.log.at.head v.clean (unit_blocks v.overlay) (length (unit_changes v.overlay v.notes)) plan) there puts_here)

  -- or there are too few clean segments for it
  none_for : b ≡ false → (¬ HasUnitRoom v) × (plan ≡ [])
  none_for gone = subst (PutsPlan (layout v) v.log.at.head v.clean (unit_blocks v.overlay) (length (unit_changes v.overlay v.notes)) plan) gone puts_here

  pub none_put : b ≡ false → plan ≡ []
  none_put gone = (none_for gone).1

  pub log_full : b ≡ false → (history : M → Option History) (faults write_faults : M → ℕ) (r : Reserved) → HasAsMuch v.reserved r → WriteEnds history faults write_faults self (record v { reserved = r }) answer.LogFull
  log_full gone history faults write_faults r much = subst (λ (x : StoreValue M). WriteEnds history faults write_faults x (record v { reserved = r }) answer.LogFull) view_is
      ((none_for gone).0, memory_kept v v r refl much)

-- its plan has an address for each of its blocks
pub plan_for : {M : Type 0} (v : StoreValue M) (o : OverlayValue) → HasOthers v.overlay o
    → (plan : List ℕ) → IsPlan (layout v) v.log.at.head v.clean (unit_blocks v.overlay) (length (unit_changes v.overlay v.notes)) plan → length plan ≡ unit_blocks o
plan_for v o fits plan planned =
    ap length planned.3
    ∙ length-addresses (layout v) v.log.at.head v.clean (unit_blocks v.overlay) (length (unit_changes v.overlay v.notes)) planned.0 planned.1 planned.2
    ∙ sym (ap unit_blocks fits.same)

-- there is no memory for the addresses
pub plan_refused : {M : Type 0} (self v : StoreValue M) → v ≡ self → (blocks : ℕ) → blocks ≡ unit_blocks self.overlay → v.reserved.plan < blocks → (r : Reserved) → HasAsMuch v.reserved r → IsUnitRefused self (record v { reserved = r })
plan_refused self v view_is blocks are less r much =
    (λ (is : IsReserved self). (let enough = is.plan in let same : v.reserved.plan ≡ self.reserved.plan = ap (λ (x : StoreValue _). x.reserved.plan) view_is in absurd (omega arith)), memory_kept self v r view_is much)

-- there is no memory for the changes, or no room for inodes and pointer blocks
pub changes_refused : {M : Type 0} (self v : StoreValue M) → v ≡ self → (count : ℕ) → count ≡ length (unit_changes self.overlay self.notes) → (v.reserved.changes < count) ⊎ (v.overlay.room < others_of v.overlay.drafts)
    → (r : Reserved) → HasAsMuch v.reserved r → (o : OverlayValue) → o ≡ v.overlay → IsUnitRefused self (record v { overlay = o; reserved = r })
changes_refused {M = M} self v view_is count are less r much o same =
    subst (λ (x : OverlayValue). IsUnitRefused self (record v { overlay = x; reserved = r })) (sym same) (short less, memory_kept self v r view_is much)
  where
    short : (v.reserved.changes < count) ⊎ (v.overlay.room < others_of v.overlay.drafts) → IsReserved self → ⊥
    short (inl few) is = (let enough = is.changes in let same : v.reserved.changes ≡ self.reserved.changes = ap (λ (x : StoreValue M). x.reserved.changes) view_is in omega arith)
    short (inr few) is =
        let enough = is.room in
        let a : v.overlay.room ≡ self.overlay.room = ap (λ (x : StoreValue M). x.overlay.room) view_is in
        let b : others_of v.overlay.drafts ≡ others_of self.overlay.drafts = ap (λ (x : StoreValue M). others_of x.overlay.drafts) view_is in
        omega arith

-- as many segments have live blocks counted
added_all-length : (k : ℕ) (live plan : List ℕ) → length (fold (added k) live plan) ≡ length live
added_all-length k live [] = refl
added_all-length k live (a ∷ plan) = added_all-length k (added k live a) plan ∙ one (is_logged k (length live) a)
  where
    one : (b : Bool) → length (if b then slice_set live (a / k - 1) (min (slice_index live (a / k - 1) + 1) (2 ^ 32 - 1)) else live) ≡ length live
    one true = length-set live (a / k - 1) (min (slice_index live (a / k - 1) + 1) (2 ^ 32 - 1))
    one false = refl

module _ {M : Type 0} (v : StoreValue M) (shaped : IsShaped v) (whole : IsWholeOverlay v.overlay) (plan : List ℕ) (made : MadeUnitValue) (is : IsMade v plan made) where
  pub size : length made.blocks ≡ unit_blocks v.overlay
  size = unit.adds_count plan v.uses v.overlay.drafts.items v.overlay.blocks made.blocks is.adds

  pub plan_size : length plan ≡ length made.blocks
  plan_size = ap length is.planned.3 ∙ length-addresses (layout v) v.log.at.head v.clean (unit_blocks v.overlay) (length (unit_changes v.overlay v.notes)) is.planned.0 is.planned.1 is.planned.2 ∙ sym size

  pub of_site : AreOf (layout v) (records_of made.blocks) made.tables
  of_site = subst (AreOf (layout v) (records_of made.blocks)) (sym is.tables) (unit_of_site v shaped whole plan made.blocks is.adds)

  pub few : unit_blocks v.overlay < 2 ^ 32 → length made.blocks < 2 ^ 32
  few small = subst (λ n. n < 2 ^ 32) (sym size) small

  abbrev brought : Brought
  brought = brought_by made.blocks made.tables

  pub crash : (before now : Option History) → Runs before now (WritesUnit (layout v) v.log.at v.clean brought) → Runs before now (Flushes v)
  crash before now run = unit.flush_runs v shaped whole plan made.blocks is.planned.0 is.planned.1 is.planned.2 is.planned.3 is.adds before now
      (subst (λ (ts : List TableRecord). Runs before now (WritesUnit (layout v) v.log.at v.clean (brought_by made.blocks ts))) is.tables run)

  -- the inodes of the unit's blocks and the numbers of its drafts are in the tables
  pub inodes : All (HasInodeOf v.tables) made.blocks
  inodes = λ k d lt own. in_tables (get_or made.blocks k d) (subst (IsBlockOf (layout v).inodes (table_blocks (layout v))) (get_or-map (λ (b : BlockRecord × Block). b.0) made.blocks k d d.0 lt)
      (of_site.blocks k d.0 (subst (λ n. k < n) (sym (length-map made.blocks (λ (b : BlockRecord × Block). b.0))) lt))) own
    where
      in_tables : (b : BlockRecord × Block) → IsBlockOf (layout v).inodes (table_blocks (layout v)) b.0 → b.0.index ≡ 4294967295 → b.0.ino < length v.tables.inodes
      in_tables b (inl table) own = (let t = table.0 in absurd (omega arith))
      in_tables b (inr inode) own = (let high = inode.1.1 in let count = shaped.inodes in omega arith)

  pub numbers : All (λ (d : NodeDraft). d.ino < length v.tables.inodes) made.drafts.items
  numbers = subst (λ (t : DraftTable). All (λ (d : NodeDraft). d.ino < length v.tables.inodes) t.items) (sym is.drafts)
      (All-from_slice_get (λ (d : NodeDraft). d.ino < length v.tables.inodes) v.overlay.drafts.items
      (λ k d at. (let placed = (whole.table.placed k d at).0 in let places = shaped.drafts in let count = shaped.inodes in omega arith)))

  module _ (history : M → Option History) (faults write_faults : M → ℕ) (log : LogValue M) (t : TableValues) (tally : Tally) (o : OverlayValue) (r : Reserved) (used n : ℕ)
      (geometry : log.geometry ≡ v.log.geometry) (w : UnitIsWritten history faults write_faults v.clean brought v.log log used)
      (laid : IsLaid (layout v).k plan made v.tables t v.tally tally) (empty : IsEmpty n o) (none : HasNone o.drafts) (numbers_are : n ≡ length made.drafts.places) where
    -- the store behind
    abbrev pub behind_it : StoreValue M
    behind_it = record {
      log = log;
      tables = t;
      notes = [];
      overlay = o;
      uses = v.uses;
      tally = tally;
      lines = v.lines;
      clean = drop used v.clean;
      tseg_serial = v.tseg_serial;
      reserved = r;
      has_buffer = v.has_buffer;
    }

    abbrev as_one : LogValue M → Tally → StoreValue M
    as_one l n = record { log = l; tables = t; notes = []; overlay = o; uses = v.uses; tally = n; lines = v.lines; clean = drop used v.clean; tseg_serial = v.tseg_serial; reserved = r; has_buffer = v.has_buffer }

    log_is : log ≡ record { machine = log.machine; geometry = v.log.geometry; rec = v.log.rec; at = log.at }
    log_is = ap (λ g. record { machine = log.machine; geometry = g; rec = log.rec; at = log.at }) geometry ∙ ap (λ r. record { machine = log.machine; geometry = v.log.geometry; rec = r; at = log.at }) w.rec

    same : behind_it ≡ behind v shaped whole plan made.blocks is.planned.0 is.planned.1 is.planned.2 is.planned.3 is.adds log.machine log.at t o r used
    same = ap (λ (l : LogValue M). as_one l tally) log_is ∙ ap (λ (n : Tally). as_one (record { machine = log.machine; geometry = v.log.geometry; rec = v.log.rec; at = log.at }) n) laid.tally

    laid_on : t ≡ fold changed (blocks_placed v.tables (records_of made.blocks) plan) (freed_of v.overlay.drafts.items)
    laid_on = laid.tables ∙ ap (λ (d : DraftTable). fold changed (blocks_placed v.tables (records_of made.blocks) plan) (freed_of d.items)) is.drafts

    tidy : IsTidy behind_it
    tidy =
        let a : length o.blocks ≡ 0 = ap length empty.blocks in
        let b : others_in o.drafts.items ≡ 0 = ap others_in empty.none in
        let c : length (freed_of o.drafts.items) ≡ 0 = ap (λ (ds : List NodeDraft). length (freed_of ds)) empty.none in
        let sum : (length o.blocks + others_in o.drafts.items) + length (freed_of o.drafts.items) ≡ 0 = omega arith in
        (sum, refl)

    -- the store as it is left, whose notes are none and whose clean segments are these
    pub left_so : (P : StoreValue M → Type 0) (notes : List TableRecord) (clean : List ℕ) → notes ≡ [] → clean ≡ drop used v.clean → P behind_it
        → P (record { log = log; tables = t; notes = notes; overlay = o; uses = v.uses; tally = tally; lines = v.lines; clean = clean; tseg_serial = v.tseg_serial; reserved = r; has_buffer = v.has_buffer })
    left_so P notes clean none_noted these here =
        subst (λ (ns : List TableRecord). P (record { log = log; tables = t; notes = ns; overlay = o; uses = v.uses; tally = tally; lines = v.lines; clean = clean; tseg_serial = v.tseg_serial; reserved = r; has_buffer = v.has_buffer })) (sym none_noted)
        (subst (λ (cs : List ℕ). P (record { log = log; tables = t; notes = []; overlay = o; uses = v.uses; tally = tally; lines = v.lines; clean = cs; tseg_serial = v.tseg_serial; reserved = r; has_buffer = v.has_buffer })) (sym these) here)

    -- THE UNIT IS WRITTEN
    pub is_flushed : HasUnitRoom v × IsFlushed history faults write_faults v behind_it used
    is_flushed = (
      (is.planned.0, is.planned.1, is.planned.2),
      record {
        within = w.within;
        clean = refl;
        tidy = tidy;
        none = none;
        uses = refl;
        in_use = ap (λ (n : Tally). n.in_use) laid.tally;
        charge = ap (λ (n : Tally). n.charge) laid.tally;
        lines = refl;
        slots = slots_same v shaped whole plan made.blocks is.planned.0 is.planned.1 is.planned.2 is.planned.3 is.adds log.machine log.at t o r used w.at laid_on empty.none;
        serial = refl;
        buffer = refl;
        rec = w.rec;
        at = w.at;
        goes_on = subst (λ n. GoesOn (layout v) v.log.at v.clean n (length (unit_changes v.overlay v.notes)) log.at.head log.at.serial (drop used v.clean))
            (length-map made.blocks (λ (b : BlockRecord × Block). b.0) ∙ size)
            (subst (λ (ts : List TableRecord). GoesOn (layout v) v.log.at v.clean (length brought.records) (length ts) log.at.head log.at.serial (drop used v.clean)) is.tables w.goes_on);
        succeeded = w.succeeded;
        over = subst (λ (x : StoreValue M). Ends (history v.log.machine) (history log.machine) (FlushesAll v x)) (sym same)
            (flushed v shaped whole plan made.blocks is.planned.0 is.planned.1 is.planned.2 is.planned.3 is.adds log.machine log.at t o r used w.at laid_on empty.none
            (history v.log.machine) (history log.machine)
            (subst (λ (ts : List TableRecord). Ends (history v.log.machine) (history log.machine) (HasWritten (layout v) v.log.at v.clean (brought_by made.blocks ts) log.at (drop used v.clean))) is.tables w.written));
      },
    )

    -- and the store keeps its shape
    pub is_shaped : IsShaped behind_it
    is_shaped = subst IsShaped (sym same) (record {
      limits = shaped.limits;
      drafts = empty.numbers ∙ numbers_are ∙ ap (λ (d : DraftTable). length d.places) is.drafts ∙ shaped.drafts;
      uses = shaped.uses;
      inodes = laid.shape.inodes ∙ shaped.inodes;
      used = laid.shape.used ∙ shaped.used;
      blocks = laid.shape.segment_size ∙ shaped.blocks;
      volumes = laid.shape.volumes ∙ shaped.volumes;
      in_use = shaped.in_use;
      live = added_all-length (layout v).k v.tally.live plan ∙ shaped.live;
      lines = shaped.lines;
      clean = subst (λ (x : LogPlace). AreClean (layout v) x.seg (drop used v.clean)) (sym w.goes_on.head_is)
          (unit.clean_behind (layout v) v.log.at.head v.clean (length brought.records) (length brought.changes) w.goes_on.pieces (drop used v.clean) w.goes_on.are_cut shaped.clean);
      few = (let all = shaped.few in let less = length-drop used v.clean in omega arith);
      notes = All-nil (IsNoteOf (layout v));
    })

  enough : HasCleanFor (layout v) v.log.at.head v.clean brought
  enough =
      let records : length brought.records ≡ unit_blocks v.overlay = length-map made.blocks (λ (b : BlockRecord × Block). b.0) ∙ size in (
        is.planned.0,
        is.planned.1,
        subst (λ n. AreCut (layout v) v.log.at.head v.clean n (length made.tables) is.planned.0 is.planned.1) (sym records)
            (subst (λ (ts : List TableRecord). AreCut (layout v) v.log.at.head v.clean (unit_blocks v.overlay) (length ts) is.planned.0 is.planned.1) (sym is.tables) is.planned.2),
      )

  abbrev one : Reserved → LogValue M → TableValues → Tally → OverlayValue → StoreValue M
  one r l x n y = record { log = l; tables = x; notes = v.notes; overlay = y; uses = v.uses; tally = n; lines = v.lines; clean = v.clean; tseg_serial = v.tseg_serial; reserved = r; has_buffer = v.has_buffer }

  -- THE UNIT ISN'T WRITTEN
  pub not_written : (history : M → Option History) (faults write_faults : M → ℕ) (log : LogValue M) (t : TableValues) (tally : Tally) (o : OverlayValue) (r : Reserved) (result : UnitAnswer)
      → ((n : ℕ) → result ≡ answer.Written n → ⊥) → UnitEnds history faults write_faults v.clean brought v.log log result → Lays (layout v).k plan made v.tables t v.tally tally result → o ≡ undone made
      → WriteEnds history faults write_faults v (record { log = log; tables = t; notes = v.notes; overlay = o; uses = v.uses; tally = tally; lines = v.lines; clean = v.clean; tseg_serial = v.tseg_serial; reserved = r; has_buffer = v.has_buffer }) result
  not_written history faults write_faults log t tally o r (answer.Written n) other ends lays back = absurd (other n refl)
  not_written history faults write_faults log t tally o r answer.LogFull other ends lays back = absurd (ends.0 enough)
  not_written history faults write_faults log t tally o r answer.Memory other ends lays back = absurd ends
  not_written history faults write_faults log t tally o r answer.DiskFault other ends lays back =
      let at : o ≡ record v.overlay { room = 0 } = back
      ∙ ap (λ (d : DraftTable). record { drafts = d; blocks = made.fresh; room = 0 }) is.drafts
      ∙ ap (λ (bs : List (BlockRecord × Block)). record { drafts = v.overlay.drafts; blocks = bs; room = 0 }) is.fresh in (
        (is.planned.0, is.planned.1, is.planned.2),
        ends.1,
        ap (λ (x : TableValues). one r log x tally o) lays.0 ∙ ap (λ (n : Tally). one r log v.tables n o) lays.1 ∙ ap (λ (x : OverlayValue). one r log v.tables v.tally x) at,
      )
