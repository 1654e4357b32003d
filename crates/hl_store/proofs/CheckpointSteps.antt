-- The steps of a checkpoint, and what they make of the store.
use Rattle.std.proofs.Common.{◌≡◌, ℕ, ◌+◌, ◌-◌, ◌/◌, ◌<◌, ◌≤◌, Bool, true, false, List, [], ◌∷◌, drop, length, length-set, map, nat_lt, Option, slice_index, refl, sym, ◌∙◌, ap, subst, arith}
use Rattle.std.specs.Prelude.{if◌then◌else◌, min, slice_set, sum, ◌^◌}
use Rattle.std.specs.List.{fold, range_with_len}
use Rattle.std.specs.Vec.{vec_capacity}
use Rattle.std.proofs.lemmas.List.{length-map}
use Rattle.std.proofs.lemmas.List.FromFn.{length-map-range_with_len, length-range_with_len}
use Rattle.hl_media.specs.History.{History}
use Rattle.hl_media.specs.Moments.{Ends, Runs}
use Rattle.hl_addr.specs.Layout.{Layout, table_blocks, table_blocks_of}
use Rattle.hl_tables.specs.TableBlocks.{table_block}
use Rattle.hl_tables.specs.Values.{TableValues}
use Rattle.hl_image.specs.declared.place.LogPlace.{LogPlace}
use Rattle.hl_log.specs.declared.position.Position.{Position}
use Rattle.hl_log.specs.declared.unit.UnitAnswer.{UnitAnswer}
use Rattle.hl_log.specs.declared.unit.UnitAnswer.TheVariants as answer
use Rattle.hl_log.specs.Checkpoints.{Checkpoints, Given, IsRecordBehind, given_by}
use Rattle.hl_log.specs.Cut.{HasClean}
use Rattle.hl_log.specs.Logs as logs
use Rattle.hl_log.specs.Logs.{CheckpointIsWritten, Failed, LogValue}
use Rattle.hl_nodes.specs.Checkpoints.{contents_of_tables}
use Rattle.hl_overlay.specs.Overlays.{IsWholeOverlay}
use Rattle.hl_tally.specs.Tally.{Tally}
use Rattle.hl_tally.specs.Counting.{added, is_logged, removed, tables_counted}
use Rattle.hl_tally.proofs.Segments.{length-removed}
use Rattle.hl_store.specs.declared.checkpointing.Supplies.{Supplies}
use Rattle.hl_store.specs.Values.{IsTidy, StoreValue, layout}
use Rattle.hl_store.specs.Shapes.{IsShaped}
use Rattle.hl_store.specs.Checkpointing.{AreSupplies, CheckpointEndsInReserve, GoesOnOver, HasTableRoom, KeepsContents, blocks_of_tables, clean_of, given_of, is_clean, marked, marks_of, renewed}
use Rattle.hl_store.proofs.MarkLemmas.{clean_segments_are, passed_few}
use Rattle.hl_store.proofs.CheckpointLemmas.{checkpoint_goes_on, checkpoint_runs}

-- COUNTING changes no length

length_added : (k : ℕ) (live : List ℕ) (address : ℕ) → length (added k live address) ≡ length live
length_added k live address = by (is_logged k (length live) address)
  where
    by : (b : Bool) → length (if b then slice_set live (address / k - 1) (min (slice_index live (address / k - 1) + 1) (2 ^ 32 - 1)) else live) ≡ length live
    by true = length-set live (address / k - 1) (min (slice_index live (address / k - 1) + 1) (2 ^ 32 - 1))
    by false = refl

all_added : (k : ℕ) (plan live : List ℕ) → length (fold (added k) live plan) ≡ length live
all_added k [] live = refl
all_added k (a ∷ plan) live = all_added k plan (added k live a) ∙ length_added k live a

all_removed : (k : ℕ) (gone live : List ℕ) → length (fold (removed k) live gone) ≡ length live
all_removed k [] live = refl
all_removed k (a ∷ gone) live = all_removed k gone (removed k live a) ∙ length-removed k live a

pub length_counted : (k : ℕ) (gone plan live : List ℕ) → length (fold (added k) (fold (removed k) live gone) plan) ≡ length live
length_counted k gone plan live = all_added k plan (fold (removed k) live gone) ∙ all_removed k gone live

-- one count behind another
pub both_counted : (g : Layout) (k : ℕ) (gone before plan now : List ℕ) (n middle next : Tally) → k ≡ g.k → gone ≡ before → plan ≡ now → middle ≡ record n { live = fold (removed k) n.live gone }
    → next ≡ record middle { live = fold (added k) middle.live plan } → next ≡ tables_counted g before now n
both_counted g k gone before plan now n middle next size gone_is plan_is first second =
    second ∙ ap (λ (m : Tally). record m { live = fold (added k) m.live plan }) first
    ∙ ap (λ (j : ℕ). record n { live = fold (added j) (fold (removed j) n.live gone) plan }) size
    ∙ ap (λ (xs : List ℕ). record n { live = fold (added g.k) (fold (removed g.k) n.live xs) plan }) gone_is
    ∙ ap (λ (xs : List ℕ). record n { live = fold (added g.k) (fold (removed g.k) n.live before) xs }) plan_is

-- and its lengths
pub both_length : (k : ℕ) (gone plan : List ℕ) (n middle next : Tally) → middle ≡ record n { live = fold (removed k) n.live gone } → next ≡ record middle { live = fold (added k) middle.live plan }
    → length next.live ≡ length n.live
both_length k gone plan n middle next first second =
    ap (λ (m : Tally). length m.live) second ∙ ap (λ (m : Tally). length (fold (added k) m.live plan)) first ∙ length_counted k gone plan n.live

-- the clean segments by the head and the live numbers as they were read
pub cleans_of : (segments live numbers : List ℕ) (seg block : ℕ) (head : LogPlace) → segments ≡ clean_of seg numbers → numbers ≡ live → record { seg = seg; block = block } ≡ head → segments ≡ clean_of head.seg live
cleans_of segments live numbers seg block head is numbers_are head_is =
    is ∙ ap (clean_of seg) numbers_are ∙ ap (λ (p : LogPlace). clean_of p.seg live) head_is

-- THE SUPPLIES are of a store as its fields make it
pub supplies_of : {M : Type 0} (v old : StoreValue M) (supplies : Supplies) → v ≡ old → AreSupplies old supplies → AreSupplies v supplies
supplies_of v old supplies view are = subst (λ x. AreSupplies x supplies) (sym view) are

-- there is room for as many clean segments as there are live numbers
pub room_for : {M : Type 0} (v old : StoreValue M) (supplies : Supplies) (live : List ℕ) → v ≡ old → AreSupplies old supplies → IsShaped v → length live ≡ length v.tally.live → length live ≤ vec_capacity supplies.room
room_for v old supplies live view are shaped size =
    let room = (supplies_of v old supplies view are).room in
    let all = shaped.live in
    omega arith

pub few_for : {M : Type 0} (v : StoreValue M) (live : List ℕ) → IsShaped v → length live ≡ length v.tally.live → length live + 1 < 4294967296
few_for v live shaped size =
    let all = shaped.live in
    let most = shaped.limits.log_count.1 in
    omega arith

module _ {M : Type 0} (history : M → Option History) (faults write_faults : M → ℕ) where
  -- the log wrote the marked tables, or not
  pub record WritesTables (v : StoreValue M) (supplies : Supplies) (marks : List Bool) (tables : TableValues) (clean : List ℕ) (log : LogValue M) (ans : UnitAnswer) : Type 0 where
    pub shaped : IsShaped v
    pub whole : IsWholeOverlay v.overlay
    pub marks_are : marks ≡ supplies.marks.items
    pub tables_are : tables ≡ record v.tables { used = marks }
    pub clean_is : clean ≡ v.clean
    pub crash : Runs (history v.log.machine) (history log.machine) (Checkpoints (layout v) v.log.at clean (given_by v.log.rec.number supplies.rec) (blocks_of_tables tables))
    pub ends : logs.CheckpointEnds history faults write_faults clean (given_by v.log.rec.number supplies.rec) (blocks_of_tables tables) v.log log ans
    pub geometry : log.geometry ≡ layout v

  module _ (v : StoreValue M) (supplies : Supplies) (marks : List Bool) (tables : TableValues) (clean : List ℕ) (log : LogValue M) (ans : UnitAnswer) (tidy : IsTidy v) (are : AreSupplies v supplies)
      (step : WritesTables v supplies marks tables clean log ans) where
    marked_so : tables ≡ marked v
    marked_so = step.tables_are ∙ ap (λ (us : List Bool). record v.tables { used = us }) (step.marks_are ∙ are.marks)

    used_size : length (marks_of v.tally.live) ≡ (layout v).log
    used_size = length-map v.tally.live (λ (n : ℕ). nat_lt 0 n) ∙ step.shaped.live

    count_is : table_blocks_of (length (marks_of v.tally.live)) (length v.tables.inodes) (sum v.tables.slots.volumes) ≡ table_blocks (layout v)
    count_is = ap (λ (n : ℕ). table_blocks_of n (length v.tables.inodes) (sum v.tables.slots.volumes)) used_size
        ∙ ap (λ (n : ℕ). table_blocks_of (layout v).log n (sum v.tables.slots.volumes)) step.shaped.inodes
        ∙ ap (λ (vs : List ℕ). table_blocks_of (layout v).log (layout v).inodes (sum vs)) step.shaped.volumes

    contents_are : blocks_of_tables tables ≡ contents_of_tables (layout v) (marked v)
    contents_are = ap blocks_of_tables marked_so ∙ ap (λ (n : ℕ). map (table_block (marked v)) (range_with_len 0 n)) count_is

    size : length (contents_of_tables (layout v) (marked v)) ≡ table_blocks (layout v)
    size = length-map-range_with_len (table_block (marked v)) 0 (table_blocks (layout v))

    run : Runs (history v.log.machine) (history log.machine) (Checkpoints (layout v) v.log.at v.clean (given_of v) (contents_of_tables (layout v) (marked v)))
    run =
        let Of = λ (cs : List ℕ) (d : Given) (ts : List (List ℕ)). Runs (history v.log.machine) (history log.machine) (Checkpoints (layout v) v.log.at cs d ts) in
        subst (λ (ts : List (List ℕ)). Of v.clean (given_of v) ts) contents_are
        (subst (λ (d : Given). Of v.clean d (blocks_of_tables tables)) are.given
        (subst (λ (cs : List ℕ). Of cs (given_by v.log.rec.number supplies.rec) (blocks_of_tables tables)) step.clean_is step.crash))

    ended : logs.CheckpointEnds history faults write_faults v.clean (given_of v) (contents_of_tables (layout v) (marked v)) v.log log ans
    ended =
        let Of = λ (cs : List ℕ) (d : Given) (ts : List (List ℕ)). logs.CheckpointEnds history faults write_faults cs d ts v.log log ans in
        subst (λ (ts : List (List ℕ)). Of v.clean (given_of v) ts) contents_are
        (subst (λ (d : Given). Of v.clean d (blocks_of_tables tables)) are.given
        (subst (λ (cs : List ℕ). Of cs (given_by v.log.rec.number supplies.rec) (blocks_of_tables tables)) step.clean_is step.ends))

    has_room : HasClean (layout v) v.log.at.head v.clean (length (contents_of_tables (layout v) (marked v))) 0 → HasTableRoom v
    has_room = subst (λ (n : ℕ). HasClean (layout v) v.log.at.head v.clean n 0) size

    needs_room : HasTableRoom v → HasClean (layout v) v.log.at.head v.clean (length (contents_of_tables (layout v) (marked v))) 0
    needs_room = subst (λ (n : ℕ). HasClean (layout v) v.log.at.head v.clean n 0) (sym size)

    kept : Runs (history v.log.machine) (history log.machine) (KeepsContents v)
    kept = checkpoint_runs v step.shaped step.whole tidy (history v.log.machine) (history log.machine) run

    -- WHERE IT WASN'T WRITTEN the marks are as they were
    module _ (before : List Bool) (back : TableValues) (before_are : before ≡ supplies.before.items) (back_is : back ≡ record tables { used = before }) where
      tables_back : back ≡ v.tables
      tables_back = back_is ∙ ap (λ (t : TableValues). record t { used = before }) step.tables_are ∙ ap (λ (us : List Bool). record v.tables { used = us }) (before_are ∙ are.before)

      same_but_log : record v { log = log; tables = back } ≡ record v { log = log }
      same_but_log = ap (λ (t : TableValues). record v { log = log; tables = t }) tables_back

      same : log ≡ v.log → record v { log = log; tables = back } ≡ v
      same e = same_but_log ∙ ap (λ (l : LogValue M). record v { log = l }) e

      ends_else : (a : UnitAnswer) → ((used : ℕ) → a ≡ answer.Written used → ⊥) → logs.CheckpointEnds history faults write_faults v.clean (given_of v) (contents_of_tables (layout v) (marked v)) v.log log a
          → CheckpointEndsInReserve history faults write_faults v (record v { log = log; tables = back }) a
      ends_else (answer.Written used) not_written e = absurd (not_written used refl)
      ends_else answer.LogFull not_written e = (λ room. e.0 (needs_room room), same e.1)
      ends_else answer.DiskFault not_written e = (has_room e.0, e.1, same_but_log)
      ends_else answer.Memory not_written e = same e

      at_else : (a : UnitAnswer) → ((used : ℕ) → a ≡ answer.Written used → ⊥) → logs.CheckpointEnds history faults write_faults v.clean (given_of v) (contents_of_tables (layout v) (marked v)) v.log log a → log.at ≡ v.log.at
      at_else (answer.Written used) not_written e = absurd (not_written used refl)
      at_else answer.LogFull not_written e = ap (λ (l : LogValue M). l.at) e.1
      at_else answer.DiskFault not_written e = e.1.at
      at_else answer.Memory not_written e = ap (λ (l : LogValue M). l.at) e

      else_ends : ((used : ℕ) → ans ≡ answer.Written used → ⊥) → CheckpointEndsInReserve history faults write_faults v (record v { log = log; tables = back }) ans
      else_ends not_written = ends_else ans not_written ended

      else_shaped : ((used : ℕ) → ans ≡ answer.Written used → ⊥) → IsShaped (record v { log = log; tables = back })
      else_shaped not_written =
          let At = λ (g : Layout) (p : Position). IsShaped (record v { log = record { machine = log.machine; geometry = g; rec = log.rec; at = p } }) in
          subst IsShaped (sym same_but_log)
          (subst (λ (p : Position). At log.geometry p) (sym (at_else ans not_written ended))
          (subst (λ (g : Layout). At g v.log.at) (sym step.geometry)
          (record {
            limits = step.shaped.limits;
            drafts = step.shaped.drafts;
            uses = step.shaped.uses;
            inodes = step.shaped.inodes;
            used = step.shaped.used;
            blocks = step.shaped.blocks;
            volumes = step.shaped.volumes;
            in_use = step.shaped.in_use;
            live = step.shaped.live;
            lines = step.shaped.lines;
            clean = step.shaped.clean;
            few = step.shaped.few;
            notes = step.shaped.notes;
          })))

    -- WHERE IT WAS WRITTEN the tables' blocks are counted, and the clean segments are those without a live block
    module _ (tally : Tally) (segments : List ℕ) (tally_is : tally ≡ tables_counted (layout v) v.log.rec.tables log.rec.tables v.tally) (segments_are : segments ≡ clean_of log.at.head.seg tally.live) where
      abbrev own : LogValue M
      own = record { machine = log.machine; geometry = layout v; rec = log.rec; at = log.at }

      log_is : log ≡ own
      log_is = ap (λ (g : Layout). record log { geometry = g }) step.geometry

      abbrev new : StoreValue M
      new = record v { log = log; tables = tables; tally = tally; clean = segments }

      new_is : new ≡ renewed v new
      new_is = ap (λ (t : TableValues). record v { log = log; tables = t; tally = tally; clean = segments }) marked_so
          ∙ ap (λ (s : List ℕ). record v { log = log; tables = marked v; tally = tally; clean = s }) segments_are
          ∙ ap (λ (n : Tally). record v { log = log; tables = marked v; tally = n; clean = clean_of log.at.head.seg n.live }) tally_is

      own_is : new ≡ renewed v (record v { log = own })
      own_is = new_is ∙ ap (λ (l : LogValue M). renewed v (record v { log = l })) log_is

      written_shaped : IsShaped new
      written_shaped =
          let live = (tables_counted (layout v) v.log.rec.tables log.rec.tables v.tally).live in
          let all : length live ≡ (layout v).log = length_counted (layout v).k v.log.rec.tables log.rec.tables v.tally.live ∙ step.shaped.live in
          let most = step.shaped.limits.log_count.1 in
          let fewer = passed_few (is_clean log.at.head.seg live) (range_with_len 1 (length live)) in
          let row = length-range_with_len 1 (length live) in
          subst IsShaped (sym own_is)
          (record {
            limits = step.shaped.limits;
            drafts = step.shaped.drafts;
            uses = step.shaped.uses;
            inodes = step.shaped.inodes;
            used = used_size;
            blocks = step.shaped.blocks;
            volumes = step.shaped.volumes;
            in_use = step.shaped.in_use;
            live = all;
            lines = step.shaped.lines;
            clean = clean_segments_are (layout v) log.at.head.seg live all;
            few = omega arith;
            notes = step.shaped.notes;
          })

      written_ends : (a : UnitAnswer) (used : ℕ) → a ≡ answer.Written used → logs.CheckpointEnds history faults write_faults v.clean (given_of v) (contents_of_tables (layout v) (marked v)) v.log log a
          → CheckpointEndsInReserve history faults write_faults v new a
      written_ends a used is e = by (subst (logs.CheckpointEnds history faults write_faults v.clean (given_of v) (contents_of_tables (layout v) (marked v)) v.log log) is e)
        where
          over : CheckpointIsWritten history faults write_faults v.clean (given_of v) (contents_of_tables (layout v) (marked v)) v.log log used → Ends (history v.log.machine) (history log.machine) (GoesOnOver v new)
          over w = subst (λ x. Ends (history v.log.machine) (history log.machine) (GoesOnOver v x)) (sym own_is)
              (checkpoint_goes_on v step.shaped step.whole tidy log.machine log.rec log.at (drop used v.clean) w.at (history v.log.machine) (history log.machine) w.written)

          by : HasClean (layout v) v.log.at.head v.clean (length (contents_of_tables (layout v) (marked v))) 0
              × CheckpointIsWritten history faults write_faults v.clean (given_of v) (contents_of_tables (layout v) (marked v)) v.log log used → CheckpointEndsInReserve history faults write_faults v new a
          by f = subst (CheckpointEndsInReserve history faults write_faults v new) (sym is) (
            has_room f.0,
            record {
              within = f.1.within;
              is = new_is;
              tidy = tidy;
              at = f.1.at;
              rec = subst (λ n. IsRecordBehind (layout v) v.log.at v.clean (drop used v.clean) (given_of v) n log.rec) size f.1.rec;
              succeeded = f.1.succeeded;
              over = over f.1;
            },
          )

  -- THE SAME OF THE STORE AS ITS FIELDS MAKE IT
  module _ (v old : StoreValue M) (supplies : Supplies) (marks : List Bool) (tables : TableValues) (clean : List ℕ) (log : LogValue M) (ans : UnitAnswer) (view : v ≡ old) (tidy : IsTidy old) (are : AreSupplies old supplies)
      (step : WritesTables v supplies marks tables clean log ans) where
    tidy_of : IsTidy v
    tidy_of = subst IsTidy (sym view) tidy

    are_of : AreSupplies v supplies
    are_of = subst (λ x. AreSupplies x supplies) (sym view) are

    pub checkpoint_crash : Runs (history old.log.machine) (history log.machine) (KeepsContents old)
    checkpoint_crash = subst (λ x. Runs (history x.log.machine) (history log.machine) (KeepsContents x)) view (kept v supplies marks tables clean log ans tidy_of are_of step)

    module _ (before : List Bool) (back : TableValues) (before_are : before ≡ supplies.before.items) (back_is : back ≡ record tables { used = before }) (not_written : (used : ℕ) → ans ≡ answer.Written used → ⊥) where
      pub checkpoint_fails : CheckpointEndsInReserve history faults write_faults old (record v { log = log; tables = back }) ans
      checkpoint_fails = subst (λ x. CheckpointEndsInReserve history faults write_faults x (record v { log = log; tables = back }) ans) view
          (else_ends v supplies marks tables clean log ans tidy_of are_of step before back before_are back_is not_written)

      pub failed_shaped : IsShaped (record v { log = log; tables = back })
      failed_shaped = else_shaped v supplies marks tables clean log ans tidy_of are_of step before back before_are back_is not_written

    module _ (tally : Tally) (segments : List ℕ) (tally_is : tally ≡ tables_counted (layout v) supplies.gone log.rec.tables v.tally) (segments_are : segments ≡ clean_of log.at.head.seg tally.live) where
      gone_is : tally ≡ tables_counted (layout v) v.log.rec.tables log.rec.tables v.tally
      gone_is = tally_is ∙ ap (λ (gone : List ℕ). tables_counted (layout v) gone log.rec.tables v.tally) are_of.gone

      pub checkpoint_writes : (used : ℕ) → ans ≡ answer.Written used → CheckpointEndsInReserve history faults write_faults old (record v { log = log; tables = tables; tally = tally; clean = segments }) ans
      checkpoint_writes used is = subst (λ x. CheckpointEndsInReserve history faults write_faults x (record v { log = log; tables = tables; tally = tally; clean = segments }) ans) view
          (written_ends v supplies marks tables clean log ans tidy_of are_of step tally segments gone_is segments_are ans used is (ended v supplies marks tables clean log ans tidy_of are_of step))

      pub checkpointed_shaped : IsShaped (record v { log = log; tables = tables; tally = tally; clean = segments })
      checkpointed_shaped = written_shaped v supplies marks tables clean log ans tidy_of are_of step tally segments gone_is segments_are
