use Rattle.std.proofs.Common.{rules, ℕ, ◌+◌, ◌*◌, ◌<◌, ◌≤◌, ◌^◌, List, drop, length, length-drop, arith, refl, sym, ◌∙◌, ap, subst}
use Rattle.std.specs.Prelude.{is_some}
use Rattle.std.specs.Global.{Vec}
use Rattle.std.specs.Vec.{vec_capacity}
use Rattle.hl_addr.specs.Layout.{Layout}
use Rattle.hl_bytes.specs.declared.records.TableRecord.{TableRecord}
use Rattle.hl_media.specs.Moments.{Runs}
use Rattle.hl_overlay.specs.Overlays.{IsWholeOverlay, unit_blocks}
use Rattle.hl_store.specs.Values.{StoreValue}
use Rattle.hl_log.specs.Logs.{UnitEnds, UnitIsWritten}
use Rattle.hl_log.specs.Rest.{SaysNothing}
use Rattle.hl_log.specs.Units.{WritesUnit}
use Rattle.hl_overlaid.specs.Units.{brought_by, unit_changes}
use Rattle.std.proofs.lemmas.List.{drop-drop}
use Rattle.hl_store.specs.Shapes.{IsShaped}
use Rattle.hl_store.specs.Flushes.{Flushes, HasUnitRoom, IsFlushed, WriteEnds}
use Rattle.hl_store.proofs.QuietLemmas.{quiet}
use Rattle.hl_store.proofs.WriteLemmas as writing
use Rattle.hl_store.proofs.store.Store.write.Goals as goal

pub returns-in_err-tables-clause-crash : goal.returns-in_err-tables-clause-crash
returns-in_err-tables-clause-crash g c = quiet c.args.self.now (g.M.Machine.history c.args.self.now.log.machine)

pub returns-in_err-planned-clause-crash : goal.returns-in_err-planned-clause-crash
returns-in_err-planned-clause-crash g c =
    subst (λ (x : StoreValue _). Runs (g.M.Machine.history c.args.self.now.log.machine) (g.M.Machine.history x.log.machine) (Flushes c.args.self.now)) (sym c.self.view_is)
    (quiet c.args.self.now (g.M.Machine.history c.args.self.now.log.machine))

pub returns-in_err-planned-clause-err : goal.returns-in_err-planned-clause-err
returns-in_err-planned-clause-err g c =
    let refused = writing.plan_refused {M = g.row.M.Denot} c.args.self.now _ c.self.view_is _ c.unit_blocks-blocks.ensures.value c.in_err-planned.ensures.full
    (record { plan = vec_capacity c.put_plan.new.plan; changes = vec_capacity c.self.inside.changes; notes = vec_capacity c.self.inside.notes }) (record { plan = c.in_err-planned.ensures.capacity; changes = omega arith; notes = omega arith }) in
    search rules

pub returns-then-not-planned-clause-crash : goal.returns-then-not-planned-clause-crash
returns-then-not-planned-clause-crash g c =
    subst (λ (x : StoreValue _). Runs (g.M.Machine.history c.args.self.now.log.machine) (g.M.Machine.history x.log.machine) (Flushes c.args.self.now)) (sym c.self.view_is)
    (quiet c.args.self.now (g.M.Machine.history c.args.self.now.log.machine))

pub returns-in-Err-clause-crash : goal.returns-in-Err-clause-crash
returns-in-Err-clause-crash g c =
    subst (λ (x : StoreValue _). Runs (g.M.Machine.history c.args.self.now.log.machine) (g.M.Machine.history x.log.machine) (Flushes c.args.self.now)) (sym c.self.view_is)
    (quiet c.args.self.now (g.M.Machine.history c.args.self.now.log.machine))

pub make-made-requires-clause-plan : goal.make-made-requires-clause-plan
make-made-requires-clause-plan g c =
    let v : StoreValue g.row.M.Denot = record { log = c.self.inside.log; tables = c.self.inside.tables; notes = c.self.inside.notes.items; overlay = c.self.inside.overlay; uses = c.self.inside.uses.items; tally = c.self.inside.counts; lines = c.self.inside.lines; clean = drop c.self.inside.taken c.self.inside.clean.items; tseg_serial = c.self.inside.tseg_serial; reserved = record { plan = vec_capacity c.self.inside.plan; changes = vec_capacity c.self.inside.changes; notes = vec_capacity c.self.inside.notes }; has_buffer = is_some c.self.inside.buffer } in
    let planned = writing.put_for {M = g.row.M.Denot} c.args.self.now v c.self.view_is _ _ _ _ _ c.unit_blocks-blocks.ensures.value c.in_ok-tables.ensures.value c.not_taken-clean.ensures c.in_ok-planned.ensures.puts c.if-not-planned.false c.as_slice-plan.result.now c.as_slice-plan.ensures.value in
    writing.plan_for {M = g.row.M.Denot} v c.put_changes.new.overlay c.in_default.ensures.fits c.as_slice-plan.result.now planned

pub write_made-answer-requires-clause-unit : goal.write_made-answer-requires-clause-unit
write_made-answer-requires-clause-unit g c =
    let whole : IsWholeOverlay c.self.inside.overlay = subst (λ (x : StoreValue _). IsWholeOverlay x.overlay) (sym c.self.view_is) c.unit_blocks-blocks.ensures.whole in
    let v : StoreValue g.row.M.Denot = record { log = c.self.inside.log; tables = c.self.inside.tables; notes = c.self.inside.notes.items; overlay = c.self.inside.overlay; uses = c.self.inside.uses.items; tally = c.self.inside.counts; lines = c.self.inside.lines; clean = drop c.self.inside.taken c.self.inside.clean.items; tseg_serial = c.self.inside.tseg_serial; reserved = record { plan = vec_capacity c.self.inside.plan; changes = vec_capacity c.self.inside.changes; notes = vec_capacity c.self.inside.notes }; has_buffer = is_some c.self.inside.buffer } in
    let planned = writing.put_for {M = g.row.M.Denot} c.args.self.now v c.self.view_is _ _ _ _ _ c.unit_blocks-blocks.ensures.value c.in_ok-tables.ensures.value c.not_taken-clean.ensures c.in_ok-planned.ensures.puts c.if-not-planned.false c.as_slice-plan.result.now c.as_slice-plan.ensures.value in
    let made = writing.made_of {M = g.row.M.Denot} v c.put_changes.new.overlay c.in_default.ensures.fits c.as_slice-plan.result.now c.as_slice.result.now c.replace-changes.result.items planned c.as_slice.ensures.value (ap (λ (x : Vec TableRecord). x.items) c.replace-changes.ensures.value ∙ c.in_default.ensures.puts ∙ ap (unit_changes c.self.inside.overlay) c.as_slice-notes.ensures.value) c.make-made.result c.make-made.ensures in
    writing.of_site {M = g.row.M.Denot} v c.self.invariant.shape whole c.as_slice-plan.result.now c.make-made.result made

pub write_made-answer-requires-clause-few : goal.write_made-answer-requires-clause-few
write_made-answer-requires-clause-few g c =
    let whole : IsWholeOverlay c.self.inside.overlay = subst (λ (x : StoreValue _). IsWholeOverlay x.overlay) (sym c.self.view_is) c.unit_blocks-blocks.ensures.whole in
    let v : StoreValue g.row.M.Denot = record { log = c.self.inside.log; tables = c.self.inside.tables; notes = c.self.inside.notes.items; overlay = c.self.inside.overlay; uses = c.self.inside.uses.items; tally = c.self.inside.counts; lines = c.self.inside.lines; clean = drop c.self.inside.taken c.self.inside.clean.items; tseg_serial = c.self.inside.tseg_serial; reserved = record { plan = vec_capacity c.self.inside.plan; changes = vec_capacity c.self.inside.changes; notes = vec_capacity c.self.inside.notes }; has_buffer = is_some c.self.inside.buffer } in
    let planned = writing.put_for {M = g.row.M.Denot} c.args.self.now v c.self.view_is _ _ _ _ _ c.unit_blocks-blocks.ensures.value c.in_ok-tables.ensures.value c.not_taken-clean.ensures c.in_ok-planned.ensures.puts c.if-not-planned.false c.as_slice-plan.result.now c.as_slice-plan.ensures.value in
    let made = writing.made_of {M = g.row.M.Denot} v c.put_changes.new.overlay c.in_default.ensures.fits c.as_slice-plan.result.now c.as_slice.result.now c.replace-changes.result.items planned c.as_slice.ensures.value (ap (λ (x : Vec TableRecord). x.items) c.replace-changes.ensures.value ∙ c.in_default.ensures.puts ∙ ap (unit_changes c.self.inside.overlay) c.as_slice-notes.ensures.value) c.make-made.result c.make-made.ensures in
    writing.few {M = g.row.M.Denot} v c.self.invariant.shape whole c.as_slice-plan.result.now c.make-made.result made (subst (λ (x : StoreValue _). unit_blocks x.overlay < 2 ^ 32) (sym c.self.view_is) c.unit_blocks-blocks.ensures.few)

pub write_made-answer-requires-clause-plan : goal.write_made-answer-requires-clause-plan
write_made-answer-requires-clause-plan g c =
    let whole : IsWholeOverlay c.self.inside.overlay = subst (λ (x : StoreValue _). IsWholeOverlay x.overlay) (sym c.self.view_is) c.unit_blocks-blocks.ensures.whole in
    let v : StoreValue g.row.M.Denot = record { log = c.self.inside.log; tables = c.self.inside.tables; notes = c.self.inside.notes.items; overlay = c.self.inside.overlay; uses = c.self.inside.uses.items; tally = c.self.inside.counts; lines = c.self.inside.lines; clean = drop c.self.inside.taken c.self.inside.clean.items; tseg_serial = c.self.inside.tseg_serial; reserved = record { plan = vec_capacity c.self.inside.plan; changes = vec_capacity c.self.inside.changes; notes = vec_capacity c.self.inside.notes }; has_buffer = is_some c.self.inside.buffer } in
    let planned = writing.put_for {M = g.row.M.Denot} c.args.self.now v c.self.view_is _ _ _ _ _ c.unit_blocks-blocks.ensures.value c.in_ok-tables.ensures.value c.not_taken-clean.ensures c.in_ok-planned.ensures.puts c.if-not-planned.false c.as_slice-plan.result.now c.as_slice-plan.ensures.value in
    let made = writing.made_of {M = g.row.M.Denot} v c.put_changes.new.overlay c.in_default.ensures.fits c.as_slice-plan.result.now c.as_slice.result.now c.replace-changes.result.items planned c.as_slice.ensures.value (ap (λ (x : Vec TableRecord). x.items) c.replace-changes.ensures.value ∙ c.in_default.ensures.puts ∙ ap (unit_changes c.self.inside.overlay) c.as_slice-notes.ensures.value) c.make-made.result c.make-made.ensures in
    writing.plan_size {M = g.row.M.Denot} v c.self.invariant.shape whole c.as_slice-plan.result.now c.make-made.result made

pub write_made-answer-requires-clause-inodes : goal.write_made-answer-requires-clause-inodes
write_made-answer-requires-clause-inodes g c =
    let whole : IsWholeOverlay c.self.inside.overlay = subst (λ (x : StoreValue _). IsWholeOverlay x.overlay) (sym c.self.view_is) c.unit_blocks-blocks.ensures.whole in
    let v : StoreValue g.row.M.Denot = record { log = c.self.inside.log; tables = c.self.inside.tables; notes = c.self.inside.notes.items; overlay = c.self.inside.overlay; uses = c.self.inside.uses.items; tally = c.self.inside.counts; lines = c.self.inside.lines; clean = drop c.self.inside.taken c.self.inside.clean.items; tseg_serial = c.self.inside.tseg_serial; reserved = record { plan = vec_capacity c.self.inside.plan; changes = vec_capacity c.self.inside.changes; notes = vec_capacity c.self.inside.notes }; has_buffer = is_some c.self.inside.buffer } in
    let planned = writing.put_for {M = g.row.M.Denot} c.args.self.now v c.self.view_is _ _ _ _ _ c.unit_blocks-blocks.ensures.value c.in_ok-tables.ensures.value c.not_taken-clean.ensures c.in_ok-planned.ensures.puts c.if-not-planned.false c.as_slice-plan.result.now c.as_slice-plan.ensures.value in
    let made = writing.made_of {M = g.row.M.Denot} v c.put_changes.new.overlay c.in_default.ensures.fits c.as_slice-plan.result.now c.as_slice.result.now c.replace-changes.result.items planned c.as_slice.ensures.value (ap (λ (x : Vec TableRecord). x.items) c.replace-changes.ensures.value ∙ c.in_default.ensures.puts ∙ ap (unit_changes c.self.inside.overlay) c.as_slice-notes.ensures.value) c.make-made.result c.make-made.ensures in
    writing.inodes {M = g.row.M.Denot} v c.self.invariant.shape whole c.as_slice-plan.result.now c.make-made.result made

pub write_made-answer-requires-clause-drafts : goal.write_made-answer-requires-clause-drafts
write_made-answer-requires-clause-drafts g c =
    let whole : IsWholeOverlay c.self.inside.overlay = subst (λ (x : StoreValue _). IsWholeOverlay x.overlay) (sym c.self.view_is) c.unit_blocks-blocks.ensures.whole in
    let v : StoreValue g.row.M.Denot = record { log = c.self.inside.log; tables = c.self.inside.tables; notes = c.self.inside.notes.items; overlay = c.self.inside.overlay; uses = c.self.inside.uses.items; tally = c.self.inside.counts; lines = c.self.inside.lines; clean = drop c.self.inside.taken c.self.inside.clean.items; tseg_serial = c.self.inside.tseg_serial; reserved = record { plan = vec_capacity c.self.inside.plan; changes = vec_capacity c.self.inside.changes; notes = vec_capacity c.self.inside.notes }; has_buffer = is_some c.self.inside.buffer } in
    let planned = writing.put_for {M = g.row.M.Denot} c.args.self.now v c.self.view_is _ _ _ _ _ c.unit_blocks-blocks.ensures.value c.in_ok-tables.ensures.value c.not_taken-clean.ensures c.in_ok-planned.ensures.puts c.if-not-planned.false c.as_slice-plan.result.now c.as_slice-plan.ensures.value in
    let made = writing.made_of {M = g.row.M.Denot} v c.put_changes.new.overlay c.in_default.ensures.fits c.as_slice-plan.result.now c.as_slice.result.now c.replace-changes.result.items planned c.as_slice.ensures.value (ap (λ (x : Vec TableRecord). x.items) c.replace-changes.ensures.value ∙ c.in_default.ensures.puts ∙ ap (unit_changes c.self.inside.overlay) c.as_slice-notes.ensures.value) c.make-made.result c.make-made.ensures in
    writing.numbers {M = g.row.M.Denot} v c.self.invariant.shape whole c.as_slice-plan.result.now c.make-made.result made

pub returns-in_default-answer : goal.returns-in_default-answer
returns-in_default-answer g c =
    let whole : IsWholeOverlay c.self.inside.overlay = subst (λ (x : StoreValue _). IsWholeOverlay x.overlay) (sym c.self.view_is) c.unit_blocks-blocks.ensures.whole in
    let v : StoreValue g.row.M.Denot = record { log = c.self.inside.log; tables = c.self.inside.tables; notes = c.self.inside.notes.items; overlay = c.self.inside.overlay; uses = c.self.inside.uses.items; tally = c.self.inside.counts; lines = c.self.inside.lines; clean = drop c.self.inside.taken c.self.inside.clean.items; tseg_serial = c.self.inside.tseg_serial; reserved = record { plan = vec_capacity c.self.inside.plan; changes = vec_capacity c.self.inside.changes; notes = vec_capacity c.self.inside.notes }; has_buffer = is_some c.self.inside.buffer } in
    let planned = writing.put_for {M = g.row.M.Denot} c.args.self.now v c.self.view_is _ _ _ _ _ c.unit_blocks-blocks.ensures.value c.in_ok-tables.ensures.value c.not_taken-clean.ensures c.in_ok-planned.ensures.puts c.if-not-planned.false c.as_slice-plan.result.now c.as_slice-plan.ensures.value in
    let made = writing.made_of {M = g.row.M.Denot} v c.put_changes.new.overlay c.in_default.ensures.fits c.as_slice-plan.result.now c.as_slice.result.now c.replace-changes.result.items planned c.as_slice.ensures.value (ap (λ (x : Vec TableRecord). x.items) c.replace-changes.ensures.value ∙ c.in_default.ensures.puts ∙ ap (unit_changes c.self.inside.overlay) c.as_slice-notes.ensures.value) c.make-made.result c.make-made.ensures in
    let after = c.write_made-answer.new.log in
    let ensures = c.write_made-answer.ensures in
    let new : StoreValue _ = record { log = after; tables = c.write_made-answer.new.tables; notes = c.self.inside.notes.items; overlay = c.undone.result; uses = c.self.inside.uses.items; tally = c.write_made-answer.new.counts; lines = c.self.inside.lines; clean = drop c.self.inside.taken c.self.inside.clean.items; tseg_serial = c.self.inside.tseg_serial; reserved = record { plan = vec_capacity c.clear-2.new.self; changes = vec_capacity c.replace-changes.new.dest; notes = vec_capacity c.self.inside.notes }; has_buffer = is_some c.self.inside.buffer } in
    record {
      crash = subst (λ (x : StoreValue _). Runs (g.M.Machine.history x.log.machine) (g.M.Machine.history after.machine) (Flushes x)) c.self.view_is (writing.crash {M = g.row.M.Denot} v c.self.invariant.shape whole c.as_slice-plan.result.now c.make-made.result made _ _
          (subst (λ (cs : List ℕ). Runs (g.M.Machine.history c.self.inside.log.machine) (g.M.Machine.history c.write_made-answer.new.log.machine) (WritesUnit c.self.inside.log.geometry c.self.inside.log.at cs (brought_by c.make-made.result.blocks c.make-made.result.tables))) c.not_taken-clean.ensures c.write_made-answer.ensures.crash));
      silent = subst (λ (x : StoreValue _). Runs (g.M.Machine.history x.log.machine) (g.M.Machine.history after.machine) SaysNothing) c.self.view_is ensures.silent;
      ends = subst (λ (x : StoreValue _). WriteEnds g.M.Machine.history g.M.Machine.faults g.M.Machine.write_faults x new c.write_made-answer.result) c.self.view_is
          (writing.not_written {M = g.row.M.Denot} v c.self.invariant.shape whole c.as_slice-plan.result.now c.make-made.result made g.M.Machine.history g.M.Machine.faults g.M.Machine.write_faults after c.write_made-answer.new.tables c.write_made-answer.new.counts c.undone.result (record { plan = vec_capacity c.clear-2.new.self; changes = vec_capacity c.replace-changes.new.dest; notes = vec_capacity c.self.inside.notes }) c.write_made-answer.result c.in_default-answer.not-Written
          (subst (λ (cs : List ℕ). UnitEnds g.M.Machine.history g.M.Machine.faults g.M.Machine.write_faults cs (brought_by c.make-made.result.blocks c.make-made.result.tables) c.self.inside.log after c.write_made-answer.result) c.not_taken-clean.ensures ensures.ends) ensures.laid c.undone.ensures);
      err = tt;
      geometry = ensures.geometry ∙ ap (λ (x : StoreValue _). x.log.geometry) c.self.view_is;
      blocks = ensures.blocks ∙ ap (λ (x : StoreValue _). g.M.Machine.blocks x.log.machine) c.self.view_is;
      faults = subst (λ (x : StoreValue _). g.M.Machine.faults x.log.machine ≤ g.M.Machine.faults after.machine) c.self.view_is ensures.faults;
      write_faults = subst (λ (x : StoreValue _). g.M.Machine.write_faults x.log.machine ≤ g.M.Machine.write_faults after.machine) c.self.view_is ensures.write_faults;
      say_faults = ensures.say_faults ∙ ap (λ (x : StoreValue _). g.M.Machine.say_faults x.log.machine) c.self.view_is;
    }

pub invariant_of-self-2 : goal.invariant_of-self-2
invariant_of-self-2 g c =
    let whole : IsWholeOverlay c.self.inside.overlay = subst (λ (x : StoreValue _). IsWholeOverlay x.overlay) (sym c.self.view_is) c.unit_blocks-blocks.ensures.whole in
    let v : StoreValue g.row.M.Denot = record { log = c.self.inside.log; tables = c.self.inside.tables; notes = c.self.inside.notes.items; overlay = c.self.inside.overlay; uses = c.self.inside.uses.items; tally = c.self.inside.counts; lines = c.self.inside.lines; clean = drop c.self.inside.taken c.self.inside.clean.items; tseg_serial = c.self.inside.tseg_serial; reserved = record { plan = vec_capacity c.self.inside.plan; changes = vec_capacity c.self.inside.changes; notes = vec_capacity c.self.inside.notes }; has_buffer = is_some c.self.inside.buffer } in
    let planned = writing.put_for {M = g.row.M.Denot} c.args.self.now v c.self.view_is _ _ _ _ _ c.unit_blocks-blocks.ensures.value c.in_ok-tables.ensures.value c.not_taken-clean.ensures c.in_ok-planned.ensures.puts c.if-not-planned.false c.as_slice-plan.result.now c.as_slice-plan.ensures.value in
    let made = writing.made_of {M = g.row.M.Denot} v c.put_changes.new.overlay c.in_default.ensures.fits c.as_slice-plan.result.now c.as_slice.result.now c.replace-changes.result.items planned c.as_slice.ensures.value (ap (λ (x : Vec TableRecord). x.items) c.replace-changes.ensures.value ∙ c.in_default.ensures.puts ∙ ap (unit_changes c.self.inside.overlay) c.as_slice-notes.ensures.value) c.make-made.result c.make-made.ensures in
    let used_within = c.in-Written.ensures.ends.1.within in
    let size = ap length c.not_taken-clean.ensures in
    let left = length-drop c.self.inside.taken c.self.inside.clean.items in
    let before = c.self.invariant.taken in
    record {
      shape = writing.left_so {M = g.row.M.Denot} v c.self.invariant.shape whole c.as_slice-plan.result.now c.make-made.result made g.M.Machine.history g.M.Machine.faults g.M.Machine.write_faults c.write_made-answer.new.log c.write_made-answer.new.tables c.write_made-answer.new.counts c.settled.result (record { plan = vec_capacity c.clear-2.new.self; changes = vec_capacity c.replace-changes.new.dest; notes = vec_capacity c.clear-3.new.self }) c.in-Written.used _ c.in-Written.ensures.geometry
          (subst (λ (cs : List ℕ). UnitIsWritten g.M.Machine.history g.M.Machine.faults g.M.Machine.write_faults cs (brought_by c.make-made.result.blocks c.make-made.result.tables) c.self.inside.log c.write_made-answer.new.log c.in-Written.used) c.not_taken-clean.ensures c.in-Written.ensures.ends.1)
          c.in-Written.ensures.laid c.settled.ensures.empty c.settled.ensures.none refl
          IsShaped c.clear-3.new.self.items (drop (c.self.inside.taken + c.in-Written.used) c.self.inside.clean.items) c.clear-3.ensures.items (sym (drop-drop c.in-Written.used c.self.inside.taken c.self.inside.clean.items))
          (writing.is_shaped {M = g.row.M.Denot} v c.self.invariant.shape whole c.as_slice-plan.result.now c.make-made.result made g.M.Machine.history g.M.Machine.faults g.M.Machine.write_faults c.write_made-answer.new.log c.write_made-answer.new.tables c.write_made-answer.new.counts c.settled.result (record { plan = vec_capacity c.clear-2.new.self; changes = vec_capacity c.replace-changes.new.dest; notes = vec_capacity c.clear-3.new.self }) c.in-Written.used _ c.in-Written.ensures.geometry
          (subst (λ (cs : List ℕ). UnitIsWritten g.M.Machine.history g.M.Machine.faults g.M.Machine.write_faults cs (brought_by c.make-made.result.blocks c.make-made.result.tables) c.self.inside.log c.write_made-answer.new.log c.in-Written.used) c.not_taken-clean.ensures c.in-Written.ensures.ends.1)
          c.in-Written.ensures.laid c.settled.ensures.empty c.settled.ensures.none refl);
      spare = record { no_plan = c.clear-2.ensures.items; no_changes = ap (λ (x : Vec TableRecord). x.items) c.replace-changes.ensures.after ∙ c.new.ensures.items; size = λ bytes is. c.self.invariant.spare.size bytes is ∙ sym (ap (λ (l : Layout). 4096 * l.k) c.in-Written.ensures.geometry) };
      taken = omega arith;
    }

pub returns-clause-crash : goal.returns-clause-crash
returns-clause-crash g c =
    let whole : IsWholeOverlay c.self.inside.overlay = subst (λ (x : StoreValue _). IsWholeOverlay x.overlay) (sym c.self.view_is) c.unit_blocks-blocks.ensures.whole in
    let v : StoreValue g.row.M.Denot = record { log = c.self.inside.log; tables = c.self.inside.tables; notes = c.self.inside.notes.items; overlay = c.self.inside.overlay; uses = c.self.inside.uses.items; tally = c.self.inside.counts; lines = c.self.inside.lines; clean = drop c.self.inside.taken c.self.inside.clean.items; tseg_serial = c.self.inside.tseg_serial; reserved = record { plan = vec_capacity c.self.inside.plan; changes = vec_capacity c.self.inside.changes; notes = vec_capacity c.self.inside.notes }; has_buffer = is_some c.self.inside.buffer } in
    let planned = writing.put_for {M = g.row.M.Denot} c.args.self.now v c.self.view_is _ _ _ _ _ c.unit_blocks-blocks.ensures.value c.in_ok-tables.ensures.value c.not_taken-clean.ensures c.in_ok-planned.ensures.puts c.if-not-planned.false c.as_slice-plan.result.now c.as_slice-plan.ensures.value in
    let made = writing.made_of {M = g.row.M.Denot} v c.put_changes.new.overlay c.in_default.ensures.fits c.as_slice-plan.result.now c.as_slice.result.now c.replace-changes.result.items planned c.as_slice.ensures.value (ap (λ (x : Vec TableRecord). x.items) c.replace-changes.ensures.value ∙ c.in_default.ensures.puts ∙ ap (unit_changes c.self.inside.overlay) c.as_slice-notes.ensures.value) c.make-made.result c.make-made.ensures in
    subst (λ (x : StoreValue _). Runs (g.M.Machine.history x.log.machine) (g.M.Machine.history c.write_made-answer.new.log.machine) (Flushes x)) c.self.view_is (writing.crash {M = g.row.M.Denot} v c.self.invariant.shape whole c.as_slice-plan.result.now c.make-made.result made _ _
    (subst (λ (cs : List ℕ). Runs (g.M.Machine.history c.self.inside.log.machine) (g.M.Machine.history c.write_made-answer.new.log.machine) (WritesUnit c.self.inside.log.geometry c.self.inside.log.at cs (brought_by c.make-made.result.blocks c.make-made.result.tables))) c.not_taken-clean.ensures c.write_made-answer.ensures.crash))

pub returns-clause-ends : goal.returns-clause-ends
returns-clause-ends g c =
    let whole : IsWholeOverlay c.self.inside.overlay = subst (λ (x : StoreValue _). IsWholeOverlay x.overlay) (sym c.self.view_is) c.unit_blocks-blocks.ensures.whole in
    let v : StoreValue g.row.M.Denot = record { log = c.self.inside.log; tables = c.self.inside.tables; notes = c.self.inside.notes.items; overlay = c.self.inside.overlay; uses = c.self.inside.uses.items; tally = c.self.inside.counts; lines = c.self.inside.lines; clean = drop c.self.inside.taken c.self.inside.clean.items; tseg_serial = c.self.inside.tseg_serial; reserved = record { plan = vec_capacity c.self.inside.plan; changes = vec_capacity c.self.inside.changes; notes = vec_capacity c.self.inside.notes }; has_buffer = is_some c.self.inside.buffer } in
    let planned = writing.put_for {M = g.row.M.Denot} c.args.self.now v c.self.view_is _ _ _ _ _ c.unit_blocks-blocks.ensures.value c.in_ok-tables.ensures.value c.not_taken-clean.ensures c.in_ok-planned.ensures.puts c.if-not-planned.false c.as_slice-plan.result.now c.as_slice-plan.ensures.value in
    let made = writing.made_of {M = g.row.M.Denot} v c.put_changes.new.overlay c.in_default.ensures.fits c.as_slice-plan.result.now c.as_slice.result.now c.replace-changes.result.items planned c.as_slice.ensures.value (ap (λ (x : Vec TableRecord). x.items) c.replace-changes.ensures.value ∙ c.in_default.ensures.puts ∙ ap (unit_changes c.self.inside.overlay) c.as_slice-notes.ensures.value) c.make-made.result c.make-made.ensures in
    let new : StoreValue _ = record { log = c.write_made-answer.new.log; tables = c.write_made-answer.new.tables; notes = c.clear-3.new.self.items; overlay = c.settled.result; uses = c.self.inside.uses.items; tally = c.write_made-answer.new.counts; lines = c.self.inside.lines; clean = drop (c.self.inside.taken + c.in-Written.used) c.self.inside.clean.items; tseg_serial = c.self.inside.tseg_serial; reserved = record { plan = vec_capacity c.clear-2.new.self; changes = vec_capacity c.replace-changes.new.dest; notes = vec_capacity c.clear-3.new.self }; has_buffer = is_some c.self.inside.buffer } in
    subst (λ (x : StoreValue _). HasUnitRoom x × IsFlushed g.M.Machine.history g.M.Machine.faults g.M.Machine.write_faults x new c.in-Written.used) c.self.view_is
    (writing.left_so {M = g.row.M.Denot} v c.self.invariant.shape whole c.as_slice-plan.result.now c.make-made.result made g.M.Machine.history g.M.Machine.faults g.M.Machine.write_faults c.write_made-answer.new.log c.write_made-answer.new.tables c.write_made-answer.new.counts c.settled.result (record { plan = vec_capacity c.clear-2.new.self; changes = vec_capacity c.replace-changes.new.dest; notes = vec_capacity c.clear-3.new.self }) c.in-Written.used _ c.in-Written.ensures.geometry
    (subst (λ (cs : List ℕ). UnitIsWritten g.M.Machine.history g.M.Machine.faults g.M.Machine.write_faults cs (brought_by c.make-made.result.blocks c.make-made.result.tables) c.self.inside.log c.write_made-answer.new.log c.in-Written.used) c.not_taken-clean.ensures c.in-Written.ensures.ends.1)
    c.in-Written.ensures.laid c.settled.ensures.empty c.settled.ensures.none refl
    (λ (x : StoreValue _). HasUnitRoom v × IsFlushed g.M.Machine.history g.M.Machine.faults g.M.Machine.write_faults v x c.in-Written.used)
    c.clear-3.new.self.items (drop (c.self.inside.taken + c.in-Written.used) c.self.inside.clean.items) c.clear-3.ensures.items (sym (drop-drop c.in-Written.used c.self.inside.taken c.self.inside.clean.items))
    (writing.is_flushed {M = g.row.M.Denot} v c.self.invariant.shape whole c.as_slice-plan.result.now c.make-made.result made g.M.Machine.history g.M.Machine.faults g.M.Machine.write_faults c.write_made-answer.new.log c.write_made-answer.new.tables c.write_made-answer.new.counts c.settled.result (record { plan = vec_capacity c.clear-2.new.self; changes = vec_capacity c.replace-changes.new.dest; notes = vec_capacity c.clear-3.new.self }) c.in-Written.used _ c.in-Written.ensures.geometry
    (subst (λ (cs : List ℕ). UnitIsWritten g.M.Machine.history g.M.Machine.faults g.M.Machine.write_faults cs (brought_by c.make-made.result.blocks c.make-made.result.tables) c.self.inside.log c.write_made-answer.new.log c.in-Written.used) c.not_taken-clean.ensures c.in-Written.ensures.ends.1)
    c.in-Written.ensures.laid c.settled.ensures.empty c.settled.ensures.none refl))
