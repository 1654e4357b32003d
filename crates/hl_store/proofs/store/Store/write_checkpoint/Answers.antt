use Rattle.std.proofs.Common.{◌*◌, drop, length, sym, ◌∙◌, ap, arith}
use Rattle.std.proofs.lemmas.List.{take_rest}
use Rattle.hl_addr.specs.Layout.{Layout}
use Rattle.hl_super.specs.declared.record.Record.{Record}
use Rattle.hl_store.proofs.CheckpointSteps.{both_counted, both_length, checkpoint_crash, checkpoint_fails, checkpoint_writes, checkpointed_shaped, cleans_of, few_for, room_for}
use Rattle.hl_store.proofs.store.Store.write_checkpoint.Goals as goal

pub returns-in_default : goal.returns-in_default
returns-in_default g c = record {
  crash = checkpoint_crash {M = g.row.M.Denot} g.M.Machine.history g.M.Machine.faults g.M.Machine.write_faults _ _ c.args.supplies _ _ _ c.write_tables-answer.new.log c.write_tables-answer.result c.self.view_is c.requires.tidy c.requires.supplies
      (record {
        shaped = c.self.invariant.shape;
        whole = c.tell_whole.ensures;
        marks_are = c.as_slice.ensures.value;
        tables_are = c.set_marks.ensures;
        clean_is = take_rest c.as_slice-2.result.now c.self.inside.taken ∙ ap (drop c.self.inside.taken) c.as_slice-2.ensures.value;
        crash = c.write_tables-answer.ensures.crash;
        ends = c.write_tables-answer.ensures.ends;
        geometry = c.write_tables-answer.ensures.geometry;
      });
  silent = rw (← c.self.view_is) c.write_tables-answer.ensures.silent;
  ends = checkpoint_fails {M = g.row.M.Denot} g.M.Machine.history g.M.Machine.faults g.M.Machine.write_faults _ _ c.args.supplies _ _ _ c.write_tables-answer.new.log c.write_tables-answer.result c.self.view_is c.requires.tidy c.requires.supplies
      (record {
        shaped = c.self.invariant.shape;
        whole = c.tell_whole.ensures;
        marks_are = c.as_slice.ensures.value;
        tables_are = c.set_marks.ensures;
        clean_is = take_rest c.as_slice-2.result.now c.self.inside.taken ∙ ap (drop c.self.inside.taken) c.as_slice-2.ensures.value;
        crash = c.write_tables-answer.ensures.crash;
        ends = c.write_tables-answer.ensures.ends;
        geometry = c.write_tables-answer.ensures.geometry;
      })
      c.as_slice-in_default.result.now c.set_marks-in_default.new.tables c.as_slice-in_default.ensures.value c.set_marks-in_default.ensures c.in_default.not-Written;
  geometry = rw (← c.self.view_is) c.write_tables-answer.ensures.geometry;
  blocks = rw (← c.self.view_is) c.write_tables-answer.ensures.blocks;
  faults = rw (← c.self.view_is) c.write_tables-answer.ensures.faults;
  write_faults = rw (← c.self.view_is) c.write_tables-answer.ensures.write_faults;
  say_faults = rw (← c.self.view_is) c.write_tables-answer.ensures.say_faults;
}

pub clean_segments-requires-clause-room : goal.clean_segments-requires-clause-room
clean_segments-requires-clause-room g c = room_for {M = g.row.M.Denot} _ _ c.args.supplies c.live.result.now c.self.view_is c.requires.supplies c.self.invariant.shape
    (ap length c.live.ensures ∙ both_length c.behind-self.inside.k c.items.result.now c.items-2.result.now c.self.inside.counts c.remove_blocks.new.self c.add_blocks.new.self c.remove_blocks.ensures c.add_blocks.ensures)

pub clean_segments-requires-clause-few : goal.clean_segments-requires-clause-few
clean_segments-requires-clause-few g c = few_for {M = g.row.M.Denot} _ c.live.result.now c.self.invariant.shape
    (ap length c.live.ensures ∙ both_length c.behind-self.inside.k c.items.result.now c.items-2.result.now c.self.inside.counts c.remove_blocks.new.self c.add_blocks.new.self c.remove_blocks.ensures c.add_blocks.ensures)

pub invariant_of-self-2 : goal.invariant_of-self-2
invariant_of-self-2 g c = record {
  shape = checkpointed_shaped {M = g.row.M.Denot} g.M.Machine.history g.M.Machine.faults g.M.Machine.write_faults _ _ c.args.supplies _ _ _ c.write_tables-answer.new.log c.write_tables-answer.result c.self.view_is c.requires.tidy c.requires.supplies
      (record {
        shaped = c.self.invariant.shape;
        whole = c.tell_whole.ensures;
        marks_are = c.as_slice.ensures.value;
        tables_are = c.set_marks.ensures;
        clean_is = take_rest c.as_slice-2.result.now c.self.inside.taken ∙ ap (drop c.self.inside.taken) c.as_slice-2.ensures.value;
        crash = c.write_tables-answer.ensures.crash;
        ends = c.write_tables-answer.ensures.ends;
        geometry = c.write_tables-answer.ensures.geometry;
      })
      c.add_blocks.new.self c.clean_segments.result.items
      (both_counted c.self.inside.log.geometry c.behind-self.inside.k c.items.result.now c.args.supplies.gone c.items-2.result.now c.write_tables-answer.new.log.rec.tables c.self.inside.counts c.remove_blocks.new.self c.add_blocks.new.self
      (ap (λ (l : Layout). l.k) (c.behind-self.view_is ∙ c.geometry.ensures.value ∙ c.write_tables-answer.ensures.geometry))
      c.items.ensures (c.items-2.ensures ∙ ap (λ (r : Record). r.tables) c.rec.ensures) c.remove_blocks.ensures c.add_blocks.ensures)
      (cleans_of c.clean_segments.result.items c.add_blocks.new.self.live c.live.result.now c.head.result.0 c.head.result.1 c.write_tables-answer.new.log.at.head c.clean_segments.ensures c.live.ensures c.head.ensures);
  spare = record { no_plan = c.self.invariant.spare.no_plan; no_changes = c.self.invariant.spare.no_changes; size = λ bytes is. c.self.invariant.spare.size bytes is ∙ sym (ap (λ (l : Layout). 4096 * l.k) c.write_tables-answer.ensures.geometry) };
  taken = omega arith;
}

pub returns-clause-crash : goal.returns-clause-crash
returns-clause-crash g c = checkpoint_crash {M = g.row.M.Denot} g.M.Machine.history g.M.Machine.faults g.M.Machine.write_faults _ _ c.args.supplies _ _ _ c.write_tables-answer.new.log c.write_tables-answer.result c.self.view_is c.requires.tidy c.requires.supplies
    (record {
      shaped = c.self.invariant.shape;
      whole = c.tell_whole.ensures;
      marks_are = c.as_slice.ensures.value;
      tables_are = c.set_marks.ensures;
      clean_is = take_rest c.as_slice-2.result.now c.self.inside.taken ∙ ap (drop c.self.inside.taken) c.as_slice-2.ensures.value;
      crash = c.write_tables-answer.ensures.crash;
      ends = c.write_tables-answer.ensures.ends;
      geometry = c.write_tables-answer.ensures.geometry;
    })

pub returns-clause-ends : goal.returns-clause-ends
returns-clause-ends g c = checkpoint_writes {M = g.row.M.Denot} g.M.Machine.history g.M.Machine.faults g.M.Machine.write_faults _ _ c.args.supplies _ _ _ c.write_tables-answer.new.log c.write_tables-answer.result c.self.view_is c.requires.tidy c.requires.supplies
    (record {
      shaped = c.self.invariant.shape;
      whole = c.tell_whole.ensures;
      marks_are = c.as_slice.ensures.value;
      tables_are = c.set_marks.ensures;
      clean_is = take_rest c.as_slice-2.result.now c.self.inside.taken ∙ ap (drop c.self.inside.taken) c.as_slice-2.ensures.value;
      crash = c.write_tables-answer.ensures.crash;
      ends = c.write_tables-answer.ensures.ends;
      geometry = c.write_tables-answer.ensures.geometry;
    })
    c.add_blocks.new.self c.clean_segments.result.items
    (both_counted c.self.inside.log.geometry c.behind-self.inside.k c.items.result.now c.args.supplies.gone c.items-2.result.now c.write_tables-answer.new.log.rec.tables c.self.inside.counts c.remove_blocks.new.self c.add_blocks.new.self
    (ap (λ (l : Layout). l.k) (c.behind-self.view_is ∙ c.geometry.ensures.value ∙ c.write_tables-answer.ensures.geometry))
    c.items.ensures (c.items-2.ensures ∙ ap (λ (r : Record). r.tables) c.rec.ensures) c.remove_blocks.ensures c.add_blocks.ensures)
    (cleans_of c.clean_segments.result.items c.add_blocks.new.self.live c.live.result.now c.head.result.0 c.head.result.1 c.write_tables-answer.new.log.at.head c.clean_segments.ensures c.live.ensures c.head.ensures)
    c.in-Written.used c.in-Written.is
