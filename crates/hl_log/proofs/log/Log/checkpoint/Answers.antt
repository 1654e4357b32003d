use Rattle.std.proofs.Common.{◌≡◌, ◌≤◌, ℕ, drop, length, subst, sym, ◌∙◌, arith}
use Rattle.std.proofs.lemmas.List.{length-map}
use Rattle.hl_media.specs.Moments.{Ends}
use Rattle.hl_bytes.specs.declared.block.Block.{Block}
use Rattle.hl_bytes.proofs.Parts.{length-with_part}
use Rattle.hl_image.specs.Places.{IsLogPlace}
use Rattle.hl_log.specs.declared.position.Position.{Position}
use Rattle.hl_log.specs.Cut.{AreCut}
use Rattle.hl_log.specs.Checkpoints.{Given, drafted, given_by, HasCheckpointed, IsRecordBehind}
use Rattle.hl_log.specs.Loads.{bytes_of_tables}
use Rattle.hl_log.proofs.Sites.{large_segments}
use Rattle.hl_log.proofs.Silence.{silent_starts}
use Rattle.hl_log.proofs.Units.{unit_starts}
use Rattle.hl_log.proofs.TwoPhases.{first_phase, tables_of}
use Rattle.hl_log.proofs.log.Log.checkpoint.Goals as goal

pub returns-in-Err-clause-crash : goal.returns-in-Err-clause-crash
returns-in-Err-clause-crash g c =
    let three : 3 ≤ c.self.inside.geometry.k = omega (arith, large_segments c.self.inside.geometry c.self.invariant.limits) in
    let tables = bytes_of_tables c.args.tables.now in
    rw (← c.self.view_is) (first_phase c.self.inside.geometry c.self.inside.at c.args.clean.now (given_by c.self.inside.rec.number c.args.rec.now) tables three _ _
    (unit_starts c.self.inside.geometry c.self.inside.at c.args.clean.now (tables_of tables) (g.M.Machine.history c.self.inside.machine)))

pub returns-in-Ok-None-clause-crash : goal.returns-in-Ok-None-clause-crash
returns-in-Ok-None-clause-crash g c =
    let three : 3 ≤ c.self.inside.geometry.k = omega (arith, large_segments c.self.inside.geometry c.self.invariant.limits) in
    let tables = bytes_of_tables c.args.tables.now in
    rw (← c.self.view_is) (first_phase c.self.inside.geometry c.self.inside.at c.args.clean.now (given_by c.self.inside.rec.number c.args.rec.now) tables three _ _
    (unit_starts c.self.inside.geometry c.self.inside.at c.args.clean.now (tables_of tables) (g.M.Machine.history c.self.inside.machine)))

pub invariant_of-self : goal.invariant_of-self
invariant_of-self g c = record {
  room = omega (arith, c.in-Ok.ensures.blocks, c.self.invariant.room);
  head = subst (λ (q : Position). IsLogPlace c.self.inside.geometry q.head) (sym c.restarted-self-inside.ensures) c.in-Ok.ensures.place;
  limits = c.self.invariant.limits;
  buffer = length-with_part c.self.inside.buffer c.write_checkpoint.new.buffer 0 (omega arith) ∙ c.self.invariant.buffer;
}

pub invariant_of-self-in-Err-write_checkpoint : goal.invariant_of-self-in-Err-write_checkpoint
invariant_of-self-in-Err-write_checkpoint g c = record {
  room = omega (arith, c.in-Err-write_checkpoint.ensures.blocks, c.self.invariant.room);
  head = c.self.invariant.head;
  limits = c.self.invariant.limits;
  buffer = length-with_part c.self.inside.buffer c.write_checkpoint.new.buffer 0 (omega arith) ∙ c.self.invariant.buffer;
}

pub returns-in-Ok-clause-ends : goal.returns-in-Ok-clause-ends
returns-in-Ok-clause-ends g c =
    let found = rw c.in-Ok-Some.field-0-is at c.in-Ok-Some.ensures in
    let draft = rw (← c.self.view_is) at found in
    let G = c.self.inside.geometry in
    let p = c.self.inside.at in
    let tables = bytes_of_tables c.args.tables.now in
    let rest = drop c.in-Ok.used c.args.clean.now in
    let count : length c.args.tables.now ≡ length tables = sym (length-map c.args.tables.now (λ (b : Block). b.bytes)) in
    let there = subst (λ (q : Position). Ends (g.M.Machine.history c.self.inside.machine) (g.M.Machine.history c.write_checkpoint.new.machine) (HasCheckpointed G p c.args.clean.now (drafted c.in-Ok-Some.draft) tables q rest c.in-Ok.new))
    (sym c.restarted-self-inside.ensures) c.in-Ok.ensures.done in
    rw (← c.self.view_is) (
      (draft.0.0, draft.0.1, subst (λ (n : ℕ). AreCut G p.head c.args.clean.now n 0 draft.0.0 draft.0.1) count draft.0.2),
      record {
        within = c.in-Ok.ensures.used;
        succeeded = record { faults_same = c.in-Ok.ensures.faults.kept; write_faults_same = c.in-Ok.ensures.write_faults.kept; synced = c.in-Ok.ensures.synced };
        at = c.restarted-self-inside.ensures;
        rec = subst (λ (d : Given). IsRecordBehind G p c.args.clean.now rest d (length tables) c.in-Ok.new) draft.1 c.in-Ok.ensures.rec;
        written = subst (λ (d : Given). Ends (g.M.Machine.history c.self.inside.machine) (g.M.Machine.history c.write_checkpoint.new.machine) (HasCheckpointed G p c.args.clean.now d tables c.restarted-self-inside.result rest c.in-Ok.new)) draft.1 there;
      },
    )

pub returns-in-Err-clause-silent : goal.returns-in-Err-clause-silent
returns-in-Err-clause-silent g c = rw (← c.self.view_is) (silent_starts (g.M.Machine.history c.self.inside.machine))

pub returns-in-Ok-None-clause-silent : goal.returns-in-Ok-None-clause-silent
returns-in-Ok-None-clause-silent g c = rw (← c.self.view_is) (silent_starts (g.M.Machine.history c.self.inside.machine))
