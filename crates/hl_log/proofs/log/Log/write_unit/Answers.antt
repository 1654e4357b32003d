use Rattle.std.proofs.Common.{ℕ, length, subst, ◌∙◌, refl, arith}
use Rattle.hl_bytes.proofs.Parts.{length-with_part}
use Rattle.hl_log.specs.Cut.{HasClean}
use Rattle.hl_log.specs.Logs.{unit_of}
use Rattle.hl_log.proofs.Silence.{silent_starts}
use Rattle.hl_log.proofs.Units.{unit_starts}
use Rattle.hl_log.proofs.log.Log.write_unit.Goals as goal

pub returns-then-not-has_clean-clause-crash : goal.returns-then-not-has_clean-clause-crash
returns-then-not-has_clean-clause-crash g c = unit_starts c.args.self.now.geometry c.args.self.now.at c.args.clean.now (unit_of c.args.unit.now) (g.M.Machine.history c.args.self.now.machine)

pub invariant_of-self : goal.invariant_of-self
invariant_of-self g c = record {
  room = omega (arith, c.in-Ok.ensures.blocks, c.self.invariant.room);
  head = c.in-Ok.ensures.place;
  limits = c.self.invariant.limits;
  buffer = length-with_part c.self.inside.buffer c.write_parts.new.buffer 0 (omega arith) ∙ c.self.invariant.buffer;
}

pub invariant_of-self-in-Err : goal.invariant_of-self-in-Err
invariant_of-self-in-Err g c = record {
  room = omega (arith, c.in-Err.ensures.blocks, c.self.invariant.room);
  head = c.self.invariant.head;
  limits = c.self.invariant.limits;
  buffer = length-with_part c.self.inside.buffer c.write_parts.new.buffer 0 (omega arith) ∙ c.self.invariant.buffer;
}

pub returns-then-not-has_clean-clause-silent : goal.returns-then-not-has_clean-clause-silent
returns-then-not-has_clean-clause-silent g c = silent_starts (g.M.Machine.history c.args.self.now.machine)

pub returns-in-Ok-clause-ends : goal.returns-in-Ok-clause-ends
returns-in-Ok-clause-ends g c =
    let has = c.if-not-has_clean.ensures.0 refl in
    rw (← c.self.view_is, ← c.items.ensures, ← c.items-2.ensures) (
      subst (λ (n : ℕ). HasClean c.self.inside.geometry c.self.inside.at.head c.args.clean.now n (length c.items-2.result.now)) c.len.ensures.records has,
      record {
        within = c.in-Ok.ensures.used;
        succeeded = record { faults_same = c.in-Ok.ensures.faults.kept; write_faults_same = c.in-Ok.ensures.write_faults.kept; synced = c.in-Ok.ensures.synced };
        rec = refl;
        at = c.in-Ok.ensures.position;
        goes_on = c.in-Ok.ensures.goes_on;
        written = c.in-Ok.ensures.written;
      },
    )
