use Rattle.std.proofs.Common.{◌≡◌, ◌<◌, ◌-◌, ◌∙◌, ℕ, List, Err, ap, subst, refl, arith}
use Rattle.std.specs.Prelude.{IfSome}
use Rattle.std.specs.Io.KnownBytes.{prepend_known}
use Rattle.hl_media.specs.Causes.{Rose}
use Rattle.std.specs.Option.{ForSome}
use Rattle.hl_media.specs.Times.{first_time}
use Rattle.hl_run.specs.Clocks.{Asks}
use Rattle.hl_run.proofs.Clocks.{took_none, time_of_place, took_on}
use Rattle.hl_run.specs.Turn.{held, Turns}
use Rattle.hl_run.proofs.Turning.{stands_first, stands_more, ran_from_turn, ran_to_the_end, ran_not_at_all}
use Rattle.hl_run.proofs.run.run.Goals as goal

pub turns-init : goal.turns-init
turns-init g c =
    let fresh = c.in-Ok.ensures in
    record {
      counted = rw fresh (omega arith);
      limit = rw fresh refl;
      some = omega arith;
      few = omega arith;
      took = took_none (g.C.Clock.times c.args.clock.now);
      input_later = omega arith;
      output_later = omega arith;
      disk_later = (omega arith, omega arith);
      blocks = refl;
      ready = c.requires.ready;
      stands = rw fresh (stands_first (g.M.Machine.blocks c.args.world.now.machine) (held c.args.world.now) (g.C.Clock.times c.args.clock.now) _ _ c.requires.ready.limits c.requires.opens);
    }

pub turns-preserved : goal.turns-preserved
turns-preserved g c =
    let r = c.in-Ok-true.ensures in
    let i = c.turns.invariant in
    let grew : c.turns.lines.used < c.turn.new.lines.used = r.progress c.in-Ok-true.field-0-test in
    let blocks = i.blocks in
    let asked = rw c.in-Ok-true.field-0-test at r.clock in
    record {
      counted = omega (arith, r.counted, r.limit, i.limit);
      limit = omega (arith, r.limit, i.limit);
      some = omega arith;
      few = omega (arith, grew, i.few);
      took = took_on (g.C.Clock.times c.args.clock.now) (g.C.Clock.times c.turns.clock) (g.C.Clock.times c.turn.new.clock) c.turns.n i.some i.took asked.1;
      input_later = omega (arith, r.input_later, i.input_later);
      output_later = omega (arith, r.output_later, i.output_later);
      disk_later = (omega (arith, r.disk_later.0, i.disk_later.0), omega (arith, r.disk_later.1, i.disk_later.1));
      blocks = r.blocks ∙ i.blocks;
      ready = r.ready;
      stands =
          stands_more (g.M.Machine.blocks c.args.world.now.machine) (held c.args.world.now) (g.C.Clock.times c.args.clock.now) (Rose (g.M.Machine.say_faults c.turns.world.machine) (g.M.Machine.say_faults c.turn.new.world.machine)) (held c.turns.world) (held c.turn.new.world) _ _ _ _
          c.turns.lines c.turn.new.lines _ _ _ i.stands (rw (c.in-Ok-true.field-0-test, blocks) at r.turns)
          (time_of_place (g.C.Clock.times c.args.clock.now) (c.turns.n - 1) c.turn.new.world.time (subst (λ ts. ForSome ts (λ (l : List ℕ). c.turn.new.world.time ≡ first_time l)) i.took asked.0));
    }

pub returns-in-Err-clause-ran : goal.returns-in-Err-clause-ran
returns-in-Err-clause-ran g c = ran_not_at_all (g.M.Machine.blocks c.args.world.now.machine) (held c.args.world.now) (g.C.Clock.times c.args.clock.now) _ _ 4294967296 (held c.args.world.now) _ _ c.requires.ready.limits c.requires.opens

pub returns-in-Ok-false-clause-ran : goal.returns-in-Ok-false-clause-ran
returns-in-Ok-false-clause-ran g c =
    let r = c.in-Ok-false.ensures in
    let i = c.turns.invariant in
    let blocks = i.blocks in
    ran_to_the_end (g.M.Machine.blocks c.args.world.now.machine) (held c.args.world.now) (g.C.Clock.times c.args.clock.now) (g.C.Clock.times c.turn.new.clock) (Rose (g.M.Machine.say_faults c.turns.world.machine) (g.M.Machine.say_faults c.turn.new.world.machine)) _ _ 4294967296 (held c.turns.world) (held c.turn.new.world) _ (prepend_known c.turns.lines.held (g.S.Source.left c.turns.input))
    (prepend_known c.turn.new.lines.held (g.S.Source.left c.turn.new.input)) c.turns.n c.turns.lines c.turn.new.lines _ _ _ i.counted i.stands (rw c.in-Ok-false.field-0-test at r.turns)
    ((rw c.in-Ok-false.field-0-test at r.clock) ∙ i.took)

pub returns-in-Err-turn-clause-ran : goal.returns-in-Err-turn-clause-ran
returns-in-Err-turn-clause-ran g c =
    let r = c.in-Err-turn.ensures in
    let i = c.turns.invariant in
    let blocks = i.blocks in
    ran_from_turn (g.M.Machine.blocks c.args.world.now.machine) (held c.args.world.now) (g.C.Clock.times c.args.clock.now) (g.C.Clock.times c.turn.new.clock) (Rose (g.M.Machine.say_faults c.turns.world.machine) (g.M.Machine.say_faults c.turn.new.world.machine)) _ _ (λ rose. omega (arith, rose, i.output_later)) 4294967296 (held c.turns.world) (held c.turn.new.world) _ (prepend_known c.turns.lines.held (g.S.Source.left c.turns.input))
    (prepend_known c.turn.new.lines.held (g.S.Source.left c.turn.new.input)) c.turns.n c.turns.lines c.turn.new.lines _ _ _ c.in-Err-turn.end
    (λ broken. let rose = (r.broken (ap (λ e. Err e) broken)).1 in omega (arith, rose, i.disk_later.1)) i.limit i.counted i.stands
    (subst (λ (b : ℕ). IfSome (prepend_known c.turns.lines.held (g.S.Source.left c.turns.input)) (λ bytes. Turns (Rose (g.M.Machine.say_faults c.turns.world.machine) (g.M.Machine.say_faults c.turn.new.world.machine)) b c.turns.n c.turns.lines c.turn.new.lines
    (held c.turns.world) (held c.turn.new.world) bytes (prepend_known c.turn.new.lines.held (g.S.Source.left c.turn.new.input)) (g.M.Machine.history c.turns.world.machine) (g.M.Machine.history c.turn.new.world.machine) (Err c.in-Err-turn.end))) blocks r.turns)
    (subst (λ ts. Asks ts (g.C.Clock.times c.turn.new.clock) c.turn.new.world.time (Err c.in-Err-turn.end)) i.took r.clock)
