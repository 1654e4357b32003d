use Rattle.std.proofs.Common.{◌≤◌, ℕ, ap, sym, subst}
use Rattle.std.specs.Io.KnownBytes.{prepend_known}
use Rattle.hl_media.specs.History.{state_now}
use Rattle.hl_media.proofs.Runs.{starts}
use Rattle.hl_disk.specs.Saves.{IsSaving}
use Rattle.hl_disk.proofs.Settled.{nothing_saved}
use Rattle.hl_run.specs.Clocks.{IsAsked}
use Rattle.hl_run.specs.Turn.{Held, held}
use Rattle.hl_run.proofs.Clocks.{asks_told}
use Rattle.hl_run.proofs.OneTurn.{told_at, wanted}
use Rattle.hl_run.proofs.turn.turn.Goals as goal

pub returns-in-Err-Memory-clause-turns : goal.returns-in-Err-Memory-clause-turns
returns-in-Err-Memory-clause-turns g c = wanted (prepend_known c.args.lines.now.held (g.S.Source.left c.args.input.now)) (starts (g.M.Machine.history c.args.world.now.machine) (IsSaving _ _ _) (λ h e. nothing_saved _ _ _ (state_now h)))

pub returns-in-Ok-clause-turns : goal.returns-in-Ok-clause-turns
returns-in-Ok-clause-turns g c =
    let given = rw c.in-Ok-true.field-0-test at c.in-Ok-true.ensures.ok in
    let cut = rw c.in-Ok-true.field-0-test at c.in-Ok-true.ensures.cuts in
    let counted = subst (λ n. c.next.new.self.used ≤ n) c.in-Ok-true.ensures.limit c.in-Ok-true.ensures.counted in
    told_at (g.M.Machine.blocks c.args.world.now.machine) c.args.n (prepend_known c.next.new.self.held (g.S.Source.left c.next.new.source)) c.args.lines.now c.next.new.self c.deref.result.now c.next.new.out.items
    c.in-Ok.told.text.items c.in-Ok.told.broken (held c.args.world.now) (held c.answer.new.world) (held c.tell.new.world)
    (g.M.Machine.history c.args.world.now.machine) (g.M.Machine.history c.answer.new.world.machine) (g.M.Machine.history c.tell.new.world.machine)
    (g.M.Machine.say_faults c.args.world.now.machine) (g.M.Machine.say_faults c.answer.new.world.machine) (g.M.Machine.say_faults c.tell.new.world.machine)
    (prepend_known c.args.lines.now.held (g.S.Source.left c.args.input.now)) c.tell.result
    given cut counted c.deref.ensures.value c.in-Ok.ensures.ok c.in-Ok.ensures.saving c.in-Ok.ensures.say_faults c.tell.ensures.held c.tell.ensures.tells

pub returns-in-Ok-clause-clock : goal.returns-in-Ok-clause-clock
returns-in-Ok-clause-clock g c =
    let same = ap (λ (h : Held). h.time) c.tell.ensures.held in
    asks_told _ c.in-Ok.told.text.items c.in-Ok.told.broken (g.M.Machine.history c.answer.new.world.machine) (g.M.Machine.history c.tell.new.world.machine)
    (g.C.Clock.times c.args.clock.now) (g.C.Clock.times c.answer.new.clock) c.tell.new.world.time c.tell.result c.tell.ensures.tells
    (subst (λ (t : ℕ). IsAsked (g.C.Clock.times c.args.clock.now) (g.C.Clock.times c.answer.new.clock) t) (sym same) c.in-Ok.ensures.clock)
