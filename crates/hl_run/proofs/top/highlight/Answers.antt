use Rattle.std.proofs.Common.{◌≡◌, ◌⊎◌, ℕ, sym, subst}
use Rattle.hl_run.proofs.Complete.{finishes}
use Rattle.hl_run.proofs.top.highlight.Goals as goal

pub returns-then-runs-clause-complete : goal.returns-then-runs-clause-complete
returns-then-runs-clause-complete g c = λ words room whole no_disk no_output no_input.
    let r = c.run_mounted-finish.ensures in
    subst (λ (k : ℕ). (k ≡ 0) ⊎ (k ≡ 8)) (sym c.status.ensures)
    (finishes _ _ (g.M.Machine.blocks c.args.machine) (g.S.Source.left c.args.input.now) (g.C.Clock.times c.args.clock.now) (g.C.Clock.times c.run_mounted-finish.new.clock) (g.M.Machine.history c.args.machine) (g.M.Machine.history c.run_mounted-finish.result.1) whole c.run_mounted-finish.result.0 r.came
    (λ five. no_disk (r.disk five)) (λ six. no_output (r.output six)) (λ seven. no_input (r.input seven)))
