use Rattle.hl_script.proofs.Fronts.{starts_behind, OnErr-from}
use Rattle.hl_script.proofs.print.push_paths.Goals as goal

pub returns-in_err-push_path-clause-err : goal.returns-in_err-push_path-clause-err
returns-in_err-push_path-clause-err c =
    OnErr-from _ (starts_behind _ _ _ _ c.loop-path.invariant (starts_behind _ _ _ _ c.in_ok-push.ensures.items c.in_err-push_path.ensures.err))
