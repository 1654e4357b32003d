use Rattle.hl_script.proofs.Fronts.{starts_behind, OnErr-from}
use Rattle.hl_script.proofs.print.push_names.Goals as goal

pub returns-in_err-push_name-clause-err : goal.returns-in_err-push_name-clause-err
returns-in_err-push_name-clause-err c =
    OnErr-from _ (starts_behind _ _ _ _ c.loop-name.invariant (starts_behind _ _ _ _ c.in_ok-push.ensures.items c.in_err-push_name.ensures.err))
