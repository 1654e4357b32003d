use Rattle.hl_order_laws.proofs.GoingOn.{order_kept}
use Rattle.hl_order_laws.proofs.laws.order_goes_on.Goals as goal

pub returns : goal.returns
returns r = order_kept
