use Rattle.hl_order_laws.proofs.GoingOn.{files_kept}
use Rattle.hl_order_laws.proofs.laws.files_go_on.Goals as goal

pub returns : goal.returns
returns r blocks g a b shelf files c d = files_kept g a b c d blocks shelf files
