use Rattle.hl_calls.proofs.ChargeSums.{charge-few, charge-many}
use Rattle.hl_calls.proofs.quota.directory_charge.Goals as goal

pub returns-then-blocks-gt-DIRECT : goal.returns-then-blocks-gt-DIRECT
returns-then-blocks-gt-DIRECT c = charge-many c.args.size c.div_ceil-blocks.result c.div_ceil-blocks.ensures c.if-blocks-gt-DIRECT.true

pub returns-else-blocks-gt-DIRECT : goal.returns-else-blocks-gt-DIRECT
returns-else-blocks-gt-DIRECT c = charge-few c.args.size c.div_ceil-blocks.result c.div_ceil-blocks.ensures c.if-blocks-gt-DIRECT.false
