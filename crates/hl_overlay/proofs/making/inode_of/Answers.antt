use Rattle.std.proofs.Common.{◌∙◌, ap, arith}
use Rattle.std.proofs.Math.ListN.{length-set}
use Rattle.hl_overlay.specs.Making.{resolved}
use Rattle.hl_overlay.proofs.MakingLemmas.{direct_one}
use Rattle.hl_overlay.proofs.making.inode_of.Goals as goal

pub direct-preserved : goal.direct-preserved
direct-preserved c = record {
  count = length-set c.direct.direct c.direct.i c.resolved.result ∙ c.direct.invariant.count;
  names = direct_one c.direct.i c.args.plan.now c.args.draft.now c.direct.direct c.resolved.result c.direct.invariant.names (c.resolved.ensures ∙ ap (resolved c.args.plan.now) c.get.ensures.value) (let count = c.direct.invariant.count in omega arith);
}
