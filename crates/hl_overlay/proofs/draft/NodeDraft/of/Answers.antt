use Rattle.std.proofs.Common.{◌<◌, refl, arith}
use Rattle.hl_overlay.proofs.DraftLemmas.{read_none, of_is}
use Rattle.hl_overlay.proofs.draft.NodeDraft.of.Goals as goal

pub direct-init : goal.direct-init
direct-init c = read_none _ _ c.in_ok-pointers.ensures

pub returns-clause-value : goal.returns-clause-value
returns-clause-value c = record {
  number = refl;
  own_is = refl;
  shape = refl;
  single = refl;
  direct = λ i low. c.direct.invariant.before i (let low' : i < c.direct.i = omega arith in low');
  far = λ i from lt. c.direct.invariant.behind i (omega arith);
  unchanged = refl;
}

pub returns-clause-is : goal.returns-clause-is
returns-clause-is c = of_is c.args.own c.args.inode.now c.direct.pointers c.requires c.direct.i c.direct.invariant (omega arith) (omega arith)
