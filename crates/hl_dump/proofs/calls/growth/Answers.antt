use Rattle.std.proofs.Common.{◌<◌, ◌^◌, ap, subst, sym, arith}
use Rattle.std.specs.FinMap.{len}
use Rattle.hl_tree.specs.declared.call.Limits.{Limits}
use Rattle.hl_dump.proofs.Longer.{dump_size-after}
use Rattle.hl_dump.proofs.Named.{HasDump-after}
use Rattle.hl_dump.proofs.calls.growth.Goals as goal

pub returns-clause-bound : goal.returns-clause-bound
returns-clause-bound c = λ limits has.
    let t = c.args.tree.now in
    let bytes : t.limits.bytes < 2 ^ 64 = subst (λ (l : Limits). l.bytes < 2 ^ 64) (sym limits) (omega arith) in
    let few : len t.tree < 2 ^ 32 = let within = has.few in omega (arith, within) in
    let most = c.added.ensures.most in
    let size = dump_size-after t.limits t.tree c.args.call.now bytes few in
    omega (arith, most, size)

pub returns-clause-kept : goal.returns-clause-kept
returns-clause-kept c = λ limits has short. HasDump-after c.args.tree.now.limits c.args.tree.now.tree c.args.call.now limits c.added.ensures.named has short
