use Rattle.std.proofs.Common.{subst, arith}
use Rattle.hl_addr.specs.Layout.{IsWithinLimits}
use Rattle.hl_log.proofs.Sites.{small_segments}
use Rattle.hl_log.proofs.piece.next_place.Goals as goal

pub overflow_cast-behind : goal.overflow_cast-behind
overflow_cast-behind c = omega (arith, small_segments c.args.geometry.now (subst IsWithinLimits c.geometry.view_is c.geometry.invariant))

pub overflow_add-behind : goal.overflow_add-behind
overflow_add-behind c = omega (arith, small_segments c.args.geometry.now (subst IsWithinLimits c.geometry.view_is c.geometry.invariant))

pub overflow_add-behind-2 : goal.overflow_add-behind-2
overflow_add-behind-2 c = omega (arith, small_segments c.args.geometry.now (subst IsWithinLimits c.geometry.view_is c.geometry.invariant))

pub overflow_add-behind-3 : goal.overflow_add-behind-3
overflow_add-behind-3 c = omega (arith, small_segments c.args.geometry.now (subst IsWithinLimits c.geometry.view_is c.geometry.invariant))
