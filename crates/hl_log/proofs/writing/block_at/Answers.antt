use Rattle.std.proofs.Common.{◌≡◌, ℕ, ◌*◌, ap, subst, arith}
use Rattle.hl_addr.specs.Layout.{Layout, IsWithinLimits}
use Rattle.hl_log.proofs.Sites.{small_places, small_segments}
use Rattle.hl_log.proofs.writing.block_at.Goals as goal

pub returns-clause-small : goal.returns-clause-small
returns-clause-small c =
    let is = subst IsWithinLimits c.geometry.view_is c.geometry.invariant in
    let k : c.geometry.inside.k ≡ c.args.geometry.now.k = ap (λ (g : Layout). g.k) c.geometry.view_is in
    let m : c.geometry.inside.k * c.args.at.seg ≡ c.args.geometry.now.k * c.args.at.seg = ap (λ (n : ℕ). n * c.args.at.seg) k in
    omega (arith, small_places c.args.geometry.now c.args.at.seg c.args.at.block is c.requires.high (omega (arith, c.requires.room)), small_segments c.args.geometry.now is)
