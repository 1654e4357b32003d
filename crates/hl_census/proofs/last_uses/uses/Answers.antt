use Rattle.std.proofs.Common.{◌≡◌, ◌≤◌, ap, subst, arith}
use Rattle.hl_addr.specs.Layout.{IsWithinLimits, Layout}
use Rattle.hl_census.specs.LastUses.{AreUses}
use Rattle.hl_census.proofs.FoundUses.{uses_are}
use Rattle.hl_census.proofs.last_uses.uses.Goals as goal

pub returns-clause-nodes : goal.returns-clause-nodes
returns-clause-nodes c = λ image t nodes are has.
    let g = c.args.geometry.now in
    let limits : IsWithinLimits g = subst (λ (l : Layout). IsWithinLimits l) c.geometry.view_is c.geometry.invariant in
    let size : c.geometry.inside.inodes ≡ g.inodes = ap (λ (l : Layout). l.inodes) c.geometry.view_is in
    let high : c.numbers.number ≤ c.geometry.inside.inodes = c.numbers.auto.number-end in
    let end : c.numbers.number ≡ g.inodes = omega (arith, c.numbers-test.false) in
    uses_are g limits image t c.args.found.now c.numbers.uses.items (subst (λ n. AreUses c.args.found.now n c.numbers.uses.items) end c.numbers.invariant) are nodes has
