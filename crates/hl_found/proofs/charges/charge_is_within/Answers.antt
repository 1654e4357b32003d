use Rattle.std.proofs.Common.{◌≡◌, ◌+◌, take, refl, ap, ◌∙◌, arith}
use Rattle.std.specs.Prelude.{None, sum_by}
use Rattle.std.specs.List.{slice_index_or}
use Rattle.std.proofs.lemmas.List.{take_all, take_more}
use Rattle.std.proofs.lemmas.List.Sums.{sum_by-take-le, sum_by_push}
use Rattle.hl_found.specs.Charges.{charge_found}
use Rattle.hl_found.proofs.ChargesFound.{charge_is}
use Rattle.hl_found.proofs.charges.charge_is_within.Goals as goal

pub returns-then-left-charge : goal.returns-then-left-charge
returns-then-left-charge c =
    let nodes = c.args.nodes.now in
    let all = charge_is nodes in
    let most = sum_by-take-le charge_found nodes (c.each.number + 1) in
    let more : sum_by charge_found (take (c.each.number + 1) nodes) ≡ sum_by charge_found (take c.each.number nodes) + charge_found (slice_index_or nodes c.each.number None) =
    ap (sum_by charge_found) (take_more nodes c.each.number None c.each-test.true) ∙ sum_by_push charge_found (take c.each.number nodes) (slice_index_or nodes c.each.number None) in
    let own = c.charge_at-charge.ensures in
    let before = c.each.invariant in
    let over = c.if-left-charge.true in
    (λ e. absurd (cc), λ within. absurd (omega arith))

pub returns : goal.returns
returns c =
    let nodes = c.args.nodes.now in
    let all = charge_is nodes in
    let whole : sum_by charge_found (take c.each.number nodes) ≡ sum_by charge_found nodes = ap (sum_by charge_found) (take_all c.each.number nodes c.each-test.false) in
    let before = c.each.invariant in
    (λ yes. omega arith, λ within. refl)
