use Rattle.std.proofs.Common.{◌≡◌, ◌+◌, Bool, sym, ◌∙◌, ap, arith}
use Rattle.std.specs.Prelude.{count_by}
use Rattle.hl_placed.specs.Charges.{parts_charge}
use Rattle.hl_tally.specs.Counting.{is_logged}
use Rattle.hl_census.specs.Charging.{pointers_charge}
use Rattle.hl_census.proofs.charging.charge_of.Goals as goal

pub returns-then-has_far : goal.returns-then-has_far
returns-then-has_far c =
    let count = count_by (is_logged c.args.k c.args.segments) c.args.pointers.now in
    let whole : pointers_charge c.args.k c.args.segments c.args.pointers.now ≡ 2 + count = ap (λ (b : Bool). parts_charge b count) (sym c.has_far.ensures ∙ c.if-has_far.true) in
    omega (arith, whole, c.count_here-count.ensures, c.saturating_add.ensures)

pub returns-else-has_far : goal.returns-else-has_far
returns-else-has_far c =
    let count = count_by (is_logged c.args.k c.args.segments) c.args.pointers.now in
    let whole : pointers_charge c.args.k c.args.segments c.args.pointers.now ≡ 1 + count = ap (λ (b : Bool). parts_charge b count) (sym c.has_far.ensures ∙ c.if-has_far.false) in
    omega (arith, whole, c.count_here-count.ensures, c.saturating_add-else-has_far.ensures)
