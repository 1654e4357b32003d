use Rattle.std.proofs.Common.{arith}
use Rattle.hl_namespace.proofs.making.link_growth.Goals as goal
use Rattle.hl_links.proofs.LinkCharges.{charge_most}

pub overflow_add-result : goal.overflow_add-result
overflow_add-result c =
    let most = charge_most c.args.after c.requires.after in
    omega (arith, most, c.directory_charge.ensures)
