use Rattle.std.proofs.Common.{arith, ◌≤◌, sym, subst}
use Rattle.hl_links.proofs.LinkCharges.{charge_most}
use Rattle.hl_rename.proofs.moving.both_growth.Goals as goal

pub overflow_add-result : goal.overflow_add-result
overflow_add-result c =
    let one : c.directory_charge.result ≤ 1038 = subst (λ n. n ≤ 1038) (sym c.directory_charge.ensures) (charge_most c.args.after c.requires.after) in
    let two : c.directory_charge-2.result ≤ 1038 = subst (λ n. n ≤ 1038) (sym c.directory_charge-2.ensures) (charge_most c.args.to_after c.requires.to_after) in
    omega arith

pub overflow_add-result-2 : goal.overflow_add-result-2
overflow_add-result-2 c =
    let one : c.directory_charge-3.result ≤ 1038 = subst (λ n. n ≤ 1038) (sym c.directory_charge-3.ensures) (charge_most c.args.before c.requires.before) in
    let two : c.directory_charge-4.result ≤ 1038 = subst (λ n. n ≤ 1038) (sym c.directory_charge-4.ensures) (charge_most c.args.to_before c.requires.to_before) in
    omega arith
