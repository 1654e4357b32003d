use Rattle.std.proofs.Common.{◌<◌, ◌^◌, arith}
use Rattle.std.proofs.lemmas.List.Elements.{All-from_get_or, recursion_from_All}
use Rattle.hl_super.proofs.record.put_list.Goals as goal

pub returns-clause-fit : goal.returns-clause-fit
returns-clause-fit c = recursion_from_All (λ n. n < 2 ^ 32) c.args.numbers.now (All-from_get_or (λ n. n < 2 ^ 32) c.args.numbers.now 0 (λ i lt. omega (arith, c.type_inv.numbers i)))
