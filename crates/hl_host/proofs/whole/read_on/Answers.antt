use Rattle.std.proofs.Common.{◌≡◌, ◌+◌, arith}
use Rattle.hl_host.proofs.PlaceLaws.{stands_more}
use Rattle.hl_host.proofs.whole.read_on.Goals as goal

pub returns-in-Ok-clause-there : goal.returns-in-Ok-clause-there
returns-in-Ok-clause-there g c =
    let is : c.in-Some.at ≡ c.args.from + c.args.done = omega (arith, c.in-Some.ensures) in
    stands_more (g.F.PositionalFile.content c.args.file.now) c.args.from c.args.done c.in-Some.at c.args.out.now c.read_from.new.out is c.requires.low c.requires.there c.in-Ok.count c.in-Ok.ensures.bytes.0
