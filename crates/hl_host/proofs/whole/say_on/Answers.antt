use Rattle.hl_host.proofs.PlaceLaws.{says_more}
use Rattle.hl_host.proofs.whole.say_on.Goals as goal

pub returns-in-Ok-clause-there : goal.returns-in-Ok-clause-there
returns-in-Ok-clause-there g c = says_more (g.W.Write.contents c.args.output.now) (g.W.Write.contents c.write.new.self) c.args.bytes.now c.args.done c.in-Ok.count c.in-Ok.ensures.bytes
