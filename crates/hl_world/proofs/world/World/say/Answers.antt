use Rattle.hl_media.proofs.Sayings.{on_ok_says, on_err_says}
use Rattle.hl_world.proofs.world.World.say.Goals as goal

pub returns-clause-whole : goal.returns-clause-whole
returns-clause-whole g c = rw (← c.self.view_is) (on_ok_says _ _ c.args.bytes.now c.say.result c.say.ensures.did)

pub returns-clause-part : goal.returns-clause-part
returns-clause-part g c = rw (← c.self.view_is) (on_err_says _ _ c.args.bytes.now c.say.result c.say.ensures.did)
