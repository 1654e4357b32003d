use Rattle.std.proofs.Common.{Ok}
use Rattle.hl_media.specs.History.{content}
use Rattle.hl_world.proofs.Mounted.{mounts_to}
use Rattle.hl_world.proofs.world.World.mount.Goals as goal

pub returns-in-Ok-clause-again : goal.returns-in-Ok-clause-again
returns-in-Ok-clause-again g c = λ h e number tree stands. mounts_to (g.M.Machine.blocks c.args.machine) (content h) (Ok c.in-Ok.mounted) (c.in-Ok.ensures.mounts h e) number tree stands
