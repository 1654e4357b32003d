use Rattle.std.proofs.Common.{refl}
use Rattle.hl_media.specs.History.{state_now}
use Rattle.hl_media.proofs.Runs.{starts}
use Rattle.hl_disk.specs.Saves.{IsSaving}
use Rattle.hl_disk.proofs.Settled.{nothing_saved}
use Rattle.hl_world.proofs.world.World.sync.Goals as goal

pub returns-then-self-clause-saving : goal.returns-then-self-clause-saving
returns-then-self-clause-saving g c = starts (g.M.Machine.history c.args.self.now.machine) (IsSaving (g.M.Machine.blocks c.args.self.now.machine) c.args.self.now.number c.args.self.now.files.tree) (λ h e. nothing_saved _ _ _ (state_now h))

pub returns-in-Ok-clause-syncs : goal.returns-in-Ok-clause-syncs
returns-in-Ok-clause-syncs g c = rw (← c.self.view_is) (refl, c.in-Ok.ensures.saved)
