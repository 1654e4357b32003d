use Rattle.hl_media.specs.History.{state_now}
use Rattle.hl_media.proofs.Runs.{starts}
use Rattle.hl_disk.specs.Saves.{IsSaving}
use Rattle.hl_disk.proofs.Settled.{nothing_saved}
use Rattle.hl_disk.proofs.saving.save.Goals as goal

pub returns-clause-saving : goal.returns-clause-saving
returns-clause-saving g c = starts (g.M.Machine.history c.args.machine.now) (IsSaving (g.M.Machine.blocks c.args.machine.now) c.args.number c.args.files.now.tree) (λ h e. nothing_saved _ _ _ (state_now h))
