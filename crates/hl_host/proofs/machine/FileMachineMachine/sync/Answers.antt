use Rattle.std.proofs.Common.{[], ◌∷◌, true, refl}
use Rattle.hl_media.specs.History.DeviceCall.{Sync}
use Rattle.hl_host.proofs.machine.FileMachineMachine.sync.Goals as goal

pub returns-then-is_ok-clause-did : goal.returns-then-is_ok-clause-did
returns-then-is_ok-clause-did g c = record { calls = Sync true ∷ []; did = (Sync true, refl, refl); is = refl }
