use Rattle.std.proofs.Common.{[], ◌∷◌, refl}
use Rattle.hl_media.specs.History.DeviceCall.{Read}
use Rattle.hl_host.proofs.machine.FileMachineMachine.read.Goals as goal

pub returns-then-is_ok-clause-did : goal.returns-then-is_ok-clause-did
returns-then-is_ok-clause-did g c = record { calls = Read ∷ []; did = (Read, refl, refl); is = refl }
