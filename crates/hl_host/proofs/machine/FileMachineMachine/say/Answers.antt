use Rattle.std.proofs.Common.{[], ◌∷◌, refl}
use Rattle.hl_media.specs.History.DeviceCall.{Say}
use Rattle.hl_host.proofs.machine.FileMachineMachine.say.Goals as goal

pub returns-then-is_ok-clause-did : goal.returns-then-is_ok-clause-did
returns-then-is_ok-clause-did g c = record { calls = Say c.args.bytes.now ∷ []; did = (Say c.args.bytes.now, refl, refl); is = refl }
