use Rattle.std.proofs.Common.{[], ◌∷◌, refl}
use Rattle.hl_media.specs.History.DeviceCall.{Write}
use Rattle.hl_host.proofs.machine.FileMachineMachine.write.Goals as goal

pub returns-then-is_ok-clause-did : goal.returns-then-is_ok-clause-did
returns-then-is_ok-clause-did g c =
    let call = Write c.args.at c.args.bytes.now c.args.bytes.now in
    record { calls = call ∷ []; did = (call, refl, refl); is = refl }
