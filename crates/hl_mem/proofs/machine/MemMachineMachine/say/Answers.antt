use Rattle.std.proofs.Common.{take}
use Rattle.hl_media.specs.History.DeviceCall.{Say}
use Rattle.hl_mem.proofs.KeptLemmas.{kept_either, say_leads}
use Rattle.hl_mem.proofs.machine.MemMachineMachine.say.Goals as goal

pub invariant_of-self : goal.invariant_of-self
invariant_of-self c = kept_either c.self.inside.blocks c.self.inside.opening.items c.self.inside.recording c.self.inside.bytes.items c.self.invariant
    c.add_say-kept.result c.add_say-kept.new.self (Say (take c.if-fails.count c.args.bytes.now)) c.add_say-kept.ensures tt (say_leads c.self.inside.bytes.items (take c.if-fails.count c.args.bytes.now))

pub invariant_of-self-then-fails-2 : goal.invariant_of-self-then-fails-2
invariant_of-self-then-fails-2 c = kept_either c.self.inside.blocks c.self.inside.opening.items c.self.inside.recording c.self.inside.bytes.items c.self.invariant
    c.add_say-kept.result c.add_say-kept.new.self (Say (take c.if-fails.count c.args.bytes.now)) c.add_say-kept.ensures tt (say_leads c.self.inside.bytes.items (take c.if-fails.count c.args.bytes.now))
