use Rattle.std.proofs.Common.{not}
use Rattle.hl_media.specs.History.DeviceCall.{Sync}
use Rattle.hl_mem.proofs.KeptLemmas.{kept_either, sync_leads}
use Rattle.hl_mem.proofs.machine.MemMachineMachine.sync.Goals as goal

pub invariant_of-self : goal.invariant_of-self
invariant_of-self c = kept_either c.self.inside.blocks c.self.inside.opening.items c.self.inside.recording c.self.inside.bytes.items c.self.invariant
    c.add_sync-kept.result c.add_sync-kept.new.self (Sync (not c.next-fails.result)) c.add_sync-kept.ensures tt (sync_leads c.self.inside.bytes.items (not c.next-fails.result))

pub invariant_of-self-then-fails : goal.invariant_of-self-then-fails
invariant_of-self-then-fails c = kept_either c.self.inside.blocks c.self.inside.opening.items c.self.inside.recording c.self.inside.bytes.items c.self.invariant
    c.add_sync-kept.result c.add_sync-kept.new.self (Sync (not c.next-fails.result)) c.add_sync-kept.ensures tt (sync_leads c.self.inside.bytes.items (not c.next-fails.result))
