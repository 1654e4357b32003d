use Rattle.std.proofs.Common.{◌*◌, not}
use Rattle.hl_mem.specs.Transfers.TriedCall.{TriedSync}
use Rattle.hl_mem.proofs.VolumeKept.{volume_kept_either, sync_leads_slots}
use Rattle.hl_mem.proofs.volume.MemVolumeVolume.sync.Goals as goal

pub invariant_of-self : goal.invariant_of-self
invariant_of-self c = volume_kept_either (4096 * c.self.inside.slot_blocks) c.self.inside.opening.items c.self.inside.held.items c.self.inside.transfers c.self.invariant
    c.add_sync-kept.result c.add_sync-kept.new.self (TriedSync (not c.next-fails.result)) c.add_sync-kept.ensures tt (sync_leads_slots c.self.inside.held.items (not c.next-fails.result))

pub invariant_of-self-then-fails : goal.invariant_of-self-then-fails
invariant_of-self-then-fails c = volume_kept_either (4096 * c.self.inside.slot_blocks) c.self.inside.opening.items c.self.inside.held.items c.self.inside.transfers c.self.invariant
    c.add_sync-kept.result c.add_sync-kept.new.self (TriedSync (not c.next-fails.result)) c.add_sync-kept.ensures tt (sync_leads_slots c.self.inside.held.items (not c.next-fails.result))
