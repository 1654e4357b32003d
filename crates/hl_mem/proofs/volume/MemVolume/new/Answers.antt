use Rattle.hl_mem.proofs.VolumeKept.{kept_blank}
use Rattle.hl_mem.proofs.volume.MemVolume.new.Goals as goal

pub invariant_of-result : goal.invariant_of-result
invariant_of-result c = kept_blank c.args.k c.args.slots c.in_ok-opening.opening.items c.in_ok-held.held.items c.new.result c.ranges.slots.fits c.in_ok-opening.ensures c.in_ok-held.ensures c.new.ensures
