use Rattle.hl_bytes.specs.Buffers.{block_of}
use Rattle.hl_found.proofs.ShelvesFound.{staged_more}
use Rattle.hl_found.proofs.shelves.staged_segments.Goals as goal

pub each-preserved : goal.each-preserved
each-preserved c = staged_more c.args.geometry.now (block_of c.args.image.now) c.args.slots.now c.each.n _ c.each-test.true c.each.staged.items c.push_staged.new.staged.items c.each.invariant c.in_ok-push_staged.ensures
