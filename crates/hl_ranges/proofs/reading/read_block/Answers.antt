use Rattle.hl_ranges.proofs.RangeBytes.{bytes_found, hole_found}
use Rattle.hl_ranges.proofs.reading.read_block.Goals as goal

pub returns-in-Bytes-clause-block : goal.returns-in-Bytes-clause-block
returns-in-Bytes-clause-block g c =
    bytes_found g.M.Machine.history c.args.store.now c.args.ino c.args.i c.block.new.out c.in-Bytes.ensures.found

pub returns-in-Hole-clause-block : goal.returns-in-Hole-clause-block
returns-in-Hole-clause-block g c =
    hole_found g.M.Machine.history c.args.store.now c.args.ino c.args.i c.block.new.out c.in-Hole.ensures.found.0 c.in-Hole.ensures.found.1
