use Rattle.hl_ranges.proofs.FoundFiles.{edge_bytes, edge_hole}
use Rattle.hl_ranges.proofs.writing.read_edge.Goals as goal

pub returns-in-Bytes-clause-block : goal.returns-in-Bytes-clause-block
returns-in-Bytes-clause-block g c = edge_bytes {M = g.row.M.Denot} g.M.Machine.history c.args.store.now c.args.ino c.args.i c.block.new.out c.block.ensures.size c.in-Bytes.ensures.found

pub returns-in-Hole-clause-block : goal.returns-in-Hole-clause-block
returns-in-Hole-clause-block g c = edge_hole {M = g.row.M.Denot} g.M.Machine.history c.args.store.now c.args.ino c.args.i c.block.new.out c.block.ensures.size c.in-Hole.ensures.found
