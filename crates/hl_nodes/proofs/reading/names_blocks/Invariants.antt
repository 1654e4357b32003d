use Rattle.hl_bytes.specs.Buffers.{block_of}
use Rattle.hl_nodes.proofs.Passing.{Passed}
use Rattle.hl_nodes.proofs.reading.names_blocks.Given as goal

abbrev pub invariant-pointers : goal.invariant-pointers
invariant-pointers l = Passed (block_of l.image) l.size l.address l.i l.named
