use Rattle.hl_bytes.specs.Buffers.{block_of}
use Rattle.hl_found.specs.Listing.{IsLiveBefore, Lists}
use Rattle.hl_found.proofs.live.live_blocks.Given as goal

abbrev pub invariant-numbers : goal.invariant-numbers
invariant-numbers l = Lists (IsLiveBefore l.geometry (block_of l.image) l.found.rec l.found.tables l.ino) l.lives.items
