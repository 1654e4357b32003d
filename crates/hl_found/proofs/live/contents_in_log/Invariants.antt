use Rattle.hl_bytes.specs.Buffers.{block_of}
use Rattle.hl_found.specs.Listing.{IsContent, Lists}
use Rattle.hl_found.proofs.live.contents_in_log.Given as goal

abbrev pub invariant-contents : goal.invariant-contents
invariant-contents l = Lists (IsContent l.geometry (block_of l.image) l.ino l.inode l.i) l.lives.items
