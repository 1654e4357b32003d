use Rattle.std.proofs.Common.{◌-◌, ◌^◌}
use Rattle.hl_bytes.specs.Buffers.{block_of}
use Rattle.hl_image.specs.Newest.{start_of}
use Rattle.hl_image.proofs.Walking.{Walked}
use Rattle.hl_image.proofs.chain.chain_parts.Given as goal

abbrev pub invariant-walk : goal.invariant-walk
invariant-walk l = Walked l.geometry (block_of l.image) (start_of l.rec) l.rec.serial l.chain.items l.ended l.at l.serial

abbrev pub decreases-walk : goal.decreases-walk
decreases-walk l = 2 ^ 64 - l.serial
