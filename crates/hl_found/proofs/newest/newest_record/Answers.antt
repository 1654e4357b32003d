use Rattle.hl_bytes.specs.Buffers.{block_of}
use Rattle.hl_found.proofs.NewestFound.{newest_found}
use Rattle.hl_found.proofs.newest.newest_record.Goals as goal

pub returns : goal.returns
returns c =
    let first = rw (c.block_at.ensures.bytes, c.label_of-label.ensures.label) at c.in_ok-first.ensures.found in
    let second = rw (c.block_at-2.ensures.bytes, c.label_of-label.ensures.label) at c.in_ok-second.ensures.found in
    rw c.newest.ensures.value (newest_found c.args.geometry.now (block_of c.args.image.now) c.in_ok-first.first c.in_ok-second.second first second)
