use Rattle.std.proofs.Common.{◌≡◌, length, arith}
use Rattle.hl_media.specs.History.{content}
use Rattle.hl_disk.proofs.Reading.{block_read, label_found}
use Rattle.hl_disk.proofs.mounting.has_label.Goals as goal

pub returns-clause-label : goal.returns-clause-label
returns-clause-label g c =
    let size : length c.read.new.out ≡ 4096 = omega arith in
    let found = rw c.blocks-count.ensures at c.decode_label.ensures.found in
    λ h e. rw c.is_some.ensures (label_found (g.M.Machine.blocks c.args.machine.now) (content h) c.read.new.out c.decode_label.result (block_read (content h) 0 c.read.new.out size (c.in_ok-read.ensures.bytes h e)) found)
