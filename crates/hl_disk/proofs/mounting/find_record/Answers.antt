use Rattle.std.proofs.Common.{◌≡◌, length, arith}
use Rattle.hl_media.specs.History.{content}
use Rattle.hl_disk.proofs.Reading.{block_read, record_found}
use Rattle.hl_disk.proofs.mounting.find_record.Goals as goal

pub returns-clause-found : goal.returns-clause-found
returns-clause-found g c =
    let size : length c.read.new.out ≡ 4096 = omega arith in
    λ h e. record_found (content h) c.args.at c.read.new.out c.decode_record.result (block_read (content h) c.args.at c.read.new.out size (c.in_ok-read.ensures.bytes h e)) c.decode_record.ensures.found
