use Rattle.std.proofs.Common.{◌≡◌, ◌*◌, length, sym, ◌∙◌, arith}
use Rattle.std.proofs.lemmas.List.{take_at}
use Rattle.hl_media.specs.History.{content}
use Rattle.hl_disk.proofs.Reading.{blocks_read}
use Rattle.hl_disk.proofs.mounting.read_blocks.Goals as goal

pub returns-clause-bytes : goal.returns-clause-bytes
returns-clause-bytes g c =
    let size : length c.read.new.out ≡ 4096 * c.args.count = omega (arith, c.in_ok-bytes.ensures.len) in
    let len : length c.read.new.out ≡ c.in_ok-bytes.bytes.len = omega arith in
    λ h e. blocks_read (content h) c.args.start c.args.count c.read.new.out size (c.in_ok-read.ensures.bytes h e) ∙ sym (take_at c.read.new.out _ c.in_ok-bytes.bytes.len len)
