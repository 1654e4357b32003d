use Rattle.std.proofs.Common.{◌*◌, ◌∙◌, ap, arith}
use Rattle.hl_addr.specs.Layout.{Layout}
use Rattle.hl_bytes.proofs.Parts.{length-with_part}
use Rattle.hl_store.proofs.LineSteps.{area_read}
use Rattle.hl_store.proofs.segments.load.Goals as goal

pub returns-clause-bytes : goal.returns-clause-bytes
returns-clause-bytes g c =
    let blocks = ap (λ (l : Layout). 4096 * l.k) (c.behind-log.view_is ∙ c.geometry.ensures.value) in
    area_read _ c.read.result c.args.at c.args.log.now.geometry.k c.args.buf.now c.read.new.out c.requires.size (c.read.auto.out ∙ c.part_mut-out.ensures.len ∙ blocks) c.read.ensures.bytes

pub returns-clause-size : goal.returns-clause-size
returns-clause-size g c = length-with_part c.args.buf.now c.read.new.out 0 (omega arith)
