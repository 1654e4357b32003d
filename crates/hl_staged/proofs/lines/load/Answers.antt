use Rattle.std.proofs.Common.{◌*◌, ◌∙◌, ap, arith}
use Rattle.hl_addr.specs.Layout.{Layout}
use Rattle.hl_bytes.proofs.Parts.{length-with_part}
use Rattle.hl_nodes.specs.Lines.{line_start}
use Rattle.hl_staged.proofs.Reading.{area_read}
use Rattle.hl_staged.proofs.lines.load.Goals as goal

pub returns-clause-bytes : goal.returns-clause-bytes
returns-clause-bytes g c =
    let blocks = ap (λ (l : Layout). 4096 * l.k) c.geometry.view_is in
    area_read (g.M.Machine.history c.args.machine.now) c.read.result c.line_start-at.result (line_start c.args.geometry.now c.args.line) c.args.geometry.now.k c.args.buffer.now c.read.new.out c.line_start-at.ensures.value c.requires.size
    (c.read.auto.out ∙ c.part_mut.ensures.len ∙ blocks) c.read.ensures.bytes

pub returns-clause-size : goal.returns-clause-size
returns-clause-size g c = length-with_part c.args.buffer.now c.read.new.out 0 (let blocks = ap (λ (l : Layout). 4096 * l.k) c.geometry.view_is in omega (arith, c.read.auto.out, c.part_mut.ensures.len, blocks, c.requires.size))
