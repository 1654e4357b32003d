use Rattle.std.proofs.Common.{ℕ, List, length, ◌∙◌, ap}
use Rattle.hl_mem.specs.Tears.{torn_bytes}
use Rattle.hl_bytes.proofs.WholeParts.{whole_part, whole_written}
use Rattle.hl_mem.proofs.segment.tear_over.Goals as goal

pub returns-clause-torn : goal.returns-clause-torn
returns-clause-torn c =
    let whole = whole_part c.args.buffer.now c.blocks-blocks.result c.blocks-blocks.ensures in
    let there = c.part_mut.ensures.value ∙ whole in
    whole_written c.args.buffer.now c.leave.new.range (c.leave.auto.range ∙ ap length there) ∙ c.leave.ensures
    ∙ ap (λ (l : List ℕ). torn_bytes c.args.tear l c.part_mut.result.now) c.bytes_of.ensures
    ∙ ap (λ (l : List ℕ). torn_bytes c.args.tear c.args.bytes.now l) there

pub returns-clause-size : goal.returns-clause-size
returns-clause-size c =
    let there = c.part_mut.ensures.value ∙ whole_part c.args.buffer.now c.blocks-blocks.result c.blocks-blocks.ensures in
    let size = c.leave.auto.range ∙ ap length there in
    ap length (whole_written c.args.buffer.now c.leave.new.range size) ∙ size
