use Rattle.std.proofs.Common.{◌∙◌, ap, length}
use Rattle.hl_bytes.specs.Buffers.{block_of}
use Rattle.hl_nodes.specs.Lines.{line_bytes}
use Rattle.hl_found.proofs.StagedFound.{segment_whole, whole_segment}
use Rattle.hl_found.proofs.staged.holds_segment.Goals as goal

pub returns : goal.returns
returns c =
    let bytes = c.fill.ensures ∙ c.line_bytes.ensures.bytes in
    let size = ap length c.fill.ensures ∙ c.line_bytes.ensures.size in
    let line = line_bytes c.args.geometry.now (block_of c.args.image.now) c.args.line in (
      λ yes. segment_whole c.fill.new.buffer line c.args.geometry.now.k c.args.serial bytes size (c.is_segment.ensures.0 yes),
      λ holds. c.is_segment.ensures.1 (whole_segment c.fill.new.buffer line c.args.geometry.now.k c.args.serial bytes size holds),
    )
