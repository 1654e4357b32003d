use Rattle.std.proofs.Common.{◌≡◌, List, ℕ, length, drop, sym, ◌∙◌, ap, subst}
use Rattle.hl_bytes.specs.Pages.{page_over}
use Rattle.hl_tseg.specs.Segments.{head_fields}
use Rattle.hl_view.specs.Lines.{IsSegment, head_with}
use Rattle.hl_view.proofs.SegmentLemmas.{seal_spells, whole_part, with_whole}
use Rattle.hl_view.proofs.lines.seal_line.Goals as goal

-- the part is the whole buffer
size : (c : goal.After-buf-1) → length c.seal_segment.new.segment ≡ length c.args.buf.now
size c = c.seal_segment.auto.segment ∙ c.part_mut.ensures.len ∙ c.blocks-blocks.ensures

bytes : (c : goal.After-buf-1) → c.seal_segment.new.segment ≡ page_over (head_fields (head_with c.args.serial c.args.records.now)) (drop 4096 c.args.buf.now)
bytes c =
    let same = c.part_mut.ensures.value ∙ whole_part c.args.buf.now c.blocks-blocks.result c.blocks-blocks.ensures in
    c.seal_segment.ensures.bytes ∙ ap (λ (l : List ℕ). page_over (head_fields (head_with c.args.serial c.args.records.now)) (drop 4096 l)) same

pub returns-clause-block_0 : goal.returns-clause-block_0
returns-clause-block_0 c = with_whole c.args.buf.now c.seal_segment.new.segment (size c) ∙ bytes c

pub returns-clause-sealed : goal.returns-clause-sealed
returns-clause-sealed c =
    let old = c.args.buf.now in
    let new = c.seal_segment.new.segment in
    subst (λ (b : List ℕ). IsSegment b c.args.serial (head_with c.args.serial c.args.records.now)) (sym (with_whole old new (size c)))
    (seal_spells old new c.blocks-blocks.result c.args.serial c.args.records.now c.blocks-blocks.ensures (size c) (bytes c) c.requires c.ranges.serial.fits c.seal_segment.ensures.fits)
