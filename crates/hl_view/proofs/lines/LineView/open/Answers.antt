use Rattle.std.proofs.Common.{◌≡◌, ◌↔◌, Some, None, Option, List, ℕ, subst, ◌∙◌}
use Rattle.hl_bytes.proofs.Decoding.{accepted, refused, none_exactly}
use Rattle.hl_tseg.specs.Segments.{SegmentHead}
use Rattle.hl_view.specs.Lines.{IsSegment, head_in}
use Rattle.hl_view.proofs.SegmentLemmas.{only, seen, whole_part}
use Rattle.hl_view.proofs.lines.LineView.open.Goals as goal

found : (c : goal.Then-is_segment) (head : SegmentHead) → (Some (head_in c.part-segment.result.now) ≡ Some head) ↔ IsSegment c.args.buf.now c.args.serial head
found c =
    let whole = c.part-segment.ensures.value ∙ whole_part c.args.buf.now c.blocks-2.result c.blocks-2.ensures in
    subst (λ (b : List ℕ). (head : SegmentHead) → (Some (head_in c.part-segment.result.now) ≡ Some head) ↔ IsSegment b c.args.serial head) whole
    (accepted (IsSegment c.part-segment.result.now c.args.serial) (head_in c.part-segment.result.now) c.is_segment.result c.if-is_segment.true c.is_segment.ensures.0 (only c.part-segment.result.now c.args.serial))

missing : (c : goal.Else-is_segment) (head : SegmentHead) → (let nothing : Option SegmentHead = None in nothing ≡ Some head) ↔ IsSegment c.args.buf.now c.args.serial head
missing c =
    let nothing : Option SegmentHead = None in
    let whole = c.part-segment.ensures.value ∙ whole_part c.args.buf.now c.blocks-2.result c.blocks-2.ensures in
    subst (λ (b : List ℕ). (head : SegmentHead) → (nothing ≡ Some head) ↔ IsSegment b c.args.serial head) whole
    (refused (IsSegment c.part-segment.result.now c.args.serial) (head_in c.part-segment.result.now) c.is_segment.result c.if-is_segment.false c.is_segment.ensures.1 (only c.part-segment.result.now c.args.serial))

pub returns-then-is_segment-clause-found : goal.returns-then-is_segment-clause-found
returns-then-is_segment-clause-found c = found c

pub returns-then-is_segment-clause-none : goal.returns-then-is_segment-clause-none
returns-then-is_segment-clause-none c = none_exactly (IsSegment c.args.buf.now c.args.serial) (Some (head_in c.part-segment.result.now)) (found c)

pub returns-then-is_segment-clause-lent : goal.returns-then-is_segment-clause-lent
returns-then-is_segment-clause-lent c = c.part-segment.ensures.value ∙ whole_part c.args.buf.now c.blocks-2.result c.blocks-2.ensures

pub returns-else-is_segment-clause-found : goal.returns-else-is_segment-clause-found
returns-else-is_segment-clause-found c = missing c

pub returns-else-is_segment-clause-none : goal.returns-else-is_segment-clause-none
returns-else-is_segment-clause-none c = none_exactly (IsSegment c.args.buf.now c.args.serial) None (missing c)

pub invariant_of-result : goal.invariant_of-result
invariant_of-result c = seen c.part-segment.result.now c.blocks-2.result c.args.serial c.part-segment.ensures.len (c.is_segment.ensures.0 c.if-is_segment.true)
