use Rattle.std.proofs.Common.{◌≡◌, ◌*◌, ◌≤◌, length, lit≤, sym, arith}
use Rattle.hl_view.proofs.SegmentLemmas.{zero_behind}
use Rattle.hl_trial.proofs.segments.seal_one.Goals as goal

pub seal_line-requires : goal.seal_line-requires
seal_line-requires c =
    let size : length c.args.buf.now ≡ 4096 * c.blocks-blocks.result = sym c.blocks-blocks.ensures in
    let low : 2 ≤ c.blocks-blocks.result = omega arith in
    record { some = lit≤ tt; most = omega (arith, size, low); past = zero_behind c.args.buf.now c.part.result.now c.blocks-blocks.result 2 c.part.ensures.value size low (c.is_zero.ensures.0 c.if-not-is_zero.false) }
