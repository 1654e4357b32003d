use Rattle.std.proofs.Common.{◌<◌, length, subst, sym, arith}
use Rattle.hl_summary.specs.Parts.{summary_in}
use Rattle.hl_summary.proofs.ReadingLemmas.{count_blocks}
use Rattle.hl_view.specs.declared.parts.PartView.{PartView}
use Rattle.hl_view.proofs.parts.PartView.block.Goals as goal

pub overflow_add-i : goal.overflow_add-i
overflow_add-i c =
    let bytes = c.self.inside.part.now in
    let within : c.args.i < length (summary_in bytes).blocks = subst (λ (v : PartView). c.args.i < length v.summary.blocks) (sym c.self.view_is) c.requires in
    omega (arith, within, count_blocks bytes)

pub block_of-requires : goal.block_of-requires
block_of-requires c =
    let bytes = c.self.inside.part.now in
    let within : c.args.i < length (summary_in bytes).blocks = subst (λ (v : PartView). c.args.i < length v.summary.blocks) (sym c.self.view_is) c.requires in
    omega (arith, within, count_blocks bytes, c.self.invariant.blocks)
