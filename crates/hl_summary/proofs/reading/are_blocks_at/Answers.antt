use Rattle.std.proofs.Common.{sym, ◌∙◌}
use Rattle.std.proofs.lemmas.Bool.{false≢true}
use Rattle.hl_bytes.specs.Records.{block_record_at}
use Rattle.hl_summary.specs.Ranges.{IsBlockOf}
use Rattle.hl_summary.proofs.ReadingLemmas.{all_none, all_more, all_fails}
use Rattle.hl_summary.proofs.reading.are_blocks_at.Goals as goal

pub each-init : goal.each-init
each-init c = all_none (IsBlockOf c.args.inodes c.args.tables) block_record_at 8 40 c.args.part.now

pub each-preserved : goal.each-preserved
each-preserved c =
    all_more (IsBlockOf c.args.inodes c.args.tables) block_record_at 8 40 c.each.i c.args.part.now c.get_block_record-block.result c.each.invariant c.get_block_record-block.ensures (c.is_block_of.ensures.0 c.if-not-is_block_of.false)

pub returns-then-not-is_block_of : goal.returns-then-not-is_block_of
returns-then-not-is_block_of c = (
  λ t. absurd cc,
  λ all. absurd (all_fails (IsBlockOf c.args.inodes c.args.tables) block_record_at 8 40 c.args.count c.each.i c.args.part.now c.get_block_record-block.result c.each-test.true c.get_block_record-block.ensures (λ p. false≢true (sym c.if-not-is_block_of.true ∙ c.is_block_of.ensures.1 p)) all),
)
