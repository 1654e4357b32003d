use Rattle.std.proofs.Common.{sym, ◌∙◌}
use Rattle.std.proofs.lemmas.Bool.{false≢true}
use Rattle.hl_bytes.specs.Records.{table_record_at}
use Rattle.hl_summary.specs.Ranges.{IsChangeOf}
use Rattle.hl_summary.proofs.ReadingLemmas.{all_none, all_more, all_fails}
use Rattle.hl_summary.proofs.reading.are_changes_at.Goals as goal

pub each-init : goal.each-init
each-init c = all_none (IsChangeOf c.args.inodes c.args.slots c.args.volumes) table_record_at 24 1960 c.args.part.now

pub each-preserved : goal.each-preserved
each-preserved c =
    all_more (IsChangeOf c.args.inodes c.args.slots c.args.volumes) table_record_at 24 1960 c.each.i c.args.part.now c.get_table_record-change.result c.each.invariant c.get_table_record-change.ensures (c.is_change_of.ensures.0 c.if-not-is_change_of.false)

pub returns-then-not-is_change_of : goal.returns-then-not-is_change_of
returns-then-not-is_change_of c = (
  λ t. absurd cc,
  λ all. absurd (all_fails (IsChangeOf c.args.inodes c.args.slots c.args.volumes) table_record_at 24 1960 c.args.count c.each.i c.args.part.now c.get_table_record-change.result c.each-test.true c.get_table_record-change.ensures (λ p. false≢true (sym c.if-not-is_change_of.true ∙ c.is_change_of.ensures.1 p)) all),
)
