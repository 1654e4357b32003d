use Rattle.hl_bytes.specs.Records.{block_record_at}
use Rattle.hl_bytes.proofs.RunLemmas.{get_init, push_step}
use Rattle.std.proofs.Common.{◌∙◌}
use Rattle.hl_bytes.proofs.records.get_block_records.Goals as goal

pub get-init : goal.get-init
get-init c = let empty = get_init block_record_at 8 c.args.at c.args.bytes.now in c.new-blocks.ensures.items ∙ empty

pub get-preserved : goal.get-preserved
get-preserved c =
    push_step block_record_at 8 c.args.bytes.now c.get.blocks.items c.push.new.self.items c.args.at c.get.i c.get_block_record.result c.get.invariant c.get_block_record.ensures c.in_ok-push.ensures.items
