use Rattle.std.proofs.Common.{arith}
use Rattle.hl_store.specs.Checkpointing.{is_clean}
use Rattle.hl_store.proofs.MarkLemmas.{passes_more}
use Rattle.hl_store.proofs.checkpointing.clean_segments.Goals as goal

pub segments-preserved : goal.segments-preserved
segments-preserved c =
    let next = passes_more (is_clean c.args.head c.args.live.now) c.segments.clean.items c.add_clean.new.clean.items c.segments.passed c.segments.invariant.so_far c.segments.invariant.few c.add_clean.ensures.items in
    record { so_far = next.so_far; few = next.few; room = omega (arith, c.segments.invariant.room, c.add_clean.ensures.capacity) }
