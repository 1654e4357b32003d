use Rattle.std.proofs.Common.{◌++◌, List, ℕ, ap, ◌∙◌, arith}
use Rattle.std.specs.FinMap.{entries}
use Rattle.std.specs.List.{sum_by}
use Rattle.hl_dump.specs.Dumps.{dump_bytes}
use Rattle.hl_dump.specs.Sizes.{entry_size}
use Rattle.hl_dump.proofs.Sizes.{dump_size-rows}
use Rattle.hl_dump.proofs.Steps.{all_bytes, fits_in_sum}
use Rattle.hl_dump.proofs.write.write_dump.Goals as goal

pub put_entry-requires : goal.put_entry-requires
put_entry-requires c =
    let t = c.args.tree.now.tree in
    let size = dump_size-rows t in
    let same = ap (sum_by entry_size) c.rows-row-items.ensures in
    fits_in_sum c.rows-row-items.result.now c.rows.row-index c.row-item.result c.names.result.now c.rows-test.true c.row-item.is c.names.ensures.is (omega (arith, size, same))

pub returns : goal.returns
unfolding dump_bytes
returns c = c.rows.invariant ∙ ap (λ (l : List ℕ). c.args.out.now.items ++ l) (all_bytes c.rows-row-items.result.now (entries c.args.tree.now.tree) c.rows.row-index (omega arith) c.rows-row-items.ensures)
