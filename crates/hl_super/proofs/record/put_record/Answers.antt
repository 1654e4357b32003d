use Rattle.std.proofs.Common.{ℕ, List, ◌<◌, ◌^◌, subst, arith}
use Rattle.std.specs.List.{AllByRecursion}
use Rattle.hl_super.proofs.record.put_record.Goals as goal

pub returns-clause-value : goal.returns-clause-value
returns-clause-value c = λ at label ranges.
    let fit : List ℕ → Type 0 = λ ns. AllByRecursion (λ n. n < 2 ^ 32) ns in
    record {
      ranges = ranges;
      number_fits = omega arith;
      serial_fits = omega arith;
      seg_fits = omega arith;
      block_fits = omega arith;
      tseg_fits = omega arith;
      volumes_fit = subst fit c.items-volumes.ensures c.put_list.ensures.fit;
      tables_fit = subst fit c.items-tables.ensures c.put_list-2.ensures.fit;
    }
