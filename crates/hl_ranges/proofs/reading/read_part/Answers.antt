use Rattle.std.proofs.Common.{◌≡◌, ℕ, ◌+◌, ◌-◌, ◌%◌, List, ◌++◌, take, drop, ap, ◌∙◌, arith}
use Rattle.hl_ranges.proofs.RangeBytes.{part_of_block}
use Rattle.hl_ranges.proofs.reading.read_part.Goals as goal

pub returns-in-Ok-clause-part : goal.returns-in-Ok-clause-part
returns-in-Ok-clause-part g c =
    let count : (c.args.from % 4096 + (c.args.to - c.args.from)) - c.args.from % 4096 ≡ c.args.to - c.args.from = omega arith in (
      take (c.args.to - c.args.from) (drop (c.args.from % 4096) c.read_block.new.block),
      ◌∙◌ {A = List ℕ} c.in-Ok.ensures.items (ap (λ (n : ℕ). c.args.out.now.items ++ take n (drop (c.args.from % 4096) c.read_block.new.block)) count),
      λ h e contents lies shelf file lines has.
          part_of_block shelf file c.read_block.new.block c.args.from c.args.to c.in-Done.ensures.size c.requires.low c.requires.high (c.in-Done.ensures.block h e contents lies shelf file lines has),
    )
