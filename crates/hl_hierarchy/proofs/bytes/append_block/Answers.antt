use Rattle.std.proofs.Common.{ℕ, ◌++◌, List, length, ◌∙◌, ap, sym, arith, length-append}
use Rattle.hl_hierarchy.proofs.bytes.append_block.Goals as goal

pub returns-clause-bytes : goal.returns-clause-bytes
returns-clause-bytes g c h e = c.in_ok-put_behind.ensures ∙ ap (λ (l : List ℕ). c.args.bytes.now.items ++ l) (sym (c.in_ok-read_block.ensures.bytes h e))

pub returns-clause-size : goal.returns-clause-size
returns-clause-size g c =
    let both = length-append c.args.bytes.now.items c.read_block.new.out in
    let long = ap length c.in_ok-put_behind.ensures in
    let size = c.read_block.ensures.size in
    omega arith
