use Rattle.std.proofs.Common.{◌≡◌, ℕ, ◌+◌, ◌-◌, ◌*◌, List, length, ◌∙◌, sym, subst, arith}
use Rattle.hl_placed.specs.Blocks as blocks
use Rattle.hl_store.specs.Changes.{Always, PutsInto}
use Rattle.hl_ranges.proofs.NewBlocks.{covers_low, covers_high, new_covered, new_front, new_back}
use Rattle.hl_ranges.proofs.writing.put_one.Goals as goal

pub overflow_sub-from : goal.overflow_sub-from
overflow_sub-from g c = let low = covers_low c.args.at (c.args.at + length c.args.bytes.now) c.args.i (sym c.covers.ensures ∙ c.if-covers.true) in omega arith

pub slice_bounds-put-end : goal.slice_bounds-put-end
slice_bounds-put-end g c = let low = covers_low c.args.at (c.args.at + length c.args.bytes.now) c.args.i (sym c.covers.ensures ∙ c.if-covers.true) in let high = covers_high c.args.at (c.args.at + length c.args.bytes.now) c.args.i (sym c.covers.ensures ∙ c.if-covers.true) in omega arith

pub returns-then-covers-clause-puts : goal.returns-then-covers-clause-puts
returns-then-covers-clause-puts g c =
    let from_is : c.args.i * 4096 - c.args.at ≡ 4096 * c.args.i - c.args.at = omega arith in
    let n_is : c.args.i * 4096 - c.args.at + 4096 - (c.args.i * 4096 - c.args.at) ≡ 4096 = omega arith in
    subst (λ (b : List ℕ). PutsInto {M = g.row.M.Denot} c.args.store.now c.put.new.self c.args.ino c.args.i Always (blocks.Here b))
    (new_covered c.args.at c.args.bytes.now c.args.front.now c.args.back.now c.args.i (c.args.i * 4096 - c.args.at + 4096 - (c.args.i * 4096 - c.args.at)) (c.args.i * 4096 - c.args.at) n_is from_is (sym c.covers.ensures ∙ c.if-covers.true)) c.put.ensures.puts

pub returns-then-i-at-clause-puts : goal.returns-then-i-at-clause-puts
returns-then-i-at-clause-puts g c = subst (λ (b : List ℕ). PutsInto {M = g.row.M.Denot} c.args.store.now c.put-then-i-at.new.self c.args.ino c.args.i Always (blocks.Here b))
    (new_front c.args.at c.args.bytes.now c.args.front.now c.args.back.now c.args.i (sym c.covers.ensures ∙ c.if-covers.false) c.if-i-at.true) c.put-then-i-at.ensures.puts

pub returns-else-i-at-clause-puts : goal.returns-else-i-at-clause-puts
returns-else-i-at-clause-puts g c = subst (λ (b : List ℕ). PutsInto {M = g.row.M.Denot} c.args.store.now c.put-else-i-at.new.self c.args.ino c.args.i Always (blocks.Here b))
    (new_back c.args.at c.args.bytes.now c.args.front.now c.args.back.now c.args.i (sym c.covers.ensures ∙ c.if-covers.false) c.if-i-at.false) c.put-else-i-at.ensures.puts
