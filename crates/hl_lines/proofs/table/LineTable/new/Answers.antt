use Rattle.std.proofs.Common.{◌-◌, ◌^◌, ◌<◌, ◌≡◌, ℕ, List, [], replicate, sym, subst, arith}
use Rattle.lru.specs.LruCache.{LruCache, lru_cache}
use Rattle.hl_lines.specs.Index.{Index}
use Rattle.hl_lines.specs.Indexes.{AreIndexed}
use Rattle.hl_lines.specs.declared.state.LineState.{LineState}
use Rattle.hl_lines.specs.declared.state.LineState.TheVariants.{Empty}
use Rattle.hl_lines.proofs.Lookups.{fresh_indexed}
use Rattle.hl_lines.proofs.table.LineTable.new.Goals as goal

pub invariant_of-result : goal.invariant_of-result
invariant_of-result c =
    let few : c.args.lines < 2 ^ 32 = omega (arith, c.ranges.lines) in
    let states : c.in_ok-states.states.items ≡ replicate c.args.lines Empty = c.in_ok-states.ensures.items_if_clones_equal (λ y e. e) in
    let none : Index = record { keys = []; numbers = []; room = c.args.lines } in
    subst (λ (l : List LineState). AreIndexed l c.in_ok-clean.clean c.in_ok-held.held 0) (sym states)
    (subst (λ (u : LruCache ℕ ℕ). AreIndexed (replicate c.args.lines Empty) u c.in_ok-held.held 0) (sym c.in_ok-clean.ensures)
    (subst (λ (h : Index). AreIndexed (replicate c.args.lines Empty) (lru_cache [] (2 ^ 64 - 1)) h 0) (sym c.in_ok-held.ensures) (fresh_indexed c.args.lines few)))
