use Rattle.std.proofs.Common.{◌≡◌, ℕ, ◌==◌, cond, true, false, Some, sym, ap, ◌∙◌}
use Rattle.std.specs.List.{list_any}
use Rattle.hl_lines.specs.Indexes.{least_used}
use Rattle.hl_lines.proofs.Uses.{least_used-last}
use Rattle.hl_lines.proofs.table.least_used.Goals as goal

pub returns-then-not-contains : goal.returns-then-not-contains
returns-then-not-contains c =
    let keep = c.args.keep.now in
    let rest = c.next.new.self.iter in
    let e : ℕ × ℕ = (c.in-Some.tseg.now, c.in-Some.line.now) in
    let among : list_any (λ tseg. tseg == e.0) keep ≡ false = sym c.contains.ensures.value ∙ c.if-not-contains.true in
    let own : least_used keep c.args.clean.now.entries ≡ Some e.1 =
    c.loop-tseg.invariant ∙ ap (least_used keep) c.in-Some.ensures.steps ∙ least_used-last keep rest e ∙ ap (λ b. cond b (least_used keep rest) (Some e.1)) among in
    sym own

pub loop-tseg-preserved : goal.loop-tseg-preserved
loop-tseg-preserved c =
    let keep = c.args.keep.now in
    let rest = c.next.new.self.iter in
    let e : ℕ × ℕ = (c.in-Some.tseg.now, c.in-Some.line.now) in
    let among : list_any (λ tseg. tseg == e.0) keep ≡ true = sym c.contains.ensures.value ∙ c.if-not-contains.false in
    c.loop-tseg.invariant ∙ ap (least_used keep) c.in-Some.ensures.steps ∙ least_used-last keep rest e ∙ ap (λ b. cond b (least_used keep rest) (Some e.1)) among
