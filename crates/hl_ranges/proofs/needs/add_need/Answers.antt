use Rattle.std.proofs.Common.{◌≡◌, true, is_some, not, subst, ap, ◌∙◌}
use Rattle.hl_lines.specs.Lines.{line_with}
use Rattle.hl_lines.specs.LineTable.{Lines}
use Rattle.hl_ranges.proofs.NeedSteps.{adds_away}
use Rattle.hl_ranges.proofs.needs.add_need.Goals as goal

pub returns-in-Ok-clause-need : goal.returns-in-Ok-clause-need
returns-in-Ok-clause-need g c = λ h e contents lies.
    let some : is_some c.of.result ≡ true = c.is_none.ensures ∙ ap not c.if-is_none.false in
    adds_away c.place.ensures.reads c.args.tsegs.now.items c.push.new.self.items c.in-Away.tseg c.in-Away.block c.of.result c.in-Ok.ensures.items (subst (λ (x : Lines). c.of.result ≡ line_with x.states c.in-Away.tseg) c.lines.ensures c.of.ensures.value) some _ (c.in-Away.ensures.found h e contents lies)
