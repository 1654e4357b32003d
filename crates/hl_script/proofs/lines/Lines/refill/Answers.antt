use Rattle.std.proofs.Common.{ap, ◌∙◌, arith}
use Rattle.hl_script.specs.Input.{Ahead}
use Rattle.hl_script.proofs.Cuts.{ready_in, none_held}
use Rattle.hl_script.proofs.lines.Lines.refill.Goals as goal

pub returns-then-first_place-held-clause-ready : goal.returns-then-first_place-held-clause-ready
returns-then-first_place-held-clause-ready g c =
    ready_in c.args.self.now.held c.held-held.result.now c.first_place.result _
    (c.held-held.ensures.is ∙ ap (λ (a : Ahead). a.held) c.self.view_is) c.first_place.ensures.place c.if-first_place-held.true
