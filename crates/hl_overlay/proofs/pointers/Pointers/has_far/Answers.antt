use Rattle.std.proofs.Common.{not, sym, ◌∙◌, ap}
use Rattle.std.specs.Prelude.{◌==◌}
use Rattle.hl_overlay.specs.Pointing.{has_far}
use Rattle.hl_overlay.proofs.PointerLemmas.{has_far_is}
use Rattle.hl_overlay.proofs.pointers.Pointers.has_far.Goals as goal

pub returns-clause-value : goal.returns-clause-value
returns-clause-value c = ap (λ n. not (n == 0)) c.self.invariant.far_is ∙ sym (has_far_is c.self.inside.vec.items) ∙ ap has_far c.self.view_is
