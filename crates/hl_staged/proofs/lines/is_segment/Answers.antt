use Rattle.std.proofs.Common.{refl, sym, ap, subst}
use Rattle.std.specs.Option.{IsNone}
use Rattle.hl_view.specs.Lines.{head_of}
use Rattle.hl_staged.proofs.lines.is_segment.Goals as goal

pub returns-in-Some : goal.returns-in-Some
returns-in-Some c = (λ yes. (c.in-Some.field-0.head, (c.open.ensures.found c.in-Some.field-0.head).0 (ap head_of c.in-Some.is)), λ is. refl)

pub returns-in-None : goal.returns-in-None
returns-in-None c = (λ e. absurd (cc), λ (head, is). absurd (c.open.ensures.none.0 (subst IsNone (sym c.in-None.is) refl) head is))
