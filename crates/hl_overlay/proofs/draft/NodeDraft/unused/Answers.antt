use Rattle.std.proofs.Common.{refl}
use Rattle.hl_overlay.proofs.DraftLemmas.{hole_in, unused_is}
use Rattle.hl_overlay.proofs.draft.NodeDraft.unused.Goals as goal

pub returns-clause-value : goal.returns-clause-value
returns-clause-value c = record { number = refl; own = refl; shape = refl; single = refl; holes = λ i from lt. hole_in _ c.in_ok-holes.ensures i; unchanged = refl }

pub returns-clause-is : goal.returns-clause-is
returns-clause-is c = unused_is _ c.requires refl (hole_in _ c.in_ok-holes.ensures)
