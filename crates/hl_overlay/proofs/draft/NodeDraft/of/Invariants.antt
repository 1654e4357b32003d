use Rattle.hl_overlay.proofs.DraftLemmas.{AreReadTo}
use Rattle.hl_overlay.proofs.draft.NodeDraft.of.Given as goal

abbrev pub invariant-direct : goal.invariant-direct
invariant-direct l = AreReadTo l.i l.inode.direct l.pointers
