use Rattle.hl_overlay.proofs.DraftLemmas.{IsFilledTo}
use Rattle.hl_overlay.proofs.draft.NodeDraft.read_pointers.Given as goal

abbrev pub invariant-far : goal.invariant-far
invariant-far l = IsFilledTo l.i l.block l.initial.self l.self
