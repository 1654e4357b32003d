use Rattle.hl_store.proofs.LayLemmas.{HasLaid}
use Rattle.hl_store.proofs.flushing.lay_inodes.Given as goal

abbrev pub invariant-inodes : goal.invariant-inodes
invariant-inodes l = HasLaid l.fn.tables l.tables l.unit.blocks l.plan l.n
