use Rattle.hl_store.specs.Opening.{AreInUseTo}
use Rattle.hl_store.proofs.store.flags_of.Given as goal

abbrev pub invariant-numbers : goal.invariant-numbers
invariant-numbers l = AreInUseTo l.ino l.tables l.flags.items
