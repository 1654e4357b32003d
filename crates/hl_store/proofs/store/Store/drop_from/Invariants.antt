use Rattle.std.proofs.Common.{◌≤◌}
use Rattle.hl_store.specs.Changes.{DropsBetween}
use Rattle.hl_store.proofs.store.Store.drop_from.Given as goal

abbrev pub invariant-blocks-2 : goal.invariant-blocks-2
invariant-blocks-2 g l = (l.from ≤ l.i) × DropsBetween l.fn.self l.self l.ino l.from l.i
