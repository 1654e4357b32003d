use Rattle.std.proofs.Common.{None, subst}
use Rattle.std.specs.Prelude.{slice_index}
use Rattle.hl_store.specs.Changes.{Reshapes}
use Rattle.hl_overlaid.proofs.NowLemmas.{none_some}
use Rattle.hl_store.proofs.NodeChanges.{can_shape, dropped_below, reshaped_behind}
use Rattle.hl_store.proofs.store.Store.free.Goals as goal

pub reshape-requires-clause-can : goal.reshape-requires-clause-can
reshape-requires-clause-can g c = can_shape c.args.self.now c.drop_from.new.self c.args.ino None c.requires.number.high c.requires.prepared (λ s is. absurd (none_some is)) c.drop_from.ensures

pub returns-clause-shape : goal.returns-clause-shape
returns-clause-shape g c =
    reshaped_behind c.args.self.now c.drop_from.new.self c.reshape.new.self c.args.ino (slice_index c.args.self.now.uses c.args.ino) None (dropped_below c.args.self.now c.drop_from.new.self c.args.ino 0 1036 c.drop_from.ensures)
    (subst (λ us. Reshapes c.drop_from.new.self c.reshape.new.self c.args.ino (slice_index us c.args.ino) None) c.drop_from.ensures.uses c.reshape.ensures.shape)
