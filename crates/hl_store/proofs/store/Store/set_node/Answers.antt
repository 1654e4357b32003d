use Rattle.std.proofs.Common.{◌≤◌, Some, subst, refl}
use Rattle.hl_overlay.specs.declared.draft.Shape.{Shape}
use Rattle.hl_placed.specs.Blocks.{blocks_of}
use Rattle.hl_overlaid.proofs.NowLemmas.{one}
use Rattle.hl_store.specs.Changes.{DropsBetween, Reshapes, shape_of}
use Rattle.hl_store.proofs.NodeChanges.{both_below, can_shape, dropped_below, keeps_kind, reshaped_behind, touched_below}
use Rattle.hl_store.proofs.store.Store.set_node.Goals as goal

pub reshape-requires-clause-can : goal.reshape-requires-clause-can
reshape-requires-clause-can g c =
    let drops = subst (λ n. DropsBetween c.args.self.now c.drop_from.new.self c.args.ino n 1036) c.blocks_of.ensures.value c.drop_from.ensures in
    rw c.touch.ensures.touches.same
    (can_shape c.args.self.now c.drop_from.new.self c.args.ino (Some (shape_of c.args.node.now)) c.requires.number.high c.requires.prepared (λ s is. subst (λ (x : Shape). x.size ≤ 4243456) (one refl is) c.requires.size) drops)

pub reshape-requires-clause-kind : goal.reshape-requires-clause-kind
reshape-requires-clause-kind g c =
    rw c.touch.ensures.touches.same
    (keeps_kind c.args.self.now c.drop_from.new.self c.args.ino c.args.node.now.size c.args.node.now.kind c.requires.number.high c.drop_from.ensures.shapes c.requires.kind)

pub returns-clause-shape : goal.returns-clause-shape
returns-clause-shape g c =
    let drops = subst (λ n. DropsBetween c.args.self.now c.drop_from.new.self c.args.ino n 1036) c.blocks_of.ensures.value c.drop_from.ensures in
    let shape = Some (shape_of c.args.node.now) in
    let count = blocks_of c.args.node.now.size in
    reshaped_behind c.args.self.now c.touch.new.self c.reshape.new.self c.args.ino c.args.node.now.used shape
    (both_below c.args.self.now c.drop_from.new.self c.touch.new.self c.args.ino count
    (dropped_below c.args.self.now c.drop_from.new.self c.args.ino count 1036 drops)
    (touched_below c.drop_from.new.self c.touch.new.self c.args.ino c.args.node.now.used count c.touch.ensures.touches))
    (subst (λ u. Reshapes c.touch.new.self c.reshape.new.self c.args.ino u shape) c.touch.ensures.touches.own c.reshape.ensures.shape)
