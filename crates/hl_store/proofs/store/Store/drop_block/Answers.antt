use Rattle.std.proofs.Common.{◌≡◌, ◌∙◌, Some, true, ap, option_map, subst}
use Rattle.hl_overlay.specs.Pointing.{is_hole_pointer}
use Rattle.hl_overlay.specs.Overlays.{where_in}
use Rattle.hl_store.specs.Values.{StoreValue}
use Rattle.hl_store.proofs.DropSteps.{dropped_block, was_hole}
use Rattle.hl_store.proofs.store.Store.drop_block.Goals as goal

pub returns-then-not-is_hole : goal.returns-then-not-is_hole
returns-then-not-is_hole g c = dropped_block c.args.self.now c.clear.new.self c.args.ino c.args.i c.clear.ensures.puts c.clear.ensures.hole c.clear.ensures.others c.clear.ensures.room

pub returns-else-not-is_hole : goal.returns-else-not-is_hole
returns-else-not-is_hole g c =
    was_hole c.args.self.now c.args.ino c.args.i
    (subst (λ (x : StoreValue g.row.M.Denot). option_map is_hole_pointer (where_in x.overlay.drafts c.args.ino c.args.i) ≡ Some true) c.self.view_is (c.is_hole.ensures ∙ ap Some c.if-not-is_hole.false))
