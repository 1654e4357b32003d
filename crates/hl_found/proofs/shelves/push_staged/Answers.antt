use Rattle.std.proofs.Common.{ℕ, List, [], ◌∷◌, sym, ap, ◌∙◌}
use Rattle.std.specs.FinMap.{insert}
use Rattle.hl_bytes.specs.Buffers.{block_of}
use Rattle.hl_tseg.specs.declared.slot.Slot.{Slot}
use Rattle.hl_nodes.specs.Lines.{with_staged}
use Rattle.hl_found.specs.Shelves.{shelf_over}
use Rattle.hl_found.proofs.ShelvesFound.{shelf_pushed}
use Rattle.hl_found.proofs.shelves.push_staged.Goals as goal

pub returns-in_ok-push-in-Staged : goal.returns-in_ok-push-in-Staged
returns-in_ok-push-in-Staged c = λ base.
    let bytes = c.in_ok-bytes-in-Staged.ensures in
    ap (shelf_over base) c.in_ok-push-in-Staged.ensures.items
    ∙ shelf_pushed base c.args.staged.now.items (record { serial = c.in-Staged.serial; bytes = c.in_ok-bytes-in-Staged.bytes })
    ∙ ap (λ (l : List ℕ). shelf_over (insert base c.in-Staged.serial l) c.args.staged.now.items) bytes
    ∙ ap (λ (s : Slot). shelf_over (with_staged c.args.geometry.now (block_of c.args.image.now) base (s ∷ [])) c.args.staged.now.items) (sym c.in-Staged.is)
