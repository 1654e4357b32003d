use Rattle.std.proofs.Common.{◌≡◌, ◌↔◌, Some, None, Option}
use Rattle.hl_bytes.proofs.Decoding.{accepted, refused, none_exactly}
use Rattle.hl_super.specs.declared.label.Label.{Label}
use Rattle.hl_super.specs.Labels.{Spells}
use Rattle.hl_super.proofs.LabelLemmas.{only}
use Rattle.hl_super.proofs.label.decode_label.Goals as goal

pub returns-then-is_spelled : goal.returns-then-is_spelled
returns-then-is_spelled c =
    let x = c.label_in-label.result in
    let P = Spells c.args.blocks c.args.block.now in
    let found : (v : Label) → (Some x ≡ Some v) ↔ P v = accepted P x c.is_spelled.result c.if-is_spelled.true c.is_spelled.ensures.0 (only c.args.blocks c.args.block.now x c.label_in-label.ensures) in
    record { found = found; none = none_exactly P (Some x) found }

pub returns-else-is_spelled : goal.returns-else-is_spelled
returns-else-is_spelled c =
    let x = c.label_in-label.result in
    let P = Spells c.args.blocks c.args.block.now in
    let nothing : Option Label = None in
    let found : (v : Label) → (nothing ≡ Some v) ↔ P v = refused P x c.is_spelled.result c.if-is_spelled.false c.is_spelled.ensures.1 (only c.args.blocks c.args.block.now x c.label_in-label.ensures) in
    record { found = found; none = none_exactly P nothing found }
