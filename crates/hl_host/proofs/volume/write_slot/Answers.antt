use Rattle.std.proofs.Common.{◌≡◌, ◌*◌, ℕ, List, length, ◌∙◌, subst}
use Rattle.std.specs.Prelude.{OnOk}
use Rattle.hl_bytes.proofs.WholeParts.{whole_part}
use Rattle.hl_host.specs.Places.{PutsAt}
use Rattle.hl_host.specs.Devices.{told_of}
use Rattle.hl_host.proofs.PlaceLaws.{changes_none}
use Rattle.hl_host.proofs.volume.write_slot.Goals as goal

pub returns-in-Some-clause-there : goal.returns-in-Some-clause-there
returns-in-Some-clause-there g c =
    let before = told_of g.F.PositionalFile.content c.args.file.now in
    let now = told_of g.F.PositionalFile.content c.write_opened.new.file in
    let whole = c.part.ensures.value ∙ whole_part c.args.from.now c.args.blocks c.requires in
    subst (λ (l : List ℕ). OnOk c.write_opened.result (PutsAt before now (4096 * c.args.blocks * c.args.slot) l)) whole
    (subst (λ (k : ℕ). OnOk c.write_opened.result (PutsAt before now k c.part.result.now)) c.in-Some.ensures c.write_opened.ensures.bytes)

pub returns-in-None-clause-some : goal.returns-in-None-clause-some
returns-in-None-clause-some g c = changes_none (told_of g.F.PositionalFile.content c.args.file.now) (4096 * c.args.blocks * c.args.slot) (length c.args.from.now)
