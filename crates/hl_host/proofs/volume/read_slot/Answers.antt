use Rattle.std.proofs.Common.{◌≡◌, ◌*◌, ℕ, List, length, sym, ◌∙◌, ap, subst}
use Rattle.std.specs.Prelude.{OnOk}
use Rattle.hl_bytes.specs.Buffers.{with_part}
use Rattle.hl_bytes.proofs.WholeParts.{whole_written}
use Rattle.hl_host.specs.Places.{StandsAt}
use Rattle.hl_host.specs.Devices.{told_of}
use Rattle.hl_host.proofs.volume.read_slot.Goals as goal

pub returns-in-Some-clause-there : goal.returns-in-Some-clause-there
returns-in-Some-clause-there g c =
    let new = c.read_opened.new.out in
    let told = told_of g.F.PositionalFile.content c.args.file.now in
    let whole = whole_written c.args.out.now new (c.read_opened.auto.out ∙ c.part_mut.ensures.len ∙ c.requires) in
    subst (λ (l : List ℕ). OnOk c.read_opened.result (StandsAt told (4096 * c.args.blocks * c.args.slot) (length l) l)) (sym whole)
    (subst (λ (k : ℕ). OnOk c.read_opened.result (StandsAt told k (length new) new)) c.in-Some.ensures c.read_opened.ensures.bytes)

pub returns-in-Some-clause-size : goal.returns-in-Some-clause-size
returns-in-Some-clause-size g c =
    let size = c.read_opened.auto.out ∙ c.part_mut.ensures.len ∙ c.requires in
    ap length (whole_written c.args.out.now c.read_opened.new.out size) ∙ size
