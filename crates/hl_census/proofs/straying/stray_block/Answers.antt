use Rattle.std.proofs.Common.{Bool, List, subst}
use Rattle.std.specs.Prelude.{None, Some}
use Rattle.hl_census.specs.Straying.{TellsStray}
use Rattle.hl_census.proofs.Strays.{named_told, parts_told}
use Rattle.hl_census.proofs.straying.stray_block.Goals as goal

pub returns-in-Some : goal.returns-in-Some
returns-in-Some c = λ image parts head covers in_log named.
    let g = c.args.geometry.now in
    let used = c.in_ok-used in
    named_told g used.ensures.limits image c.args.rec.now parts c.args.tables.now c.args.at head in_log c.args.named.now named used.used.items (used.ensures.used parts head covers) c.in-Some.address
    (subst (λ (l : List Bool). TellsStray g c.args.at l c.args.named.now (Some c.in-Some.address)) c.as_slice.ensures.value c.in-Some.ensures)

pub returns : goal.returns
returns c = λ image parts head covers in_log named.
    let g = c.args.geometry.now in
    let used = c.in_ok-used in
    parts_told g used.ensures.limits image c.args.rec.now parts c.args.tables.now c.args.at head in_log c.args.named.now named used.used.items (used.ensures.used parts head covers)
    (subst (λ (l : List Bool). TellsStray g c.args.at l c.args.named.now None) c.as_slice.ensures.value c.in-None.ensures)
    c.part_ahead.result (c.part_ahead.ensures c.args.rec.now parts covers)
