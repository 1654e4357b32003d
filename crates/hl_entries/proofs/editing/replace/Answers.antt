use Rattle.std.proofs.Common.{sym, subst}
use Rattle.hl_dir.specs.Dirs.{Spells}
use Rattle.hl_entries.proofs.Splits.{at_found, at_missing}
use Rattle.hl_entries.proofs.Edits.{Spells-renumbered}
use Rattle.hl_entries.proofs.editing.replace.Goals as goal

pub returns-in_default-clause-place : goal.returns-in_default-clause-place
returns-in_default-clause-place c = λ es spells.
    at_missing es c.args.name.now c.in_default.field-0 (c.in_default.ensures.found es (subst (λ l. Spells l es) (sym c.as_slice.ensures.value) spells))

pub returns-clause-place : goal.returns-clause-place
returns-clause-place c = λ es spells.
    at_found es c.args.name.now c.in-Ok.place (c.in-Ok.ensures.found es (subst (λ l. Spells l es) (sym c.as_slice.ensures.value) spells))

pub returns-clause-entries : goal.returns-clause-entries
returns-clause-entries c = λ es spells.
    let found = c.in-Ok.ensures.found es (subst (λ l. Spells l es) (sym c.as_slice.ensures.value) spells) in
    Spells-renumbered c.args.bytes.now.items c.args.name.now es spells c.in-Ok.place found c.put_number.new.bytes.items c.args.ino c.ranges.ino.fits c.put_number.ensures.whole
