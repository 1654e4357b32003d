use Rattle.std.proofs.Common.{arith, ◌≡◌, ◌+◌, ◌++◌, length, take, drop, refl, sym, subst, ap, ◌∙◌}
use Rattle.hl_dir.specs.Dirs.{Spells}
use Rattle.hl_entries.proofs.Splits.{at_found, at_missing}
use Rattle.hl_entries.proofs.Edits.{Spells-taken_out, Spells-kept}
use Rattle.hl_entries.proofs.editing.remove.Goals as goal

pub returns-in_default-clause-place : goal.returns-in_default-clause-place
returns-in_default-clause-place c = λ es spells.
    at_missing es c.args.name.now c.in_default.field-0 (c.in_default.ensures.found es (subst (λ l. Spells l es) (sym c.as_slice.ensures.value) spells))

pub returns-in_default-clause-entries : goal.returns-in_default-clause-entries
returns-in_default-clause-entries c = λ es spells.
    let missing = c.in_default.ensures.found es (subst (λ l. Spells l es) (sym c.as_slice.ensures.value) spells) in
    Spells-kept c.args.bytes.now.items c.args.name.now es spells c.in_default.field-0 missing c.args.bytes.now.items refl

pub returns-clause-place : goal.returns-clause-place
returns-clause-place c = λ es spells.
    at_found es c.args.name.now c.in-Ok.place (c.in-Ok.ensures.found es (subst (λ l. Spells l es) (sym c.as_slice.ensures.value) spells))

pub returns-clause-entries : goal.returns-clause-entries
returns-clause-entries c = λ es spells.
    let bytes = c.args.bytes.now.items in
    let at = c.in-Ok.place.at in
    let found = c.in-Ok.ensures.found es (subst (λ l. Spells l es) (sym c.as_slice.ensures.value) spells) in
    let sum : at + 5 + length c.args.name.now ≡ at + (5 + length c.args.name.now) = omega arith in
    Spells-taken_out bytes c.args.name.now es spells c.in-Ok.place found c.close.new.bytes.items (c.close.ensures ∙ ap (λ n. take at bytes ++ drop n bytes) sum)
