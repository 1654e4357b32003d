use Rattle.std.proofs.Common.{arith, ◌≡◌, ◌+◌, length, sym, subst}
use Rattle.hl_dir.specs.Dirs.{Spells}
use Rattle.hl_entries.specs.Places.{entry_growth}
use Rattle.hl_entries.proofs.Splits.{start_found, start_missing}
use Rattle.hl_entries.proofs.Edits.{Spells-renumbered, Spells-put_in, growth_found, growth_missing}
use Rattle.hl_entries.proofs.editing.insert.Goals as goal

pub returns-in-Ok-clause-entries : goal.returns-in-Ok-clause-entries
returns-in-Ok-clause-entries c = λ is_name es spells.
    let found = c.in-Ok.ensures.found es (subst (λ l. Spells l es) (sym c.as_slice.ensures.value) spells) in
    Spells-renumbered c.args.bytes.now.items c.args.name.now es spells c.in-Ok.place found c.put_number.new.bytes.items c.args.ino c.ranges.ino.fits c.put_number.ensures.whole

pub returns-in-Ok-clause-place : goal.returns-in-Ok-clause-place
returns-in-Ok-clause-place c = λ es spells.
    let found = c.in-Ok.ensures.found es (subst (λ l. Spells l es) (sym c.as_slice.ensures.value) spells) in
    sym (start_found es c.args.name.now c.in-Ok.place found)

pub returns-in-Ok-clause-len : goal.returns-in-Ok-clause-len
returns-in-Ok-clause-len c = λ es spells.
    let found = c.in-Ok.ensures.found es (subst (λ l. Spells l es) (sym c.as_slice.ensures.value) spells) in
    let growth : entry_growth es c.args.name.now ≡ 0 = growth_found c.args.bytes.now.items c.args.name.now es spells c.in-Ok.place found in
    omega (arith, growth, c.put_number.ensures.len)

pub returns-in_ok-open-in-Err-clause-entries : goal.returns-in_ok-open-in-Err-clause-entries
returns-in_ok-open-in-Err-clause-entries c = λ is_name es spells.
    let missing = c.in-Err.ensures.found es (subst (λ l. Spells l es) (sym c.as_slice.ensures.value) spells) in
    Spells-put_in c.args.bytes.now.items c.args.name.now es spells c.in-Err.at missing c.open.new.bytes.items c.put_entry.new.bytes.items c.args.ino is_name c.ranges.ino.fits c.in_ok-open-in-Err.ensures.front
    c.in_ok-open-in-Err.ensures.back c.put_entry.ensures.whole

pub returns-in_ok-open-in-Err-clause-place : goal.returns-in_ok-open-in-Err-clause-place
returns-in_ok-open-in-Err-clause-place c = λ es spells.
    let missing = c.in-Err.ensures.found es (subst (λ l. Spells l es) (sym c.as_slice.ensures.value) spells) in
    sym (start_missing es c.args.name.now c.in-Err.at missing)

pub returns-in_ok-open-in-Err-clause-len : goal.returns-in_ok-open-in-Err-clause-len
returns-in_ok-open-in-Err-clause-len c = λ es spells.
    let missing = c.in-Err.ensures.found es (subst (λ l. Spells l es) (sym c.as_slice.ensures.value) spells) in
    let growth : entry_growth es c.args.name.now ≡ 5 + length c.args.name.now = growth_missing c.args.bytes.now.items c.args.name.now es spells c.in-Err.at missing in
    omega (arith, growth, c.put_entry.ensures.len, c.in_ok-open-in-Err.ensures.len)
