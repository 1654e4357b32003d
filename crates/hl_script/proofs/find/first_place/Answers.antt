use Rattle.std.proofs.Common.{sym, arith}
use Rattle.hl_script.proofs.Places.{first_found, none_found}
use Rattle.hl_script.proofs.find.first_place.Goals as goal

pub returns-in-Some-clause-place : goal.returns-in-Some-clause-place
returns-in-Some-clause-place c = sym (first_found c.args.byte c.args.bytes.now c.in-Some.at c.in-Some.ensures)

pub returns-in-Some-clause-within : goal.returns-in-Some-clause-within
returns-in-Some-clause-within c = omega (arith, c.in-Some.ensures.0.high)

pub returns-in-None-clause-place : goal.returns-in-None-clause-place
returns-in-None-clause-place c = sym (none_found c.args.byte c.args.bytes.now c.in-None.ensures)
