use Rattle.std.proofs.Common.{◌≡◌, sym, ap, ◌∙◌, arith}
use Rattle.std.specs.Prelude.{None, is_some}
use Rattle.std.proofs.lemmas.List.{get_or_default}
use Rattle.hl_hierarchy.specs.Naming.{at_number}
use Rattle.hl_hierarchy.proofs.Climbs.{passes_on}
use Rattle.hl_hierarchy.proofs.reach.is_below_root.Goals as goal

pub returns-in-None : goal.returns-in-None
returns-in-None c =
    let lt = c.requires.high in
    let none : at_number c.args.found.now c.args.ino ≡ None = get_or_default c.args.found.now c.args.ino None c.index-found-ino.result (omega (arith, c.requires.size)) ∙ sym c.index-found-ino.is ∙ c.in-None.is in record {
      passed = λ _. passes_on c.args.parents.now c.args.seen.now c.args.ino c.requires.passed;
      climbs = λ _ some. (let e = some in let f = ap is_some none in cc);
      lost = λ no. (let e = no in cc);
    }

pub returns-in-Some : goal.returns-in-Some
returns-in-Some c =
    let lt = c.requires.high in
    let some = ap is_some (get_or_default c.args.found.now c.args.ino None c.index-found-ino.result (omega (arith, c.requires.size)) ∙ sym c.index-found-ino.is ∙ c.in-Some.is) in record {
      passed = c.climb.ensures.passed;
      climbs = λ yes _. c.climb.ensures.climbs yes;
      lost = λ no. record { low = omega (arith, c.requires.low); high = omega (arith, c.requires.size); used = some; never = c.climb.ensures.never no };
    }
