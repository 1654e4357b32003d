use Rattle.std.proofs.Common.{inl, inr, arith}
use Rattle.std.proofs.lemmas.List.{get_or-set_same, get_or-set_other}
use Rattle.hl_hierarchy.proofs.names.note.Goals as goal

pub bounds-parents-child : goal.bounds-parents-child
bounds-parents-child c = (let low = c.is_nameable.ensures.within c.if-not-is_nameable.false in omega (arith, c.requires))

pub returns-then-not-is_nameable : goal.returns-then-not-is_nameable
returns-then-not-is_nameable c = record {
  may = λ yes. (let e = yes in cc);
  noted = λ yes. (let e = yes in cc);
  not = λ _. inl (λ may. (let e = c.is_nameable.ensures.may.1 may in let f = c.if-not-is_nameable.true in cc));
}

pub returns-then-parents-child-ne0 : goal.returns-then-parents-child-ne0
returns-then-parents-child-ne0 c = record {
  may = λ yes. (let e = yes in cc);
  noted = λ yes. (let e = yes in cc);
  not = λ _. inr c.if-parents-child-ne0.true;
}

pub returns : goal.returns
returns c =
    let low = c.is_nameable.ensures.within c.if-not-is_nameable.false in record {
      may = λ _. c.is_nameable.ensures.may.0 c.if-not-is_nameable.false;
      noted = λ _. record {
        free = c.if-parents-child-ne0.false;
        set = get_or-set_same c.args.parents.now c.args.child c.args.ino 0 (omega (arith, c.requires));
        others = λ other ne. get_or-set_other c.args.parents.now c.args.child other c.args.ino 0 ne;
      };
      not = λ no. (let e = no in cc);
    }
