use Rattle.std.proofs.Common.{refl, arith, ◌+◌, ◌-◌, length, drop, length-take, length-drop}
use Rattle.hl_script.proofs.Places.{part_more, part_last}
use Rattle.hl_script.proofs.word.parts.Goals as goal

pub parts-preserved : goal.parts-preserved
parts-preserved c =
    record {
      cut =
          part_more c.args.at _ _ _ c.parts.rest.now _ c.first_place-end.result c.in_ok-push.ensures.items refl
          c.first_place-end.ensures.place (omega (arith, c.first_place-end.ensures.within)) c.parts.invariant.cut;
      within =
          let len = length-take (length c.parts.rest.now - (c.first_place-end.result + 1)) (drop (c.first_place-end.result + 1) c.parts.rest.now) in
          let len' = length-drop (c.first_place-end.result + 1) c.parts.rest.now in
          omega (arith, c.parts.invariant.within);
    }

pub returns-then-end-len : goal.returns-then-end-len
returns-then-end-len c =
    part_last c.args.at _ _ _ c.parts.rest.now _ c.first_place-end.result c.in_ok-push.ensures.items refl
    c.first_place-end.ensures.place (omega arith) c.parts.invariant.cut
