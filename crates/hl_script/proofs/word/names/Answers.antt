use Rattle.std.proofs.Common.{sym, ◌∙◌, ◌<◌, length, map, refl}
use Rattle.std.proofs.lemmas.List.{length-map}
use Rattle.hl_script.specs.Words.{is_name}
use Rattle.hl_script.proofs.PartLaws.{part_at, refused, spelled_more, passed_more}
use Rattle.hl_script.proofs.word.names.Goals as goal

pub returns-then-not-is_name : goal.returns-then-not-is_name
returns-then-not-is_name c =
    let lt : c.loop-part.part-index < length (map (λ x. x.now) c.args.parts.now) = rw length-map c.loop-part-test.true in
    refused _ _ _ lt (part_at _ _ _ _ c.loop-part-test.true refl) (sym c.is_name.ensures ∙ c.if-not-is_name.true)

pub loop-part-preserved : goal.loop-part-preserved
loop-part-preserved c =
    let lt : c.loop-part.part-index < length (map (λ x. x.now) c.args.parts.now) = rw length-map c.loop-part-test.true in
    let at = part_at _ _ _ _ c.loop-part-test.true (c.of.ensures ∙ c.in_ok-from_slice.ensures.items) in
    let same = part_at _ _ _ _ c.loop-part-test.true refl in
    record {
      spelled = rw c.in_ok-push.ensures.items (spelled_more _ _ _ _ lt at c.loop-part.invariant.spelled);
      passed = passed_more is_name _ _ _ lt same (sym c.is_name.ensures ∙ c.if-not-is_name.false) c.loop-part.invariant.passed;
    }
