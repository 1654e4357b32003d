use Rattle.std.proofs.Common.{◌<◌, length, map, refl}
use Rattle.std.proofs.lemmas.List.{length-map}
use Rattle.hl_script.proofs.PartLaws.{part_at}
use Rattle.hl_script.proofs.PathLoop.{path_more, path_refused}
use Rattle.hl_script.proofs.arguments.paths.Goals as goal

pub returns-in-Err : goal.returns-in-Err
returns-in-Err c =
    let lt : c.loop-word.word-index < length (map (λ x. x.now) c.args.args.now) = rw length-map c.loop-word-test.true in
    path_refused c.in-Err.e _ _ _ _ lt (part_at _ _ _ _ c.loop-word-test.true refl) c.in-Err.ensures c.loop-word.invariant

pub loop-word-preserved : goal.loop-word-preserved
loop-word-preserved c =
    let lt : c.loop-word.word-index < length (map (λ x. x.now) c.args.args.now) = rw length-map c.loop-word-test.true in
    rw c.in_ok-push-in-Ok.ensures.items
    (path_more _ _ _ _ _ lt (part_at _ _ _ _ c.loop-word-test.true refl) c.in-Ok.ensures c.loop-word.invariant)
