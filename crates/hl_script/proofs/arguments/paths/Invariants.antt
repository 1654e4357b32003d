use Rattle.std.proofs.Common.{◌≡◌, map, drop}
use Rattle.hl_script.specs.Reading.{paths_at}
use Rattle.hl_script.proofs.PathLoop.{with_front}
use Rattle.hl_script.proofs.arguments.paths.Given as goal

abbrev pub invariant-loop-word : goal.invariant-loop-word
invariant-loop-word l =
    with_front l.paths.items (paths_at (drop l.word-index (map (λ w. w.now) l.args))) ≡ paths_at (map (λ w. w.now) l.args)
