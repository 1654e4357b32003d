use Rattle.std.proofs.Common.{◌≡◌, ◌++◌, ◌∷◌, take}
use Rattle.std.specs.List.{flat_map}
use Rattle.hl_script.specs.Answer.{printed_path}
use Rattle.hl_script.proofs.print.push_paths.Given as goal

abbrev pub invariant-loop-path : goal.invariant-loop-path
invariant-loop-path l =
    l.out.items ≡ l.fn.out.items ++ flat_map (λ p. 32 ∷ printed_path p) (take l.path-index l.paths)
