use Rattle.std.proofs.Common.{◌≡◌, ◌++◌, ◌∷◌, take}
use Rattle.std.specs.List.{flat_map}
use Rattle.hl_script.specs.Answer.{printed_name}
use Rattle.hl_script.proofs.print.push_names.Given as goal

abbrev pub invariant-loop-name : goal.invariant-loop-name
invariant-loop-name l =
    l.out.items ≡ l.fn.out.items ++ flat_map (λ n. l.before ∷ printed_name n) (take l.name-index l.names)
