use Rattle.std.proofs.Common.{◌≡◌, map, drop, ◌++◌}
use Rattle.std.specs.List.{list_all}
use Rattle.hl_script.specs.Words.{is_name}
use Rattle.hl_script.proofs.word.names.Given as goal

abbrev pub invariant-loop-part : goal.invariant-loop-part
invariant-loop-part l = record {
  spelled : l.names.items ++ drop l.part-index (map (λ x. x.now) l.parts) ≡ map (λ x. x.now) l.parts;
  passed : list_all is_name (drop l.part-index (map (λ x. x.now) l.parts)) ≡ list_all is_name (map (λ x. x.now) l.parts);
}
