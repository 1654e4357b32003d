use Rattle.std.proofs.Common.{◌≡◌, ◌≤◌, ◌++◌, eqb, length, map}
use Rattle.std.specs.List.{slice_split}
use Rattle.hl_script.proofs.word.parts.Given as goal

abbrev pub invariant-parts : goal.invariant-parts
invariant-parts l = record {
  cut : map (λ x. x.now) l.parts.items ++ slice_split (λ b. eqb b l.at) l.rest ≡ slice_split (λ b. eqb b l.at) l.bytes;
  within : length l.rest ≤ length l.bytes;
}

abbrev pub decreases-parts : goal.decreases-parts
decreases-parts l = length l.rest
