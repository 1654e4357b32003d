use Rattle.std.proofs.Common.{arith, subst, ◌≡◌, ◌++◌}
use Rattle.std.proofs.lemmas.List.Elements.{All-append}
use Rattle.hl_tree.specs.Names.{IsName, AreNames}
use Rattle.hl_tree.proofs.path.Path.joined.Goals as goal

pub invariant_of-result : goal.invariant_of-result
invariant_of-result c =
    let parts : c.args.self.now ++ c.args.rest.now ≡ c.of.result = grind arith in
    subst AreNames parts (All-append IsName _ _ c.names-names.ensures.valid c.requires)
