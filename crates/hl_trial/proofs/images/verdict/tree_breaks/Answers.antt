use Rattle.std.proofs.Common.{sym, subst}
use Rattle.hl_nodes.specs.Found.{nodes_found}
use Rattle.hl_found.specs.Reach.{HaveNames}
use Rattle.hl_found.proofs.DirectoriesFound.{have_names}
use Rattle.hl_trial.proofs.images.verdict.tree_breaks.Goals as goal

pub places_of-requires : goal.places_of-requires
places_of-requires c =
    let uses = rw c.in-Some.is at c.in_ok-uses.ensures in
    record { names = subst HaveNames (sym c.as_slice.ensures.value) (have_names (nodes_found c.args.nodes.now) c.in-Some.uses.items uses) }
