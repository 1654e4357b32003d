use Rattle.std.proofs.Common.{rules}
use Rattle.std.proofs.lemmas.Fn.{always_returns_same}
use Rattle.hl_tree.specs.Names.{path_cmp}
use Rattle.hl_tree.proofs.Places.{searched}
use Rattle.hl_tree.proofs.rows.place_of.Goals as goal

pub returns : goal.returns
returns c =
    let facts = c.binary_search_by.ensures in
    searched c.args.rows.now c.args.path.now c.requires c.binary_search_by.result facts.bound
    (facts.position (λ row. path_cmp row.0 c.args.path.now) (always_returns_same _ _ _ (λ a r f' called. search rules)))
