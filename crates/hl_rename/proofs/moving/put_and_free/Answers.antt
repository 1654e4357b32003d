use Rattle.hl_rename.proofs.PutStores.{tree_one}
use Rattle.hl_rename.proofs.moving.put_and_free.Goals as goal

pub returns-clause-tree : goal.returns-clause-tree
returns-clause-tree g c =
    tree_one {M = g.row.M.Denot} g.M.Machine.history c.args.store.now c.put.new.store c.free_target.new.store c.args.changed.now c.args.target c.put.ensures.puts c.free_target.ensures
