use Rattle.hl_rename.proofs.PutStores.{left_room, tree_two}
use Rattle.hl_rename.proofs.moving.put_both.Goals as goal

pub put-requires-clause-room : goal.put-requires-clause-room
put-requires-clause-room g c =
    left_room {M = g.row.M.Denot} c.args.store.now c.args.left.now c.args.other.now c.requires.other c.requires.room

pub returns-clause-tree : goal.returns-clause-tree
returns-clause-tree g c =
    tree_two {M = g.row.M.Denot} g.M.Machine.history c.args.store.now c.put.new.store c.put_and_free.new.store c.args.left.now c.args.other.now c.args.target c.put.ensures.puts c.put_and_free.ensures.tree
