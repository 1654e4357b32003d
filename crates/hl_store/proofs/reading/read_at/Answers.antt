use Rattle.std.proofs.Common.{subst}
use Rattle.hl_addr.specs.Layout.{Layout}
use Rattle.hl_addr.specs.Place.{IsAt}
use Rattle.hl_addr.specs.declared.place.Place.TheVariants.{Line}
use Rattle.hl_store.proofs.AddressReads.{line_stands, line_within, log_stands, log_within}
use Rattle.hl_store.proofs.reading.read_at.Goals as goal
use Rattle.hl_store.proofs.reading.read_at.Goals.{in-Here, in-Away+in-Some}

pub read_block-requires-clause-within : goal.read_block-requires-clause-within
read_block-requires-clause-within g c = elim c.match-where_at.branch [
  | in-Here w ↦ log_within c.args.log.now.geometry c.match-where_at.at c.args.addr w.at-is w.in-Here.ensures
  | in-Away+in-Some w ↦ line_within c.args.log.now.geometry c.match-where_at.at w.address_of.result w.in-Some.line w.in-Away.block w.at-is
      (subst (λ (l : Layout). IsAt l w.address_of.result (Line w.in-Some.line w.in-Away.block)) w.geometry.ensures.value w.address_of.ensures.at)
]

pub returns-in-Ok-clause-found : goal.returns-in-Ok-clause-found
returns-in-Ok-clause-found g c = elim c.match-where_at.branch [
  | in-Here w ↦ log_stands (g.M.Machine.history c.args.log.now.machine) c.args.log.now.geometry c.args.lines.now c.args.addr c.match-where_at.at c.read_block.new.out w.at-is w.in-Here.ensures c.in-Ok.ensures.bytes
  | in-Away+in-Some w ↦ line_stands (g.M.Machine.history c.args.log.now.machine) c.args.log.now.geometry c.args.lines.now c.args.addr c.match-where_at.at c.read_block.new.out w.in-Away.tseg w.in-Some.line w.in-Away.block w.address_of.result w.in-Away.ensures w.in-Some.ensures.value w.at-is
      (subst (λ (l : Layout). IsAt l w.address_of.result (Line w.in-Some.line w.in-Away.block)) w.geometry.ensures.value w.address_of.ensures.at) c.in-Ok.ensures.bytes
]
