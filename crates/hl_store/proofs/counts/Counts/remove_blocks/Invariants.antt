use Rattle.std.proofs.Common.{◌≡◌, take}
use Rattle.std.specs.List.{fold}
use Rattle.hl_tally.specs.Counting.{removed}
use Rattle.hl_store.proofs.counts.Counts.remove_blocks.Given as goal

-- the blocks that were passed are not counted any more
abbrev pub invariant-blocks-2 : goal.invariant-blocks-2
invariant-blocks-2 l = record {
  in_use : l.self-inside.in_use ≡ l.fn.self.in_use;
  charge : l.self-inside.charge ≡ l.fn.self.charge;
  live : l.self-inside.live.items ≡ fold (removed l.k) l.fn.self.live (take l.addr-index l.gone);
}
