use Rattle.std.proofs.Common.{◌≡◌, ◌+◌, ◌++◌, length, take}
use Rattle.std.specs.List.{range_with_len}
use Rattle.hl_image.specs.Places.{block_at}
use Rattle.hl_log.proofs.plan.put_addresses.Given as goal

abbrev pub invariant-put : goal.invariant-put
invariant-put l = record {
  so_far : take (l.from + l.i) l.addresses ≡ take l.from l.fn.addresses ++ range_with_len (block_at l.geometry l.fn.piece.at + 1) l.i;
  size : length l.addresses ≡ length l.fn.addresses;
}
