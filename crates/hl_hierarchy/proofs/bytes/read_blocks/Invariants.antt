use Rattle.std.specs.Prelude.{◌≡◌, ℕ, ◌*◌, ◌<◌, length, slice_index}
use Rattle.hl_media.specs.Moments.{Now}
use Rattle.hl_log.specs.Logs.{OnlyReads}
use Rattle.hl_placed.specs.Blocks.{padded_block}
use Rattle.hl_hierarchy.proofs.bytes.read_blocks.Given as goal

abbrev pub invariant-pointers : goal.invariant-pointers
invariant-pointers g l = record {
  machine : OnlyReads {M = g.row.M.Denot} g.M.Machine.history g.M.Machine.blocks g.M.Machine.faults g.M.Machine.write_faults g.M.Machine.say_faults l.fn.machine l.machine;
  faults : g.M.Machine.faults l.machine ≡ g.M.Machine.faults l.fn.machine;
  size : length l.bytes.items ≡ 4096 * l.i;
  blocks : Now (g.M.Machine.history l.fn.machine) (λ s. (j : ℕ) → j < l.i → s.content (slice_index l.pointers j) ≡ padded_block l.bytes.items j);
}
