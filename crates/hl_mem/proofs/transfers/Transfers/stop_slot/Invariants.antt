use Rattle.std.proofs.Common.{◌≡◌, take, map, length}
use Rattle.hl_mem.specs.Transfers.{left_after, tried}
use Rattle.hl_mem.proofs.transfers.Transfers.stop_slot.Given as goal

abbrev pub invariant-redo : goal.invariant-redo
invariant-redo l = record {
  shows : left_after l.tear l.slot (record { held = l.opening; left = l.opening }) (map tried (take l.call-index l.self-inside.calls.items)) ≡ record { held = l.held; left = l.left };
  held_size : length l.held ≡ length l.opening;
  left_size : length l.left ≡ length l.opening;
}
