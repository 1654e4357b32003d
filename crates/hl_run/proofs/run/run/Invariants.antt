use Rattle.std.proofs.Common.{◌≡◌, ◌≤◌, ◌+◌, ◌-◌}
use Rattle.std.specs.Prelude.{option_map}
use Rattle.std.specs.Io.KnownBytes.{prepend_known}
use Rattle.hl_world.specs.Worlds.{IsReady}
use Rattle.hl_run.specs.Clocks.{times_after}
use Rattle.hl_run.specs.Turn.{held}
use Rattle.hl_run.proofs.Turning.{Stands}
use Rattle.hl_run.proofs.run.run.Given as goal

abbrev pub invariant-turns : goal.invariant-turns
invariant-turns g l = record {
  counted : l.lines.used ≤ 4294967296;
  limit : l.lines.limit ≡ 4294967296;
  some : 1 ≤ l.n;
  few : l.n ≤ l.lines.used + 1;
  took : g.C.Clock.times l.clock ≡ option_map (times_after (l.n - 1)) (g.C.Clock.times l.fn.clock);
  input_later : g.S.Source.faults l.fn.input ≤ g.S.Source.faults l.input;
  output_later : g.M.Machine.say_faults l.fn.world.machine ≤ g.M.Machine.say_faults l.world.machine;
  disk_later : (g.M.Machine.faults l.fn.world.machine ≤ g.M.Machine.faults l.world.machine) × (g.M.Machine.write_faults l.fn.world.machine ≤ g.M.Machine.write_faults l.world.machine);
  blocks : g.M.Machine.blocks l.world.machine ≡ g.M.Machine.blocks l.fn.world.machine;
  ready : IsReady l.world;
  stands :
      Stands (g.C.Clock.times l.fn.clock) (g.M.Machine.blocks l.fn.world.machine) (held l.fn.world) (held l.world) (g.S.Source.left l.fn.input) (prepend_known l.lines.held (g.S.Source.left l.input)) l.n l.lines.used
      (g.M.Machine.history l.fn.world.machine) (g.M.Machine.history l.world.machine);
}

abbrev pub decreases-turns : goal.decreases-turns
decreases-turns g l = 4294967296 - l.lines.used
