use Rattle.std.proofs.Common.{◌≡◌, ◌-◌, ◌*◌, ◌^◌, length}
use Rattle.hl_media.specs.Moments.{Now}
use Rattle.hl_log.specs.Logs.{OnlyReads}
use Rattle.hl_image.specs.Newest.{start_of}
use Rattle.hl_image.proofs.Walking.{Walked}
use Rattle.hl_recovery.specs.Finding.{IsHeld}
use Rattle.hl_recovery.proofs.ChainWalks.{Walking}
use Rattle.hl_recovery.proofs.chain.find_chain.Given as goal

abbrev pub invariant-walk : goal.invariant-walk
invariant-walk g l = record {
  size : length l.held.bytes ≡ 4096 * l.site.geometry.k;
  reads : OnlyReads {M = g.row.M.Denot} g.M.Machine.history g.M.Machine.blocks g.M.Machine.faults g.M.Machine.write_faults g.M.Machine.say_faults l.fn.machine l.machine;
  kept : g.M.Machine.faults l.machine ≡ g.M.Machine.faults l.fn.machine;
  held : Now (g.M.Machine.history l.fn.machine) (λ s. IsHeld l.site.geometry s.content l.held);
  walked : Now (g.M.Machine.history l.fn.machine) (λ s. Walked l.site.geometry s.content (start_of l.site.rec) l.site.rec.serial l.parts.items l.cut.count l.at l.serial);
  walking : Walking l.site.geometry (start_of l.site.rec) l.site.rec.serial l.parts.items l.at l.serial l.cut;
}

abbrev pub decreases-walk : goal.decreases-walk
decreases-walk g l = 2 ^ 64 - l.serial
