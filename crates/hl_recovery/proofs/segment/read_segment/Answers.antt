use Rattle.std.proofs.Common.{◌≡◌, ℕ, ◌*◌, ap, subst, length, arith}
use Rattle.std.specs.Prelude.{OnOk}
use Rattle.std.specs.Option.{ForSome}
use Rattle.hl_media.specs.History.{HoldsAt, content}
use Rattle.hl_addr.specs.Layout.{Layout}
use Rattle.hl_bytes.proofs.Parts.{length-with_part}
use Rattle.hl_log.proofs.Readings.{only_read}
use Rattle.hl_recovery.proofs.ReadRuns.{whole_read}
use Rattle.hl_recovery.proofs.segment.read_segment.Goals as goal

pub returns-clause-bytes : goal.returns-clause-bytes
returns-clause-bytes g c =
    let blocks = ap (λ (l : Layout). 4096 * l.k) c.geometry.view_is in
    let size : length c.read.new.out ≡ length c.args.bytes.now = omega (arith, c.read.auto.out, c.part_mut-out.ensures.len, blocks, c.requires.size) in
    whole_read c.read.result (g.M.Machine.history c.args.machine.now) (c.args.geometry.now.k * c.args.seg) c.args.bytes.now c.read.new.out size
    (subst (λ (n : ℕ). OnOk c.read.result (ForSome (g.M.Machine.history c.args.machine.now) (λ h. HoldsAt (content h) (n * c.args.seg) c.read.new.out))) (ap (λ (l : Layout). l.k) c.geometry.view_is) c.read.ensures.bytes)

pub returns-clause-size : goal.returns-clause-size
returns-clause-size g c = length-with_part c.args.bytes.now c.read.new.out 0 (omega arith)

pub returns-clause-machine : goal.returns-clause-machine
returns-clause-machine g c = record {
  unchanged = only_read (g.M.Machine.history c.args.machine.now) (g.M.Machine.history c.read.new.self) c.read.result c.read.ensures.did;
  blocks_same = c.read.ensures.blocks;
  faults_most = c.read.ensures.faults.later;
  write_faults_same = c.read.ensures.write_faults;
  say_faults_same = c.read.ensures.say_faults;
}
