use Rattle.std.proofs.Common.{◌≡◌, ◌∙◌, length}
use Rattle.hl_log.proofs.Readings.{only_read, read_tells}
use Rattle.hl_recovery.proofs.reading.read_block.Goals as goal

pub returns-clause-bytes : goal.returns-clause-bytes
returns-clause-bytes g c =
    let size : length c.read.new.out ≡ 4096 = c.read.auto.out ∙ c.requires.size in
    read_tells c.read.result (g.M.Machine.history c.args.machine.now) c.args.at c.read.new.out size c.read.ensures.bytes

pub returns-clause-machine : goal.returns-clause-machine
returns-clause-machine g c = record {
  unchanged = only_read (g.M.Machine.history c.args.machine.now) (g.M.Machine.history c.read.new.self) c.read.result c.read.ensures.did;
  blocks_same = c.read.ensures.blocks;
  faults_most = c.read.ensures.faults.later;
  write_faults_same = c.read.ensures.write_faults;
  say_faults_same = c.read.ensures.say_faults;
}
