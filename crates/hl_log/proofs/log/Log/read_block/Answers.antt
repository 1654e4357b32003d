use Rattle.std.proofs.Common.{◌≡◌, ◌<◌, ◌≤◌, ◌/◌, sym, ◌∙◌, ap, subst, length, arith}
use Rattle.hl_addr.specs.Layout.{Layout}
use Rattle.hl_log.specs.Logs.{LogValue, site_blocks}
use Rattle.hl_log.proofs.Readings.{only_read, read_tells}
use Rattle.hl_log.proofs.log.Log.read_block.Goals as goal

pub read-requires-clause-within : goal.read-requires-clause-within
read-requires-clause-within g c =
    let one : length c.args.out.now / 4096 ≡ 1 = omega (arith, c.requires.size) in
    let geometry : c.self.inside.geometry ≡ c.args.self.now.geometry = ap (λ (v : LogValue g.row.M.Denot). v.geometry) c.self.view_is in
    let within : c.args.at < site_blocks c.self.inside.geometry = subst (λ (x : Layout). c.args.at < site_blocks x) (sym geometry) c.requires.within in
    let room : site_blocks c.self.inside.geometry ≤ g.M.Machine.blocks c.self.inside.machine = c.self.invariant.room in
    omega (arith, one, within, room)

pub returns-clause-bytes : goal.returns-clause-bytes
returns-clause-bytes g c =
    let size : length c.read.new.out ≡ 4096 = c.read.auto.out ∙ c.requires.size in
    rw (← c.self.view_is) (read_tells c.read.result (g.M.Machine.history c.self.inside.machine) c.args.at c.read.new.out size c.read.ensures.bytes)

pub returns-clause-machine : goal.returns-clause-machine
returns-clause-machine g c = rw (← c.self.view_is) (record {
  unchanged = only_read (g.M.Machine.history c.self.inside.machine) (g.M.Machine.history c.read.new.self) c.read.result c.read.ensures.did;
  blocks_same = c.read.ensures.blocks;
  faults_most = c.read.ensures.faults.later;
  write_faults_same = c.read.ensures.write_faults;
  say_faults_same = c.read.ensures.say_faults;
})
