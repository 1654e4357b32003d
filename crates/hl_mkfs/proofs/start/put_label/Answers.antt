use Rattle.std.proofs.Common.{◌≡◌, ◌+◌, ◌*◌, ◌≤◌, length, sym, subst, arith}
use Rattle.hl_super.specs.declared.label.Label.{Label}
use Rattle.hl_super.specs.Labels.{Spells}
use Rattle.hl_mkfs.proofs.Labelling.{label_ends, label_runs}
use Rattle.hl_mkfs.proofs.start.put_label.Goals as goal

pub returns-clause-made : goal.returns-clause-made
returns-clause-made g c =
    let site = c.args.geometry.now in
    let blocks = g.M.Machine.blocks c.args.machine.now in
    let size : length c.encode_label.new.out ≡ 4096 = omega arith in
    let room : (1 + c.label_of.result.log + c.label_of.result.lines) * c.label_of.result.k ≤ blocks = subst (λ (l : Label). (1 + l.log + l.lines) * l.k ≤ blocks) (sym c.label_of.ensures.value) c.requires in
    let spelled = subst (Spells blocks c.encode_label.new.out) c.label_of.ensures.value (c.encode_label.ensures.spelled blocks room) in
    label_ends site blocks c.encode_label.new.out size spelled (g.M.Machine.history c.args.machine.now) (g.M.Machine.history c.write_synced.new.machine) c.write_synced.result c.write_synced.ensures.did

pub returns-clause-crash : goal.returns-clause-crash
returns-clause-crash g c =
    let site = c.args.geometry.now in
    let blocks = g.M.Machine.blocks c.args.machine.now in
    let size : length c.encode_label.new.out ≡ 4096 = omega arith in
    let room : (1 + c.label_of.result.log + c.label_of.result.lines) * c.label_of.result.k ≤ blocks = subst (λ (l : Label). (1 + l.log + l.lines) * l.k ≤ blocks) (sym c.label_of.ensures.value) c.requires in
    let spelled = subst (Spells blocks c.encode_label.new.out) c.label_of.ensures.value (c.encode_label.ensures.spelled blocks room) in
    label_runs site blocks c.encode_label.new.out size spelled (g.M.Machine.history c.args.machine.now) (g.M.Machine.history c.write_synced.new.machine) c.write_synced.result c.write_synced.ensures.did
