use Rattle.std.proofs.Common.{ℕ, ◌∙◌, List, replicate, refl}
use Rattle.hl_log.proofs.Silence.{silent_then, write_silent}
use Rattle.hl_mkfs.specs.Answers.{machine_of}
use Rattle.hl_mkfs.proofs.Moments.{if_made, makes, zero_blocks}
use Rattle.hl_mkfs.proofs.making.mkfs.Goals as goal

pub returns-clause-made : goal.returns-clause-made
returns-clause-made g c =
    let Z : List ℕ = replicate 12288 0 in
    let zero = zero_blocks 12288 refl Z refl in
    let made = rw c.write_synced.ensures.blocks at c.build.ensures.made in
    let run = rw c.write_synced.ensures.blocks at c.build.ensures.crash in
    if_made (g.M.Machine.blocks c.args.machine) c.args.geometry.now (g.M.Machine.history c.args.machine) (g.M.Machine.history c.write_synced.new.machine) Z zero.0 zero.1 tt (c.in_default-write_synced.ensures {u = tt}).did
    g.M.Machine.history g.M.Machine.blocks c.build.result (c.build.ensures.blocks ∙ c.write_synced.ensures.blocks) run made

pub returns-clause-moments : goal.returns-clause-moments
returns-clause-moments g c =
    let Z : List ℕ = replicate 12288 0 in
    let zero = zero_blocks 12288 refl Z refl in
    let run = rw c.write_synced.ensures.blocks at c.build.ensures.crash in
    makes (g.M.Machine.blocks c.args.machine) c.args.geometry.now (g.M.Machine.history c.args.machine) (g.M.Machine.history c.write_synced.new.machine) Z zero.0 zero.1 tt (c.in_default-write_synced.ensures {u = tt}).did
    (g.M.Machine.history (machine_of c.build.result)) run

pub returns-clause-silent : goal.returns-clause-silent
returns-clause-silent g c =
    silent_then (g.M.Machine.history c.args.machine) (g.M.Machine.history c.write_synced.new.machine) (g.M.Machine.history (machine_of c.build.result))
    (write_silent (g.M.Machine.history c.args.machine) (g.M.Machine.history c.write_synced.new.machine) _ _ _ c.write_synced.ensures.did) c.build.ensures.silent
