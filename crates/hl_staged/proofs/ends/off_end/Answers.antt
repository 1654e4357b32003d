use Rattle.std.proofs.Common.{◌≡◌, sym, ◌∙◌}
use Rattle.std.specs.Prelude.{Some, None}
use Rattle.hl_staged.proofs.EndsOff.{end_told}
use Rattle.hl_staged.proofs.ends.off_end.Goals as goal

pub returns-in-Some-clause-told : goal.returns-in-Some-clause-told
returns-in-Some-clause-told g c =
    end_told c.args.geometry.now c.args.slots.now (g.M.Machine.history c.args.machine.now) c.args.size c.args.pointer c.in-Some.at
    ((c.place_on_disk.ensures.place c.in-Some.at).0 c.in-Some.is)
    (λ block lies. (let same : Some c.in-Some.at ≡ Some block = sym c.in-Some.is ∙ (c.place_on_disk.ensures.place block).1 lies in cc))
    c.nonzero_block.result c.nonzero_block.ensures.told

pub returns-in-None-clause-told : goal.returns-in-None-clause-told
returns-in-None-clause-told g c = λ h e block (lies, off). (let never : None ≡ Some block = sym c.in-None.is ∙ (c.place_on_disk.ensures.place block).1 lies in cc)
