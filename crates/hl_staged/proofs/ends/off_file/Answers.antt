use Rattle.std.proofs.Common.{◌≡◌, sym, ◌∙◌}
use Rattle.std.specs.Prelude.{Some, None}
use Rattle.hl_media.specs.History.{content}
use Rattle.hl_staged.proofs.EndsTold.{file_none, file_told}
use Rattle.hl_staged.proofs.ends.off_file.Goals as goal

pub returns-in-Some-clause-told : goal.returns-in-Some-clause-told
returns-in-Some-clause-told g c =
    file_told c.args.geometry.now c.args.slots.now c.args.found.now (g.M.Machine.history c.args.machine.now) c.in-Some.pointer ((c.last_pointer.ensures c.in-Some.pointer).0 c.in-Some.is)
    c.off_end.result c.off_end.ensures.told

pub returns-in-None-clause-told : goal.returns-in-None-clause-told
returns-in-None-clause-told g c = λ h e.
    file_none c.args.geometry.now c.args.slots.now c.args.found.now (content h)
    (λ pointer end. (let never : None ≡ Some pointer = sym c.in-None.is ∙ (c.last_pointer.ensures pointer).1 end in cc))
