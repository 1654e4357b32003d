use Rattle.std.proofs.Common.{◌≡◌, ℕ, subst}
use Rattle.std.specs.Prelude.{slice_index}
use Rattle.std.proofs.lemmas.Option.{get_or_from_slice_get}
use Rattle.std.proofs.lemmas.Result.{err_from_is_err_and}
use Rattle.hl_media.specs.History.{Image, MachineState, content}
use Rattle.hl_super.specs.declared.record.Record.{Record}
use Rattle.hl_image.specs.Places.{InLog}
use Rattle.hl_nodes.specs.declared.rule.Rule.{Rule}
use Rattle.hl_survey.specs.Pointing.{HasPointers}
use Rattle.hl_survey.specs.Stops.{BreaksPointers, IsBroken}
use Rattle.hl_survey.specs.Surveys.{IsInodeOf}
use Rattle.hl_survey.proofs.FoundInodes.{found_inode, stands_there}
use Rattle.hl_survey.proofs.Stopping.{stops_then, stops_where}
use Rattle.hl_survey.proofs.Unchanged.{held_before, reads_then}
use Rattle.hl_survey.proofs.scan.survey_inode.Goals as goal

pub returns-in_err-pointers-clause-machine : goal.returns-in_err-pointers-clause-machine
returns-in_err-pointers-clause-machine g c = reads_then c.in_ok-inode.ensures.machine c.in_err-pointers.ensures.machine

pub returns-clause-machine : goal.returns-clause-machine
returns-clause-machine g c = reads_then c.in_ok-inode.ensures.machine c.in_ok-pointers.ensures.machine

pub returns-in_err-pointers-clause-stops : goal.returns-in_err-pointers-clause-stops
returns-in_err-pointers-clause-stops g c =
    let p = err_from_is_err_and c.from_residual-in_err-pointers.result c.from_residual-in_err-pointers.ensures.1 in
    let site = c.args.geometry.now in
    let t = c.args.tables.now in
    let ino = c.args.ino in
    let own = c.inode-address.result in
    let v = c.in_ok-inode.inode in
    let entry : slice_index t.inodes ino ≡ own = get_or_from_slice_get t.inodes ino own 0 c.inode-address.ensures.value in
    let in_log : InLog site own = subst (InLog site) entry c.requires.entry in
    let Told = λ (image : Image) (rule : Rule) (block : ℕ). BreaksPointers site t own v image rule block in
    let More = λ (image : Image) (rule : Rule) (block : ℕ). (rec : Record) → IsBroken site rec t image rule block in
    rw (p.1, p.2)
    (stops_where Told More (λ (image : Image). IsInodeOf ino (image own) v) (g.M.Machine.history c.args.machine.now) c.in_ok-inode.ensures.inode
    (λ image is rule block told rec. told rec ino (stands_there site image t ino own v c.requires.low c.requires.high entry in_log is)) c.in_err-pointers.field-0.0
    (stops_then Told (g.M.Machine.history c.args.machine.now) (g.M.Machine.history c.read_inode.new.machine) c.in_ok-inode.ensures.machine.unchanged c.in_err-pointers.field-0.0 c.in_err-pointers.ensures.stops))

pub returns-clause-found : goal.returns-clause-found
returns-clause-found g c h e =
    let site = c.args.geometry.now in
    let t = c.args.tables.now in
    let ino = c.args.ino in
    let own = c.inode-address.result in
    let v = c.in_ok-inode.inode in
    let entry : slice_index t.inodes ino ≡ own = get_or_from_slice_get t.inodes ino own 0 c.inode-address.ensures.value in
    let in_log : InLog site own = subst (InLog site) entry c.requires.entry in
    let pointers = c.in_ok-pointers.pointers in
    found_inode site (content h) t ino own v c.requires.low c.requires.high entry in_log (c.in_ok-inode.ensures.inode h e) pointers
    (held_before (g.M.Machine.history c.args.machine.now) (g.M.Machine.history c.read_inode.new.machine) (λ (s : MachineState). HasPointers site t.slots s.content v pointers.items)
    c.in_ok-inode.ensures.machine.unchanged c.in_ok-pointers.ensures.pointers h e)
