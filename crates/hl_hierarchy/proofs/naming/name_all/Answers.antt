use Rattle.std.proofs.Common.{◌≡◌, ℕ, length, refl, ◌∙◌, ap, subst, arith}
use Rattle.std.proofs.lemmas.Result.{err_from_is_err_and}
use Rattle.hl_media.specs.History.{Image, MachineState, content}
use Rattle.hl_addr.specs.Layout.{Layout}
use Rattle.hl_tables.specs.Values.{TableValues}
use Rattle.hl_nodes.specs.declared.rule.Rule.{Rule}
use Rattle.hl_survey.specs.Surveys.{AreSurveyed}
use Rattle.hl_survey.proofs.Stopping.{stops_then, stops_where}
use Rattle.hl_survey.proofs.Unchanged.{held_before, reads_none, reads_then}
use Rattle.hl_hierarchy.specs.Hierarchies.{AreNamedBelow, BreaksNaming, BreaksSurveyed, GoesOn}
use Rattle.hl_hierarchy.proofs.NamedNumbers.{named_first}
use Rattle.hl_hierarchy.proofs.naming.name_all.Goals as goal

pub numbers-init : goal.numbers-init
numbers-init g c = record {
  machine = reads_none c.args.machine.now;
  faults = refl;
  below = c.requires.free;
  named = λ h e t are. named_first c.args.found.now c.args.geometry.now (content h) t are c.args.parents.now c.requires.free;
}

pub numbers-preserved : goal.numbers-preserved
numbers-preserved g c = record {
  machine = reads_then c.numbers.invariant.machine c.name_number.ensures.machine;
  faults = c.in_ok-name_number.ensures.fault ∙ c.numbers.invariant.faults;
  below = c.in_ok-name_number.ensures.below c.numbers.invariant.below;
  named = λ h e t are. held_before (g.M.Machine.history c.args.machine.now) (g.M.Machine.history c.numbers.machine) (λ (s : MachineState). GoesOn c.args.geometry.now s.content c.args.found.now c.numbers.parents c.name_number.new.parents c.numbers.ino)
      c.numbers.invariant.machine.unchanged c.in_ok-name_number.ensures.names h e t are (c.numbers.invariant.named h e t are);
}

pub returns-in_err-name_number-clause-machine : goal.returns-in_err-name_number-clause-machine
returns-in_err-name_number-clause-machine g c = reads_then c.numbers.invariant.machine c.name_number.ensures.machine

pub returns-in_err-name_number-clause-stops : goal.returns-in_err-name_number-clause-stops
returns-in_err-name_number-clause-stops g c =
    let p = err_from_is_err_and c.from_residual.result c.from_residual.ensures.1 in
    let site = c.args.geometry.now in
    let found = c.args.found.now in
    let parents = c.numbers.parents in
    let ino = c.numbers.ino in
    let Told = λ (image : Image) (rule : Rule) (block : ℕ). BreaksNaming site found parents ino image rule block in
    let More = λ (image : Image) (rule : Rule) (block : ℕ). BreaksSurveyed site found image rule block in
    rw (p.1, p.2)
    (stops_where Told More (λ (image : Image). (t : TableValues) → AreSurveyed site image t found → AreNamedBelow site image found parents ino) (g.M.Machine.history c.args.machine.now) c.numbers.invariant.named (λ image named rule block told t are. told c.numbers.invariant.below (named t are) t are) c.in_err-name_number.field-0.0
    (stops_then Told (g.M.Machine.history c.args.machine.now) (g.M.Machine.history c.numbers.machine) c.numbers.invariant.machine.unchanged c.in_err-name_number.field-0.0 c.in_err-name_number.ensures.stops))

pub returns-clause-names : goal.returns-clause-names
returns-clause-names g c h e t are =
    let site = c.args.geometry.now in
    let found = c.args.found.now in
    let inodes = ap (λ (x : Layout). x.inodes) c.geometry.view_is in
    let end : c.numbers.ino ≡ length found = omega (arith, inodes, c.numbers-test.false, c.numbers.auto.ino-end, c.geometry.invariant.inode_count.0, c.requires.size) in
    subst (λ (n : ℕ). AreNamedBelow site (content h) found c.numbers.parents n) end (c.numbers.invariant.named h e t are)
