use Rattle.std.proofs.Common.{◌≡◌, ℕ, ◌∙◌, ap, arith}
use Rattle.std.specs.Prelude.{Option, None}
use Rattle.std.proofs.lemmas.Result.{err_from_is_err_and}
use Rattle.hl_media.specs.History.{Image, MachineState, content}
use Rattle.hl_addr.specs.Layout.{Layout}
use Rattle.hl_nodes.specs.declared.rule.Rule.{Rule}
use Rattle.hl_survey.specs.declared.found.FoundInode.{FoundInode}
use Rattle.hl_survey.specs.Stops.{IsBroken}
use Rattle.hl_survey.specs.Surveys.{IsFound}
use Rattle.hl_survey.proofs.FoundInodes.{all_surveyed}
use Rattle.hl_survey.proofs.Pushing.{each_pushed, length_pushed}
use Rattle.hl_survey.proofs.Stopping.{stops_then}
use Rattle.hl_survey.proofs.Unchanged.{held_before, reads_then}
use Rattle.hl_survey.proofs.scan.survey.Goals as goal

pub returns-in_err-survey_number-clause-stops : goal.returns-in_err-survey_number-clause-stops
returns-in_err-survey_number-clause-stops g c =
    let p = err_from_is_err_and c.from_residual.result c.from_residual.ensures.1 in
    let Told = λ (image : Image) (rule : Rule) (block : ℕ). IsBroken c.args.geometry.now c.args.rec.now c.args.tables.now image rule block in
    rw (p.1, p.2)
    (stops_then Told (g.M.Machine.history c.args.machine.now) (g.M.Machine.history c.numbers.machine) c.numbers.invariant.machine.unchanged c.in_err-survey_number.field-0.0 c.in_err-survey_number.ensures.stops)

pub returns-in_err-survey_number-clause-machine : goal.returns-in_err-survey_number-clause-machine
returns-in_err-survey_number-clause-machine g c = reads_then c.numbers.invariant.machine c.survey_number.ensures.machine

pub returns-in_err-push-clause-machine : goal.returns-in_err-push-clause-machine
returns-in_err-push-clause-machine g c = reads_then c.numbers.invariant.machine c.survey_number.ensures.machine

pub numbers-preserved : goal.numbers-preserved
numbers-preserved g c =
    let items = c.numbers.found.items in
    let one = c.in_ok-survey_number.field-0 in
    let is = c.in_ok-push.ensures.items in
    let site = c.args.geometry.now in
    let t = c.args.tables.now in
    record {
      machine = reads_then c.numbers.invariant.machine c.survey_number.ensures.machine;
      faults = c.in_ok-survey_number.ensures.fault ∙ c.numbers.invariant.faults;
      count = length_pushed items c.push.new.self.items one c.numbers.ino c.numbers.invariant.count is;
      each = λ h e. each_pushed (λ (k : ℕ) (o : Option FoundInode). IsFound site (content h) t k o) None items c.push.new.self.items one c.numbers.ino c.numbers.invariant.count is (c.numbers.invariant.each h e)
          (held_before (g.M.Machine.history c.args.machine.now) (g.M.Machine.history c.numbers.machine) (λ (s : MachineState). IsFound site s.content t c.numbers.ino one)
          c.numbers.invariant.machine.unchanged c.in_ok-survey_number.ensures.found h e);
    }

pub returns-clause-surveyed : goal.returns-clause-surveyed
returns-clause-surveyed g c h e =
    let site = c.args.geometry.now in
    let inodes = ap (λ (x : Layout). x.inodes) c.geometry.view_is in
    let is : c.numbers.ino ≡ site.inodes = omega (arith, inodes, c.numbers-test.false, c.numbers.auto.ino-end) in
    all_surveyed site (content h) c.args.tables.now c.numbers.found.items (omega (arith, inodes, c.geometry.invariant.inode_count.0)) (λ k lt. c.numbers.invariant.each h e k (omega (arith, is))) (c.numbers.invariant.count ∙ is)

pub returns-clause-count : goal.returns-clause-count
returns-clause-count g c =
    let inodes = ap (λ (x : Layout). x.inodes) c.geometry.view_is in
    omega (arith, inodes, c.numbers-test.false, c.numbers.auto.ino-end, c.numbers.invariant.count)
