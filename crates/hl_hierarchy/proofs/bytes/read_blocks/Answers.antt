use Rattle.std.proofs.Common.{◌≡◌, ℕ, ◌++◌, length, refl, ◌∙◌, ap, arith, length-append}
use Rattle.std.specs.Prelude.{slice_index}
use Rattle.std.proofs.lemmas.Result.{err_from_is_err_and}
use Rattle.hl_media.specs.History.{Image, MachineState, content}
use Rattle.hl_nodes.specs.declared.rule.Rule.{Rule}
use Rattle.hl_survey.proofs.Stopping.{stops_then}
use Rattle.hl_survey.proofs.Unchanged.{held_before, reads_none, reads_then}
use Rattle.hl_hierarchy.proofs.BlockBytes.{blocks_more}
use Rattle.hl_hierarchy.proofs.bytes.read_blocks.Goals as goal

pub pointers-init : goal.pointers-init
pointers-init g c = record {
  machine = reads_none c.args.machine.now;
  faults = refl;
  size = ap length c.new-bytes.ensures.items;
  blocks = λ h e j lt. absurd (omega arith);
}

pub append_block-requires : goal.append_block-requires
append_block-requires g c =
    let low = c.requires.pointers.within c.pointers.i c.pointers-test.true in
    let same = c.pointers.invariant.machine.blocks_same in
    omega (arith, c.requires.room)

pub pointers-preserved : goal.pointers-preserved
pointers-preserved g c = record {
  machine = reads_then c.pointers.invariant.machine c.append_block.ensures.machine;
  faults = c.in_ok-append_block.ensures.fault ∙ c.pointers.invariant.faults;
  size = omega (arith, c.in_ok-append_block.ensures.size, c.pointers.invariant.size);
  blocks = λ h e.
      let bytes = c.pointers.bytes.items in
      let new = c.append_block.new.bytes.items in
      let at = slice_index c.args.pointers.now c.pointers.i in
      let is : new ≡ bytes ++ content h at = held_before (g.M.Machine.history c.args.machine.now) (g.M.Machine.history c.pointers.machine) (λ (s : MachineState). new ≡ bytes ++ s.content at)
      c.pointers.invariant.machine.unchanged c.in_ok-append_block.ensures.bytes h e in
      let both = length-append bytes (content h at) in
      let long = ap length is in
      let whole : length (content h at) ≡ 4096 = omega (arith, c.in_ok-append_block.ensures.size) in
      blocks_more bytes (content h at) c.pointers.i c.pointers.invariant.size (content h) c.args.pointers.now whole new is (c.pointers.invariant.blocks h e) refl;
}

pub returns-in_err-append_block-clause-machine : goal.returns-in_err-append_block-clause-machine
returns-in_err-append_block-clause-machine g c = reads_then c.pointers.invariant.machine c.append_block.ensures.machine

pub returns-in_err-append_block-clause-stops : goal.returns-in_err-append_block-clause-stops
returns-in_err-append_block-clause-stops g c =
    let p = err_from_is_err_and c.from_residual.result c.from_residual.ensures.1 in
    let Told = λ (image : Image) (rule : Rule) (block : ℕ). ⊥ in
    rw (p.1, p.2)
    (stops_then Told (g.M.Machine.history c.args.machine.now) (g.M.Machine.history c.pointers.machine) c.pointers.invariant.machine.unchanged c.in_err-append_block.field-0.0 c.in_err-append_block.ensures.stops)

pub returns-clause-blocks : goal.returns-clause-blocks
returns-clause-blocks g c h e =
    let end : c.pointers.i ≡ length c.args.pointers.now = omega (arith, c.pointers-test.false) in record {
      size = omega (arith, c.pointers.invariant.size);
      blocks = λ i lt. c.pointers.invariant.blocks h e i (omega arith);
    }

pub returns-clause-stops : goal.returns-clause-stops
returns-clause-stops g c = tt
