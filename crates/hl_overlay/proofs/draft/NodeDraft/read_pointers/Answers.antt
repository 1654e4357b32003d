use Rattle.std.proofs.Common.{inl, ◌-◌, ◌<◌, refl, sym, ◌∙◌, ap, arith}
use Rattle.std.proofs.lemmas.Option.{get_or_from_slice_get}
use Rattle.hl_inode.specs.Pointers.{pointers_of}
use Rattle.hl_overlay.specs.Pointing.{pointer_to}
use Rattle.hl_overlay.specs.Drafting.{blocks_of_shape}
use Rattle.hl_overlay.proofs.DraftLemmas.{filled_none, filled_one, filled_is, filled_to_end}
use Rattle.hl_overlay.proofs.draft.NodeDraft.read_pointers.Goals as goal

pub far-init : goal.far-init
far-init c = filled_none _ _

pub far-preserved : goal.far-preserved
far-preserved c =
    let low : c.far.i < 1036 = (let m = c.blocks-end.ensures.most in omega arith) in
    let size : c.far.i < blocks_of_shape c.args.self.now.shape = (let e = c.blocks-end.ensures.value in omega arith) in
    filled_one c.far.i c.args.block.now c.args.self.now c.far.self _ c.to.result c.far.invariant c.set.ensures.count c.far.auto.i low size
    (c.to.ensures ∙ ap pointer_to (sym (get_or_from_slice_get (pointers_of c.args.block.now) (c.far.i - 12) c.pointer.result 0 c.pointer.ensures)))
    (rw c.set.ensures.value refl)

pub returns-clause-filled : goal.returns-clause-filled
returns-clause-filled c = filled_to_end c.far.i c.args.block.now c.args.self.now c.far.self c.far.invariant (let e = c.blocks-end.ensures.value in omega arith)

pub returns-clause-rest : goal.returns-clause-rest
returns-clause-rest c = c.far.invariant.rest

pub returns-clause-direct : goal.returns-clause-direct
returns-clause-direct c i low = c.far.invariant.others i (inl low)

pub returns-clause-is : goal.returns-clause-is
returns-clause-is c = filled_is c.far.i c.args.block.now c.args.self.now c.far.self c.requires.is c.requires.unchanged c.far.invariant
