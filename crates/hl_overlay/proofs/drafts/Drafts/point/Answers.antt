use Rattle.std.proofs.Common.{arith}
use Rattle.hl_overlay.proofs.TableLemmas.{blocks_most}
use Rattle.hl_overlay.proofs.DraftChanges.{IsReadAt, others_small, pointed, pointed_counted, read_is, recounted}
use Rattle.hl_overlay.proofs.drafts.Drafts.point.Goals as goal

pub point-requires : goal.point-requires
point-requires c =
    let read : IsReadAt _ c.args.self.now c.self.inside.others c.self.inside.freed c.args.ino c.index-place.result.now c.index_mut-draft.result.now c.requires.block.draft =
    record { view_is = c.self.view_is; counted = c.self.invariant; low = c.requires.number; is = c.requires.block.is; place_is = c.index-place.ensures; draft_is = c.index_mut-draft.ensures.value } in
    let most = blocks_most c.requires.block.draft (read_is _ _ _ _ _ _ _ _ read).1 in
    let within = c.requires.block.within in omega arith

pub overflow_add-self : goal.overflow_add-self
overflow_add-self c =
    let read : IsReadAt _ c.args.self.now c.self.inside.others c.self.inside.freed c.args.ino c.index-place.result.now c.index_mut-draft.result.now c.requires.block.draft =
    record { view_is = c.self.view_is; counted = c.self.invariant; low = c.requires.number; is = c.requires.block.is; place_is = c.index-place.ensures; draft_is = c.index_mut-draft.ensures.value } in
    let few = others_small _ _ _ _ _ _ _ _ read in
    let now = c.others.ensures.most in omega arith

pub overflow_sub-self : goal.overflow_sub-self
overflow_sub-self c =
    let read : IsReadAt _ c.args.self.now c.self.inside.others c.self.inside.freed c.args.ino c.index-place.result.now c.index_mut-draft.result.now c.requires.block.draft =
    record { view_is = c.self.view_is; counted = c.self.invariant; low = c.requires.number; is = c.requires.block.is; place_is = c.index-place.ensures; draft_is = c.index_mut-draft.ensures.value } in
    let e = recounted _ _ _ _ _ _ _ _ read c.point.new.self c.others-before.result c.others.result c.others-before.ensures.value c.others.ensures.value in omega arith

pub invariant_of-self : goal.invariant_of-self
invariant_of-self c =
    let read : IsReadAt _ c.args.self.now c.self.inside.others c.self.inside.freed c.args.ino c.index-place.result.now c.index_mut-draft.result.now c.requires.block.draft =
    record { view_is = c.self.view_is; counted = c.self.invariant; low = c.requires.number; is = c.requires.block.is; place_is = c.index-place.ensures; draft_is = c.index_mut-draft.ensures.value } in
    pointed_counted _ _ _ _ _ _ _ _ read c.args.i c.args.pointer c.point.new.self c.requires.block c.requires.addressed c.point.ensures c.others-before.result c.others.result c.others-before.ensures.value c.others.ensures.value

pub returns-clause-is : goal.returns-clause-is
returns-clause-is c =
    let read : IsReadAt _ c.args.self.now c.self.inside.others c.self.inside.freed c.args.ino c.index-place.result.now c.index_mut-draft.result.now c.requires.block.draft =
    record { view_is = c.self.view_is; counted = c.self.invariant; low = c.requires.number; is = c.requires.block.is; place_is = c.index-place.ensures; draft_is = c.index_mut-draft.ensures.value } in
    (pointed _ _ _ _ _ _ _ _ read c.args.i c.args.pointer c.point.new.self c.requires.block c.requires.addressed c.point.ensures).0

pub returns-clause-moved : goal.returns-clause-moved
returns-clause-moved c d is =
    let read : IsReadAt _ c.args.self.now c.self.inside.others c.self.inside.freed c.args.ino c.index-place.result.now c.index_mut-draft.result.now d =
    record { view_is = c.self.view_is; counted = c.self.invariant; low = c.requires.number; is = is; place_is = c.index-place.ensures; draft_is = c.index_mut-draft.ensures.value } in
    (pointed _ _ _ _ _ _ _ _ read c.args.i c.args.pointer c.point.new.self c.requires.block c.requires.addressed c.point.ensures).1
