use Rattle.std.proofs.Common.{◌<◌, Bool, [], length, subst, arith}
use Rattle.std.specs.List.{slice_index_or}
use Rattle.hl_found.specs.Reach.{at_path, Goes, HasChildren}
use Rattle.hl_found.proofs.ReachFound.{closed_more}
use Rattle.hl_found.proofs.reach.reach_all.Goals as goal

pub returns-then-not-branch : goal.returns-then-not-branch
returns-then-not-branch c = λ numbered are entries reached root.
    let closed = c.places.invariant numbered are entries reached root in
    subst (λ (b : Bool). Goes numbered c.places.reached.items c.reach_children.new.reached.items (HasChildren numbered (slice_index_or c.places.reached.items c.places.at (at_path [] 1)) c.reach_children.new.reached.items) b) c.if-not-branch.true
    (c.in_ok-reach_children.ensures numbered are entries closed.reached (at_path [] 1))

pub places-preserved : goal.places-preserved
places-preserved c = λ numbered are entries reached root.
    let closed = c.places.invariant numbered are entries reached root in
    let lt : c.places.at < length c.places.reached.items = omega (arith, c.len.ensures, c.if-at-len.false) in
    closed_more numbered c.places.reached.items c.reach_children.new.reached.items c.places.at lt closed
    (λ d. subst (λ (b : Bool). Goes numbered c.places.reached.items c.reach_children.new.reached.items (HasChildren numbered (slice_index_or c.places.reached.items c.places.at d) c.reach_children.new.reached.items) b) c.if-not-branch.false
    (c.in_ok-reach_children.ensures numbered are entries closed.reached d))
