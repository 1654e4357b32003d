use Rattle.std.proofs.Common.{ap, ◌∙◌, arith}
use Rattle.hl_addr.specs.Layout.{Layout}
use Rattle.hl_tree.specs.PlainValue.{Plain}
use Rattle.hl_found.specs.Shelves.{at_hand}
use Rattle.hl_found.proofs.TreePut.{none_put, one_put, all_put}
use Rattle.hl_found.proofs.files.tree_of.Goals as goal

pub numbers-init : goal.numbers-init
numbers-init c = record {
  limits = ap (λ (t : Plain). t.limits.nodes) c.in_ok-tree.ensures;
  put = none_put (at_hand c.args.staged.now c.args.shelf.now) c.args.nodes.now c.args.reached.now c.in_ok-tree.tree.tree (ap (λ (t : Plain). t.tree) c.in_ok-tree.ensures);
}

pub numbers-preserved : goal.numbers-preserved
numbers-preserved c = record {
  limits = ap (λ l. l.nodes) c.in_ok-put_number.ensures.limits ∙ c.numbers.invariant.limits;
  put = one_put (at_hand c.args.staged.now c.args.shelf.now) c.args.nodes.now c.args.reached.now c.numbers.number c.numbers.tree.tree c.put_number.new.tree.tree c.numbers.invariant.put c.in_ok-put_number.ensures.put;
}

pub returns : goal.returns
returns c = λ numbered placed spelled places tree_is.
    let e = ap (λ (x : Layout). x.inodes) c.geometry.view_is in
    all_put (at_hand c.args.staged.now c.args.shelf.now) c.args.nodes.now c.args.reached.now numbered placed spelled places tree_is c.numbers.tree.tree c.numbers.number
    (λ i le. c.requires.past i (omega (arith, e, c.numbers-test.false, c.numbers.auto.number-end)))
    c.numbers.invariant.put
