use Rattle.std.proofs.Common.{◌≡◌, ℕ, ◌<◌, inl, List, length, sym, ap, ◌∙◌, arith}
use Rattle.std.specs.List.{slice_index_or}
use Rattle.std.specs.FinMap.{insert}
use Rattle.std.proofs.lemmas.List.{get_or_default}
use Rattle.hl_tree.specs.PlainValue.{Plain}
use Rattle.hl_found.specs.declared.reach.Reached.{Reached}
use Rattle.hl_found.specs.Reach.{at_path}
use Rattle.hl_found.proofs.NodeBlocks.{entry_is}
use Rattle.hl_found.proofs.files.put_number.Goals as goal

pub returns-in_ok-put-in-Some-nodes-clause-put : goal.returns-in_ok-put-in-Some-nodes-clause-put
returns-in_ok-put-in-Some-nodes-clause-put c =
    let path = c.in_ok-path-in-Some-nodes.path in
    let lt : c.args.number < length c.args.nodes.now = omega (arith, c.if-number-nodes.false) in
    let item : Reached = slice_index_or c.args.reached.now c.in-Some.i c.index-reached-i.result in
    let leads : path ≡ item.path = c.in_ok-path-in-Some-nodes.ensures in
    let own : item.number ≡ c.args.number = c.in-Some.ensures.1 c.index-reached-i.result in
    let entry : item ≡ at_path path c.args.number = ap (λ (p : List (List ℕ)). at_path p item.number) (sym leads) ∙ ap (at_path path) own in
    inl (
      path,
      c.in-Some-nodes.node,
      (c.in-Some.i, c.in-Some.ensures.0, get_or_default c.args.reached.now c.in-Some.i (at_path path c.args.number) c.index-reached-i.result c.in-Some.ensures.0 ∙ entry),
      entry_is c.args.nodes.now c.args.number c.index-nodes-number.result lt c.index-nodes-number.is ∙ c.in-Some-nodes.is,
      ap (λ (t : Plain). t.tree) c.in_ok-put-in-Some-nodes.ensures.ok ∙ ap (λ n. insert c.args.tree.now.tree path n) c.in_ok-node-in-Some-nodes.ensures,
    )
