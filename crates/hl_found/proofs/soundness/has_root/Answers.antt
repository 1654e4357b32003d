use Rattle.std.proofs.Common.{◌≡◌, ◌<◌, length, sym, ap, ◌∙◌, arith}
use Rattle.std.specs.Prelude.{Some}
use Rattle.std.specs.FinMap.{get}
use Rattle.hl_inode.specs.declared.inode.Kind.TheVariants.{Dir}
use Rattle.hl_paths.specs.Nodes.{FlatNode}
use Rattle.hl_paths.proofs.Links.{none_some}
use Rattle.hl_nodes.specs.Found.{node_found, nodes_found}
use Rattle.hl_found.proofs.NodeBlocks.{some_node, no_node, past_node}
use Rattle.hl_found.proofs.soundness.has_root.Goals as goal

pub returns-then-nodes-lt2 : goal.returns-then-nodes-lt2
returns-then-nodes-lt2 c = (λ e. absurd (cc), λ root. absurd (none_some (sym (past_node c.args.nodes.now 1 (omega (arith, c.if-nodes-lt2.true))) ∙ root.is)))

pub returns-in-Some : goal.returns-in-Some
returns-in-Some c =
    let lt : 1 < length c.args.nodes.now = omega (arith, c.if-nodes-lt2.false) in (
      λ yes. record { root = node_found c.in-Some.node; is = some_node c.args.nodes.now 1 c.index-nodes-1.result lt c.index-nodes-1.is c.in-Some.node c.in-Some.is; dir = c.is_directory.ensures.0 yes },
      λ root. c.is_directory.ensures.1 (at lt root.root root.is root.dir),
    )
  where
    at : 1 < length c.args.nodes.now → (x : FlatNode) → get (nodes_found c.args.nodes.now) 1 ≡ Some x → x.kind ≡ Dir → (node_found c.in-Some.node).kind ≡ Dir
    at lt x is dir =
        let both : Some (node_found c.in-Some.node) ≡ Some x = sym (some_node c.args.nodes.now 1 c.index-nodes-1.result lt c.index-nodes-1.is c.in-Some.node c.in-Some.is) ∙ is in
        let same : node_found c.in-Some.node ≡ x = cc in
        ap (λ (n : FlatNode). n.kind) same ∙ dir

pub returns-in-None : goal.returns-in-None
returns-in-None c = (λ e. absurd (cc), λ root. absurd (no_node c.args.nodes.now 1 c.index-nodes-1.result (omega (arith, c.if-nodes-lt2.false)) c.index-nodes-1.is (λ x. ⊥) c.in-None.is root.root root.is))
