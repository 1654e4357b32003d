use Rattle.std.proofs.Common.{arith, ◌≡◌, ◌∙◌, Ok, ap, subst}
use Rattle.std.specs.FinMap.{insert}
use Rattle.hl_tree.specs.declared.node.Node.TheVariants.{File}
use Rattle.hl_tree.specs.Contents.{written}
use Rattle.hl_tree.specs.Tree.{content_at}
use Rattle.hl_tree.specs.Rules.{write}
use Rattle.hl_tree.proofs.Lookups.{changed_at-file}
use Rattle.hl_tree.proofs.plain.write.Goals as goal

pub returns-in-Ok : goal.returns-in-Ok
unfolding write
returns-in-Ok c =
    let t = c.args.nodes.now in
    let names = c.names-names.result.now in
    let old = c.in_default.field-0.now in
    let there : content_at t names ≡ Ok old = c.in_default.ensures in
    let here : content_at t c.args.path.now ≡ Ok old = subst (λ p. content_at t p ≡ Ok old) c.names-names.ensures.is there in
    let changed : c.write.new.self ≡ insert t c.args.path.now (File (written old c.args.at c.args.bytes.now)) =
    c.in-Ok.ensures.ok ∙ changed_at-file t names old (λ old. written old c.args.at c.args.bytes.now) there ∙ ap (λ p. insert t p (File (written old c.args.at c.args.bytes.now))) c.names-names.ensures.is in
    grind arith
